use Rattle.std.proofs.Common.{map, subst}
use Rattle.std.specs.Prelude.{IfOk, IsTrue, nat_lt}
use Rattle.std.specs.List.{list_all}
use Rattle.std.proofs.lemmas.List.{length-map}
use Rattle.edm_values.specs.Values.{seen_value}
use Rattle.apply_ast.specs.Views.{top_of}
use Rattle.apply_meaning.specs.Meaning.{reaches}
use Rattle.step_run.proofs.SelectedPlaces.{selected-within}
use Rattle.step_run.proofs.selections.selected_places.Goals as goal

pub returns-clause-within : goal.returns-clause-within
returns-clause-within g c =
    let t = top_of c.args.top.now in
    let vs = map seen_value c.args.values.now in
    subst (λ n. IfOk c.taken_places.result (λ places. IsTrue (list_all (λ k. nat_lt k n) places.items))) (length-map c.args.values.now seen_value)
    (selected-within (reaches t.limit vs) t.bottom vs c.taken_places.result c.taken_places.ensures)
