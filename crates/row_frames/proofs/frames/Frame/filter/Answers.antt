use Rattle.std.proofs.Common.{◌∙◌, ◌<◌, List, Some, ap, length, subst, sym, true}
use Rattle.std.specs.Prelude.{filter}
use Rattle.std.specs.List.{All}
use Rattle.edm_values.specs.Values.{is_value}
use Rattle.apply_ast.specs.Views.{expr_of}
use Rattle.apply_meaning.specs.Instances.{Instance, val}
use Rattle.apply_meaning.specs.Meaning.{refused_at_beyond, values}
use Rattle.row_frames.specs.declared.tables.Pick.{Pick}
use Rattle.row_frames.specs.declared.tables.Table.{Table}
use Rattle.row_frames.specs.Frames.{all_picked}
use Rattle.row_frames.proofs.frames.Frame.filter.Goals as goal

pub invariant_of-result : goal.invariant_of-result
invariant_of-result g c = (
  c.self.invariant.0,
  subst (λ (ts : List Table). All (λ (x : Pick). x.table < length ts) c.of_list-picks.result) c.as_slice-own.ensures.value
      (subst (All (λ (x : Pick). x.table < length c.as_slice-own.result.now)) (sym c.of_list-picks.ensures) c.in_ok-kept.ensures.within),
)

pub returns : goal.returns
returns g c =
    let w = c.args.store.now in
    let e = expr_of c.args.e.now in
    let m = λ (l : List Instance). refused_at_beyond (values w e l) (filter (λ i. is_value true (val w i e)) l) in
    let same = ap (λ (ts : List Table). all_picked ts c.self.inside.picks) c.as_slice-own.ensures.value ∙ c.self.view_is in
    record { value = ap m (sym same) ∙ c.in_ok-kept.ensures.kept ∙ ap Some (λ i. all_picked (c.as_slice-own.ensures.value i) (sym c.of_list-picks.ensures i)) }
