use Rattle.std.proofs.Common.{◌∙◌, ◌<◌, ◌≡◌, List, ap, arith, length, subst, sym}
use Rattle.std.specs.List.{All}
use Rattle.std.proofs.lemmas.List.{length-map}
use Rattle.rayon.proofs.ListFacts.{IfOk-then}
use Rattle.row_frames.specs.Frames.{all_picked, picked}
use Rattle.row_frames.specs.declared.tables.Pick.{Pick}
use Rattle.row_frames.specs.declared.tables.Table.{Table}
use Rattle.row_frames.proofs.frames.Frame.into_rows.Goals as goal

pub picked_rows-requires-clause-within : goal.picked_rows-requires-clause-within
picked_rows-requires-clause-within g c =
    subst (λ (ts : List Table). All (λ (x : Pick). x.table < length ts) c.as_slice-2.result.now) (sym c.as_slice.ensures.value)
    (subst (All (λ (x : Pick). x.table < length c.self.inside.tables.items)) (sym (c.as_slice-2.ensures.value ∙ c.in_ok-list.ensures)) c.self.invariant.1)

pub returns-clause-rows : goal.returns-clause-rows
returns-clause-rows g c =
    IfOk-then c.picked_rows.result _ _ c.picked_rows.ensures.rows (λ made h. h ∙ (λ i. all_picked (c.as_slice.ensures.value i) ((c.as_slice-2.ensures.value ∙ c.in_ok-list.ensures) i)) ∙ c.self.view_is)

pub returns-clause-steps : goal.returns-clause-steps
returns-clause-steps g c =
    let same : length c.as_slice-2.result.now ≡ length c.args.self = ap length (c.as_slice-2.ensures.value ∙ c.in_ok-list.ensures) ∙ sym (length-map c.self.inside.picks (picked c.self.inside.tables.items)) ∙ ap length c.self.view_is in
    omega (arith, same)
