use Rattle.std.proofs.Common.{◌∙◌, ◌<◌, List, ap, length, subst, sym}
use Rattle.std.specs.List.{All}
use Rattle.row_frames.specs.Frames.{all_picked}
use Rattle.row_frames.specs.Gathered.{AreInOrder}
use Rattle.row_frames.specs.declared.tables.Pick.{Pick}
use Rattle.row_frames.specs.declared.tables.Table.{Table}
use Rattle.row_frames.proofs.computed.rows_in_order.Goals as goal

pub gathered_in_order-requires-clause-within : goal.gathered_in_order-requires-clause-within
gathered_in_order-requires-clause-within c =
    subst (λ (ts : List Table). All (λ (x : Pick). x.table < length ts) c.as_slice-2.result.now) (sym c.as_slice.ensures.value)
    (subst (All (λ (x : Pick). x.table < length c.args.tables.items)) (sym (c.as_slice-2.ensures.value ∙ c.in_ok-list.ensures)) c.requires.within)

pub returns-clause-within : goal.returns-clause-within
returns-clause-within c = subst (All (λ (x : Pick). x.table < length c.in_ok-made.made.items)) (sym c.of_list.ensures) c.in_ok-made.ensures.within

pub returns-clause-order : goal.returns-clause-order
returns-clause-order c = subst AreInOrder (sym c.of_list.ensures) c.in_ok-made.ensures.order

pub returns-clause-picked : goal.returns-clause-picked
returns-clause-picked c =
    ap (all_picked c.in_ok-made.made.items) c.of_list.ensures
    ∙ c.in_ok-made.ensures.picked
    ∙ (λ i. all_picked (c.as_slice.ensures.value i) ((c.as_slice-2.ensures.value ∙ c.in_ok-list.ensures) i))
