use Rattle.std.proofs.Common.{arith, get_or, refl, subst, sym}
use Rattle.std.proofs.lemmas.Result.{on_ok_weaker}
use Rattle.row_values.specs.GroupFolds.{AreFoldsOf}
use Rattle.row_values.proofs.GroupFoldLemmas.{one-added}
use Rattle.row_values.proofs.group_folds.GroupFoldsPartial.add.Goals as goal

pub returns-else-is_err-clause-added : goal.returns-else-is_err-clause-added
returns-else-is_err-clause-added g c =
    on_ok_weaker c.add-added.result
    (λ made xs h.
    one-added g.P.Partial.stands_for (record { numbers = c.self.inside.numbers.now; count = c.self.inside.count; taken = c.self.inside.taken; empty = c.self.inside.empty; groups = c.self.inside.groups.items })
    (get_or c.self.inside.numbers.now c.args.place 0) c.args.place c.args.item.now c.index_mut.result.now c.add-added.new.self refl (omega arith) c.index_mut.ensures.value made xs
    (subst (λ s. AreFoldsOf g.P.Partial.stands_for s xs) (sym c.self.view_is) h))
    c.add-added.ensures.added
