use Rattle.std.proofs.Common.{subst, sym}
use Rattle.numbered_groups.specs.Found.{AreFoundIn}
use Rattle.numbered_groups.proofs.FoundLemmas.{found-next}
use Rattle.numbered_groups.proofs.found.FoundNumbersPartial.add.Goals as goal

pub returns-clause-added : goal.returns-clause-added
returns-clause-added c = λ xs h.
    found-next _ c.insert.new.self.heads c.push.new.self.items c.args.item.now c.in_ok-insert.field-0 c.args._place xs c.in_ok-insert.ensures.heads c.in_ok-insert.ensures.at c.in_ok-push.ensures.items
    (subst (λ s. AreFoundIn s xs) (sym c.self.view_is) h)
