use Rattle.std.proofs.Common.{◌∙◌, ◌++◌, ap, subst, sym, get_or, map}
use Rattle.std.specs.Prelude.{nat_eq}
use Rattle.std.proofs.lemmas.Result.{on_ok_weaker}
use Rattle.indexmap.specs.IndexSet.{insert_all}
use Rattle.numbered_groups.specs.Found.{AreFoundIn}
use Rattle.numbered_groups.proofs.FoundLemmas.{found-behind}
use Rattle.numbered_groups.proofs.found.FoundNumbersPartial.merge.Goals as goal

pub returns-clause-merged : goal.returns-clause-merged
returns-clause-merged c = on_ok_weaker c.put_moved.result (λ put xs ys h k.
    found-behind _ _ c.insert_all.new.self.heads c.in_ok-moved.moved.items c.put_moved.new.numbers.items xs ys
    (c.in_ok-moved.ensures.heads ∙ ap (insert_all nat_eq c.self.inside.index.heads) c.heads.ensures)
    (c.in_ok-moved.ensures.at ∙ ap (map _) c.heads.ensures)
    (put ∙ (λ i. c.self.inside.numbers.items ++ map (λ n. get_or (c.as_slice-2.ensures.value i) n 0) (c.as_slice.ensures.value i)))
    (subst (λ s. AreFoundIn s xs) (sym c.self.view_is) h) (subst (λ s. AreFoundIn s ys) (sym c.later.view_is) k)) c.put_moved.ensures
