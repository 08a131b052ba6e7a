use Rattle.std.proofs.Common.{sym, subst, IsTrue}
use Rattle.apply_meaning.specs.Running.{all_of}
use Rattle.step_run.proofs.item_lists.list_of.Goals as goal

pub values-requires-after_bounds : goal.values-requires-after_bounds
values-requires-after_bounds g c κs within = subst (λ l. IsTrue (all_of c.args.context.now.world l)) (sym c.all-all.ensures.value) c.requires
