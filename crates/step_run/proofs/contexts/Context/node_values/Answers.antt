use Rattle.std.proofs.Common.{◌≡◌, ◌<◌, ℕ, ap, length, subst}
use Rattle.std.specs.Prelude.{IfOk, IfSome, slice_index_or}
use Rattle.edm_values.specs.declared.Value.TheVariants.{Null}
use Rattle.edm_values.specs.Lists.{at_places}
use Rattle.edm_data.specs.Hierarchies.{rows_under}
use Rattle.edm_data.specs.Worlds.{World}
use Rattle.apply_ast.specs.Views.{expr_of}
use Rattle.apply_meaning.specs.Aggregates.{aggregate}
use Rattle.apply_meaning.specs.Meaning.{values}
use Rattle.step_run.specs.Contexts.{Context}
use Rattle.step_run.proofs.contexts.Context.node_values.Goals as goal

pub returns-clause-value : goal.returns-clause-value
returns-clause-value g c =
    subst (λ (w : World). IfOk c.values.result (λ o. IfSome o (λ v. (x : ℕ) → x < length c.args.told.now.parents → slice_index_or v x Null ≡ aggregate c.args.method (at_places (values w (expr_of c.args.e.now) c.args.rows.now) (rows_under c.args.told.now.parents x c.args.told.now.nodes)))))
    (ap (λ (x : Context). x.world) c.self.view_is) c.values.ensures.value
