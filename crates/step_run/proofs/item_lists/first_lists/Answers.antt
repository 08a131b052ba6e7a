use Rattle.std.proofs.Common.{◌∙◌, ap, map}
use Rattle.std.proofs.lemmas.Result.{IfOk-weaker}
use Rattle.apply_ast.specs.Views.{agg_of, pipe_of, step_of}
use Rattle.apply_ast.proofs.ViewEquations.{step_of-Aggregate}
use Rattle.step_run.specs.ItemLists.{AreFirstLists, item_list}
use Rattle.step_run.proofs.AggregateFirst.{begun-by}
use Rattle.step_run.proofs.ItemLists.{first-known, none-known}
use Rattle.step_run.proofs.item_lists.first_lists.Goals as goal

pub returns-in-Aggregate : goal.returns-in-Aggregate
returns-in-Aggregate g c =
    let w = c.args.context.now.world in
    let l = c.args.rows.now in
    let is = ap step_of c.in-Aggregate.is ∙ step_of-Aggregate c.in-Aggregate.items in
    let whole = begun-by (pipe_of c.args.pipe.now) c.steps-all.result.now c.index-all-0.result (map agg_of c.in-Aggregate.items) c.steps-all.ensures.tree c.steps-all.ensures.some c.index-all-0.is is in
    record {
      lists = IfOk-weaker c.lists_of.result _ (λ v. AreFirstLists w l (pipe_of c.args.pipe.now) v.items)
          (λ v e. first-known w l (pipe_of c.args.pipe.now) _ c.in-Aggregate.items v.items whole (e ∙ ap (map (λ i. item_list w l (agg_of i))) c.as_slice.ensures.value)) c.lists_of.ensures;
    }

pub returns-in_default : goal.returns-in_default
returns-in_default g c = record { lists = none-known c.args.context.now.world c.args.rows.now (pipe_of c.args.pipe.now) c.new.result.items c.new.ensures.items }
