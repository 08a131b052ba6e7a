use Rattle.std.proofs.Common.{◌∙◌, ap, map}
use Rattle.apply_ast.specs.Trees.{Step}
use Rattle.apply_ast.specs.Views.{expr_of, inner_of, key_of, keys_from}
use Rattle.apply_ast.proofs.ViewEquations.{keys_of-is, step_of-GroupBy}
use Rattle.rewrite_rules.proofs.NodeForms.{ended-from}
use Rattle.rewrite_rules.proofs.nodes.with_chosen.Goals as goal

pub returns : goal.returns
returns c =
    let keys = keys_of-is c.new-keys.result ∙ ap (λ l. keys_from (map key_of l)) c.new-keys.ensures.value ∙ ap keys_from c.in_ok-ended_keys.ensures ∙ ended-from key_of (Step.Filter (expr_of c.args.test.now)) c.args.keys.now in
    step_of-GroupBy c.new-keys.result c.in_ok-copy_inner.field-0 ∙ (λ i. Step.GroupBy (keys i) (inner_of (c.in_ok-copy_inner.ensures.value i)))
