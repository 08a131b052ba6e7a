use Rattle.std.proofs.Common.{sym, ◌∙◌, ap, ◌&&◌, Some, map}
use Rattle.std.specs.Prelude.{option_map}
use Rattle.edm_values.specs.Lists.{is_nonempty}
use Rattle.edm_values.specs.Literals.{is_boolean_kind}
use Rattle.apply_ast.specs.Trees.{Step}
use Rattle.apply_ast.specs.Views.{expr_of, inner_of, key_of, keys_from, pipe_of, step_of}
use Rattle.context_typing.specs.Typing.{has_kind, is_sure}
use Rattle.rewrite_laws.specs.Rewrites.{ended_keys, on_node, over, paths}
use Rattle.rewrite_rules.specs.Conditions.{entered, nearest}
use Rattle.rewrite_rules.specs.GroupForms.{is_node_test}
use Rattle.rewrite_rules.proofs.FirstRuns.{nearest-entered}
use Rattle.rewrite_rules.proofs.groups.into_nodes.Goals as goal

pub returns-in-Some-clause-value : goal.returns-in-Some-clause-value
returns-in-Some-clause-value c =
    let m = c.args.m.now in
    let S = c.args.shape.now in
    let N = c.args.nodes.now in
    let ks = keys_from (map key_of c.args.keys.now) in
    let T = inner_of (option_map pipe_of c.args.inner.now) in
    let ss = map step_of c.args.rest.now in
    let found =
    sym (ap (option_map (λ x. (x.0, expr_of x.1.now))) c.in-Some.is) ∙ c.in_ok-k.ensures.value
    ∙ ap (λ ps. nearest m S (λ b. is_nonempty (paths b) && over ps b && is_sure m S b && has_kind is_boolean_kind m N.0 (on_node N.1 b) && is_sure m N.0 (on_node N.1 b)) ss) (c.deref.ensures.value ∙ c.in_ok-paths.ensures.value) in
    ap Some (c.in_ok-entered-in-Some.ensures.value
    ∙ ap (λ s. entered s ss c.in-Some.k) c.in_ok-made-in-Some.ensures)
    ∙ nearest-entered m S (is_node_test m S c.args.path.now N) ss c.in-Some.k (expr_of c.in-Some.e.now) found (λ b. Step.GroupBy (ended_keys (Step.Filter (on_node N.1 b)) ks) T)
