use Rattle.std.proofs.Common.{◌≡◌, subst, map}
use Rattle.std.specs.Prelude.{IfOk, option_map}
use Rattle.apply_ast.specs.Trees.{Expr, Step}
use Rattle.apply_ast.specs.Views.{inner_of, key_of, keys_from, pipe_of, step_of}
use Rattle.rewrite_laws.specs.Rewrites.{ended_keys}
use Rattle.rewrite_rules.proofs.groups.chosen_by.Goals as goal

pub returns : goal.returns
returns c =
    let ks = keys_from (map key_of c.args.keys.now) in
    let T = inner_of (option_map pipe_of c.args.inner.now) in
    subst (λ (b : Expr). IfOk c.with_chosen.result (λ s. step_of s ≡ Step.GroupBy (ended_keys (Step.Filter b) ks) T)) c.in_ok-test.ensures.value c.with_chosen.ensures
