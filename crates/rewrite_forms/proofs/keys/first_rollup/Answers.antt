use Rattle.std.proofs.Common.{sym, ◌∙◌, ◌≤◌, length, arith}
use Rattle.apply_ast.specs.Views.{key_of}
use Rattle.rewrite_forms.proofs.KeyForms.{rollup-here, rollup-past, rollup-none}
use Rattle.rewrite_forms.proofs.keys.first_rollup.Goals as goal

pub returns-then-is_rollup : goal.returns-then-is_rollup
returns-then-is_rollup c =
    record { value = rollup-here key_of c.args.keys.now c.loop-key.key-index c.key-item.result (omega arith) c.key-item.is c.loop-key.invariant (sym c.is_rollup.ensures ∙ c.if-is_rollup.true) }

pub loop-key-preserved : goal.loop-key-preserved
loop-key-preserved c =
    rollup-past key_of c.args.keys.now c.loop-key.key-index c.key-item.result (omega arith) c.key-item.is c.loop-key.invariant (sym c.is_rollup.ensures ∙ c.if-is_rollup.false)

pub returns : goal.returns
returns c =
    let end : length c.args.keys.now ≤ c.loop-key.key-index = omega arith in
    record { value = rollup-none key_of c.args.keys.now c.loop-key.key-index end c.loop-key.invariant }
