use Rattle.std.proofs.Common.{ap, ◌∙◌, option_map}
use Rattle.apply_grammar.proofs.ByteLoops.{after_nothing, after_it, after_other}
use Rattle.apply_grammar.proofs.bytes.after.Goals as goal

pub returns-in_err-first : goal.returns-in_err-first
returns-in_err-first c = ap (option_map (λ r. r.now)) c.from_residual.ensures ∙ after_nothing c.args.byte c.args.text.now c.in_err-first.ensures.cases

pub returns-then-first-byte : goal.returns-then-first-byte
returns-then-first-byte c = after_it c.args.byte c.in_ok-first.first.now c.args.text.now c.in_ok-first.rest.now c.in_ok-first.ensures.cases.0 c.if-first-byte.true

pub returns-else-first-byte : goal.returns-else-first-byte
returns-else-first-byte c = after_other c.args.byte c.in_ok-first.first.now c.args.text.now c.in_ok-first.rest.now c.in_ok-first.ensures.cases.0 c.if-first-byte.false
