use Rattle.std.proofs.Common.{length, ap, append_assoc, arith}
use Rattle.std.proofs.lemmas.Str.{IsUtf8-past_char}
use Rattle.quoted_text.specs.Quoted.{escape}
use Rattle.quoted_text.proofs.Characters.{front_written, more_read, one_counted, no_chars}
use Rattle.quoted_text.proofs.escaped_front.Goals as goal

pub loop-left-preserved : goal.loop-left-preserved
loop-left-preserved c =
    let held = c.loop-left.invariant in
    let parts = c.in-Some.ensures.steps.0 in
    let step = front_written escape c.loop-left.left _ _ c.in-Some.c held.0 parts (omega (arith, c.loop-left-test.true)) in
    let counted = one_counted _ _ c.in-Some.c held.0 parts in
    (IsUtf8-past_char _ _ c.in-Some.c held.0 parts, rw (c.in_ok-push_escaped.ensures, append_assoc) (rw step at held.1), omega (arith, held.2, counted, c.loop-left-test.true))

pub returns-clause-more : goal.returns-clause-more
returns-clause-more c =
    let held = c.loop-left.invariant in
    rw c.is_some.ensures (more_read c.next-2.result _ _ c.next-2.ensures.steps.0
    (λ p. let none = ap length (no_chars _ p.0) in omega (arith, held.2, none, c.loop-left-test.false))
    (λ x p. let one = one_counted _ _ x held.0 p in omega (arith, held.2, one, c.loop-left-test.false)))
