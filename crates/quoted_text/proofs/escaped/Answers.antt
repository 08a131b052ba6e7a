use Rattle.std.proofs.Common.{sym, ◌∙◌, append_assoc, append-nil}
use Rattle.std.proofs.lemmas.Str.{IsUtf8-past_char, IsUtf8-string_bytes}
use Rattle.quoted_text.specs.Quoted.{escape}
use Rattle.quoted_text.proofs.Characters.{none_written, one_written}
use Rattle.quoted_text.proofs.PrintableLaws.{escaped_printable}
use Rattle.quoted_text.proofs.escaped.Goals as goal

pub loop-c-preserved : goal.loop-c-preserved
loop-c-preserved c =
    let held = c.loop-c.invariant in
    let parts = c.in-Some.ensures.steps.0 in
    let step = one_written escape _ _ c.in-Some.c held.0 parts in
    (IsUtf8-past_char _ _ c.in-Some.c held.0 parts, rw (c.in_ok-push_escaped.ensures, append_assoc) (rw step at held.1))

pub returns : goal.returns
returns c =
    let value = sym (append-nil _) ∙ rw (none_written escape _ c.in-None.ensures.steps.0.0) at c.loop-c.invariant.1 in
    record { value = value; printable = escaped_printable _ _ (IsUtf8-string_bytes c.loop-c.out) value }
