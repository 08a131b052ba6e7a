use Rattle.std.proofs.Common.{◌≡◌, ◌++◌, IsUtf8, chars, string_bytes}
use Rattle.std.specs.Str.Iter.{chars_rest}
use Rattle.quoted_text.specs.Quoted.{escape_all}
use Rattle.quoted_text.proofs.escaped.Given as goal

abbrev pub invariant-loop-c : goal.invariant-loop-c
invariant-loop-c l = IsUtf8 (chars_rest l.c-iterator) × (string_bytes l.out ++ escape_all (chars (chars_rest l.c-iterator)) ≡ escape_all (chars l.text))
