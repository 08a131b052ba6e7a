use Rattle.std.proofs.Common.{◌≡◌, ◌++◌, IsUtf8, chars, string_bytes}
use Rattle.std.specs.Str.Iter.{chars_rest}
use Rattle.quoted_text.specs.Quoted.{show_all}
use Rattle.quoted_text.proofs.printable.Given as goal

abbrev pub invariant-loop-c : goal.invariant-loop-c
invariant-loop-c l = IsUtf8 (chars_rest l.c-iterator) × (string_bytes l.out ++ show_all (chars (chars_rest l.c-iterator)) ≡ show_all (chars l.text))
