use Rattle.std.proofs.Common.{◌≡◌, ◌+◌, ◌++◌, IsUtf8, chars, length, string_bytes, take}
use Rattle.std.specs.Str.Iter.{chars_rest}
use Rattle.quoted_text.specs.Quoted.{escape_all}
use Rattle.quoted_text.proofs.escaped_front.Given as goal

abbrev pub invariant-loop-left : goal.invariant-loop-left
invariant-loop-left l =
    IsUtf8 (chars_rest l.rest)
    × (string_bytes l.out ++ escape_all (take l.left (chars (chars_rest l.rest))) ≡ escape_all (take l.most (chars l.text)))
    × (length (chars (chars_rest l.rest)) + l.most ≡ length (chars l.text) + l.left)
