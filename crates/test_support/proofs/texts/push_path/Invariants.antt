use Rattle.std.proofs.Common.{◌≡◌, ◌++◌, map, take, string_bytes}
use Rattle.std.specs.List.{join_with_byte}
use Rattle.test_support.proofs.texts.push_path.Given as goal

-- the names so far
abbrev pub invariant-loop-i : goal.invariant-loop-i
invariant-loop-i l = string_bytes l.text ≡ string_bytes l.fn.text ++ join_with_byte 47 (map (λ n. n) (map (λ n. n) (take l.i l.name-items)))
