use Rattle.std.proofs.Common.{◌≡◌, ℕ, drop, map}
use Rattle.context_typing.specs.Paths.{at_path}
use Rattle.row_frames.specs.Frames.{prefix_at}
use Rattle.row_frames.proofs.readers.prefix_place.Given as goal

abbrev pub invariant-loop-c : goal.invariant-loop-c
invariant-loop-c l = (k : ℕ) → at_path (λ x. x.0) (map (prefix_at k) l.prefixes) l.names ≡ at_path (λ x. x.0) (map (prefix_at k) (drop l.c l.prefixes)) l.names
