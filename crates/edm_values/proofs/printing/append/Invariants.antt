-- The pieces so far are appended.
use Rattle.std.proofs.Common.{◌≡◌, ◌++◌, take, length}
use Rattle.std.specs.List.{flat_map}
use Rattle.edm_values.proofs.printing.append.Given as goal

abbrev pub invariant-loop-piece : goal.invariant-loop-piece
invariant-loop-piece l = record {
  before : l.before ≡ length l.initial.out.items;
  appended : l.out.items ≡ l.initial.out.items ++ flat_map (λ piece. piece.now) (take l.piece-index l.pieces);
}
