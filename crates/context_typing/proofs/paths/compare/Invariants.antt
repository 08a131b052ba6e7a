use Rattle.std.proofs.Common.{◌≡◌, ◌≤◌, drop, length}
use Rattle.context_typing.specs.Orders.{path_cmp}
use Rattle.context_typing.proofs.paths.compare.Given as goal

abbrev pub invariant-loop-i : goal.invariant-loop-i
invariant-loop-i l = record {
  within : l.i ≤ length l.b;
  rest : path_cmp l.a l.b ≡ path_cmp (drop l.i l.a) (drop l.i l.b);
}
