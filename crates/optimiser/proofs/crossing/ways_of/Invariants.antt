use Rattle.std.proofs.Common.{◌≡◌, true, map, take}
use Rattle.std.specs.List.{list_all}
use Rattle.apply_ast.specs.Trees.{Expr}
use Rattle.apply_ast.specs.Views.{pipe_of}
use Rattle.context_typing.specs.Readings.{readings}
use Rattle.walk_laws.specs.Crossing.{branch_crossed}
use Rattle.optimiser.specs.CrossingForms.{goes, ways_typed}
use Rattle.optimiser.proofs.crossing.ways_of.Given as goal

-- a filter that goes through the branches so far crosses them
abbrev pub invariant-loop-i : goal.invariant-loop-i
invariant-loop-i l = record {
  types : ways_typed l.m l.ways.items ≡ true;
  value : (e : Expr) → list_all (goes l.m e) l.ways.items ≡ true → list_all (λ p. branch_crossed l.m (readings l.c) l.shape p e) (map pipe_of (take l.i l.all)) ≡ true;
}
