use Rattle.std.proofs.Common.{◌≡◌, true, take}
use Rattle.std.specs.List.{list_all}
use Rattle.apply_ast.specs.Views.{expr_of}
use Rattle.optimiser.specs.CrossingForms.{goes}
use Rattle.optimiser.proofs.crossing.all_go.Given as goal

-- it passes all steps of the branches so far
abbrev pub invariant-loop-way : goal.invariant-loop-way
invariant-loop-way l = list_all (goes l.m (expr_of l.e)) (take l.way-index l.ways) ≡ true
