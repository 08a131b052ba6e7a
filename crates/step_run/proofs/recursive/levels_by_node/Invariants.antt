use Rattle.std.proofs.Common.{◌≡◌, ◌++◌, map}
use Rattle.std.specs.Vec.Iter.{into_iter_items}
use Rattle.edm_model.specs.LookUps.{HierarchyPlace}
use Rattle.step_run.specs.Levels.{node_level}
use Rattle.step_run.proofs.recursive.levels_by_node.Given as goal

-- the levels so far and those that are left are the whole
abbrev pub invariant-loop-node : goal.invariant-loop-node
invariant-loop-node l =
    (f : HierarchyPlace) → f.set ≡ l.set → map (node_level l.store f l.paths) l.fn.rolled.items ≡ l.levels.items ++ map (node_level l.store f l.paths) (into_iter_items l.node-iterator)
