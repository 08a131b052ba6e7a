use Rattle.std.proofs.Common.{◌≡◌, ◌++◌, drop}
use Rattle.std.specs.Prelude.{filter_map}
use Rattle.hier_rows.proofs.climbs.present.Given as goal

-- what there is so far and what is left are all
abbrev pub invariant-loop-node : goal.invariant-loop-node
invariant-loop-node l = filter_map (λ n. n) l.nodes ≡ l.found.items ++ filter_map (λ n. n) (drop l.node-index l.nodes)
