use Rattle.std.proofs.Common.{◌≡◌, map}
use Rattle.serde_json.specs.View.{view}
use Rattle.edm_values.specs.Lists.{places}
use Rattle.sample_data.specs.Generator.{customer_tree}
use Rattle.sample_data.proofs.file.customers.Given as goal

abbrev pub invariant-loop-j : goal.invariant-loop-j
invariant-loop-j l = map view l.list.items ≡ map customer_tree (places l.j)
