use Rattle.std.proofs.Common.{◌≡◌, ◌<◌, ◌+◌, ◌^◌, map}
use Rattle.serde_json.specs.View.{view}
use Rattle.edm_values.specs.Lists.{places}
use Rattle.sample_data.specs.Generator.{drawn, sale_tree}
use Rattle.sample_data.proofs.file.sales.Given as goal

abbrev pub invariant-loop-k : goal.invariant-loop-k
invariant-loop-k l = record {
  small : l.x < 2 ^ 31;
  drawn : l.x ≡ drawn l.k;
  made : map view l.list.items ≡ map (λ k. sale_tree l.n (k + 1)) (places l.k);
}
