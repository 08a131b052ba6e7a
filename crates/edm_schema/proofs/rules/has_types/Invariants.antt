use Rattle.std.proofs.Common.{◌≡◌, true}
use Rattle.std.specs.List.{list_all}
use Rattle.edm_values.specs.Lists.{places}
use Rattle.edm_schema.specs.ModelTrees.{is_type, type_tree}
use Rattle.edm_schema.specs.MemberLists.{root_of}
use Rattle.edm_schema.proofs.rules.has_types.Given as goal

abbrev pub invariant-loop-k : goal.invariant-loop-k
invariant-loop-k l = list_all (λ k. is_type (root_of l.schema) k (type_tree (root_of l.schema) k)) (places l.k) ≡ true
