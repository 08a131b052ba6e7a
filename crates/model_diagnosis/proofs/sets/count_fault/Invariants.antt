-- The entity types that were searched have one set each.
use Rattle.std.proofs.Common.{◌≡◌, true}
use Rattle.std.specs.List.{list_all}
use Rattle.edm_values.specs.Lists.{exactly_one, places}
use Rattle.edm_schema.specs.ModelTrees.{leads_to, set_members}
use Rattle.edm_schema.specs.MemberLists.{root_of}
use Rattle.model_diagnosis.proofs.sets.count_fault.Given as goal

abbrev pub invariant-loop-k : goal.invariant-loop-k
invariant-loop-k l = list_all (λ k. exactly_one (λ m. leads_to (root_of l.schema) k m.1) (set_members (root_of l.schema))) (places l.k) ≡ true
