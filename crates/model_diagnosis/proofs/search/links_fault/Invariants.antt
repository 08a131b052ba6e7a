-- The entity types that were searched keep their rules.
use Rattle.std.proofs.Common.{◌≡◌, true}
use Rattle.std.specs.List.{list_all}
use Rattle.edm_values.specs.Lists.{places}
use Rattle.edm_schema.specs.ModelTrees.{type_tree}
use Rattle.edm_schema.specs.MemberLists.{root_of}
use Rattle.model_diagnosis.specs.Searched.{has_sound_links}
use Rattle.model_diagnosis.proofs.search.links_fault.Given as goal

abbrev pub invariant-loop-k : goal.invariant-loop-k
invariant-loop-k l = list_all (λ k. has_sound_links (root_of l.schema) k (type_tree (root_of l.schema) k)) (places l.k) ≡ true
