-- Custom aggregates by their ids (Data Aggregation 4.0, section 5.2).
use Rattle.std.specs.Prelude.{◌≡◌, ℕ, nat_lt, Bool, List, map, Option, Some, option_map, option_and_then}
use Rattle.std.specs.List.{list_all}
use Rattle.edm_values.specs.declared.Method.{Method}
use Rattle.edm_values.specs.declared.Value.{Value}
use Rattle.edm_values.specs.Lists.{at_places}
use Rattle.edm_values.specs.Names.{Path}
use Rattle.edm_model.specs.Models.{Part}
use Rattle.edm_model.specs.LookUps.{custom_on}
use Rattle.edm_data.specs.Worlds.{World}
use Rattle.apply_ast.specs.Trees.{Expr}
use Rattle.context_typing.specs.Readings.{reading_of, typed_at}
use Rattle.context_typing.specs.Shapes.{Shape}
use Rattle.context_typing.specs.Typing.{root_type}
use Rattle.context_typing.specs.declared.customs.TypedCustom.{TypedCustom}
use Rattle.apply_meaning.specs.Instances.{Instance}
use Rattle.apply_meaning.specs.Aggregates.{aggregate}
use Rattle.apply_meaning.specs.Meaning.{custom_value, group, keys, values}
use Rattle.apply_meaning.specs.MeaningLaws.{AllFit}

-- the value of the custom aggregate of an id on instances, where it is one of the model and has a reading
abbrev pub value_by_id : World → List TypedCustom → Part → List Instance → Option Value
value_by_id w c id l = option_and_then (λ u. option_map (λ x. custom_value w u (reading_of x) l) (typed_at c id)) (custom_on w.model id)

-- the instances have an entity of this type at the empty prefix
abbrev pub HaveRoot : World → ℕ → List Instance → Type 0
HaveRoot w t l = (S : Shape) × (root_type S ≡ Some t) × AllFit w S l

-- ---- the results of groups

-- what a method gives on the values of each group of instances, in order of first place
abbrev pub group_results : World → Expr → Method → List Path → List Instance → List Value
group_results w e m ks l = map (λ k. aggregate m (values w e (group w ks k l))) (keys w ks l)

-- what a method gives on the values at the places of each group
abbrev pub results_at : World → Expr → Method → List Instance → List (List Value × List ℕ) → List Value
results_at w e m l groups = map (λ g. aggregate m (values w e (at_places l g.1))) groups

-- the places of all groups are places of a list of n elements
abbrev pub are_within : ℕ → List (List Value × List ℕ) → Bool
are_within n groups = list_all (λ g. list_all (λ k. nat_lt k n) g.1) groups
