-- Worked joins: the first customer of the sample world with a sale beside it, and the second without one.
use Rattle.std.specs.Prelude.{◌≡◌, refl, true, false, [], ◌∷◌, Some, None, codes, length, map, option_map}
use Rattle.edm_values.specs.declared.Value.{Value}
use Rattle.edm_values.specs.Names.{Name}
use Rattle.edm_model.specs.LookUps.{navigation_on}
use Rattle.edm_model.specs.SampleModel.{sample_model}
use Rattle.edm_data.proofs.DataRows.{sample_world}
use Rattle.edm_data.specs.References.{related}
use Rattle.edm_data.specs.Worlds.{entity_at}
use Rattle.apply_meaning.specs.Instances.{Instance, entity_instance}
use Rattle.apply_meaning.specs.Meaning.{related_rows}
use Rattle.join_concat.specs.Joins.{bound_rows, has_root_of, is_free_of}

abbrev alias : Name
alias = codes "Sale"

abbrev first : Instance
first = entity_instance (entity_at 0 0)

abbrev second : Instance
second = entity_instance (entity_at 0 1)

abbrev sale : Instance
sale = record { prefixes = ([], Some (entity_at 2 0)) ∷ []; columns = (codes "Twice" ∷ [], Value.Null) ∷ [] }

abbrev beside_sale : Instance
beside_sale = record { prefixes = ([], Some (entity_at 0 0)) ∷ (alias ∷ [], Some (entity_at 2 0)) ∷ []; columns = (alias ∷ codes "Twice" ∷ [], Value.Null) ∷ [] }

-- a row without a result is left out, and stands once in an outer join
joined_row : bound_rows false alias (first ∷ second ∷ []) ((sale ∷ []) ∷ [] ∷ []) ≡ beside_sale ∷ []
joined_row = refl

outer_rows : bound_rows true alias (first ∷ second ∷ []) ((sale ∷ []) ∷ [] ∷ []) ≡ beside_sale ∷ record { prefixes = ([], Some (entity_at 0 1)) ∷ (alias ∷ [], None) ∷ []; columns = [] } ∷ []
outer_rows = refl

-- the alias is free before the join, and not behind it
free_before : is_free_of alias first ≡ true
free_before = refl

taken_behind : is_free_of alias beside_sale ≡ false
taken_behind = refl

-- a customer is no organisation
of_customers : has_root_of sample_world 0 first ≡ true
of_customers = refl

of_no_organisation : has_root_of sample_world 1 first ≡ false
of_no_organisation = refl

-- a single-valued navigation relates nothing, though its place of a partner, which is not read, leads to some
single_valued : option_map (λ v. v.many) (navigation_on sample_model (record { of = 1; at = 0 })) ≡ Some false
single_valued = refl

place_not_read : option_map (λ v. length (related_rows sample_world v (entity_instance (entity_at 1 0)))) (navigation_on sample_model (record { of = 1; at = 0 })) ≡ Some 2
place_not_read = refl

single_valued_relates_none : related sample_world (entity_at 1 0) 0 ≡ []
single_valued_relates_none = refl

-- the sales of the first customer, in data order
sales_of_first : option_map (λ v. related_rows sample_world v first) (navigation_on sample_model (record { of = 0; at = 0 })) ≡ Some (map (λ k. entity_instance (entity_at 2 k)) (0 ∷ 1 ∷ 5 ∷ []))
sales_of_first = refl
