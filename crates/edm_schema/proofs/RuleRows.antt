-- Trees that break a rule, each an edit of the sample.
use Rattle.std.proofs.Common.{◌≡◌, true, false, [], ◌∷◌, refl, codes}
use Rattle.serde_json.specs.Data.{null, boolean, number, string, unsigned}
use Rattle.edm_schema.specs.JsonTrees.{object_of, array_of}
use Rattle.edm_schema.specs.ModelTrees.{is_model}
use Rattle.edm_schema.proofs.SampleTree.{sample_tree, put, remove}

sample_is_accepted : is_model sample_tree ≡ true
sample_is_accepted = refl

no_scale : is_model (remove (codes "W/Sale/Amount") (codes "$Scale") sample_tree) ≡ false
no_scale = refl

scale_above_precision : is_model (put (codes "W/Sale/Amount/$Precision") (number (unsigned 1)) sample_tree) ≡ false
scale_above_precision = refl

definition_alone : is_model (put (codes "W/Sale/@Local.Apply.V1.Definition#Other") (object_of ((codes "Of", string (codes "Amount")) ∷ (codes "Per", array_of (string (codes "CustomerID") ∷ [])) ∷ (codes "Then", string (codes "max")) ∷ (codes "With", string (codes "sum")) ∷ [])) sample_tree) ≡ false
definition_alone = refl

collection_false : is_model (put (codes "W/Sale/Customer/$Collection") (boolean false) sample_tree) ≡ false
collection_false = refl

two_sets : is_model (put (codes "W/C/More") (object_of ((codes "$Collection", boolean true) ∷ (codes "$Type", string (codes "W.Org")) ∷ [])) sample_tree) ≡ false
two_sets = refl

scale_on_integer : is_model (put (codes "W/Sale/ID/$Scale") (number (unsigned 0)) sample_tree) ≡ false
scale_on_integer = refl

node_property_no_key : is_model (put (codes "W/Org/@Org.OData.Aggregation.V1.RecursiveHierarchy#OrgTree/NodeProperty") (string (codes "ParentID")) sample_tree) ≡ false
node_property_no_key = refl

reserved_name : is_model (put (codes "W/Sale/mul") (object_of []) sample_tree) ≡ false
reserved_name = refl

nullable_null : is_model (put (codes "W/Sale/Amount/$Nullable") null sample_tree) ≡ false
nullable_null = refl

term_outside_a_type : is_model (put (codes "W/@Org.OData.Aggregation.V1.RecursiveHierarchy#X") (object_of []) sample_tree) ≡ false
term_outside_a_type = refl

term_in_a_property : is_model (put (codes "W/Sale/Amount/@Org.OData.Aggregation.V1.CustomAggregate#X") (string (codes "Edm.Decimal")) sample_tree) ≡ false
term_in_a_property = refl

on_delete_in_a_constraint : is_model (put (codes "W/Sale/Customer/$ReferentialConstraint/$OnDelete") (string (codes "Cascade")) sample_tree) ≡ false
on_delete_in_a_constraint = refl

two_constraints : is_model (put (codes "W/Sale/Customer/$ReferentialConstraint/OrgID") (string (codes "ID")) sample_tree) ≡ false
two_constraints = refl

constraint_of_two_kinds : is_model (put (codes "W/Sale/Customer/$ReferentialConstraint/ID") (string (codes "ID")) (remove (codes "W/Sale/Customer/$ReferentialConstraint") (codes "CustomerID") sample_tree)) ≡ false
constraint_of_two_kinds = refl

constraint_to_no_key : is_model (put (codes "W/Sale/Customer/$ReferentialConstraint/CustomerID") (string (codes "Name")) sample_tree) ≡ false
constraint_to_no_key = refl

nullable_key : is_model (put (codes "W/Sale/ID/$Nullable") (boolean true) sample_tree) ≡ false
nullable_key = refl

decimal_key : is_model (put (codes "W/Sale/Amount/$Nullable") (boolean false) (put (codes "W/Sale/$Key") (array_of (string (codes "Amount") ∷ [])) sample_tree)) ≡ false
decimal_key = refl

two_keys : is_model (put (codes "W/Sale/$Key") (array_of (string (codes "ID") ∷ string (codes "OrgID") ∷ [])) sample_tree) ≡ false
two_keys = refl

alias_key : is_model (put (codes "W/Sale/$Key") (array_of (object_of ((codes "Alias", string (codes "ID")) ∷ []) ∷ [])) sample_tree) ≡ false
alias_key = refl

scale_10 : is_model (put (codes "W/Sale/Amount/$Scale") (number (unsigned 10)) (put (codes "W/Sale/Amount/$Precision") (number (unsigned 18)) sample_tree)) ≡ false
scale_10 = refl

precision_19 : is_model (put (codes "W/Sale/Amount/$Precision") (number (unsigned 19)) sample_tree) ≡ false
precision_19 = refl

precision_0 : is_model (put (codes "W/Sale/Amount/$Scale") (number (unsigned 0)) (put (codes "W/Sale/Amount/$Precision") (number (unsigned 0)) sample_tree)) ≡ false
precision_0 = refl

scale_as_a_string : is_model (put (codes "W/Sale/Amount/$Scale") (string (codes "2")) sample_tree) ≡ false
scale_as_a_string = refl

narrower_integer : is_model (put (codes "W/Sale/ID/$Type") (string (codes "Edm.Int32")) sample_tree) ≡ false
narrower_integer = refl

collection_of_values : is_model (put (codes "W/Sale/Tags") (object_of ((codes "$Collection", boolean true) ∷ [])) sample_tree) ≡ false
collection_of_values = refl

unknown_member_of_a_type : is_model (put (codes "W/Sale/$Abstract") (boolean false) sample_tree) ≡ false
unknown_member_of_a_type = refl

singleton : is_model (put (codes "W/C/Me") (object_of ((codes "$Type", string (codes "W.Customer")) ∷ [])) sample_tree) ≡ false
singleton = refl

second_container : is_model (put (codes "W/D") (object_of ((codes "$Kind", string (codes "EntityContainer")) ∷ [])) sample_tree) ≡ false
second_container = refl

container_of_another_name : is_model (put (codes "$EntityContainer") (string (codes "W.D")) sample_tree) ≡ false
container_of_another_name = refl

second_schema : is_model (put (codes "V") (object_of []) sample_tree) ≡ false
second_schema = refl

enumeration : is_model (put (codes "W/E") (object_of ((codes "$Kind", string (codes "EnumType")) ∷ [])) sample_tree) ≡ false
enumeration = refl

partner_to_another_type : is_model (put (codes "W/Customer/Sales/$Partner") (string (codes "Org")) sample_tree) ≡ false
partner_to_another_type = refl

no_partner : is_model (remove (codes "W/Customer/Sales") (codes "$Partner") sample_tree) ≡ false
no_partner = refl

type_of_another_schema : is_model (put (codes "W/Sale/Customer/$Type") (string (codes "V.Customer")) sample_tree) ≡ false
type_of_another_schema = refl

groups_without_a_second_method : is_model (remove (codes "W/Sale/@Local.Apply.V1.Definition#Best") (codes "Then") sample_tree) ≡ false
groups_without_a_second_method = refl

no_group_path : is_model (put (codes "W/Sale/@Local.Apply.V1.Definition#Best/Per") (array_of []) sample_tree) ≡ false
no_group_path = refl

left_out_method : is_model (put (codes "W/Sale/@Local.Apply.V1.Definition#Best/With") (string (codes "average")) sample_tree) ≡ false
left_out_method = refl

aggregate_named_as_a_property : is_model (put (codes "W/Sale/@Org.OData.Aggregation.V1.CustomAggregate#Amount") (string (codes "Edm.Decimal")) (put (codes "W/Sale/@Local.Apply.V1.Definition#Amount") (object_of ((codes "Of", string (codes "Amount")) ∷ (codes "With", string (codes "sum")) ∷ [])) sample_tree)) ≡ false
aggregate_named_as_a_property = refl

aggregate_type_no_string : is_model (put (codes "W/Sale/@Org.OData.Aggregation.V1.CustomAggregate#Best") (number (unsigned 5)) sample_tree) ≡ false
aggregate_type_no_string = refl

qualifier_no_name : is_model (put (codes "W/Sale/@Org.OData.Aggregation.V1.CustomAggregate#1x") (string (codes "Edm.Decimal")) sample_tree) ≡ false
qualifier_no_name = refl

two_segments : is_model (put (codes "W/Org/@Org.OData.Aggregation.V1.RecursiveHierarchy#OrgTree/ParentNavigationProperty") (string (codes "Superordinate/Superordinate")) sample_tree) ≡ false
two_segments = refl

unknown_member_of_a_hierarchy : is_model (put (codes "W/Org/@Org.OData.Aggregation.V1.RecursiveHierarchy#OrgTree/DistanceFromRoot") (string (codes "x")) sample_tree) ≡ false
unknown_member_of_a_hierarchy = refl

blank_in_a_name : is_model (put (codes "W/Sale/a b") (object_of []) sample_tree) ≡ false
blank_in_a_name = refl

name_too_long : is_model (put (codes "W/Sale/xxxxxxxxxxxxxxxxxxxxxxxxxxxxxxxxxxxxxxxxxxxxxxxxxxxxxxxxxxxxxxxxxxxxxxxxxxxxxxxxxxxxxxxxxxxxxxxxxxxxxxxxxxxxxxxxxxxxxxxxxxxxxxxxx") (object_of []) sample_tree) ≡ false
name_too_long = refl

version_no_string : is_model (put (codes "$Version") (number (unsigned 4)) sample_tree) ≡ false
version_no_string = refl
