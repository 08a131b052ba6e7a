-- What a method gives on the values of groups that are told by numbers.
use Rattle.std.proofs.Common.{◌≡◌, ◌∙◌, ℕ, List, [], ◌∷◌, ap, arith, length, map, refl, sym}
use Rattle.std.specs.Prelude.{All}
use Rattle.std.proofs.lemmas.List.{get_or_default, length-map}
use Rattle.edm_values.specs.declared.Method.{Method}
use Rattle.edm_values.specs.declared.Value.{Value}
use Rattle.edm_values.specs.Lists.{at_places, places}
use Rattle.edm_values.specs.Names.{Path}
use Rattle.edm_values.specs.Values.{value_in}
use Rattle.edm_data.specs.Worlds.{World}
use Rattle.apply_ast.specs.Trees.{Expr}
use Rattle.apply_meaning.specs.Aggregates.{aggregate}
use Rattle.apply_meaning.specs.Instances.{Instance}
use Rattle.apply_meaning.specs.Meaning.{key_list, values}
use Rattle.value_codes.specs.Codes.{CodeList}
use Rattle.numbered_groups.specs.Numbered.{AreKeyCodes, AreNumbered, Numbering, no_codes, numbered_group, places_with}
use Rattle.custom_agg.specs.CustomValues.{group_results, results_at}
use Rattle.custom_agg.proofs.GroupResults.{results-of_groups, values-at_places}

results-numbered : (w : World) (e : Expr) (m : Method) (l : List Instance) (keys : List (List Value)) (n : Numbering) (js : List ℕ)
    → map (λ j. aggregate m (at_places (values w e l) (places_with n.numbers j))) js ≡ results_at w e m l (map (numbered_group keys n) js)
results-numbered w e m l keys n [] = refl
results-numbered w e m l keys n (j ∷ js) = λ i. aggregate m (values-at_places w e l (places_with n.numbers j) i) ∷ results-numbered w e m l keys n js i

-- what a method gives on each group is what it gives on the groups of the definition
pub results-of_numbers : (w : World) (ks : List Path) (l : List Instance) (e : Expr) (m : Method) (n : Numbering) → AreNumbered (map (key_list w ks) l) n
    → map (λ j. aggregate m (at_places (values w e l) (places_with n.numbers j))) (places (length n.firsts)) ≡ group_results w e m ks l
results-of_numbers w ks l e m n a =
    results-numbered w e m l (map (key_list w ks) l) n (places (length n.firsts))
    ∙ ap (results_at w e m l) (sym a.groups)
    ∙ results-of_groups w ks l e m

-- each column of numbers has one for each instance
pub codes-long : (w : World) (ks : List Path) (l : List Instance) (codes : List CodeList) (rows : ℕ) → AreKeyCodes (map (key_list w ks) l) codes → rows ≡ length l → All (λ c. length c.codes ≡ rows) codes
codes-long w ks l codes rows a e i d h =
    ap (λ c. length c.codes) (get_or_default codes i d no_codes h) ∙ (a.columns i h).size ∙ length-map (map (key_list w ks) l) (λ k. value_in k i) ∙ length-map l (key_list w ks) ∙ sym e
