-- The definition of a custom aggregate stands in a model's list under its id.
use Rattle.std.proofs.Common.{◌≡◌, refl, sym, ◌∙◌, ap, ℕ, zero, suc, ◌+◌, ◌==◌, ◌&&◌, ◌<◌, Bool, true, false, List, [], ◌∷◌, Option, Some, length, cond, arith, add-zero}
use Rattle.std.specs.Prelude.{find, is_some, slice_get}
use Rattle.std.specs.List.{enumerate_from}
use Rattle.std.proofs.lemmas.Bool.{and_from, eq-eqb}
use Rattle.edm_values.specs.Lists.{places}
use Rattle.edm_values.proofs.OptionFacts.{map-there}
use Rattle.edm_values.proofs.SearchFacts.{find-flat, find-mapped, find_map-there, found-passes, found-All}
use Rattle.edm_values.proofs.PlaceFacts.{all-place}
use Rattle.edm_model.specs.Models.{Model, Part}
use Rattle.edm_model.specs.Models as seen
use Rattle.edm_model.specs.LookUps.{custom_on, customs_of_type, IsCustom}
use Rattle.edm_model.specs.IdLists.{custom_entry, custom_list, customs_in}
use Rattle.edm_model.specs.Soundness.{IsSound}
use Rattle.edm_model.specs.declared.parts.Custom.{Custom}
use Rattle.context_typing.proofs.CustomEntries.{entries}
use Rattle.context_typing.proofs.CustomFacts.{same_part-is}
use Rattle.context_typing.specs.Answers.{IsEntry, custom_of}
use Rattle.context_typing.specs.Readings.{same_part}

-- a search of numbered elements finds one, where the element at a number passes
numbered-there : {X : Type 0} (test : ℕ × X → Bool) (n : ℕ) (xs : List X) (k : ℕ) → k < length xs → ((x : X) → test (n + k, x) ≡ true) → is_some (find test (enumerate_from n xs)) ≡ true
numbered-there {X} test n [] k h t = absurd (omega arith)
numbered-there {X} test n (x ∷ xs) zero h t = ap (λ b. is_some (cond b (Some (n, x)) (find test (enumerate_from (n + 1) xs)))) (ap (λ j. test (j, x)) (sym (add-zero n)) ∙ t x)
numbered-there {X} test n (x ∷ xs) (suc k) h t =
    later (test (n, x)) (find test (enumerate_from (n + 1) xs))
    (numbered-there test (n + 1) xs k (omega arith) (λ y. let same : n + 1 + k ≡ n + suc k = omega arith in ap (λ j. test (j, y)) same ∙ t y))
  where
    later : (b : Bool) (o : Option (ℕ × X)) → is_some o ≡ true → is_some (cond b (Some (n, x)) o) ≡ true
    later true o h = refl
    later false o h = h

-- the list has the custom aggregate of each id
pub definition-there : (m : Model) (id : Part) → IsCustom m id → is_some (find (λ u. same_part u.id id) (custom_list m)) ≡ true
definition-there m id there =
    let test : Custom → Bool = λ u. same_part u.id id in
    let of_type : ℕ → Option Custom = λ t. find test (customs_in m t) in
    let here : ℕ × seen.Custom → Bool = λ c. (id.of == id.of) && (c.0 == id.at) in
    let found : is_some (of_type id.of) ≡ true =
    ap is_some (find-mapped test here (custom_entry id.of) (λ c. refl) (enumerate_from 0 (customs_of_type m id.of)))
    ∙ map-there (custom_entry id.of) _ (numbered-there here 0 (customs_of_type m id.of) id.at there.1 (λ u. let at : 0 + id.at ≡ id.at = omega arith in and_from _ _ (eq-eqb id.of id.of refl) (eq-eqb (0 + id.at) id.at at))) in
    ap is_some (find-flat test (customs_in m) (places (length m.types)))
    ∙ find_map-there of_type (places (length m.types)) id.of (λ q a. all-place q (length m.types) id.of a there.0) found

-- what is found there is the custom aggregate of the model
pub definition-is : (m : Model) → IsSound m → (id : Part) (u : Custom) → find (λ u. same_part u.id id) (custom_list m) ≡ Some u → custom_on m id ≡ Some (custom_of u)
definition-is m sound id u e =
    let test : Custom → Bool = λ u. same_part u.id id in
    let entry = found-All (IsEntry m) test (custom_list m) u (entries m sound) e in
    let same = same_part-is u.id id (found-passes test (custom_list m) u e) in
    ap (custom_on m) (sym same) ∙ ap (λ t. slice_get (customs_of_type m t) u.id.at) entry.own ∙ entry.at
