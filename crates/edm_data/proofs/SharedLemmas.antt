-- Relations that several navigations share.
use Rattle.std.proofs.Common.{◌≡◌, ℕ, ◌<◌, List, [], ◌∷◌, ◌++◌, length, get_or, refl, sym, ◌∙◌, ap, arith, Some, None, length-append}
use Rattle.std.specs.Prelude.{IfSome}
use Rattle.std.specs.declared.option.Option.{Option}
use Rattle.std.specs.Option.{option_map, option_and_then, unwrap_or}
use Rattle.std.specs.List.{slice_get}
use Rattle.std.proofs.lemmas.List.{map-append}
use Rattle.std.proofs.lemmas.Option.{slice_get-map, slice_get_read}
use Rattle.edm_data.specs.Links.{KeptRelation, relation_in}
use Rattle.edm_data.specs.SharedRelations.{relations_of, AreWithin}
use Rattle.edm_data.proofs.PlaceLemmas.{slice_get-push_before}
use Rattle.edm_data.proofs.TextLemmas.{all_push}
use Rattle.edm_values.proofs.ListFacts.{slice_get-last}

within_grown : (kept : List KeptRelation) (r : KeptRelation) (o : Option ℕ) → IfSome o (λ k. k < length kept) → IfSome o (λ k. k < length (kept ++ r ∷ []))
within_grown kept r None h = tt
within_grown kept r (Some k) h = rw length-append (omega (arith, h))

all_grown : (kept : List KeptRelation) (r : KeptRelation) (navs : List (Option ℕ)) → AreWithin kept navs → AreWithin (kept ++ r ∷ []) navs
all_grown kept r [] all = tt
all_grown kept r (o ∷ navs) all = (within_grown kept r o all.0, all_grown kept r navs all.1)

-- one relation more, and a navigation by it
pub AreWithin-push : (kept : List KeptRelation) (r : KeptRelation) (navs : List (Option ℕ)) (k : ℕ) → k ≡ length kept → AreWithin kept navs → AreWithin (kept ++ r ∷ []) (navs ++ Some k ∷ [])
AreWithin-push kept r navs k is all = all_push (λ o. IfSome o (λ j. j < length (kept ++ r ∷ []))) navs (Some k) (all_grown kept r navs all) (rw length-append (omega (arith, is)))

same_relation : (kept : List KeptRelation) (r : KeptRelation) (o : Option ℕ) → IfSome o (λ k. k < length kept) → option_and_then (slice_get (kept ++ r ∷ [])) o ≡ option_and_then (slice_get kept) o
same_relation kept r None h = refl
same_relation kept r (Some k) h = slice_get-push_before kept r k h

relations_grown : (kept : List KeptRelation) (r : KeptRelation) (navs : List (Option ℕ)) → AreWithin kept navs → relations_of (kept ++ r ∷ []) navs ≡ relations_of kept navs
relations_grown kept r [] all = refl
relations_grown kept r (o ∷ navs) all = rw (same_relation kept r o all.0, relations_grown kept r navs all.1) refl

pub relations_of-push : (kept : List KeptRelation) (r : KeptRelation) (navs : List (Option ℕ)) (k : ℕ) → k ≡ length kept → AreWithin kept navs → relations_of (kept ++ r ∷ []) (navs ++ Some k ∷ []) ≡ relations_of kept navs ++ Some r ∷ []
relations_of-push kept r navs k is all =
    let here : slice_get (kept ++ r ∷ []) k ≡ Some r = ap (slice_get (kept ++ r ∷ [])) is ∙ slice_get-last kept r in
    map-append (option_and_then (slice_get (kept ++ r ∷ []))) navs (Some k ∷ []) ∙ rw (relations_grown kept r navs all, here) refl

-- a navigation by the relation of another
pub relations_of-shared : (kept : List KeptRelation) (navs : List (Option ℕ)) (n : ℕ) (o : Option ℕ) → n < length navs → o ≡ get_or navs n o → relations_of kept (navs ++ o ∷ []) ≡ relations_of kept navs ++ relation_in (relations_of kept navs) n ∷ []
relations_of-shared kept navs n o within item =
    let here : relation_in (relations_of kept navs) n ≡ option_and_then (slice_get kept) o = ap (λ x. unwrap_or x None) (slice_get-map (option_and_then (slice_get kept)) navs n ∙ ap (option_map (option_and_then (slice_get kept))) (slice_get_read navs (length navs) n o refl within item)) in
    map-append (option_and_then (slice_get kept)) navs (o ∷ []) ∙ ap (λ x. relations_of kept navs ++ x ∷ []) (sym here)
