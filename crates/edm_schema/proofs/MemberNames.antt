-- A member by its name and by its place.
use Rattle.std.proofs.Common.{◌≡◌, ℕ, ◌+◌, ◌<◌, Bool, true, false, cond, List, [], ◌∷◌, length, map, get_or, Some, None, refl, sym, ◌∙◌, ap}
use Rattle.std.specs.Prelude.{Option, option_map, slice_get, find, position}
use Rattle.std.specs.List.{position_from}
use Rattle.std.proofs.lemmas.Iterator.Adapters.{position_from-zero}
use Rattle.std.proofs.lemmas.Option.{none-some, same_Some, slice_get-map, slice_get-get_or}
use Rattle.serde_json.specs.View.{view}
use Rattle.edm_values.specs.Lists.{same_text}
use Rattle.edm_schema.specs.JsonTrees as tree
use Rattle.edm_schema.specs.ModelTrees.{named, member_place}
use Rattle.edm_schema.specs.MemberLists.{member_seen}
use Rattle.edm_schema.specs.declared.members.Member.{Member}
use Rattle.edm_schema.proofs.Mapped.{position_mapped}
use Rattle.edm_schema.proofs.Passing.{find_place}

nowhere_from : {X : Type 0} (test : X → Bool) (i : ℕ) (xs : List X) → find test xs ≡ None → position_from test i xs ≡ None
nowhere_from test i [] h = refl
nowhere_from test i (x ∷ xs) h = elim (test x) as (λ b. cond b (Some x) (find test xs) ≡ None → cond b (Some i) (position_from test (i + 1) xs) ≡ None) [ true ↦ λ g. absurd (none-some x (sym g)) | false ↦ λ g. nowhere_from test (i + 1) xs g ] h

-- what is not found has no place
nowhere : {X : Type 0} (test : X → Bool) (xs : List X) → find test xs ≡ None → position test xs ≡ None
nowhere test xs h = position_from-zero test xs ∙ nowhere_from test 0 xs h

-- what is found stands at the first place
found_there : {X : Type 0} (test : X → Bool) (xs : List X) (k : ℕ) → position test xs ≡ Some k → find test xs ≡ slice_get xs k
found_there {X} test xs k at = by (find test xs) refl
  where
    by : (o : Option X) → find test xs ≡ o → o ≡ slice_get xs k
    by None e = absurd (none-some k (sym (nowhere test xs e) ∙ at))
    by (Some x) e =
        let r = find_place test xs x e in
        sym r.2 ∙ ap (slice_get xs) (same_Some r.0 k (sym r.1 ∙ at))

found_nowhere : {X : Type 0} (test : X → Bool) (xs : List X) → position test xs ≡ None → find test xs ≡ None
found_nowhere {X} test xs at = by (find test xs) refl
  where
    by : (o : Option X) → find test xs ≡ o → o ≡ None
    by None e = refl
    by (Some x) e = let r = find_place test xs x e in absurd (none-some r.0 (sym at ∙ r.1))

-- the place of the member of a name
pub place_seen : (items : List Member) (n : List ℕ) → member_place (map member_seen items) n ≡ position (λ m. same_text m.name.now n) items
place_seen items n = position_mapped (λ (m : tree.Member). same_text m.0 n) member_seen items

-- the member of a name stands at its place
pub named_there : (items : List Member) (n : List ℕ) (k : ℕ) (d : Member) → Some k ≡ position (λ m. same_text m.name.now n) items → k < length items → named (map member_seen items) n ≡ Some (view (get_or items k d).value.now)
named_there items n k d at within =
    let there = found_there (λ (m : tree.Member). same_text m.0 n) (map member_seen items) k (place_seen items n ∙ sym at) in
    ap (option_map (λ (m : tree.Member). m.1)) (there ∙ (slice_get-map member_seen items k ∙ ap (option_map member_seen) (slice_get-get_or items k d within)))

-- there is no member of a name that has no place
pub named_nowhere : (items : List Member) (n : List ℕ) → None ≡ position (λ m. same_text m.name.now n) items → named (map member_seen items) n ≡ None
named_nowhere items n at = ap (option_map (λ (m : tree.Member). m.1)) (found_nowhere (λ (m : tree.Member). same_text m.0 n) (map member_seen items) (place_seen items n ∙ sym at))

pub place_among : (items : List Member) (ms : List tree.Member) (n : List ℕ) → map member_seen items ≡ ms → position (λ m. same_text m.name.now n) items ≡ member_place ms n
place_among items ms n same = sym (place_seen items n) ∙ ap (λ xs. member_place xs n) same
