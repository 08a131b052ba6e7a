-- Qualified names: a namespace, a point and a name.
use Rattle.std.proofs.Common.{◌≡◌, ℕ, ◌+◌, Bool, true, false, List, [], ◌∷◌, ◌++◌, map, length, take, drop, Some, None, refl, sym, ◌∙◌, ap, arith, nat_eq, codes}
use Rattle.std.specs.Prelude.{◌&&◌, ◌||◌, not, Option, MatchOption, position, if◌then◌else◌}
use Rattle.std.specs.List.{starts_with, position_from}
use Rattle.std.proofs.lemmas.Bool.Decides.{nat_tests}
use Rattle.std.proofs.lemmas.Iterator.Adapters.{position_from-zero}
use Rattle.std.proofs.lemmas.Option.{same_Some}
use Rattle.serde_json.specs.Data.{Data}
use Rattle.edm_values.specs.Lists.{same_text}
use Rattle.edm_schema.specs.JsonTrees as tree
use Rattle.edm_schema.specs.JsonTrees.{text_at}
use Rattle.edm_schema.specs.ModelTrees.{namespace, type_members, type_place}
use Rattle.edm_schema.specs.MemberLists.{type_seen, root_of, IsSchema}
use Rattle.edm_schema.specs.declared.schema.Schema.{Schema}
use Rattle.edm_schema.specs.declared.schema.TypeTree.{TypeTree}
use Rattle.edm_schema.proofs.Mapped.{pointwise-append, position_mapped}

nat_eq_back : (x y : ℕ) → nat_eq x y ≡ nat_eq y x
nat_eq_back x y = grind (arith, nat_tests)

-- the first text is the second where the second is the first
pub same_back : (a b : List ℕ) → same_text a b ≡ same_text b a
same_back [] [] = refl
same_back [] (y ∷ b) = refl
same_back (x ∷ a) [] = refl
same_back (x ∷ a) (y ∷ b) = ap (λ t. t && same_text a b) (nat_eq_back x y) ∙ ap (λ t. nat_eq y x && t) (same_back a b)

-- what a qualified name equals begins with the namespace and a point, and ends with the name
pub qualified_same : (ns text n : List ℕ) → same_text text (ns ++ 46 ∷ n) ≡ (starts_with nat_eq text ns && (starts_with nat_eq (drop (length ns) text) (46 ∷ []) && same_text n (drop 1 (drop (length ns) text))))
qualified_same ns text n =
    let rest = drop (length ns) text in
    pointwise-append nat_eq text ns (46 ∷ n)
    ∙ (ap (λ b. b && same_text rest (46 ∷ n)) (same_back (take (length ns) text) ns)
    ∙ ap (λ b. starts_with nat_eq text ns && b) (pointwise-append nat_eq rest (46 ∷ []) n
    ∙ (ap (λ b. b && same_text (drop 1 rest) n) (same_back (take 1 rest) (46 ∷ [])) ∙ ap (λ b. starts_with nat_eq rest (46 ∷ []) && b) (same_back (drop 1 rest) n))))

nowhere_from : {X : Type 0} (i : ℕ) (xs : List X) → position_from (λ x. false) i xs ≡ None
nowhere_from i [] = refl
nowhere_from i (x ∷ xs) = nowhere_from (i + 1) xs

pub nowhere_none : {X : Type 0} (xs : List X) → position (λ x. false) xs ≡ None
nowhere_none xs = position_from-zero (λ x. false) xs ∙ nowhere_from 0 xs

-- the type of a qualified name
pub qualified_place : (ns text : List ℕ) (types : List TypeTree) → position (λ (m : tree.Member). same_text text (ns ++ 46 ∷ m.0)) (map type_seen types) ≡ position (λ t. starts_with nat_eq text ns && (starts_with nat_eq (drop (length ns) text) (46 ∷ []) && same_text t.name.now (drop 1 (drop (length ns) text)))) types
qualified_place ns text types = position_mapped (λ (m : tree.Member). same_text text (ns ++ 46 ∷ m.0)) type_seen types ∙ (λ i. position (λ (t : TypeTree). qualified_same ns text t.name.now i) types)

-- ---- what a choice gives

pub none_chosen : {X : Type 0} (b : Bool) (x : X) → None ≡ (if b then Some x else None) → b ≡ false
none_chosen true x e = cc
none_chosen false x e = refl

pub some_chosen : {X : Type 0} (b : Bool) (q x : X) → Some q ≡ (if b then Some x else None) → (b ≡ true) × (q ≡ x)
some_chosen true q x e = (refl, same_Some q x e)
some_chosen false q x e = cc

-- what holds of nothing and of each thing holds of an option
pub by_option : {B : Type 0} {P : Type 0} {Q : B → Type 0} (M : Option B → Type 0) (o : Option B) → MatchOption o P Q → (P → M None) → ((r : B) → Q r → M (Some r)) → M o
by_option M None h none some = none h
by_option M (Some r) h none some = some r h

-- the place of the type whose qualified name a value gives
pub place_is : (s : Schema) (n : Data) (text : List ℕ) → IsSchema s → text ≡ text_at (codes "$Type") n → type_place (root_of s) n ≡ position (λ t. starts_with nat_eq text s.namespace.now && (starts_with nat_eq (drop (length s.namespace.now) text) (46 ∷ []) && same_text t.name.now (drop 1 (drop (length s.namespace.now) text)))) s.types.items
place_is s n text h is =
    let d = root_of s in
    ap (λ t. position (λ (m : tree.Member). same_text t (namespace d ++ 46 ∷ m.0)) (type_members d)) (sym is)
    ∙ (ap (λ ns. position (λ (m : tree.Member). same_text text (ns ++ 46 ∷ m.0)) (type_members d)) (sym h.namespace)
    ∙ (ap (position (λ (m : tree.Member). same_text text (s.namespace.now ++ 46 ∷ m.0))) (sym h.types) ∙ qualified_place s.namespace.now text s.types.items))

-- a test of what is chosen, and of nothing
pub some_tested : (p : List ℕ → Bool) (b : Bool) (q x : List ℕ) → Some q ≡ (if b then Some x else None) → p q ≡ (not b || p x)
some_tested p true q x e = ap p (same_Some q x e)
some_tested p false q x e = cc

pub none_tested : (p : List ℕ → Bool) (b : Bool) (x : List ℕ) → None ≡ (if b then Some x else None) → true ≡ (not b || p x)
none_tested p true x e = cc
none_tested p false x e = refl
