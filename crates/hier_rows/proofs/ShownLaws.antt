-- The nodes that instances stand at, each once, and that they are nodes of the hierarchy.
use Rattle.std.proofs.Common.{◌≡◌, ℕ, zero, suc, ◌+◌, ◌<◌, refl, sym, ◌∙◌, ap, subst, Bool, true, false, ◌||◌, not, List, [], ◌∷◌, ◌++◌, length, map, take, get_or, Option, Some, None, IfSome, ⊎_elim, arith, get_or-set_same, get_or-set_other}
use Rattle.std.specs.Prelude.{filter_map, if◌then◌else◌, nat_eq, nat_lt, option_and_then, option_map, slice_get, slice_index_or, slice_set, unwrap_or}
use Rattle.std.specs.Bool.{then_some}
use Rattle.std.specs.List.{cons_option, list_all, list_any}
use Rattle.std.proofs.lemmas.Bool.{and_parts, cases_eq, eq-eqb, eqb-true, lt-ltb, ltb-true, ne_eqb, or_left, or_right}
use Rattle.std.proofs.Math.Bool.{or-false}
use Rattle.std.proofs.lemmas.List.{length-set, take_more}
use Rattle.std.proofs.lemmas.List.Folds.{list_any-append}
use Rattle.std.proofs.lemmas.Option.{slice_get-get_or, slice_get_within}
use Rattle.std.proofs.lemmas.List.Elements.{All-cons, All-head, All-nil, All-tail}
use Rattle.std.proofs.lemmas.List.Sums.{AllPass-from_list_all, list_all-from_AllPass}
use Rattle.edm_values.proofs.ListFacts.{none-each}
use Rattle.edm_values.proofs.OptionFacts.{mapped, some_value, then_some-parts}
use Rattle.edm_values.proofs.Reorderings.{TestsEquality}
use Rattle.edm_values.proofs.SearchFacts.{all-distinct}
use Rattle.edm_values.proofs.PlaceFacts.{places-within}
use Rattle.edm_values.specs.Lists.{distinct, places}
use Rattle.edm_model.specs.LookUps.{HierarchyPlace, set_of_type}
use Rattle.edm_model.specs.Models.{Model}
use Rattle.edm_model.specs.Soundness.{IsSound}
use Rattle.edm_data.specs.References.{count, entity_type}
use Rattle.edm_data.specs.Worlds.{Entity, World, entity_at}
use Rattle.apply_ast.specs.Trees.{HierName}
use Rattle.context_typing.proofs.ShapeLemmas.{law-from}
use Rattle.context_typing.specs.Shapes.{Shape}
use Rattle.context_typing.specs.Typing.{hierarchy_at, root_type}
use Rattle.apply_meaning.proofs.AggregateForms.{distinct-next}
use Rattle.apply_meaning.proofs.FitLemmas.{Fit, fit-parts}
use Rattle.apply_meaning.proofs.LookupLemmas.{entity-of}
use Rattle.apply_meaning.proofs.MeanLemmas.{root-entry, root-type_of}
use Rattle.apply_meaning.proofs.NodeLemmas.{named-parts}
use Rattle.apply_meaning.specs.Instances.{Instance, entity_instance, fits, root_of, rows}
use Rattle.apply_meaning.specs.Meaning.{shown_of}
use Rattle.apply_meaning.specs.MeaningLaws.{AllFit, IsLoaded}
use Rattle.hier_rows.specs.HierRows.{AreNodesBelow, AreRootsBelow}

-- ---- each once

nat_tests : TestsEquality nat_eq
nat_tests = record { same = eqb-true; itself = λ x. eq-eqb x x refl }

-- a node that is seen is none more
pub once-seen : (xs : List ℕ) (x : ℕ) → list_any (nat_eq x) (distinct nat_eq xs) ≡ true → distinct nat_eq (xs ++ x ∷ []) ≡ distinct nat_eq xs
once-seen xs x h = distinct-next nat_eq nat_tests xs x ∙ ap (λ b. if b then distinct nat_eq xs else distinct nat_eq xs ++ x ∷ []) h

-- one that is not seen is the last
pub once-fresh : (xs : List ℕ) (x : ℕ) → list_any (nat_eq x) (distinct nat_eq xs) ≡ false → distinct nat_eq (xs ++ x ∷ []) ≡ distinct nat_eq xs ++ x ∷ []
once-fresh xs x h = distinct-next nat_eq nat_tests xs x ∙ ap (λ b. if b then distinct nat_eq xs else distinct nat_eq xs ++ x ∷ []) h

below-all : (n : ℕ) (xs : List ℕ) → AreNodesBelow n xs → list_all (λ x. nat_lt x n) xs ≡ true
below-all n xs a = list_all-from_AllPass (λ x. nat_lt x n) xs (λ k d h. lt-ltb _ n (a k d h))

all-below : (n : ℕ) (xs : List ℕ) → list_all (λ x. nat_lt x n) xs ≡ true → AreNodesBelow n xs
all-below n xs e = λ k d h. ltb-true _ n (AllPass-from_list_all (λ x. nat_lt x n) xs e k d h)

-- nodes that are taken once are nodes
pub once-within : (n : ℕ) (xs : List ℕ) → AreNodesBelow n xs → AreNodesBelow n (distinct nat_eq xs)
once-within n xs a = all-below n (distinct nat_eq xs) (all-distinct (λ x. nat_lt x n) nat_eq xs (below-all n xs a))

-- the next node of a list, where it is seen
pub next-seen : (xs : List ℕ) (k : ℕ) → k < length xs → list_any (nat_eq (get_or xs k 0)) (distinct nat_eq (take k xs)) ≡ true → distinct nat_eq (take k xs) ≡ distinct nat_eq (take (k + 1) xs)
next-seen xs k h s = sym (ap (distinct nat_eq) (take_more xs k 0 h) ∙ once-seen (take k xs) (get_or xs k 0) s)

-- and where it is not
pub next-fresh : (xs : List ℕ) (k : ℕ) → k < length xs → list_any (nat_eq (get_or xs k 0)) (distinct nat_eq (take k xs)) ≡ false → distinct nat_eq (take k xs) ++ get_or xs k 0 ∷ [] ≡ distinct nat_eq (take (k + 1) xs)
next-fresh xs k h s = sym (ap (distinct nat_eq) (take_more xs k 0 h) ∙ once-fresh (take k xs) (get_or xs k 0) s)

-- ---- marks

-- there is a mark for each of so many nodes, and it tells whether the node is found
abbrev pub AreMarked : ℕ → List ℕ → List Bool → Type 0
AreMarked n found marks = (length marks ≡ n) × ((x : ℕ) → x < n → slice_index_or marks x false ≡ list_any (nat_eq x) found)

-- a mark that is there is read whatever stands for one that is not
pub mark-there : (marks : List Bool) (x : ℕ) (d : Bool) → x < length marks → slice_index_or marks x false ≡ slice_index_or marks x d
mark-there marks x d h = some_value (sym (slice_get-get_or marks x false h) ∙ slice_get-get_or marks x d h)

-- a node is marked and is found from then on
pub marks-fresh : (n : ℕ) (found : List ℕ) (marks : List Bool) (x : ℕ) → AreMarked n found marks → x < n → AreMarked n (found ++ x ∷ []) (slice_set marks x true)
marks-fresh n found marks x M h = (
  length-set marks x true ∙ M.0,
  λ y b. ⊎_elim
      (λ e. ap (λ z. slice_index_or (slice_set marks x true) z false) e ∙ get_or-set_same marks x true false (omega (arith, h, M.0))
      ∙ sym (list_any-append (nat_eq y) found (x ∷ []) ∙ or_right _ _ (or_left (nat_eq y x) false (eq-eqb y x e))))
      (λ other. get_or-set_other marks x y true false other ∙ M.1 y b
      ∙ sym (list_any-append (nat_eq y) found (x ∷ []) ∙ ap (λ b. list_any (nat_eq y) found || (b || false)) (ne_eqb y x other) ∙ or-false (list_any (nat_eq y) found)))
      (cases_eq y x),
)

-- ---- the entities at the empty prefix

abbrev pub place_of : Instance → Option ℕ
place_of i = option_map (λ e. e.at) (root_of i)

pub roots-within : (n : ℕ) (l : List Instance) → AreRootsBelow n l → AreNodesBelow n (filter_map place_of l)
roots-within n [] a = All-nil _
roots-within n (i ∷ l) a = go (root_of i) (All-head (λ i. IfSome (root_of i) (λ e. e.at < n)) i l a) (roots-within n l (All-tail (λ i. IfSome (root_of i) (λ e. e.at < n)) i l a))
  where
    go : (o : Option Entity) → IfSome o (λ e. e.at < n) → AreNodesBelow n (filter_map place_of l) → AreNodesBelow n (cons_option (option_map (λ e. e.at) o) (filter_map place_of l))
    go None h r = r
    go (Some e) h r = All-cons (λ x. x < n) e.at (filter_map place_of l) h r

-- ---- all nodes

-- places differ
pub places-once : (n : ℕ) → distinct nat_eq (places n) ≡ places n
places-once zero = refl
places-once (suc n) =
    once-fresh (places n) n (ap (list_any (nat_eq n)) (places-once n) ∙ none-each (λ k. nat_lt k n) (nat_eq n) (places n) (places-within n n (omega arith)) (λ k h. let l = ltb-true k n h in ne_eqb n k (λ e. omega (arith, e, l))))
    ∙ ap (λ ks. ks ++ n ∷ []) (places-once n)

rows-places : (s : ℕ) (ks : List ℕ) → filter_map place_of (map entity_instance (map (entity_at s) ks)) ≡ ks
rows-places s [] = refl
rows-places s (k ∷ ks) = ap (λ xs. k ∷ xs) (rows-places s ks)

-- the instances of a set stand at all of its entities
pub shown-all : (w : World) (s : ℕ) → shown_of (rows w s) ≡ places (count w s)
shown-all w s = ap (distinct nat_eq) (rows-places s (places (count w s))) ∙ places-once (count w s)

-- each place is below the number of places
pub places-below : (n : ℕ) → AreNodesBelow n (places n)
places-below n = all-below n (places n) (places-within n n (omega arith))

-- ---- instances whose entity at the empty prefix is a node of a hierarchy

-- two sets of one type are one
one-set : (m : Model) → IsSound m → (s t : ℕ) → option_map (λ x. x.of) (slice_get m.sets s) ≡ Some t → s ≡ set_of_type m t
one-set m M s t h =
    let x = mapped (λ x. x.of) (slice_get m.sets s) t h in
    sym (M.sets_of_types s (slice_get_within m.sets s x.0 x.1)) ∙ ap (set_of_type m) (ap (λ o. unwrap_or o 0) h)

root-below : (w : World) (N : Shape) (f : HierarchyPlace) → IsSound w.model → option_map (λ x. x.of) (slice_get w.model.sets f.set) ≡ Some f.type → root_type N ≡ Some f.type
    → (i : Instance) → fits w N i ≡ true → IfSome (root_of i) (λ e. e.at < count w f.set)
root-below w N f M of t i h = go (root_of i) refl
  where
    F : Fit w N i
    F = fit-parts w N i h

    go : (o : Option Entity) → root_of i ≡ o → IfSome o (λ e. e.at < count w f.set)
    go None e = tt
    go (Some x) e =
        let p = root-entry i x e in
        let y = entity-of w N i F [] x p.0 p.1 in
        let r = root-type_of w N i (law-from w.model N F.lawful) F x e in
        let s = then_some-parts (not (r.0).absent) (r.0).of f.type (sym (ap (option_and_then (λ r. then_some (not r.absent) r.of)) r.1) ∙ t) in
        let type : entity_type w x ≡ Some f.type = r.2 ∙ ap (λ z. Some z) s.1 in
        let set : x.set ≡ f.set = one-set w.model M x.set f.type type ∙ sym (one-set w.model M f.set f.type of) in
        let below = ltb-true x.at (count w x.set) (and_parts _ _ y.2).1 in
        subst (λ s. x.at < count w s) set below

-- instances that fit a shape whose entity at the empty prefix is a node of a hierarchy stand at its nodes
pub roots-below : (w : World) (N : Shape) (h : HierName) (f : HierarchyPlace) (l : List Instance) → IsLoaded w → hierarchy_at w.model h ≡ Some f → root_type N ≡ Some f.type → AllFit w N l → AreRootsBelow (count w f.set) l
roots-below w N h f l L at t a =
    λ k d b. root-below w N f L.model (named-parts w.model h f at).0 t (get_or l k d) (AllPass-from_list_all (fits w N) l a k d b)
