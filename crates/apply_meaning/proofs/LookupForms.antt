-- Look-ups as the program makes them: by the fronts of a path, and by names of navigations.
use Rattle.std.proofs.Common.{◌≡◌, ℕ, zero, suc, ◌+◌, ◌-◌, ◌<◌, ◌≤◌, length, take, drop, refl, sym, ◌∙◌, ap, Bool, true, false, List, [], ◌∷◌, ◌++◌, Option, Some, None, arith, map, inl, inr}
use Rattle.std.specs.Prelude.{option_map, option_and_then, unwrap_or, slice_get, is_some, if◌then◌else◌, IfSome}
use Rattle.edm_values.specs.declared.Value.{Value}
use Rattle.edm_values.specs.Lists.{find_map, first_some, same_text}
use Rattle.edm_values.specs.Names.{Name, Path}
use Rattle.edm_values.proofs.OptionFacts.{mapped, chained, option_cases, unmapped}
use Rattle.edm_values.proofs.SearchFacts.{found-all, found-numbered_at}
use Rattle.edm_values.proofs.ListFacts.{none-past}
use Rattle.edm_model.specs.Models.{Part, Navigation, EntitySet, EntityType}
use Rattle.edm_model.specs.LookUps.{IsSet, set_type, type_at, found_part, navigation_named, item_named}
use Rattle.edm_data.specs.Worlds.{World, Entity}
use Rattle.edm_data.specs.References.{entity_type, referred, follow}
use Rattle.context_typing.specs.Paths.{same_path, at_path, splits, is_none_or}
use Rattle.apply_meaning.specs.Instances.{Instance, named_reference, value_behind, prefix_value, root_of}
use Rattle.apply_meaning.specs.RowViews.{is_of, with_root}
use Rattle.apply_meaning.proofs.RowLemmas.{Prefix, front-found}

-- ---- entities of rows

within : {X : Type 0} (xs : List X) (k : ℕ) → is_some (slice_get xs k) ≡ true → k < length xs
within [] k h = absurd (cc)
within (x ∷ xs) zero h = omega arith
within (x ∷ xs) (suc k) h = let r = within xs k h in omega (arith, r)

typed-set : (w : World) (e : Entity) → is_some (entity_type w e) ≡ true → IsSet w.model e.set
typed-set w e h = within w.model.sets e.set (go (slice_get w.model.sets e.set) h)
  where
    go : (o : Option EntitySet) → is_some (option_map (λ s. s.of) o) ≡ true → is_some o ≡ true
    go None k = k
    go (Some x) k = refl

typed-bound : (w : World) (o : Option Entity) → is_none_or (λ e. is_some (entity_type w e)) o ≡ true → IfSome o (λ e. IsSet w.model e.set)
typed-bound w None h = tt
typed-bound w (Some e) h = typed-set w e h

-- what stands at a prefix of a row of the data is of the data
pub bound-is_of : (w : World) (i : Instance) (p : Path) (o : Option Entity) → is_of w i ≡ true → option_map (λ x. x.1) (at_path (λ x. x.0) i.prefixes p) ≡ Some o → IfSome o (λ e. IsSet w.model e.set)
bound-is_of w i p o h k =
    let x = mapped (λ (x : Prefix). x.1) (at_path (λ x. x.0) i.prefixes p) o k in
    let t : is_none_or (λ e. is_some (entity_type w e)) (x.0).1 ≡ true = found-all (λ (y : Prefix). same_path y.0 p) (λ y. is_none_or (λ e. is_some (entity_type w e)) y.1) i.prefixes x.0 x.1 h in
    typed-bound w o (ap (is_none_or (λ e. is_some (entity_type w e))) (sym x.2) ∙ t)

-- and so is the entity at the empty prefix
pub root-is_of : (w : World) (i : Instance) → is_of w i ≡ true → IfSome (root_of i) (λ e. IsSet w.model e.set)
root-is_of w i h = go (at_path (λ x. x.0) i.prefixes []) refl
  where
    go : (o : Option Prefix) → at_path (λ x. x.0) i.prefixes [] ≡ o → IfSome (option_and_then (λ x. x.1) o) (λ e. IsSet w.model e.set)
    go None k = tt
    go (Some x) k = bound-is_of w i [] x.1 h (ap (option_map (λ (x : Prefix). x.1)) k)

-- ---- the longest front

-- a path cut in two, with at most this many names in the front, the longest front first
abbrev fronts : Path → ℕ → List (Path × Path)
fronts p zero = ([], p) ∷ []
fronts p (suc k) = (take (suc k) p, drop (suc k) p) ∷ fronts p k

abbrev behind : World → Option (Prefix × Path) → Option Value
behind w o = option_and_then (λ (x : Prefix × Path). option_and_then (value_behind w x.1) (x.0).1) o

abbrev found : Instance → Path × Path → Option (Prefix × Path)
found i c = option_map (λ x. (x, c.1)) (at_path (λ x. x.0) i.prefixes c.0)

-- what a path leads to from the entity at the longest prefix among these fronts
abbrev pub front_value : World → Instance → Path → ℕ → Option Value
front_value w i p k = behind w (find_map (found i) (fronts p k))

-- a front of one more name that is a prefix
pub front-hit : (w : World) (i : Instance) (p : Path) (k : ℕ) (o : Option Entity) → option_map (λ x. x.1) (at_path (λ x. x.0) i.prefixes (take (suc k) p)) ≡ Some o → front_value w i p (suc k) ≡ option_and_then (value_behind w (drop (suc k) p)) o
front-hit w i p k o h =
    let x = mapped (λ (x : Prefix). x.1) (at_path (λ x. x.0) i.prefixes (take (suc k) p)) o h in
    ap (λ a. behind w (first_some (option_map (λ y. (y, drop (suc k) p)) a) (find_map (found i) (fronts p k)))) x.1
    ∙ ap (option_and_then (value_behind w (drop (suc k) p))) x.2

-- and one that is none
pub front-shorter : (w : World) (i : Instance) (p : Path) (k : ℕ) → option_map (λ x. x.1) (at_path (λ x. x.0) i.prefixes (take (suc k) p)) ≡ None → front_value w i p (suc k) ≡ front_value w i p k
front-shorter w i p k h = ap (λ a. behind w (first_some (option_map (λ y. (y, drop (suc k) p)) a) (find_map (found i) (fronts p k)))) (unmapped (λ (x : Prefix). x.1) (at_path (λ x. x.0) i.prefixes (take (suc k) p)) h)

-- the same of the front behind which one more name is left, among the prefixes of a row
pub next-hit : (w : World) (i : Instance) (ps : List Prefix) (p : Path) (k : ℕ) (o : Option Entity) → i.prefixes ≡ with_root (root_of i) ps → 0 < k → k ≤ length p → option_map (λ x. x.1) (at_path (λ x. x.0) ps (take (k - 1 + 1) p)) ≡ Some o → front_value w i p k ≡ option_and_then (value_behind w (drop (k - 1 + 1) p)) o
next-hit w i ps p zero o h l m f = absurd (omega (arith, l))
next-hit w i ps p (suc k) o h l m f =
    let e : suc k - 1 + 1 ≡ suc k = omega arith in
    front-hit w i p k o (ap (option_map (λ (x : Prefix). x.1)) (front-found i.prefixes ps (root_of i) p k h (omega (arith, m)) ∙ ap (λ n. at_path (λ (x : Prefix). x.0) ps (take n p)) (sym e)) ∙ f)
    ∙ ap (λ n. option_and_then (value_behind w (drop n p)) o) (sym e)

pub next-shorter : (w : World) (i : Instance) (ps : List Prefix) (p : Path) (k : ℕ) → i.prefixes ≡ with_root (root_of i) ps → 0 < k → k ≤ length p → option_map (λ x. x.1) (at_path (λ x. x.0) ps (take (k - 1 + 1) p)) ≡ None → front_value w i p k ≡ front_value w i p (k - 1)
next-shorter w i ps p zero h l m f = absurd (omega (arith, l))
next-shorter w i ps p (suc k) h l m f =
    let e : suc k - 1 + 1 ≡ suc k = omega arith in
    front-shorter w i p k (ap (option_map (λ (x : Prefix). x.1)) (front-found i.prefixes ps (root_of i) p k h (omega (arith, m)) ∙ ap (λ n. at_path (λ (x : Prefix). x.0) ps (take n p)) (sym e)) ∙ f)
    ∙ ap (front_value w i p) (let g : k ≡ suc k - 1 = omega arith in g)

pub next-bound : (w : World) (i : Instance) (ps : List Prefix) (p : Path) (k : ℕ) (o : Option Entity) → is_of w i ≡ true → i.prefixes ≡ with_root (root_of i) ps → 0 < k → k ≤ length p → option_map (λ x. x.1) (at_path (λ x. x.0) ps (take (k - 1 + 1) p)) ≡ Some o → IfSome o (λ e. IsSet w.model e.set)
next-bound w i ps p zero o r h l m f = absurd (omega (arith, l))
next-bound w i ps p (suc k) o r h l m f =
    let e : suc k - 1 + 1 ≡ suc k = omega arith in
    bound-is_of w i (take (suc k) p) o r (ap (option_map (λ (x : Prefix). x.1)) (front-found i.prefixes ps (root_of i) p k h (omega (arith, m)) ∙ ap (λ n. at_path (λ (x : Prefix). x.0) ps (take n p)) (sym e)) ∙ f)

-- the empty front alone
pub front-root : (w : World) (i : Instance) (p : Path) → front_value w i p 0 ≡ option_and_then (value_behind w p) (root_of i)
front-root w i p = go (at_path (λ x. x.0) i.prefixes [])
  where
    go : (o : Option Prefix) → behind w (first_some (option_map (λ y. (y, p)) o) None) ≡ option_and_then (value_behind w p) (option_and_then (λ x. x.1) o)
    go None = refl
    go (Some x) = refl

fronts-longer : (n : Name) (p : Path) (k : ℕ) → map (λ x. (n ∷ x.0, x.1)) (fronts p k) ++ ([], n ∷ p) ∷ [] ≡ fronts (n ∷ p) (suc k)
fronts-longer n p zero = refl
fronts-longer n p (suc k) = ap (λ xs. (n ∷ take (suc k) p, drop (suc k) p) ∷ xs) (fronts-longer n p k)

splits-fronts : (p : Path) → splits p ≡ fronts p (length p)
splits-fronts [] = refl
splits-fronts (n ∷ p) = ap (λ xs. map (λ (x : Path × Path). (n ∷ x.0, x.1)) xs ++ ([], n ∷ p) ∷ []) (splits-fronts p) ∙ fronts-longer n p (length p)

-- all fronts
pub fronts-whole : (w : World) (i : Instance) (p : Path) → front_value w i p (length p) ≡ prefix_value w i p
fronts-whole w i p = ap (λ cs. behind w (find_map (found i) cs)) (sym (splits-fronts p))

-- ---- navigation by name

abbrev follows : World → Entity → Navigation → Option Entity
follows w e x = if x.many then None else referred w e x

abbrev one : ℕ × Navigation → Option Navigation
one x = if (x.1).many then None else Some x.1

pub follow-named : (w : World) (e : Entity) (n : Name) (t k : ℕ) (r : Part) → IsSet w.model e.set → t ≡ set_type w.model e.set → Some r ≡ found_part t (navigation_named w.model t n) → k ≡ r.at → follow w e k ≡ named_reference w n e
follow-named w e n t k r s h f z = elim (option_cases (slice_get w.model.sets e.set)) [
  | inl g ↦ absurd (let u : e.set < length w.model.sets = s in let v = none-past w.model.sets e.set g in omega (arith, u, v))
  | inr g ↦
      let of : t ≡ (g.0).of = h ∙ ap (λ o. unwrap_or (option_map (λ (x : EntitySet). x.of) o) 0) g.1 in
      let x = mapped (λ (x : ℕ × Navigation). record { of = t; at = x.0 }) (navigation_named w.model t n) r (sym f) in
      let E = chained (λ (E : EntityType). item_named (λ (v : Navigation). v.name) n E.navigations) (type_at w.model t) x.0 x.1 in
      let at : slice_get (E.0).navigations k ≡ Some (x.0).1 = ap (slice_get (E.0).navigations) (z ∙ ap (λ (p : Part). p.at) (sym x.2)) ∙ found-numbered_at (λ y. same_text (y.1).name n) (E.0).navigations x.0 E.2 in
      ap (λ o. option_and_then (follows w e) (option_and_then (λ (T : EntityType). slice_get T.navigations k) (option_and_then (λ (es : EntitySet). type_at w.model es.of) o))) g.1
      ∙ ap (λ u. option_and_then (follows w e) (option_and_then (λ (T : EntityType). slice_get T.navigations k) (type_at w.model u))) (sym of)
      ∙ ap (λ o. option_and_then (follows w e) (option_and_then (λ (T : EntityType). slice_get T.navigations k) o)) E.1
      ∙ ap (option_and_then (follows w e)) at
      ∙ either (((x.0).1).many) (x.0).1
      ∙ ap (λ o. option_and_then (referred w e) (option_and_then one o)) (sym x.1)
      ∙ ap (λ u. option_and_then (referred w e) (option_and_then one (navigation_named w.model u n))) of
      ∙ ap (λ o. option_and_then (referred w e) (option_and_then (λ u. option_and_then one (navigation_named w.model u n)) (option_map (λ (x : EntitySet). x.of) o))) (sym g.1)
]
  where
    either : (b : Bool) (v : Navigation) → (if b then None else referred w e v) ≡ option_and_then (referred w e) (if b then None else Some v)
    either true v = refl
    either false v = refl
