-- The instances that a step makes fit the shape that it leads to: steps that choose and compute.
use Rattle.std.proofs.Common.{◌≡◌, refl, sym, ◌∙◌, ap, ℕ, Bool, true, false, ◌&&◌, ◌||◌, not, List, [], ◌∷◌, Option, Some, None, IsTrue, map}
use Rattle.std.specs.Prelude.{option_and_then, option_map, is_some, slice_get}
use Rattle.std.specs.List.{list_all}
use Rattle.std.proofs.lemmas.Bool.{and_parts, and_from, or_right, not_from_false}
use Rattle.edm_values.proofs.ListFacts.{all-at, all-filter_map, all-map}
use Rattle.edm_values.proofs.OptionFacts.{all_some-parts, and_3, chained, mapped, none_or, some_value, then_some-parts}
use Rattle.edm_values.specs.Lists.{all_some, at_places}
use Rattle.edm_values.specs.Names.{Name, Path}
use Rattle.edm_values.specs.Values.{is_beyond, same_value}
use Rattle.edm_values.specs.declared.Value.{Value}
use Rattle.edm_model.specs.LookUps.{property_on}
use Rattle.edm_model.specs.Models.{Property}
use Rattle.edm_data.specs.References.{entity_type}
use Rattle.edm_data.specs.Worlds.{Entity, World}
use Rattle.apply_ast.specs.Trees.{Named}
use Rattle.context_typing.proofs.MergedShape.{at-root, root_entry}
use Rattle.context_typing.proofs.PathLemmas.{path-self}
use Rattle.context_typing.proofs.ShapeLemmas.{Law}
use Rattle.context_typing.proofs.ShapeSteps.{free-member, no-property}
use Rattle.context_typing.proofs.TypingLaw.{computed-apart, computed-paths}
use Rattle.context_typing.specs.Paths.{at_path, same_path}
use Rattle.context_typing.specs.Shapes.{ColumnShape, RootShape, Shape}
use Rattle.context_typing.specs.Typing.{compute_shape, expr_kind, is_free, is_lawful, is_sure, new_column}
use Rattle.apply_meaning.proofs.ExprLemmas.{val-fits}
use Rattle.apply_meaning.proofs.FitLemmas.{Fit, fit-parts, fit-whole}
use Rattle.apply_meaning.proofs.FitMore.{fit-more, in_order}
use Rattle.apply_meaning.proofs.LookupLemmas.{entity-of, entity-type, lookup-fits}
use Rattle.apply_meaning.proofs.SureLemmas.{sure-within}
use Rattle.apply_meaning.proofs.WellTyped.{IsWellTyped}
use Rattle.apply_meaning.specs.Instances.{Instance, column_fits, fits, is_rooted, root_of, val, value_on, extended}
use Rattle.apply_meaning.specs.Meaning.{column}
use Rattle.apply_meaning.specs.MeaningLaws.{AllFit}

-- chosen instances
pub fit-at_places : (w : World) (S : Shape) (l : List Instance) (ks : List ℕ) → AllFit w S l → AllFit w S (at_places l ks)
fit-at_places w S l ks a = all-filter_map (fits w S) (slice_get l) ks (λ k i e. all-at (fits w S) l k i a e)

-- the entity at the empty prefix
pub root-entry : (i : Instance) (e : Entity) → root_of i ≡ Some e → (f : Path) × (at_path (λ x. x.0) i.prefixes [] ≡ Some (f, Some e))
root-entry i e h =
    let x = chained (λ x. x.1) (at_path (λ x. x.0) i.prefixes []) e h in
    ((x.0).0, x.1 ∙ (λ j. Some ((x.0).0, x.2 j)))

pub root-type_of : (w : World) (S : Shape) (i : Instance) → Law w.model S → Fit w S i → (e : Entity) → root_of i ≡ Some e → (r : RootShape) × (S.root ≡ Some r) × (entity_type w e ≡ Some r.of)
root-type_of w S i L F e h =
    let f = root-entry i e h in
    let y = entity-of w S i F [] e f.0 f.1 in
    let r = mapped root_entry S.root y.0 (sym (at-root S L.prefix_paths) ∙ y.1) in
    (r.0, r.1, entity-type w (y.0).of e y.2 ∙ ap (λ z. Some z.of) (sym r.2))

-- what a column over a property of the root must have
pub rooted-from : (w : World) (i : Instance) (c : Path × Value)
    → ((e : Entity) (t : ℕ) (q : Property) → root_of i ≡ Some e → entity_type w e ≡ Some t → property_on w.model t c.0 ≡ Some q → same_value c.1 (value_on w e c.0) ≡ true) → is_rooted w i c ≡ true
rooted-from w i c h = go (root_of i) refl
  where
    inner : (e : Entity) → root_of i ≡ Some e → (o : Option Property) → option_and_then (λ t. property_on w.model t c.0) (entity_type w e) ≡ o
        → elim o [ None ↦ true | Some q ↦ same_value c.1 (value_on w e c.0) ] ≡ true
    inner e k None g = refl
    inner e k (Some q) g = let t = chained (λ t. property_on w.model t c.0) (entity_type w e) q g in h e t.0 q k t.1 t.2

    go : (o : Option Entity) → root_of i ≡ o
        → elim o [ None ↦ true | Some e ↦ elim (option_and_then (λ t. property_on w.model t c.0) (entity_type w e)) [ None ↦ true | Some q ↦ same_value c.1 (value_on w e c.0) ] ] ≡ true
    go None k = refl
    go (Some e) k = inner e k (option_and_then (λ t. property_on w.model t c.0) (entity_type w e)) refl

-- a free name leads nowhere from the root
pub rooted-free : (w : World) (S : Shape) (i : Instance) → Law w.model S → Fit w S i → (n : Name) (q : Path) (v : Value) → is_free w.model S n ≡ true → is_rooted w i (n ∷ q, v) ≡ true
rooted-free w S i L F n q v f = rooted-from w i (n ∷ q, v) (λ e t p h k g.
    let r = root-type_of w S i L F e h in
    let same = some_value (sym k ∙ r.2) in
    none_or p (sym (no-property w.model (r.0).of n q (free-member w.model S n f r.0 r.1)) ∙ ap (λ z. property_on w.model z (n ∷ q)) (sym same) ∙ g))

-- a computation
module _ (w : World) (P : IsWellTyped w) (S : Shape) (i : Instance) (L : Law w.model S) (F : Fit w S i) where
  computed-fits : (x : Named) (k : ColumnShape) → is_free w.model S x.name ≡ true → option_map (λ k. new_column x.name k (not (is_sure w.model S x.expr))) (expr_kind w.model S x.expr) ≡ Some k
      → (same_path (x.name ∷ []) k.path && column_fits w i (x.name ∷ [], val w i x.expr) k) ≡ true
  computed-fits x k f e =
      let t = mapped (λ k. new_column x.name k (not (is_sure w.model S x.expr))) (expr_kind w.model S x.expr) k e in
      ap (λ k. same_path (x.name ∷ []) k.path && column_fits w i (x.name ∷ [], val w i x.expr) k) (sym t.2)
      ∙ and_from _ _ (path-self (x.name ∷ []))
      (and_from _ _ (and_from _ _ (val-fits w S i (λ p k h. lookup-fits w P S i p k F h) x.expr t.0 t.1) (sure-or (is_sure w.model S x.expr) (λ s. sure-within w P S i F x.expr (or_right _ _ (ap is_some t.1)) s)))
      (rooted-free w S i L F x.name [] (val w i x.expr) f))
    where
      sure-or : (b : Bool) → (b ≡ true → is_beyond (val w i x.expr) ≡ false) → (not b || not (is_beyond (val w i x.expr))) ≡ true
      sure-or true h = not_from_false _ (h refl)
      sure-or false h = refl

  computed-order : (ns : List Named) (ks : List ColumnShape) → list_all (λ x. is_free w.model S x.name) ns ≡ true
      → all_some (map (λ x. option_map (λ k. new_column x.name k (not (is_sure w.model S x.expr))) (expr_kind w.model S x.expr)) ns) ≡ Some ks
      → in_order (column_fits w i) (map (λ x. column x.name (val w i x.expr)) ns) ks ≡ true
  computed-order [] ks f e = ap (in_order (column_fits w i) []) (sym (some_value e))
  computed-order (x ∷ ns) ks f e =
      let t = all_some-parts (option_map (λ k. new_column x.name k (not (is_sure w.model S x.expr))) (expr_kind w.model S x.expr)) _ ks e in
      let g = and_parts (is_free w.model S x.name) _ f in
      ap (in_order (column_fits w i) (map (λ x. column x.name (val w i x.expr)) (x ∷ ns))) (sym t.4) ∙ and_from _ _ (computed-fits x t.0 g.0 t.1) (computed-order ns t.2 g.1 t.3)

pub compute-fits : (w : World) → IsWellTyped w → (S S' : Shape) (ns : List Named) (l : List Instance) → Law w.model S → IsTrue (is_lawful w.model S') → compute_shape w.model S ns ≡ Some S' → AllFit w S l
    → AllFit w S' (map (λ i. extended i (map (λ x. column x.name (val w i x.expr)) ns)) l)
compute-fits w P S S' ns l L law e a =
    let t = chained _ (all_some (map (λ x. option_map (λ k. new_column x.name k (not (is_sure w.model S x.expr))) (expr_kind w.model S x.expr)) ns)) S' e in
    let u = then_some-parts _ _ S' t.2 in
    let v = and_3 _ _ _ u.0 in
    all-map (fits w S) (fits w S') (λ i. extended i (map (λ x. column x.name (val w i x.expr)) ns)) l a (λ i f.
    ap (λ T. fits w T (extended i (map (λ x. column x.name (val w i x.expr)) ns))) (sym u.1)
    ∙ fit-whole w _ _ (fit-more w S t.0 i (map (λ x. column x.name (val w i x.expr)) ns) (fit-parts w S i f) (ap (is_lawful w.model) u.1 ∙ law) v.1
    (computed-apart w.model S ns t.0 v.2 (computed-paths w.model S ns t.0 t.1)) (computed-order w P S i L (fit-parts w S i f) ns t.0 v.2 t.1)))
