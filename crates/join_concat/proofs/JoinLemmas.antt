-- What a run of joins needs: instances that fit a shape leave its free names free and have an entity of its root's type, and lists of results are bound in order.
use Rattle.std.proofs.Common.{◌≡◌, refl, sym, ◌∙◌, ap, ℕ, Bool, true, false, ◌&&◌, ◌||◌, not, List, [], ◌∷◌, ◌++◌, Option, Some, None, map}
use Rattle.std.specs.Prelude.{◌==◌, option_and_then, option_map, flat_map, is_none}
use Rattle.std.specs.Bool.{then_some}
use Rattle.std.specs.List.{list_all, list_any}
use Rattle.std.proofs.lemmas.Bool.{and_from, both_ways, eq-eqb, false_from_ne_true, not-true, not_from_false, or_from}
use Rattle.edm_values.proofs.ListFacts.{all-each, none-each}
use Rattle.edm_values.proofs.OptionFacts.{and_3, none_or, some_and, then_some-parts}
use Rattle.edm_values.proofs.SameTexts.{same_texts}
use Rattle.edm_values.proofs.SearchFacts.{found-all, none-all}
use Rattle.edm_values.specs.Lists.{all_some, is_some_and}
use Rattle.edm_values.specs.Names.{Name, Path}
use Rattle.edm_data.specs.References.{entity_type}
use Rattle.edm_data.specs.Worlds.{Entity, World}
use Rattle.context_typing.proofs.PathLemmas.{entry-path}
use Rattle.context_typing.proofs.ShapeLemmas.{law-from, begins-behind}
use Rattle.context_typing.proofs.ShapeSteps.{free-column, free-prefix}
use Rattle.context_typing.specs.Paths.{begins, is_none_or, is_proper_prefix, same_path}
use Rattle.context_typing.specs.Shapes.{PrefixShape, Shape}
use Rattle.context_typing.specs.Typing.{column_at, is_free, prefix_at, root_type}
use Rattle.apply_meaning.proofs.FitLemmas.{Fit, fit-parts}
use Rattle.apply_meaning.proofs.MeanLemmas.{root-type_of}
use Rattle.apply_meaning.specs.Instances.{Instance, column_fits, fits, prefix_fits, prefix_fits_at, root_of}
use Rattle.apply_meaning.specs.Meaning.{Outcome, bound_to, joined}
use Rattle.apply_meaning.specs.MeaningLaws.{AllFit}
use Rattle.join_concat.specs.Joins.{bound_rows, has_root_of, is_free_of}

-- ---- a name that is free in a shape begins no place of an instance that fits it

-- no path behind one that begins with a name is among those that do not
none-behind : {X : Type 0} (path : X → Path) (a : Name) (p : Path) (xs : List X) → begins a p ≡ true → list_all (λ x. not (begins a (path x))) xs ≡ true → list_any (λ x. is_proper_prefix p (path x)) xs ≡ false
none-behind path a p xs b h =
    none-each (λ x. not (begins a (path x))) (λ x. is_proper_prefix p (path x)) xs h
    (λ x k. false_from_ne_true _ (λ z. both_ways (begins a (path x)) (not-true _ k) (begins-behind a p (path x) b z)))

module _ (w : World) (S : Shape) (a : Name) (free : is_free w.model S a ≡ true) (i : Instance) (F : Fit w S i) where
  prefix-apart : (p : Path) (y : Option Entity) (o : Option PrefixShape) → prefix_at S p ≡ o → begins a p ≡ true → prefix_fits_at w S i (p, y) o ≡ true → ⊥
  prefix-apart [] y o e b h = cc
  prefix-apart (n ∷ p) y (Some z) e b h = none_or z (sym (free-prefix w.model S a free p) ∙ (λ i. prefix_at S (same_texts a n b i ∷ p)) ∙ e)
  prefix-apart (n ∷ p) y None e b h =
      let t = and_3 (is_none y && true) (list_any (λ c. is_proper_prefix (n ∷ p) c.path) S.columns || list_any (λ z. is_proper_prefix (n ∷ p) z.path) S.prefixes) _ h in
      both_ways _ (or_from _ _ (none-behind (λ c. c.path) a (n ∷ p) S.columns b (free-column w.model S a free))
      (none-behind (λ z. z.path) a (n ∷ p) S.prefixes b (none-all (λ x. begins a x.path) S.prefixes (not-true _ (and_3 _ _ _ free).1)))) t.1

  -- no prefix begins with it
  prefixes-apart : list_all (λ x. not (begins a x.0)) i.prefixes ≡ true
  prefixes-apart = all-each (prefix_fits w S i) (λ x. not (begins a x.0)) i.prefixes F.prefixes_fit (λ x h. not_from_false _ (false_from_ne_true _ (λ b. prefix-apart x.0 x.1 (prefix_at S x.0) refl b h)))

  -- no column begins with it
  columns-apart : list_all (λ c. not (begins a c.0)) i.columns ≡ true
  columns-apart = all-each (λ c. is_some_and (column_fits w i c) (column_at S c.0)) (λ c. not (begins a c.0)) i.columns F.columns_fit (λ c h.
      let k = some_and (column_fits w i c) (column_at S c.0) h in
      ap (λ p. not (begins a p)) (sym (entry-path (λ x. x.path) S.columns c.0 k.0 k.1)) ∙ found-all (λ x. same_path x.path c.0) (λ x. not (begins a x.path)) S.columns k.0 k.1 (free-column w.model S a free))

  free-of : is_free_of a i ≡ true
  free-of = and_from _ _ (not_from_false _ (none-each (λ x. not (begins a x.0)) (λ x. begins a x.0) i.prefixes prefixes-apart (λ x h. not-true _ h)))
      (not_from_false _ (none-each (λ c. not (begins a c.0)) (λ c. begins a c.0) i.columns columns-apart (λ c h. not-true _ h)))

pub fit-free : (w : World) (S : Shape) (a : Name) (l : List Instance) → is_free w.model S a ≡ true → AllFit w S l → list_all (is_free_of a) l ≡ true
fit-free w S a l free h = all-each (fits w S) (is_free_of a) l h (λ i f. free-of w S a free i (fit-parts w S i f))

-- ---- the entity at the empty prefix

root-fits : (w : World) (S : Shape) (t : ℕ) (i : Instance) → root_type S ≡ Some t → Fit w S i → has_root_of w t i ≡ true
root-fits w S t i e F = go (root_of i) refl
  where
    go : (o : Option Entity) → root_of i ≡ o → is_none_or (λ e. is_some_and (λ t'. t' == t) (entity_type w e)) o ≡ true
    go None h = refl
    go (Some x) h =
        let r = root-type_of w S i (law-from w.model S F.lawful) F x h in
        let s = then_some-parts (not (r.0).absent) (r.0).of t (sym (ap (option_and_then (λ r. then_some (not r.absent) r.of)) r.1) ∙ e) in
        ap (is_some_and (λ t'. t' == t)) r.2 ∙ eq-eqb (r.0).of t s.1

pub fit-root : (w : World) (S : Shape) (t : ℕ) (l : List Instance) → root_type S ≡ Some t → AllFit w S l → list_all (has_root_of w t) l ≡ true
fit-root w S t l e h = all-each (fits w S) (has_root_of w t) l h (λ i f. root-fits w S t i e (fit-parts w S i f))

-- ---- instances bound to their results, one after the other

pub joined-bound : (outer : Bool) (a : Name) (f : Instance → Outcome) (l : List Instance) → joined (map (λ i. option_map (bound_to outer a i) (f i)) l) ≡ option_map (bound_rows outer a l) (all_some (map f l))
joined-bound outer a f [] = refl
joined-bound outer a f (x ∷ l) = go (f x) (map (λ i. option_map (bound_to outer a i) (f i)) l) (map f l) (joined-bound outer a f l)
  where
    more : (s : List Instance) (bound results : Option (List (List Instance))) → option_map (λ ls. flat_map (λ l. l) ls) bound ≡ option_map (bound_rows outer a l) results
        → option_map (λ ls. flat_map (λ l. l) ls) (option_map (λ ys. bound_to outer a x s ∷ ys) bound) ≡ option_map (bound_rows outer a (x ∷ l)) (option_map (λ ys. s ∷ ys) results)
    more s None None e = refl
    more s (Some bs) None e = none_or _ (sym e)
    more s None (Some rs) e = none_or _ e
    more s (Some bs) (Some rs) e = ap (option_map (λ rest. bound_to outer a x s ++ rest)) e

    go : (r : Outcome) (bound results : List Outcome) → joined bound ≡ option_map (bound_rows outer a l) (all_some results)
        → joined (option_map (bound_to outer a x) r ∷ bound) ≡ option_map (bound_rows outer a (x ∷ l)) (all_some (r ∷ results))
    go None bound results e = refl
    go (Some s) bound results e = more s (all_some bound) (all_some results) e
