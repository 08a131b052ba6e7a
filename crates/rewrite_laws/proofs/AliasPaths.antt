-- The alias of a join alone has no type behind it, so each path of a typed filter that begins with it has more names.
use Rattle.std.proofs.Common.{◌≡◌, refl, sym, ◌∙◌, ap, arith, Bool, true, ◌&&◌, List, [], ◌∷◌, length, map, not, Option, Some, None, inl, inr}
use Rattle.std.specs.Prelude.{nat_lt, is_some, option_and_then, option_map}
use Rattle.std.specs.List.{list_all}
use Rattle.std.proofs.lemmas.Bool.{and_parts, both_ways, lt-ltb, not-true, true≢false}
use Rattle.edm_values.specs.Lists.{first_some, is_nonempty}
use Rattle.edm_values.specs.Literals.{is_boolean_kind}
use Rattle.edm_values.specs.Names.{Name, Path}
use Rattle.edm_values.proofs.ListFacts.{all-both, all-each}
use Rattle.edm_values.proofs.OptionFacts.{option_cases}
use Rattle.edm_values.proofs.SameTexts.{same_texts, text-self}
use Rattle.edm_values.proofs.SearchFacts.{find-joined, found-all}
use Rattle.edm_model.specs.Models.{Model, Property}
use Rattle.edm_model.specs.LookUps.{property_on}
use Rattle.apply_ast.specs.Trees.{Expr, OptPipe}
use Rattle.context_typing.specs.Paths.{at_path, begins, same_path}
use Rattle.context_typing.specs.Shapes.{ColumnShape, PrefixShape, RootShape, Shape}
use Rattle.context_typing.specs.Typing.{Customs, column_at, column_under, has_kind, is_free, joined_shape, path_kind, path_property, prefix_at, widened}
use Rattle.context_typing.proofs.PathLemmas.{entry-path}
use Rattle.context_typing.proofs.ShapeLemmas.{Law}
use Rattle.context_typing.proofs.ShapeSteps.{free-column, free-member, no-property}
use Rattle.context_typing.proofs.TableLemmas.{under-cons}
use Rattle.rewrite_laws.specs.Rewrites.{paths}
use Rattle.rewrite_laws.proofs.RelatedRule.{IsJoin}
use Rattle.rewrite_laws.proofs.RuleLemmas.{has_kind-typed}
use Rattle.rewrite_laws.proofs.TypedPaths.{paths-typed}

-- a table without the empty path has no entry there
none-at_root : (cs : List ColumnShape) → list_all (λ c. is_nonempty c.path) cs ≡ true → at_path (λ c. c.path) cs [] ≡ None
none-at_root cs h = elim (option_cases (at_path (λ c. c.path) cs [])) [
  | inl n ↦ n
  | inr x ↦
      let path = entry-path (λ c. c.path) cs [] x.0 x.1 in
      absurd (true≢false (sym (found-all (λ c. same_path c.path []) (λ c. is_nonempty c.path) cs x.0 x.1 h) ∙ ap is_nonempty path))
]

module _ (m : Model) (outer : Bool) (a : Name) (S R : Shape) (LR : Law m R) (free : is_free m S a ≡ true) (r : RootShape) (root : S.root ≡ Some r) where
  -- no column of the shape before the join is the alias
  own-column : column_at S (a ∷ []) ≡ None
  own-column = elim (option_cases (column_at S (a ∷ []))) [
    | inl n ↦ n
    | inr x ↦
        let path = entry-path (λ c. c.path) S.columns (a ∷ []) x.0 x.1 in
        let no = found-all (λ c. same_path c.path (a ∷ [])) (λ c. not (begins a c.path)) S.columns x.0 x.1 (free-column m S a free) in
        absurd (both_ways (begins a (a ∷ [])) (sym (ap (begins a) path) ∙ not-true _ no) (text-self a))
  ]

  alias-column : column_at (joined_shape outer a S R) (a ∷ []) ≡ None
  alias-column =
      find-joined (λ c. same_path c.path (a ∷ [])) S.columns (map (column_under outer a) R.columns)
      ∙ (λ i. first_some (own-column i) ((under-cons (λ c. c.path) a (column_under outer a) (λ c. refl) R.columns [] ∙ ap (option_map (column_under outer a)) (none-at_root R.columns LR.column_paths)) i))

  alias-property : path_property m (joined_shape outer a S R) (a ∷ []) ≡ None
  alias-property = go (prefix_at J (a ∷ []))
    where
      J : Shape
      J = joined_shape outer a S R

      leads : Option (PrefixShape × Path) → Option Property
      leads = option_and_then (λ x. property_on m (x.0).of x.1)

      at_root : prefix_at J [] ≡ Some (record { path = []; of = r.of; absent = r.absent })
      at_root = ap (λ o. at_path (λ x. x.path) (elim o [ None ↦ J.prefixes | Some r ↦ record { path = []; of = r.of; absent = r.absent } ∷ J.prefixes ]) []) root

      go : (o : Option PrefixShape) → leads (first_some (option_map (λ x. (x, [])) o) (first_some {X = PrefixShape × Path} (option_map (λ x. (x, a ∷ [])) (prefix_at J [])) None)) ≡ None
      go None = ap (λ u. leads (first_some {X = PrefixShape × Path} (option_map (λ x. (x, a ∷ [])) u) None)) at_root ∙ no-property m r.of a [] (free-member m S a free r root)
      go (Some x) = refl

  alias-kind : path_kind m (joined_shape outer a S R) (a ∷ []) ≡ None
  alias-kind = λ i. elim (alias-column i) [ Some c ↦ Some c.kind | None ↦ option_map (λ x. widened x.kind) (alias-property i) ]

  -- a typed path that begins with the alias has more names
  pub has_more : (p : Path) → (begins a p && is_some (path_kind m (joined_shape outer a S R) p)) ≡ true → nat_lt 1 (length p) ≡ true
  has_more [] h = cc
  has_more (n ∷ []) h =
      let t = and_parts (begins a (n ∷ [])) _ h in
      absurd (true≢false (sym t.1 ∙ (λ i. is_some (path_kind m (joined_shape outer a S R) (sym (same_texts a n t.0) i ∷ []))) ∙ ap is_some alias-kind))
  has_more (n ∷ n' ∷ p) h = lt-ltb 1 (length (n ∷ n' ∷ p)) (omega arith)

-- so has each path of a filter typed behind a join, where all begin with the alias
pub related-longer : (m : Model) (c : Customs) (S S1 : Shape) (outer : Bool) (n a : Name) (T : OptPipe) → IsJoin m c S outer n a T S1 → (b : Expr) → list_all (begins a) (paths b) ≡ true → has_kind is_boolean_kind m S1 b ≡ true
    → list_all (λ p. nat_lt 1 (length p)) (paths b) ≡ true
related-longer m c S S1 outer n a T J b under boolean =
    let kinds = paths-typed m S1 b (has_kind-typed m S1 b boolean) in
    let both = all-both (begins a) (λ p. is_some (path_kind m S1 p)) (paths b) under kinds in
    all-each (λ p. begins a p && is_some (path_kind m S1 p)) (λ p. nat_lt 1 (length p)) (paths b) both
    (λ p h. has_more m outer a S J.inner J.inner_law J.free J.root J.root_is p (ap (λ Z. begins a p && is_some (path_kind m Z p)) J.shape_is ∙ h))
