-- An expression that is typed on the shape of each branch is sure on that of the concatenation where it is sure on each of them.
use Rattle.std.proofs.Common.{◌≡◌, refl, sym, ◌∙◌, ap, true, not, List, [], ◌∷◌, Option, Some, None, inl, inr}
use Rattle.std.proofs.lemmas.Bool.{and_from, and_parts, both_ways, not-true}
use Rattle.std.specs.Prelude.{option_map, is_some}
use Rattle.std.specs.List.{list_all, list_any}
use Rattle.edm_model.specs.LookUps.{property_on}
use Rattle.edm_model.specs.Models.{Model}
use Rattle.edm_values.specs.Lists.{find_map, is_some_and}
use Rattle.edm_values.specs.Literals.{same_kind}
use Rattle.edm_values.specs.Names.{Path}
use Rattle.edm_values.specs.declared.EdmType.{EdmType}
use Rattle.edm_values.proofs.ListFacts.{none-each}
use Rattle.edm_values.proofs.OptionFacts.{chained, mapped, option_cases, same_bool, some_value, unmapped}
use Rattle.edm_values.proofs.SearchFacts.{IsAmong, find_map-member, find_map-there, member-self, none-all}
use Rattle.apply_ast.specs.Trees.{Expr}
use Rattle.context_typing.specs.Shapes.{ColumnShape, PrefixShape, Shape}
use Rattle.context_typing.specs.Typing.{column_at, is_lawful, is_risky, is_sure, is_typed, merged_column, path_kind, path_property, prefix_at, widened}
use Rattle.context_typing.proofs.LawfulLemmas.{kind-of_column, kind-of_property, lawful-parts, prefix-property}
use Rattle.context_typing.proofs.MergedShape.{agree-column, agree-prefix, agree_two, column-merged, law-merged, merged, merged-from, merged-there, same_kind-left}
use Rattle.context_typing.proofs.PathLemmas.{entry-path, longest, longest-gives}
use Rattle.context_typing.proofs.PathOrders.{none-is}
use Rattle.context_typing.proofs.ShapeLemmas.{lawful-from}
use Rattle.rewrite_laws.proofs.SureShapes.{sure-onto}

module _ (m : Model) (Ss : List Shape) (laws : list_all (is_lawful m) Ss ≡ true) (agree : list_all (λ S. list_all (agree_two m S) Ss) Ss ≡ true) where
  abbrev whole : Shape
  whole = merged m Ss laws agree

  -- where the whole has no column, no branch has one
  no-column : (p : Path) → find_map (λ S. column_at S p) Ss ≡ None → (Z : Shape) → IsAmong Ss Z → column_at Z p ≡ None
  no-column p n Z M = elim (option_cases (column_at Z p)) [
    | inl e ↦ e
    | inr c ↦ absurd (both_ways (is_some (find_map (λ S. column_at S p) Ss)) (ap is_some n) (find_map-there (λ S. column_at S p) Ss Z M (ap is_some c.1)))
  ]

  -- a path is risky in the whole where it is in some branch
  risk-merged : (p : Path) → is_risky (merged m Ss laws agree) p ≡ list_any (λ Z. is_risky Z p) Ss
  risk-merged p = ap (is_some_and (λ c. c.risky)) (column-merged m Ss laws agree p) ∙ go (find_map (λ S. column_at S p) Ss) refl
    where
      go : (o : Option ColumnShape) → find_map (λ S. column_at S p) Ss ≡ o → is_some_and (λ c. c.risky) (option_map (merged_column Ss) o) ≡ list_any (λ Z. is_risky Z p) Ss
      go (Some k) e = let t = find_map-member (λ S. column_at S p) Ss k e in ap (λ q. list_any (λ Z. is_risky Z q) Ss) (entry-path (λ x. x.path) (t.0).columns p k t.2)
      go None e = sym (none-each (λ Z. not (is_some (column_at Z p))) (λ Z. is_risky Z p) Ss (member-self Ss (λ Z. not (is_some (column_at Z p))) (λ Z M. ap (λ o. not (is_some o)) (no-column p e Z M)))
          (λ Z h. ap (is_some_and (λ c. c.risky)) (none-is (column_at Z p) (not-true _ h))))

  -- a prefix of a branch is one of the whole
  prefix-whole : (Z : Shape) → IsAmong Ss Z → (p : Path) (y : PrefixShape) → prefix_at Z p ≡ Some y → (z : PrefixShape) × (prefix_at (merged m Ss laws agree) p ≡ Some z) × (z.of ≡ y.of)
  prefix-whole Z M p y e = elim (option_cases (prefix_at whole p)) [
    | inl n ↦ absurd (both_ways (is_some (prefix_at whole p)) (ap is_some n) (merged-there m Ss laws agree Z M p (ap is_some e)))
    | inr z ↦ let t = merged-from m Ss laws agree p z.0 z.1 in (z.0, z.1, sym t.4 ∙ agree-prefix m Ss laws agree Z t.0 M t.1 p y t.2 e t.3)
  ]

  -- a path is of whole numbers in the whole where it is in a branch that types it
  whole-kinds : (Z : Shape) → IsAmong Ss Z → (p : Path) (k k' : EdmType) → path_kind m (merged m Ss laws agree) p ≡ Some k → path_kind m Z p ≡ Some k' → same_kind k EdmType.Int ≡ same_kind k' EdmType.Int
  whole-kinds Z M p k k' e f = elim (option_cases (column_at whole p)) [
    | inr c ↦
        let a = mapped (merged_column Ss) (find_map (λ S. column_at S p) Ss) c.0 (sym (column-merged m Ss laws agree p) ∙ c.1) in
        let d = find_map-member (λ S. column_at S p) Ss a.0 a.1 in
        let kind : (a.0).kind ≡ k = ap (λ x. x.kind) a.2 ∙ some_value (sym (kind-of_column m whole p c.0 c.1) ∙ e) in
        ap (λ x. same_kind x EdmType.Int) (sym kind) ∙ same_kind-left (a.0).kind k' EdmType.Int (agree-column m Ss laws agree d.0 Z d.1 M p a.0 k' d.2 f)
    | inl n ↦
        let none = unmapped (merged_column Ss) (find_map (λ S. column_at S p) Ss) (sym (column-merged m Ss laws agree p) ∙ n) in
        let r = mapped (λ x. widened x.kind) (path_property m Z p) k' (sym (kind-of_property m Z p (no-column p none Z M)) ∙ f) in
        let l = chained (λ x. property_on m (x.0).of x.1) (longest (prefix_at Z) p) r.0 r.1 in
        let g = longest-gives (prefix_at Z) p (l.0).0 (l.0).1 l.1 in
        let y = prefix-whole Z M g.0 (l.0).0 g.2 in
        let property : path_property m whole p ≡ Some r.0 = ap (path_property m whole) (sym g.1)
        ∙ prefix-property m whole (lawful-parts m whole (lawful-from m whole (law-merged m Ss laws agree))) g.0 (l.0).1 y.0 r.0 y.1 (ap (λ t. property_on m t (l.0).1) y.2 ∙ l.2) in
        let kind : k ≡ k' = some_value (sym e ∙ kind-of_property m whole p n ∙ ap (option_map (λ x. widened x.kind)) property) ∙ r.2 in
        ap (λ x. same_kind x EdmType.Int) kind
  ]

  pub merged-sure : (Z : Shape) → IsAmong Ss Z → (e : Expr) → is_typed m (merged m Ss laws agree) e ≡ true → list_all (λ Z. is_typed m Z e) Ss ≡ true → is_sure m (merged m Ss laws agree) e ≡ list_all (λ Z. is_sure m Z e) Ss
  merged-sure Z M e t ts = same_bool (is_sure m whole e) (list_all (λ Z. is_sure m Z e) Ss)
      (λ s. member-self Ss (λ Z. is_sure m Z e) (λ Y N.
      sure-onto m (whole ∷ []) Y whole (λ q h. (and_parts (q whole) true h).0)
      (λ p h. not-true _ (N (λ Z. not (is_risky Z p)) (none-all (λ Z. is_risky Z p) Ss (sym (risk-merged p) ∙ not-true _ (and_parts (not (is_risky whole p)) true h).0))))
      (whole-kinds Y N) e t (N (λ Z. is_typed m Z e) ts) (and_from (is_sure m whole e) true s refl)))
      (λ s. sure-onto m Ss whole Z M (λ p h. risk-merged p ∙ none-each (λ Z. not (is_risky Z p)) (λ Z. is_risky Z p) Ss h (λ Z h. not-true _ h))
      (λ p k k' f g. sym (whole-kinds Z M p k' k g f)) e (M (λ Z. is_typed m Z e) ts) t s)
