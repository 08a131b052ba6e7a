-- What the rules on joins make, by the form of the step at their place.
use Rattle.std.proofs.Common.{◌≡◌, refl, sym, ◌∙◌, ap, subst, ℕ, Bool, true, false, ◌&&◌, not, List, [], ◌∷◌, length, find, Some, None, if◌then◌else◌}
use Rattle.std.specs.Prelude.{nat_lt, option_map, unwrap_or}
use Rattle.std.specs.List.{list_all, list_any}
use Rattle.std.proofs.lemmas.Bool.{and_parts, true≢false}
use Rattle.edm_values.specs.Lists.{is_nonempty}
use Rattle.edm_values.specs.Literals.{is_boolean_kind}
use Rattle.edm_values.specs.Names.{Name}
use Rattle.edm_values.proofs.OptionFacts.{chained, mapped, none_or, some_there, some_value}
use Rattle.edm_model.specs.Models.{Model}
use Rattle.apply_ast.specs.Trees.{Expr, Step, pipe}
use Rattle.context_typing.specs.Paths.{begins}
use Rattle.context_typing.specs.Shapes.{Shape}
use Rattle.context_typing.specs.Outcomes.{Outcome, step_outcome}
use Rattle.context_typing.specs.Typing.{Customs, after, has_kind, is_sure, step_quiet, step_shape, steps_shape}
use Rattle.context_typing.proofs.TypingEquations.{step_quiet-Join, steps_shape-Then}
use Rattle.context_typing.proofs.WalkFacts.{outcome-parts}
use Rattle.rewrite_laws.specs.Rewrites.{behind, filter_related, movable, pass_join, pass_outer_join, passing, paths}
use Rattle.rewrite_laws.proofs.RelatedRule.{join-parts}
use Rattle.rewrite_laws.proofs.RuleLemmas.{filters-typed, movable-found, pipe-filters}
use Rattle.rewrite_rules.specs.declared.filters.Condition.{Condition}
use Rattle.rewrite_rules.specs.Conditions.{entered, meets, nearest, place_and_filter}
use Rattle.rewrite_rules.specs.Joins.{Joined, IsTypedFrom, joined_by, passing_quiet, with_filter}
use Rattle.rewrite_laws.proofs.AliasPaths.{related-longer}
use Rattle.rewrite_rules.proofs.FirstRuns.{nearest-entered, nearest-none}

-- ---- past a step that is quiet

module _ (m : Model) (c : Customs) (S : Shape) (condition : Condition) (s : Step) (ss : List Step) where
  pub quiet-given : (y : Outcome) → step_outcome m c S s ≡ Some y → y.quiet ≡ true → passing m y.shape (meets m y.shape condition) s ss ≡ passing_quiet m c S condition s ss
  quiet-given y e h =
      let p = outcome-parts (step_shape m c S s) (step_quiet m c S s) y e in
      let at : after m c S s ≡ y.shape = ap (λ o. unwrap_or o S) p.0 in
      sym (λ i. if (p.1 ∙ h) i then passing m (at i) (meets m (at i) condition) s ss else None)

-- all paths of an expression begin with the alias, and there is one
abbrev pub inside : Name → Expr → Bool
inside a b = is_nonempty (paths b) && list_all (begins a) (paths b)

module _ (m : Model) (c : Customs) (S : Shape) (before : Bool) where
  -- ---- past a join

  pub join-given : (s : Step) (ss : List Step) (j : Joined) → joined_by s ≡ Some j → j.outer ≡ false
      → (if step_quiet m c S s then passing m (after m c S s) (λ b. not (list_any (begins j.alias) (paths b)) && is_sure m (after m c S s) b) s ss else None) ≡ pass_join m c S before s ss
  join-given (Step.Join true n a T) ss j e h = absurd (true≢false (ap (λ k. k.outer) (some_value e) ∙ h))
  join-given (Step.Join false n a T) ss j e h =
      subst (λ (b : Name). (if step_quiet m c S s then passing m (after m c S s) (λ x. not (list_any (begins b) (paths x)) && is_sure m (after m c S s) x) s ss else None) ≡ pass_join m c S before s ss)
      (ap (λ k. k.alias) (some_value e))
      (ap (λ z. if z then passing m (after m c S s) (λ x. not (list_any (begins a) (paths x)) && is_sure m (after m c S s) x) s ss else None) (step_quiet-Join m c S false n a T))
    where
      s : Step
      s = Step.Join false n a T
  join-given s ss j e h = none_or j e

  -- ---- past an outer join

  pub outer-given : (s : Step) (ss : List Step) (j : Joined) → joined_by s ≡ Some j → j.outer ≡ true
      → (if step_quiet m c S s then passing m (after m c S s) (λ b. not (list_any (begins j.alias) (paths b))) s ss else None) ≡ pass_outer_join m c S before s ss
  outer-given (Step.Join false n a T) ss j e h = absurd (true≢false (sym h ∙ ap (λ k. k.outer) (sym (some_value e))))
  outer-given (Step.Join true n a T) ss j e h =
      subst (λ (b : Name). (if step_quiet m c S s then passing m (after m c S s) (λ x. not (list_any (begins b) (paths x))) s ss else None) ≡ pass_outer_join m c S before s ss)
      (ap (λ k. k.alias) (some_value e))
      (ap (λ z. if z then passing m (after m c S s) (λ x. not (list_any (begins a) (paths x))) s ss else None) (step_quiet-Join m c S true n a T))
    where
      s : Step
      s = Step.Join true n a T
  outer-given s ss j e h = none_or j e

  -- ---- into a join

  related-form : (s : Step) (ss : List Step) (j : Joined) → joined_by s ≡ Some j → j.outer ≡ false
      → option_map (λ r. behind (with_filter j r.last) r) (find (λ r. inside j.alias r.last) (movable m (after m c S s) ss)) ≡ filter_related m c S before s ss
  related-form (Step.Join true n a T) ss j e h = absurd (true≢false (ap (λ k. k.outer) (some_value e) ∙ h))
  related-form (Step.Join false n a T) ss j e h =
      subst (λ (k : Joined). option_map (λ r. behind (with_filter k r.last) r) (find (λ r. inside k.alias r.last) (movable m (after m c S s) ss)) ≡ filter_related m c S before s ss) (some_value e) refl
    where
      s : Step
      s = Step.Join false n a T
  related-form s ss j e h = none_or j e

  module _ (s : Step) (ss : List Step) (j : Joined) (is : joined_by s ≡ Some j) (own : j.outer ≡ false) (T : Shape) (there : T ≡ after m c S s) where
    pub related-given : (k : ℕ) (b : Expr) → Some (k, b) ≡ nearest m T (inside j.alias) ss → Some (entered (with_filter j b) ss k) ≡ filter_related m c S before s ss
    related-given k b e =
        nearest-entered m T (inside j.alias) ss k b e (with_filter j)
        ∙ ap (λ Z. option_map (λ r. behind (with_filter j r.last) r) (find (λ r. inside j.alias r.last) (movable m Z ss))) there ∙ related-form s ss j is own

    pub related-left : None ≡ nearest m T (inside j.alias) ss → None ≡ filter_related m c S before s ss
    related-left e =
        nearest-none m T (inside j.alias) ss e (λ r. behind (with_filter j r.last) r)
        ∙ ap (λ Z. option_map (λ r. behind (with_filter j r.last) r) (find (λ r. inside j.alias r.last) (movable m Z ss))) there ∙ related-form s ss j is own

-- ---- the filter that goes into a join has more than the alias in each path

step-is : (s : Step) (j : Joined) → joined_by s ≡ Some j → s ≡ Step.Join j.outer j.nav j.alias j.inner
step-is (Step.Join outer n a T) j e = ap (λ k. Step.Join k.outer k.nav k.alias k.inner) (some_value e)
step-is s j e = none_or j e

pub inside-longer : (m : Model) (c : Customs) (S : Shape) (s : Step) (ss : List Step) (j : Joined) → joined_by s ≡ Some j → IsTypedFrom m c S s ss → (T : Shape) → T ≡ after m c S s
    → (k : ℕ) (b : Expr) → Some (k, b) ≡ nearest m T (inside j.alias) ss → list_all (λ p. nat_lt 1 (length p)) (paths b) ≡ true
inside-longer m c S s ss j is typed T there k b e =
    let whole = some_there (steps_shape m c S (pipe (s ∷ ss))) typed in
    let S1 = chained (λ Z. steps_shape m c Z (pipe ss)) (step_shape m c S s) whole.0 (sym (steps_shape-Then m c S s (pipe ss)) ∙ whole.1) in
    let at : T ≡ S1.0 = there ∙ ap (λ o. unwrap_or o S) S1.1 in
    let J = join-parts m c S S1.0 j.outer j.nav j.alias j.inner (ap (step_shape m c S) (sym (step-is s j is)) ∙ S1.1) in
    let t = mapped place_and_filter (find (λ r. inside j.alias r.last) (movable m T ss)) (k, b) (sym e) in
    let r = t.0 in
    let found = movable-found m T (inside j.alias) ss r t.1 in
    let from = ap pipe found.whole ∙ pipe-filters r.between (Step.Filter r.last ∷ r.rest) in
    let between = filters-typed m c S1.0 whole.0 r.between (pipe (Step.Filter r.last ∷ r.rest)) (sym (ap (steps_shape m c S1.0) from) ∙ S1.2) in
    let last = filters-typed m c S1.0 whole.0 (r.last ∷ []) (pipe r.rest) between.1 in
    let boolean = (and_parts (has_kind is_boolean_kind m S1.0 r.last) _ last.0).0 in
    let begun = (and_parts (is_nonempty (paths r.last)) _ found.tested).1 in
    let here = related-longer m c S S1.0 j.outer j.nav j.alias j.inner J r.last begun boolean in
    ap (λ (y : ℕ × Expr). list_all (λ p. nat_lt 1 (length p)) (paths y.1)) (sym t.2) ∙ here
