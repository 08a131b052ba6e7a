-- The keys of groupings, and what the rules of groupings make, by the form of the step at their place.
use Rattle.std.proofs.Common.{◌≡◌, refl, sym, ◌∙◌, ap, subst, Bool, true, false, ◌&&◌, List, Option, Some, None, IsTrue}
use Rattle.std.specs.Prelude.{option_map, option_and_then, is_some, IfSome, if◌then◌else◌}
use Rattle.edm_values.specs.Names.{Path}
use Rattle.edm_values.proofs.OptionFacts.{none_or, some_value}
use Rattle.edm_model.specs.Models.{Model}
use Rattle.apply_ast.specs.Trees.{Keys, OptPipe, Pipe, Step, is_long}
use Rattle.apply_ast.specs.Views.{inner_of}
use Rattle.context_typing.specs.Shapes.{Shape}
use Rattle.context_typing.specs.Typing.{Customs, RollupPart, after, group_keys, grouped_shape, inner_shape, is_sure, keys_typed, no_shape, rollup_part, step_shape, steps_shape}
use Rattle.context_typing.proofs.TypingEquations.{inner_shape-SomePipe, step_shape-GroupBy}
use Rattle.rewrite_laws.specs.Rewrites.{grouping_quiet, over, pass_grouping, passing}
use Rattle.rewrite_forms.specs.Forms.{begins_with_filter}
use Rattle.rewrite_forms.specs.GroupForms.{in_every_row}
use Rattle.rewrite_rules.specs.GroupForms.{grouped_by}
use Rattle.rewrite_rules.proofs.RuleForms.{passing-none}

-- ---- the typing of a grouping

-- the pipeline for each group is typed where the grouping is
module _ (m : Model) (c : Customs) (S : Shape) where
  chosen-there : {A B : Type 0} (b : Bool) (g : A → Option B) (o : Option A) → is_some (if b then option_and_then g o else None) ≡ true → is_some o ≡ true
  chosen-there true g None h = h
  chosen-there true g (Some x) h = refl
  chosen-there false g None h = h
  chosen-there false g (Some x) h = refl

  long-there : {A : Type 0} (b : Bool) (o : Option A) → is_some (if b then o else None) ≡ true → is_some o ≡ true
  long-there true o h = h
  long-there false None h = h
  long-there false (Some x) h = refl

  group-typed : (ks : Keys) (T : OptPipe) → is_some (step_shape m c S (Step.GroupBy ks T)) ≡ true → is_some (inner_shape m c S no_shape T) ≡ true
  group-typed ks T h = chosen-there (keys_typed m c S ks) (grouped_shape m S (group_keys ks)) (inner_shape m c S no_shape T) (sym (ap is_some (step_shape-GroupBy m c S ks T)) ∙ h)

  inner-typed : {X : Type 0} (f : X → Pipe) (o : Option X) → is_some (inner_shape m c S no_shape (inner_of (option_map f o))) ≡ true → IfSome o (λ p. IsTrue (is_some (steps_shape m c S (f p))))
  inner-typed f None h = tt
  inner-typed f (Some p) h = long-there (is_long (f p)) (steps_shape m c S (f p)) (sym (ap is_some (inner_shape-SomePipe m c S no_shape (f p))) ∙ h)

  pub grouped-is : (s : Step) (ks : Keys) (T : OptPipe) → grouped_by s ≡ Some (ks, T) → s ≡ Step.GroupBy ks T
  grouped-is (Step.GroupBy ks' T') ks T e = let y = some_value e in λ i. Step.GroupBy ((y i).0) ((y i).1)
  grouped-is s ks T e = none_or (ks, T) e

  pub groups-typed : {X : Type 0} (f : X → Pipe) (o : Option X) (Z : Shape) (s : Step) (ks : Keys) → Z ≡ S → grouped_by s ≡ Some (ks, inner_of (option_map f o)) → is_some (step_shape m c S s) ≡ true
      → IfSome o (λ p. IsTrue (is_some (steps_shape m c Z (f p))))
  groups-typed f o Z s ks there e h =
      subst (λ Z. IfSome o (λ p. IsTrue (is_some (steps_shape m c Z (f p))))) (sym there)
      (inner-typed f o (group-typed ks (inner_of (option_map f o)) (sym (ap (λ s. is_some (step_shape m c S s)) (grouped-is s ks (inner_of (option_map f o)) e)) ∙ h)))

-- ---- the rules

module _ (m : Model) (c : Customs) (S : Shape) (before : Bool) (kind : RollupPart → Bool) where
  -- what the rule gives, from the keys and the pipeline for each group
  abbrev given : Step → List Step → Keys × OptPipe → Option (List Step)
  given s ss x =
      if kind (rollup_part (group_keys x.0)) && grouping_quiet m c S x.0 x.1 then passing m (after m c S s) (λ b. over (in_every_row x.0) b && is_sure m (after m c S s) b) s ss else None

  grouping-form : (s : Step) (ss : List Step) (ks : Keys) (T : OptPipe) → grouped_by s ≡ Some (ks, T) → pass_grouping kind m c S before s ss ≡ given s ss (ks, T)
  grouping-form (Step.GroupBy ks' T') ss ks T e = ap (given (Step.GroupBy ks' T') ss) (some_value e)
  grouping-form s ss ks T e = none_or (ks, T) e

  -- no grouping stands there
  pub grouping-none : (s : Step) (ss : List Step) → grouped_by s ≡ None → None ≡ pass_grouping kind m c S before s ss
  grouping-none (Step.GroupBy ks T) ss e = cc
  grouping-none s ss e = refl

  module _ (s : Step) (ss : List Step) (ks : Keys) (T : OptPipe) (e : grouped_by s ≡ Some (ks, T)) where
    -- no filter follows
    pub grouping-front : begins_with_filter ss ≡ false → None ≡ pass_grouping kind m c S before s ss
    grouping-front h = sym (grouping-form s ss ks T e ∙ go (kind (rollup_part (group_keys ks)) && grouping_quiet m c S ks T))
      where
        go : (b : Bool) → (if b then passing m (after m c S s) (λ b. over (in_every_row ks) b && is_sure m (after m c S s) b) s ss else None) ≡ None
        go true = passing-none m (after m c S s) (λ b. over (in_every_row ks) b && is_sure m (after m c S s) b) s ss h
        go false = refl

    -- its keys are of another kind
    pub grouping-other : kind (rollup_part (group_keys ks)) ≡ false → None ≡ pass_grouping kind m c S before s ss
    grouping-other h =
        sym (grouping-form s ss ks T e ∙ ap (λ a. if a && grouping_quiet m c S ks T then passing m (after m c S s) (λ b. over (in_every_row ks) b && is_sure m (after m c S s) b) s ss else None) h)

    -- it is not quiet
    pub grouping-kept : (Z : Shape) → Z ≡ S → grouping_quiet m c Z ks T ≡ false → None ≡ pass_grouping kind m c S before s ss
    grouping-kept Z there h = sym (grouping-form s ss ks T e ∙ go (kind (rollup_part (group_keys ks))) (grouping_quiet m c S ks T) (ap (λ Z. grouping_quiet m c Z ks T) (sym there) ∙ h))
      where
        go : (a q : Bool) → q ≡ false → (if a && q then passing m (after m c S s) (λ b. over (in_every_row ks) b && is_sure m (after m c S s) b) s ss else None) ≡ None
        go true q h = ap (λ q. if q then passing m (after m c S s) (λ b. over (in_every_row ks) b && is_sure m (after m c S s) b) s ss else None) h
        go false q h = refl

    -- the filter passes where it may
    pub grouping-given : (Z S1 : Shape) (ps : List Path) → Z ≡ S → S1 ≡ after m c Z s → ps ≡ in_every_row ks → kind (rollup_part (group_keys ks)) ≡ true → grouping_quiet m c Z ks T ≡ true
        → passing m S1 (λ b. over ps b && is_sure m S1 b) s ss ≡ pass_grouping kind m c S before s ss
    grouping-given Z S1 ps there behind row k q =
        (λ i. passing m ((behind ∙ ap (λ Z. after m c Z s) there) i) (λ b. over (row i) b && is_sure m ((behind ∙ ap (λ Z. after m c Z s) there) i) b) s ss)
        ∙ sym (grouping-form s ss ks T e ∙ (λ i. if k i && (ap (λ Z. grouping_quiet m c Z ks T) (sym there) ∙ q) i then passing m (after m c S s) (λ b. over (in_every_row ks) b && is_sure m (after m c S s) b) s ss else None))
