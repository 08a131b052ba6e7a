-- A rule at its first place in a typed pipeline.
use Rattle.std.proofs.Common.{◌≡◌, refl, sym, ◌∙◌, ap, true, false, [], Some, None, Contains, IsTrue, arith}
use Rattle.std.specs.Prelude.{is_some, slice_get}
use Rattle.edm_model.specs.LookUps.{set_type}
use Rattle.edm_model.specs.Models.{Model}
use Rattle.apply_ast.specs.Trees.{Pipe}
use Rattle.apply_ast.specs.Views.{pipe_of}
use Rattle.context_typing.specs.Answers.{IsTyping}
use Rattle.context_typing.specs.Shapes.{Shape}
use Rattle.context_typing.specs.Typing.{Customs, customs_typed, shape_of_set, steps_shape}
use Rattle.context_typing.specs.TypingLaws.{OwnIsLawful}
use Rattle.context_typing.specs.declared.typed.Typed.{Typed}
use Rattle.apply_meaning.specs.MeaningLaws.{IsLoaded}
use Rattle.rewrite_places.specs.Places.{first_in_pipe}
use Rattle.rewrite_rules.specs.RuleNames.{rule_of}
use Rattle.rewrite_laws.specs.RewriteLaws.{FirstRewritesKeepMeaning, IsTypedFrom, MayStandFor, ResultsAreTyped}
use Rattle.rewrite_laws.specs.Rewrites.{rules, rewrites, first_rewrite}
use Rattle.rewrite_rules.specs.declared.rules.RuleName.{RuleName}
use Rattle.rewrite_rules.specs.declared.rules.RuleName.TheVariants as name
use Rattle.rewrite_laws.proofs.PlanLaws.{no-first}

-- each rule that the code names is one of the rules
named-rule : (n : RuleName) → Contains rules (rule_of n)
named-rule name.DropIdentity = (0, omega arith, refl)
named-rule name.SplitConjunction = (1, omega arith, refl)
named-rule name.DropTrue = (2, omega arith, refl)
named-rule name.PassCompute = (3, omega arith, refl)
named-rule name.PassOrder = (4, omega arith, refl)
named-rule name.PassGroups = (5, omega arith, refl)
named-rule name.PassRollup = (6, omega arith, refl)
named-rule name.FilterBranches = (7, omega arith, refl)
named-rule name.FactorBranches = (8, omega arith, refl)
named-rule name.PassJoin = (9, omega arith, refl)
named-rule name.FilterRelated = (10, omega arith, refl)
named-rule name.PassOuterJoin = (11, omega arith, refl)
named-rule name.DropOrder = (12, omega arith, refl)
named-rule name.JoinCounts = (13, omega arith, refl)
named-rule name.PassTraverse = (14, omega arith, refl)
named-rule name.PassNodes = (15, omega arith, refl)
named-rule name.FilterNodes = (16, omega arith, refl)
named-rule name.DropIdle = (17, omega arith, refl)

-- it is typed from the shape of its entity set
pub typed-start : (m : Model) (c : Customs) (t : Typed) (S : Shape) → S ≡ shape_of_set m t.set → IsTyping m c t → is_some (steps_shape m c S (pipe_of t.pipe)) ≡ true
typed-start m c t S same typing = ap (λ Z. is_some (steps_shape m c Z (pipe_of t.pipe))) same ∙ ap is_some typing.1

module _ (law : ResultsAreTyped) (own : OwnIsLawful) (n : RuleName) (m : Model) (c : Customs) (t : Typed) (S : Shape) (same : S ≡ shape_of_set m t.set) (k : IsTrue (customs_typed m c)) (typing : IsTyping m c t) where
  typed-from : IsTypedFrom m c (shape_of_set m t.set) t.shape (pipe_of t.pipe)
  typed-from = record { customs = k; lawful = own m (set_type m t.set); typed = typing }

  -- the first result is that of the first place
  first-result : first_rewrite (rule_of n) m c (shape_of_set m t.set) (pipe_of t.pipe) ≡ first_in_pipe (rule_of n) m c S false (pipe_of t.pipe)
  first-result =
      ap (λ l. slice_get l 0) (law (rule_of n) (named-rule n) m c (shape_of_set m t.set) t.shape (pipe_of t.pipe) typed-from) ∙ ap (λ Z. first_in_pipe (rule_of n) m c Z false (pipe_of t.pipe)) (sym same)

  pub place-found : (p : Pipe) → Some p ≡ first_in_pipe (rule_of n) m c S false (pipe_of t.pipe) → first_rewrite (rule_of n) m c (shape_of_set m t.set) (pipe_of t.pipe) ≡ Some p
  place-found p e = first-result ∙ sym e

  pub place-none : None ≡ first_in_pipe (rule_of n) m c S false (pipe_of t.pipe) → rewrites (rule_of n) m c (shape_of_set m t.set) (pipe_of t.pipe) ≡ []
  place-none e = no-first (rewrites (rule_of n) m c (shape_of_set m t.set) (pipe_of t.pipe)) (first-result ∙ sym e)

  pub place-means : FirstRewritesKeepMeaning IsLoaded → (p : Pipe) → Some p ≡ first_in_pipe (rule_of n) m c S false (pipe_of t.pipe) → MayStandFor IsLoaded m c (shape_of_set m t.set) t.shape (pipe_of t.pipe) p
  place-means keeps p e = keeps (rule_of n) (named-rule n) m c (shape_of_set m t.set) t.shape (pipe_of t.pipe) p typed-from (first-result ∙ sym e)
