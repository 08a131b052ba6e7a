-- The laws of rewriting, as statements that a contract can name. Those that speak of the meaning are taken over the worlds that a condition admits.
use Rattle.std.specs.Prelude.{◌≡◌, ℕ, suc, Bool, false, ◌||◌, IsTrue, List, [], ◌∷◌, Some, Contains}
use Rattle.edm_model.specs.Models.{Model}
use Rattle.edm_data.specs.Worlds.{World}
use Rattle.apply_ast.specs.Trees.{HierName, Pipe, Step, pipe, is_long}
use Rattle.apply_ast.specs.NamedHierarchies.{hierarchies}
use Rattle.context_typing.specs.Shapes.{Shape}
use Rattle.context_typing.specs.Outcomes.{steps_outcome}
use Rattle.context_typing.specs.Typing.{Customs, Types, steps_shape, is_lawful, customs_typed}
use Rattle.apply_meaning.specs.Instances.{Instance}
use Rattle.apply_meaning.specs.Meaning.{mean}
use Rattle.apply_meaning.specs.MeaningLaws.{AllFit}
use Rattle.rewrite_laws.specs.Measures.{IsSmaller}
use Rattle.rewrite_laws.specs.Rewrites.{Rule, IsRewrite, IsPlanOf, first_rewrite, next, pipe_results, rewrites, rules}

-- ---- typing and meaning

-- a pipeline that takes a lawful shape to another, over a model each of whose custom aggregates has a typing
pub record IsTypedFrom (m : Model) (c : Customs) (S S' : Shape) (p : Pipe) : Type 0 where
  pub customs : IsTrue (customs_typed m c)
  pub lawful : IsTrue (is_lawful m S)
  pub typed : Types m c S p S'

-- the second pipeline may stand for the first: it leads to the same shape, names no hierarchy that the first does not name, and means the same, refusal included, in every world of the model that is admitted and on all instances that fit
pub record MayStandFor (IsAccepted : World → Type 0) (m : Model) (c : Customs) (S S' : Shape) (p q : Pipe) : Type 0 where
  pub typed : Types m c S q S'
  pub names : (h : HierName) → Contains (hierarchies q) h → Contains (hierarchies p) h
  pub means : (w : World) → w.model ≡ m → IsAccepted w → (l : List Instance) → AllFit w S l → mean w c S q l ≡ mean w c S p l

-- what a rule makes of a typed pipeline, at whatever place, may stand for it
abbrev pub RuleKeepsMeaning : (World → Type 0) → Rule → Type 0
RuleKeepsMeaning IsAccepted r = (m : Model) (c : Customs) (S S' : Shape) (p q : Pipe) → IsTypedFrom m c S S' p → IsRewrite r m c S p q → MayStandFor IsAccepted m c S S' p q

-- what each of the rules makes of a typed pipeline, at whatever place, may stand for it
abbrev pub RulesKeepMeaning : (World → Type 0) → Type 0
RulesKeepMeaning IsAccepted = (r : Rule) → Contains rules r → RuleKeepsMeaning IsAccepted r

-- what a rule makes of a typed pipeline has a typing, so that no result of it is left out
abbrev pub ResultsAreTyped : Type 0
ResultsAreTyped = (r : Rule) → Contains rules r → (m : Model) (c : Customs) (S S' : Shape) (p : Pipe) → IsTypedFrom m c S S' p → rewrites r m c S p ≡ pipe_results r m c S false p

-- what each of the rules makes of a typed pipeline at its first place may stand for it
abbrev pub FirstRewritesKeepMeaning : (World → Type 0) → Type 0
FirstRewritesKeepMeaning IsAccepted =
    (r : Rule) → Contains rules r → (m : Model) (c : Customs) (S S' : Shape) (p q : Pipe) → IsTypedFrom m c S S' p → first_rewrite r m c S p ≡ Some q → MayStandFor IsAccepted m c S S' p q

-- the plan of a typed pipeline may stand for it
abbrev pub PlanKeepsMeaning : (World → Type 0) → Type 0
PlanKeepsMeaning IsAccepted = (m : Model) (c : Customs) (S S' : Shape) (p q : Pipe) → IsTypedFrom m c S S' p → IsPlanOf m c S p q → MayStandFor IsAccepted m c S S' p q

-- ---- the law of replacement, which names no rule

-- steps that may stand for others from a shape, in one world
abbrev pub SameMeaning : (World → Type 0) → World → Customs → Shape → Pipe → Pipe → Type 0
SameMeaning IsAccepted w c S p q =
    ((h : HierName) → Contains (hierarchies q) h → Contains (hierarchies p) h) × (steps_shape w.model c S q ≡ steps_shape w.model c S p)
    × (IsAccepted w → (l : List Instance) → AllFit w S l → mean w c S q l ≡ mean w c S p l)

-- what a rule makes of typed steps at the place itself may stand for them, and it leaves a step there unless one stands before
abbrev pub KeepsMeaningInPlace : (World → Type 0) → Rule → Type 0
KeepsMeaningInPlace IsAccepted r =
    (w : World) (c : Customs) (S S' : Shape) (before : Bool) (s : Step) (ss ss' : List Step) → IsTrue (customs_typed w.model c) → IsTrue (is_lawful w.model S)
    → steps_shape w.model c S (pipe (s ∷ ss)) ≡ Some S' → r w.model c S before s ss ≡ Some ss'
    → IsTrue (before || is_long (pipe ss')) × SameMeaning IsAccepted w c S (pipe (s ∷ ss)) (pipe ss')

-- what may be replaced in place may be replaced wherever the place is, inner pipelines included
abbrev pub ReplacementKeepsMeaning : (World → Type 0) → Type 0
ReplacementKeepsMeaning IsAccepted = (r : Rule) → KeepsMeaningInPlace IsAccepted r → RuleKeepsMeaning IsAccepted r

-- ---- shape and quiet

-- what a rule makes of typed steps at the place itself leads to the same shape, is quiet where they are, and leaves a step there unless one stands before
abbrev pub KeepsOutcomeInPlace : Rule → Type 0
KeepsOutcomeInPlace r =
    (m : Model) (c : Customs) (S S' : Shape) (before : Bool) (s : Step) (ss ss' : List Step) → IsTrue (customs_typed m c) → IsTrue (is_lawful m S)
    → steps_shape m c S (pipe (s ∷ ss)) ≡ Some S' → r m c S before s ss ≡ Some ss'
    → IsTrue (before || is_long (pipe ss')) × (steps_outcome m c S (pipe ss') ≡ steps_outcome m c S (pipe (s ∷ ss)))

-- what a rule makes of a typed pipeline, at whatever place, leads to the same shape, and is quiet where the pipeline is
abbrev pub RuleKeepsOutcome : Rule → Type 0
RuleKeepsOutcome r = (m : Model) (c : Customs) (S S' : Shape) (p q : Pipe) → IsTypedFrom m c S S' p → IsRewrite r m c S p q → steps_outcome m c S q ≡ steps_outcome m c S p

-- a rule that keeps shape and quiet in place keeps them wherever the place is, inner pipelines included
abbrev pub ReplacementKeepsOutcome : Type 0
ReplacementKeepsOutcome = (r : Rule) → KeepsOutcomeInPlace r → RuleKeepsOutcome r

-- what each of the rules makes of a typed pipeline, at whatever place, leads to the same shape, and is quiet where the pipeline is
abbrev pub RulesKeepOutcome : Type 0
RulesKeepOutcome = (r : Rule) → Contains rules r → RuleKeepsOutcome r

-- the plan of a typed pipeline leads to the same shape, and is quiet where the pipeline is
abbrev pub PlanKeepsOutcome : Type 0
PlanKeepsOutcome = (m : Model) (c : Customs) (S S' : Shape) (p q : Pipe) → IsTypedFrom m c S S' p → IsPlanOf m c S p q → steps_outcome m c S q ≡ steps_outcome m c S p

-- ---- the end of rewriting

-- each rewrite makes a pipeline smaller
abbrev pub RewritesAreSmaller : Type 0
RewritesAreSmaller = (r : Rule) → Contains rules r → (m : Model) (c : Customs) (S : Shape) (p q : Pipe) → IsRewrite r m c S p q → IsSmaller q p

-- rewriting from a pipeline ends, by whatever rules and at whatever places
pub data Ends (m : Model) (c : Customs) (S : Shape) : Pipe → Type 0 where
  ends : (p : Pipe) → ((r : Rule) (q : Pipe) → Contains rules r → IsRewrite r m c S p q → Ends m c S q) → Ends m c S p

-- rewriting ends from every pipeline
abbrev pub RewritingEnds : Type 0
RewritingEnds = (m : Model) (c : Customs) (S : Shape) (p : Pipe) → Ends m c S p

-- there is a number of rewrites that are left, which falls by one with each
abbrev pub RewritesAreCounted : Type 0
RewritesAreCounted = (m : Model) (c : Customs) (S : Shape) → (left : Pipe → ℕ) × ((p q : Pipe) → next m c S p ≡ Some q → left p ≡ suc (left q))

-- ---- plans

-- every pipeline has a plan
abbrev pub PlanExists : Type 0
PlanExists = (m : Model) (c : Customs) (S : Shape) (p : Pipe) → (q : Pipe) × IsPlanOf m c S p q

-- a pipeline has at most one plan
abbrev pub PlanIsUnique : Type 0
PlanIsUnique = (m : Model) (c : Customs) (S : Shape) (p q q' : Pipe) → IsPlanOf m c S p q → IsPlanOf m c S p q' → q ≡ q'

-- none of the rules applies to a plan, at any place
abbrev pub PlanIsSettled : Type 0
PlanIsSettled = (m : Model) (c : Customs) (S : Shape) (p q : Pipe) → IsPlanOf m c S p q → (r : Rule) → Contains rules r → rewrites r m c S q ≡ []
