-- What walks are for: the plan of a pipeline without a concatenation, and what the first rules make of any pipeline.
use Rattle.std.specs.Prelude.{◌≡◌, ◌∷◌, ◌++◌, ℕ, zero, suc, drop, List, IsTrue, Option, Some, None, option_and_then}
use Rattle.edm_values.specs.Lists.{find_map}
use Rattle.edm_model.specs.Models.{Model}
use Rattle.edm_data.specs.Worlds.{World}
use Rattle.apply_ast.specs.Trees.{Pipe, Step, pipe}
use Rattle.context_typing.specs.Shapes.{Shape}
use Rattle.context_typing.specs.Typing.{Customs}
use Rattle.rewrite_laws.specs.RewriteLaws.{IsTypedFrom, MayStandFor}
use Rattle.rewrite_laws.specs.Rewrites.{IsPlanOf, first_rewrite, next, rewritten, rules}
use Rattle.walk_laws.specs.Apart.{stays_apart}
use Rattle.walk_laws.specs.Crossing.{all_cross}
use Rattle.walk_laws.specs.Factored.{factored, factored_inside, pipe_rests}
use Rattle.walk_laws.specs.FiltersOut.{gives_anywhere, gives_at_front}
use Rattle.walk_laws.specs.Walks.{Rules, All, Early, is_unbranched, rules_of, shape_behind, walk}

-- the result of the first of a walk's rules that applies
abbrev pub next_by : Rules → Model → Customs → Shape → Pipe → Option Pipe
next_by w m c S p = find_map (λ r. first_rewrite r m c S p) (rules_of w)

-- the pipeline after n rewrites by a walk's rules
abbrev pub rewritten_by : ℕ → Rules → Model → Customs → Shape → Pipe → Option Pipe
rewritten_by zero w m c S p = Some p
rewritten_by (suc n) w m c S p = option_and_then (rewritten_by n w m c S) (next_by w m c S p)

-- what a walk's rules make of a pipeline: reached from it by rewrites, and none of the rules applies to it
abbrev pub IsPlanBy : Rules → Model → Customs → Shape → Pipe → Pipe → Type 0
IsPlanBy w m c S p q = ((n : ℕ) × (rewritten_by n w m c S p ≡ Some q)) × (next_by w m c S q ≡ None)

-- a typed pipeline without a concatenation, settled in one walk by all rules, is its plan
abbrev pub WalkIsPlan : Type 0
WalkIsPlan = (m : Model) (c : Customs) (S S' : Shape) (p : Pipe) → IsTypedFrom m c S S' p → IsTrue (is_unbranched p) → IsPlanOf m c S p (walk All m c S p)

-- so is one whose concatenations stay apart
abbrev pub ApartWalkIsPlan : Type 0
ApartWalkIsPlan = (m : Model) (c : Customs) (S S' : Shape) (p : Pipe) → IsTypedFrom m c S S' p → IsTrue (stays_apart p) → IsPlanOf m c S p (walk All m c S p)

-- so is one whose other concatenations give filters that stay before them, once these have come out
abbrev pub GivenWalkIsPlan : Type 0
GivenWalkIsPlan = (m : Model) (c : Customs) (S S' : Shape) (p : Pipe) → IsTypedFrom m c S S' p → IsTrue (gives_at_front p) → IsPlanOf m c S p (factored (walk All m c S p))

-- a pipeline in place of another, whose plan is the plan of that: it leads to the same shape, and each of its concatenations begins apart for good or gives filters alone
pub record IsRound (m : Model) (c : Customs) (S S' : Shape) (p q : Pipe) : Type 0 where
  pub typed : IsTypedFrom m c S S' q
  pub gives : IsTrue (gives_anywhere q)
  pub plan : (r : Pipe) → IsPlanOf m c S q r → IsPlanOf m c S p r

-- where each concatenation of a typed pipeline begins apart for good or gives filters alone, in joins, groupings and climbs too, the walk by all rules makes one with its plan
abbrev pub WalkKeepsPlan : Type 0
WalkKeepsPlan = (m : Model) (c : Customs) (S S' : Shape) (p : Pipe) → IsTypedFrom m c S S' p → IsTrue (gives_anywhere p) → IsRound m c S S' p (walk All m c S p)

-- and so do the filters that come out of it then
abbrev pub FactoringKeepsPlan : Type 0
FactoringKeepsPlan = (m : Model) (c : Customs) (S S' : Shape) (p : Pipe) → IsTypedFrom m c S S' p → IsTrue (gives_anywhere p) → IsRound m c S S' p (factored_inside (walk All m c S p))

-- where nothing comes out of it then, no rule applies to it
abbrev pub UnfactoredIsSettled : Type 0
UnfactoredIsSettled = (m : Model) (c : Customs) (S S' : Shape) (p : Pipe) → IsTypedFrom m c S S' p → IsTrue (gives_anywhere p) → factored_inside (walk All m c S p) ≡ walk All m c S p → next m c S (walk All m c S p) ≡ None

-- filters that cross a concatenation may stand before it
abbrev pub CrossingKeepsPlan : Type 0
CrossingKeepsPlan =
    (m : Model) (c : Customs) (S S' : Shape) (ss : List Step) (s : Step) (fs zs : List Step) → IsTypedFrom m c S S' (pipe (ss ++ s ∷ (fs ++ zs))) → IsTrue (gives_anywhere (pipe (ss ++ s ∷ (fs ++ zs)))) → IsTrue (all_cross m c (shape_behind m c S (pipe ss)) s fs)
    → IsRound m c S S' (pipe (ss ++ s ∷ (fs ++ zs))) (pipe (ss ++ (fs ++ s ∷ zs)))

-- a typed pipeline, settled in one walk by the first eight rules, is what it becomes by them
abbrev pub EarlyWalkIsPlan : Type 0
EarlyWalkIsPlan = (m : Model) (c : Customs) (S S' : Shape) (p : Pipe) → IsTypedFrom m c S S' p → IsPlanBy Early m c S p (walk Early m c S p)

-- and the plan of that is the plan of the pipeline
abbrev pub EarlyWalkKeepsPlan : Type 0
EarlyWalkKeepsPlan = (m : Model) (c : Customs) (S S' : Shape) (p q : Pipe) → IsTypedFrom m c S S' p → IsPlanOf m c S (walk Early m c S p) q → IsPlanOf m c S p q

-- what it makes may stand for the pipeline
abbrev pub EarlyWalkKeepsMeaning : (World → Type 0) → Type 0
EarlyWalkKeepsMeaning IsAccepted = (m : Model) (c : Customs) (S S' : Shape) (p : Pipe) → IsTypedFrom m c S S' p → MayStandFor IsAccepted m c S S' p (walk Early m c S p)

-- behind it the rules come from the ninth on
abbrev pub LaterRulesFollow : Type 0
LaterRulesFollow = (m : Model) (c : Customs) (S S' : Shape) (p : Pipe) → IsTypedFrom m c S S' p → next m c S (walk Early m c S p) ≡ find_map (λ r. first_rewrite r m c S (walk Early m c S p)) (drop 8 rules)

-- a typed pipeline is reached from another by rewrites, and what comes next of it is by a rule from the ninth on
pub record IsFactored (m : Model) (c : Customs) (S S' : Shape) (p q : Pipe) : Type 0 where
  pub reached : (n : ℕ) × (rewritten n m c S p ≡ Some q)
  pub typed : IsTypedFrom m c S S' q
  pub later : next m c S q ≡ find_map (λ r. first_rewrite r m c S q) (drop 8 rules)

-- of a typed pipeline whose filters rest, the rewrites come to what comes out of all branches at once
abbrev pub FactoringIsRewriting : Type 0
FactoringIsRewriting = (m : Model) (c : Customs) (S S' : Shape) (p : Pipe) → IsTypedFrom m c S S' p → IsTrue (pipe_rests p) → IsFactored m c S S' p (factored p)
