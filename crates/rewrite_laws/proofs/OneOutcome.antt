-- What a rule makes of a typed pipeline, at whatever place, and so its plan, leads to the same shape and is quiet where the pipeline is.
use Rattle.std.proofs.Common.{◌≡◌, refl, sym, ◌∙◌, ap, ℕ, zero, suc, ◌++◌, Option, Some, None, Contains}
use Rattle.std.specs.Prelude.{option_and_then}
use Rattle.edm_model.specs.Models.{Model}
use Rattle.edm_values.proofs.EachLemmas.{Each, each-append, each-contains}
use Rattle.edm_values.proofs.OptionFacts.{none_or, some_value}
use Rattle.apply_ast.specs.Trees.{Pipe}
use Rattle.context_typing.specs.Outcomes.{outcome, steps_outcome}
use Rattle.context_typing.specs.Shapes.{Shape}
use Rattle.context_typing.specs.Typing.{Customs, is_nodes}
use Rattle.context_typing.proofs.TypingLaw.{typing_keeps_lawful}
use Rattle.apply_meaning.specs.MeaningLaws.{IsLoaded}
use Rattle.rewrite_laws.specs.Rewrites.{Rule, first_rewrite, is_levels, is_no_rollup, next, rewrites, rewritten, rules}
use Rattle.rewrite_laws.specs.RewriteLaws.{IsTypedFrom, KeepsMeaningInPlace, KeepsOutcomeInPlace, PlanKeepsOutcome, ReplacementKeepsOutcome, RulesKeepOutcome}
use Rattle.rewrite_laws.proofs.OneMeaning.{loaded-in_place, loaded-rules}
use Rattle.rewrite_laws.proofs.PlanMeaning.{find_map-from, first-contains}
use Rattle.rewrite_laws.proofs.QuietBranches.{filter_branches-keeps_quiet}
use Rattle.rewrite_laws.proofs.QuietClimb.{drop_idle-keeps_quiet}
use Rattle.rewrite_laws.proofs.QuietFactor.{factor_branches-keeps_quiet}
use Rattle.rewrite_laws.proofs.QuietInside.{filter_nodes-keeps_quiet, filter_related-keeps_quiet}
use Rattle.rewrite_laws.proofs.QuietLemmas.{KeepsQuietInPlace, bare}
use Rattle.rewrite_laws.proofs.QuietPlaces.{replacement_at_places}
use Rattle.rewrite_laws.proofs.QuietRules.{drop_identity-keeps_quiet, drop_order-keeps_quiet, drop_true-keeps_quiet, join_counts-keeps_quiet, pass_compute-keeps_quiet, pass_grouping-keeps_quiet, pass_join-keeps_quiet, pass_order-keeps_quiet, pass_outer_join-keeps_quiet, pass_traverse-keeps_quiet, split_conjunction-keeps_quiet}
use Rattle.rewrite_laws.proofs.RewritesSmaller.{first_rules, last_rules, middle_rules}

-- each rule keeps quiet in place
first_quiet : Each KeepsQuietInPlace first_rules
first_quiet = (drop_identity-keeps_quiet, (split_conjunction-keeps_quiet, (drop_true-keeps_quiet, (pass_compute-keeps_quiet, (pass_order-keeps_quiet, (pass_grouping-keeps_quiet is_no_rollup, (pass_grouping-keeps_quiet is_levels, tt)))))))

middle_quiet : Each KeepsQuietInPlace middle_rules
middle_quiet = (filter_branches-keeps_quiet, (factor_branches-keeps_quiet, (pass_join-keeps_quiet, (filter_related-keeps_quiet, (pass_outer_join-keeps_quiet, tt)))))

last_quiet : Each KeepsQuietInPlace last_rules
last_quiet = (drop_order-keeps_quiet, (join_counts-keeps_quiet, (pass_traverse-keeps_quiet, (pass_grouping-keeps_quiet is_nodes, (filter_nodes-keeps_quiet, (drop_idle-keeps_quiet, tt))))))

pub rules_quiet : Each KeepsQuietInPlace rules
rules_quiet = each-append KeepsQuietInPlace first_rules (middle_rules ++ last_rules) first_quiet (each-append KeepsQuietInPlace middle_rules last_rules middle_quiet last_quiet)

-- and its shape, by its law of the meaning over the world without entities
pub outcome-in_place : (r : Rule) → Contains rules r → KeepsOutcomeInPlace r
outcome-in_place r h m c S S' before s ss ss' k law e got =
    let x = each-contains (KeepsMeaningInPlace IsLoaded) rules r loaded-in_place h (bare m) c S S' before s ss ss' k law e got in
    let quiet = each-contains KeepsQuietInPlace rules r rules_quiet h m c S S' before s ss ss' k law e got in
    (x.0, λ i. outcome (x.1.1 i) (quiet i))

pub replacement_keeps_outcome : ReplacementKeepsOutcome
replacement_keeps_outcome r h = replacement_at_places typing_keeps_lawful r h

pub rules_keep_outcome : RulesKeepOutcome
rules_keep_outcome r h = replacement_keeps_outcome r (outcome-in_place r h)

-- ---- plans

module _ (m : Model) (c : Customs) (S S' : Shape) where
  -- a chain of rewrites
  chain-outcome : (n : ℕ) (p q : Pipe) → IsTypedFrom m c S S' p → rewritten n m c S p ≡ Some q → steps_outcome m c S q ≡ steps_outcome m c S p
  chain-outcome zero p q t e = ap (steps_outcome m c S) (sym (some_value e))
  chain-outcome (suc n) p q t e = go (λ r u h. chain-outcome n r q u h) (next m c S p) refl e
    where
      go : ((r : Pipe) → IsTypedFrom m c S S' r → rewritten n m c S r ≡ Some q → steps_outcome m c S q ≡ steps_outcome m c S r) → (o : Option Pipe) → next m c S p ≡ o → option_and_then (rewritten n m c S) o ≡ Some q
          → steps_outcome m c S q ≡ steps_outcome m c S p
      go f None i h = none_or q h
      go f (Some r) i h =
          let x = find_map-from (λ r. first_rewrite r m c S p) rules r i in
          let rewrite = first-contains (rewrites x.0 m c S p) r x.2 in
          f r (record { customs = t.customs; lawful = t.lawful; typed = (loaded-rules x.0 x.1 m c S S' p r t rewrite).typed }) h ∙ rules_keep_outcome x.0 x.1 m c S S' p r t rewrite

pub plan_keeps_outcome : PlanKeepsOutcome
plan_keeps_outcome m c S S' p q t h = chain-outcome m c S S' (h.0).0 p q t (h.0).1
