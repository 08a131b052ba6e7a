-- What a rule makes of a typed pipeline, and so its plan, may stand for it in every world that is loaded.
use Rattle.std.proofs.Common.{◌≡◌, sym, ◌∙◌, ap, true, false, [], ◌++◌, Some, Contains}
use Rattle.std.specs.Prelude.{option_and_then, option_map, slice_get, unwrap_or, is_some}
use Rattle.edm_values.proofs.EachLemmas.{Each, each-append, each-contains, each-weaker}
use Rattle.edm_values.proofs.OptionFacts.{mapped}
use Rattle.edm_values.proofs.TopPlaces.{filter-each}
use Rattle.edm_model.specs.Models.{EntityType}
use Rattle.edm_model.specs.LookUps.{key_at, type_at}
use Rattle.edm_data.specs.Worlds.{World}
use Rattle.context_typing.specs.Typing.{steps_shape}
use Rattle.context_typing.proofs.TypingLaw.{typing_keeps_lawful}
use Rattle.apply_meaning.specs.MeaningLaws.{IsLoaded}
use Rattle.apply_meaning.proofs.MeaningProved.{loaded-mean_fits, loaded-sure, loaded-quiet, loaded-nodes, loaded-related}
use Rattle.apply_meaning.proofs.NodeLemmas.{named-parts}
use Rattle.rewrite_laws.specs.Rewrites.{Rule, rules, rewrites, pipe_results, IsRewrite, IsPlanOf}
use Rattle.rewrite_laws.specs.RewriteLaws.{KeepsMeaningInPlace, ReplacementKeepsMeaning, ResultsAreTyped, RulesKeepMeaning, FirstRewritesKeepMeaning, PlanKeepsMeaning}
use Rattle.rewrite_laws.proofs.Replacement.{every_result, replacement}
use Rattle.rewrite_laws.proofs.PlanMeaning.{plan_law, first-contains}
use Rattle.rewrite_laws.proofs.RewritesSmaller.{first_rules, middle_rules, last_rules}
use Rattle.rewrite_laws.proofs.WorldForms.{KeepsMeaningInWorlds, over_models}
use Rattle.rewrite_laws.proofs.RuleLemmas.{Laws, KeysNamed}
use Rattle.rewrite_laws.proofs.RulesInPlace.{drop_identity-keeps_meaning, drop_true-keeps_meaning}
use Rattle.rewrite_laws.proofs.SplitRule.{split_conjunction-keeps_meaning}
use Rattle.rewrite_laws.proofs.ComputeRule.{pass_compute-keeps_meaning}
use Rattle.rewrite_laws.proofs.OrderRules.{pass_order-keeps_meaning, drop_order-keeps_meaning}
use Rattle.rewrite_laws.proofs.GroupingRules.{pass_groups-keeps_meaning, pass_rollup-keeps_meaning, pass_nodes-keeps_meaning}
use Rattle.rewrite_laws.proofs.BranchRule.{filter_branches-keeps_meaning}
use Rattle.rewrite_laws.proofs.FactorRule.{factor_branches-keeps_meaning}
use Rattle.rewrite_laws.proofs.JoinRules.{pass_join-keeps_meaning, pass_outer_join-keeps_meaning}
use Rattle.rewrite_laws.proofs.RelatedRule.{filter_related-keeps_meaning}
use Rattle.rewrite_laws.proofs.TraverseRule.{pass_traverse-keeps_meaning}
use Rattle.rewrite_laws.proofs.NodeRule.{filter_nodes-keeps_meaning}
use Rattle.rewrite_laws.proofs.ClimbRule.{drop_idle-keeps_meaning}
use Rattle.rewrite_laws.proofs.CountRule.{join_counts-keeps_meaning}

-- the key of a hierarchy's nodes is found by its name
pub loaded-keys : KeysNamed IsLoaded
loaded-keys w h f l e =
    let t = named-parts w.model h f e in
    let E : EntityType = t.1 in
    let x = mapped (λ x. x.of) (slice_get (w.model).sets f.set) f.type t.0 in
    let key : key_at w.model f.set ≡ E.key =
    ap (λ o. unwrap_or (option_map (λ e. e.key) (option_and_then (λ es. type_at w.model es.of) o)) 0) x.1
    ∙ ap (λ z. unwrap_or (option_map (λ e. e.key) (type_at w.model z)) 0) x.2 ∙ ap (λ o. unwrap_or (option_map (λ e. e.key) o) 0) t.2 in
    (l.model).properties_found f.type E.key f.key (ap (λ o. slice_get (unwrap_or (option_map (λ e. e.properties) o) []) E.key) t.2 ∙ t.3) ∙ ap (λ k. Some (k, f.key)) (sym key)

-- the laws that the rules stand on
loaded-laws : Laws IsLoaded
loaded-laws = record { typing = typing_keeps_lawful; fitting = loaded-mean_fits; nodes = loaded-nodes; related = loaded-related; sure = loaded-sure; quiet = loaded-quiet; keys = loaded-keys }

-- ---- the rules

module _ (A : World → Type 0) (L : Laws A) where
  -- the rules, in three parts
  first_in_place : Each (KeepsMeaningInPlace A) first_rules
  first_in_place = (drop_identity-keeps_meaning A, (split_conjunction-keeps_meaning A L, (drop_true-keeps_meaning A, (pass_compute-keeps_meaning A L, (pass_order-keeps_meaning A L, (pass_groups-keeps_meaning A L, (pass_rollup-keeps_meaning A L, tt)))))))

  middle_in_place : Each (KeepsMeaningInPlace A) middle_rules
  middle_in_place = (filter_branches-keeps_meaning A L, (factor_branches-keeps_meaning A, (pass_join-keeps_meaning A L, (filter_related-keeps_meaning A L, (pass_outer_join-keeps_meaning A L, tt)))))

  last_in_place : Each (KeepsMeaningInPlace A) last_rules
  last_in_place = (drop_order-keeps_meaning A L, (join_counts-keeps_meaning A, (pass_traverse-keeps_meaning A L, (pass_nodes-keeps_meaning A L, (filter_nodes-keeps_meaning A L, (drop_idle-keeps_meaning A L, tt))))))

  rules_in_place : Each (KeepsMeaningInPlace A) rules
  rules_in_place = each-append (KeepsMeaningInPlace A) first_rules (middle_rules ++ last_rules) first_in_place (each-append (KeepsMeaningInPlace A) middle_rules last_rules middle_in_place last_in_place)

  -- what is made of a typed pipeline in each world: by a rule, and by a plan
  rule-in_worlds : (r : Rule) → Contains rules r → KeepsMeaningInWorlds A (IsRewrite r)
  rule-in_worlds r k = replacement A L.typing L.fitting L.nodes L.related r (each-contains (KeepsMeaningInPlace A) rules r rules_in_place k)

  pub replacement_keeps_meaning : ReplacementKeepsMeaning A
  replacement_keeps_meaning r h = over_models A (IsRewrite r) (replacement A L.typing L.fitting L.nodes L.related r h)

  pub rules_keep_meaning : RulesKeepMeaning A
  rules_keep_meaning r k = over_models A (IsRewrite r) (rule-in_worlds r k)

  -- each result of a rule has the typing of the pipeline
  pub results_are_typed : ResultsAreTyped
  results_are_typed r k m c S S' p t =
      let w : World = record { model = m; entities = [] } in
      filter-each (λ q. is_some (steps_shape m c S q)) (pipe_results r m c S false p)
      (each-weaker _ (λ q. is_some (steps_shape m c S q) ≡ true) (pipe_results r m c S false p) (λ q h. ap is_some (h.1.1 ∙ t.typed.1))
      (every_result A L.typing L.fitting L.nodes L.related r (each-contains (KeepsMeaningInPlace A) rules r rules_in_place k) w c S S' p t.customs t.lawful t.typed))

  pub first_rewrites_keep_meaning : FirstRewritesKeepMeaning A
  first_rewrites_keep_meaning r k m c S S' p q t e = rules_keep_meaning r k m c S S' p q t (first-contains (rewrites r m c S p) q e)

  pub plan_keeps_meaning : PlanKeepsMeaning A
  plan_keeps_meaning = over_models A IsPlanOf (plan_law A rule-in_worlds)

-- in the loaded worlds
pub loaded-in_place : Each (KeepsMeaningInPlace IsLoaded) rules
loaded-in_place = rules_in_place IsLoaded loaded-laws

pub loaded-results : ResultsAreTyped
loaded-results = results_are_typed IsLoaded loaded-laws

pub loaded-replacement : ReplacementKeepsMeaning IsLoaded
loaded-replacement = replacement_keeps_meaning IsLoaded loaded-laws

pub loaded-rules : RulesKeepMeaning IsLoaded
loaded-rules = rules_keep_meaning IsLoaded loaded-laws

pub loaded-firsts : FirstRewritesKeepMeaning IsLoaded
loaded-firsts = first_rewrites_keep_meaning IsLoaded loaded-laws

pub loaded-plan : PlanKeepsMeaning IsLoaded
loaded-plan = plan_keeps_meaning IsLoaded loaded-laws
