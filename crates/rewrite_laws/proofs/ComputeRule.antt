-- A filter passes a computation.
use Rattle.std.proofs.Common.{◌≡◌, refl, sym, ◌∙◌, ap, Bool, true, false, not, List, [], ◌∷◌, Some, map, filter}
use Rattle.std.specs.Prelude.{option_and_then, unwrap_or}
use Rattle.std.specs.Bool.{then_some}
use Rattle.std.specs.List.{list_all, list_any}
use Rattle.std.proofs.lemmas.Bool.{not-true}
use Rattle.edm_values.specs.Lists.{is_some_and}
use Rattle.edm_values.specs.Literals.{is_boolean_kind}
use Rattle.edm_values.specs.Values.{is_beyond, is_value}
use Rattle.edm_values.proofs.OptionFacts.{none_or, chained}
use Rattle.edm_values.proofs.SearchFacts.{none-all}
use Rattle.edm_data.specs.Worlds.{World}
use Rattle.apply_ast.specs.Trees.{Expr, Step, pipe}
use Rattle.context_typing.specs.Typing.{steps_shape, step_shape, after}
use Rattle.apply_meaning.specs.Instances.{Instance, val}
use Rattle.apply_meaning.specs.Meaning.{mean, step_mean, values, refused_at_beyond}
use Rattle.rewrite_laws.specs.Rewrites.{paths, is_among, pass_compute}
use Rattle.rewrite_laws.specs.RewriteLaws.{KeepsMeaningInPlace}
use Rattle.rewrite_laws.proofs.RuleLemmas.{Laws, passing-keeps_meaning}
use Rattle.rewrite_laws.proofs.ExprPaths.{val-same, kind-same}
use Rattle.rewrite_laws.proofs.JoinedResults.{map-mapped, filter-mapped}
use Rattle.rewrite_laws.proofs.ComputeFacts.{is_old, computed, computed-kind, computed-lookup}

pub pass_compute-keeps_meaning : (A : World → Type 0) → Laws A → KeepsMeaningInPlace A pass_compute
unfolding mean steps_shape
pass_compute-keeps_meaning A L w c S S' before (Step.Compute ns) ss ss' k law e got =
    let S1 = chained (λ T. steps_shape w.model c T (pipe ss)) (step_shape w.model c S (Step.Compute ns)) S' e in
    passing-keeps_meaning A L w c k S S1.0 S' law (Step.Compute ns) S1.1 (after w.model c S (Step.Compute ns)) before ss ss' (λ b. not (list_any (is_among (map (λ x. x.name ∷ []) ns)) (paths b))) (ap (λ o. unwrap_or o S) S1.1) e got (λ b t h.
    let all = none-all (is_among (map (λ x. x.name ∷ []) ns)) (paths b) (not-true _ t) in
    (ap (is_some_and is_boolean_kind) (sym (kind-same w.model S S1.0 (is_old ns) (computed-kind w.model S S1.0 ns S1.1) b all)) ∙ h, λ a l f. commutes b all l))
  where
    same : (b : Expr) → list_all (is_old ns) (paths b) ≡ true → (i : Instance) → val w (computed w ns i) b ≡ val w i b
    same b all i = val-same w i (computed w ns i) (is_old ns) (λ p n. computed-lookup w ns i p n) b all

    push : (b : Bool) (r : List Instance) → then_some b (map (computed w ns) r) ≡ option_and_then (λ z. Some (map (computed w ns) z)) (then_some b r)
    push true r = refl
    push false r = refl

    commutes : (b : Expr) → list_all (is_old ns) (paths b) ≡ true → (l : List Instance) → step_mean w c S (Step.Filter b) (map (computed w ns) l) ≡ option_and_then (step_mean w c S (Step.Compute ns)) (step_mean w c S (Step.Filter b) l)
    commutes b all l =
        (λ k. refused_at_beyond (map-mapped (computed w ns) (λ i. val w i b) (λ i. val w i b) (same b all) l k)
        (filter-mapped (computed w ns) (λ i. is_value true (val w i b)) (λ i. is_value true (val w i b)) (λ i. ap (is_value true) (same b all i)) l k))
        ∙ push (not (list_any is_beyond (values w b l))) (filter (λ i. is_value true (val w i b)) l)
pass_compute-keeps_meaning A L w c S S' before s ss ss' k law e got = none_or ss' got
