-- A filter that is typed on each branch goes to the end of every branch.
use Rattle.std.proofs.Common.{◌≡◌, refl, sym, ◌∙◌, ap, subst, true, List, ◌∷◌, ◌++◌, map, Some, None, Contains, if◌then◌else◌}
use Rattle.std.specs.Prelude.{option_and_then, unwrap_or}
use Rattle.std.specs.List.{list_all}
use Rattle.std.proofs.lemmas.Bool.{and_parts}
use Rattle.edm_values.specs.Lists.{is_some_and, all_some}
use Rattle.edm_values.specs.Literals.{is_boolean_kind}
use Rattle.edm_values.proofs.OptionFacts.{none_or, chained, if_else-parts, all_some-parts}
use Rattle.edm_model.specs.Models.{Model}
use Rattle.edm_data.specs.Worlds.{World}
use Rattle.apply_ast.specs.Trees.{Expr, Pipes, Step, pipe, is_long}
use Rattle.apply_ast.specs.Views.{pipes_from}
use Rattle.context_typing.specs.Shapes.{Shape}
use Rattle.context_typing.specs.Typing.{Customs, steps_shape, step_shape, branch_shapes, concat_shape, has_kind, after}
use Rattle.apply_meaning.specs.Instances.{Instance}
use Rattle.apply_meaning.specs.Meaning.{mean, step_mean, branch_means, joined}
use Rattle.apply_ast.specs.NamedHierarchies.{branch_hierarchies}
use Rattle.rewrite_laws.specs.Rewrites.{branches, concat, ended, filter_branches}
use Rattle.rewrite_laws.specs.RewriteLaws.{KeepsMeaningInPlace}
use Rattle.rewrite_laws.proofs.RuleLemmas.{Laws, taking-keeps_meaning}
use Rattle.rewrite_laws.proofs.EndedPipes.{ended-long, ended-hierarchies, ended-shape, ended-mean}
use Rattle.rewrite_laws.proofs.JoinedResults.{filter-joined}

-- the branches, each with the filter at its end
abbrev pub all_ended : Expr → Pipes → Pipes
all_ended b Pipes.NoPipes = Pipes.NoPipes
all_ended b (Pipes.MorePipes p ps) = Pipes.MorePipes (ended p (Step.Filter b)) (all_ended b ps)

pub concat-ended : (b : Expr) (ps : Pipes) → pipes_from (map (λ p. ended p (Step.Filter b)) (branches ps)) ≡ all_ended b ps
concat-ended b Pipes.NoPipes = refl
concat-ended b (Pipes.MorePipes p ps) = ap (Pipes.MorePipes (ended p (Step.Filter b))) (concat-ended b ps)

branches-hierarchies : (b : Expr) (ps : Pipes) → branch_hierarchies (all_ended b ps) ≡ branch_hierarchies ps
branches-hierarchies b Pipes.NoPipes = refl
branches-hierarchies b (Pipes.MorePipes p ps) = λ i. ended-hierarchies p b i ++ branches-hierarchies b ps i

ended-shapes : (m : Model) (c : Customs) (S : Shape) (b : Expr) (ps : Pipes) (Ss : List Shape) → all_some (branch_shapes m c S ps) ≡ Some Ss
    → list_all (λ p. is_some_and (λ S'. has_kind is_boolean_kind m S' b) (steps_shape m c S p)) (branches ps) ≡ true → branch_shapes m c S (all_ended b ps) ≡ branch_shapes m c S ps
unfolding steps_shape
ended-shapes m c S b Pipes.NoPipes Ss e h = refl
ended-shapes m c S b (Pipes.MorePipes p ps) Ss e h =
    let x = all_some-parts (if is_long p then steps_shape m c S p else None) (branch_shapes m c S ps) Ss e in
    let y = if_else-parts (is_long p) (steps_shape m c S p) x.0 x.1 in
    let t = and_parts (is_some_and (λ S'. has_kind is_boolean_kind m S' b) (steps_shape m c S p)) _ h in
    let kind = sym (ap (is_some_and (λ S'. has_kind is_boolean_kind m S' b)) y.1) ∙ t.0 in
    λ i. ((λ i. if ended-long p (Step.Filter b) i then ended-shape m c S x.0 p b y.1 kind i else None) ∙ sym x.1) i ∷ ended-shapes m c S b ps x.2 x.3 t.1 i

-- the concatenation of the branches with the filter has the shape of the concatenation
pub taken-shape : (m : Model) (c : Customs) (S S1 : Shape) (b : Expr) (ps : Pipes) → step_shape m c S (Step.Concat ps) ≡ Some S1
    → list_all (λ p. is_some_and (λ S'. has_kind is_boolean_kind m S' b) (steps_shape m c S p)) (branches ps) ≡ true → step_shape m c S (concat (map (λ p. ended p (Step.Filter b)) (branches ps))) ≡ Some S1
unfolding steps_shape
taken-shape m c S S1 b ps e t =
    let Ss = chained (concat_shape m) (all_some (branch_shapes m c S ps)) S1 e in
    (λ i. option_and_then (concat_shape m) (all_some (branch_shapes m c S (concat-ended b ps i)))) ∙ ap (λ o. option_and_then (concat_shape m) (all_some o)) (ended-shapes m c S b ps Ss.0 Ss.1 t) ∙ e

ended-means : (w : World) (c : Customs) (S S1 : Shape) (b : Expr) (ps : Pipes) (l : List Instance) (Ss : List Shape) → all_some (branch_shapes w.model c S ps) ≡ Some Ss
    → branch_means w c S (all_ended b ps) l ≡ map (option_and_then (step_mean w c S1 (Step.Filter b))) (branch_means w c S ps l)
unfolding mean steps_shape
ended-means w c S S1 b Pipes.NoPipes l Ss e = refl
ended-means w c S S1 b (Pipes.MorePipes p ps) l Ss e =
    let x = all_some-parts (if is_long p then steps_shape w.model c S p else None) (branch_shapes w.model c S ps) Ss e in
    let y = if_else-parts (is_long p) (steps_shape w.model c S p) x.0 x.1 in
    λ i. ended-mean w c S x.0 p b l y.1 i ∷ ended-means w c S S1 b ps l x.2 x.3 i

-- the rule
pub filter_branches-keeps_meaning : (A : World → Type 0) → Laws A → KeepsMeaningInPlace A filter_branches
unfolding mean steps_shape
filter_branches-keeps_meaning A L w c S S' before (Step.Concat ps) ss ss' k law e got =
    let S1 = chained (λ T. steps_shape w.model c T (pipe ss)) (step_shape w.model c S (Step.Concat ps)) S' e in
    let Ss = chained (concat_shape w.model) (all_some (branch_shapes w.model c S ps)) S1.0 S1.1 in
    taking-keeps_meaning A L w c k S S1.0 S' law (Step.Concat ps) S1.1 (after w.model c S (Step.Concat ps)) before ss ss'
    (λ b. list_all (λ p. is_some_and (λ S'. has_kind is_boolean_kind w.model S' b) (steps_shape w.model c S p)) (branches ps))
    (λ b. concat (map (λ p. ended p (Step.Filter b)) (branches ps))) (ap (λ o. unwrap_or o S) S1.1) e got
    (λ b n z. subst (λ hs. Contains hs n) (ap branch_hierarchies (concat-ended b ps) ∙ branches-hierarchies b ps) z)
    (λ b t h. (
      taken-shape w.model c S S1.0 b ps S1.1 t,
      λ u l f. ap (λ qs. joined (branch_means w c S qs l)) (concat-ended b ps) ∙ ap joined (ended-means w c S S1.0 b ps l Ss.0 Ss.1) ∙ sym (filter-joined w c S1.0 b (branch_means w c S ps l)),
    ))
filter_branches-keeps_meaning A L w c S S' before s ss ss' k law e got = none_or ss' got
