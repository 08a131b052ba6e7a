-- What the rule that moves a filter to the end of every branch makes of typed steps is quiet where these are.
use Rattle.std.proofs.Common.{◌≡◌, refl, sym, ◌∙◌, ap, Bool, true, false, ◌&&◌, List, [], ◌∷◌, Some, None, map, length}
use Rattle.std.proofs.lemmas.Bool.{and_from, and_parts}
use Rattle.std.specs.Prelude.{nat_le, if◌then◌else◌}
use Rattle.std.specs.List.{list_all}
use Rattle.edm_model.specs.Models.{Model}
use Rattle.edm_values.specs.Lists.{all_some, is_some_and}
use Rattle.edm_values.specs.Literals.{is_boolean_kind}
use Rattle.edm_values.proofs.OptionFacts.{none_or, chained, if_else-parts, some_value, then_some-parts, all_some-parts}
use Rattle.apply_ast.specs.Trees.{Expr, Pipes, Step, pipe, is_long}
use Rattle.context_typing.specs.Shapes.{Shape}
use Rattle.context_typing.specs.Typing.{Customs, after, branch_shapes, branches_agree, branches_quiet, concat_shape, has_kind, is_lawful, is_quiet, is_sure, is_typed, steps_shape, step_shape}
use Rattle.context_typing.proofs.ShapeLemmas.{law-from}
use Rattle.context_typing.proofs.TypingLaw.{branches_law}
use Rattle.rewrite_laws.specs.Rewrites.{branches, concat, ended, filter_branches}
use Rattle.rewrite_laws.proofs.BranchRule.{all_ended, concat-ended, taken-shape}
use Rattle.rewrite_laws.proofs.MergedSure.{merged-sure}
use Rattle.rewrite_laws.proofs.QuietLemmas.{KeepsQuietInPlace, quiet-ended, taking-keeps_quiet}
use Rattle.rewrite_laws.proofs.RuleLemmas.{has_kind-typed}

-- the filter is typed on the shape of each branch
typed-each : (m : Model) (c : Customs) (S : Shape) (b : Expr) (ps : Pipes) (Ss : List Shape) → all_some (branch_shapes m c S ps) ≡ Some Ss
    → list_all (λ p. is_some_and (λ S'. has_kind is_boolean_kind m S' b) (steps_shape m c S p)) (branches ps) ≡ true → list_all (λ Z. is_typed m Z b) Ss ≡ true
unfolding steps_shape
typed-each m c S b Pipes.NoPipes Ss e h = sym (ap (list_all (λ Z. is_typed m Z b)) (some_value e))
typed-each m c S b (Pipes.MorePipes p ps) Ss e h =
    let x = all_some-parts (if is_long p then steps_shape m c S p else None) (branch_shapes m c S ps) Ss e in
    let y = if_else-parts (is_long p) (steps_shape m c S p) x.0 x.1 in
    let t = and_parts (is_some_and (λ S'. has_kind is_boolean_kind m S' b) (steps_shape m c S p)) _ h in
    sym (ap (list_all (λ Z. is_typed m Z b)) x.4)
    ∙ and_from (is_typed m x.0 b) _ (has_kind-typed m x.0 b (sym (ap (is_some_and (λ S'. has_kind is_boolean_kind m S' b)) y.1) ∙ t.0)) (typed-each m c S b ps x.2 x.3 t.1)

both-each : (a b d e : Bool) → ((a && b) && (d && e)) ≡ ((a && d) && (b && e))
both-each true true d e = refl
both-each true false true e = refl
both-each true false false e = refl
both-each false b d e = refl

-- the branches with the filter are quiet where the branches are, and the filter is sure behind each
ended-quiet : (m : Model) (c : Customs) (S : Shape) (b : Expr) (ps : Pipes) (Ss : List Shape) → all_some (branch_shapes m c S ps) ≡ Some Ss
    → branches_quiet m c S (all_ended b ps) ≡ (branches_quiet m c S ps && list_all (λ Z. is_sure m Z b) Ss)
unfolding steps_shape is_quiet
ended-quiet m c S b Pipes.NoPipes Ss e = ap (list_all (λ Z. is_sure m Z b)) (some_value e)
ended-quiet m c S b (Pipes.MorePipes p ps) Ss e =
    let x = all_some-parts (if is_long p then steps_shape m c S p else None) (branch_shapes m c S ps) Ss e in
    let y = if_else-parts (is_long p) (steps_shape m c S p) x.0 x.1 in
    (λ i. quiet-ended m c S x.0 p (Step.Filter b) y.1 i && ended-quiet m c S b ps x.2 x.3 i)
    ∙ both-each (is_quiet m c S p) (is_sure m x.0 b) (branches_quiet m c S ps) (list_all (λ Z. is_sure m Z b) x.2)
    ∙ ap (λ Zs. (is_quiet m c S p && branches_quiet m c S ps) && list_all (λ Z. is_sure m Z b) Zs) x.4

-- it is sure on the shape of the concatenation where it is sure behind each
concat-sure : (m : Model) (Ss : List Shape) (S1 : Shape) (b : Expr) → list_all (is_lawful m) Ss ≡ true → concat_shape m Ss ≡ Some S1 → is_typed m S1 b ≡ true → list_all (λ Z. is_typed m Z b) Ss ≡ true
    → list_all (λ Z. is_sure m Z b) Ss ≡ is_sure m S1 b
concat-sure m [] S1 b laws e t ts = none_or S1 e
concat-sure m (Z ∷ Zs) S1 b laws e t ts =
    let u = then_some-parts (nat_le 2 (length (Z ∷ Zs)) && branches_agree m (Z ∷ Zs)) _ S1 e in
    let agree = (and_parts (nat_le 2 (length (Z ∷ Zs))) _ u.0).1 in
    sym (ap (λ Y. is_sure m Y b) (sym u.1) ∙ merged-sure m (Z ∷ Zs) laws agree Z (λ q h. (and_parts (q Z) _ h).0) b (ap (λ Y. is_typed m Y b) u.1 ∙ t) ts)

pub filter_branches-keeps_quiet : KeepsQuietInPlace filter_branches
unfolding steps_shape is_quiet
filter_branches-keeps_quiet m c S S' before (Step.Concat ps) ss ss' k law e got =
    let x = Step.Concat ps in
    let S1 = chained (λ T. steps_shape m c T (pipe ss)) (step_shape m c S x) S' e in
    let Ss = chained (concat_shape m) (all_some (branch_shapes m c S ps)) S1.0 S1.1 in
    let laws = (branches_law m c ps S Ss.0 (law-from m S law) Ss.1).0 in
    taking-keeps_quiet m c S S1.0 S' (after m c S x) x ss ss' (λ b. list_all (λ p. is_some_and (λ S'. has_kind is_boolean_kind m S' b) (steps_shape m c S p)) (branches ps))
    (λ b. concat (map (λ p. ended p (Step.Filter b)) (branches ps))) S1.1 e got (λ b t h. (
      taken-shape m c S S1.0 b ps S1.1 t,
      ap (branches_quiet m c S) (concat-ended b ps) ∙ ended-quiet m c S b ps Ss.0 Ss.1
          ∙ ap (λ z. branches_quiet m c S ps && z) (concat-sure m Ss.0 S1.0 b laws Ss.2 (has_kind-typed m S1.0 b h) (typed-each m c S b ps Ss.0 Ss.1 t)),
    ))
filter_branches-keeps_quiet m c S S' before s ss ss' k law e got = none_or ss' got
