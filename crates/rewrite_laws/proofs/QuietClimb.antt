-- What the rule that drops the last step of a climb's pipeline makes of typed steps is quiet where these are.
use Rattle.std.proofs.Common.{◌≡◌, refl, sym, ◌∙◌, ap, ℕ, Bool, true, ◌&&◌, not, List, [], ◌∷◌, Option, Some}
use Rattle.std.proofs.Math.Bool.{and-true}
use Rattle.std.specs.Prelude.{option_and_then}
use Rattle.edm_model.specs.Models.{Model}
use Rattle.edm_values.specs.Lists.{is_some_and}
use Rattle.edm_values.specs.Names.{Path}
use Rattle.edm_values.proofs.OptionFacts.{none_or, then_some-parts}
use Rattle.apply_ast.specs.Trees.{HierName, Pipe, Step, pipe}
use Rattle.context_typing.specs.Shapes.{Shape}
use Rattle.context_typing.specs.Typing.{Customs, is_quiet, is_risky, step_quiet, steps_shape, step_shape}
use Rattle.context_typing.proofs.WalkFacts.{shape-append}
use Rattle.rewrite_laws.specs.Rewrites.{drop_idle, is_idle, all_but_last, pipe_or_identity}
use Rattle.rewrite_laws.proofs.ClimbRule.{DropsLast, drops-last}
use Rattle.rewrite_laws.proofs.ComputeFacts.{computed-risk}
use Rattle.rewrite_laws.proofs.QuietLemmas.{KeepsQuietInPlace, kept-shape, quiet-identity, quiet-more}
use Rattle.rewrite_laws.proofs.StepLists.{identity-shape}

-- an idle step is quiet, and leaves the node's path as it was
idle-quiet : (m : Model) (c : Customs) (S R : Shape) (p : Path) (x : Step) → step_shape m c S x ≡ Some R → is_idle m S p x ≡ true → (step_quiet m c S x ≡ true) × (is_risky R p ≡ is_risky S p)
unfolding steps_shape is_quiet
idle-quiet m c S R p (Step.OrderBy items) e h = (h, ap (λ Z. is_risky Z p) (sym (then_some-parts _ S R e).1))
idle-quiet m c S R p (Step.Compute ns) e h = (refl, computed-risk m S R ns e p h)
idle-quiet m c S R p _ e h = cc

quiet-climb : (m : Model) (c : Customs) (S : Shape) (up : Bool) (h : HierName) (p : Path) (T : Pipe) (d : Option ℕ) (keep : Bool) (q : Pipe)
    → is_quiet m c S (Pipe.Then (Step.Climb up h p T d keep) q) ≡ (step_quiet m c S (Step.Climb up h p T d keep) && is_quiet m c S q)
unfolding steps_shape is_quiet
quiet-climb m c S up h p T d keep q = ap (λ Z. step_quiet m c S (Step.Climb up h p T d keep) && is_quiet m c Z q) (kept-shape _ S)

module _ (m : Model) (c : Customs) (S : Shape) (up : Bool) (h : HierName) (p : Path) (T : Pipe) (d : Option ℕ) (keep : Bool) (ss ss' : List Step) (D : DropsLast m c S up h p T d keep ss ss') where
  whole-shape : steps_shape m c S T ≡ Some D.behind_last
  unfolding steps_shape
  whole-shape =
      ap (steps_shape m c S) D.whole ∙ shape-append m c S (all_but_last T) (D.last ∷ []) ∙ ap (option_and_then (λ Z. steps_shape m c Z (pipe (D.last ∷ [])))) D.front
      ∙ ap (option_and_then (λ Z. Some Z)) D.typed

  dropped-quiet : step_quiet m c S (Step.Climb up h p (pipe_or_identity (all_but_last T)) d keep) ≡ step_quiet m c S (Step.Climb up h p T d keep)
  unfolding is_quiet
  dropped-quiet =
      let t = idle-quiet m c D.before_last D.behind_last p D.last D.typed D.idle in
      let quiets : is_quiet m c S (pipe_or_identity (all_but_last T)) ≡ is_quiet m c S T =
      quiet-identity m c S (all_but_last T) ∙ sym (and-true (is_quiet m c S (pipe (all_but_last T)))) ∙ ap (λ z. is_quiet m c S (pipe (all_but_last T)) && z) (sym t.0)
      ∙ sym (quiet-more m c S D.before_last (all_but_last T) D.last D.front) ∙ sym (ap (is_quiet m c S) D.whole) in
      let risks : is_some_and (λ R. not (is_risky R p)) (steps_shape m c S (pipe_or_identity (all_but_last T))) ≡ is_some_and (λ R. not (is_risky R p)) (steps_shape m c S T) =
      ap (is_some_and (λ R. not (is_risky R p))) (identity-shape m c S (all_but_last T) ∙ D.front) ∙ ap not (sym t.1) ∙ sym (ap (is_some_and (λ R. not (is_risky R p))) whole-shape) in
      λ i. not (is_risky S p) && quiets i && risks i

pub drop_idle-keeps_quiet : KeepsQuietInPlace drop_idle
drop_idle-keeps_quiet m c S S' before (Step.Climb up h p T d keep) ss ss' k law e got =
    let D = drops-last m c S S' before up h p T d keep ss ss' e got in
    ap (λ x. is_quiet m c S (pipe x)) (sym D.made)
    ∙ quiet-climb m c S up h p (pipe_or_identity (all_but_last T)) d keep (pipe ss)
    ∙ ap (λ z. z && is_quiet m c S (pipe ss)) (dropped-quiet m c S up h p T d keep ss ss' D)
    ∙ sym (quiet-climb m c S up h p T d keep (pipe ss))
drop_idle-keeps_quiet m c S S' before s ss ss' k law e got = none_or ss' got
