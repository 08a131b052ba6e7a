-- A filter at the end of a pipeline, and of each of the pipelines whose results are joined.
use Rattle.std.proofs.Common.{◌≡◌, refl, ◌∙◌, ap, true, List, [], ◌∷◌, Option, Some, None, if◌then◌else◌}
use Rattle.std.specs.Prelude.{option_and_then}
use Rattle.std.specs.Bool.{then_some}
use Rattle.std.proofs.lemmas.List.{append-nil}
use Rattle.edm_values.specs.Literals.{is_boolean_kind}
use Rattle.edm_values.proofs.OptionFacts.{some_value, if_else-parts}
use Rattle.edm_model.specs.Models.{Model}
use Rattle.edm_data.specs.Worlds.{World}
use Rattle.apply_ast.specs.Trees.{Expr, OptPipe, Pipe, Step, steps, pipe, is_long}
use Rattle.context_typing.specs.Shapes.{Shape}
use Rattle.context_typing.specs.Typing.{Customs, steps_shape, inner_shape, has_kind}
use Rattle.apply_meaning.specs.Instances.{Instance}
use Rattle.apply_meaning.specs.Meaning.{mean, step_mean, inner_mean}
use Rattle.apply_ast.specs.NamedHierarchies.{hierarchies, inner_hierarchies}
use Rattle.rewrite_laws.specs.Rewrites.{ended, ended_inner}
use Rattle.context_typing.proofs.WalkFacts.{pipe-steps, shape-append}
use Rattle.rewrite_laws.proofs.StepLists.{mean-append, hierarchies-append}

-- ---- at the end of a pipeline

pub ended-long : (p : Pipe) (s : Step) → is_long (ended p s) ≡ true
ended-long Pipe.End s = refl
ended-long (Pipe.Then x p) s = refl

pub ended-hierarchies : (p : Pipe) (b : Expr) → hierarchies (ended p (Step.Filter b)) ≡ hierarchies p
ended-hierarchies p b = hierarchies-append (steps p) (Step.Filter b ∷ []) ∙ append-nil (hierarchies (pipe (steps p))) ∙ ap hierarchies (pipe-steps p)

pub ended-shape : (m : Model) (c : Customs) (S T : Shape) (p : Pipe) (b : Expr) → steps_shape m c S p ≡ Some T → has_kind is_boolean_kind m T b ≡ true → steps_shape m c S (ended p (Step.Filter b)) ≡ Some T
unfolding steps_shape
ended-shape m c S T p b e h =
    shape-append m c S (steps p) (Step.Filter b ∷ []) ∙ ap (option_and_then (λ Z. steps_shape m c Z (pipe (Step.Filter b ∷ [])))) (ap (steps_shape m c S) (pipe-steps p) ∙ e)
    ∙ ap (λ z. option_and_then (λ Z. Some Z) (then_some z T)) h

chain-end : {X : Type 0} (o : Option X) → option_and_then (λ z. Some z) o ≡ o
chain-end None = refl
chain-end (Some z) = refl

pub ended-mean : (w : World) (c : Customs) (S T : Shape) (p : Pipe) (b : Expr) (l : List Instance) → steps_shape w.model c S p ≡ Some T → mean w c S (ended p (Step.Filter b)) l ≡ option_and_then (step_mean w c T (Step.Filter b)) (mean w c S p l)
unfolding mean steps_shape
ended-mean w c S T p b l e =
    mean-append w c S T (steps p) (Step.Filter b ∷ []) l (ap (steps_shape w.model c S) (pipe-steps p) ∙ e)
    ∙ (λ i. option_and_then (λ r. chain-end (step_mean w c T (Step.Filter b) r) i) (mean w c S (pipe-steps p i) l))

-- ---- at the end of an inner pipeline, which may be none

pub ended_inner-hierarchies : (T : OptPipe) (b : Expr) → inner_hierarchies (ended_inner T (Step.Filter b)) ≡ inner_hierarchies T
ended_inner-hierarchies OptPipe.NoPipe b = refl
ended_inner-hierarchies (OptPipe.SomePipe p) b = ended-hierarchies p b

pub ended_inner-shape : (m : Model) (c : Customs) (S R : Shape) (T : OptPipe) (b : Expr) → inner_shape m c S S T ≡ Some R → has_kind is_boolean_kind m R b ≡ true → inner_shape m c S S (ended_inner T (Step.Filter b)) ≡ Some R
unfolding steps_shape
ended_inner-shape m c S R OptPipe.NoPipe b e h =
    let same : S ≡ R = some_value e in
    ap (λ z. option_and_then (λ Z. Some Z) (then_some z S)) (ap (λ Z. has_kind is_boolean_kind m Z b) same ∙ h) ∙ e
ended_inner-shape m c S R (OptPipe.SomePipe p) b e h =
    let t = if_else-parts (is_long p) (steps_shape m c S p) R e in
    ap (λ z. if z then steps_shape m c S (ended p (Step.Filter b)) else None) (ended-long p (Step.Filter b)) ∙ ended-shape m c S R p b t.1 h

pub ended_inner-mean : (w : World) (c : Customs) (S R : Shape) (T : OptPipe) (b : Expr) (l : List Instance) → inner_shape w.model c S S T ≡ Some R
    → inner_mean w c S (λ r. Some r) (ended_inner T (Step.Filter b)) l ≡ option_and_then (step_mean w c R (Step.Filter b)) (inner_mean w c S (λ r. Some r) T l)
unfolding mean steps_shape
ended_inner-mean w c S R OptPipe.NoPipe b l e = chain-end (step_mean w c S (Step.Filter b) l)
ended_inner-mean w c S R (OptPipe.SomePipe p) b l e = let t = if_else-parts (is_long p) (steps_shape w.model c S p) R e in ended-mean w c S R p b l t.1
