-- Two rules keep typing and meaning in place.
use Rattle.std.proofs.Common.{◌≡◌, refl, sym, ◌∙◌, ap, subst, Bool, true, false, not, ◌||◌, List, [], ◌∷◌, Some, IsTrue, filter}
use Rattle.std.proofs.Math.Bool.{or-true}
use Rattle.std.specs.Prelude.{option_and_then}
use Rattle.std.specs.List.{list_any}
use Rattle.std.specs.Bool.{then_some}
use Rattle.edm_data.specs.Worlds.{World}
use Rattle.edm_values.specs.Values.{is_beyond}
use Rattle.edm_values.specs.Lists.{is_nonempty}
use Rattle.apply_ast.specs.Trees.{Pipe, Step, Expr, pipe, is_long}
use Rattle.context_typing.specs.Typing.{Customs, steps_shape}
use Rattle.context_typing.specs.Shapes.{Shape}
use Rattle.apply_meaning.specs.Instances.{Instance}
use Rattle.apply_meaning.specs.Meaning.{mean, step_mean, values}
use Rattle.edm_values.proofs.EachLemmas.{then_some-holds, none_is_not_some}
use Rattle.edm_values.proofs.OptionFacts.{some_value, then_some-parts}
use Rattle.rewrite_laws.specs.Rewrites.{drop_identity, drop_true}
use Rattle.rewrite_laws.specs.RewriteLaws.{SameMeaning, KeepsMeaningInPlace}

-- a list that is not empty gives a pipeline with a step
long_pipe : (before : Bool) (ss : List Step) → (before || is_nonempty ss) ≡ true → IsTrue (before || is_long (pipe ss))
long_pipe true ss e = refl
long_pipe false [] e = cc
long_pipe false (s ∷ ss) e = refl

-- identity means nothing
identity_same : (A : World → Type 0) (w : World) (c : Customs) (S : Shape) (p : Pipe) → SameMeaning A w c S (Pipe.Then Step.Identity p) p
unfolding mean steps_shape
identity_same A w c S p = (λ h k. k, refl, λ a l f. refl)

pub drop_identity-keeps_meaning : (A : World → Type 0) → KeepsMeaningInPlace A drop_identity
unfolding mean steps_shape
drop_identity-keeps_meaning A w c S S' before Step.Identity ss ss' t k d e =
    let P : List Step → Type 0 = λ x. IsTrue (before || is_long (pipe x)) × SameMeaning A w c S (pipe (Step.Identity ∷ ss)) (pipe x) in
    subst P (then_some-parts (before || is_nonempty ss) ss ss' e).1
    (long_pipe before ss (then_some-holds (before || is_nonempty ss) ss ss' e), identity_same A w c S (pipe ss))
drop_identity-keeps_meaning A w c S S' before s ss ss' t k d e = absurd (none_is_not_some ss' e)

-- the filter that is always true is never Beyond and keeps every instance
true_is_not_beyond : (w : World) (l : List Instance) → list_any is_beyond (values w (Expr.Bool' true) l) ≡ false
true_is_not_beyond w [] = refl
true_is_not_beyond w (i ∷ l) = true_is_not_beyond w l

true_keeps_all : (l : List Instance) → filter (λ i. true) l ≡ l
true_keeps_all [] = refl
true_keeps_all (i ∷ l) = ap (λ r. i ∷ r) (true_keeps_all l)

filter_true : (w : World) (c : Customs) (S : Shape) (l : List Instance) → step_mean w c S (Step.Filter (Expr.Bool' true)) l ≡ Some l
unfolding mean steps_shape
filter_true w c S l = ap (λ b. then_some (not b) (filter (λ (i : Instance). true) l)) (true_is_not_beyond w l) ∙ ap (λ r. Some r) (true_keeps_all l)

true_same : (A : World → Type 0) (w : World) (c : Customs) (S : Shape) (p : Pipe) → SameMeaning A w c S (Pipe.Then (Step.Filter (Expr.Bool' true)) p) (Pipe.Then Step.Identity p)
unfolding mean steps_shape
true_same A w c S p = (λ h k. k, refl, λ a l f. sym (ap (λ o. option_and_then (mean w c S p) o) (filter_true w c S l)))

pub drop_true-keeps_meaning : (A : World → Type 0) → KeepsMeaningInPlace A drop_true
unfolding mean steps_shape
drop_true-keeps_meaning A w c S S' before (Step.Filter (Expr.Bool' true)) ss ss' t k d e =
    let P : List Step → Type 0 = λ x. IsTrue (before || is_long (pipe x)) × SameMeaning A w c S (pipe (Step.Filter (Expr.Bool' true) ∷ ss)) (pipe x) in
    subst P (some_value e) (long_pipe before (Step.Identity ∷ ss) (or-true before), true_same A w c S (pipe ss))
drop_true-keeps_meaning A w c S S' before s ss ss' t k d e = absurd (none_is_not_some ss' e)
