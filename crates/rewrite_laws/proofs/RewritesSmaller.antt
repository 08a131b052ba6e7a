-- Each rewrite makes a pipeline smaller.
use Rattle.std.proofs.Common.{◌≡◌, refl, Bool, true, false, List, [], ◌∷◌, ◌++◌, filter, cond}
use Rattle.std.specs.Prelude.{is_some}
use Rattle.edm_model.specs.Models.{Model}
use Rattle.apply_ast.specs.Trees.{Pipe}
use Rattle.context_typing.specs.Shapes.{Shape}
use Rattle.context_typing.specs.Typing.{Customs, is_nodes, steps_shape}
use Rattle.rewrite_laws.specs.Measures.{IsSmaller}
use Rattle.rewrite_laws.specs.Rewrites.{Rule, rules, is_no_rollup, is_levels, drop_identity, split_conjunction, drop_true, pass_compute, pass_order, pass_groups, pass_rollup, filter_branches, factor_branches, pass_join, filter_related, pass_outer_join, drop_order, join_counts, pass_traverse, pass_nodes, filter_nodes, drop_idle, pipe_results, IsRewrite}
use Rattle.rewrite_laws.specs.RewriteLaws.{RewritesAreSmaller}
use Rattle.edm_values.proofs.EachLemmas.{Each, each-append, each-contains, each-weaker}
use Rattle.edm_values.proofs.OptionFacts.{some_there}
use Rattle.rewrite_laws.proofs.SmallerPlaces.{LowersInPlace, pipe_smaller}
use Rattle.rewrite_laws.proofs.SmallerNeighbours.{drop_identity-lowers, split_conjunction-lowers, drop_true-lowers, pass_compute-lowers, pass_order-lowers, drop_order-lowers, join_counts-lowers}
use Rattle.rewrite_laws.proofs.SmallerInside.{pass_grouping-lowers, filter_branches-lowers, factor_branches-lowers, pass_join-lowers, filter_related-lowers, pass_outer_join-lowers}
use Rattle.rewrite_laws.proofs.SmallerNodes.{pass_traverse-lowers, filter_nodes-lowers, drop_idle-lowers}
use Rattle.rewrite_laws.proofs.TypedBranches.{typed-branched}

-- what is left by a test passes it
kept : {X : Type 0} (P : X → Type 0) (t : X → Bool) (b : Bool) (x : X) (xs : List X) → t x ≡ b → (t x ≡ true → P x) → Each P xs → Each P (cond b (x ∷ xs) xs)
kept P t true x xs e f a = (f e, a)
kept P t false x xs e f a = a

each-kept : {X : Type 0} (P : X → Type 0) (t : X → Bool) (xs : List X) → Each (λ x. t x ≡ true → P x) xs → Each P (filter t xs)
each-kept P t [] a = tt
each-kept P t (x ∷ xs) a = kept P t (t x) x (filter t xs) refl a.0 (each-kept P t xs a.1)

-- a rule that lowers in place makes a pipeline smaller wherever it applies
pub rewrite_smaller : (r : Rule) → LowersInPlace r → (m : Model) (c : Customs) (S : Shape) (p q : Pipe) → IsRewrite r m c S p q → IsSmaller q p
rewrite_smaller r K m c S p q h =
    let typed = λ (q : Pipe). is_some (steps_shape m c S q) in
    let qs = pipe_results r m c S false p in
    let a = each-weaker _ (λ q. typed q ≡ true → IsSmaller q p) qs (λ q f e. let t = some_there (steps_shape m c S q) e in f (typed-branched m c q S t.0 t.1)) (pipe_smaller r K m c p S false) in
    each-contains (λ q. IsSmaller q p) (filter typed qs) q (each-kept (λ q. IsSmaller q p) typed qs a) h

-- the rules, in three parts
abbrev pub first_rules : List Rule
first_rules = drop_identity ∷ split_conjunction ∷ drop_true ∷ pass_compute ∷ pass_order ∷ pass_groups ∷ pass_rollup ∷ []

abbrev pub middle_rules : List Rule
middle_rules = filter_branches ∷ factor_branches ∷ pass_join ∷ filter_related ∷ pass_outer_join ∷ []

abbrev pub last_rules : List Rule
last_rules = drop_order ∷ join_counts ∷ pass_traverse ∷ pass_nodes ∷ filter_nodes ∷ drop_idle ∷ []

-- each of them lowers in place
first_lower : Each LowersInPlace first_rules
first_lower = (drop_identity-lowers, (split_conjunction-lowers, (drop_true-lowers, (pass_compute-lowers, (pass_order-lowers, (pass_grouping-lowers is_no_rollup, (pass_grouping-lowers is_levels, tt)))))))

middle_lower : Each LowersInPlace middle_rules
middle_lower = (filter_branches-lowers, (factor_branches-lowers, (pass_join-lowers, (filter_related-lowers, (pass_outer_join-lowers, tt)))))

last_lower : Each LowersInPlace last_rules
last_lower = (drop_order-lowers, (join_counts-lowers, (pass_traverse-lowers, (pass_grouping-lowers is_nodes, (filter_nodes-lowers, (drop_idle-lowers, tt))))))

rules_lower : Each LowersInPlace rules
rules_lower = each-append LowersInPlace first_rules (middle_rules ++ last_rules) first_lower (each-append LowersInPlace middle_rules last_rules middle_lower last_lower)

pub rewrites_are_smaller : RewritesAreSmaller
rewrites_are_smaller r k m c S p q h = rewrite_smaller r (each-contains LowersInPlace rules r rules_lower k) m c S p q h
