-- A pipeline that has a typing has two branches or more in each concatenation.
use Rattle.std.proofs.Common.{◌≡◌, refl, sym, ap, ℕ, ◌+◌, ◌≤◌, true, List, [], ◌∷◌, length, Option, Some, None, arith}
use Rattle.std.specs.Prelude.{nat_le, option_map, if◌then◌else◌}
use Rattle.edm_model.specs.Models.{Model}
use Rattle.edm_values.specs.Lists.{all_some}
use Rattle.apply_ast.specs.Trees.{Pipe, Step, OptPipe, Pipes, Key, Keys, is_long}
use Rattle.context_typing.specs.Shapes.{Shape, set_shape}
use Rattle.context_typing.specs.Typing.{Customs, hierarchy_at, is_node_path, join_navigation, no_shape, branches_agree, concat_shape, steps_shape, step_shape, inner_shape, branch_shapes, key_typed, keys_typed}
use Rattle.std.proofs.lemmas.Bool.{leb-true}
use Rattle.edm_values.proofs.EachLemmas.{none_is_not_some, then_some-holds, and-left, and-right, all_some-head, all_some-tail}
use Rattle.edm_values.proofs.OptionFacts.{chained, some_and, if_else-parts}
use Rattle.rewrite_laws.proofs.Branches.{Branched, BranchedInner, BranchedAll, BranchedKey, BranchedKeys, BranchedStep, branch_count}

-- as many shapes as branches
one_more : (x : Shape) (o : Option (List Shape)) (ys : List Shape) (n : ℕ) → ((xs : List Shape) → o ≡ Some xs → length xs ≡ n) → option_map (λ zs. x ∷ zs) o ≡ Some ys → length ys ≡ 1 + n
one_more x None ys n h e = absurd (none_is_not_some ys e)
one_more x (Some xs) ys n h e = let t : (x ∷ xs) ≡ ys = cc in let l = ap length (sym t) in let k = h xs refl in omega (arith, l, k)

all_counted : (o : Option Shape) (os : List (Option Shape)) (ys : List Shape) (n : ℕ) → ((xs : List Shape) → all_some os ≡ Some xs → length xs ≡ n) → all_some (o ∷ os) ≡ Some ys → length ys ≡ 1 + n
all_counted None os ys n h e = absurd (none_is_not_some ys e)
all_counted (Some x) os ys n h e = one_more x (all_some os) ys n h e

counted : (m : Model) (c : Customs) (S : Shape) (ps : Pipes) (Ss : List Shape) → all_some (branch_shapes m c S ps) ≡ Some Ss → length Ss ≡ branch_count ps
unfolding steps_shape
counted m c S Pipes.NoPipes Ss e = let t : [] ≡ Ss = cc in ap length (sym t)
counted m c S (Pipes.MorePipes p ps) Ss e = all_counted (if is_long p then steps_shape m c S p else None) (branch_shapes m c S ps) Ss (branch_count ps) (counted m c S ps) e

two-shapes : (m : Model) (Ss : List Shape) (S' : Shape) → concat_shape m Ss ≡ Some S' → 2 ≤ length Ss
two-shapes m Ss S' e = leb-true 2 (length Ss) (and-left (nat_le 2 (length Ss)) (branches_agree m Ss) (then_some-holds _ _ S' e))

module _ (m : Model) (c : Customs) where
  mutual
    unfolding steps_shape

    pub typed-branched : (p : Pipe) (S S' : Shape) → steps_shape m c S p ≡ Some S' → Branched p
    typed-branched Pipe.End S S' e = tt
    typed-branched (Pipe.Then s p) S S' e =
        let t = chained (λ T. steps_shape m c T p) (step_shape m c S s) S' e in
        (step-branched s S t.0 t.1, typed-branched p t.0 S' t.2)

    inner-branched : (T : OptPipe) (S d S' : Shape) → inner_shape m c S d T ≡ Some S' → BranchedInner T
    inner-branched OptPipe.NoPipe S d S' e = tt
    inner-branched (OptPipe.SomePipe p) S d S' e = typed-branched p S S' (if_else-parts (is_long p) (steps_shape m c S p) S' e).1

    all-branched : (ps : Pipes) (S : Shape) (Ss : List Shape) → all_some (branch_shapes m c S ps) ≡ Some Ss → BranchedAll ps
    all-branched Pipes.NoPipes S Ss e = tt
    all-branched (Pipes.MorePipes p ps) S Ss e =
        let x = if is_long p then steps_shape m c S p else None in
        let t = all_some-head x (branch_shapes m c S ps) Ss e in
        let u = all_some-tail x (branch_shapes m c S ps) Ss e in
        (typed-branched p S t.0 (if_else-parts (is_long p) (steps_shape m c S p) t.0 t.1).1, all-branched ps S u.0 u.1)

    key-branched : (k : Key) (S : Shape) → key_typed m c S k ≡ true → BranchedKey k
    key-branched (Key.Recursive h p T) S e =
        let x = some_and _ (hierarchy_at m h) (and-right (is_node_path m S h p) _ e) in
        let y = some_and _ (inner_shape m c (set_shape (x.0).type) (set_shape (x.0).type) T) x.2 in
        inner-branched T (set_shape (x.0).type) (set_shape (x.0).type) y.0 y.1
    key-branched k S e = tt

    keys-branched : (ks : Keys) (S : Shape) → keys_typed m c S ks ≡ true → BranchedKeys ks
    keys-branched Keys.NoKeys S e = tt
    keys-branched (Keys.MoreKeys k ks) S e = (key-branched k S (and-left (key_typed m c S k) (keys_typed m c S ks) e), keys-branched ks S (and-right (key_typed m c S k) (keys_typed m c S ks) e))

    step-branched : (s : Step) (S S' : Shape) → step_shape m c S s ≡ Some S' → BranchedStep s
    step-branched (Step.GroupBy ks T) S S' e =
        let t = if_else-parts (keys_typed m c S ks) _ S' e in
        let u = chained _ (inner_shape m c S no_shape T) S' t.1 in
        (keys-branched ks S t.0, inner-branched T S no_shape u.0 u.1)
    step-branched (Step.Concat ps) S S' e =
        let t = chained (concat_shape m) (all_some (branch_shapes m c S ps)) S' e in
        let n = counted m c S ps t.0 t.1 in
        let l = two-shapes m t.0 S' t.2 in
        (omega (arith, n, l), all-branched ps S t.0 t.1)
    step-branched (Step.Join outer n a T) S S' e =
        let t = chained _ (join_navigation m S n) S' e in
        let u = chained _ (inner_shape m c (set_shape (t.0).target) (set_shape (t.0).target) T) S' t.2 in
        inner-branched T (set_shape (t.0).target) (set_shape (t.0).target) u.0 u.1
    step-branched (Step.Climb up h p T d keep) S S' e =
        let x = some_and (λ R. is_node_path m R h p) (steps_shape m c S T) (and-right _ _ (then_some-holds _ S S' e)) in
        typed-branched T S x.0 x.1
    step-branched s S S' e = tt
