-- A rule whose results are smaller at its place has smaller results at every place.
use Rattle.std.proofs.Common.{◌≡◌, subst, Bool, true, false, List, [], ◌∷◌, ◌++◌, Option, Some, None, map}
use Rattle.std.specs.Prelude.{option_to_list}
use Rattle.edm_model.specs.LookUps.{HierarchyPlace}
use Rattle.edm_model.specs.Models.{Model, Navigation}
use Rattle.apply_ast.specs.Trees.{Pipe, Step, OptPipe, Pipes, Key, Keys, steps, pipe}
use Rattle.context_typing.specs.Shapes.{Shape, set_shape}
use Rattle.context_typing.specs.Typing.{hierarchy_at, Customs, join_navigation, after}
use Rattle.context_typing.proofs.WalkFacts.{pipe-steps}
use Rattle.rewrite_laws.specs.Measures.{IsSmaller}
use Rattle.rewrite_laws.specs.Rewrites.{Rule, pipe_results, inner_results, branch_results, key_results, keys_results, step_results}
use Rattle.edm_values.proofs.EachLemmas.{Each, each-append, each-map}
use Rattle.rewrite_laws.proofs.FilterRuns.{each-place}
use Rattle.rewrite_laws.proofs.Branches.{Branched, BranchedInner, BranchedAll, BranchedKey, BranchedKeys, BranchedStep}
use Rattle.rewrite_laws.proofs.Smaller.{IsLess, inner_measure, branches_measure, key_measure, keys_measure, step_measure, in_first, in_rest, in_inner, in_branch, in_branches, in_concat, in_key, in_first_key, in_other_keys, in_group_keys, in_group, in_join, in_climb}

-- the results at the place itself are smaller, where their concatenations have branches
abbrev pub LowersInPlace : Rule → Type 0
LowersInPlace r = (m : Model) (c : Customs) (S : Shape) (before : Bool) (s : Step) (ss ss' : List Step) → r m c S before s ss ≡ Some ss' → Branched (pipe ss') → IsSmaller (pipe ss') (pipe (s ∷ ss))

module _ (r : Rule) (K : LowersInPlace r) (m : Model) (c : Customs) where
  abbrev SmallerPipe : Pipe → Pipe → Type 0
  SmallerPipe p q = Branched q → IsSmaller q p

  abbrev SmallerInner : OptPipe → OptPipe → Type 0
  SmallerInner T T' = BranchedInner T' → IsLess (inner_measure T') (inner_measure T)

  abbrev SmallerBranches : Pipes → Pipes → Type 0
  SmallerBranches ps qs = BranchedAll qs → IsLess (branches_measure qs) (branches_measure ps)

  abbrev SmallerKey : Key → Key → Type 0
  SmallerKey k k' = BranchedKey k' → IsLess (key_measure k') (key_measure k)

  abbrev SmallerKeys : Keys → Keys → Type 0
  SmallerKeys ks ks' = BranchedKeys ks' → IsLess (keys_measure ks') (keys_measure ks)

  abbrev SmallerStep : Step → Step → Type 0
  SmallerStep s s' = BranchedStep s' → IsLess (step_measure s') (step_measure s)

  at_first : (S : Shape) (before : Bool) (s : Step) (p : Pipe) → Each (SmallerPipe (Pipe.Then s p)) (map pipe (option_to_list (r m c S before s (steps p))))
  at_first S before s p = each-place (SmallerPipe (Pipe.Then s p)) (r m c S before s (steps p)) (λ ss k b.
      let P : Pipe → Type 0 = λ q. IsSmaller (pipe ss) (Pipe.Then s q) in
      subst P (pipe-steps p) (K m c S before s (steps p) ss k b))

  mutual
    unfolding pipe_results

    pub pipe_smaller : (p : Pipe) (S : Shape) (before : Bool) → Each (SmallerPipe p) (pipe_results r m c S before p)
    pipe_smaller Pipe.End S before = tt
    pipe_smaller (Pipe.Then s p) S before =
        let here = map pipe (option_to_list (r m c S before s (steps p))) in
        let first = map (λ s'. Pipe.Then s' p) (step_results r m c S s) in
        let rest = map (Pipe.Then s) (pipe_results r m c (after m c S s) true p) in
        each-append (SmallerPipe (Pipe.Then s p)) (here ++ first) rest
        (each-append (SmallerPipe (Pipe.Then s p)) here first (at_first S before s p)
        (each-map (SmallerPipe (Pipe.Then s p)) (SmallerStep s) (λ s'. Pipe.Then s' p) (λ s' h b. in_first s' s p b.1 (h b.0)) (step_results r m c S s) (step_smaller s S)))
        (each-map (SmallerPipe (Pipe.Then s p)) (SmallerPipe p) (Pipe.Then s) (λ q h b. in_rest s q p b.0 (h b.1)) (pipe_results r m c (after m c S s) true p) (pipe_smaller p (after m c S s) true))

    inner_smaller : (T : OptPipe) (S : Shape) → Each (SmallerInner T) (inner_results r m c S T)
    inner_smaller OptPipe.NoPipe S = tt
    inner_smaller (OptPipe.SomePipe p) S = each-map (SmallerInner (OptPipe.SomePipe p)) (SmallerPipe p) OptPipe.SomePipe (λ q h b. in_inner q p (h b)) (pipe_results r m c S false p) (pipe_smaller p S false)

    branches_smaller : (ps : Pipes) (S : Shape) → Each (SmallerBranches ps) (branch_results r m c S ps)
    branches_smaller Pipes.NoPipes S = tt
    branches_smaller (Pipes.MorePipes p ps) S =
        each-append (SmallerBranches (Pipes.MorePipes p ps)) (map (λ q. Pipes.MorePipes q ps) (pipe_results r m c S false p)) (map (Pipes.MorePipes p) (branch_results r m c S ps))
        (each-map (SmallerBranches (Pipes.MorePipes p ps)) (SmallerPipe p) (λ q. Pipes.MorePipes q ps) (λ q h b. in_branch q p ps (h b.0)) (pipe_results r m c S false p) (pipe_smaller p S false))
        (each-map (SmallerBranches (Pipes.MorePipes p ps)) (SmallerBranches ps) (Pipes.MorePipes p) (λ qs h b. in_branches p qs ps (h b.1)) (branch_results r m c S ps) (branches_smaller ps S))

    key_smaller : (k : Key) → Each (SmallerKey k) (key_results r m c k)
    key_smaller (Key.Plain p) = tt
    key_smaller (Key.Rollup all ps) = tt
    key_smaller (Key.Recursive h p T) = go (hierarchy_at m h) (λ f. inner_smaller T (set_shape f.type))
      where
        go : (o : Option HierarchyPlace) → ((f : HierarchyPlace) → Each (SmallerInner T) (inner_results r m c (set_shape f.type) T))
            → Each (SmallerKey (Key.Recursive h p T)) (elim o [ None ↦ [] | Some f ↦ map (Key.Recursive h p) (inner_results r m c (set_shape f.type) T) ])
        go None e = tt
        go (Some f) e = each-map (SmallerKey (Key.Recursive h p T)) (SmallerInner T) (Key.Recursive h p) (λ T' k b. in_key h p T' T (k b)) (inner_results r m c (set_shape f.type) T) (e f)

    keys_smaller : (ks : Keys) → Each (SmallerKeys ks) (keys_results r m c ks)
    keys_smaller Keys.NoKeys = tt
    keys_smaller (Keys.MoreKeys k ks) =
        each-append (SmallerKeys (Keys.MoreKeys k ks)) (map (λ k'. Keys.MoreKeys k' ks) (key_results r m c k)) (map (Keys.MoreKeys k) (keys_results r m c ks))
        (each-map (SmallerKeys (Keys.MoreKeys k ks)) (SmallerKey k) (λ k'. Keys.MoreKeys k' ks) (λ k' h b. in_first_key k' k ks (h b.0)) (key_results r m c k) (key_smaller k))
        (each-map (SmallerKeys (Keys.MoreKeys k ks)) (SmallerKeys ks) (Keys.MoreKeys k) (λ ks' h b. in_other_keys k ks' ks (h b.1)) (keys_results r m c ks) (keys_smaller ks))

    step_smaller : (s : Step) (S : Shape) → Each (SmallerStep s) (step_results r m c S s)
    step_smaller (Step.GroupBy ks T) S =
        each-append (SmallerStep (Step.GroupBy ks T)) (map (λ ks'. Step.GroupBy ks' T) (keys_results r m c ks)) (map (Step.GroupBy ks) (inner_results r m c S T))
        (each-map (SmallerStep (Step.GroupBy ks T)) (SmallerKeys ks) (λ ks'. Step.GroupBy ks' T) (λ ks' h b. in_group_keys ks' ks T (h b.0)) (keys_results r m c ks) (keys_smaller ks))
        (each-map (SmallerStep (Step.GroupBy ks T)) (SmallerInner T) (Step.GroupBy ks) (λ T' h b. in_group ks T' T (h b.1)) (inner_results r m c S T) (inner_smaller T S))
    step_smaller (Step.Concat ps) S = each-map (SmallerStep (Step.Concat ps)) (SmallerBranches ps) Step.Concat (λ qs h b. in_concat qs ps (h b.1)) (branch_results r m c S ps) (branches_smaller ps S)
    step_smaller (Step.Join outer n a T) S = go (join_navigation m S n) (λ v. inner_smaller T (set_shape v.target))
      where
        go : (o : Option Navigation) → ((v : Navigation) → Each (SmallerInner T) (inner_results r m c (set_shape v.target) T))
            → Each (SmallerStep (Step.Join outer n a T)) (elim o [ None ↦ [] | Some v ↦ map (Step.Join outer n a) (inner_results r m c (set_shape v.target) T) ])
        go None e = tt
        go (Some v) e = each-map (SmallerStep (Step.Join outer n a T)) (SmallerInner T) (Step.Join outer n a) (λ T' h b. in_join outer n a T' T (h b)) (inner_results r m c (set_shape v.target) T) (e v)
    step_smaller (Step.Climb up h p T d keep) S =
        each-map (SmallerStep (Step.Climb up h p T d keep)) (SmallerPipe T) (λ T'. Step.Climb up h p T' d keep) (λ T' k b. in_climb up h p T' T d keep (k b)) (pipe_results r m c S false T) (pipe_smaller T S false)
    step_smaller s S = tt
