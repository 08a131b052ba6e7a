-- The hierarchies of the parts of a pipeline whose hierarchies are ready.
use Rattle.std.proofs.Common.{◌≡◌, ℕ, zero, suc, ◌+◌, ◌<◌, sym, subst, List, [], ◌∷◌, ◌++◌, length, drop, get_or, map, Some, inl, inr}
use Rattle.std.specs.Prelude.{All, slice_get}
use Rattle.std.proofs.lemmas.List.Elements.{All-cons, All-head, All-nil, All-tail}
use Rattle.edm_values.proofs.OptionFacts.{none_or, some_value}
use Rattle.apply_ast.specs.Trees.{HierName, Key, Keys, Pipe, pipe}
use Rattle.apply_ast.specs.Views.{pipes_from, step_of}
use Rattle.apply_ast.specs.declared.steps.Step as of_step
use Rattle.apply_meaning.proofs.RunLemmas.{next-step}
use Rattle.hier_states.specs.NamedHierarchies.{branch_hierarchies, hierarchies, key_hierarchies, keys_hierarchies, step_hierarchies}
use Rattle.hier_states.specs.States.{IsReadyAt}
use Rattle.step_run.specs.Conditions.{AreReady}
use Rattle.step_run.specs.Contexts.{Context}
use Rattle.step_run.specs.RecursiveKeys.{HasKey}

-- a fact of all elements of two lists holds of those of each

pub all-front : {X : Type 0} (P : X → Type 0) (xs ys : List X) → All P (xs ++ ys) → All P xs
all-front P [] ys a = All-nil P
all-front P (x ∷ xs) ys a = All-cons P x xs (All-head P x (xs ++ ys) a) (all-front P xs ys (All-tail P x (xs ++ ys) a))

pub all-back : {X : Type 0} (P : X → Type 0) (xs ys : List X) → All P (xs ++ ys) → All P ys
all-back P [] ys a = a
all-back P (x ∷ xs) ys a = all-back P xs ys (All-tail P x (xs ++ ys) a)

module _ (x : Context) where
  pub ready-front : (hs ks : List HierName) → AreReady x (hs ++ ks) → AreReady x hs
  ready-front hs ks a = all-front (IsReadyAt x.world x.hiers) hs ks a

  pub ready-back : (hs ks : List HierName) → AreReady x (hs ++ ks) → AreReady x ks
  ready-back hs ks a = all-back (IsReadyAt x.world x.hiers) hs ks a

  -- the next transformation of a pipeline in the program, and the rest
  pub ready-here : (ss : List of_step.Step) (i : ℕ) (d : of_step.Step) → i < length ss → d ≡ get_or ss i d → AreReady x (hierarchies (pipe (map step_of (drop i ss)))) → AreReady x (step_hierarchies (step_of d))
  ready-here ss i d h e a = ready-front (step_hierarchies (step_of d)) (hierarchies (pipe (map step_of (drop (i + 1) ss)))) (subst (λ p. AreReady x (hierarchies p)) (next-step ss i d h e) a)

  pub ready-next : (ss : List of_step.Step) (i : ℕ) (d : of_step.Step) → i < length ss → d ≡ get_or ss i d → AreReady x (hierarchies (pipe (map step_of (drop i ss)))) → AreReady x (hierarchies (pipe (map step_of (drop (i + 1) ss))))
  ready-next ss i d h e a = ready-back (step_hierarchies (step_of d)) (hierarchies (pipe (map step_of (drop (i + 1) ss)))) (subst (λ p. AreReady x (hierarchies p)) (next-step ss i d h e) a)

  -- each branch of a concatenation
  pub ready-branch : (ps : List Pipe) → AreReady x (branch_hierarchies (pipes_from ps)) → (n : ℕ) (p : Pipe) → slice_get ps n ≡ Some p → AreReady x (hierarchies p)
  ready-branch [] a n p e = none_or p e
  ready-branch (q ∷ ps) a zero p e = subst (λ p. AreReady x (hierarchies p)) (some_value e) (ready-front (hierarchies q) (branch_hierarchies (pipes_from ps)) a)
  ready-branch (q ∷ ps) a (suc n) p e = ready-branch ps (ready-back (hierarchies q) (branch_hierarchies (pipes_from ps)) a) n p e

  -- a key of a grouping
  pub ready-key : (k : Key) (ks : Keys) → HasKey k ks → AreReady x (keys_hierarchies ks) → AreReady x (key_hierarchies k)
  ready-key k Keys.NoKeys h a = absurd h
  ready-key k (Keys.MoreKeys y ks) (inl e) a = subst (λ k. AreReady x (key_hierarchies k)) (sym e) (ready-front (key_hierarchies y) (keys_hierarchies ks) a)
  ready-key k (Keys.MoreKeys y ks) (inr h) a = ready-key k ks h (ready-back (key_hierarchies y) (keys_hierarchies ks) a)

  -- the first of some hierarchies, and the others
  pub ready-first : (h : HierName) (hs : List HierName) → AreReady x (h ∷ hs) → IsReadyAt x.world x.hiers h
  ready-first h hs a = All-head (IsReadyAt x.world x.hiers) h hs a

  pub ready-others : (h : HierName) (hs : List HierName) → AreReady x (h ∷ hs) → AreReady x hs
  ready-others h hs a = All-tail (IsReadyAt x.world x.hiers) h hs a
