-- A tree that is smaller at one place is smaller as a whole: the congruence of the measure over places.
use Rattle.std.proofs.Common.{◌≡◌, ℕ, ◌+◌, ◌-◌, ◌≤◌, ◌<◌, ◌⊎◌, inl, inr, Bool, Option, arith}
use Rattle.edm_values.specs.Names.{Name, Path}
use Rattle.apply_ast.specs.Counts.{step_count, opt_count, branches_count, key_count, keys_count, inner_count}
use Rattle.apply_ast.specs.Trees.{HierName, Pipe, Step, OptPipe, Pipes, Key, Keys}
use Rattle.rewrite_laws.specs.Measures.{weight, inner_weight, branches_weight, key_weight, keys_weight, step_weight, identity_count, inner_identities, branch_identities, key_identities, keys_identities, step_identities, IsSmaller}
use Rattle.rewrite_laws.proofs.Rising.{rising-mono, rising-least}
use Rattle.rewrite_laws.proofs.Branches.{Branched, BranchedStep, pipe_rising, step_rising}

mutual
  unfolding step_count

  -- a tree has no more identities than steps
  pub few_identities : (p : Pipe) → identity_count p ≤ step_count p
  few_identities Pipe.End = omega arith
  few_identities (Pipe.Then s p) = let a = few_step s in let b = few_identities p in omega (arith, a, b)

  pub few_inner : (T : OptPipe) → inner_identities T ≤ opt_count T
  few_inner OptPipe.NoPipe = omega arith
  few_inner (OptPipe.SomePipe p) = few_identities p

  pub few_branches : (ps : Pipes) → branch_identities ps ≤ branches_count ps
  few_branches Pipes.NoPipes = omega arith
  few_branches (Pipes.MorePipes p ps) = let a = few_identities p in let b = few_branches ps in omega (arith, a, b)

  few_key : (k : Key) → key_identities k ≤ key_count k
  few_key (Key.Recursive h p T) = few_inner T
  few_key k = omega arith

  pub few_keys : (ks : Keys) → keys_identities ks ≤ keys_count ks
  few_keys Keys.NoKeys = omega arith
  few_keys (Keys.MoreKeys k ks) = let a = few_key k in let b = few_keys ks in omega (arith, a, b)

  pub few_step : (s : Step) → step_identities s ≤ 1 + inner_count s
  few_step (Step.GroupBy ks T) = let a = few_keys ks in let b = few_inner T in omega (arith, a, b)
  few_step (Step.Concat ps) = let a = few_branches ps in omega (arith, a)
  few_step (Step.Join outer n a T) = let b = few_inner T in omega (arith, b)
  few_step (Step.Climb up h p T d keep) = let a = few_identities T in omega (arith, a)
  few_step s = omega arith

-- what is compared of a tree
pub record Measure : Type 0 where
  pub weight : ℕ → ℕ
  pub steps : ℕ
  pub identities : ℕ

abbrev pub pipe_measure : Pipe → Measure
pipe_measure p = record { weight = weight p; steps = step_count p; identities = identity_count p }

abbrev pub inner_measure : OptPipe → Measure
inner_measure T = record { weight = inner_weight T; steps = opt_count T; identities = inner_identities T }

abbrev pub branches_measure : Pipes → Measure
branches_measure ps = record { weight = branches_weight ps; steps = branches_count ps; identities = branch_identities ps }

abbrev pub key_measure : Key → Measure
key_measure k = record { weight = λ v. key_weight k; steps = key_count k; identities = key_identities k }

abbrev pub keys_measure : Keys → Measure
keys_measure ks = record { weight = λ v. keys_weight ks; steps = keys_count ks; identities = keys_identities ks }

abbrev pub step_measure : Step → Measure
step_measure s = record { weight = step_weight s; steps = 1 + inner_count s; identities = step_identities s }

-- a measure is less than another: of two pipelines, this is that the first is smaller
abbrev pub IsLess : Measure → Measure → Type 0
IsLess m' m =
    ((v : ℕ) → 1 ≤ v → m'.weight v < m.weight v) ⊎ (((v : ℕ) → 1 ≤ v → m'.weight v ≤ m.weight v) × (m'.steps - m'.identities < m.steps - m.identities))
    ⊎ (((v : ℕ) → 1 ≤ v → m'.weight v ≤ m.weight v) × (m'.steps - m'.identities ≤ m.steps - m.identities) × (m'.identities < m.identities))

-- a measure in a place: the place's weight rises with it, and the place adds the rest of its steps
less_at_place : (m' m n' n : Measure) (k l : ℕ) → m'.identities ≤ m'.steps → m.identities ≤ m.steps → l ≤ k
    → (((v : ℕ) → 1 ≤ v → m'.weight v < m.weight v) → (v : ℕ) → 1 ≤ v → n'.weight v < n.weight v) → (((v : ℕ) → 1 ≤ v → m'.weight v ≤ m.weight v) → (v : ℕ) → 1 ≤ v → n'.weight v ≤ n.weight v)
    → n'.steps ≡ k + m'.steps → n.steps ≡ k + m.steps → n'.identities ≡ l + m'.identities → n.identities ≡ l + m.identities → IsLess m' m → IsLess n' n
less_at_place m' m n' n k l f' f g lift keep x y z w (inl h) = inl (lift h)
less_at_place m' m n' n k l f' f g lift keep x y z w (inr (inl h)) = let c = h.1 in inr (inl (keep h.0, omega (arith, c)))
less_at_place m' m n' n k l f' f g lift keep x y z w (inr (inr h)) = let c = h.1 in let d = h.2 in inr (inr (keep h.0, omega (arith, c), omega (arith, d)))

-- ---- each place

pub in_first : (s' s : Step) (p : Pipe) → Branched p → IsLess (step_measure s') (step_measure s) → IsSmaller (Pipe.Then s' p) (Pipe.Then s p)
unfolding weight step_count
in_first s' s p b =
    let R = pipe_rising p b in
    less_at_place (step_measure s') (step_measure s) (pipe_measure (Pipe.Then s' p)) (pipe_measure (Pipe.Then s p)) (step_count p) (identity_count p) (few_step s') (few_step s) (few_identities p)
    (λ l v o. R.strict (step_weight s' v) (step_weight s v) (l v o)) (λ l v o. rising-mono (weight p) R (step_weight s' v) (step_weight s v) (l v o)) (omega arith) (omega arith) (omega arith) (omega arith)

pub in_rest : (s : Step) (q p : Pipe) → BranchedStep s → IsSmaller q p → IsSmaller (Pipe.Then s q) (Pipe.Then s p)
unfolding weight step_count
in_rest s q p b =
    less_at_place (pipe_measure q) (pipe_measure p) (pipe_measure (Pipe.Then s q)) (pipe_measure (Pipe.Then s p)) (1 + inner_count s) (step_identities s) (few_identities q) (few_identities p) (few_step s)
    (λ l v o. l (step_weight s v) (at_least v o)) (λ l v o. l (step_weight s v) (at_least v o)) (omega arith) (omega arith) (omega arith) (omega arith)
  where
    at_least : (v : ℕ) → 1 ≤ v → 1 ≤ step_weight s v
    at_least v o = let k : v ≤ step_weight s v = rising-least (step_weight s) (step_rising s b) v in omega arith

pub in_inner : (q p : Pipe) → IsSmaller q p → IsLess (inner_measure (OptPipe.SomePipe q)) (inner_measure (OptPipe.SomePipe p))
unfolding weight step_count
in_inner q p h = h

pub in_branch : (q p : Pipe) (ps : Pipes) → IsSmaller q p → IsLess (branches_measure (Pipes.MorePipes q ps)) (branches_measure (Pipes.MorePipes p ps))
unfolding weight step_count
in_branch q p ps =
    less_at_place (pipe_measure q) (pipe_measure p) (branches_measure (Pipes.MorePipes q ps)) (branches_measure (Pipes.MorePipes p ps)) (branches_count ps) (branch_identities ps)
    (few_identities q) (few_identities p) (few_branches ps) (λ l v o. omega (arith, l v o)) (λ l v o. omega (arith, l v o)) (omega arith) (omega arith) (omega arith) (omega arith)

pub in_branches : (p : Pipe) (qs ps : Pipes) → IsLess (branches_measure qs) (branches_measure ps) → IsLess (branches_measure (Pipes.MorePipes p qs)) (branches_measure (Pipes.MorePipes p ps))
unfolding weight step_count
in_branches p qs ps =
    less_at_place (branches_measure qs) (branches_measure ps) (branches_measure (Pipes.MorePipes p qs)) (branches_measure (Pipes.MorePipes p ps)) (step_count p) (identity_count p)
    (few_branches qs) (few_branches ps) (few_identities p) (λ l v o. omega (arith, l v o)) (λ l v o. omega (arith, l v o)) (omega arith) (omega arith) (omega arith) (omega arith)

pub in_concat : (qs ps : Pipes) → IsLess (branches_measure qs) (branches_measure ps) → IsLess (step_measure (Step.Concat qs)) (step_measure (Step.Concat ps))
unfolding weight step_count
in_concat qs ps =
    less_at_place (branches_measure qs) (branches_measure ps) (step_measure (Step.Concat qs)) (step_measure (Step.Concat ps)) 1 0 (few_branches qs) (few_branches ps) (omega arith)
    (λ l v o. let k = l (v + 1) (omega arith) in omega (arith, k)) (λ l v o. let k = l (v + 1) (omega arith) in omega (arith, k)) (omega arith) (omega arith) (omega arith) (omega arith)

pub in_key : (n : HierName) (p : Path) (T' T : OptPipe) → IsLess (inner_measure T') (inner_measure T) → IsLess (key_measure (Key.Recursive n p T')) (key_measure (Key.Recursive n p T))
unfolding weight step_count
in_key n p T' T =
    less_at_place (inner_measure T') (inner_measure T) (key_measure (Key.Recursive n p T')) (key_measure (Key.Recursive n p T)) 0 0 (few_inner T') (few_inner T) (omega arith)
    (λ l v o. l 1 (omega arith)) (λ l v o. l 1 (omega arith)) (omega arith) (omega arith) (omega arith) (omega arith)

pub in_first_key : (k' k : Key) (ks : Keys) → IsLess (key_measure k') (key_measure k) → IsLess (keys_measure (Keys.MoreKeys k' ks)) (keys_measure (Keys.MoreKeys k ks))
unfolding weight step_count
in_first_key k' k ks =
    less_at_place (key_measure k') (key_measure k) (keys_measure (Keys.MoreKeys k' ks)) (keys_measure (Keys.MoreKeys k ks)) (keys_count ks) (keys_identities ks)
    (few_key k') (few_key k) (few_keys ks) (λ l v o. omega (arith, l v o)) (λ l v o. omega (arith, l v o)) (omega arith) (omega arith) (omega arith) (omega arith)

pub in_other_keys : (k : Key) (ks' ks : Keys) → IsLess (keys_measure ks') (keys_measure ks) → IsLess (keys_measure (Keys.MoreKeys k ks')) (keys_measure (Keys.MoreKeys k ks))
unfolding weight step_count
in_other_keys k ks' ks =
    less_at_place (keys_measure ks') (keys_measure ks) (keys_measure (Keys.MoreKeys k ks')) (keys_measure (Keys.MoreKeys k ks)) (key_count k) (key_identities k)
    (few_keys ks') (few_keys ks) (few_key k) (λ l v o. omega (arith, l v o)) (λ l v o. omega (arith, l v o)) (omega arith) (omega arith) (omega arith) (omega arith)

pub in_group_keys : (ks' ks : Keys) (T : OptPipe) → IsLess (keys_measure ks') (keys_measure ks) → IsLess (step_measure (Step.GroupBy ks' T)) (step_measure (Step.GroupBy ks T))
unfolding weight step_count
in_group_keys ks' ks T =
    let t = few_inner T in
    less_at_place (keys_measure ks') (keys_measure ks) (step_measure (Step.GroupBy ks' T)) (step_measure (Step.GroupBy ks T)) (1 + opt_count T) (inner_identities T)
    (few_keys ks') (few_keys ks) (omega (arith, t)) (λ l v o. omega (arith, l v o)) (λ l v o. omega (arith, l v o)) (omega arith) (omega arith) (omega arith) (omega arith)

pub in_group : (ks : Keys) (T' T : OptPipe) → IsLess (inner_measure T') (inner_measure T) → IsLess (step_measure (Step.GroupBy ks T')) (step_measure (Step.GroupBy ks T))
unfolding weight step_count
in_group ks T' T =
    let t = few_keys ks in
    less_at_place (inner_measure T') (inner_measure T) (step_measure (Step.GroupBy ks T')) (step_measure (Step.GroupBy ks T)) (1 + keys_count ks) (keys_identities ks)
    (few_inner T') (few_inner T) (omega (arith, t)) (λ l v o. omega (arith, l v o)) (λ l v o. omega (arith, l v o)) (omega arith) (omega arith) (omega arith) (omega arith)

pub in_join : (outer : Bool) (n a : Name) (T' T : OptPipe) → IsLess (inner_measure T') (inner_measure T) → IsLess (step_measure (Step.Join outer n a T')) (step_measure (Step.Join outer n a T))
unfolding weight step_count
in_join outer n a T' T =
    less_at_place (inner_measure T') (inner_measure T) (step_measure (Step.Join outer n a T')) (step_measure (Step.Join outer n a T)) 1 0
    (few_inner T') (few_inner T) (omega arith) (λ l v o. omega (arith, l v o)) (λ l v o. omega (arith, l v o)) (omega arith) (omega arith) (omega arith) (omega arith)

pub in_climb : (up : Bool) (n : HierName) (p : Path) (T' T : Pipe) (d : Option ℕ) (keep : Bool) → IsSmaller T' T → IsLess (step_measure (Step.Climb up n p T' d keep)) (step_measure (Step.Climb up n p T d keep))
unfolding weight step_count
in_climb up n p T' T d keep =
    less_at_place (pipe_measure T') (pipe_measure T) (step_measure (Step.Climb up n p T' d keep)) (step_measure (Step.Climb up n p T d keep)) 1 0
    (few_identities T') (few_identities T) (omega arith) (λ l v o. omega (arith, l v o)) (λ l v o. omega (arith, l v o)) (omega arith) (omega arith) (omega arith) (omega arith)
