-- A measure of pipelines that every rewrite lowers.
use Rattle.std.specs.Prelude.{◌⊎◌, ◌≤◌, ◌<◌, ◌-◌, ℕ, ◌+◌, ◌*◌, ◌^◌}
use Rattle.apply_ast.specs.Counts.{step_count}
use Rattle.apply_ast.specs.Trees.{Expr, Pipe, Step, OptPipe, Pipes, Key, Keys}

-- the number of operators, calls, literals and paths of an expression
abbrev pub size : Expr → ℕ
size (Expr.Unary op a) = 1 + size a
size (Expr.Binary op a b) = 1 + size a + size b
size (Expr.Call1 f a) = 1 + size a
size (Expr.Call2 f a b) = 1 + size a + size b
size e = 1

unfoldable mutual
  -- a function of a whole number from 1 that no rewrite raises
  pub weight : Pipe → ℕ → ℕ
  weight Pipe.End v = v
  weight (Pipe.Then s p) v = weight p (step_weight s v)

  -- the weight of an inner pipeline, or the given number where there is none
  pub inner_weight : OptPipe → ℕ → ℕ
  inner_weight OptPipe.NoPipe v = v
  inner_weight (OptPipe.SomePipe p) v = weight p v

  -- the weights of the branches together
  pub branches_weight : Pipes → ℕ → ℕ
  branches_weight Pipes.NoPipes v = 0
  branches_weight (Pipes.MorePipes p ps) v = weight p v + branches_weight ps v

  -- what the pipeline of a recursive rollup adds
  pub key_weight : Key → ℕ
  key_weight (Key.Recursive h p T) = inner_weight T 1
  key_weight k = 0

  -- what the pipelines of all keys add
  pub keys_weight : Keys → ℕ
  keys_weight Keys.NoKeys = 0
  keys_weight (Keys.MoreKeys k ks) = key_weight k + keys_weight ks

  -- the weight of a step
  pub step_weight : Step → ℕ → ℕ
  step_weight Step.Identity v = v
  step_weight (Step.Filter e) v = v * 2 ^ size e
  step_weight (Step.GroupBy ks T) v = 1 + inner_weight T v + keys_weight ks
  step_weight (Step.Concat ps) v = 1 + branches_weight ps (v + 1)
  step_weight (Step.Join outer n a T) v = 1 + v + inner_weight T v
  step_weight (Step.Climb up h p T d keep) v = 1 + v + weight T v
  step_weight s v = v + 1

abbrev mutual
  -- the number of identity steps of a pipeline, inner ones included
  pub identity_count : Pipe → ℕ
  identity_count Pipe.End = 0
  identity_count (Pipe.Then s p) = step_identities s + identity_count p

  -- the number of identity steps of an inner pipeline, where there is one
  pub inner_identities : OptPipe → ℕ
  inner_identities OptPipe.NoPipe = 0
  inner_identities (OptPipe.SomePipe p) = identity_count p

  -- the number of identity steps of the branches
  pub branch_identities : Pipes → ℕ
  branch_identities Pipes.NoPipes = 0
  branch_identities (Pipes.MorePipes p ps) = identity_count p + branch_identities ps

  -- the number of identity steps in a key
  pub key_identities : Key → ℕ
  key_identities (Key.Recursive h p T) = inner_identities T
  key_identities k = 0

  -- the number of identity steps in the keys
  pub keys_identities : Keys → ℕ
  keys_identities Keys.NoKeys = 0
  keys_identities (Keys.MoreKeys k ks) = key_identities k + keys_identities ks

  -- the number of identity steps that a step is and has
  pub step_identities : Step → ℕ
  step_identities Step.Identity = 1
  step_identities (Step.GroupBy ks T) = keys_identities ks + inner_identities T
  step_identities (Step.Concat ps) = branch_identities ps
  step_identities (Step.Join outer n a T) = inner_identities T
  step_identities (Step.Climb up h p T d keep) = identity_count T
  step_identities s = 0

-- the number of steps that are not identity
abbrev pub acting_count : Pipe → ℕ
acting_count p = step_count p - identity_count p

-- a pipeline's weight is nowhere greater than another's
abbrev pub IsNoHeavier : Pipe → Pipe → Type 0
IsNoHeavier q p = (v : ℕ) → 1 ≤ v → weight q v ≤ weight p v

-- a pipeline is smaller than another: by its weight everywhere, or else by its steps that act, or else by its identities
abbrev pub IsSmaller : Pipe → Pipe → Type 0
IsSmaller q p =
    ((v : ℕ) → 1 ≤ v → weight q v < weight p v) ⊎ (IsNoHeavier q p × (acting_count q < acting_count p))
    ⊎ (IsNoHeavier q p × (acting_count q ≤ acting_count p) × (identity_count q < identity_count p))
