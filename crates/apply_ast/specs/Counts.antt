-- The number of steps of a pipeline, inner ones included.
use Rattle.std.specs.Prelude.{ℕ, ◌+◌}
use Rattle.apply_ast.specs.Trees.{Pipe, Step, OptPipe, Pipes, Key, Keys}

unfoldable mutual
  -- the number of steps of a pipeline, inner ones included
  pub step_count : Pipe → ℕ
  step_count Pipe.End = 0
  step_count (Pipe.Then s p) = 1 + inner_count s + step_count p

  -- the number of steps of an inner pipeline
  pub opt_count : OptPipe → ℕ
  opt_count OptPipe.NoPipe = 0
  opt_count (OptPipe.SomePipe p) = step_count p

  -- that of all branches
  pub branches_count : Pipes → ℕ
  branches_count Pipes.NoPipes = 0
  branches_count (Pipes.MorePipes p ps) = step_count p + branches_count ps

  -- that of a key's pipeline
  pub key_count : Key → ℕ
  key_count (Key.Recursive h p T) = opt_count T
  key_count k = 0

  -- that of all keys
  pub keys_count : Keys → ℕ
  keys_count Keys.NoKeys = 0
  keys_count (Keys.MoreKeys k ks) = key_count k + keys_count ks

  -- the number of steps inside a step
  pub inner_count : Step → ℕ
  inner_count (Step.GroupBy ks T) = keys_count ks + opt_count T
  inner_count (Step.Concat ps) = branches_count ps
  inner_count (Step.Join outer n a T) = opt_count T
  inner_count (Step.Climb up h p T d keep) = step_count T
  inner_count s = 0
