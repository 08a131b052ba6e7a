-- The hierarchies that a pipeline names (Data Aggregation 4.0, sections 6.2 and 6.3).
use Rattle.std.specs.Prelude.{List, [], ◌∷◌, ◌++◌}
use Rattle.apply_ast.specs.Trees.{HierName, Pipe, Step, OptPipe, Pipes, Key, Keys}

abbrev mutual
  -- the hierarchies that a pipeline names, in the order of its text
  pub hierarchies : Pipe → List HierName
  hierarchies Pipe.End = []
  hierarchies (Pipe.Then s p) = step_hierarchies s ++ hierarchies p

  -- the same of an inner pipeline
  pub inner_hierarchies : OptPipe → List HierName
  inner_hierarchies OptPipe.NoPipe = []
  inner_hierarchies (OptPipe.SomePipe p) = hierarchies p

  -- the same of the branches
  pub branch_hierarchies : Pipes → List HierName
  branch_hierarchies Pipes.NoPipes = []
  branch_hierarchies (Pipes.MorePipes p ps) = hierarchies p ++ branch_hierarchies ps

  -- the same of a key
  pub key_hierarchies : Key → List HierName
  key_hierarchies (Key.Recursive h p T) = h ∷ inner_hierarchies T
  key_hierarchies k = []

  -- the same of the keys
  pub keys_hierarchies : Keys → List HierName
  keys_hierarchies Keys.NoKeys = []
  keys_hierarchies (Keys.MoreKeys k ks) = key_hierarchies k ++ keys_hierarchies ks

  -- the same of a step
  pub step_hierarchies : Step → List HierName
  step_hierarchies (Step.GroupBy ks T) = keys_hierarchies ks ++ inner_hierarchies T
  step_hierarchies (Step.Concat ps) = branch_hierarchies ps
  step_hierarchies (Step.Join outer n a T) = inner_hierarchies T
  step_hierarchies (Step.Climb up h p T d keep) = h ∷ hierarchies T
  step_hierarchies (Step.Traverse t) = t.hier ∷ []
  step_hierarchies s = []
