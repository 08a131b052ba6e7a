-- The clauses of the results of a rule as equations, one for each form of tree.
use Rattle.std.specs.Prelude.{◌≡◌, ℕ, Bool, true, false, List, [], ◌++◌, Option, Some, None, map, option_to_list}
use Rattle.edm_model.specs.Models.{Model}
use Rattle.edm_values.specs.Names.{Name, Path}
use Rattle.apply_ast.specs.Trees.{Expr, TopStep, Pipe, Step, OptPipe, Pipes, Key, Keys, steps, pipe, Named, OrderItem, AggItem, HierName, TraverseStep}
use Rattle.context_typing.specs.Typing.{hierarchy_at, Customs, join_navigation, after}
use Rattle.context_typing.specs.Shapes.{Shape, set_shape}
use Rattle.rewrite_laws.specs.Rewrites.{Rule, branch_results, inner_results, key_results, keys_results, pipe_results, step_results}
use Rattle.std.proofs.Common.{◌≡◌, refl}

-- ---- pipe_results

pub pipe_results-End : (r : Rule) (m : Model) (c : Customs) (S : Shape) (before : Bool) → pipe_results r m c S before Pipe.End ≡ ([])
unfolding pipe_results
pipe_results-End r m c S before = refl

pub pipe_results-Then : (r : Rule) (m : Model) (c : Customs) (S : Shape) (before : Bool) (s : Step) (p : Pipe) → pipe_results r m c S before (Pipe.Then s p) ≡ (map pipe (option_to_list (r m c S before s (steps p))) ++ map (λ s'. Pipe.Then s' p) (step_results r m c S s)
    ++ map (Pipe.Then s) (pipe_results r m c (after m c S s) true p))
unfolding pipe_results
pipe_results-Then r m c S before s p = refl

-- ---- inner_results

pub inner_results-NoPipe : (r : Rule) (m : Model) (c : Customs) (S : Shape) → inner_results r m c S OptPipe.NoPipe ≡ ([])
unfolding pipe_results
inner_results-NoPipe r m c S = refl

pub inner_results-SomePipe : (r : Rule) (m : Model) (c : Customs) (S : Shape) (p : Pipe) → inner_results r m c S (OptPipe.SomePipe p) ≡ (map OptPipe.SomePipe (pipe_results r m c S false p))
unfolding pipe_results
inner_results-SomePipe r m c S p = refl

-- ---- branch_results

pub branch_results-NoPipes : (r : Rule) (m : Model) (c : Customs) (S : Shape) → branch_results r m c S Pipes.NoPipes ≡ ([])
unfolding pipe_results
branch_results-NoPipes r m c S = refl

pub branch_results-MorePipes : (r : Rule) (m : Model) (c : Customs) (S : Shape) (p : Pipe) (ps : Pipes) → branch_results r m c S (Pipes.MorePipes p ps) ≡ (map (λ q. Pipes.MorePipes q ps) (pipe_results r m c S false p) ++ map (Pipes.MorePipes p) (branch_results r m c S ps))
unfolding pipe_results
branch_results-MorePipes r m c S p ps = refl

-- ---- key_results

pub key_results-Recursive : (r : Rule) (m : Model) (c : Customs) (h : HierName) (p : Path) (T : OptPipe) → key_results r m c (Key.Recursive h p T) ≡ (elim (hierarchy_at m h) [ None ↦ [] | Some f ↦ map (Key.Recursive h p) (inner_results r m c (set_shape f.type) T) ])
unfolding pipe_results
key_results-Recursive r m c h p T = refl

pub key_results-Plain : (r : Rule) (m : Model) (c : Customs) (p : Path) → key_results r m c (Key.Plain p) ≡ ([])
unfolding pipe_results
key_results-Plain r m c p = refl

pub key_results-Rollup : (r : Rule) (m : Model) (c : Customs) (b : Bool) (ps : List Path) → key_results r m c (Key.Rollup b ps) ≡ ([])
unfolding pipe_results
key_results-Rollup r m c b ps = refl

-- ---- keys_results

pub keys_results-NoKeys : (r : Rule) (m : Model) (c : Customs) → keys_results r m c Keys.NoKeys ≡ ([])
unfolding pipe_results
keys_results-NoKeys r m c = refl

pub keys_results-MoreKeys : (r : Rule) (m : Model) (c : Customs) (k : Key) (ks : Keys) → keys_results r m c (Keys.MoreKeys k ks) ≡ (map (λ k'. Keys.MoreKeys k' ks) (key_results r m c k) ++ map (Keys.MoreKeys k) (keys_results r m c ks))
unfolding pipe_results
keys_results-MoreKeys r m c k ks = refl

-- ---- step_results

pub step_results-GroupBy : (r : Rule) (m : Model) (c : Customs) (S : Shape) (ks : Keys) (T : OptPipe) → step_results r m c S (Step.GroupBy ks T) ≡ (map (λ ks'. Step.GroupBy ks' T) (keys_results r m c ks) ++ map (Step.GroupBy ks) (inner_results r m c S T))
unfolding pipe_results
step_results-GroupBy r m c S ks T = refl

pub step_results-Concat : (r : Rule) (m : Model) (c : Customs) (S : Shape) (ps : Pipes) → step_results r m c S (Step.Concat ps) ≡ (map Step.Concat (branch_results r m c S ps))
unfolding pipe_results
step_results-Concat r m c S ps = refl

pub step_results-Join : (r : Rule) (m : Model) (c : Customs) (S : Shape) (outer : Bool) (n : Name) (a : Name) (T : OptPipe) → step_results r m c S (Step.Join outer n a T) ≡ (elim (join_navigation m S n) [
  | None ↦ []
  | Some v ↦ map (Step.Join outer n a) (inner_results r m c (set_shape v.target) T)
])
unfolding pipe_results
step_results-Join r m c S outer n a T = refl

pub step_results-Climb : (r : Rule) (m : Model) (c : Customs) (S : Shape) (up : Bool) (h : HierName) (p : Path) (T : Pipe) (d : Option ℕ) (keep : Bool) → step_results r m c S (Step.Climb up h p T d keep) ≡ (map (λ T'. Step.Climb up h p T' d keep) (pipe_results r m c S false T))
unfolding pipe_results
step_results-Climb r m c S up h p T d keep = refl

pub step_results-Identity : (r : Rule) (m : Model) (c : Customs) (S : Shape) → step_results r m c S Step.Identity ≡ ([])
unfolding pipe_results
step_results-Identity r m c S = refl

pub step_results-Filter : (r : Rule) (m : Model) (c : Customs) (S : Shape) (e : Expr) → step_results r m c S (Step.Filter e) ≡ ([])
unfolding pipe_results
step_results-Filter r m c S e = refl

pub step_results-Compute : (r : Rule) (m : Model) (c : Customs) (S : Shape) (ns : List Named) → step_results r m c S (Step.Compute ns) ≡ ([])
unfolding pipe_results
step_results-Compute r m c S ns = refl

pub step_results-OrderBy : (r : Rule) (m : Model) (c : Customs) (S : Shape) (items : List OrderItem) → step_results r m c S (Step.OrderBy items) ≡ ([])
unfolding pipe_results
step_results-OrderBy r m c S items = refl

pub step_results-Skip : (r : Rule) (m : Model) (c : Customs) (S : Shape) (n : ℕ) → step_results r m c S (Step.Skip n) ≡ ([])
unfolding pipe_results
step_results-Skip r m c S n = refl

pub step_results-Top : (r : Rule) (m : Model) (c : Customs) (S : Shape) (n : ℕ) → step_results r m c S (Step.Top n) ≡ ([])
unfolding pipe_results
step_results-Top r m c S n = refl

pub step_results-Aggregate : (r : Rule) (m : Model) (c : Customs) (S : Shape) (items : List AggItem) → step_results r m c S (Step.Aggregate items) ≡ ([])
unfolding pipe_results
step_results-Aggregate r m c S items = refl

pub step_results-TopBy : (r : Rule) (m : Model) (c : Customs) (S : Shape) (t : TopStep) → step_results r m c S (Step.TopBy t) ≡ ([])
unfolding pipe_results
step_results-TopBy r m c S t = refl

pub step_results-Traverse : (r : Rule) (m : Model) (c : Customs) (S : Shape) (t : TraverseStep) → step_results r m c S (Step.Traverse t) ≡ ([])
unfolding pipe_results
step_results-Traverse r m c S t = refl
