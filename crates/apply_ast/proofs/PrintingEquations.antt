-- The clauses of printing as equations, one for each form of tree.
use Rattle.std.specs.Prelude.{ℕ, Bool, List, [], ◌∷◌, ◌++◌, decimal, codes, Option, map}
use Rattle.std.specs.List.{join_with_byte}
use Rattle.edm_values.specs.Names.{Path, Name}
use Rattle.apply_ast.specs.Trees.{pipe, Expr, Named, OrderItem, AggItem, HierName, Pipe, Step, OptPipe, Pipes, Key, Keys, TopStep, TraverseStep}
use Rattle.apply_ast.specs.Printing.{print, call, climb_word, enclosed, join_word, print_agg, print_branches, print_distance, print_expr, print_hier, print_inner, print_item, print_key, print_keys, print_levels, print_limit, print_named, print_path, print_step, print_steps, top_word, walk_word}
use Rattle.apply_ast.specs.Views.{keys_from, pipes_from}
use Rattle.std.proofs.Common.{◌≡◌, ap, refl}

-- ---- print_steps

-- ---- print_inner

pub print_inner-NoPipe : print_inner OptPipe.NoPipe ≡ ([])
unfolding print_steps
print_inner-NoPipe = refl

pub print_inner-SomePipe : (p : Pipe) → print_inner (OptPipe.SomePipe p) ≡ (join_with_byte 47 (print_steps p) ∷ [])
unfolding print_steps
print_inner-SomePipe p = refl

-- ---- print_branches

-- ---- print_key

pub print_key-Plain : (p : Path) → print_key (Key.Plain p) ≡ (print_path p)
unfolding print_steps
print_key-Plain p = refl

pub print_key-Rollup : (all : Bool) (ps : List Path) → print_key (Key.Rollup all ps) ≡ (call (codes "rollup") (print_levels all ps))
unfolding print_steps
print_key-Rollup all ps = refl

pub print_key-Recursive : (h : HierName) (p : Path) (T : OptPipe) → print_key (Key.Recursive h p T) ≡ (call (codes "rolluprecursive") (print_hier h ∷ print_path p ∷ print_inner T))
unfolding print_steps
print_key-Recursive h p T = refl

-- ---- print_keys

-- ---- print_step

pub print_step-Identity : print_step Step.Identity ≡ (codes "identity")
unfolding print_steps
print_step-Identity = refl

pub print_step-Filter : (e : Expr) → print_step (Step.Filter e) ≡ (call (codes "filter") (print_expr e ∷ []))
unfolding print_steps
print_step-Filter e = refl

pub print_step-Compute : (ns : List Named) → print_step (Step.Compute ns) ≡ (call (codes "compute") (map print_named ns))
unfolding print_steps
print_step-Compute ns = refl

pub print_step-OrderBy : (items : List OrderItem) → print_step (Step.OrderBy items) ≡ (call (codes "orderby") (map print_item items))
unfolding print_steps
print_step-OrderBy items = refl

pub print_step-Skip : (n : ℕ) → print_step (Step.Skip n) ≡ (call (codes "skip") (decimal n ∷ []))
unfolding print_steps
print_step-Skip n = refl

pub print_step-Top : (n : ℕ) → print_step (Step.Top n) ≡ (call (codes "top") (decimal n ∷ []))
unfolding print_steps
print_step-Top n = refl

pub print_step-Aggregate : (items : List AggItem) → print_step (Step.Aggregate items) ≡ (call (codes "aggregate") (map print_agg items))
unfolding print_steps
print_step-Aggregate items = refl

pub print_step-GroupBy : (ks : Keys) (T : OptPipe) → print_step (Step.GroupBy ks T) ≡ (call (codes "groupby") (enclosed (join_with_byte 44 (print_keys ks)) ∷ print_inner T))
unfolding print_steps
print_step-GroupBy ks T = refl

pub print_step-Concat : (ps : Pipes) → print_step (Step.Concat ps) ≡ (call (codes "concat") (print_branches ps))
unfolding print_steps
print_step-Concat ps = refl

pub print_step-Join : (outer : Bool) (n : Name) (a : Name) (T : OptPipe) → print_step (Step.Join outer n a T) ≡ (call (join_word outer) ((n ++ (codes " as " ++ a)) ∷ print_inner T))
unfolding print_steps
print_step-Join outer n a T = refl

pub print_step-TopBy : (t : TopStep) → print_step (Step.TopBy t) ≡ (call (top_word t.bottom t.limit) (print_limit t.limit ∷ print_expr t.expr ∷ []))
unfolding print_steps
print_step-TopBy t = refl

pub print_step-Climb : (up : Bool) (h : HierName) (p : Path) (T : Pipe) (d : Option ℕ) (keep : Bool) → print_step (Step.Climb up h p T d keep) ≡ (call (climb_word up) (print_hier h ∷ print_path p ∷ join_with_byte 47 (print_steps T) ∷ print_distance d keep))
unfolding print_steps
print_step-Climb up h p T d keep = refl

pub print_step-Traverse : (t : TraverseStep) → print_step (Step.Traverse t) ≡ (call (codes "traverse") (print_hier t.hier ∷ print_path t.path ∷ walk_word t.post ∷ map print_item t.items))
unfolding print_steps
print_step-Traverse t = refl

-- ---- the lists of the family

pub print_steps-pipe : (ss : List Step) → print_steps (pipe ss) ≡ map print_step ss
unfolding print_steps
print_steps-pipe [] = refl
print_steps-pipe (s ∷ ss) = ap (λ ts. print_step s ∷ ts) (print_steps-pipe ss)

pub print_keys-from : (ks : List Key) → print_keys (keys_from ks) ≡ map print_key ks
unfolding print_steps
print_keys-from [] = refl
print_keys-from (k ∷ ks) = ap (λ ts. print_key k ∷ ts) (print_keys-from ks)

pub print_branches-from : (ps : List Pipe) → print_branches (pipes_from ps) ≡ map print ps
unfolding print_steps
print_branches-from [] = refl
print_branches-from (p ∷ ps) = ap (λ ts. print p ∷ ts) (print_branches-from ps)
