-- The clauses of the meaning as equations, one for each form of tree.
use Rattle.std.specs.Prelude.{ℕ, Bool, true, List, [], ◌∷◌, ◌++◌, take, drop, Option, Some, None, map, filter, option_map, option_and_then}
use Rattle.edm_data.specs.Worlds.{World}
use Rattle.edm_values.specs.Lists.{sorted}
use Rattle.edm_values.specs.Values.{is_value}
use Rattle.edm_values.specs.Names.{Name, Path}
use Rattle.apply_ast.specs.Trees.{Expr, OrderItem, AggItem, TopStep, TraverseStep, Pipe, Step, OptPipe, Pipes, Key, Keys, Named, HierName}
use Rattle.context_typing.specs.Typing.{hierarchy_at, Customs, group_keys, join_navigation, after}
use Rattle.context_typing.specs.Shapes.{Shape, set_shape}
use Rattle.apply_meaning.specs.Instances.{Instance, rows, no_instance, lookup, val, extended}
use Rattle.apply_meaning.specs.Meaning.{Outcome, bound_to, branch_means, climbed, column, grouping_mean, inner_mean, item_value, joined, key_shown, keys_shown, mean, order_before, order_values, refused_at_beyond, related_rows, selected, shown_of, step_mean, traversed, values}
use Rattle.std.proofs.Common.{◌≡◌, refl}

-- ---- mean

pub mean-End : (w : World) (c : Customs) (S : Shape) (l : List Instance) → mean w c S Pipe.End l ≡ (Some l)
unfolding mean
mean-End w c S l = refl

pub mean-Then : (w : World) (c : Customs) (S : Shape) (s : Step) (p : Pipe) (l : List Instance) → mean w c S (Pipe.Then s p) l ≡ (option_and_then (mean w c (after w.model c S s) p) (step_mean w c S s l))
unfolding mean
mean-Then w c S s p l = refl

-- ---- inner_mean

pub inner_mean-NoPipe : (w : World) (c : Customs) (S : Shape) (without : List Instance → Outcome) (l : List Instance) → inner_mean w c S without OptPipe.NoPipe l ≡ (without l)
unfolding mean
inner_mean-NoPipe w c S without l = refl

pub inner_mean-SomePipe : (w : World) (c : Customs) (S : Shape) (without : List Instance → Outcome) (p : Pipe) (l : List Instance) → inner_mean w c S without (OptPipe.SomePipe p) l ≡ (mean w c S p l)
unfolding mean
inner_mean-SomePipe w c S without p l = refl

-- ---- branch_means

pub branch_means-NoPipes : (w : World) (c : Customs) (S : Shape) (l : List Instance) → branch_means w c S Pipes.NoPipes l ≡ ([])
unfolding mean
branch_means-NoPipes w c S l = refl

pub branch_means-MorePipes : (w : World) (c : Customs) (S : Shape) (p : Pipe) (ps : Pipes) (l : List Instance) → branch_means w c S (Pipes.MorePipes p ps) l ≡ (mean w c S p l ∷ branch_means w c S ps l)
unfolding mean
branch_means-MorePipes w c S p ps l = refl

-- ---- key_shown

pub key_shown-Recursive : (w : World) (c : Customs) (h : HierName) (p : Path) (T : OptPipe) → key_shown w c (Key.Recursive h p T) ≡ (elim (hierarchy_at w.model h) [ None ↦ None | Some f ↦ option_map shown_of (inner_mean w c (set_shape f.type) (λ l. Some l) T (rows w f.set)) ])
unfolding mean
key_shown-Recursive w c h p T = refl

pub key_shown-Plain : (w : World) (c : Customs) (p : Path) → key_shown w c (Key.Plain p) ≡ (Some [])
unfolding mean
key_shown-Plain w c p = refl

pub key_shown-Rollup : (w : World) (c : Customs) (b : Bool) (ps : List Path) → key_shown w c (Key.Rollup b ps) ≡ (Some [])
unfolding mean
key_shown-Rollup w c b ps = refl

-- ---- keys_shown

pub keys_shown-NoKeys : (w : World) (c : Customs) → keys_shown w c Keys.NoKeys ≡ (Some [])
unfolding mean
keys_shown-NoKeys w c = refl

pub keys_shown-MoreKeys : (w : World) (c : Customs) (k : Key) (ks : Keys) → keys_shown w c (Keys.MoreKeys k ks) ≡ (option_and_then (λ xs. option_map (λ ys. xs ++ ys) (keys_shown w c ks)) (key_shown w c k))
unfolding mean
keys_shown-MoreKeys w c k ks = refl

-- ---- step_mean

pub step_mean-Identity : (w : World) (c : Customs) (S : Shape) (l : List Instance) → step_mean w c S Step.Identity l ≡ (Some l)
unfolding mean
step_mean-Identity w c S l = refl

pub step_mean-Filter : (w : World) (c : Customs) (S : Shape) (b : Expr) (l : List Instance) → step_mean w c S (Step.Filter b) l ≡ (refused_at_beyond (values w b l) (filter (λ i. is_value true (val w i b)) l))
unfolding mean
step_mean-Filter w c S b l = refl

pub step_mean-Compute : (w : World) (c : Customs) (S : Shape) (ns : List Named) (l : List Instance) → step_mean w c S (Step.Compute ns) l ≡ (Some (map (λ i. extended i (map (λ x. column x.name (val w i x.expr)) ns)) l))
unfolding mean
step_mean-Compute w c S ns l = refl

pub step_mean-OrderBy : (w : World) (c : Customs) (S : Shape) (items : List OrderItem) (l : List Instance) → step_mean w c S (Step.OrderBy items) l ≡ (refused_at_beyond (order_values w items l) (sorted (order_before w items) l))
unfolding mean
step_mean-OrderBy w c S items l = refl

pub step_mean-Skip : (w : World) (c : Customs) (S : Shape) (n : ℕ) (l : List Instance) → step_mean w c S (Step.Skip n) l ≡ (Some (drop n l))
unfolding mean
step_mean-Skip w c S n l = refl

pub step_mean-Top : (w : World) (c : Customs) (S : Shape) (n : ℕ) (l : List Instance) → step_mean w c S (Step.Top n) l ≡ (Some (take n l))
unfolding mean
step_mean-Top w c S n l = refl

pub step_mean-Aggregate : (w : World) (c : Customs) (S : Shape) (items : List AggItem) (l : List Instance) → step_mean w c S (Step.Aggregate items) l ≡ (Some (record no_instance { columns = map (item_value w c S l) items } ∷ []))
unfolding mean
step_mean-Aggregate w c S items l = refl

pub step_mean-GroupBy : (w : World) (c : Customs) (S : Shape) (ks : Keys) (T : OptPipe) (l : List Instance) → step_mean w c S (Step.GroupBy ks T) l ≡ (option_and_then (λ shown. grouping_mean w (group_keys ks) shown (inner_mean w c S (λ g. Some (no_instance ∷ [])) T) l) (keys_shown w c ks))
unfolding mean
step_mean-GroupBy w c S ks T l = refl

pub step_mean-Concat : (w : World) (c : Customs) (S : Shape) (ps : Pipes) (l : List Instance) → step_mean w c S (Step.Concat ps) l ≡ (joined (branch_means w c S ps l))
unfolding mean
step_mean-Concat w c S ps l = refl

pub step_mean-Join : (w : World) (c : Customs) (S : Shape) (outer : Bool) (n : Name) (a : Name) (T : OptPipe) (l : List Instance) → step_mean w c S (Step.Join outer n a T) l ≡ (elim (join_navigation w.model S n) [
  | None ↦ None
  | Some v ↦ joined (map (λ i. option_map (bound_to outer a i) (inner_mean w c (set_shape v.target) (λ r. Some r) T (related_rows w v i))) l)
])
unfolding mean
step_mean-Join w c S outer n a T l = refl

pub step_mean-TopBy : (w : World) (c : Customs) (S : Shape) (t : TopStep) (l : List Instance) → step_mean w c S (Step.TopBy t) l ≡ (selected w t l)
unfolding mean
step_mean-TopBy w c S t l = refl

pub step_mean-Climb : (w : World) (c : Customs) (S : Shape) (up : Bool) (h : HierName) (p : Path) (T : Pipe) (d : Option ℕ) (keep : Bool) (l : List Instance) → step_mean w c S (Step.Climb up h p T d keep) l ≡ (elim (hierarchy_at w.model h) [
  | None ↦ None
  | Some f ↦ option_and_then (λ r. refused_at_beyond (map (λ i. lookup w i p) (l ++ r)) (climbed w up f p d keep r l)) (mean w c S T l)
])
unfolding mean
step_mean-Climb w c S up h p T d keep l = refl

pub step_mean-Traverse : (w : World) (c : Customs) (S : Shape) (t : TraverseStep) (l : List Instance) → step_mean w c S (Step.Traverse t) l ≡ (elim (hierarchy_at w.model t.hier) [
  | None ↦ None
  | Some f ↦ refused_at_beyond (map (λ i. lookup w i t.path) l ++ order_values w t.items (rows w f.set)) (traversed w f t l)
])
unfolding mean
step_mean-Traverse w c S t l = refl
