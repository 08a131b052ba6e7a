-- The clauses of the cost as equations, one for each form of tree.
use Rattle.std.specs.Prelude.{ℕ, ◌+◌, List, [], ◌∷◌, length, sum, Some, None, map, if◌then◌else◌, Bool, Option}
use Rattle.edm_data.specs.Worlds.{World}
use Rattle.edm_values.specs.Lists.{is_nonempty}
use Rattle.edm_values.specs.Names.{Path, Name}
use Rattle.apply_ast.specs.Trees.{Pipe, Step, OptPipe, Pipes, Key, Keys, Expr, Named, OrderItem, AggItem, HierName, TopStep, TraverseStep}
use Rattle.context_typing.specs.Typing.{hierarchy_at, Customs, group_keys, join_navigation, after}
use Rattle.edm_data.specs.References.{count}
use Rattle.context_typing.specs.Shapes.{Shape, set_shape}
use Rattle.apply_meaning.specs.Instances.{Instance, rows}
use Rattle.apply_meaning.specs.Meaning.{mean, step_mean, keys_shown, related_rows}
use Rattle.step_run.specs.Costs.{application, applications, branch_costs, cost, given_applications, group_lists, inner_costs, key_cost, keys_cost, result_length}
use Rattle.std.proofs.Common.{◌≡◌, refl}

-- ---- cost

pub cost-End : (w : World) (c : Customs) (S : Shape) (l : List Instance) → cost w c S Pipe.End l ≡ (0)
unfolding cost
cost-End w c S l = refl

pub cost-Then : (w : World) (c : Customs) (S : Shape) (s : Step) (p : Pipe) (l : List Instance) → cost w c S (Pipe.Then s p) l ≡ (result_length (step_mean w c S s l) + inner_costs w c S s l + elim (step_mean w c S s l) [ None ↦ 0 | Some r ↦ cost w c (after w.model c S s) p r ])
unfolding cost
cost-Then w c S s p l = refl

-- ---- applications

pub applications-NoPipe : (w : World) (c : Customs) (S : Shape) (ls : List (List Instance)) → applications w c S OptPipe.NoPipe ls ≡ (sum (map (application length (λ l. Some l)) ls))
unfolding cost
applications-NoPipe w c S ls = refl

pub applications-SomePipe : (w : World) (c : Customs) (S : Shape) (p : Pipe) (ls : List (List Instance)) → applications w c S (OptPipe.SomePipe p) ls ≡ (sum (map (application (cost w c S p) (mean w c S p)) ls))
unfolding cost
applications-SomePipe w c S p ls = refl

-- ---- given_applications

pub given_applications-NoPipe : (w : World) (c : Customs) (S : Shape) (ls : List (List Instance)) → given_applications w c S OptPipe.NoPipe ls ≡ (0)
unfolding cost
given_applications-NoPipe w c S ls = refl

pub given_applications-SomePipe : (w : World) (c : Customs) (S : Shape) (p : Pipe) (ls : List (List Instance)) → given_applications w c S (OptPipe.SomePipe p) ls ≡ (sum (map (application (cost w c S p) (mean w c S p)) ls))
unfolding cost
given_applications-SomePipe w c S p ls = refl

-- ---- branch_costs

pub branch_costs-NoPipes : (w : World) (c : Customs) (S : Shape) (l : List Instance) → branch_costs w c S Pipes.NoPipes l ≡ (0)
unfolding cost
branch_costs-NoPipes w c S l = refl

pub branch_costs-MorePipes : (w : World) (c : Customs) (S : Shape) (p : Pipe) (ps : Pipes) (l : List Instance) → branch_costs w c S (Pipes.MorePipes p ps) l ≡ (application (cost w c S p) (mean w c S p) l + branch_costs w c S ps l)
unfolding cost
branch_costs-MorePipes w c S p ps l = refl

-- ---- key_cost

pub key_cost-Recursive : (w : World) (c : Customs) (h : HierName) (p : Path) (T : OptPipe) → key_cost w c (Key.Recursive h p T) ≡ (elim (hierarchy_at w.model h) [ None ↦ 0 | Some f ↦ given_applications w c (set_shape f.type) T (rows w f.set ∷ []) ])
unfolding cost
key_cost-Recursive w c h p T = refl

pub key_cost-Plain : (w : World) (c : Customs) (p : Path) → key_cost w c (Key.Plain p) ≡ (0)
unfolding cost
key_cost-Plain w c p = refl

pub key_cost-Rollup : (w : World) (c : Customs) (b : Bool) (ps : List Path) → key_cost w c (Key.Rollup b ps) ≡ (0)
unfolding cost
key_cost-Rollup w c b ps = refl

-- ---- keys_cost

pub keys_cost-NoKeys : (w : World) (c : Customs) → keys_cost w c Keys.NoKeys ≡ (0)
unfolding cost
keys_cost-NoKeys w c = refl

pub keys_cost-MoreKeys : (w : World) (c : Customs) (k : Key) (ks : Keys) → keys_cost w c (Keys.MoreKeys k ks) ≡ (key_cost w c k + keys_cost w c ks)
unfolding cost
keys_cost-MoreKeys w c k ks = refl

-- ---- inner_costs

pub inner_costs-GroupBy : (w : World) (c : Customs) (S : Shape) (ks : Keys) (T : OptPipe) (l : List Instance) → inner_costs w c S (Step.GroupBy ks T) l ≡ (keys_cost w c ks + elim (keys_shown w c ks) [ None ↦ 0 | Some shown ↦ given_applications w c S T (group_lists w (group_keys ks) shown l) ])
unfolding cost
inner_costs-GroupBy w c S ks T l = refl

pub inner_costs-Concat : (w : World) (c : Customs) (S : Shape) (ps : Pipes) (l : List Instance) → inner_costs w c S (Step.Concat ps) l ≡ (branch_costs w c S ps l)
unfolding cost
inner_costs-Concat w c S ps l = refl

pub inner_costs-Join : (w : World) (c : Customs) (S : Shape) (outer : Bool) (n : Name) (a : Name) (T : OptPipe) (l : List Instance) → inner_costs w c S (Step.Join outer n a T) l ≡ (elim (join_navigation w.model S n) [ None ↦ 0 | Some v ↦ applications w c (set_shape v.target) T (map (related_rows w v) l) ])
unfolding cost
inner_costs-Join w c S outer n a T l = refl

pub inner_costs-Climb : (w : World) (c : Customs) (S : Shape) (up : Bool) (h : HierName) (p : Path) (T : Pipe) (d : Option ℕ) (keep : Bool) (l : List Instance) → inner_costs w c S (Step.Climb up h p T d keep) l ≡ (application (cost w c S T) (mean w c S T) l)
unfolding cost
inner_costs-Climb w c S up h p T d keep l = refl

pub inner_costs-Traverse : (w : World) (c : Customs) (S : Shape) (t : TraverseStep) (l : List Instance) → inner_costs w c S (Step.Traverse t) l ≡ (if is_nonempty t.items then elim (hierarchy_at w.model t.hier) [ None ↦ 0 | Some f ↦ count w f.set ] else 0)
unfolding cost
inner_costs-Traverse w c S t l = refl

pub inner_costs-Identity : (w : World) (c : Customs) (S : Shape) (l : List Instance) → inner_costs w c S Step.Identity l ≡ (0)
unfolding cost
inner_costs-Identity w c S l = refl

pub inner_costs-Filter : (w : World) (c : Customs) (S : Shape) (e : Expr) (l : List Instance) → inner_costs w c S (Step.Filter e) l ≡ (0)
unfolding cost
inner_costs-Filter w c S e l = refl

pub inner_costs-Compute : (w : World) (c : Customs) (S : Shape) (ns : List Named) (l : List Instance) → inner_costs w c S (Step.Compute ns) l ≡ (0)
unfolding cost
inner_costs-Compute w c S ns l = refl

pub inner_costs-OrderBy : (w : World) (c : Customs) (S : Shape) (items : List OrderItem) (l : List Instance) → inner_costs w c S (Step.OrderBy items) l ≡ (0)
unfolding cost
inner_costs-OrderBy w c S items l = refl

pub inner_costs-Skip : (w : World) (c : Customs) (S : Shape) (n : ℕ) (l : List Instance) → inner_costs w c S (Step.Skip n) l ≡ (0)
unfolding cost
inner_costs-Skip w c S n l = refl

pub inner_costs-Top : (w : World) (c : Customs) (S : Shape) (n : ℕ) (l : List Instance) → inner_costs w c S (Step.Top n) l ≡ (0)
unfolding cost
inner_costs-Top w c S n l = refl

pub inner_costs-Aggregate : (w : World) (c : Customs) (S : Shape) (items : List AggItem) (l : List Instance) → inner_costs w c S (Step.Aggregate items) l ≡ (0)
unfolding cost
inner_costs-Aggregate w c S items l = refl

pub inner_costs-TopBy : (w : World) (c : Customs) (S : Shape) (t : TopStep) (l : List Instance) → inner_costs w c S (Step.TopBy t) l ≡ (0)
unfolding cost
inner_costs-TopBy w c S t l = refl
