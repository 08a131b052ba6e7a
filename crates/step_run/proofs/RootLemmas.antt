-- The type at the empty prefix, from one transformation to the next.
use Rattle.std.proofs.Common.{◌≡◌, ℕ, sym, ◌∙◌, ap, Bool, Option, Some, None, List, ◌++◌, map}
use Rattle.std.specs.Prelude.{option_and_then, option_map, not, ◌&&◌}
use Rattle.std.specs.Bool.{then_some}
use Rattle.std.specs.List.{list_all}
use Rattle.edm_model.specs.Models.{Model}
use Rattle.edm_values.proofs.OptionFacts.{chained, if_else-parts, some_value, then_some-parts}
use Rattle.edm_values.specs.Lists.{all_some, is_nonempty, is_some_and}
use Rattle.edm_values.specs.Values.{integer_max}
use Rattle.edm_values.specs.Literals.{is_boolean_kind}
use Rattle.std.specs.Prelude.{nat_le}
use Rattle.edm_values.specs.Names.{Name, Path}
use Rattle.apply_ast.specs.Trees.{AggItem, Expr, HierName, Keys, Named, OptPipe, OrderItem, Pipe, Pipes, Step, TopStep, TraverseStep, is_distance, is_long}
use Rattle.context_typing.specs.Shapes.{Shape, set_shape}
use Rattle.context_typing.specs.Typing.{Customs, columns_differ, expr_kind, group_keys, grouped_shape, has_kind, hierarchy_at, inner_shape, is_free, is_node_path, is_sure, is_typed, item_column, join_navigation, joined_shape, keys_typed, new_column, no_shape, root_type, step_shape, steps_shape, top_typed}
use Rattle.context_typing.proofs.TypingEquations.{inner_shape-NoPipe, inner_shape-SomePipe, step_shape-Aggregate, step_shape-Climb, step_shape-Compute, step_shape-Concat, step_shape-Filter, step_shape-GroupBy, step_shape-Identity, step_shape-Join, step_shape-OrderBy, step_shape-Skip, step_shape-Top, step_shape-TopBy, step_shape-Traverse, steps_shape-End, steps_shape-Then}
use Rattle.step_run.specs.Roots.{BranchesLeadTo, InnerLeadsTo, LeadsTo, PipeLeadsTo}

-- ---- one transformation

same-root : (S S' : Shape) (root : Option ℕ) → S ≡ S' → root_type S ≡ root → root_type S' ≡ root
same-root S S' root e r = ap root_type (sym e) ∙ r

pub root-Identity : (root : Option ℕ) → LeadsTo Step.Identity root root
root-Identity root m c S S' t r = same-root S S' root (some_value (sym (step_shape-Identity m c S) ∙ t)) r

pub root-Filter : (e : Expr) (root : Option ℕ) → LeadsTo (Step.Filter e) root root
root-Filter e root m c S S' t r = same-root S S' root (then_some-parts (has_kind is_boolean_kind m S e) S S' (sym (step_shape-Filter m c S e) ∙ t)).1 r

pub root-OrderBy : (items : List OrderItem) (root : Option ℕ) → LeadsTo (Step.OrderBy items) root root
root-OrderBy items root m c S S' t r = same-root S S' root (then_some-parts (is_nonempty items && list_all (λ x. is_typed m S x.expr) items) S S' (sym (step_shape-OrderBy m c S items) ∙ t)).1 r

pub root-Skip : (n : ℕ) (root : Option ℕ) → LeadsTo (Step.Skip n) root root
root-Skip n root m c S S' t r = same-root S S' root (then_some-parts (nat_le n integer_max) S S' (sym (step_shape-Skip m c S n) ∙ t)).1 r

pub root-Top : (n : ℕ) (root : Option ℕ) → LeadsTo (Step.Top n) root root
root-Top n root m c S S' t r = same-root S S' root (then_some-parts (nat_le n integer_max) S S' (sym (step_shape-Top m c S n) ∙ t)).1 r

pub root-Compute : (ns : List Named) (root : Option ℕ) → LeadsTo (Step.Compute ns) root root
root-Compute ns root m c S S' t r =
    let k = chained (λ cs. then_some (is_nonempty cs && columns_differ cs && list_all (λ x. is_free m S x.name) ns) (record S { columns = S.columns ++ cs }))
    (all_some (map (λ x. option_map (λ k. new_column x.name k (not (is_sure m S x.expr))) (expr_kind m S x.expr)) ns)) S' (sym (step_shape-Compute m c S ns) ∙ t) in
    ap root_type (sym (then_some-parts _ (record S { columns = S.columns ++ k.0 }) S' k.2).1) ∙ r

pub root-Aggregate : (items : List AggItem) (root : Option ℕ) → LeadsTo (Step.Aggregate items) root None
root-Aggregate items root m c S S' t r =
    let k = chained (λ cs. then_some (is_nonempty cs && columns_differ cs) (record no_shape { columns = cs })) (all_some (map (item_column m c S) items)) S' (sym (step_shape-Aggregate m c S items) ∙ t) in
    ap root_type (sym (then_some-parts _ (record no_shape { columns = k.0 }) S' k.2).1)

pub root-GroupBy : (ks : Keys) (T : OptPipe) (root behind : Option ℕ) → InnerLeadsTo T root behind → LeadsTo (Step.GroupBy ks T) root behind
root-GroupBy ks T root behind leads m c S S' t r =
    let k = if_else-parts (keys_typed m c S ks) (option_and_then (grouped_shape m S (group_keys ks)) (inner_shape m c S no_shape T)) S' (sym (step_shape-GroupBy m c S ks T) ∙ t) in
    let G = chained (grouped_shape m S (group_keys ks)) (inner_shape m c S no_shape T) S' k.1 in
    ap root_type (sym (then_some-parts _ _ S' G.2).1) ∙ leads m c S G.0 G.1 r

pub root-Concat : (ps : Pipes) (root behind : Option ℕ) → BranchesLeadTo ps root behind → LeadsTo (Step.Concat ps) root behind
root-Concat ps root behind leads m c S S' t r = leads m c S S' (sym (step_shape-Concat m c S ps) ∙ t) r

pub root-Join : (outer : Bool) (n a : Name) (T : OptPipe) (root : Option ℕ) → LeadsTo (Step.Join outer n a T) root root
root-Join outer n a T root m c S S' t r =
    let v = chained (λ v. option_and_then (λ R. then_some (is_free m S a) (joined_shape outer a S R)) (inner_shape m c (set_shape v.target) (set_shape v.target) T)) (join_navigation m S n) S' (sym (step_shape-Join m c S outer n a T) ∙ t) in
    let R = chained (λ R. then_some (is_free m S a) (joined_shape outer a S R)) (inner_shape m c (set_shape (v.0).target) (set_shape (v.0).target) T) S' v.2 in
    sym (ap root_type (then_some-parts (is_free m S a) (joined_shape outer a S R.0) S' R.2).1) ∙ r

pub root-TopBy : (x : TopStep) (root : Option ℕ) → LeadsTo (Step.TopBy x) root root
root-TopBy x root m c S S' t r = same-root S S' root (then_some-parts (top_typed m S x.limit x.expr) S S' (sym (step_shape-TopBy m c S x) ∙ t)).1 r

pub root-Climb : (up : Bool) (h : HierName) (p : Path) (T : Pipe) (d : Option ℕ) (keep : Bool) (root : Option ℕ) → LeadsTo (Step.Climb up h p T d keep) root root
root-Climb up h p T d keep root m c S S' t r =
    same-root S S' root (then_some-parts (is_node_path m S h p && is_distance d && is_long T && is_some_and (λ R. is_node_path m R h p) (steps_shape m c S T)) S S' (sym (step_shape-Climb m c S up h p T d keep) ∙ t)).1 r

pub root-Traverse : (x : TraverseStep) (root : Option ℕ) → LeadsTo (Step.Traverse x) root root
root-Traverse x root m c S S' t r =
    same-root S S' root (then_some-parts (is_node_path m S x.hier x.path && is_some_and (λ f. list_all (λ y. is_typed m (set_shape f.type) y.expr) x.items) (hierarchy_at m x.hier)) S S' (sym (step_shape-Traverse m c S x) ∙ t)).1 r

-- ---- pipelines

pub root-inner : (p : Pipe) (root behind : Option ℕ) → PipeLeadsTo p root behind → InnerLeadsTo (OptPipe.SomePipe p) root behind
root-inner p root behind leads m c S S' t r = leads m c S S' (if_else-parts (is_long p) (steps_shape m c S p) S' (sym (inner_shape-SomePipe m c S no_shape p) ∙ t)).1 r

pub root-none : (root : Option ℕ) → InnerLeadsTo OptPipe.NoPipe root None
root-none root m c S S' t r = ap root_type (sym (some_value (sym (inner_shape-NoPipe m c S no_shape) ∙ t)))

-- a pipeline from its first transformation to the rest
pub next-root : (m : Model) (c : Customs) (S S' : Shape) (P : Pipe) (s : Step) (p : Pipe) (root behind : Option ℕ) → P ≡ Pipe.Then s p → LeadsTo s root behind → steps_shape m c S P ≡ Some S' → root_type S ≡ root
    → (T : Shape) × (steps_shape m c T p ≡ Some S') × (root_type T ≡ behind)
next-root m c S S' P s p root behind e leads t r =
    let k = chained (λ T. steps_shape m c T p) (step_shape m c S s) S' (sym (steps_shape-Then m c S s p) ∙ ap (steps_shape m c S) (sym e) ∙ t) in
    (k.0, k.2, leads m c S k.0 k.1 r)

pub last-root : (m : Model) (c : Customs) (S S' : Shape) (P : Pipe) (root : Option ℕ) → P ≡ Pipe.End → steps_shape m c S P ≡ Some S' → root_type S ≡ root → root_type S' ≡ root
last-root m c S S' P root e t r = same-root S S' root (some_value (sym (steps_shape-End m c S) ∙ ap (steps_shape m c S) (sym e) ∙ t)) r
