-- Filters that are sure on two shapes alike, and are split alike; shapes behind steps that leave the shape.
use Rattle.std.proofs.Common.{◌≡◌, ℕ, refl, ap, Bool, true, false, not, ◌&&◌, List, [], ◌∷◌, ◌++◌, Some, None, map, if◌then◌else◌, Option}
use Rattle.std.specs.Prelude.{unwrap_or}
use Rattle.std.specs.List.{list_all, list_any}
use Rattle.std.proofs.lemmas.Bool.{not-true}
use Rattle.edm_values.specs.Lists.{is_nonempty, is_some_and}
use Rattle.edm_values.specs.Names.{Path}
use Rattle.edm_values.proofs.ListFacts.{all-parts}
use Rattle.edm_values.proofs.SearchFacts.{none-all}
use Rattle.edm_model.specs.Models.{Model}
use Rattle.apply_ast.specs.Trees.{Expr, HierName, Named, OrderItem, Pipe, Step, TopStep, TraverseStep, is_distance, is_long}
use Rattle.apply_ast.specs.declared.expressions.BinOp.{BinOp}
use Rattle.context_typing.specs.Shapes.{Shape, set_shape}
use Rattle.context_typing.specs.Typing.{Customs, after, compute_shape, hierarchy_at, is_node_path, is_risky, is_sure, is_typed, path_kind, steps_shape, top_typed}
use Rattle.rewrite_laws.specs.Rewrites.{is_among, paths}
use Rattle.rewrite_laws.proofs.ComputeFacts.{computed-kind, computed-risk, is_old}
use Rattle.rewrite_laws.proofs.ExprPaths.{sure-same}
use Rattle.rewrite_laws.proofs.QuietLemmas.{kept-shape}
use Rattle.walk_laws.specs.Walks.{parts}

-- ---- shapes behind steps that leave the shape

module _ (m : Model) (c : Customs) (S : Shape) where
  pub after-order : (items : List OrderItem) → after m c S (Step.OrderBy items) ≡ S
  unfolding steps_shape
  after-order items = kept-shape (is_nonempty items && list_all (λ x. is_typed m S x.expr) items) S

  pub after-selection : (t : TopStep) → after m c S (Step.TopBy t) ≡ S
  unfolding steps_shape
  after-selection t = kept-shape (top_typed m S t.limit t.expr) S

  pub after-traverse : (t : TraverseStep) → after m c S (Step.Traverse t) ≡ S
  unfolding steps_shape
  after-traverse t = kept-shape (is_node_path m S t.hier t.path && is_some_and (λ f. list_all (λ x. is_typed m (set_shape f.type) x.expr) t.items) (hierarchy_at m t.hier)) S

  pub after-climb : (up : Bool) (h : HierName) (p : Path) (T : Pipe) (d : Option ℕ) (keep : Bool) → after m c S (Step.Climb up h p T d keep) ≡ S
  unfolding steps_shape
  after-climb up h p T d keep = kept-shape (is_node_path m S h p && is_distance d && is_long T && is_some_and (λ R. is_node_path m R h p) (steps_shape m c S T)) S

-- ---- filters on two shapes

-- a filter is sure on both alike, and is split into the same filters
pub record AreAlike (m : Model) (S T : Shape) (e : Expr) : Type 0 where
  pub sure : is_sure m T e ≡ is_sure m S e
  pub parts' : parts m T e ≡ parts m S e

parts-same : (m : Model) (S T : Shape) (q : Path → Bool) → ((p : Path) → q p ≡ true → path_kind m T p ≡ path_kind m S p) → ((p : Path) → q p ≡ true → is_risky T p ≡ is_risky S p)
    → (e : Expr) → list_all q (paths e) ≡ true → parts m T e ≡ parts m S e
parts-same m S T q h k (Expr.Binary BinOp.And d e) a =
    let t = all-parts q (paths d) (paths e) a in
    λ i. if sure-same m S T q h k e t.1 i then parts-same m S T q h k d t.0 i ++ parts-same m S T q h k e t.1 i else Expr.Binary BinOp.And d e ∷ []
parts-same m S T q h k (Expr.Bool' true) a = refl
parts-same m S T q h k (Expr.Bool' false) a = refl
parts-same m S T q h k e a = refl

-- so it is where its paths have one type and one risk
pub alike-by_paths : (m : Model) (S T : Shape) (q : Path → Bool) → ((p : Path) → q p ≡ true → path_kind m T p ≡ path_kind m S p) → ((p : Path) → q p ≡ true → is_risky T p ≡ is_risky S p)
    → (e : Expr) → list_all q (paths e) ≡ true → AreAlike m S T e
alike-by_paths m S T q h k e a = record { sure = sure-same m S T q h k e a; parts' = parts-same m S T q h k e a }

-- and where the shapes are one
pub alike-same : (m : Model) (S T : Shape) (e : Expr) → T ≡ S → AreAlike m S T e
alike-same m S T e k = record { sure = ap (λ U. is_sure m U e) k; parts' = ap (λ U. parts m U e) k }

-- behind a computation that names none of the filter's paths
pub alike-computed : (m : Model) (c : Customs) (S : Shape) (ns : List Named) (e : Expr) → not (list_any (is_among (map (λ x. x.name ∷ []) ns)) (paths e)) ≡ true → AreAlike m S (after m c S (Step.Compute ns)) e
unfolding steps_shape
alike-computed m c S ns e h = go (compute_shape m S ns) refl
  where
    go : (o : Option Shape) → compute_shape m S ns ≡ o → AreAlike m S (unwrap_or o S) e
    go None z = record { sure = refl; parts' = refl }
    go (Some T) z = alike-by_paths m S T (is_old ns) (computed-kind m S T ns z) (computed-risk m S T ns z) e (none-all (is_among (map (λ x. x.name ∷ []) ns)) (paths e) (not-true _ h))
