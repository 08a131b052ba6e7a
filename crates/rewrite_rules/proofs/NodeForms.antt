-- The nodes that a recursive rollup shows, and what the rule makes that sends a filter among them.
use Rattle.std.proofs.Common.{◌≡◌, refl, sym, ◌∙◌, ap, Bool, true, false, ◌&&◌, List, [], ◌∷◌, Option, Some, None, find, map}
use Rattle.std.specs.Prelude.{option_map, option_and_then, is_some, ◌==◌, if◌then◌else◌}
use Rattle.std.proofs.lemmas.Bool.{and_parts}
use Rattle.edm_values.specs.Lists.{is_nonempty, is_some_and}
use Rattle.edm_values.specs.Literals.{is_boolean_kind}
use Rattle.edm_values.specs.Names.{Name, Path}
use Rattle.edm_values.proofs.OptionFacts.{none_or, some_value}
use Rattle.edm_model.specs.LookUps.{HierarchyPlace}
use Rattle.edm_model.specs.Models.{Model}
use Rattle.apply_ast.specs.Trees.{HierName, Key, Keys, OptPipe, Step}
use Rattle.apply_ast.specs.Views.{keys_from}
use Rattle.context_typing.specs.Shapes.{Shape, set_shape}
use Rattle.context_typing.specs.Typing.{Customs, after, group_keys, has_kind, hierarchy_at, inner_shape, is_nodes, is_sure, keys_typed, rollup_part, rollup_paths, root_type, step_shape, steps_shape}
use Rattle.context_typing.proofs.TypingEquations.{step_shape-GroupBy}
use Rattle.rewrite_laws.specs.Rewrites.{FilterRun, behind, ended_key, ended_keys, filter_nodes, grouping_quiet, movable, node_shape, on_node, over, paths}
use Rattle.rewrite_forms.specs.Forms.{begins_with_filter}
use Rattle.rewrite_forms.specs.GroupForms.{chosen_nodes, first_rollup, part_of, recursive, recursive_key}
use Rattle.rewrite_rules.specs.GroupForms.{grouped_by, into_nodes}
use Rattle.rewrite_rules.proofs.GroupForms.{grouped-is}
use Rattle.rewrite_forms.proofs.KeyForms.{part-first}

-- ---- the recursive rollup among keys

pub recursive-first : (l : List Key) (h : HierName) (p : Path) (U : OptPipe) → recursive_key l ≡ Some (h, (p, U)) → first_rollup l ≡ Some (Key.Recursive h p U)
recursive-first l h p U e = go (first_rollup l) e
  where
    go : (o : Option Key) → option_and_then recursive o ≡ Some (h, (p, U)) → o ≡ Some (Key.Recursive h p U)
    go None e = none_or (h, (p, U)) e
    go (Some (Key.Plain q)) e = none_or (h, (p, U)) e
    go (Some (Key.Rollup all ps)) e = none_or (h, (p, U)) e
    go (Some (Key.Recursive h' p' U')) e = let y = some_value e in λ i. Some (Key.Recursive (y i).0 ((y i).1).0 ((y i).1).1)

recursive-part : (l : List Key) (h : HierName) (p : Path) (U : OptPipe) → recursive_key l ≡ Some (h, (p, U)) → rollup_part (group_keys (keys_from l)) ≡ part_of (Some (Key.Recursive h p U))
recursive-part l h p U e = part-first l ∙ ap part_of (recursive-first l h p U e)

recursive-none : (l : List Key) → recursive_key l ≡ None → is_nodes (rollup_part (group_keys (keys_from l))) ≡ false
recursive-none l e = ap is_nodes (part-first l) ∙ go (first_rollup l) e
  where
    go : (o : Option Key) → option_and_then recursive o ≡ None → is_nodes (part_of o) ≡ false
    go None e = refl
    go (Some (Key.Plain q)) e = refl
    go (Some (Key.Rollup all ps)) e = refl
    go (Some (Key.Recursive h p U)) e = cc

-- the nodes that the keys show are those that it chooses
nodes-first : (m : Model) (c : Customs) (l : List Key) (h : HierName) (p : Path) (U : OptPipe) → first_rollup l ≡ Some (Key.Recursive h p U) → node_shape m c (keys_from l) ≡ chosen_nodes m c h U
nodes-first m c [] h p U e = none_or (Key.Recursive h p U) e
nodes-first m c (Key.Plain q ∷ l) h p U e = nodes-first m c l h p U e
nodes-first m c (Key.Rollup all ps ∷ l) h p U e = cc
nodes-first m c (Key.Recursive h' p' U' ∷ l) h p U e = ap (λ k. node_shape m c (Keys.MoreKeys k Keys.NoKeys)) (some_value e)

-- ---- their typing

module _ (m : Model) (c : Customs) where
  placed-typed : (U : OptPipe) (o : Option HierarchyPlace) → is_some_and (λ f. is_some_and (λ N. is_some_and (λ t. t == f.type) (root_type N)) (inner_shape m c (set_shape f.type) (set_shape f.type) U)) o ≡ true
      → is_some (option_and_then (λ f. option_map {U = Shape × Name} (λ N. (N, f.key.name)) (inner_shape m c (set_shape f.type) (set_shape f.type) U)) o) ≡ true
  placed-typed U None h = cc
  placed-typed U (Some f) h = go (inner_shape m c (set_shape f.type) (set_shape f.type) U) h
    where
      go : (o : Option Shape) → is_some_and (λ N. is_some_and (λ t. t == f.type) (root_type N)) o ≡ true → is_some (option_map {U = Shape × Name} (λ N. (N, f.key.name)) o) ≡ true
      go None h = cc
      go (Some N) h = refl

  -- where the keys are typed, the nodes have a shape
  keys-chosen : (S : Shape) (l : List Key) (h : HierName) (p : Path) (U : OptPipe) → first_rollup l ≡ Some (Key.Recursive h p U) → keys_typed m c S (keys_from l) ≡ true → is_some (node_shape m c (keys_from l)) ≡ true
  unfolding steps_shape
  keys-chosen S [] h p U e k = none_or (Key.Recursive h p U) e
  keys-chosen S (Key.Plain q ∷ l) h p U e k = keys-chosen S l h p U e k
  keys-chosen S (Key.Rollup all ps ∷ l) h p U e k = cc
  keys-chosen S (Key.Recursive h' p' U' ∷ l) h p U e k = placed-typed U' (hierarchy_at m h') (and_parts _ _ (and_parts _ _ k).0).1

  keys-typed : {A : Type 0} (b : Bool) (o : Option A) → is_some (if b then o else None) ≡ true → b ≡ true
  keys-typed true o h = refl
  keys-typed false o h = h

  -- so where the grouping is
  pub nodes-typed : (S : Shape) (s : Step) (l : List Key) (T : OptPipe) (h : HierName) (p : Path) (U : OptPipe) → grouped_by s ≡ Some (keys_from l, T) → recursive_key l ≡ Some (h, (p, U)) → is_some (step_shape m c S s) ≡ true
      → is_some (chosen_nodes m c h U) ≡ true
  nodes-typed S s l T h p U g e typed =
      let first = recursive-first l h p U e in
      sym (ap is_some (nodes-first m c l h p U first))
      ∙ keys-chosen S l h p U first (keys-typed (keys_typed m c S (keys_from l)) _ (sym (ap is_some (ap (step_shape m c S) (grouped-is m c S s (keys_from l) T g) ∙ step_shape-GroupBy m c S (keys_from l) T)) ∙ typed))

-- ---- the rule

-- nothing is found where no filter stands
movable-none : (m : Model) (S : Shape) (test : FilterRun → Bool) (ss : List Step) → begins_with_filter ss ≡ false → find test (movable m S ss) ≡ None
movable-none m S test [] h = refl
movable-none m S test (Step.Filter b ∷ ss) h = cc
movable-none m S test (s ∷ ss) h = refl

module _ (m : Model) (c : Customs) (S : Shape) (before : Bool) where
  -- what the rule gives: whether it is looked for, the paths of the filter, the shape behind the grouping, and the nodes
  abbrev sent : List Step → Keys × OptPipe → Bool → List Path → Shape → Option (Shape × Name) → Option (List Step)
  sent ss x b ps S1 o = option_and_then (λ N. if b then
      option_map (λ r. behind (Step.GroupBy (ended_keys (Step.Filter (on_node N.1 r.last)) x.0) x.1) r)
      (find (λ r. is_nonempty (paths r.last) && over ps r.last && is_sure m S1 r.last && has_kind is_boolean_kind m N.0 (on_node N.1 r.last) && is_sure m N.0 (on_node N.1 r.last)) (movable m S1 ss))
      else None) o

  not-sent : (ss : List Step) (x : Keys × OptPipe) (ps : List Path) (S1 : Shape) (o : Option (Shape × Name)) → sent ss x false ps S1 o ≡ None
  not-sent ss x ps S1 None = refl
  not-sent ss x ps S1 (Some N) = refl

  sent-front : (ss : List Step) (x : Keys × OptPipe) (b : Bool) (ps : List Path) (S1 : Shape) (o : Option (Shape × Name)) → begins_with_filter ss ≡ false → sent ss x b ps S1 o ≡ None
  sent-front ss x b ps S1 None h = refl
  sent-front ss x false ps S1 (Some N) h = refl
  sent-front ss x true ps S1 (Some N) h =
      ap (option_map (λ r. behind (Step.GroupBy (ended_keys (Step.Filter (on_node N.1 r.last)) x.0) x.1) r))
      (movable-none m S1 (λ r. is_nonempty (paths r.last) && over ps r.last && is_sure m S1 r.last && has_kind is_boolean_kind m N.0 (on_node N.1 r.last) && is_sure m N.0 (on_node N.1 r.last)) ss h)

  nodes-form : (s : Step) (ss : List Step) (ks : Keys) (T : OptPipe) → grouped_by s ≡ Some (ks, T) → filter_nodes m c S before s ss
      ≡ sent ss (ks, T) (is_nodes (rollup_part (group_keys ks)) && grouping_quiet m c S ks T) (rollup_paths (rollup_part (group_keys ks))) (after m c S s) (node_shape m c ks)
  nodes-form (Step.GroupBy ks' T') ss ks T e =
      ap (λ x. sent ss x (is_nodes (rollup_part (group_keys x.0)) && grouping_quiet m c S x.0 x.1) (rollup_paths (rollup_part (group_keys x.0))) (after m c S (Step.GroupBy ks' T')) (node_shape m c x.0)) (some_value e)
  nodes-form s ss ks T e = none_or (ks, T) e

  -- no grouping stands there
  pub nodes-none : (s : Step) (ss : List Step) → grouped_by s ≡ None → None ≡ filter_nodes m c S before s ss
  nodes-none (Step.GroupBy ks T) ss e = cc
  nodes-none s ss e = refl

  module _ (s : Step) (ss : List Step) (l : List Key) (T : OptPipe) (e : grouped_by s ≡ Some (keys_from l, T)) where
    -- no filter follows
    pub nodes-front : begins_with_filter ss ≡ false → None ≡ filter_nodes m c S before s ss
    nodes-front h = sym (nodes-form s ss (keys_from l) T e ∙ sent-front ss (keys_from l, T) (is_nodes (rollup_part (group_keys (keys_from l))) && grouping_quiet m c S (keys_from l) T) (rollup_paths (rollup_part (group_keys (keys_from l)))) (after m c S s) (node_shape m c (keys_from l)) h)

    -- no key is a recursive rollup
    pub nodes-other : recursive_key l ≡ None → None ≡ filter_nodes m c S before s ss
    nodes-other h =
        sym (nodes-form s ss (keys_from l) T e
        ∙ ap (λ b. sent ss (keys_from l, T) (b && grouping_quiet m c S (keys_from l) T) (rollup_paths (rollup_part (group_keys (keys_from l)))) (after m c S s) (node_shape m c (keys_from l))) (recursive-none l h)
        ∙ not-sent ss (keys_from l, T) (rollup_paths (rollup_part (group_keys (keys_from l)))) (after m c S s) (node_shape m c (keys_from l)))

    module _ (h : HierName) (p : Path) (U : OptPipe) (k : recursive_key l ≡ Some (h, (p, U))) (Z : Shape) (there : Z ≡ S) where
      nodes-key : filter_nodes m c S before s ss ≡ sent ss (keys_from l, T) (grouping_quiet m c Z (keys_from l) T) (p ∷ []) (after m c Z s) (chosen_nodes m c h U)
      nodes-key =
          nodes-form s ss (keys_from l) T e
          ∙ (λ i. sent ss (keys_from l, T) (is_nodes (recursive-part l h p U k i) && grouping_quiet m c (sym there i) (keys_from l) T) (rollup_paths (recursive-part l h p U k i)) (after m c (sym there i) s) (nodes-first m c l h p U (recursive-first l h p U k) i))

      -- it is not quiet
      pub nodes-kept : grouping_quiet m c Z (keys_from l) T ≡ false → None ≡ filter_nodes m c S before s ss
      nodes-kept q = sym (nodes-key ∙ ap (λ b. sent ss (keys_from l, T) b (p ∷ []) (after m c Z s) (chosen_nodes m c h U)) q ∙ not-sent ss (keys_from l, T) (p ∷ []) (after m c Z s) (chosen_nodes m c h U))

      -- the nodes have no shape
      pub nodes-missing : None ≡ chosen_nodes m c h U → None ≡ filter_nodes m c S before s ss
      nodes-missing n = sym (nodes-key ∙ ap (sent ss (keys_from l, T) (grouping_quiet m c Z (keys_from l) T) (p ∷ []) (after m c Z s)) (sym n))

      -- the filter goes among the nodes where it may
      pub nodes-given : (S1 : Shape) (N : Shape × Name) → S1 ≡ after m c Z s → Some N ≡ chosen_nodes m c h U → grouping_quiet m c Z (keys_from l) T ≡ true → into_nodes m S1 (keys_from l) T p N ss ≡ filter_nodes m c S before s ss
      nodes-given S1 N behind n q = sym (nodes-key ∙ (λ i. sent ss (keys_from l, T) (q i) (p ∷ []) (sym behind i) (sym n i)))

-- ---- keys with one more step in the pipeline that chooses the nodes

pub ended-from : {X : Type 0} (f : X → Key) (s : Step) (xs : List X) → keys_from (map (λ k. ended_key s (f k)) xs) ≡ ended_keys s (keys_from (map f xs))
ended-from f s [] = refl
ended-from f s (x ∷ xs) = ap (Keys.MoreKeys (ended_key s (f x))) (ended-from f s xs)
