-- A filter passes a walk over nodes.
use Rattle.std.proofs.Common.{◌≡◌, refl, sym, ◌∙◌, ap, ℕ, Bool, true, false, ◌&&◌, ◌||◌, not, List, [], ◌∷◌, ◌++◌, Option, Some, None, IsTrue, map, filter, if◌then◌else◌}
use Rattle.std.specs.Prelude.{nat_eq, is_some, option_and_then, option_map, flat_map, filter_map, slice_get, unwrap_or}
use Rattle.std.specs.Bool.{then_some}
use Rattle.std.specs.List.{list_all, list_any}
use Rattle.std.proofs.lemmas.Bool.{and_parts}
use Rattle.std.proofs.lemmas.List.{length-map}
use Rattle.std.proofs.lemmas.List.Elements.{filter-append, filter_map-append}
use Rattle.std.proofs.lemmas.List.Folds.{list_any-append}
use Rattle.edm_values.specs.Lists.{at_places, places, is_some_and}
use Rattle.edm_values.specs.Literals.{is_boolean_kind, same_kind}
use Rattle.edm_values.specs.Names.{Path}
use Rattle.edm_values.specs.Values.{is_beyond, is_value}
use Rattle.edm_values.proofs.OptionFacts.{none_or, chained, some_and, then_some-parts}
use Rattle.edm_values.proofs.Reorderings.{filter-swapped}
use Rattle.edm_values.proofs.ListFacts.{all-filter, flat_map-agree}
use Rattle.edm_values.proofs.TopPlaces.{at_places-filter}
use Rattle.std.proofs.lemmas.Option.{slice_get-map}
use Rattle.edm_model.specs.LookUps.{HierarchyPlace}
use Rattle.edm_data.specs.Worlds.{World}
use Rattle.edm_data.specs.Hierarchies.{walk, is_node, rows_whose}
use Rattle.edm_data.specs.Nodes.{parents_of}
use Rattle.apply_ast.specs.Trees.{HierName, Expr, TraverseStep, Step, pipe, is_long}
use Rattle.context_typing.specs.Shapes.{Shape, set_shape}
use Rattle.context_typing.specs.Typing.{Customs, steps_shape, step_shape, has_kind, path_kind, is_sure, is_risky, is_node_path, hierarchy_at, is_typed}
use Rattle.apply_meaning.specs.Instances.{Instance, val, fits, lookup, rows}
use Rattle.apply_meaning.specs.Meaning.{Outcome, mean, step_mean, refused_at_beyond, node, traversed, node_ranks, order_values}
use Rattle.apply_meaning.specs.MeaningLaws.{AllFit}
use Rattle.apply_meaning.proofs.RootLemmas.{all-at_places}
use Rattle.rewrite_laws.specs.Rewrites.{passing, pass_traverse}
use Rattle.rewrite_laws.specs.RewriteLaws.{KeepsMeaningInPlace, SameMeaning}
use Rattle.rewrite_laws.proofs.RuleLemmas.{Laws, Commutes, passing-keeps_meaning, sure-filter, sure-none}

-- ---- lists

filter_map-flat : {X Y Z : Type 0} (h : Y → Option Z) (f : X → List Y) (xs : List X) → filter_map h (flat_map f xs) ≡ flat_map (λ x. filter_map h (f x)) xs
filter_map-flat h f [] = refl
filter_map-flat h f (x ∷ xs) = filter_map-append h (f x) (flat_map f xs) ∙ ap (λ z. filter_map h (f x) ++ z) (filter_map-flat h f xs)

pub filter-flat : {X Y : Type 0} (t : Y → Bool) (f : X → List Y) (xs : List X) → filter t (flat_map f xs) ≡ flat_map (λ x. filter t (f x)) xs
filter-flat t f [] = refl
filter-flat t f (x ∷ xs) = filter-append t (f x) (flat_map f xs) ∙ ap (λ z. filter t (f x) ++ z) (filter-flat t f xs)

-- the instances at the places of those whose node passes
pub rows-filter : {X : Type 0} (g : X → Option ℕ) (test : ℕ → Bool) (l : List X) → at_places l (rows_whose test (map g l)) ≡ filter (λ i. unwrap_or (option_map test (g i)) false) l
rows-filter g test l =
    ap (λ n. at_places l (filter (λ k. unwrap_or (option_map test (unwrap_or (slice_get (map g l) k) None)) false) (places n))) (length-map l g)
    ∙ at_places-filter (λ i. unwrap_or (option_map test (g i)) false) (λ k. unwrap_or (option_map test (unwrap_or (slice_get (map g l) k) None)) false) l
    (λ k x e. ap (λ o. unwrap_or (option_map test (unwrap_or o None)) false) (slice_get-map g l k ∙ ap (option_map g) e))

module _ (w : World) (f : HierarchyPlace) (t : TraverseStep) where
  -- the nodes in the walk's order
  abbrev walked : List ℕ
  walked = walk t.post (parents_of w f) (node_ranks w f t.items)

  -- a walk chooses, for each node in turn, the instances of that node
  walk-filters : (l : List Instance) → traversed w f t l ≡ flat_map (λ x. filter (λ i. is_node x (node w f t.path i)) l) walked
  walk-filters l =
      filter_map-flat (slice_get l) (λ x. rows_whose (nat_eq x) (map (node w f t.path) l)) walked
      ∙ flat_map-agree (λ x. at_places l (rows_whose (nat_eq x) (map (node w f t.path) l))) (λ x. filter (λ i. is_node x (node w f t.path i)) l) (λ x. rows-filter (node w f t.path) (nat_eq x) l) walked

  kept-walk : (p : Instance → Bool) (l : List Instance) → filter p (traversed w f t l) ≡ traversed w f t (filter p l)
  kept-walk p l =
      ap (filter p) (walk-filters l) ∙ filter-flat p (λ x. filter (λ i. is_node x (node w f t.path i)) l) walked
      ∙ flat_map-agree (λ x. filter p (filter (λ i. is_node x (node w f t.path i)) l)) (λ x. filter (λ i. is_node x (node w f t.path i)) (filter p l)) (λ x. filter-swapped p (λ i. is_node x (node w f t.path i)) l) walked
      ∙ sym (walk-filters (filter p l))

-- a node path is typed
pub node_path-typed : (w : World) (S : Shape) (h : HierName) (p : Path) → is_node_path w.model S h p ≡ true → is_some (path_kind w.model S p) ≡ true
node_path-typed w S h p e =
    let f = some_and (λ f. is_some_and (same_kind f.key.kind) (path_kind w.model S p)) (hierarchy_at w.model h) e in
    let k = some_and (same_kind (f.0).key.kind) (path_kind w.model S p) f.2 in
    ap is_some k.1

module _ (A : World → Type 0) (L : Laws A) (w : World) (c : Customs) (a : A w) (S : Shape) (t : TraverseStep) (typed : is_some (path_kind w.model S t.path) ≡ true) (calm : is_risky S t.path ≡ false) where
  -- what a walk makes of instances
  walks : Option HierarchyPlace → List Instance → Outcome
  walks o l = elim o [ None ↦ None | Some f ↦ refused_at_beyond (map (λ i. lookup w i t.path) l ++ order_values w t.items (rows w f.set)) (traversed w f t l) ]

  -- the path is Beyond nowhere
  bare : (f : HierarchyPlace) (l r : List Instance) → AllFit w S l
      → refused_at_beyond (map (λ i. lookup w i t.path) l ++ order_values w t.items (rows w f.set)) r ≡ refused_at_beyond (order_values w t.items (rows w f.set)) r
  bare f l r g = ap (λ z. then_some (not z) r) (list_any-append is_beyond (map (λ i. lookup w i t.path) l) (order_values w t.items (rows w f.set))
      ∙ ap (λ z. z || list_any is_beyond (order_values w t.items (rows w f.set))) (sure-none A L w c a S (Expr.Path' t.path) l typed (ap not calm) g))

  walk-commutes : (b : Expr) → has_kind is_boolean_kind w.model S b ≡ true → is_sure w.model S b ≡ true → Commutes w c S (Step.Traverse t) b
  unfolding mean walks
  walk-commutes b h s l g = go (hierarchy_at w.model t.hier)
    where
      kept : List Instance
      kept = filter (λ i. is_value true (val w i b)) l

      push : (z : Bool) (r : List Instance) → AllFit w S r → option_and_then (step_mean w c S (Step.Filter b)) (then_some z r) ≡ then_some z (filter (λ i. is_value true (val w i b)) r)
      push true r ar = sure-filter A L w c a S b r h s ar
      push false r ar = refl

      go : (o : Option HierarchyPlace) → option_and_then (step_mean w c S (Step.Filter b)) (walks o l) ≡ option_and_then (walks o) (step_mean w c S (Step.Filter b) l)
      go None = sym (ap (option_and_then (λ (z : List Instance). None)) (sure-filter A L w c a S b l h s g))
      go (Some f) =
          ap (option_and_then (step_mean w c S (Step.Filter b))) (bare f l (traversed w f t l) g)
          ∙ push (not (list_any is_beyond (order_values w t.items (rows w f.set)))) (traversed w f t l) (all-at_places (fits w S) l _ g)
          ∙ ap (then_some (not (list_any is_beyond (order_values w t.items (rows w f.set))))) (kept-walk w f t (λ i. is_value true (val w i b)) l)
          ∙ sym (bare f (filter (λ i. is_value true (val w i b)) l) (traversed w f t (filter (λ i. is_value true (val w i b)) l)) (all-filter (fits w S) (λ i. is_value true (val w i b)) l g))
          ∙ sym (ap (option_and_then (walks (Some f))) (sure-filter A L w c a S b l h s g))

-- the rule
pub pass_traverse-keeps_meaning : (A : World → Type 0) → Laws A → KeepsMeaningInPlace A pass_traverse
unfolding steps_shape
pass_traverse-keeps_meaning A L w c S S' before (Step.Traverse t) ss ss' k law e got = choose (is_risky S t.path) refl got
  where
    choose : (r : Bool) → is_risky S t.path ≡ r → (if r then None else passing w.model S (is_sure w.model S) (Step.Traverse t) ss) ≡ Some ss'
        → IsTrue (before || is_long (pipe ss')) × SameMeaning A w c S (pipe (Step.Traverse t ∷ ss)) (pipe ss')
    choose true q z = none_or ss' z
    choose false q z =
        let S1 = chained (λ T. steps_shape w.model c T (pipe ss)) (step_shape w.model c S (Step.Traverse t)) S' e in
        let u = then_some-parts (is_node_path w.model S t.hier t.path && is_some_and (λ f. list_all (λ x. is_typed w.model (set_shape f.type) x.expr) t.items) (hierarchy_at w.model t.hier)) S S1.0 S1.1 in
        let typed = node_path-typed w S t.hier t.path (and_parts (is_node_path w.model S t.hier t.path) _ u.0).0 in
        passing-keeps_meaning A L w c k S S1.0 S' law (Step.Traverse t) S1.1 S before ss ss' (is_sure w.model S) u.1 e z (λ b s h.
        let h' = ap (λ T. has_kind is_boolean_kind w.model T b) u.1 ∙ h in
        (h', λ a. walk-commutes A L w c a S t typed q b h' s))
pass_traverse-keeps_meaning A L w c S S' before s ss ss' k law e got = none_or ss' got
