-- The meaning of pipelines: lists of instances, or none where a pipeline is refused (Data Aggregation 4.0, sections 3 and 6).
use Rattle.std.specs.Prelude.{ℕ, nat_eq, count_by, pos, Bool, true, false, not, ◌&&◌, List, [], ◌∷◌, ◌++◌, length, take, drop, reverse, Option, Some, None, map, filter, flat_map, filter_map, zip, if◌then◌else◌, option_map, option_and_then}
use Rattle.std.specs.Bool.{then_some}
use Rattle.std.specs.List.{list_any, range_with_len}
use Rattle.edm_values.specs.declared.Value.{Value}
use Rattle.edm_model.specs.Models.{Navigation, Custom}
use Rattle.edm_data.specs.Worlds.{World}
use Rattle.edm_values.specs.Lists.{is_nonempty, sorted, distinct, all_some, at_places, is_some_and}
use Rattle.edm_values.specs.Values.{is_beyond, same_value, value_before, is_value, reaches_count, reaches_sum, reaches_percent, top_places}
use Rattle.apply_meaning.specs.Aggregates.{aggregate}
use Rattle.edm_values.specs.Names.{Name, Path}
use Rattle.apply_ast.specs.Trees.{Expr, OrderItem, AggItem, NumberLiteral, Limit, TopStep, TraverseStep, Pipe, Step, OptPipe, Pipes, Key, Keys}
use Rattle.edm_model.specs.LookUps.{HierarchyPlace}
use Rattle.context_typing.specs.Typing.{hierarchy_at, Reading, Customs, root_type, custom_at, RollupPart, GroupKeys, group_keys, rollup_part, key_paths, join_navigation, after}
use Rattle.context_typing.specs.Shapes.{Shape, set_shape}
use Rattle.apply_meaning.specs.Instances.{Instance, rows, no_instance, root_of, lookup, val, extended, entity_instance}
use Rattle.edm_data.specs.References.{by_key, related_by}
use Rattle.edm_data.specs.Nodes.{parents_of, identifier}
use Rattle.edm_data.specs.Hierarchies.{is_under, ancestor_rows, descendant_rows, traversed_rows}
use Rattle.std.specs.Cmp.Lexicographic.{pointwise}

-- what a pipeline gives: a list of instances, or none where it is refused, since Beyond stands where a value is needed
abbrev pub Outcome : Type 0
Outcome = Option (List Instance)

-- the lists one after the other, refused where one of them is
abbrev pub joined : List Outcome → Outcome
joined rs = option_map (λ ls. flat_map (λ l. l) ls) (all_some rs)

-- refused where one of the values is Beyond
abbrev pub refused_at_beyond : {A : Type 0} → List Value → A → Option A
refused_at_beyond vs x = then_some (not (list_any is_beyond vs)) x

-- the values of an expression on instances
abbrev pub values : World → Expr → List Instance → List Value
values w e l = map (λ i. val w i e) l

-- a column of one name
abbrev pub column : Name → Value → Path × Value
column n v = (n ∷ [], v)

-- an item's order of two different values: null stands first where it ascends, and last where it descends (OData 4.01 Part 1, section 11.2.6.2)
abbrev pub item_before : Bool → Value → Value → Bool
item_before desc a b = if desc then value_before b a else value_before a b

-- whether an instance stands before another by the items, from left to right
abbrev pub order_before : World → List OrderItem → Instance → Instance → Bool
order_before w [] i j = false
order_before w (x ∷ xs) i j = if same_value (val w i x.expr) (val w j x.expr) then order_before w xs i j else item_before x.desc (val w i x.expr) (val w j x.expr)

-- the values of all items on all instances
abbrev pub order_values : World → List OrderItem → List Instance → List Value
order_values w items l = flat_map (λ x. values w x.expr l) items

-- the key list of an instance (Data Aggregation 4.0, section 3.2.3)
abbrev pub key_list : World → List Path → Instance → List Value
key_list w ks i = map (lookup w i) ks

-- two key lists are one, null being null
abbrev pub same_keys : List Value → List Value → Bool
same_keys = pointwise same_value

-- the key lists of instances, each once, in order of first place
abbrev pub keys : World → List Path → List Instance → List (List Value)
keys w ks l = distinct same_keys (map (key_list w ks) l)

-- the instances of one key list
abbrev pub group : World → List Path → List Value → List Instance → List Instance
group w ks k l = filter (λ i. same_keys (key_list w ks i) k) l

-- the columns of a key list
abbrev pub keyed : List Path → List Value → List (Path × Value)
keyed = zip

-- what a transformation makes of each group, each result with the group's key columns
abbrev pub grouped : World → List Path → (List Instance → Outcome) → List Instance → Outcome
grouped w ks f l = joined (map (λ k. option_map (map (λ r. extended r (keyed ks k))) (f (group w ks k l))) (keys w ks l))

-- the value of a custom aggregate: by its groups and its outer method, or over all values (Data Aggregation 4.0, section 5.2)
abbrev pub custom_value : World → Custom → Reading → List Instance → Value
custom_value w u r l = elim u.outer [
  | None ↦ aggregate u.method (values w r.of l)
  | Some o ↦ aggregate o (map (λ k. aggregate u.method (values w r.of (group w r.per k l))) (keys w r.per l))
]

-- the column of an item of an aggregation over instances of a shape
abbrev pub item_value : World → Customs → Shape → List Instance → AggItem → Path × Value
item_value w c S l (AggItem.Count a) = column a (Value.Int (pos (length l)))
item_value w c S l (AggItem.Standard e f a) = column a (aggregate f (values w e l))
item_value w c S l (AggItem.Custom n a) =
    column a (elim (option_and_then (λ t. custom_at w.model c t n) (root_type S)) [ None ↦ Value.Null | Some x ↦ custom_value w x.0 x.1 l ])

-- the key paths of each level of a grouping, the finest first (Data Aggregation 4.0, section 3.2.3.2)
abbrev pub level_paths : List Path → RollupPart → List (List Path)
level_paths ks (RollupPart.Levels all ps) = map (λ j. ks ++ take j ps) (reverse (range_with_len 1 (length ps))) ++ (if all then ks ∷ [] else [])
level_paths ks _ = ks ∷ []

-- the node of an instance: that whose key equals the value of the path
abbrev pub node : World → HierarchyPlace → Path → Instance → Option ℕ
node w f p i = option_map (λ e. e.at) (by_key w f.set (lookup w i p))

-- the node of an instance is this one or a descendant of it
abbrev pub at_or_below : World → HierarchyPlace → Path → ℕ → Instance → Bool
at_or_below w f p x i = is_some_and (is_under (parents_of w f) x) (node w f p i)

-- a grouping over the instances at or below each node that is shown, with the node's identifier
abbrev pub node_groups : World → Option HierarchyPlace → List Path → Path → List ℕ → (List Instance → Outcome) → List Instance → Outcome
node_groups w None ks p shown f l = None
node_groups w (Some t) ks p shown f l =
    joined (map (λ x. option_map (map (λ r. extended r ((p, identifier w t x) ∷ []))) (grouped w ks f (filter (at_or_below w t p x) l))) shown)

-- a grouping: by each level in turn, or for each node that is shown
abbrev pub groups_by : World → RollupPart → List Path → List ℕ → (List Instance → Outcome) → List Instance → Outcome
groups_by w (RollupPart.Nodes h p) ks shown f l = node_groups w (hierarchy_at w.model h) ks p shown f l
groups_by w part ks shown f l = joined (map (λ level. grouped w level f l) (level_paths ks part))

-- the meaning of a grouping, refused where a key is Beyond
abbrev pub grouping_mean : World → GroupKeys → List ℕ → (List Instance → Outcome) → List Instance → Outcome
grouping_mean w g shown f l = if list_any is_beyond (flat_map (key_list w (key_paths g)) l) then None else groups_by w (rollup_part g) g.plain shown f l

-- a path under an alias
abbrev pub beneath : {A : Type 0} → Name → Path × A → Path × A
beneath a x = (a ∷ x.0, x.1)

-- an instance beside one that is related to it, under the alias (Data Aggregation 4.0, section 3.5.1)
abbrev pub beside : Name → Instance → Instance → Instance
beside a i r = record { prefixes = i.prefixes ++ map (beneath a) r.prefixes; columns = i.columns ++ map (beneath a) r.columns }

-- an instance with the alias bound to none
abbrev pub beside_none : Name → Instance → Instance
beside_none a i = record i { prefixes = i.prefixes ++ (a ∷ [], None) ∷ [] }

-- the instances of the entities related to an instance's entity
abbrev pub related_rows : World → Navigation → Instance → List Instance
related_rows w v i = elim (root_of i) [ None ↦ [] | Some e ↦ map entity_instance (related_by w e v) ]

-- an instance beside each of its results, or once beside none in an outer join without a result
abbrev pub bound_to : Bool → Name → Instance → List Instance → List Instance
bound_to outer a i rs = if outer && not (is_nonempty rs) then beside_none a i ∷ [] else map (beside a i) rs

-- some of the values are enough for what a selection reaches for (Data Aggregation 4.0, section 3.3)
abbrev pub reaches : Limit → List Value → List Value → Bool
reaches (Limit.Count n) vs = reaches_count n
reaches (Limit.Sum (NumberLiteral.Int n)) vs = reaches_sum (n, 0)
reaches (Limit.Sum (NumberLiteral.Dec m s)) vs = reaches_sum (m, s)
reaches (Limit.Percent p) vs = reaches_percent p vs

-- the meaning of a selection
abbrev pub selected : World → TopStep → List Instance → Outcome
selected w t l = option_map (at_places l) (top_places (reaches t.limit (values w t.expr l)) t.bottom (values w t.expr l))

-- the instances whose node is an ancestor, or a descendant, of a start node (Data Aggregation 4.0, section 6.2.1)
abbrev pub climbed : World → Bool → HierarchyPlace → Path → Option ℕ → Bool → List Instance → List Instance → List Instance
climbed w up h p most keep starts l = at_places l ((if up then ancestor_rows else descendant_rows) (parents_of w h) most keep (filter_map (node w h p) starts) (map (node w h p) l))

-- each node's rank: how many nodes stand before it by the items
abbrev pub node_ranks : World → HierarchyPlace → List OrderItem → List ℕ
node_ranks w h items = map (λ i. count_by (λ j. order_before w items j i) (rows w h.set)) (rows w h.set)

-- the instances node by node (Data Aggregation 4.0, section 6.2.2)
abbrev pub traversed : World → HierarchyPlace → TraverseStep → List Instance → List Instance
traversed w h t l = at_places l (traversed_rows t.post (parents_of w h) (node_ranks w h t.items) (map (node w h t.path) l))

-- the nodes that instances stand at by their entities, each once
abbrev pub shown_of : List Instance → List ℕ
shown_of l = distinct nat_eq (filter_map (λ i. option_map (λ e. e.at) (root_of i)) l)

unfoldable mutual
  -- the meaning of a pipeline that is typed from a shape, on a list of instances
  pub mean : World → Customs → Shape → Pipe → List Instance → Outcome
  mean w c S Pipe.End l = Some l
  mean w c S (Pipe.Then s p) l = option_and_then (mean w c (after w.model c S s) p) (step_mean w c S s l)

  -- the meaning of an inner pipeline, or the given one where there is none
  pub inner_mean : World → Customs → Shape → (List Instance → Outcome) → OptPipe → List Instance → Outcome
  inner_mean w c S without OptPipe.NoPipe l = without l
  inner_mean w c S without (OptPipe.SomePipe p) l = mean w c S p l

  -- the meanings of the branches
  pub branch_means : World → Customs → Shape → Pipes → List Instance → List Outcome
  branch_means w c S Pipes.NoPipes l = []
  branch_means w c S (Pipes.MorePipes p ps) l = mean w c S p l ∷ branch_means w c S ps l

  -- the nodes that a recursive rollup shows, refused where its pipeline is
  pub key_shown : World → Customs → Key → Option (List ℕ)
  key_shown w c (Key.Recursive h p T) =
      elim (hierarchy_at w.model h) [ None ↦ None | Some f ↦ option_map shown_of (inner_mean w c (set_shape f.type) (λ l. Some l) T (rows w f.set)) ]
  key_shown w c _ = Some []

  -- the nodes that the recursive rollup among the keys shows
  pub keys_shown : World → Customs → Keys → Option (List ℕ)
  keys_shown w c Keys.NoKeys = Some []
  keys_shown w c (Keys.MoreKeys k ks) = option_and_then (λ xs. option_map (λ ys. xs ++ ys) (keys_shown w c ks)) (key_shown w c k)

  -- the meaning of a transformation (Data Aggregation 4.0, sections 3.2 to 3.5, 6.2 and 6.3)
  pub step_mean : World → Customs → Shape → Step → List Instance → Outcome
  step_mean w c S Step.Identity l = Some l
  step_mean w c S (Step.Filter b) l = refused_at_beyond (values w b l) (filter (λ i. is_value true (val w i b)) l)
  step_mean w c S (Step.Compute ns) l = Some (map (λ i. extended i (map (λ x. column x.name (val w i x.expr)) ns)) l)
  step_mean w c S (Step.OrderBy items) l = refused_at_beyond (order_values w items l) (sorted (order_before w items) l)
  step_mean w c S (Step.Skip n) l = Some (drop n l)
  step_mean w c S (Step.Top n) l = Some (take n l)
  step_mean w c S (Step.Aggregate items) l = Some (record no_instance { columns = map (item_value w c S l) items } ∷ [])
  step_mean w c S (Step.GroupBy ks T) l =
      option_and_then (λ shown. grouping_mean w (group_keys ks) shown (inner_mean w c S (λ g. Some (no_instance ∷ [])) T) l) (keys_shown w c ks)
  step_mean w c S (Step.Concat ps) l = joined (branch_means w c S ps l)
  step_mean w c S (Step.Join outer n a T) l = elim (join_navigation w.model S n) [
    | None ↦ None
    | Some v ↦ joined (map (λ i. option_map (bound_to outer a i) (inner_mean w c (set_shape v.target) (λ r. Some r) T (related_rows w v i))) l)
  ]
  step_mean w c S (Step.TopBy t) l = selected w t l
  step_mean w c S (Step.Climb up h p T d keep) l = elim (hierarchy_at w.model h) [
    | None ↦ None
    | Some f ↦ option_and_then (λ r. refused_at_beyond (map (λ i. lookup w i p) (l ++ r)) (climbed w up f p d keep r l)) (mean w c S T l)
  ]
  step_mean w c S (Step.Traverse t) l = elim (hierarchy_at w.model t.hier) [
    | None ↦ None
    | Some f ↦ refused_at_beyond (map (λ i. lookup w i t.path) l ++ order_values w t.items (rows w f.set)) (traversed w f t l)
  ]
