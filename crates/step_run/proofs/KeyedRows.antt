-- The rows of a recursive rollup with plain keys, and what they are made of.
use Rattle.std.proofs.Common.{◌≡◌, ℕ, ◌+◌, ◌-◌, ◌<◌, ◌≤◌, Bool, true, false, cond, ◌&&◌, ◌||◌, refl, sym, ◌∙◌, ap, subst, arith, List, [], ◌∷◌, ◌++◌, Option, Some, get_or, length, map, filter, take, drop, append_assoc, IsTrue}
use Rattle.std.specs.Prelude.{All, flat_map, nat_lt, option_map, slice_get, sum}
use Rattle.std.specs.List.{list_all, list_any}
use Rattle.std.proofs.lemmas.Bool.{and_parts}
use Rattle.std.proofs.lemmas.List.{length-map, map-append}
use Rattle.std.proofs.lemmas.List.Elements.{All-cons, All-get_or, All-head, All-nil, All-tail}
use Rattle.std.proofs.lemmas.List.Folds.{list_any-append}
use Rattle.std.proofs.lemmas.Simd.{map-map}
use Rattle.edm_values.proofs.EachLemmas.{map-agree}
use Rattle.edm_values.proofs.ListFacts.{all-at}
use Rattle.edm_values.proofs.Reorderings.{Reorders, filter-swapped}
use Rattle.edm_values.specs.declared.Value.{Value}
use Rattle.edm_values.specs.Lists.{at_places, is_nonempty, sorted}
use Rattle.edm_values.specs.Names.{Path}
use Rattle.edm_values.specs.Values.{is_beyond}
use Rattle.edm_model.specs.LookUps.{HierarchyPlace}
use Rattle.edm_data.specs.Hierarchies.{rows_under}
use Rattle.edm_data.specs.Nodes.{identifier, parents_of}
use Rattle.edm_data.specs.Worlds.{World}
use Rattle.apply_ast.specs.Trees.{AggItem, HierName, Key, Keys, OptPipe, Pipe}
use Rattle.context_typing.specs.Readings.{readings}
use Rattle.context_typing.specs.Shapes.{Shape}
use Rattle.context_typing.specs.Typing.{Customs, group_keys, hierarchy_at, key_paths, plain_paths, rollup_part, rollup_paths}
use Rattle.apply_meaning.proofs.InstanceOrders.{item_value-reorders, same_keys_tests}
use Rattle.apply_meaning.specs.Instances.{Instance, extended, lookup, no_instance}
use Rattle.apply_meaning.specs.Meaning.{Outcome, at_or_below, group, grouped, item_value, joined, key_list, keyed, keys, keys_shown, mean, node, node_groups, same_keys, step_mean}
use Rattle.apply_meaning.specs.MeaningLaws.{IsLoaded}
use Rattle.apply_meaning.specs.RowViews.{columns_differ}
use Rattle.par_stages.proofs.Passing.{passing}
use Rattle.group_rollup.specs.Groupings.{has_beyond_key}
use Rattle.group_rollup.specs.NumberedBy.{AreNumberedBy}
use Rattle.numbered_groups.specs.Numbered.{Numbering}
use Rattle.rollup_rec.specs.Rollups.{groups_under, rolled}
use Rattle.step_run.proofs.AggregateFirst.{begun}
use Rattle.step_run.proofs.CustomLemmas.{items-run}
use Rattle.step_run.proofs.GroupLemmas.{joined-some, sum-cons}
use Rattle.step_run.proofs.GroupTotalLaws.{firsts-within, length-placed, placed-at, size}
use Rattle.step_run.proofs.GroupingLevels.{levels-are}
use Rattle.step_run.proofs.KeptPlaces.{placed-twice}
use Rattle.step_run.proofs.KeyParts.{recursive-part}
use Rattle.step_run.proofs.KeyedLaws.{firsts-keys, keys-own, keys-thinned, passing-first, picked}
use Rattle.step_run.proofs.LevelLemmas.{IsPlaced, levels-cost, levels-mean, typed-apart}
use Rattle.step_run.proofs.NodeLevels.{filter-both, found-is, keyed-last, nodes-lists, nodes-made}
use Rattle.step_run.proofs.PlacedRuns.{part-within, placed-part, run-reorders}
use Rattle.step_run.proofs.TotalLaws.{alone, alone-mean, made_of}
use Rattle.step_run.specs.Conditions.{KeysReady, StepRunsFrom}
use Rattle.step_run.specs.Contexts.{Context}
use Rattle.step_run.specs.Costs as costs
use Rattle.step_run.specs.Costs.{application, cost, keys_cost, result_length, step_cost}
use Rattle.step_run.specs.GroupTotals.{grouped_step}
use Rattle.step_run.specs.KeyedTotals.{AreKeyRows, HasFirst, HaveFirsts, KeyRowsState, KeyedReady, key_row, keyed_at, keyed_row, keyed_totals, rolled_rows}
use Rattle.step_run.specs.Levels.{level_lists, level_made, node_levels}
use Rattle.step_run.specs.RecursiveKeys.{HasKey}
use Rattle.step_run.specs.Totals.{AreNodesOf}

-- ---- what is made of each node

length-parts : {X : Type 0} (xs ys : List X) → length (xs ++ ys) ≡ length xs + length ys
length-parts [] ys = omega arith
length-parts (x ∷ xs) ys = let u = length-parts xs ys in omega (arith, u)

module _ (w : World) (c : Customs) (S : Shape) (f : HierarchyPlace) (items : List AggItem) (ks : List Path) (p : Path) (l : List Instance) where
  abbrev F : List Instance → Outcome
  F = mean w c S (alone items)

  abbrev below : ℕ → List Instance
  below x = filter (at_or_below w f p x) l

  -- the row of a key
  one : (x : ℕ) (k : List Value) → option_map (map (λ r. extended r (keyed ks k))) (F (group w ks k (below x))) ≡ Some (extended (made_of w c S items (group w ks k (below x))) (keyed ks k) ∷ [])
  one x k = ap (option_map (map (λ r. extended r (keyed ks k)))) (alone-mean w c S items (group w ks k (below x)))

  -- the rows of the keys of a node
  ones : (x : ℕ) (gs : List (List Value)) → joined (map (λ k. option_map (map (λ r. extended r (keyed ks k))) (F (group w ks k (below x)))) gs) ≡ Some (map (λ k. extended (made_of w c S items (group w ks k (below x))) (keyed ks k)) gs)
  ones x [] = refl
  ones x (k ∷ gs) =
      let rest : List Outcome = map (λ k. option_map (map (λ r. extended r (keyed ks k))) (F (group w ks k (below x)))) gs in
      ap (λ o. joined (o ∷ rest)) (one x k)
      ∙ joined-some (extended (made_of w c S items (group w ks k (below x))) (keyed ks k) ∷ []) rest
      ∙ ap (option_map (λ r. extended (made_of w c S items (group w ks k (below x))) (keyed ks k) ∷ r)) (ones x gs)

  at-node : (x : ℕ) → option_map (map (λ r. extended r ((p, identifier w f x) ∷ []))) (grouped w ks F (below x)) ≡ Some (keyed_at w c S f items ks p l x)
  at-node x =
      ap (option_map (map (λ r. extended r ((p, identifier w f x) ∷ [])))) (ones x (keys w ks (below x)))
      ∙ ap Some (map-map (λ r. extended r ((p, identifier w f x) ∷ [])) (λ k. extended (made_of w c S items (group w ks k (below x))) (keyed ks k)) (keys w ks (below x)))

  each : (shown : List ℕ) → node_groups w (Some f) ks p shown F l ≡ Some (keyed_totals w c S f items ks p shown l)
  each [] = refl
  each (x ∷ shown) =
      let rest : List Outcome = map (λ x. option_map (map (λ r. extended r ((p, identifier w f x) ∷ []))) (grouped w ks F (below x))) shown in
      ap (λ o. joined (o ∷ rest)) (at-node x)
      ∙ joined-some (keyed_at w c S f items ks p l x) rest
      ∙ ap (option_map (λ r. keyed_at w c S f items ks p l x ++ r)) (each shown)

  -- an aggregation makes these rows of the groups of all nodes
  pub keyed-made : (shown : List ℕ) → joined (map (level_made F l) (node_levels w f ks p shown l)) ≡ Some (keyed_totals w c S f items ks p shown l)
  keyed-made shown = nodes-made w f ks p l F shown ∙ each shown

  -- ---- each row counts one at least

  abbrev spent : List Instance → ℕ
  spent = application (cost w c S (alone items)) F

  spent-least : (g : List Instance) → 1 ≤ spent g
  spent-least g = let row = ap result_length (alone-mean w c S items g) in omega (arith, row)

  spent-all : (gs : List (List Instance)) → length gs ≤ sum (map spent gs)
  spent-all [] = omega arith
  spent-all (g ∷ gs) =
      let least = spent-least g in
      let rest = spent-all gs in
      let whole = sum-cons (spent g) (map spent gs) in
      omega (arith, least, rest, whole)

  as-long : (shown : List ℕ) → length (keyed_totals w c S f items ks p shown l) ≡ length (flat_map (λ x. costs.groups w ks (below x)) shown)
  as-long [] = refl
  as-long (x ∷ shown) =
      let a = length-map (keys w ks (below x)) (key_row w c S f items ks p l x) in
      let b = length-map (keys w ks (below x)) (λ k. group w ks k (below x)) in
      let r = as-long shown in
      let m = length-parts (keyed_at w c S f items ks p l x) (keyed_totals w c S f items ks p shown l) in
      let o = length-parts (costs.groups w ks (below x)) (flat_map (λ x. costs.groups w ks (below x)) shown) in
      omega (arith, a, b, r, m, o)

  pub keyed-counted : (shown : List ℕ) → length (keyed_totals w c S f items ks p shown l) ≤ sum (map spent (flat_map (level_lists l) (node_levels w f ks p shown l)))
  keyed-counted shown =
      let long = as-long shown in
      let least = spent-all (flat_map (λ x. costs.groups w ks (below x)) shown) in
      let same = ap (λ ls. sum (map spent ls)) (nodes-lists w f ks p l shown) in
      omega (arith, long, least, same)

-- ---- the rows of groups of the first instances

module _ (w : World) (f : HierarchyPlace) (ks : List Path) (p : Path) (l : List Instance) (n : Numbering) (N : AreNumberedBy w (ks ++ p ∷ []) l n) (there : All (λ r. r < length n.numbers) n.firsts) where
  -- the first instance of each key and node
  abbrev first : List Instance
  first = at_places l n.firsts

  within : list_all (λ k. nat_lt k (length l)) n.firsts ≡ true
  within = firsts-within w (ks ++ p ∷ []) l n N there

  first-long : length first ≡ length n.firsts
  first-long = length-placed l n.firsts within

  abbrev below' : ℕ → List Instance
  below' x = filter (at_or_below w f p x) first

  abbrev is_key : ℕ → List Value → Instance → Bool
  is_key x k i = at_or_below w f p x i && same_keys (key_list w ks i) k

  abbrev found : ℕ → List (List Value × List ℕ)
  found x = groups_under (parents_of w f) (map (node w f p) first) (map (key_list w ks) first) x

  -- they have the keys of all
  same-keys_below : (x : ℕ) → keys w ks (below' x) ≡ keys w ks (filter (at_or_below w f p x) l)
  same-keys_below x = keys-thinned w f ks p x l first (firsts-keys w (ks ++ p ∷ []) l n N there)

  -- each group has an instance with its key
  has-first : (x k : ℕ) (g : List Value × List ℕ) → slice_get (found x) k ≡ Some g → HasFirst w ks l n.firsts g
  has-first x k g e =
      let r = picked (λ k. (k, passing (is_key x k) 0 first)) (keys w ks (below' x)) k g (ap (λ gs. slice_get gs k) (sym (found-is w f ks p first x)) ∙ e) in
      let some : is_nonempty (filter (is_key x r.own) first) ≡ true =
      ap is_nonempty (sym (filter-both (λ i. same_keys (key_list w ks i) r.own) (at_or_below w f p x) first)) ∙ all-at (λ k. is_nonempty (group w ks k (below' x))) (keys w ks (below' x)) k r.own (keys-own w ks (below' x)) r.here in
      let q = passing-first (is_key x r.own) 0 first no_instance some in
      let at-there = q.there in
      let long = first-long in
      let small : q.at < length n.firsts = omega (arith, at-there, long) in
      let zero-at : 0 + q.at ≡ q.at = omega arith in
      let own = placed-at l n.firsts q.at no_instance within small in
      let tested = and_parts (at_or_below w f p x (get_or first q.at no_instance)) (same_keys (key_list w ks (get_or first q.at no_instance)) r.own) q.passes in
      record {
        place = q.at;
        rest = q.rest;
        places_are = ap (λ (g : List Value × List ℕ). g.1) (sym r.is) ∙ q.are ∙ ap (λ m. m ∷ q.rest) zero-at;
        there = small;
        within = (let s = All-get_or (λ r. r < length n.numbers) n.firsts q.at 0 small there in let same = size w (ks ++ p ∷ []) l n N in omega (arith, s, same));
        key_is = ap (key_list w ks) (sym own) ∙ same_keys_tests.same (key_list w ks (get_or first q.at no_instance)) r.own tested.1 ∙ ap (λ (g : List Value × List ℕ). g.0) r.is;
      }

  abbrev all_rolled : List ℕ → List (ℕ × List (List Value × List ℕ))
  all_rolled shown = rolled (parents_of w f) (map (node w f p) first) (map (key_list w ks) first) shown

  -- the groups of all nodes that are shown
  pub rolled-firsts : (m : ℕ) (shown : List ℕ) → All (λ x. x < m) shown → All (λ (e : ℕ × List (List Value × List ℕ)). (e.0 < m) × HaveFirsts w ks l n.firsts e.1) (all_rolled shown)
  rolled-firsts m [] a = All-nil (λ (e : ℕ × List (List Value × List ℕ)). (e.0 < m) × HaveFirsts w ks l n.firsts e.1)
  rolled-firsts m (x ∷ shown) a = go (is_nonempty (found x)) (rolled-firsts m shown (All-tail (λ x. x < m) x shown a))
    where
      go : (b : Bool) → All (λ (e : ℕ × List (List Value × List ℕ)). (e.0 < m) × HaveFirsts w ks l n.firsts e.1) (all_rolled shown) → All (λ (e : ℕ × List (List Value × List ℕ)). (e.0 < m) × HaveFirsts w ks l n.firsts e.1) (cond b ((x, found x) ∷ all_rolled shown) (all_rolled shown))
      go true r = All-cons (λ (e : ℕ × List (List Value × List ℕ)). (e.0 < m) × HaveFirsts w ks l n.firsts e.1) (x, found x) (all_rolled shown) (All-head (λ x. x < m) x shown a, has-first x) r
      go false r = r

  module _ (c : Customs) (S : Shape) (items : List AggItem) where
    node-rows : (x : ℕ) → rolled_rows w c S f items ks p l (x, found x) ≡ keyed_at w c S f items ks p l x
    node-rows x =
        ap (map (λ (g : List Value × List ℕ). key_row w c S f items ks p l x g.0)) (found-is w f ks p first x)
        ∙ map-map (λ (g : List Value × List ℕ). key_row w c S f items ks p l x g.0) (λ k. (k, passing (is_key x k) 0 first)) (keys w ks (below' x))
        ∙ ap (map (key_row w c S f items ks p l x)) (same-keys_below x)

    -- the rows of the groups of the first instances are those of all
    pub rolled-made : (shown : List ℕ) → flat_map (rolled_rows w c S f items ks p l) (all_rolled shown) ≡ keyed_totals w c S f items ks p shown l
    rolled-made [] = refl
    rolled-made (x ∷ shown) = go (found x) refl (rolled-made shown)
      where
        go : (gs : List (List Value × List ℕ)) → found x ≡ gs → flat_map (rolled_rows w c S f items ks p l) (all_rolled shown) ≡ keyed_totals w c S f items ks p shown l
            → flat_map (rolled_rows w c S f items ks p l) (cond (is_nonempty gs) ((x, found x) ∷ all_rolled shown) (all_rolled shown)) ≡ keyed_at w c S f items ks p l x ++ keyed_totals w c S f items ks p shown l
        go (g ∷ gs) e t = λ i. node-rows x i ++ t i
        go [] e t =
            let none : [] ≡ keyed_at w c S f items ks p l x = ap (λ gs. rolled_rows w c S f items ks p l (x, gs)) (sym e) ∙ node-rows x in
            t ∙ ap (λ xs. xs ++ keyed_totals w c S f items ks p shown l) none

-- there are as many rows as groups
pub rolled-long : (w : World) (c : Customs) (S : Shape) (f : HierarchyPlace) (items : List AggItem) (ks : List Path) (p : Path) (l : List Instance) (es : List (ℕ × List (List Value × List ℕ)))
    → length (flat_map (rolled_rows w c S f items ks p l) es) ≡ length (flat_map (λ (e : ℕ × List (List Value × List ℕ)). e.1) es)
rolled-long w c S f items ks p l [] = refl
rolled-long w c S f items ks p l (e ∷ es) =
    let a = length-map e.1 (λ (g : List Value × List ℕ). key_row w c S f items ks p l e.0 g.0) in
    let r = rolled-long w c S f items ks p l es in
    let m = length-parts (rolled_rows w c S f items ks p l e) (flat_map (rolled_rows w c S f items ks p l) es) in
    let o = length-parts e.1 (flat_map (λ (e : ℕ × List (List Value × List ℕ)). e.1) es) in
    omega (arith, a, r, m, o)

-- ---- the row of a key at a node

-- the row of instances is that of the same in another order
keyed-reorders : (w : World) (c : Customs) (S : Shape) (items : List AggItem) (ks : List Path) (k : List Value) (p : Path) (v : Value) {l r : List Instance} → Reorders l r → keyed_row w c S items ks k p v l ≡ keyed_row w c S items ks k p v r
keyed-reorders w c S items ks k p v {l} {r} e = ap (λ cs. record no_instance { columns = (cs ++ keyed ks k) ++ (p, v) ∷ [] }) (map-agree (item_value w c S l) (item_value w c S r) items (λ i. item_value-reorders w c S i e))

-- the instances at places among places, from one on and before another
pub run-placed : (w : World) (items : List AggItem) (l : List Instance) (js : List ℕ) (within : IsTrue (list_all (λ k. nat_lt k (length l)) js)) (r : KeyRowsState) → AreKeyRows w items l js r → (a n : ℕ)
    → at_places (at_places l js) (take n (drop a r.order.rows)) ≡ at_places l (take n (drop a r.places))
run-placed w items l js within r own a n =
    placed-twice l js (take n (drop a r.order.rows)) within (part-within (length js) a n r.order.rows own.rows_within)
    ∙ ap (at_places l) (placed-part js a n r.order.rows own.rows_within ∙ ap (λ ps. take n (drop a ps)) (sym own.places_are))

pub run-row : (w : World) (c : Customs) (S : Shape) (f : HierarchyPlace) (items : List AggItem) (ks : List Path) (k : List Value) (p : Path) (v : Value) (l : List Instance) (js : List ℕ) (within : IsTrue (list_all (λ k. nat_lt k (length l)) js))
    (r : KeyRowsState) → AreKeyRows w items l js r → (set x a n : ℕ) → AreNodesOf w f p (at_places l js) set r.order.parents r.order.nodes → sorted nat_lt (take n (drop a r.order.rows)) ≡ rows_under r.order.parents x r.order.nodes
    → keyed_row w c S items ks k p v (at_places l (take n (drop a r.places))) ≡ keyed_row w c S items ks k p v (filter (at_or_below w f p x) (at_places l js))
run-row w c S f items ks k p v l js within r own set x a n are same =
    ap (keyed_row w c S items ks k p v) (sym (run-placed w items l js within r own a n))
    ∙ keyed-reorders w c S items ks k p v (run-reorders w f p (at_places l js) x set r.order.parents r.order.nodes (take n (drop a r.order.rows)) are same)

-- the instances with the key of an instance, at a node or below it
pub key-below : (w : World) (f : HierarchyPlace) (ks : List Path) (p : Path) (l own : List Instance) (x : ℕ) (k k' : List Value) → own ≡ group w ks k l → k ≡ k' → filter (at_or_below w f p x) own ≡ group w ks k' (filter (at_or_below w f p x) l)
key-below w f ks p l own x k k' e same =
    ap (filter (at_or_below w f p x)) (e ∙ ap (λ k. group w ks k l) same) ∙ filter-swapped (at_or_below w f p x) (λ i. same_keys (key_list w ks i) k') l

-- ---- the grouping

module _ (x : Context) (h : HierName) (p : Path) (T : OptPipe) (ks : Keys) (has : HasKey (Key.Recursive h p T) ks) (ready : KeysReady x ks) (f : HierarchyPlace) (at : hierarchy_at x.world.model h ≡ Some f) (S : Shape) (items : List AggItem) (l : List Instance) (shown : List ℕ) where
  -- its keys are the plain ones, and the path to the nodes
  pub paths-are : key_paths (group_keys ks) ≡ plain_paths ks ++ p ∷ []
  paths-are = ap (λ part. plain_paths ks ++ rollup_paths part) (recursive-part h p T ks has ready.few)

  pub keyed-beyond : has_beyond_key x.world (plain_paths ks ++ p ∷ []) l ≡ true → has_beyond_key x.world (key_paths (group_keys ks)) l ≡ true
  keyed-beyond beyond = ap (λ ps. has_beyond_key x.world ps l) paths-are ∙ beyond

  placed-is : IsPlaced x.world (rollup_part (group_keys ks))
  placed-is = subst (IsPlaced x.world) (sym (recursive-part h p T ks has ready.few)) (f, at)

  pub keyed-mean : keys_shown x.world (readings x.customs) ks ≡ Some shown → has_beyond_key x.world (plain_paths ks ++ p ∷ []) l ≡ false
      → step_mean x.world (readings x.customs) S (grouped_step ks items) l ≡ Some (keyed_totals x.world (readings x.customs) S f items (plain_paths ks) p shown l)
  keyed-mean are sure =
      levels-mean x.world (readings x.customs) S ks (alone items) l shown placed-is are (ap (λ ps. has_beyond_key x.world ps l) paths-are ∙ sure)
      ∙ ap (λ levels. joined (map (level_made (mean x.world (readings x.customs) S (alone items)) l) levels)) (levels-are x h p T ks has ready f at shown l)
      ∙ keyed-made x.world (readings x.customs) S f items (plain_paths ks) p l shown

  pub keyed-cost : keys_shown x.world (readings x.customs) ks ≡ Some shown
      → keys_cost x.world (readings x.customs) ks + length (keyed_totals x.world (readings x.customs) S f items (plain_paths ks) p shown l) ≤ step_cost x.world (readings x.customs) S (grouped_step ks items) l
  keyed-cost are =
      let least = levels-cost x.world (readings x.customs) S ks (alone items) l shown placed-is are in
      let same = ap (λ levels. sum (map (application (cost x.world (readings x.customs) S (alone items)) (mean x.world (readings x.customs) S (alone items))) (flat_map (level_lists l) levels))) (levels-are x h p T ks has ready f at shown l) in
      let few = keyed-counted x.world (readings x.customs) S f items (plain_paths ks) p l shown in
      omega (arith, least, same, few)

-- the items can be evaluated on any of the instances, and their columns differ from those of the keys
pub keyed-ready : (x : Context) (root : Option ℕ) (S S' : Shape) (ks : Keys) (items : List AggItem) (p : Path) (l : List Instance) → key_paths (group_keys ks) ≡ plain_paths ks ++ p ∷ [] → IsLoaded x.world → StepRunsFrom x root S S' (grouped_step ks items) l
    → KeyedReady x root items (plain_paths ks) p l
keyed-ready x root S S' ks items p l paths L R = (
  S,
  λ js k v.
      let w = x.world in
      let c = readings x.customs in
      let own = at_places l js in
      let u = typed-apart x root S S' ks (alone items) l L R js in
      let b = begun {P = alone items} {items = items} {rest = Pipe.End} refl u.runs in (
        items-run x root S b.between items own L b.first,
        λ long.
            let cols = map (item_value w c S own) items in
            subst (λ cs. IsTrue (columns_differ cs))
            (ap (λ ps. cols ++ keyed ps (k ++ v ∷ [])) paths ∙ ap (λ ds. cols ++ ds) (keyed-last (plain_paths ks) k p v long) ∙ sym (append_assoc cols (keyed (plain_paths ks) k) ((p, v) ∷ [])))
            (u.apart (made_of w c S items own) (k ++ v ∷ []) (alone-mean w c S items own)),
      ),
)

-- ---- refusals

-- a key that is Beyond among the first refuses all
pub front-beyond : (w : World) (ks ps : List Path) (l : List Instance) → has_beyond_key w ks l ≡ true → has_beyond_key w (ks ++ ps) l ≡ true
front-beyond w ks ps [] h = h
front-beyond w ks ps (i ∷ l) h =
    list_any-append is_beyond (key_list w (ks ++ ps) i) (flat_map (key_list w (ks ++ ps)) l)
    ∙ ap (λ vs. list_any is_beyond vs || has_beyond_key w (ks ++ ps) l) (map-append (lookup w i) ks ps)
    ∙ ap (λ b. b || has_beyond_key w (ks ++ ps) l) (list_any-append is_beyond (key_list w ks i) (key_list w ps i))
    ∙ go (list_any is_beyond (key_list w ks i)) (has_beyond_key w ks l) (list_any is_beyond (key_list w ps i)) (has_beyond_key w (ks ++ ps) l) (sym (list_any-append is_beyond (key_list w ks i) (flat_map (key_list w ks) l)) ∙ h) (front-beyond w ks ps l)
  where
    go : (a b c d : Bool) → (a || b) ≡ true → (b ≡ true → d ≡ true) → ((a || c) || d) ≡ true
    go true b c d e r = refl
    go false b true d e r = refl
    go false b false d e r = r e
