-- A recursive rollup whose groups an aggregation makes one row each is the rows of its nodes.
use Rattle.std.proofs.Common.{◌≡◌, ℕ, ◌+◌, ◌≤◌, false, not, refl, ◌∙◌, ap, List, [], ◌∷◌, ◌++◌, Option, Some, None, length, map, filter, arith}
use Rattle.std.specs.Prelude.{flat_map, option_and_then, option_map, sum, if◌then◌else◌}
use Rattle.std.proofs.lemmas.List.{append-nil, map-append}
use Rattle.edm_values.specs.declared.Value.{Value}
use Rattle.edm_values.specs.Lists.{at_places, is_nonempty}
use Rattle.edm_values.specs.Names.{Path}
use Rattle.edm_model.specs.LookUps.{HierarchyPlace}
use Rattle.edm_data.specs.Nodes.{identifier}
use Rattle.edm_data.specs.Worlds.{World}
use Rattle.apply_ast.specs.Trees.{AggItem, HierName, Key, Keys, OptPipe, Pipe, Step}
use Rattle.context_typing.specs.Readings.{readings}
use Rattle.context_typing.specs.Shapes.{Shape}
use Rattle.context_typing.specs.Typing.{Customs, after, hierarchy_at}
use Rattle.apply_meaning.proofs.MeaningEquations.{mean-End, mean-Then, step_mean-Aggregate}
use Rattle.apply_meaning.specs.Instances.{Instance, extended, no_instance}
use Rattle.apply_meaning.specs.Meaning.{Outcome, at_or_below, group, grouped, item_value, joined, keyed, keys, keys_shown, mean, node_groups, same_keys, step_mean}
use Rattle.apply_meaning.specs.MeaningLaws.{IsLoaded}
use Rattle.group_rollup.specs.Groupings.{has_beyond_key}
use Rattle.step_run.proofs.AggregateFirst.{begun}
use Rattle.step_run.proofs.CustomLemmas.{items-run}
use Rattle.step_run.proofs.GroupLemmas.{joined-some, sum-cons}
use Rattle.step_run.proofs.LevelLemmas.{levels-cost, levels-mean, typed-apart}
use Rattle.step_run.proofs.NodeLevels.{nodes-lists, nodes-made}
use Rattle.step_run.proofs.RunLevels.{sum-append}
use Rattle.step_run.specs.Conditions.{StepRunsFrom}
use Rattle.step_run.specs.Contexts.{Context}
use Rattle.step_run.specs.Costs as costs
use Rattle.step_run.specs.Costs.{application, cost, keys_cost, result_length, step_cost}
use Rattle.step_run.specs.Levels.{level_lists, level_made, node_levels}
use Rattle.step_run.specs.Totals.{TotalsReady, total_row, totals, totals_at, totals_step}

-- an aggregation alone
abbrev pub alone : List AggItem → Pipe
alone items = Pipe.Then (Step.Aggregate items) Pipe.End

-- the row that it makes
abbrev pub made_of : World → Customs → Shape → List AggItem → List Instance → Instance
made_of w c S items l = record no_instance { columns = map (item_value w c S l) items }

pub alone-mean : (w : World) (c : Customs) (S : Shape) (items : List AggItem) (l : List Instance) → mean w c S (alone items) l ≡ Some (made_of w c S items l ∷ [])
alone-mean w c S items l =
    mean-Then w c S (Step.Aggregate items) Pipe.End l
    ∙ ap (option_and_then (mean w c (after w.model c S (Step.Aggregate items)) Pipe.End)) (step_mean-Aggregate w c S items l)
    ∙ mean-End w c (after w.model c S (Step.Aggregate items)) (made_of w c S items l ∷ [])

-- ---- instances without keys are one group

group-all : (w : World) (l : List Instance) → group w [] [] l ≡ l
group-all w [] = refl
group-all w (i ∷ l) = ap (λ r. i ∷ r) (group-all w l)

keys-one : (w : World) (i : Instance) (l : List Instance) → keys w [] (i ∷ l) ≡ [] ∷ []
keys-one w i [] = refl
keys-one w i (j ∷ l) = ap (λ ks. [] ∷ filter (λ y. not (same_keys [] y)) ks) (keys-one w j l)

module _ (w : World) (c : Customs) (S : Shape) (f : HierarchyPlace) (items : List AggItem) (p : Path) (l : List Instance) where
  abbrev F : List Instance → Outcome
  F = mean w c S (alone items)

  abbrev below : ℕ → List Instance
  below x = filter (at_or_below w f p x) l

  -- what is made of the instances at a node or below it
  one : (x : ℕ) (own : List Instance) → option_map (map (λ r. extended r ((p, identifier w f x) ∷ []))) (grouped w [] F own) ≡ Some (if is_nonempty own then total_row w c S items p (identifier w f x) own ∷ [] else [])
  one x [] = refl
  one x (i ∷ own) =
      let all : List Instance = i ∷ own in
      let id : List (Path × Value) = (p, identifier w f x) ∷ [] in
      let put : List Instance → List Instance = map (λ r. extended r id) in
      let one_of : List Value → Outcome = λ k. option_map (map (λ r. extended r (keyed [] k))) (F (group w [] k all)) in
      ap (λ ks. option_map put (joined (map one_of ks))) (keys-one w i own)
      ∙ ap (λ g. option_map put (joined (option_map (map (λ r. extended r [])) (F g) ∷ []))) (group-all w all)
      ∙ ap (λ o. option_map put (joined (option_map (map (λ r. extended r [])) o ∷ []))) (alone-mean w c S items all)
      ∙ ap (λ cs. Some (record no_instance { columns = cs ++ id } ∷ [])) (append-nil (map (item_value w c S all) items))

  -- and of those of all nodes that are shown
  each : (shown : List ℕ) → node_groups w (Some f) [] p shown F l ≡ Some (totals w c S f items p shown l)
  each [] = refl
  each (x ∷ shown) =
      let rest : List Outcome = map (λ x. option_map (map (λ r. extended r ((p, identifier w f x) ∷ []))) (grouped w [] F (below x))) shown in
      ap (λ o. joined (o ∷ rest)) (one x (below x))
      ∙ joined-some (totals_at w c S f items p l x) rest
      ∙ ap (option_map (λ r. totals_at w c S f items p l x ++ r)) (each shown)

  -- each list on which the aggregation is evaluated counts one at least
  abbrev spent : List Instance → ℕ
  spent = application (cost w c S (alone items)) F

  spent-least : (g : List Instance) → 1 ≤ spent g
  spent-least g = let row = ap result_length (alone-mean w c S items g) in omega (arith, row)

  one-counted : (x : ℕ) (own : List Instance) → length (if is_nonempty own then total_row w c S items p (identifier w f x) own ∷ [] else []) ≤ sum (map spent (costs.groups w [] own))
  one-counted x [] = omega arith
  one-counted x (i ∷ own) =
      let all : List Instance = i ∷ own in
      let lists = ap (λ ks. sum (map spent (map (λ k. group w [] k all) ks))) (keys-one w i own) in
      let once = sum-cons (spent (group w [] [] all)) [] in
      let least = spent-least (group w [] [] all) in
      omega (arith, lists, once, least)

  sum-parts : (xs ys : List (List Instance)) → sum (map spent (xs ++ ys)) ≡ sum (map spent xs) + sum (map spent ys)
  sum-parts xs ys = ap sum (map-append spent xs ys) ∙ sum-append (map spent xs) (map spent ys)

  length-parts : {X : Type 0} (xs ys : List X) → length (xs ++ ys) ≡ length xs + length ys
  length-parts [] ys = omega arith
  length-parts (x ∷ xs) ys = let u = length-parts xs ys in omega (arith, u)

  all-counted : (shown : List ℕ) → length (totals w c S f items p shown l) ≤ sum (map spent (flat_map (λ x. costs.groups w [] (below x)) shown))
  all-counted [] = omega arith
  all-counted (x ∷ shown) =
      let first = one-counted x (below x) in
      let rest = all-counted shown in
      let long = length-parts (totals_at w c S f items p l x) (totals w c S f items p shown l) in
      let whole = sum-parts (costs.groups w [] (below x)) (flat_map (λ x. costs.groups w [] (below x)) shown) in
      omega (arith, first, rest, long, whole)

  pub counted : (shown : List ℕ) → length (totals w c S f items p shown l) ≤ sum (map spent (flat_map (level_lists l) (node_levels w f [] p shown l)))
  counted shown = let rest = all-counted shown in let same = ap (λ ls. sum (map spent ls)) (nodes-lists w f [] p l shown) in omega (arith, rest, same)

  pub made : (shown : List ℕ) → joined (map (level_made F l) (node_levels w f [] p shown l)) ≡ Some (totals w c S f items p shown l)
  made shown = nodes-made w f [] p l F shown ∙ each shown

-- ---- the grouping

module _ (w : World) (c : Customs) (S : Shape) (h : HierName) (p : Path) (T : OptPipe) (items : List AggItem) (l : List Instance) (f : HierarchyPlace) (at : hierarchy_at w.model h ≡ Some f) (shown : List ℕ) where
  abbrev ks : Keys
  ks = Keys.MoreKeys (Key.Recursive h p T) Keys.NoKeys

  pub totals-mean : keys_shown w c ks ≡ Some shown → has_beyond_key w (p ∷ []) l ≡ false → step_mean w c S (totals_step h p T items) l ≡ Some (totals w c S f items p shown l)
  totals-mean are sure =
      levels-mean w c S ks (alone items) l shown (f, at) are sure
      ∙ ap (λ o. joined (map (level_made (mean w c S (alone items)) l) (elim o [ None ↦ [] | Some f ↦ node_levels w f [] p shown l ]))) at
      ∙ made w c S f items p l shown

  pub totals-cost : keys_shown w c ks ≡ Some shown → keys_cost w c ks + length (totals w c S f items p shown l) ≤ step_cost w c S (totals_step h p T items) l
  totals-cost are =
      let least = levels-cost w c S ks (alone items) l shown (f, at) are in
      let same = ap (λ o. sum (map (application (cost w c S (alone items)) (mean w c S (alone items))) (flat_map (level_lists l) (elim o [ None ↦ [] | Some f ↦ node_levels w f [] p shown l ])))) at in
      let few = counted w c S f items p l shown in
      omega (arith, least, same, few)

-- the items can be evaluated on any of the instances
pub totals-ready : (x : Context) (root : Option ℕ) (S S' : Shape) (h : HierName) (p : Path) (T : OptPipe) (items : List AggItem) (l : List Instance) → IsLoaded x.world → StepRunsFrom x root S S' (totals_step h p T items) l
    → TotalsReady x root items p l
totals-ready x root S S' h p T items l L R = (
  S,
  λ ks v.
      let w = x.world in
      let c = readings x.customs in
      let u = typed-apart x root S S' (Keys.MoreKeys (Key.Recursive h p T) Keys.NoKeys) (alone items) l L R ks in
      let b = begun {P = alone items} {items = items} {rest = Pipe.End} refl u.runs in (
        items-run x root S b.between items (at_places l ks) L b.first,
        u.apart (made_of w c S items (at_places l ks)) (v ∷ []) (alone-mean w c S items (at_places l ks)),
      ),
)
