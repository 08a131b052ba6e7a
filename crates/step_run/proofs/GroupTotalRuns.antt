-- A grouping by plain keys or levels whose groups an aggregation makes one row each is the rows of its groups.
use Rattle.std.proofs.Common.{◌≡◌, ℕ, ◌+◌, ◌≤◌, true, false, refl, sym, ◌∙◌, ap, arith, List, [], ◌∷◌, ◌++◌, Option, Some, None, Ok, Err, get_or, inl, inr, length, map, subst}
use Rattle.std.specs.Prelude.{All, flat_map, is_some, option_map, slice_get}
use Rattle.std.specs.declared.result.Result as result
use Rattle.std.specs.List.{list_all}
use Rattle.std.proofs.lemmas.Bool.{and_parts, true≢false}
use Rattle.std.proofs.lemmas.List.Elements.{All-cons, All-from_get_or, All-nil}
use Rattle.std.proofs.lemmas.Option.{slice_get-get_or, slice_get-map}
use Rattle.edm_values.specs.declared.Value.{Value}
use Rattle.edm_values.specs.declared.refusals.Refused.{Refused}
use Rattle.edm_values.specs.declared.refusals.Refused.TheVariants.{Range, Memory}
use Rattle.edm_values.specs.Lists.{at_places}
use Rattle.edm_values.specs.Names.{Path}
use Rattle.edm_values.proofs.EachLemmas.{map-agree}
use Rattle.edm_values.proofs.ListFacts.{all-at}
use Rattle.edm_data.specs.Worlds.{World}
use Rattle.apply_ast.specs.Trees.{AggItem, Keys, OptPipe, Pipe, Step}
use Rattle.context_typing.specs.Readings.{readings}
use Rattle.context_typing.specs.Shapes.{Shape}
use Rattle.context_typing.specs.Typing.{Customs, group_keys, item_column, key_paths, plain_paths, rollup_part}
use Rattle.apply_meaning.specs.Instances.{Instance, extended, no_instance}
use Rattle.apply_meaning.specs.Meaning.{Outcome, item_value, joined, keyed, mean, step_mean}
use Rattle.apply_meaning.specs.MeaningLaws.{IsLoaded}
use Rattle.apply_meaning.specs.RowViews.{columns_differ}
use Rattle.apply_meaning.specs.Running.{Gives}
use Rattle.row_frames.specs.Frames.{GivesFrame}
use Rattle.group_rollup.specs.Groupings.{has_beyond_key}
use Rattle.step_run.proofs.AggregateFirst.{begun}
use Rattle.step_run.proofs.CustomLemmas.{item-foldable, items-run}
use Rattle.step_run.proofs.GroupLemmas.{joined-some}
use Rattle.step_run.proofs.GroupingLevels.{flat-by, flat-part}
use Rattle.step_run.proofs.GroupingRun.{placed, step-mean-on, step-runs-on}
use Rattle.step_run.proofs.KeyParts.{all-shown}
use Rattle.step_run.proofs.LevelLemmas.{levels-differ, levels-keys, levels-mean, levels-refused, levels-run, typed-apart}
use Rattle.step_run.proofs.TotalLaws.{alone, alone-mean, made_of}
use Rattle.step_run.specs.Conditions.{ItemsRun, RunsFrom, StepRunsFrom}
use Rattle.step_run.specs.Contexts.{Context}
use Rattle.step_run.specs.Costs.{inner_costs, result_length, step_cost}
use Rattle.step_run.specs.GroupTotals.{AreApart, GivesFound, GivesGroupTotals, GroupsReady, IsFoldable, IsGroupedBy, folded_column, group_total, group_totals, grouped_step, is_folded, level_totals}
use Rattle.step_run.specs.Levels.{Level, group_made, level_made, level_on, level_rows, levels_of, levels_on}
use Rattle.step_run.specs.RecursiveKeys.{are_flat_keys}

-- one row each, one after the other
joined-rows : {X : Type 0} (f : X → Instance) (xs : List X) → joined (map (λ x. Some (f x ∷ [])) xs) ≡ Some (map f xs)
joined-rows f [] = refl
joined-rows f (x ∷ xs) = joined-some (f x ∷ []) (map (λ x. Some (f x ∷ [])) xs) ∙ ap (option_map (λ rest. f x ∷ [] ++ rest)) (joined-rows f xs)

joined-lists : {X : Type 0} (f : X → List Instance) (xs : List X) → joined (map (λ x. Some (f x)) xs) ≡ Some (flat_map f xs)
joined-lists f [] = refl
joined-lists f (x ∷ xs) = joined-some (f x) (map (λ x. Some (f x)) xs) ∙ ap (option_map (λ rest. f x ++ rest)) (joined-lists f xs)

module _ (w : World) (c : Customs) (S : Shape) (items : List AggItem) (folded : list_all is_folded items ≡ true) (l : List Instance) where
  -- the columns of the items are those of their values
  folded-is : (own : List Instance) (is : List AggItem) → list_all is_folded is ≡ true → map (item_value w c S own) is ≡ map (folded_column w own) is
  folded-is own [] f = refl
  folded-is own (i ∷ is) f = let a = and_parts (is_folded i) (list_all is_folded is) f in λ k. one i a.0 k ∷ folded-is own is a.1 k
    where
      one : (i : AggItem) → is_folded i ≡ true → item_value w c S own i ≡ folded_column w own i
      one (AggItem.Count a) t = refl
      one (AggItem.Standard e f a) t = refl
      one (AggItem.Custom n a) t = absurd (true≢false (sym t))

  abbrev F : List Instance → Outcome
  F = mean w c S (alone items)

  -- what is made of a group is its row
  row-made : (ks : List Path) (g : List Value × List ℕ) → group_made ks F l g ≡ Some (group_total w items ks l g ∷ [])
  row-made ks g =
      ap (option_map (map (λ r. extended r (keyed ks g.0)))) (alone-mean w c S items (at_places l g.1))
      ∙ ap (λ cs. Some (record no_instance { columns = cs ++ keyed ks g.0 } ∷ [])) (folded-is (at_places l g.1) items folded)

  level-rows : (level : Level) → level_made F l level ≡ Some (level_totals w items l level)
  level-rows level =
      ap joined (map-agree (group_made level.0 F l) (λ g. Some (group_total w items level.0 l g ∷ [])) level.1 (row-made level.0))
      ∙ joined-rows (group_total w items level.0 l) level.1

  all-rows : (levels : List Level) → joined (map (level_made F l) levels) ≡ Some (flat_map (level_totals w items l) levels)
  all-rows levels = ap joined (map-agree (level_made F l) (λ level. Some (level_totals w items l level)) levels level-rows) ∙ joined-lists (level_totals w items l) levels

-- ---- the grouping

module _ (x : Context) (root : Option ℕ) (ks : Keys) (items : List AggItem) (flat : are_flat_keys ks ≡ true) (folded : list_all is_folded items ≡ true) (l : List Instance) where
  abbrev w : World
  w = x.world

  abbrev c : Customs
  c = readings x.customs

  levels-are : levels_on w ks [] l ≡ map (level_on w l) (levels_of ks)
  levels-are = flat-by w (rollup_part (group_keys ks)) (plain_paths ks) l (flat-part ks flat)

  module _ (S S' : Shape) (R : StepRunsFrom x root S S' (grouped_step ks items) l) where
    rows-mean : has_beyond_key w (key_paths (group_keys ks)) l ≡ false → step_mean w c S (grouped_step ks items) l ≡ Some (group_totals w ks items l)
    rows-mean sure =
        levels-mean w c S ks (alone items) l [] (placed R) (all-shown w c ks flat) sure
        ∙ ap (λ ls. joined (map (level_made (mean w c S (alone items)) l) ls)) levels-are
        ∙ all-rows w c S items folded l (map (level_on w l) (levels_of ks))

    module _ (L : IsLoaded w) where
      runs-on : RunsFrom x root S (typed-apart x root S S' ks (alone items) l L R []).shape (alone items) l
      runs-on =
          let u = typed-apart x root S S' ks (alone items) l L R [] in
          record { runs = record { customs = R.runs.customs; lawful = R.runs.lawful; typed = u.runs.runs.typed; fit = R.runs.fit }; root_is = R.root_is }

      items-are : ItemsRun x root S items l
      items-are = let b = begun {P = alone items} {items = items} {rest = Pipe.End} refl runs-on in items-run x root S b.between items l L b.first

      all-foldable : (is : List AggItem) → list_all (λ i. is_some (item_column w.model c S i)) is ≡ true → All (IsFoldable w l) is
      all-foldable [] t = All-nil (IsFoldable w l)
      all-foldable (i ∷ is) t =
          let a = and_parts (is_some (item_column w.model c S i)) (list_all (λ i. is_some (item_column w.model c S i)) is) t in
          All-cons (IsFoldable w l) i is (one i a.0) (all-foldable is a.1)
        where
          one : (i : AggItem) → is_some (item_column w.model c S i) ≡ true → IsFoldable w l i
          one (AggItem.Standard e f a) h = item-foldable x root S e f a l L (record { root_is = R.root_is; typed = h; fit = R.runs.fit })
          one (AggItem.Count a) h = tt
          one (AggItem.Custom n a) h = tt

      apart-at : (level : List Path) (n : ℕ) → slice_get (levels_on w ks [] l) n ≡ Some (level_on w l level) → AreApart w items l (level_on w l level)
      apart-at level n at = λ k g found.
          let u = levels-run x root S S' ks (alone items) l [] L (placed R) R in
          let free = (u.1 n (level_on w l level) at).free k g (made_of w c S items (at_places l g.1) ∷ []) found (alone-mean w c S items (at_places l g.1)) in
          ap (λ cs. columns_differ (cs ++ keyed level g.0)) (sym (folded-is w c S items folded l (at_places l g.1) items folded))
          ∙ (and_parts (columns_differ (map (item_value w c S (at_places l g.1)) items ++ keyed level g.0)) true free).0

      all-apart : All (λ level. AreApart w items l (level_on w l level)) (levels_of ks)
      all-apart = All-from_get_or (λ level. AreApart w items l (level_on w l level)) (levels_of ks) [] (λ n h.
          apart-at (get_or (levels_of ks) n []) n
          (ap (λ ls. slice_get ls n) levels-are ∙ slice_get-map (level_on w l) (levels_of ks) n ∙ ap (option_map (level_on w l)) (slice_get-get_or (levels_of ks) n [] h)))

      -- the items can be folded on all instances, and the columns of each row differ
      groups-ready : GroupsReady w ks items l
      groups-ready = record { foldable = all-foldable items items-are.typed; apart = all-apart }

-- ---- the grouping without an inner pipeline

module _ (x : Context) (root : Option ℕ) (ks : Keys) (flat : are_flat_keys ks ≡ true) (l : List Instance) (S S' : Shape) (R : StepRunsFrom x root S S' (Step.GroupBy ks OptPipe.NoPipe) l) where
  on-levels : levels_on x.world ks [] l ≡ map (level_on x.world l) (levels_of ks)
  on-levels = levels-are x root ks [] flat refl l

  keys-mean : has_beyond_key x.world (key_paths (group_keys ks)) l ≡ false → step_mean x.world (readings x.customs) S (Step.GroupBy ks OptPipe.NoPipe) l ≡ Some (group_totals x.world ks [] l)
  keys-mean sure =
      levels-keys x.world (readings x.customs) S ks l [] (placed R) (all-shown x.world (readings x.customs) ks flat) sure
      ∙ ap (λ ls. Some (flat_map level_rows ls)) on-levels

  keys-at : (level : List Path) (n : ℕ) → slice_get (levels_on x.world ks [] l) n ≡ Some (level_on x.world l level) → AreApart x.world [] l (level_on x.world l level)
  keys-at level n at = λ k g found.
      let each : list_all (λ (g : List Value × List ℕ). columns_differ (keyed level g.0)) (level_on x.world l level).1 ≡ true =
      all-at (λ (level : Level). list_all (λ g. columns_differ (keyed level.0 g.0)) level.1) (levels_on x.world ks [] l) n (level_on x.world l level) (levels-differ x root S S' ks OptPipe.NoPipe l [] (placed R) R) at in
      all-at (λ (g : List Value × List ℕ). columns_differ (keyed level g.0)) (level_on x.world l level).1 k g each found

  keys-apart : All (λ level. AreApart x.world [] l (level_on x.world l level)) (levels_of ks)
  keys-apart = All-from_get_or (λ level. AreApart x.world [] l (level_on x.world l level)) (levels_of ks) [] (λ n h.
      keys-at (get_or (levels_of ks) n []) n
      (ap (λ ls. slice_get ls n) on-levels ∙ slice_get-map (level_on x.world l) (levels_of ks) n ∙ ap (option_map (level_on x.world l)) (slice_get-get_or (levels_of ks) n [] h)))

-- ---- both

module _ (x : Context) (root : Option ℕ) (ks : Keys) (items : List AggItem) (flat : are_flat_keys ks ≡ true) (folded : list_all is_folded items ≡ true) (l : List Instance) (s : Step) (S S' : Shape) (R : StepRunsFrom x root S S' s l) where
  total-mean : IsGroupedBy s ks items → has_beyond_key x.world (key_paths (group_keys ks)) l ≡ false → step_mean x.world (readings x.customs) S s l ≡ Some (group_totals x.world ks items l)
  total-mean (inl e) sure = step-mean-on x S e refl ∙ rows-mean x root ks items flat folded l S S' (step-runs-on e refl R) sure
  total-mean (inr h) sure = step-mean-on x S h.0 refl ∙ keys-mean x root ks flat l S S' (step-runs-on h.0 refl R) sure ∙ ap (λ is. Some (group_totals x.world ks is l)) (sym h.1)

  total-refused : IsGroupedBy s ks items → has_beyond_key x.world (key_paths (group_keys ks)) l ≡ true → step_mean x.world (readings x.customs) S s l ≡ None
  total-refused (inl e) t = step-mean-on x S e refl ∙ levels-refused x.world (readings x.customs) S ks (OptPipe.SomePipe (alone items)) l t
  total-refused (inr h) t = step-mean-on x S h.0 refl ∙ levels-refused x.world (readings x.customs) S ks OptPipe.NoPipe l t

  -- the rows of all groups are what the grouping means
  pub totals-give : IsGroupedBy s ks items → (r : result.Result (List Instance) Refused) → GivesGroupTotals r x.world ks items l → GivesFrame r (step_mean x.world (readings x.customs) S s l)
  totals-give B (Ok f) t = total-mean B t.1 ∙ ap Some (sym t.0)
  totals-give B (Err Range) t = total-refused B t
  totals-give B (Err Memory) t = tt

  -- the items can be folded on all instances, and the columns of each row differ
  pub totals-ready : IsGroupedBy s ks items → IsLoaded x.world → GroupsReady x.world ks items l
  totals-ready (inl e) L = groups-ready x root ks items flat folded l S S' (step-runs-on e refl R) L
  totals-ready (inr h) L =
      subst (λ is. GroupsReady x.world ks is l) (sym h.1) (record { foldable = All-nil (IsFoldable x.world l); apart = keys-apart x root ks flat l S S' (step-runs-on h.0 refl R) })

-- ---- what comes of it

-- a transformation costs no less than the rows that it gives
pub made-least : (w : World) (c : Customs) (S : Shape) (s : Step) (l r : List Instance) → step_mean w c S s l ≡ Some r → length r ≤ step_cost w c S s l
made-least w c S s l r m =
    let whole : step_cost w c S s l ≡ length r + inner_costs w c S s l = ap (λ o. result_length o + inner_costs w c S s l) m in
    omega (arith, whole)

-- a refusal of a frame is one of its rows
pub rows-refused : (e : Refused) (m : Outcome) → GivesFrame (Err e) m → Gives (Err e) m
rows-refused Range m h = h
rows-refused Memory m h = tt

pub found-refused : (e : Refused) (m : Outcome) → GivesFrame (Err e) m → GivesFound (Err e) m
found-refused Range m h = h
found-refused Memory m h = tt
