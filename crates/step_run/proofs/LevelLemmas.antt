-- Groupings level by level.
use Rattle.std.proofs.Common.{◌≡◌, ◌≤◌, ◌+◌, refl, sym, ◌∙◌, ap, subst, ℕ, zero, suc, Bool, true, false, IsTrue, Option, Some, None, List, [], ◌∷◌, ◌++◌, map, length, reverse, take, arith}
use Rattle.std.specs.Prelude.{filter, flat_map, sum, not, nat_le, nat_lt, slice_get, option_map, option_and_then, ◌||◌, if◌then◌else◌, ⊤}
use Rattle.std.specs.List.{list_all, list_any, range_with_len}
use Rattle.std.proofs.Math.Seq.{take-append-add, take-append_seam}
use Rattle.std.proofs.lemmas.Bool.{and_parts, and_from, not-true, not_from_false, or_from, or_parts}
use Rattle.std.proofs.lemmas.Bool.Decides.{nat_tests}
use Rattle.std.proofs.lemmas.List.{append-nil}
use Rattle.std.proofs.lemmas.List.Concat.{flat_map_single}
use Rattle.std.proofs.lemmas.List.Folds.{flat_map-map}
use Rattle.std.proofs.lemmas.Simd.{map-map}
use Rattle.edm_values.proofs.EachLemmas.{Each, each-append, each-map, map-agree}
use Rattle.edm_values.proofs.ListFacts.{all-each}
use Rattle.edm_values.proofs.OptionFacts.{and_7, chained, if_else-parts, some_value, then_some-parts}
use Rattle.edm_values.specs.declared.Value.{Value}
use Rattle.edm_values.specs.Lists.{all_some, are_distinct, at_places, is_nonempty}
use Rattle.edm_values.specs.Names.{Path}
use Rattle.edm_model.specs.LookUps.{HierarchyPlace}
use Rattle.edm_model.specs.Models.{Model}
use Rattle.edm_data.specs.Worlds.{World}
use Rattle.apply_ast.specs.Trees.{Keys, OptPipe, Pipe, Step, is_long}
use Rattle.context_typing.proofs.TypingEquations.{inner_shape-SomePipe, step_shape-GroupBy}
use Rattle.context_typing.specs.Paths.{same_path}
use Rattle.context_typing.specs.Readings.{readings}
use Rattle.context_typing.specs.Shapes.{Shape}
use Rattle.context_typing.specs.Typing.{Customs, RollupPart, all_prefixes, group_keys, grouped_shape, hierarchy_at, inner_shape, is_nodes, key_paths, keys_typed, no_shape, plain_paths, rollup_part, rollup_parts, rollup_paths, steps_shape, step_shape}
use Rattle.apply_meaning.proofs.FitLemmas.{fit-parts}
use Rattle.apply_meaning.proofs.GroupFit.{grouped-apart}
use Rattle.apply_meaning.proofs.MeaningEquations.{inner_mean-NoPipe, inner_mean-SomePipe, step_mean-GroupBy}
use Rattle.apply_meaning.proofs.MeaningProved.{loaded-mean_fits}
use Rattle.apply_meaning.proofs.MeanLemmas.{fit-at_places}
use Rattle.apply_meaning.specs.Instances.{Instance, extended, fits, no_instance}
use Rattle.apply_meaning.specs.Meaning.{Outcome, at_or_below, group, grouped, grouping_mean, groups_by, inner_mean, joined, keyed, keys, keys_shown, level_paths, mean, node_groups, step_mean}
use Rattle.apply_meaning.specs.MeaningLaws.{IsLoaded}
use Rattle.apply_meaning.specs.RowViews.{columns_differ}
use Rattle.group_rollup.proofs.GroupLemmas.{group-at_places, group-places_within}
use Rattle.group_rollup.specs.Groupings.{has_beyond_key, places_in}
use Rattle.step_run.proofs.CostEquations.{given_applications-SomePipe, inner_costs-GroupBy}
use Rattle.step_run.proofs.KeysApart.{keyed-columns, keyed-differ}
use Rattle.step_run.proofs.NodeLevels.{nodes-lists, nodes-made, nodes-within}
use Rattle.step_run.specs.Conditions.{KeysReady, LevelsRun, RunsFrom, StepRunsFrom}
use Rattle.step_run.specs.Contexts.{Context}
use Rattle.step_run.specs.Costs.{application, cost, given_applications, group_lists, groups, keys_cost, result_length, step_cost}
use Rattle.step_run.specs.Levels.{Level, group_made, group_row, level_lists, level_made, level_on, level_rows, levels_by, levels_on, node_levels}

-- ---- the meaning

-- the hierarchy of a recursive rollup is in the model
abbrev pub IsPlaced : World → RollupPart → Type 0
IsPlaced w (RollupPart.Nodes h p) = (f : HierarchyPlace) × (hierarchy_at w.model h ≡ Some f)
IsPlaced w part = ⊤

-- what is made of the groups by these paths is what is made of their level
level-is : (w : World) (F : List Instance → Outcome) (l : List Instance) (ks : List Path) → grouped w ks F l ≡ level_made F l (level_on w l ks)
level-is w F l ks =
    ap joined (map-agree (λ k. option_map (map (λ r. extended r (keyed ks k))) (F (group w ks k l))) (λ k. group_made ks F l (k, places_in w ks k l)) (keys w ks l)
    (λ k. ap (λ g. option_map (map (λ r. extended r (keyed ks k))) (F g)) (sym (group-at_places w ks k l)))
    ∙ sym (map-map (group_made ks F l) (λ k. (k, places_in w ks k l)) (keys w ks l)))

flat-made : (w : World) (F : List Instance → Outcome) (l : List Instance) (levels : List (List Path)) → joined (map (λ level. grouped w level F l) levels) ≡ joined (map (level_made F l) (map (level_on w l) levels))
flat-made w F l levels =
    ap joined (map-agree (λ level. grouped w level F l) (λ level. level_made F l (level_on w l level)) levels (level-is w F l) ∙ sym (map-map (level_made F l) (level_on w l) levels))

-- what a grouping makes of a list is what it makes of the groups of each level
by-levels : (w : World) (part : RollupPart) (plain : List Path) (shown : List ℕ) (F : List Instance → Outcome) (l : List Instance) → IsPlaced w part
    → groups_by w part plain shown F l ≡ joined (map (level_made F l) (levels_by w part plain shown l))
by-levels w RollupPart.NoRollup plain shown F l h = flat-made w F l (level_paths plain RollupPart.NoRollup)
by-levels w (RollupPart.Levels all ps) plain shown F l h = flat-made w F l (level_paths plain (RollupPart.Levels all ps))
by-levels w (RollupPart.Nodes x p) plain shown F l h =
    ap (λ o. node_groups w o plain p shown F l) h.1
    ∙ sym (nodes-made w h.0 plain p l F shown)
    ∙ ap (λ o. joined (map (level_made F l) (elim o [ None ↦ [] | Some f ↦ node_levels w f plain p shown l ]))) (sym h.1)

-- what a grouping makes of the groups of each level
abbrev from_levels : World → Keys → List ℕ → (List Instance → Outcome) → List Instance → Outcome
from_levels w ks shown f l = joined (map (level_made f l) (levels_on w ks shown l))

-- a grouping is what it makes of the groups of each level, and none where a key is Beyond
grouping : (w : World) (c : Customs) (S : Shape) (ks : Keys) (T : OptPipe) (l : List Instance) (shown : List ℕ) (b : Bool) → IsPlaced w (rollup_part (group_keys ks)) → keys_shown w c ks ≡ Some shown → has_beyond_key w (key_paths (group_keys ks)) l ≡ b
    → step_mean w c S (Step.GroupBy ks T) l ≡ (if b then None else from_levels w ks shown (inner_mean w c S (λ g. Some (no_instance ∷ [])) T) l)
grouping w c S ks T l shown b placed are sure =
    let f : List Instance → Outcome = inner_mean w c S (λ g. Some (no_instance ∷ [])) T in
    step_mean-GroupBy w c S ks T l
    ∙ ap (option_and_then (λ shown. grouping_mean w (group_keys ks) shown f l)) are
    ∙ ap (λ b. if b then None else groups_by w (rollup_part (group_keys ks)) (plain_paths ks) shown f l) sure
    ∙ ap (λ o. if b then None else o) (by-levels w (rollup_part (group_keys ks)) (plain_paths ks) shown f l placed)

-- a grouping with an inner pipeline is what this makes of the groups of each level
pub levels-mean : (w : World) (c : Customs) (S : Shape) (ks : Keys) (T : Pipe) (l : List Instance) (shown : List ℕ) → IsPlaced w (rollup_part (group_keys ks)) → keys_shown w c ks ≡ Some shown → has_beyond_key w (key_paths (group_keys ks)) l ≡ false
    → step_mean w c S (Step.GroupBy ks (OptPipe.SomePipe T)) l ≡ joined (map (level_made (mean w c S T) l) (levels_on w ks shown l))
levels-mean w c S ks T l shown placed are sure =
    grouping w c S ks (OptPipe.SomePipe T) l shown false placed are sure
    ∙ (λ i. from_levels w ks shown (λ l'. inner_mean-SomePipe w c S (λ g. Some (no_instance ∷ [])) T l' i) l)

-- lists that are all there, one after the other
all-made : {X Y : Type 0} (f : X → Y) (xs : List X) → all_some (map (λ x. Some (f x)) xs) ≡ Some (map f xs)
all-made f [] = refl
all-made f (x ∷ xs) = ap (option_map (λ ys. f x ∷ ys)) (all-made f xs)

joined-made : {X : Type 0} (f : X → List Instance) (xs : List X) → joined (map (λ x. Some (f x)) xs) ≡ Some (flat_map f xs)
joined-made f xs = ap (option_map (λ ls. flat_map (λ l. l) ls)) (all-made f xs) ∙ ap Some (flat_map-map (λ l. l) f xs)

-- a key without a pipeline makes one instance of each group
level-made : (l : List Instance) (level : Level) → level_made (λ g. Some (no_instance ∷ [])) l level ≡ Some (level_rows level)
level-made l level = joined-made (λ g. group_row level.0 g ∷ []) level.1 ∙ ap Some (flat_map_single (group_row level.0) level.1)

-- without one it has an instance for each group of each level
pub levels-keys : (w : World) (c : Customs) (S : Shape) (ks : Keys) (l : List Instance) (shown : List ℕ) → IsPlaced w (rollup_part (group_keys ks)) → keys_shown w c ks ≡ Some shown → has_beyond_key w (key_paths (group_keys ks)) l ≡ false
    → step_mean w c S (Step.GroupBy ks OptPipe.NoPipe) l ≡ Some (flat_map level_rows (levels_on w ks shown l))
levels-keys w c S ks l shown placed are sure =
    grouping w c S ks OptPipe.NoPipe l shown false placed are sure
    ∙ (λ i. from_levels w ks shown (λ l'. inner_mean-NoPipe w c S (λ g. Some (no_instance ∷ [])) l' i) l)
    ∙ ap joined (map-agree (level_made (λ g. Some (no_instance ∷ [])) l) (λ level. Some (level_rows level)) (levels_on w ks shown l) (level-made l))
    ∙ joined-made level_rows (levels_on w ks shown l)

-- it is refused where the nodes that it shows are
pub shown-refused : (w : World) (c : Customs) (S : Shape) (ks : Keys) (T : OptPipe) (l : List Instance) → keys_shown w c ks ≡ None → step_mean w c S (Step.GroupBy ks T) l ≡ None
shown-refused w c S ks T l none =
    step_mean-GroupBy w c S ks T l ∙ ap (option_and_then (λ shown. grouping_mean w (group_keys ks) shown (inner_mean w c S (λ g. Some (no_instance ∷ [])) T) l)) none

abbrev refused : Outcome
refused = None

none-anyway : (o : Option (List ℕ)) → option_and_then (λ shown. refused) o ≡ None
none-anyway None = refl
none-anyway (Some shown) = refl

-- and where a key is Beyond
pub levels-refused : (w : World) (c : Customs) (S : Shape) (ks : Keys) (T : OptPipe) (l : List Instance) → has_beyond_key w (key_paths (group_keys ks)) l ≡ true → step_mean w c S (Step.GroupBy ks T) l ≡ None
levels-refused w c S ks T l beyond =
    let f : List Instance → Outcome = inner_mean w c S (λ g. Some (no_instance ∷ [])) T in
    step_mean-GroupBy w c S ks T l
    ∙ (λ i. option_and_then (λ shown. if beyond i then None else groups_by w (rollup_part (group_keys ks)) (plain_paths ks) shown f l) (keys_shown w c ks))
    ∙ none-anyway (keys_shown w c ks)

-- ---- the cost

-- the lists of a level are the groups by its paths
level-lists : (w : World) (l : List Instance) (ks : List Path) → level_lists l (level_on w l ks) ≡ groups w ks l
level-lists w l ks =
    map-map (λ (g : List Value × List ℕ). at_places l g.1) (λ k. (k, places_in w ks k l)) (keys w ks l)
    ∙ map-agree (λ k. at_places l (places_in w ks k l)) (λ k. group w ks k l) (keys w ks l) (λ k. group-at_places w ks k l)

flat-lists : (w : World) (l : List Instance) (levels : List (List Path)) → flat_map (level_lists l) (map (level_on w l) levels) ≡ flat_map (λ level. groups w level l) levels
flat-lists w l [] = refl
flat-lists w l (level ∷ levels) = λ i. level-lists w l level i ++ flat-lists w l levels i

-- the lists of all levels are those of the grouping
lists-of : (w : World) (plain : List Path) (parts : List RollupPart) (shown : List ℕ) (l : List Instance) → IsPlaced w (rollup_part (record { plain = plain; parts = parts }))
    → flat_map (level_lists l) (levels_by w (rollup_part (record { plain = plain; parts = parts })) plain shown l) ≡ group_lists w (record { plain = plain; parts = parts }) shown l
lists-of w plain [] shown l h = flat-lists w l (level_paths plain RollupPart.NoRollup)
lists-of w plain (RollupPart.NoRollup ∷ xs) shown l h = flat-lists w l (level_paths plain RollupPart.NoRollup)
lists-of w plain (RollupPart.Levels all ps ∷ xs) shown l h = flat-lists w l (level_paths plain (RollupPart.Levels all ps))
lists-of w plain (RollupPart.Nodes x p ∷ xs) shown l h =
    ap (λ o. flat_map (level_lists l) (elim o [ None ↦ [] | Some f ↦ node_levels w f plain p shown l ])) h.1
    ∙ nodes-lists w h.0 plain p l shown
    ∙ ap (λ o. elim o [ None ↦ [] | Some t ↦ flat_map (λ x. groups w plain (filter (at_or_below w t p x) l)) shown ]) (sym h.1)

-- a grouping costs no less than its keys and the applications of its inner pipeline to the groups of each level
pub levels-cost : (w : World) (c : Customs) (S : Shape) (ks : Keys) (T : Pipe) (l : List Instance) (shown : List ℕ) → IsPlaced w (rollup_part (group_keys ks)) → keys_shown w c ks ≡ Some shown
    → keys_cost w c ks + sum (map (application (cost w c S T) (mean w c S T)) (flat_map (level_lists l) (levels_on w ks shown l))) ≤ step_cost w c S (Step.GroupBy ks (OptPipe.SomePipe T)) l
levels-cost w c S ks T l shown placed are =
    let whole = inner_costs-GroupBy w c S ks (OptPipe.SomePipe T) l in
    let inner : elim (keys_shown w c ks) [ None ↦ 0 | Some shown ↦ given_applications w c S (OptPipe.SomePipe T) (group_lists w (group_keys ks) shown l) ]
    ≡ sum (map (application (cost w c S T) (mean w c S T)) (flat_map (level_lists l) (levels_on w ks shown l))) =
    ap (λ o. elim o [ None ↦ 0 | Some shown ↦ given_applications w c S (OptPipe.SomePipe T) (group_lists w (group_keys ks) shown l) ]) are
    ∙ ap (given_applications w c S (OptPipe.SomePipe T)) (sym (lists-of w (plain_paths ks) (rollup_parts ks) shown l placed))
    ∙ given_applications-SomePipe w c S T (flat_map (level_lists l) (levels_on w ks shown l)) in
    omega (arith, whole, inner)

-- without one it costs no less than its keys and its instances
pub levels-keys_cost : (w : World) (c : Customs) (S : Shape) (ks : Keys) (l : List Instance) (shown : List ℕ) → IsPlaced w (rollup_part (group_keys ks)) → keys_shown w c ks ≡ Some shown → has_beyond_key w (key_paths (group_keys ks)) l ≡ false
    → keys_cost w c ks + length (flat_map level_rows (levels_on w ks shown l)) ≤ step_cost w c S (Step.GroupBy ks OptPipe.NoPipe) l
levels-keys_cost w c S ks l shown placed are sure =
    let made : result_length (step_mean w c S (Step.GroupBy ks OptPipe.NoPipe) l) ≡ length (flat_map level_rows (levels_on w ks shown l)) =
    ap result_length (levels-keys w c S ks l shown placed are sure) in
    let whole = inner_costs-GroupBy w c S ks OptPipe.NoPipe l in
    omega (arith, made, whole)

-- whatever comes of it, it costs no less than its keys
pub keys-least : (w : World) (c : Customs) (S : Shape) (ks : Keys) (T : OptPipe) (l : List Instance) → keys_cost w c ks ≤ step_cost w c S (Step.GroupBy ks T) l
keys-least w c S ks T l = let whole = inner_costs-GroupBy w c S ks T l in omega (arith, whole)

-- ---- what is typed as a grouping

-- the path lists of its keys, and what each group becomes
record Grouping (m : Model) (c : Customs) (S : Shape) (ks : Keys) (T : OptPipe) : Type 0 where
  each : Shape
  inner : inner_shape m c S no_shape T ≡ Some each
  differ : are_distinct same_path (key_paths (group_keys ks)) ≡ true
  keys : keys_typed m c S ks ≡ true
  few : length (rollup_parts ks) ≤ 1
  apart : list_all (λ p. not (list_any (same_path p) (key_paths (group_keys ks)))) (map (λ c. c.path) each.columns) ≡ true

grouping-parts : (m : Model) (c : Customs) (S S' : Shape) (ks : Keys) (T : OptPipe) → step_shape m c S (Step.GroupBy ks T) ≡ Some S' → Grouping m c S ks T
grouping-parts m c S S' ks T e =
    let g = group_keys ks in
    let t = if_else-parts (keys_typed m c S ks) (option_and_then (grouped_shape m S g) (inner_shape m c S no_shape T)) S' (sym (step_shape-GroupBy m c S ks T) ∙ e) in
    let G = chained (grouped_shape m S g) (inner_shape m c S no_shape T) S' t.1 in
    let u = then_some-parts _ _ S' G.2 in
    let v = and_7 (is_nonempty (key_paths g)) (nat_le (length (rollup_parts ks)) 1) _ _ _ _ (not (is_nodes (rollup_part g)) || not (is_nonempty (all_prefixes G.0))) u.0 in
    let one = v.1 in
    record { each = G.0; inner = G.1; differ = v.3; keys = t.0; few = grind (arith, nat_tests, one); apart = grouped-apart (key_paths g) (G.0).columns v.4 }

-- its keys are typed
pub keys-ready : (x : Context) (root : Option ℕ) (S S' : Shape) (ks : Keys) (T : OptPipe) (l : List Instance) → StepRunsFrom x root S S' (Step.GroupBy ks T) l → KeysReady x ks
keys-ready x root S S' ks T l R =
    let G = grouping-parts x.world.model (readings x.customs) S S' ks T R.runs.typed in
    record { shape = S; customs = R.runs.customs; typed = G.keys; few = G.few }

-- ---- the levels: their paths are the first of all key paths, and their groups are of the list

abbrev IsFront : List Path → List Path → Type 0
IsFront paths level = (j : ℕ) × (level ≡ take j paths)

each-made : {X Y : Type 0} (P : Y → Type 0) (f : X → Y) → ((x : X) → P (f x)) → (xs : List X) → Each P (map f xs)
each-made P f h [] = tt
each-made P f h (x ∷ xs) = (h x, each-made P f h xs)

pub each-got : {X : Type 0} (P : X → Type 0) (xs : List X) (n : ℕ) (x : X) → Each P xs → slice_get xs n ≡ Some x → P x
each-got P [] n x a e = cc
each-got P (y ∷ ys) zero x a e = subst P (some_value e) a.0
each-got P (y ∷ ys) (suc n) x a e = each-got P ys n x a.1 e

fronts : (plain : List Path) (part : RollupPart) → Each (IsFront (plain ++ rollup_paths part)) (level_paths plain part)
fronts plain RollupPart.NoRollup = ((length plain, sym (take-append_seam plain [])), tt)
fronts plain (RollupPart.Nodes x p) = ((length plain, sym (take-append_seam plain (p ∷ []))), tt)
fronts plain (RollupPart.Levels all ps) =
    each-append (IsFront (plain ++ ps)) (map (λ j. plain ++ take j ps) (reverse (range_with_len 1 (length ps)))) (if all then plain ∷ [] else [])
    (each-made (IsFront (plain ++ ps)) (λ j. plain ++ take j ps) (λ j. (length plain + j, sym (take-append-add plain ps j))) (reverse (range_with_len 1 (length ps))))
    (coarsest all)
  where
    coarsest : (b : Bool) → Each (IsFront (plain ++ ps)) (if b then plain ∷ [] else [])
    coarsest true = ((length plain, sym (take-append_seam plain ps)), tt)
    coarsest false = tt

none-front : (q : Path → Bool) (j : ℕ) (ps : List Path) → list_any q ps ≡ false → list_any q (take j ps) ≡ false
none-front q zero ps h = refl
none-front q (suc j) [] h = refl
none-front q (suc j) (p ∷ ps) h = let t = or_parts (q p) _ h in or_from _ _ t.0 (none-front q j ps t.1)

distinct-front : (j : ℕ) (ps : List Path) → are_distinct same_path ps ≡ true → are_distinct same_path (take j ps) ≡ true
distinct-front zero ps h = refl
distinct-front (suc j) [] h = refl
distinct-front (suc j) (p ∷ ps) h =
    let t = and_parts (not (list_any (same_path p) ps)) _ h in
    and_from _ _ (not_from_false _ (none-front (same_path p) j ps (not-true _ t.0))) (distinct-front j ps t.1)

-- the paths of a level differ where all do
level-distinct : (paths level : List Path) → IsFront paths level → are_distinct same_path paths ≡ true → are_distinct same_path level ≡ true
level-distinct paths level f h = subst (λ ps. are_distinct same_path ps ≡ true) (sym f.1) (distinct-front f.0 paths h)

-- and are apart from others where all are
level-apart : (paths level others : List Path) → IsFront paths level → list_all (λ p. not (list_any (same_path p) paths)) others ≡ true → list_all (λ p. not (list_any (same_path p) level)) others ≡ true
level-apart paths level others f h =
    subst (λ ps. list_all (λ p. not (list_any (same_path p) ps)) others ≡ true) (sym f.1)
    (all-each (λ p. not (list_any (same_path p) paths)) (λ p. not (list_any (same_path p) (take f.0 paths))) others h (λ p a. not_from_false _ (none-front (same_path p) f.0 paths (not-true _ a))))

-- the paths of a level are the first of these, and its groups are of the list
abbrev IsLevelOf : List Path → List Instance → Level → Type 0
IsLevelOf paths l level = IsFront paths level.0 × Each (λ g. IsTrue (list_all (λ k. nat_lt k (length l)) g.1)) level.1

each-of : {X : Type 0} (P : X → Type 0) → ((x : X) → P x) → (xs : List X) → Each P xs
each-of P h [] = tt
each-of P h (x ∷ xs) = (h x, each-of P h xs)

each-weaker : {X : Type 0} (P Q : X → Type 0) → ((x : X) → P x → Q x) → (xs : List X) → Each P xs → Each Q xs
each-weaker P Q h [] e = tt
each-weaker P Q h (x ∷ xs) e = (h x e.0, each-weaker P Q h xs e.1)

on-within : (w : World) (l : List Instance) (level : List Path) → Each (λ g. IsTrue (list_all (λ k. nat_lt k (length l)) g.1)) (level_on w l level).1
on-within w l level = each-made (λ g. IsTrue (list_all (λ k. nat_lt k (length l)) g.1)) (λ k. (k, places_in w level k l)) (λ k. group-places_within w level k l) (keys w level l)

flat-levels : (w : World) (l : List Instance) (paths : List Path) (levels : List (List Path)) → Each (IsFront paths) levels → Each (IsLevelOf paths l) (map (level_on w l) levels)
flat-levels w l paths levels e = each-map (IsLevelOf paths l) (IsFront paths) (level_on w l) (λ level f. (f, on-within w l level)) levels e

levels-each : (w : World) (part : RollupPart) (plain : List Path) (shown : List ℕ) (l : List Instance) → IsPlaced w part → Each (IsLevelOf (plain ++ rollup_paths part) l) (levels_by w part plain shown l)
levels-each w RollupPart.NoRollup plain shown l h = flat-levels w l (plain ++ []) (level_paths plain RollupPart.NoRollup) (fronts plain RollupPart.NoRollup)
levels-each w (RollupPart.Levels all ps) plain shown l h = flat-levels w l (plain ++ ps) (level_paths plain (RollupPart.Levels all ps)) (fronts plain (RollupPart.Levels all ps))
levels-each w (RollupPart.Nodes x p) plain shown l h =
    subst (λ o. Each (IsLevelOf (plain ++ p ∷ []) l) (elim o [ None ↦ [] | Some f ↦ node_levels w f plain p shown l ])) (sym h.1)
    (each-weaker _ (IsLevelOf (plain ++ p ∷ []) l) (λ level e. ((length (plain ++ p ∷ []), e.0 ∙ whole (plain ++ p ∷ [])), e.1)) (node_levels w h.0 plain p shown l) (nodes-within w h.0 plain p l shown))
  where
    whole : (ps : List Path) → ps ≡ take (length ps) ps
    whole ps = sym (take-append_seam ps []) ∙ ap (take (length ps)) (append-nil ps)

-- the columns of the keys of each level differ
all-from : {X : Type 0} (q : X → Bool) (xs : List X) → Each (λ x. q x ≡ true) xs → list_all q xs ≡ true
all-from q [] e = refl
all-from q (x ∷ xs) e = and_from _ _ e.0 (all-from q xs e.1)

pub levels-differ : (x : Context) (root : Option ℕ) (S S' : Shape) (ks : Keys) (T : OptPipe) (l : List Instance) (shown : List ℕ) → IsPlaced x.world (rollup_part (group_keys ks)) → StepRunsFrom x root S S' (Step.GroupBy ks T) l
    → list_all (λ level. list_all (λ g. columns_differ (keyed level.0 g.0)) level.1) (levels_on x.world ks shown l) ≡ true
levels-differ x root S S' ks T l shown placed R =
    let paths = key_paths (group_keys ks) in
    let differ = (grouping-parts x.world.model (readings x.customs) S S' ks T R.runs.typed).differ in
    all-from (λ (level : Level). list_all (λ g. columns_differ (keyed level.0 g.0)) level.1) (levels_on x.world ks shown l)
    (each-weaker (IsLevelOf paths l) (λ (level : Level). list_all (λ g. columns_differ (keyed level.0 g.0)) level.1 ≡ true)
    (λ level e. all-from (λ (g : List Value × List ℕ). columns_differ (keyed level.0 g.0)) level.1 (each-of _ (λ g. keyed-differ level.0 g.0 (level-distinct paths level.0 e.0 differ)) level.1))
    (levels_on x.world ks shown l) (levels-each x.world (rollup_part (group_keys ks)) (plain_paths ks) shown l placed))

-- its inner pipeline runs on the groups of each level, and what it makes of one has no column of a key
pub levels-run : (x : Context) (root : Option ℕ) (S S' : Shape) (ks : Keys) (T : Pipe) (l : List Instance) (shown : List ℕ) → IsLoaded x.world → IsPlaced x.world (rollup_part (group_keys ks))
    → StepRunsFrom x root S S' (Step.GroupBy ks (OptPipe.SomePipe T)) l → (G : Shape) × LevelsRun x root S G (levels_on x.world ks shown l) T l
levels-run x root S S' ks T l shown L placed R =
    let w = x.world in
    let c = readings x.customs in
    let G = grouping-parts w.model c S S' ks (OptPipe.SomePipe T) R.runs.typed in
    let paths = key_paths (group_keys ks) in
    let long = if_else-parts (is_long T) (steps_shape w.model c S T) G.each (sym (inner_shape-SomePipe w.model c S no_shape T) ∙ G.inner) in
    let inner : RunsFrom x root S G.each T l = record { runs = record { customs = R.runs.customs; lawful = R.runs.lawful; typed = long.1; fit = R.runs.fit }; root_is = R.root_is } in
    let fit : (ks : List ℕ) (r : List Instance) → mean w c S T (at_places l ks) ≡ Some r → list_all (fits w G.each) r ≡ true =
    λ ks r m. loaded-mean_fits w c S G.each T (at_places l ks) r L R.runs.customs R.runs.lawful (long.0, long.1) (fit-at_places w S l ks R.runs.fit) m in
    let each = levels-each w (rollup_part (group_keys ks)) (plain_paths ks) shown l placed in (
      G.each,
      λ n level at.
          let own = each-got (IsLevelOf paths l) (levels_on w ks shown l) n level each at in
          let distinct = level-distinct paths level.0 own.0 G.differ in
          let apart = level-apart paths level.0 (map (λ c. c.path) G.each.columns) own.0 G.apart in
          record {
            inner = inner;
            within = λ m g e. each-got (λ (g : List Value × List ℕ). IsTrue (list_all (λ k. nat_lt k (length l)) g.1)) level.1 m g own.1 e;
            free = λ m g r e made. all-each (fits w G.each) (λ i. columns_differ (extended i (keyed level.0 g.0)).columns) r (fit g.1 r made) (λ i h. keyed-columns w G.each i level.0 g.0 (fit-parts w G.each i h) distinct apart);
          },
    )

-- the same on some of the instances: the inner pipeline runs on them, and an instance that it makes alone has no column of a key
pub record TypedApart (x : Context) (root : Option ℕ) (S : Shape) (ks : Keys) (T : Pipe) (l : List Instance) : Type 0 where
  pub shape : Shape
  pub runs : RunsFrom x root S shape T l
  pub apart : (i : Instance) (vs : List Value) → mean x.world (readings x.customs) S T l ≡ Some (i ∷ []) → columns_differ (extended i (keyed (key_paths (group_keys ks)) vs)).columns ≡ true

pub typed-apart : (x : Context) (root : Option ℕ) (S S' : Shape) (ks : Keys) (T : Pipe) (l : List Instance) → IsLoaded x.world → StepRunsFrom x root S S' (Step.GroupBy ks (OptPipe.SomePipe T)) l → (js : List ℕ) → TypedApart x root S ks T (at_places l js)
typed-apart x root S S' ks T l L R js =
    let w = x.world in
    let c = readings x.customs in
    let G = grouping-parts w.model c S S' ks (OptPipe.SomePipe T) R.runs.typed in
    let long = if_else-parts (is_long T) (steps_shape w.model c S T) G.each (sym (inner_shape-SomePipe w.model c S no_shape T) ∙ G.inner) in
    let fit = fit-at_places w S l js R.runs.fit in
    record {
      shape = G.each;
      runs = record { runs = record { customs = R.runs.customs; lawful = R.runs.lawful; typed = long.1; fit = fit }; root_is = R.root_is };
      apart = λ i vs m.
          let own = loaded-mean_fits w c S G.each T (at_places l js) (i ∷ []) L R.runs.customs R.runs.lawful (long.0, long.1) fit m in
          keyed-columns w G.each i (key_paths (group_keys ks)) vs (fit-parts w G.each i (and_parts (fits w G.each i) true own).0) G.differ G.apart;
    }
