-- The frame of what is kept of the groups of a level, and those of all levels.
use Rattle.std.proofs.Common.{◌≡◌, ℕ, ◌<◌, false, sym, ◌∙◌, ap, subst, arith, List, Option, Some, None, Ok, Err, get_or, inl, length, map, IsTrue}
use Rattle.std.specs.Prelude.{nat_lt, option_map, slice_get}
use Rattle.std.specs.List.{list_all, zip}
use Rattle.std.proofs.lemmas.List.{length-map}
use Rattle.std.proofs.lemmas.Option.{get_or_from_slice_get, slice_get-get_or, slice_get-map}
use Rattle.std.specs.declared.result.Result as result
use Rattle.edm_values.specs.declared.Value.{Value}
use Rattle.edm_values.specs.declared.refusals.Refused.{Refused}
use Rattle.edm_values.specs.declared.refusals.Refused.TheVariants.{Range, Memory}
use Rattle.edm_values.specs.Lists.{at_places, places}
use Rattle.edm_values.specs.Names.{Path}
use Rattle.edm_data.specs.Worlds.{World}
use Rattle.apply_ast.specs.Trees.{Keys, Pipe}
use Rattle.context_typing.specs.Readings.{readings}
use Rattle.context_typing.specs.Shapes.{Shape}
use Rattle.context_typing.specs.Typing.{group_keys, key_paths}
use Rattle.apply_meaning.specs.Instances.{Instance}
use Rattle.apply_meaning.specs.Meaning.{Outcome, joined, level_paths, mean}
use Rattle.apply_meaning.specs.RowViews.{columns_differ}
use Rattle.group_rollup.specs.Groupings.{groups, has_beyond_key}
use Rattle.group_rollup.specs.NumberedBy.{AreNumberedBy, AreNumberedByEach}
use Rattle.numbered_groups.specs.Numbered.{Numbering}
use Rattle.row_frames.specs.Columned.{widened}
use Rattle.row_frames.specs.Frames.{GivesFrame}
use Rattle.row_frames.specs.Keys.{key_columns}
use Rattle.step_run.proofs.KeptRows.{made-differ, widened-differ, widened-rows}
use Rattle.step_run.specs.Conditions.{GroupRuns}
use Rattle.step_run.specs.Contexts.{Context}
use Rattle.step_run.specs.KeptGroups.{GivesKept, GivesLevelsMade, kept_rows}
use Rattle.step_run.specs.Levels.{AreKeys, LevelKeys, level_made, level_on, levels_of, part_of}
use Rattle.step_run.specs.declared.kept_groups.Kept.{Kept}

-- what is kept of a list, whose instances at the places are those of a frame
module _ (w : World) (ks : List Path) (l : List Instance) (kept : Kept) (even : length kept.places.items ≡ length kept.heads.items) (P : IsTrue (list_all (λ k. nat_lt k (length l)) kept.places.items)) (H : IsTrue (list_all (λ k. nat_lt k (length l)) kept.heads.items)) (own : List Instance) (columns : List (Path × List Value)) (o : own ≡ at_places l kept.places.items) (c : columns ≡ zip ks (key_columns w ks (at_places l kept.heads.items))) where
  -- the frame with the columns is what was kept
  pub frame-rows : (made : List Instance) → made ≡ map (widened columns own) (places (length own)) → made ≡ kept_rows w ks l kept
  frame-rows made m = m ∙ (λ i. map (widened (c i) (o i)) (places (length (o i)))) ∙ widened-rows w ks l kept even P H

  -- no instance has a column of a key
  pub frame-free : (x : Context) (root : Option ℕ) (S G : Shape) (T : Pipe) → x.world ≡ w → GroupRuns x root S G (level_on w l ks) T l
      → level_made (mean x.world (readings x.customs) S T) l (level_on w l ks) ≡ Some (kept_rows w ks l kept) → (k : ℕ) → k < length own → IsTrue (columns_differ (widened columns own k).columns)
  frame-free x root S G T same R m =
      subst (λ (u : List (Path × List Value) × List Instance). (k : ℕ) → k < length u.1 → IsTrue (columns_differ (widened u.0 u.1 k).columns)) (λ i. (sym c i, sym o i))
      (widened-differ w ks l kept even P H (made-differ ks (mean x.world (readings x.customs) S T) l (groups w ks l) (kept_rows w ks l kept) m R.free))

-- a refusal of what is kept is one of the frame
pub frame-err : (e : Refused) (w : World) (ks : List Path) (l : List Instance) (m : Outcome) → GivesKept (Err e) w ks l m → GivesFrame (Err e) m
frame-err Range w ks l m h = h
frame-err Memory w ks l m h = tt

pub level-err : (e : Refused) (m m' : Outcome) → GivesFrame (Err e) m → (m ≡ None → m' ≡ None) → GivesFrame (Err e) m'
level-err Range m m' h k = k h
level-err Memory m m' h k = tt

-- ---- levels

-- the next level
pub record NextLevel (w : World) (l : List Instance) (all : List (List Path)) (k : ℕ) (own : List Path) (n : Numbering) : Type 0 where
  pub at : slice_get (map (level_on w l) all) k ≡ Some (level_on w l own)
  pub within : k < length (map (level_on w l) all)
  pub here : level_on w l own ≡ get_or (map (level_on w l) all) k (level_on w l own)
  pub numbered : AreNumberedBy w own l n

pub next-level : (w : World) (l : List Instance) (all : List (List Path)) (ns : List Numbering) (k : ℕ) (own : List Path) (n : Numbering) → AreNumberedByEach w all l ns → k < length ns → n ≡ get_or ns k n → Some own ≡ slice_get all k → NextLevel w l all k own n
next-level w l all ns k own n N h e at =
    let counted = N.count in
    let size = length-map all (level_on w l) in
    let there = slice_get-map (level_on w l) all k ∙ ap (option_map (level_on w l)) (sym at) in
    record {
      at = there;
      within = omega (arith, h, counted, size);
      here = sym (get_or_from_slice_get (map (level_on w l) all) k (level_on w l own) (level_on w l own) there);
      numbered = N.each k own n (sym at) (slice_get-get_or ns k n h ∙ ap Some (sym e));
    }

-- ---- the keys of the program

-- the levels of the keys, taken apart
pub levels-apart : (ks : Keys) (k : LevelKeys) → AreKeys ks k → level_paths k.plain (part_of k.rollup) ≡ levels_of ks
levels-apart ks k K = λ i. level_paths (K.plain i) (K.rollup i)

-- what was made of all levels
pub made-gives : (r : result.Result (List Instance) Refused) (w : World) (ks : Keys) (f : List Instance → Outcome) (l : List Instance) → GivesFrame r (joined (map (level_made f l) (map (level_on w l) (levels_of ks)))) → has_beyond_key w (key_paths (group_keys ks)) l ≡ false → GivesLevelsMade r w ks f l
made-gives (Ok rows) w ks f l m sure = (m, sure)
made-gives (Err Range) w ks f l m sure = inl m
made-gives (Err Memory) w ks f l m sure = tt
