-- The rows of groups that are told by numbers.
use Rattle.std.proofs.Common.{◌≡◌, ℕ, zero, suc, ◌+◌, ◌<◌, add-one, true, refl, sym, take, ◌∙◌, ap, arith, Some, List, [], ◌∷◌, ◌++◌, map, get_or, length, IsTrue, subst}
use Rattle.std.specs.Prelude.{All, flat_map, nat_eq, nat_lt, pos, slice_get}
use Rattle.std.specs.List.{cons_option, list_all, zip}
use Rattle.std.proofs.lemmas.Bool.{and_parts, ltb-true, true≢false}
use Rattle.std.proofs.lemmas.List.{get_or-map, length-map, map-append}
use Rattle.std.proofs.lemmas.List.Elements.{All-get_or}
use Rattle.std.proofs.lemmas.List.Folds.{flat_map-map}
use Rattle.std.proofs.lemmas.Option.{get_or_from_slice_get, slice_get-get_or}
use Rattle.std.proofs.lemmas.Simd.{map-map}
use Rattle.edm_values.specs.declared.Value.{Value}
use Rattle.edm_values.specs.Lists.{at_places, places}
use Rattle.edm_values.specs.Names.{Path}
use Rattle.edm_values.proofs.EachLemmas.{map-agree}
use Rattle.edm_values.proofs.ListFacts.{all-at, all-filter_map}
use Rattle.edm_values.proofs.PlaceFacts.{map-agree_places}
use Rattle.edm_values.proofs.TopPlaces.{element-there}
use Rattle.edm_data.specs.Worlds.{World}
use Rattle.apply_ast.specs.Trees.{AggItem, Keys}
use Rattle.context_typing.specs.Typing.{group_keys, plain_paths, rollup_part}
use Rattle.apply_meaning.specs.Aggregates.{aggregate}
use Rattle.apply_meaning.specs.Instances.{Instance, lookup, no_instance, val}
use Rattle.apply_meaning.specs.Meaning.{key_list, keyed, level_paths, values}
use Rattle.apply_meaning.specs.RowViews.{columns_differ, is_of}
use Rattle.apply_meaning.specs.Running.{all_of}
use Rattle.par_stages.proofs.Passing.{passing-below}
use Rattle.group_rollup.proofs.GroupLemmas.{groups-of_rows}
use Rattle.group_rollup.specs.Groupings.{groups}
use Rattle.group_rollup.specs.NumberedBy.{AreNumberedBy, AreNumberedByEach}
use Rattle.numbered_groups.specs.Numbered.{Numbering, numbered_group, places_with}
use Rattle.row_frames.specs.Columned.{row_across}
use Rattle.row_frames.specs.Keys.{key_at, key_column, key_columns}
use Rattle.step_run.proofs.ItemLists.{map-at_places}
use Rattle.step_run.proofs.ListedColumns.{at-place, below-all, length-made}
use Rattle.step_run.specs.GroupTotals.{AreApart, folded_column, folded_value, group_total, group_totals, is_folded, listed_column, item_name, level_totals, values_by}
use Rattle.step_run.specs.Levels.{AreKeys, LevelKeys, level_on, levels_of, part_of}

-- ---- the elements at places

pub length-placed : {X : Type 0} (l : List X) (ks : List ℕ) → list_all (λ k. nat_lt k (length l)) ks ≡ true → length (at_places l ks) ≡ length ks
length-placed l [] h = refl
length-placed l (k ∷ ks) h =
    let a = and_parts (nat_lt k (length l)) (list_all (λ k. nat_lt k (length l)) ks) h in
    let t = element-there l k (ltb-true k (length l) a.0) in
    ap (λ o. length (cons_option o (at_places l ks))) t.1 ∙ ap suc (length-placed l ks a.1)

pub placed-at : {X : Type 0} (l : List X) (ks : List ℕ) (n : ℕ) (d : X) → list_all (λ k. nat_lt k (length l)) ks ≡ true → n < length ks → get_or (at_places l ks) n d ≡ get_or l (get_or ks n 0) d
placed-at l [] n d a h = absurd (omega arith)
placed-at l (k ∷ ks) zero d a h =
    let b = and_parts (nat_lt k (length l)) (list_all (λ k. nat_lt k (length l)) ks) a in
    ap (λ o. get_or (cons_option o (at_places l ks)) 0 d) (slice_get-get_or l k d (ltb-true k (length l) b.0))
placed-at l (k ∷ ks) (suc n) d a h =
    let b = and_parts (nat_lt k (length l)) (list_all (λ k. nat_lt k (length l)) ks) a in
    ap (λ o. get_or (cons_option o (at_places l ks)) (suc n) d) (slice_get-get_or l k d (ltb-true k (length l) b.0)) ∙ placed-at l ks n d b.1 (omega (arith, h))

-- an element more of both lists
pub zipped-more : {X Y : Type 0} (ps : List X) (vs : List Y) (n : ℕ) (p : X) (v : Y) → n < length ps → n < length vs → p ≡ get_or ps n p → v ≡ get_or vs n v → take (n + 1) (zip ps vs) ≡ take n (zip ps vs) ++ (p, v) ∷ []
zipped-more [] vs n p v h k e f = absurd (omega arith)
zipped-more (q ∷ ps) [] n p v h k e f = absurd (omega arith)
zipped-more (q ∷ ps) (u ∷ vs) zero p v h k e f = λ i. (sym e i, sym f i) ∷ []
zipped-more (q ∷ ps) (u ∷ vs) (suc n) p v h k e f =
    ap (λ m. take m (zip (q ∷ ps) (u ∷ vs))) (add-one (suc n))
    ∙ ap (λ xs. (q, u) ∷ xs) (ap (λ m. take m (zip ps vs)) (sym (add-one n)) ∙ zipped-more ps vs n p v (omega arith) (omega arith) e f)

-- ---- the rows

-- an item that is no custom aggregate has a value of its own on each group
item-at : (w : World) (l : List Instance) (n : Numbering) (j : ℕ) (i : AggItem) → length n.numbers ≡ length l → j < length n.firsts → is_folded i ≡ true → get_or (values_by w l n i) j Value.Null ≡ folded_value w (at_places l (places_with n.numbers j)) i
item-at w l n j (AggItem.Standard e f a) size h is =
    at-place (λ j. aggregate f (at_places (values w e l) (places_with n.numbers j))) (length n.firsts) j Value.Null h
    ∙ ap (aggregate f) (sym (map-at_places (λ i. val w i e) l (places_with n.numbers j)))
item-at w l n j (AggItem.Count a) size h is =
    at-place (λ j. Value.Int (pos (length (places_with n.numbers j)))) (length n.firsts) j Value.Null h
    ∙ ap (λ m. Value.Int (pos m)) (sym (length-placed l (places_with n.numbers j) (passing-below (λ y. nat_eq y j) (length l) 0 n.numbers (omega (arith, size)))))
item-at w l n j (AggItem.Custom m a) size h is = absurd (true≢false (sym is))

module _ (w : World) (ks : List Path) (l : List Instance) (n : Numbering) (N : AreNumberedBy w ks l n) where
  abbrev keys : List (List Value)
  keys = map (key_list w ks) l

  abbrev count : ℕ
  count = length n.firsts

  pub size : length n.numbers ≡ length l
  size = N.size ∙ length-map l (key_list w ks)

  -- the groups of the list, by their numbers
  pub groups-are : groups w ks l ≡ map (numbered_group keys n) (places count)
  groups-are = sym (groups-of_rows w ks l) ∙ N.groups

  pub group-at : (j : ℕ) → j < count → slice_get (groups w ks l) j ≡ Some (numbered_group keys n j)
  group-at j h =
      let long = length-made (numbered_group keys n) count in
      ap (λ gs. slice_get gs j) groups-are
      ∙ slice_get-get_or (map (numbered_group keys n) (places count)) j ([], []) (omega (arith, h, long))
      ∙ ap Some (at-place (numbered_group keys n) count j ([], []) h)

  -- the rows of the groups, by their numbers
  rows-are : (items : List AggItem) → level_totals w items l (level_on w l ks) ≡ map (λ j. group_total w items ks l (numbered_group keys n j)) (places count)
  rows-are items = ap (map (group_total w items ks l)) groups-are ∙ map-map (group_total w items ks l) (numbered_group keys n) (places count)

  module _ (there : All (λ f. f < length n.numbers) n.firsts) where
    first-there : (j : ℕ) → j < count → get_or n.firsts j 0 < length l
    first-there j h = let own = All-get_or (λ f. f < length n.numbers) n.firsts j 0 h there in let same = size in omega (arith, own, same)

    pub firsts-within : list_all (λ k. nat_lt k (length l)) n.firsts ≡ true
    firsts-within = ap (λ m. list_all (λ k. nat_lt k m) n.firsts) (sym size) ∙ below-all (length n.numbers) n.firsts there

    abbrev first : List Instance
    first = at_places l n.firsts

    firsts-long : length first ≡ count
    firsts-long = length-placed l n.firsts firsts-within

    -- the values of the keys at the first instance of a group are its key
    keys-at : (j : ℕ) → j < count → key_at (key_columns w ks first) j ≡ get_or keys (get_or n.firsts j 0) []
    keys-at j h =
        let long = firsts-long in
        map-map (λ c. get_or c j Value.Null) (key_column w first) ks
        ∙ map-agree (λ p. get_or (map (λ i. lookup w i p) first) j Value.Null) (λ p. lookup w (get_or first j no_instance) p) ks (λ p. get_or-map (λ i. lookup w i p) first j no_instance Value.Null (omega (arith, h, long)))
        ∙ ap (key_list w ks) (placed-at l n.firsts j no_instance firsts-within h)
        ∙ sym (get_or-map (key_list w ks) l (get_or n.firsts j 0) no_instance [] (first-there j h))

    module _ (items : List AggItem) (folded : list_all is_folded items ≡ true) where
      -- the columns of the items and of the keys on all groups
      abbrev columns : List (Path × List Value)
      columns = map (listed_column w l n) items ++ zip ks (key_columns w ks first)

      abbrev cell : ℕ → Path × List Value → Path × Value
      cell j c = (c.0, get_or c.1 j Value.Null)

      items-at : (j : ℕ) → j < count → (is : List AggItem) → list_all is_folded is ≡ true → map (cell j) (map (listed_column w l n) is) ≡ map (folded_column w (at_places l (places_with n.numbers j))) is
      items-at j h [] f = refl
      items-at j h (i ∷ is) f =
          let a = and_parts (is_folded i) (list_all is_folded is) f in
          λ k. (item_name i ∷ [], item-at w l n j i size h a.0 k) ∷ items-at j h is a.1 k

      keyed-at : (j : ℕ) (ps : List Path) (cs : List (List Value)) → map (cell j) (zip ps cs) ≡ keyed ps (key_at cs j)
      keyed-at j [] cs = refl
      keyed-at j (p ∷ ps) [] = refl
      keyed-at j (p ∷ ps) (c ∷ cs) = ap (λ xs. (p, get_or c j Value.Null) ∷ xs) (keyed-at j ps cs)

      -- what stands across them is the row of a group
      columns-at : (j : ℕ) → j < count → (row_across columns j).columns ≡ (group_total w items ks l (numbered_group keys n j)).columns
      columns-at j h =
          let own = keyed-at j ks (key_columns w ks first) ∙ ap (keyed ks) (keys-at j h) in
          map-append (cell j) (map (listed_column w l n) items) (zip ks (key_columns w ks first))
          ∙ (λ k. items-at j h items folded k ++ own k)

      pub rows-across : map (row_across columns) (places count) ≡ level_totals w items l (level_on w l ks)
      rows-across =
          map-agree_places (row_across columns) (λ j. group_total w items ks l (numbered_group keys n j)) count (λ j h k. record no_instance { columns = columns-at j h k })
          ∙ sym (rows-are items)

      pub apart-across : AreApart w items l (level_on w l ks) → (j : ℕ) → j < count → IsTrue (columns_differ (row_across columns j).columns)
      apart-across A j h = subst (λ cs. IsTrue (columns_differ cs)) (sym (columns-at j h)) (A j (numbered_group keys n j) (group-at j h))

-- what holds of all instances holds of those at places
pub first-of : (w : World) (l : List Instance) (ks : List ℕ) → IsTrue (all_of w l) → IsTrue (all_of w (at_places l ks))
first-of w l ks h = all-filter_map (is_of w) (slice_get l) ks (λ k i e. all-at (is_of w) l k i h e)

-- the rows of all levels are those of each of the keys' levels
pub levels-totals : (w : World) (ks : Keys) (k : LevelKeys) (items : List AggItem) (l : List Instance) → AreKeys ks k
    → flat_map (λ level. level_totals w items l (level_on w l level)) (level_paths k.plain (part_of k.rollup)) ≡ group_totals w ks items l
levels-totals w ks k items l K =
    (λ i. flat_map (λ level. level_totals w items l (level_on w l level)) (level_paths (K.plain i) (K.rollup i)))
    ∙ sym (flat_map-map (level_totals w items l) (level_on w l) (level_paths (plain_paths ks) (rollup_part (group_keys ks))))

-- what is known of the level at a place, and of its groups
pub record LevelAt (w : World) (items : List AggItem) (l : List Instance) (all : List (List Path)) (k : ℕ) (own : List Path) (n : Numbering) : Type 0 where
  pub within : k < length all
  pub here : own ≡ get_or all k own
  pub numbered : AreNumberedBy w own l n
  pub apart : AreApart w items l (level_on w l own)

pub level-at : (w : World) (items : List AggItem) (l : List Instance) (all : List (List Path)) (ns : List Numbering) (k : ℕ) (own : List Path) (n : Numbering) → AreNumberedByEach w all l ns → All (λ level. AreApart w items l (level_on w l level)) all
    → k < length ns → n ≡ get_or ns k n → Some own ≡ slice_get all k → LevelAt w items l all k own n
level-at w items l all ns k own n N A h e at =
    let counted = N.count in
    let within : k < length all = omega (arith, h, counted) in
    let here : get_or all k own ≡ own = get_or_from_slice_get all k own own (sym at) in
    record {
      within = within;
      here = sym here;
      numbered = N.each k own n (sym at) (slice_get-get_or ns k n h ∙ ap Some (sym e));
      apart = subst (λ level. AreApart w items l (level_on w l level)) here (All-get_or (λ level. AreApart w items l (level_on w l level)) all k own within A);
    }

-- the columns of the rows of each of the keys' levels differ
pub apart-levels : (w : World) (ks : Keys) (k : LevelKeys) (items : List AggItem) (l : List Instance) → AreKeys ks k → All (λ level. AreApart w items l (level_on w l level)) (levels_of ks)
    → All (λ level. AreApart w items l (level_on w l level)) (level_paths k.plain (part_of k.rollup))
apart-levels w ks k items l K A = subst (λ levels. All (λ level. AreApart w items l (level_on w l level)) levels) (λ i. level_paths (sym K.plain i) (sym K.rollup i)) A
