-- The instances that an inner pipeline keeps of each group, with the columns of the groups' keys.
use Rattle.std.proofs.Common.{◌≡◌, ℕ, zero, suc, ◌+◌, ◌<◌, true, refl, sym, ◌∙◌, ap, arith, List, [], ◌∷◌, ◌++◌, Some, None, get_or, length, map, IsTrue}
use Rattle.std.specs.Prelude.{nat_lt, option_map, slice_get}
use Rattle.std.specs.List.{cons_option, list_all, zip}
use Rattle.std.proofs.lemmas.Bool.{and_parts, ltb-true}
use Rattle.std.proofs.lemmas.List.{ext_get_or, get_or-map, length-map, map-append}
use Rattle.std.proofs.lemmas.Option.{slice_get-get_or}
use Rattle.std.proofs.lemmas.Simd.{map-map}
use Rattle.edm_values.proofs.EachLemmas.{map-agree}
use Rattle.edm_values.proofs.ListFacts.{all-append, all-at, all-map}
use Rattle.edm_values.proofs.OptionFacts.{some_value}
use Rattle.edm_values.specs.declared.Value.{Value}
use Rattle.edm_values.specs.Lists.{at_places, places}
use Rattle.edm_values.specs.Names.{Path}
use Rattle.edm_data.specs.Worlds.{World}
use Rattle.apply_meaning.specs.Instances.{Instance, extended, lookup, no_instance}
use Rattle.apply_meaning.specs.Meaning.{Outcome, joined, key_list, keyed}
use Rattle.apply_meaning.specs.RowViews.{columns_differ}
use Rattle.row_frames.specs.Columned.{widened}
use Rattle.row_frames.specs.Keys.{key_at, key_column, key_columns}
use Rattle.step_run.proofs.GroupLemmas.{joined-some}
use Rattle.step_run.proofs.GroupTotalLaws.{length-placed, placed-at}
use Rattle.step_run.proofs.ListedColumns.{at-place, length-made}
use Rattle.step_run.specs.KeptGroups.{kept_rows, with_key_at}
use Rattle.step_run.specs.Levels.{group_made}
use Rattle.step_run.specs.declared.kept_groups.Kept.{Kept}

-- ---- lists side by side

zip-append : {X Y : Type 0} (xs xs' : List X) (ys ys' : List Y) → length xs ≡ length ys → zip (xs ++ xs') (ys ++ ys') ≡ zip xs ys ++ zip xs' ys'
zip-append [] xs' [] ys' e = refl
zip-append [] xs' (y ∷ ys) ys' e = absurd (omega (arith, e))
zip-append (x ∷ xs) xs' [] ys' e = absurd (omega (arith, e))
zip-append (x ∷ xs) xs' (y ∷ ys) ys' e = ap (λ zs. (x, y) ∷ zs) (zip-append xs xs' ys ys' (omega (arith, e)))

zip-long : {X Y : Type 0} (xs : List X) (ys : List Y) → length xs ≡ length ys → length (zip xs ys) ≡ length xs
zip-long [] ys e = refl
zip-long (x ∷ xs) [] e = absurd (omega (arith, e))
zip-long (x ∷ xs) (y ∷ ys) e = ap suc (zip-long xs ys (omega (arith, e)))

zip-at : (xs ys : List ℕ) (k : ℕ) → length xs ≡ length ys → k < length xs → get_or (zip xs ys) k (0, 0) ≡ (get_or xs k 0, get_or ys k 0)
zip-at [] ys k e h = absurd (omega (arith, h))
zip-at (x ∷ xs) [] k e h = absurd (omega (arith, e))
zip-at (x ∷ xs) (y ∷ ys) zero e h = refl
zip-at (x ∷ xs) (y ∷ ys) (suc k) e h = zip-at xs ys k (omega (arith, e)) (omega (arith, h))

-- ---- the rows of a group

module _ (w : World) (ks : List Path) (l : List Instance) where
  -- the rows of a group are what was kept, beside the place of its first instance
  own-rows : (own : List ℕ) (head : ℕ) → IsTrue (list_all (λ k. nat_lt k (length l)) own)
      → map (λ r. extended r (keyed ks (key_list w ks (get_or l head no_instance)))) (at_places l own) ≡ map (with_key_at w ks l) (zip own (map (λ k. head) own))
  own-rows [] head h = refl
  own-rows (k ∷ own) head h =
      let a = and_parts (nat_lt k (length l)) (list_all (λ k. nat_lt k (length l)) own) h in
      let at = slice_get-get_or l k no_instance (ltb-true k (length l) a.0) in
      ap (λ o. map (λ r. extended r (keyed ks (key_list w ks (get_or l head no_instance)))) (cons_option o (at_places l own))) at
      ∙ ap (λ rest. with_key_at w ks l (k, head) ∷ rest) (own-rows own head a.1)

  -- those of one group more
  pub more-rows : (kept all : Kept) (own : List ℕ) (head : ℕ) → length kept.places.items ≡ length kept.heads.items → IsTrue (list_all (λ k. nat_lt k (length l)) own)
      → all.places.items ≡ kept.places.items ++ own → all.heads.items ≡ kept.heads.items ++ map (λ k. head) own
      → kept_rows w ks l all ≡ kept_rows w ks l kept ++ map (λ r. extended r (keyed ks (key_list w ks (get_or l head no_instance)))) (at_places l own)
  more-rows kept all own head even h p q =
      (λ i. map (with_key_at w ks l) (zip (p i) (q i)))
      ∙ ap (map (with_key_at w ks l)) (zip-append kept.places.items own kept.heads.items (map (λ k. head) own) even)
      ∙ map-append (with_key_at w ks l) (zip kept.places.items kept.heads.items) (zip own (map (λ k. head) own))
      ∙ ap (λ rest. kept_rows w ks l kept ++ rest) (sym (own-rows own head h))

  -- ---- the rows as columns behind the instances

  keyed-at : (k : ℕ) (ps : List Path) (cs : List (List Value)) → map (λ c. (c.0, get_or c.1 k Value.Null)) (zip ps cs) ≡ keyed ps (key_at cs k)
  keyed-at k [] cs = refl
  keyed-at k (p ∷ ps) [] = refl
  keyed-at k (p ∷ ps) (c ∷ cs) = ap (λ xs. (p, get_or c k Value.Null) ∷ xs) (keyed-at k ps cs)

  keys-at : (first : List Instance) (k : ℕ) → k < length first → key_at (key_columns w ks first) k ≡ key_list w ks (get_or first k no_instance)
  keys-at first k h =
      map-map (λ c. get_or c k Value.Null) (key_column w first) ks
      ∙ map-agree (λ p. get_or (map (λ i. lookup w i p) first) k Value.Null) (λ p. lookup w (get_or first k no_instance) p) ks (λ p. get_or-map (λ i. lookup w i p) first k no_instance Value.Null h)

  module _ (kept : Kept) (even : length kept.places.items ≡ length kept.heads.items) (P : IsTrue (list_all (λ k. nat_lt k (length l)) kept.places.items)) (H : IsTrue (list_all (λ k. nat_lt k (length l)) kept.heads.items)) where
    abbrev own : List Instance
    own = at_places l kept.places.items

    abbrev first : List Instance
    first = at_places l kept.heads.items

    abbrev columns : List (Path × List Value)
    columns = zip ks (key_columns w ks first)

    own-long : length own ≡ length kept.places.items
    own-long = length-placed l kept.places.items P

    first-long : length first ≡ length kept.heads.items
    first-long = length-placed l kept.heads.items H

    widened-at : (k : ℕ) → k < length own → widened columns own k ≡ with_key_at w ks l (get_or kept.places.items k 0, get_or kept.heads.items k 0)
    widened-at k h =
        let long = own-long in
        let size = first-long in
        (λ i. extended (placed-at l kept.places.items k no_instance P (omega (arith, h, long)) i) (keyed-at k ks (key_columns w ks first) i))
        ∙ ap (λ key. extended (get_or l (get_or kept.places.items k 0) no_instance) (keyed ks key))
        (keys-at first k (omega (arith, h, long, size, even)) ∙ ap (key_list w ks) (placed-at l kept.heads.items k no_instance H (omega (arith, h, long, even))))

    pub widened-rows : map (widened columns own) (places (length own)) ≡ kept_rows w ks l kept
    widened-rows =
        let made = length-made (widened columns own) (length own) in
        let rows = length-map (zip kept.places.items kept.heads.items) (with_key_at w ks l) in
        let beside = zip-long kept.places.items kept.heads.items even in
        let long = own-long in
        ext_get_or no_instance (map (widened columns own) (places (length own))) (kept_rows w ks l kept) (omega (arith, made, rows, beside, long)) (λ k h.
        let within : k < length own = omega (arith, h, made) in
        at-place (widened columns own) (length own) k no_instance within
        ∙ widened-at k within
        ∙ ap (with_key_at w ks l) (sym (zip-at kept.places.items kept.heads.items k even (omega (arith, within, long))))
        ∙ sym (get_or-map (with_key_at w ks l) (zip kept.places.items kept.heads.items) k (0, 0) no_instance (omega (arith, within, long, beside))))

    -- where the columns of all rows differ, those of each do
    pub widened-differ : list_all (λ i. columns_differ i.columns) (kept_rows w ks l kept) ≡ true → (k : ℕ) → k < length own → IsTrue (columns_differ (widened columns own k).columns)
    widened-differ d k h =
        let made = length-made (widened columns own) (length own) in
        all-at (λ i. columns_differ i.columns) (kept_rows w ks l kept) k (widened columns own k) d
        (ap (λ rows. slice_get rows k) (sym widened-rows)
        ∙ slice_get-get_or (map (widened columns own) (places (length own))) k no_instance (omega (arith, h, made))
        ∙ ap Some (at-place (widened columns own) (length own) k no_instance h))

-- ---- what is made of all groups

-- the columns of each row differ where those of each group's rows do
pub made-differ : (ks : List Path) (f : List Instance → Outcome) (l : List Instance) (gs : List (List Value × List ℕ)) (rows : List Instance) → joined (map (group_made ks f l) gs) ≡ Some rows
    → ((n : ℕ) (g : List Value × List ℕ) (r : List Instance) → slice_get gs n ≡ Some g → f (at_places l g.1) ≡ Some r → IsTrue (list_all (λ i. columns_differ (extended i (keyed ks g.0)).columns) r))
    → list_all (λ i. columns_differ i.columns) rows ≡ true
made-differ ks f l [] rows m h = ap (list_all (λ i. columns_differ i.columns)) (sym (some_value m))
made-differ ks f l (g ∷ gs) rows m h = go (f (at_places l g.1)) refl m (λ rest e. made-differ ks f l gs rest e (λ n g r at made. h (suc n) g r at made))
  where
    rest-of : (r : List Instance) (o : Outcome) → joined (map (group_made ks f l) gs) ≡ o → option_map (λ rest. map (λ r. extended r (keyed ks g.0)) r ++ rest) o ≡ Some rows → f (at_places l g.1) ≡ Some r
        → ((rest : List Instance) → joined (map (group_made ks f l) gs) ≡ Some rest → list_all (λ i. columns_differ i.columns) rest ≡ true) → list_all (λ i. columns_differ i.columns) rows ≡ true
    rest-of r None e t at others = absurd (cc)
    rest-of r (Some rest) e t at others =
        ap (list_all (λ i. columns_differ i.columns)) (sym (some_value t))
        ∙ all-append (λ i. columns_differ i.columns) (map (λ r. extended r (keyed ks g.0)) r) rest
        (all-map (λ i. columns_differ (extended i (keyed ks g.0)).columns) (λ i. columns_differ i.columns) (λ i. extended i (keyed ks g.0)) r (h 0 g r refl at) (λ i d. d))
        (others rest e)

    go : (o : Outcome) → f (at_places l g.1) ≡ o → joined (map (group_made ks f l) (g ∷ gs)) ≡ Some rows → ((rest : List Instance) → joined (map (group_made ks f l) gs) ≡ Some rest → list_all (λ i. columns_differ i.columns) rest ≡ true)
        → list_all (λ i. columns_differ i.columns) rows ≡ true
    go None e t others = absurd (let none : joined (map (group_made ks f l) (g ∷ gs)) ≡ None = ap (λ o. joined (option_map (map (λ r. extended r (keyed ks g.0))) o ∷ map (group_made ks f l) gs)) e in cc)
    go (Some r) e t others =
        rest-of r (joined (map (group_made ks f l) gs)) refl
        (sym (joined-some (map (λ r. extended r (keyed ks g.0)) r) (map (group_made ks f l) gs))
        ∙ sym (ap (λ o. joined (option_map (map (λ r. extended r (keyed ks g.0))) o ∷ map (group_made ks f l) gs)) e)
        ∙ t) e others
