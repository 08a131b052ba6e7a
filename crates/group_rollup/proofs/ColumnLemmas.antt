-- A value past its range among the values of paths on instances, which stand in columns.
use Rattle.std.proofs.Common.{◌≡◌, Bool, true, false, ◌||◌, List, [], ◌∷◌, refl, sym, ap, ◌∙◌}
use Rattle.std.specs.Prelude.{flat_map}
use Rattle.std.specs.Global.{Vec}
use Rattle.std.specs.List.{list_any}
use Rattle.std.proofs.lemmas.List.Folds.{list_any-append}
use Rattle.edm_values.specs.declared.Seen.{Seen}
use Rattle.edm_values.specs.declared.Value.{Value}
use Rattle.edm_values.specs.Names.{Path}
use Rattle.edm_values.specs.Values.{is_beyond}
use Rattle.edm_data.specs.Worlds.{World}
use Rattle.apply_meaning.specs.Instances.{Instance, lookup}
use Rattle.apply_meaning.specs.Meaning.{key_list}
use Rattle.row_frames.specs.Keys.{key_column, key_columns, seen_columns}
use Rattle.aggregate_ops.specs.Columns.{column_values}
use Rattle.group_rollup.specs.Groupings.{has_beyond_key}
use Rattle.group_rollup.proofs.GroupLemmas.{flat-images}

-- ---- a value past its range

or-swap : (a b c d : Bool) → ((a || b) || (c || d)) ≡ ((a || c) || (b || d))
or-swap true b c d = refl
or-swap false true true d = refl
or-swap false true false d = refl
or-swap false false c d = refl

abbrev none : {X : Type 0} → X → List Value
none x = []

any-none : {X : Type 0} (l : List X) → list_any is_beyond (flat_map none l) ≡ false
any-none [] = refl
any-none (x ∷ l) = any-none l

-- whether one of the values is, is told by columns as by rows
pub any-across : (w : World) (ks : List Path) (l : List Instance) → list_any is_beyond (flat_map (key_column w l) ks) ≡ list_any is_beyond (flat_map (key_list w ks) l)
any-across w [] l = sym (any-none l)
any-across w (p ∷ ks) l =
    list_any-append is_beyond (key_column w l p) (flat_map (key_column w l) ks)
    ∙ ap (λ b. list_any is_beyond (key_column w l p) || b) (any-across w ks l)
    ∙ more l
  where
    more : (l : List Instance) → (list_any is_beyond (key_column w l p) || list_any is_beyond (flat_map (key_list w ks) l)) ≡ list_any is_beyond (flat_map (key_list w (p ∷ ks)) l)
    more [] = refl
    more (i ∷ l) =
        let a = is_beyond (lookup w i p) in
        let b = list_any is_beyond (key_column w l p) in
        let c = list_any is_beyond (key_list w ks i) in
        let d = list_any is_beyond (flat_map (key_list w ks) l) in
        ap (λ x. (a || b) || x) (list_any-append is_beyond (key_list w ks i) (flat_map (key_list w ks) l))
        ∙ or-swap a b c d
        ∙ ap (λ x. (a || c) || x) (more l)
        ∙ sym (list_any-append is_beyond (key_list w (p ∷ ks) i) (flat_map (key_list w (p ∷ ks)) l))

pub beyond-across : (w : World) (ks : List Path) (l : List Instance) (columns : List (Vec Seen)) → seen_columns columns ≡ key_columns w ks l → list_any is_beyond (flat_map column_values columns) ≡ has_beyond_key w ks l
beyond-across w ks l columns e = ap (list_any is_beyond) (flat-images column_values (key_column w l) columns ks e) ∙ any-across w ks l
