-- The keys of a recursive rollup: its plain paths, and the path to the nodes.
use Rattle.std.proofs.Common.{◌≡◌, ℕ, refl, sym, ◌∙◌, ap, subst, Bool, true, false, Err, List, [], ◌∷◌, ◌++◌}
use Rattle.std.specs.Prelude.{All, flat_map, ◌||◌}
use Rattle.std.specs.Global.{Vec}
use Rattle.std.specs.List.{list_any}
use Rattle.std.proofs.lemmas.Bool.{or_left, or_right}
use Rattle.std.proofs.lemmas.List.{map-append}
use Rattle.std.proofs.lemmas.List.Elements.{All-head, All-nil}
use Rattle.std.proofs.lemmas.List.Folds.{list_any-append}
use Rattle.edm_values.specs.declared.Value.{Value}
use Rattle.edm_values.specs.declared.refusals.Refused.{Refused}
use Rattle.edm_values.specs.declared.refusals.Refused.TheVariants.{Range, Memory}
use Rattle.edm_values.specs.Names.{Path}
use Rattle.edm_values.specs.Values.{is_beyond}
use Rattle.edm_model.specs.LookUps.{HierarchyPlace}
use Rattle.edm_data.specs.Worlds.{World}
use Rattle.apply_meaning.specs.Instances.{Instance, lookup}
use Rattle.apply_meaning.specs.Meaning.{key_list}
use Rattle.aggregate_ops.specs.KeyTables.{HasWidth}
use Rattle.group_rollup.specs.Groupings.{has_beyond_key, GivesFor}
use Rattle.hier_rows.specs.HierRows as rows
use Rattle.hier_rows.specs.HierRows.{path_values}
use Rattle.rollup_rec.specs.Rollups.{width_of}
use Rattle.step_run.specs.Levels.{GivesNodeLevels}

-- key lists of one width have that of the first
pub wide-first : (n : ℕ) (lists : List (Vec Value)) → All (HasWidth n) lists → All (HasWidth (width_of lists)) lists
wide-first n [] a = All-nil (HasWidth (width_of []))
wide-first n (k ∷ lists) a = subst (λ m. All (HasWidth m) (k ∷ lists)) (sym (All-head (HasWidth n) k lists a)) a

-- a key is Beyond where a plain one is, or the value of the path to the nodes
beyond-more : (w : World) (ks : List Path) (p : Path) (l : List Instance) → has_beyond_key w (ks ++ p ∷ []) l ≡ (has_beyond_key w ks l || list_any is_beyond (path_values w p l))
beyond-more w ks p [] = refl
beyond-more w ks p (i ∷ l) =
    list_any-append is_beyond (key_list w (ks ++ p ∷ []) i) (flat_map (key_list w (ks ++ p ∷ [])) l)
    ∙ (λ n. list_any is_beyond (map-append (lookup w i) ks (p ∷ []) n) || beyond-more w ks p l n)
    ∙ ap (λ b. b || (has_beyond_key w ks l || list_any is_beyond (path_values w p l))) (list_any-append is_beyond (key_list w ks i) (lookup w i p ∷ []))
    ∙ turn (list_any is_beyond (key_list w ks i)) (is_beyond (lookup w i p)) (has_beyond_key w ks l) (list_any is_beyond (path_values w p l))
    ∙ ap (λ b. b || (is_beyond (lookup w i p) || list_any is_beyond (path_values w p l))) (sym (list_any-append is_beyond (key_list w ks i) (flat_map (key_list w ks) l)))
  where
    turn : (a b c d : Bool) → ((a || (b || false)) || (c || d)) ≡ ((a || c) || (b || d))
    turn true b c d = refl
    turn false true true d = refl
    turn false true false d = refl
    turn false false true d = refl
    turn false false false d = refl

pub none-beyond : (w : World) (ks : List Path) (p : Path) (l : List Instance) → has_beyond_key w ks l ≡ false → list_any is_beyond (path_values w p l) ≡ false → has_beyond_key w (ks ++ p ∷ []) l ≡ false
none-beyond w ks p l a b = beyond-more w ks p l ∙ (λ i. a i || b i)

pub keys-err : {T : Type 0} (P : T → Type 0) (w : World) (f : HierarchyPlace) (ks : List Path) (p : Path) (shown : List ℕ) (l : List Instance) (e : Refused) → GivesFor P w ks l (Err e) → GivesNodeLevels (Err e) w f ks p shown l
keys-err P w f ks p shown l Range h = beyond-more w ks p l ∙ or_left _ _ h
keys-err P w f ks p shown l Memory h = tt

pub path-err : {T : Type 0} (P : T → Type 0) (w : World) (f : HierarchyPlace) (ks : List Path) (p : Path) (shown : List ℕ) (l : List Instance) (e : Refused) → rows.GivesFor P (path_values w p l) (Err e) → GivesNodeLevels (Err e) w f ks p shown l
path-err P w f ks p shown l Range h = beyond-more w ks p l ∙ or_right _ _ h
path-err P w f ks p shown l Memory h = tt
