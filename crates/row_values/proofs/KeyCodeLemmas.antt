-- Numbers in place of the values of key paths are those of the key lists.
use Rattle.std.proofs.Common.{◌≡◌, ◌∙◌, ℕ, zero, suc, ◌+◌, ◌<◌, ◌||◌, ⊎_elim, Bool, true, false, List, [], ◌∷◌, ◌++◌, ap, arith, get_or, length, length-append, map, refl, sym, subst, take}
use Rattle.std.specs.Prelude.{flat_map}
use Rattle.std.specs.List.{list_any}
use Rattle.std.proofs.lemmas.Grind.{flat_map-append}
use Rattle.std.proofs.lemmas.List.{append-nil, get_or-map, get_or_append_left, get_or_default, get_or_push, length-map, take_more}
use Rattle.std.proofs.lemmas.List.Folds.{list_any-append}
use Rattle.std.proofs.lemmas.Bool.{cases_eq}
use Rattle.edm_values.specs.Names.{Path}
use Rattle.edm_values.specs.Values.{is_beyond, value_in}
use Rattle.edm_data.specs.Worlds.{World}
use Rattle.apply_meaning.specs.Instances.{Instance, lookup, no_instance}
use Rattle.apply_meaning.specs.Meaning.{key_list}
use Rattle.row_frames.specs.Keys.{key_column}
use Rattle.value_codes.specs.Codes.{AreCodes, CodeList}
use Rattle.numbered_groups.specs.Numbered.{AreKeyCodes, no_codes}

-- the numbers so far are those of the values of the paths so far
pub record AreColumnCodes (w : World) (ps : List Path) (l : List Instance) (cs : List CodeList) : Type 0 where
  pub each : (c : ℕ) → c < length cs → AreCodes (key_column w l (get_or ps c [])) (get_or cs c no_codes)

-- the value of a path is that of its place in a key list
value-there : (w : World) (ps : List Path) (i : Instance) (c : ℕ) → c < length ps → value_in (key_list w ps i) c ≡ lookup w i (get_or ps c [])
value-there w [] i c h = absurd (omega (arith, h))
value-there w (p ∷ ps) i zero h = refl
value-there w (p ∷ ps) i (suc c) h = value-there w ps i c (omega (arith, h))

-- the values at a place of the key lists are those of its path
column-there : (w : World) (ps : List Path) (l : List Instance) (c : ℕ) → c < length ps → map (λ k. value_in k c) (map (key_list w ps) l) ≡ key_column w l (get_or ps c [])
column-there w ps [] c h = refl
column-there w ps (i ∷ l) c h = λ j. value-there w ps i c h j ∷ column-there w ps l c h j

pub keys-coded : (w : World) (ps : List Path) (l : List Instance) (cs : List CodeList) → length cs ≡ length ps → AreColumnCodes w ps l cs → AreKeyCodes (map (key_list w ps) l) cs
keys-coded w ps l cs size a = record {
  wide = λ k h.
      let there : k < length l = omega (arith, h, length-map l (key_list w ps)) in
      ap length (get_or-map (key_list w ps) l k no_instance [] there) ∙ length-map ps (lookup w (get_or l k no_instance)) ∙ sym size;
  columns = λ c h. subst (λ vs. AreCodes vs (get_or cs c no_codes)) (sym (column-there w ps l c (omega (arith, h, size)))) (a.each c h);
}

-- one path more
pub more-codes : (w : World) (ps : List Path) (l : List Instance) (cs cs' : List CodeList) (p : Path) (x : CodeList) (n : ℕ) → length cs ≡ n → n < length ps → p ≡ get_or ps n p
    → AreColumnCodes w ps l cs → AreCodes (key_column w l p) x → cs' ≡ cs ++ x ∷ [] → AreColumnCodes w ps l cs'
more-codes w ps l cs cs' p x n size there e a o m = record { each = λ c h. ⊎_elim (λ last. newest c last) (λ other. older c (omega (arith, h, ap length m, length-append cs (x ∷ []), other))) (cases_eq c (length cs)) }
  where
    older : (c : ℕ) → c < length cs → AreCodes (key_column w l (get_or ps c [])) (get_or cs' c no_codes)
    older c k = subst (λ t. AreCodes (key_column w l (get_or ps c [])) t) (sym (ap (λ t. get_or t c no_codes) m ∙ get_or_append_left cs (x ∷ []) no_codes c k)) (a.each c k)

    newest : (c : ℕ) → c ≡ length cs → AreCodes (key_column w l (get_or ps c [])) (get_or cs' c no_codes)
    newest c k =
        let path : get_or ps c [] ≡ p = ap (λ i. get_or ps i []) (k ∙ size) ∙ get_or_default ps n [] p there ∙ sym e in
        let codes : get_or cs' c no_codes ≡ x = ap (λ t. get_or t c no_codes) m ∙ ap (λ i. get_or (cs ++ x ∷ []) i no_codes) k ∙ get_or_push cs x no_codes (length cs) refl in
        subst (λ t. AreCodes (key_column w l t) (get_or cs' c no_codes)) (sym path) (subst (λ t. AreCodes (key_column w l p) t) (sym codes) o)

-- whether a value of the paths so far is past its range, with one path more
pub more-beyond : (w : World) (ps : List Path) (l : List Instance) (p : Path) (n : ℕ) (b past b' : Bool) → n < length ps → p ≡ get_or ps n p
    → b ≡ list_any is_beyond (flat_map (key_column w l) (take n ps)) → past ≡ list_any is_beyond (key_column w l p) → b' ≡ (b || past)
    → b' ≡ list_any is_beyond (flat_map (key_column w l) (take (n + 1) ps))
more-beyond w ps l p n b past b' there e h g m =
    let f = key_column w l in
    m ∙ (λ i. h i || g i)
    ∙ ap (λ vs. list_any is_beyond (flat_map f (take n ps)) || list_any is_beyond vs) (sym (append-nil (f p)))
    ∙ sym (list_any-append is_beyond (flat_map f (take n ps)) (flat_map f (p ∷ [])))
    ∙ ap (list_any is_beyond) (sym (flat_map-append f (take n ps) (p ∷ [])))
    ∙ ap (λ x. list_any is_beyond (flat_map f (take n ps ++ x ∷ []))) e
    ∙ ap (λ xs. list_any is_beyond (flat_map f xs)) (sym (take_more ps n p there))

pub or-true : (b : Bool) → true ≡ (b || true)
or-true true = refl
or-true false = refl

pub or-false : (b : Bool) → b ≡ (b || false)
or-false true = refl
or-false false = refl
