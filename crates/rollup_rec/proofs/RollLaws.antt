-- Rolled groups, one shown node after another.
use Rattle.std.proofs.Common.{◌≡◌, ℕ, ◌+◌, ◌<◌, ◌≤◌, true, false, cond, List, [], ◌∷◌, ◌++◌, length, map, filter, take, get_or, refl, ap, ◌∙◌, arith, Option}
use Rattle.std.proofs.lemmas.List.{append-nil, map-append, take_more}
use Rattle.std.proofs.lemmas.List.Elements.{filter-append}
use Rattle.edm_values.specs.declared.Value.{Value}
use Rattle.edm_values.specs.Lists.{is_nonempty}
use Rattle.rollup_rec.specs.Rollups.{groups_under, rolled}

nonempty : {X : Type 0} (xs : List X) → 0 < length xs → is_nonempty xs ≡ true
nonempty [] h = absurd (omega arith)
nonempty (x ∷ xs) h = refl

empty : {X : Type 0} (xs : List X) → length xs ≤ 0 → is_nonempty xs ≡ false
empty [] h = refl
empty (x ∷ xs) h = absurd (omega arith)

module _ (parents nodes : List (Option ℕ)) (keys : List (List Value)) (shown : List ℕ) (i : ℕ) (there : i < length shown) where
  abbrev groups : List (List Value × List ℕ)
  groups = groups_under parents nodes keys (get_or shown i 0)

  more : rolled parents nodes keys (take (i + 1) shown) ≡ rolled parents nodes keys (take i shown) ++ cond (is_nonempty groups) ((get_or shown i 0, groups) ∷ []) []
  more =
      ap (rolled parents nodes keys) (take_more shown i 0 there)
      ∙ ap (filter (λ g. is_nonempty g.1)) (map-append (λ x. (x, groups_under parents nodes keys x)) (take i shown) (get_or shown i 0 ∷ []))
      ∙ filter-append (λ g. is_nonempty g.1) (map (λ x. (x, groups_under parents nodes keys x)) (take i shown)) ((get_or shown i 0, groups) ∷ [])

  -- a node with rows
  pub rolled_with : 0 < length groups → rolled parents nodes keys (take (i + 1) shown) ≡ rolled parents nodes keys (take i shown) ++ (get_or shown i 0, groups) ∷ []
  rolled_with some = more ∙ ap (λ b. rolled parents nodes keys (take i shown) ++ cond b ((get_or shown i 0, groups) ∷ []) []) (nonempty groups some)

  -- a node without rows
  pub rolled_without : length groups ≤ 0 → rolled parents nodes keys (take (i + 1) shown) ≡ rolled parents nodes keys (take i shown)
  rolled_without none =
      more
      ∙ ap (λ b. rolled parents nodes keys (take i shown) ++ cond b ((get_or shown i 0, groups) ∷ []) []) (empty groups none)
      ∙ append-nil (rolled parents nodes keys (take i shown))
