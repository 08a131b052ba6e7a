-- The nodes of keys, one after the other.
use Rattle.std.proofs.Common.{◌≡◌, ℕ, suc, ◌+◌, ◌<◌, ◌≤◌, sym, ◌∙◌, ap, ◌||◌, Bool, true, false, List, [], ◌∷◌, ◌++◌, length, drop, map, get_or, drop-cons, add-one, append_assoc, Option}
use Rattle.std.specs.List.{list_any}
use Rattle.std.proofs.Math.ListN.{drop_of_length-le}
use Rattle.std.proofs.lemmas.List.{append-nil}
use Rattle.std.proofs.lemmas.Simd.{map-map}
use Rattle.edm_values.specs.declared.Seen.{Seen}
use Rattle.edm_values.specs.declared.Value.{Value}
use Rattle.edm_values.specs.Names.{Path}
use Rattle.edm_values.specs.Values.{is_beyond, seen_value}
use Rattle.edm_data.specs.Worlds.{World}
use Rattle.apply_meaning.specs.Instances.{Instance, lookup}
use Rattle.hier_rows.specs.HierRows.{node_by, node_in, path_values}

module _ (w : World) (s : ℕ) (keys : List Seen) where
  abbrev nodes_by : List Seen → List (Option ℕ)
  nodes_by ks = map (node_by w s) (map (λ v. seen_value v) ks)

  abbrev are_beyond : List Seen → Bool
  are_beyond ks = list_any is_beyond (map (λ v. seen_value v) ks)

  -- the nodes so far and those of the keys that are left are all; a `Beyond` key is left
  abbrev pub AreLeft : List (Option ℕ) → ℕ → Type 0
  AreLeft got i = (nodes_by keys ≡ got ++ nodes_by (drop i keys)) × (are_beyond keys ≡ are_beyond (drop i keys))

  -- the node of the next key
  pub next-key : (got : List (Option ℕ)) (i : ℕ) (d : Seen) (n : Option ℕ) → i < length keys → d ≡ get_or keys i d → n ≡ node_by w s (seen_value d) → is_beyond (seen_value d) ≡ false → AreLeft got i → AreLeft (got ++ n ∷ []) (i + 1)
  next-key got i d n h e is quiet L =
      let step : drop i keys ≡ d ∷ drop (i + 1) keys = drop-cons keys i d h ∙ ap (λ x. x ∷ drop (suc i) keys) (sym e) ∙ ap (λ k. d ∷ drop k keys) (sym (add-one i)) in (
        L.0 ∙ ap (λ xs. got ++ nodes_by xs) step ∙ ap (λ x. got ++ x ∷ nodes_by (drop (i + 1) keys)) (sym is) ∙ sym (append_assoc got (n ∷ []) (nodes_by (drop (i + 1) keys))),
        L.1 ∙ ap are_beyond step ∙ ap (λ b. b || are_beyond (drop (i + 1) keys)) quiet,
      )

  -- a key that is Beyond
  pub beyond-key : (got : List (Option ℕ)) (i : ℕ) (d : Seen) → i < length keys → d ≡ get_or keys i d → is_beyond (seen_value d) ≡ true → AreLeft got i → are_beyond keys ≡ true
  beyond-key got i d h e beyond L =
      L.1 ∙ ap are_beyond (drop-cons keys i d h ∙ ap (λ x. x ∷ drop (suc i) keys) (sym e)) ∙ ap (λ b. b || are_beyond (drop (suc i) keys)) beyond

  -- no key is left
  pub no-key : (got : List (Option ℕ)) (i : ℕ) → length keys ≤ i → AreLeft got i → (got ≡ nodes_by keys) × (are_beyond keys ≡ false)
  no-key got i h L = (
    sym (L.0 ∙ ap (λ xs. got ++ nodes_by xs) (drop_of_length-le keys h) ∙ append-nil got),
    L.1 ∙ ap are_beyond (drop_of_length-le keys h),
  )

-- the nodes of the keys of instances are theirs
pub nodes-of-keys : (w : World) (s : ℕ) (p : Path) (l : List Instance) (keys : List Value) → keys ≡ path_values w p l → map (node_by w s) keys ≡ map (node_in w s p) l
nodes-of-keys w s p l keys e = ap (map (node_by w s)) e ∙ map-map (node_by w s) (λ i. lookup w i p) l
