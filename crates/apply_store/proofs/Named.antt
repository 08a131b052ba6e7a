-- Items that were found by name.
use Rattle.std.proofs.Common.{◌≡◌, ℕ, suc, ◌+◌, Bool, true, false, List, [], ◌∷◌, Some, sym, ap, ◌∙◌, arith, cond}
use Rattle.std.specs.Prelude.{find, slice_get}
use Rattle.std.specs.List.{enumerate_from}
use Rattle.edm_values.specs.Lists.{same_text}
use Rattle.edm_model.specs.LookUps.{item_named}

-- an item that was found with its place stands there
module _ {X : Type 0} (test : X → Bool) where
  found_by : (t : Bool) (n : ℕ) (x : X) (xs : List X) (y : ℕ × X) → ((find (λ e. test e.1) (enumerate_from (n + 1) xs) ≡ Some y) → (k : ℕ) × (y.0 ≡ n + 1 + k) × (slice_get xs k ≡ Some y.1)) → cond t (Some (n, x)) (find (λ e. test e.1) (enumerate_from (n + 1) xs)) ≡ Some y → (k : ℕ) × (y.0 ≡ n + k) × (slice_get (x ∷ xs) k ≡ Some y.1)
  found_by true n x xs y rest h =
      let here : (n, x) ≡ y = cc in
      (0, ap (λ (z : ℕ × X). z.0) (sym here) ∙ (omega arith), ap (λ (z : ℕ × X). Some z.1) here)
  found_by false n x xs y rest h =
      let r = rest h in (suc r.0, omega (arith, r.1), r.2)

  found_at : (n : ℕ) (xs : List X) (y : ℕ × X) → find (λ e. test e.1) (enumerate_from n xs) ≡ Some y → (k : ℕ) × (y.0 ≡ n + k) × (slice_get xs k ≡ Some y.1)
  found_at n [] y h = absurd cc
  found_at n (x ∷ xs) y h = found_by (test x) n x xs y (found_at (n + 1) xs y) h

pub item_at : {X : Type 0} (name : X → List ℕ) (n : List ℕ) (xs : List X) (y : ℕ × X) → item_named name n xs ≡ Some y → slice_get xs y.0 ≡ Some y.1
item_at name n xs y h =
    let f = found_at (λ x. same_text (name x) n) 0 xs y h in
    let same : y.0 ≡ f.0 = omega (arith, f.1) in
    ap (slice_get xs) same ∙ f.2
