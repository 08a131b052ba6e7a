-- Lists that are written item by item.
use Rattle.std.proofs.Common.{◌≡◌, ℕ, zero, suc, ◌+◌, ◌<◌, List, [], ◌∷◌, ◌++◌, length, map, take, get_or, refl, sym, ap, ◌∙◌, arith, append_assoc, append-nil, add-one}
use Rattle.std.specs.List.{join_with_byte}
use Rattle.apply_ast.specs.Printing.{byte_before, each_behind_byte}

module _ {A B : Type 0} (f : A → B) (g : B → List ℕ) (c : ℕ) where
  joined_suc : (xs : List A) (i : ℕ) (d : A) → i < length xs → join_with_byte c (map g (map f (take (suc i) xs))) ≡ join_with_byte c (map g (map f (take i xs))) ++ (byte_before c i ++ g (f (get_or xs i d)))
  joined_suc [] i d h = absurd (omega (arith, h))
  joined_suc (x ∷ xs) zero d h = refl
  joined_suc (x ∷ []) (suc i) d h = absurd (omega (arith, h))
  joined_suc (x ∷ y ∷ xs) (suc zero) d h = refl
  joined_suc (x ∷ y ∷ xs) (suc (suc i)) d h =
      ap (λ t. g (f x) ++ c ∷ t) (joined_suc (y ∷ xs) (suc i) d (omega (arith, h)))
      ∙ sym (append_assoc (g (f x)) (c ∷ join_with_byte c (map g (map f (take (suc i) (y ∷ xs))))) (byte_before c (suc i) ++ g (f (get_or (y ∷ xs) (suc i) d))))

  -- one more item, behind the byte between two, at the end of what was written
  pub joined_step : (old out between new : List ℕ) (xs : List A) (i : ℕ) (d : A) → i < length xs → out ≡ old ++ join_with_byte c (map g (map f (take i xs))) → between ≡ out ++ byte_before c i → new ≡ between ++ g (f (get_or xs i d)) → new ≡ old ++ join_with_byte c (map g (map f (take (i + 1) xs)))
  joined_step old out between new xs i d h e e1 e2 =
      e2 ∙ ap (λ t. t ++ g (f (get_or xs i d))) (e1 ∙ ap (λ t. t ++ byte_before c i) e)
      ∙ append_assoc (old ++ join_with_byte c (map g (map f (take i xs)))) (byte_before c i) (g (f (get_or xs i d)))
      ∙ append_assoc old (join_with_byte c (map g (map f (take i xs)))) (byte_before c i ++ g (f (get_or xs i d)))
      ∙ ap (λ t. old ++ t) (sym (joined_suc xs i d h) ∙ ap (λ k. join_with_byte c (map g (map f (take k xs)))) (sym (add-one i)))

-- parts with a byte between each two: the first, and each other one behind the byte
pub joined_first : (c : ℕ) (x : List ℕ) (xs : List (List ℕ)) → join_with_byte c (x ∷ xs) ≡ x ++ each_behind_byte c xs
joined_first c x [] = simp append-nil
joined_first c x (y ∷ ys) = ap (λ t. x ++ c ∷ t) (joined_first c y ys)
