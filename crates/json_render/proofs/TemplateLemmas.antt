-- What a member adds to a template.
use Rattle.std.proofs.Common.{◌≡◌, ℕ, List, [], ◌∷◌, ◌++◌, sym, ◌∙◌, ap, append_assoc}
use Rattle.std.proofs.lemmas.List.{append-nil}

-- a member's name and its value behind a text
pub member-end : (front tail more old comma name value : List ℕ) → front ++ tail ≡ old ++ (comma ++ (name ++ 58 ∷ [])) → more ≡ tail ++ value → front ++ more ≡ old ++ ((comma ++ (name ++ 58 ∷ value)) ++ [])
member-end front tail more old comma name value h m =
    ap (λ xs. front ++ xs) m ∙ sym (append_assoc front tail value) ∙ ap (λ xs. xs ++ value) h ∙ append_assoc old (comma ++ (name ++ 58 ∷ [])) value
    ∙ ap (λ xs. old ++ xs) (append_assoc comma (name ++ 58 ∷ []) value ∙ ap (λ xs. comma ++ xs) (append_assoc name (58 ∷ []) value) ∙ sym (append-nil (comma ++ (name ++ 58 ∷ value))))
