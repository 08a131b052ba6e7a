-- Steps that come out of branches in joins, groupings and climbs too, step by step, branch by branch and key by key.
use Rattle.std.proofs.Common.{◌≡◌, refl, sym, ◌∙◌, ap, ℕ, ◌+◌, ◌<◌, ◌≤◌, List, [], ◌∷◌, ◌++◌, drop, take, get_or, length, map}
use Rattle.std.proofs.lemmas.List.{append_assoc, append-nil, drop_all, take_all}
use Rattle.apply_ast.specs.Trees.{Key, Keys, Pipe, Pipes, Step, pipe}
use Rattle.apply_ast.specs.Views.{keys_from, pipes_from}
use Rattle.rewrite_forms.proofs.CutLists.{dropped-next}
use Rattle.walk_laws.specs.Factored.{inside_branches, inside_key, inside_keys, inside_step, inside_steps}

-- what comes out of branches
branches-inside : {X : Type 0} (f : X → Pipe) (xs : List X) → map (λ x. inside_steps (f x)) xs ≡ inside_branches (pipes_from (map f xs))
branches-inside f [] = refl
branches-inside f (x ∷ xs) = ap (λ l. inside_steps (f x) ∷ l) (branches-inside f xs)

pub branches-end : {X : Type 0} (f : X → Pipe) (xs : List X) (i : ℕ) (ls : List (List Step)) (ps : Pipes) → length xs ≤ i → ls ≡ map (λ x. inside_steps (f x)) (take i xs) → ps ≡ pipes_from (map f xs) → ls ≡ inside_branches ps
branches-end f xs i ls ps h e is = e ∙ ap (map (λ x. inside_steps (f x))) (take_all i xs h) ∙ branches-inside f xs ∙ sym (ap inside_branches is)

-- what comes out of steps
pub steps-more : {X : Type 0} (f : X → Step) (xs : List X) (i : ℕ) (d : X) (before behind' : List Step) → i < length xs → d ≡ get_or xs i d → behind' ≡ before ++ inside_step (f d)
    → before ++ inside_steps (pipe (map f (drop i xs))) ≡ behind' ++ inside_steps (pipe (map f (drop (i + 1) xs)))
steps-more f xs i d before behind' h is e =
    ap (λ l. before ++ inside_steps (pipe l)) (dropped-next f xs i d h is)
    ∙ sym (append_assoc before (inside_step (f d)) (inside_steps (pipe (map f (drop (i + 1) xs)))))
    ∙ ap (λ l. l ++ inside_steps (pipe (map f (drop (i + 1) xs)))) (sym e)

pub steps-end : {X : Type 0} (f : X → Step) (xs : List X) (i : ℕ) (made : List Step) → length xs ≤ i → made ++ inside_steps (pipe (map f (drop i xs))) ≡ made
steps-end f xs i made h = ap (λ l. made ++ inside_steps (pipe (map f l))) (drop_all i xs h) ∙ append-nil made

-- what comes out in what chooses the nodes of keys
keys-inside : {X : Type 0} (f : X → Key) (xs : List X) → keys_from (map (λ x. inside_key (f x)) xs) ≡ inside_keys (keys_from (map f xs))
keys-inside f [] = refl
keys-inside f (x ∷ xs) = ap (Keys.MoreKeys (inside_key (f x))) (keys-inside f xs)

pub keys-end : {X : Type 0} (f : X → Key) (xs : List X) (i : ℕ) (made : List Key) (ks ks' : Keys) → length xs ≤ i → made ≡ map (λ x. inside_key (f x)) (take i xs) → ks ≡ keys_from (map f xs) → ks' ≡ keys_from made → ks' ≡ inside_keys ks
keys-end f xs i made ks ks' h e is from = from ∙ ap keys_from (e ∙ ap (map (λ x. inside_key (f x))) (take_all i xs h)) ∙ keys-inside f xs ∙ sym (ap inside_keys is)
