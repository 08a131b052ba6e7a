-- Texts that are appended one after another.
use Rattle.std.proofs.Common.{◌≡◌, ℕ, List, ◌∷◌, ◌++◌, codes, sym, ap, ◌∙◌, append_assoc, Result, Ok, Err, OnOk, map}
use Rattle.apply_ast.specs.Printing.{call, enclosed, each_behind_byte, print, print_key, print_keys, print_branches}
use Rattle.apply_ast.specs.Views.{key_of, keys_of, keys_in, pipe_of, pipes_of, pipes_in}
use Rattle.apply_ast.specs.declared.steps.KeyList as of_keys
use Rattle.apply_ast.specs.declared.steps.PipeList as of_pipes
use Rattle.apply_ast.proofs.PrintingEquations.{print_keys-from, print_branches-from}
use Rattle.apply_ast.proofs.ViewEquations.{keys_of-is, pipes_of-is}
use Rattle.apply_ast.proofs.WrittenLists.{joined_first}

-- what follows from what holds on success
pub on_ok : {T E P Q : Type 0} (r : Result T E) → (P → Q) → OnOk r P → OnOk r Q
on_ok (Ok x) f h = f h
on_ok (Err e) f h = h

-- ---- from two to six texts behind what was there

pub then2 : (o a b : List ℕ) {x y : List ℕ} → x ≡ o ++ a → y ≡ x ++ b → y ≡ o ++ (a ++ b)
then2 o a b e f = f ∙ ap (λ t. t ++ b) e ∙ append_assoc o a b

pub then3 : (o a b c : List ℕ) {x y z : List ℕ} → x ≡ o ++ a → y ≡ x ++ b → z ≡ y ++ c → z ≡ o ++ (a ++ (b ++ c))
then3 o a b c {x} e f g = then2 o a (b ++ c) e (then2 x b c f g)

pub then4 : (o a b c d : List ℕ) {x y z u : List ℕ} → x ≡ o ++ a → y ≡ x ++ b → z ≡ y ++ c → u ≡ z ++ d → u ≡ o ++ (a ++ (b ++ (c ++ d)))
then4 o a b c d {x} e f g h = then2 o a (b ++ (c ++ d)) e (then3 x b c d f g h)

pub then5 : (o a b c d k : List ℕ) {x y z u v : List ℕ} → x ≡ o ++ a → y ≡ x ++ b → z ≡ y ++ c → u ≡ z ++ d → v ≡ u ++ k → v ≡ o ++ (a ++ (b ++ (c ++ (d ++ k))))
then5 o a b c d k {x} e f g h i = then2 o a (b ++ (c ++ (d ++ k))) e (then4 x b c d k f g h i)

pub then6 : (o a b c d k l : List ℕ) {x y z u v w : List ℕ} → x ≡ o ++ a → y ≡ x ++ b → z ≡ y ++ c → u ≡ z ++ d → v ≡ u ++ k → w ≡ v ++ l → w ≡ o ++ (a ++ (b ++ (c ++ (d ++ (k ++ l)))))
then6 o a b c d k l {x} e f g h i j = then2 o a (b ++ (c ++ (d ++ (k ++ l)))) e (then5 x b c d k l f g h i j)

-- ---- calls by their first arguments and the others

pub call_first : (w x : List ℕ) (xs : List (List ℕ)) → w ++ (codes "(" ++ (x ++ (each_behind_byte 44 xs ++ codes ")"))) ≡ call w (x ∷ xs)
call_first w x xs = ap (λ t. w ++ (40 ∷ t)) (sym (append_assoc x (each_behind_byte 44 xs) (codes ")")) ∙ ap (λ t. t ++ codes ")") (sym (joined_first 44 x xs)))

pub call_after : (w x : List ℕ) (xs : List (List ℕ)) → (w ++ (codes "(" ++ x)) ++ (each_behind_byte 44 xs ++ codes ")") ≡ call w (x ∷ xs)
call_after w x xs = append_assoc w (40 ∷ x) (each_behind_byte 44 xs ++ codes ")") ∙ call_first w x xs

-- the first argument is a list in parentheses
pub call_list : (w x : List ℕ) (xs : List (List ℕ)) → w ++ (codes "((" ++ (x ++ (codes ")" ++ (each_behind_byte 44 xs ++ codes ")")))) ≡ call w (enclosed x ∷ xs)
call_list w x xs = ap (λ t. w ++ (40 ∷ 40 ∷ t)) (sym (append_assoc x (codes ")") (each_behind_byte 44 xs ++ codes ")"))) ∙ call_first w (enclosed x) xs

pub call_second : (w x y : List ℕ) (xs : List (List ℕ)) → w ++ (codes "(" ++ ((x ++ (codes "," ++ y)) ++ (each_behind_byte 44 xs ++ codes ")"))) ≡ call w (x ∷ y ∷ xs)
call_second w x y xs =
    ap (λ t. w ++ (40 ∷ t))
    (sym (append_assoc (x ++ (44 ∷ y)) (each_behind_byte 44 xs) (codes ")"))
    ∙ ap (λ t. t ++ codes ")") (append_assoc x (44 ∷ y) (each_behind_byte 44 xs) ∙ ap (λ t. x ++ (44 ∷ t)) (sym (joined_first 44 y xs))))

pub call_third : (w x y z : List ℕ) (xs : List (List ℕ)) → w ++ (codes "(" ++ ((x ++ (codes "," ++ y)) ++ (codes "," ++ (z ++ (each_behind_byte 44 xs ++ codes ")"))))) ≡ call w (x ∷ y ∷ z ∷ xs)
call_third w x y z xs = ap (λ t. w ++ (40 ∷ ((x ++ (44 ∷ y)) ++ (44 ∷ t)))) (sym (append_assoc z (each_behind_byte 44 xs) (codes ")"))) ∙ call_second w x y (z ∷ xs)

pub call_climb : (w x y z : List ℕ) (xs : List (List ℕ)) → (w ++ (codes "(" ++ ((x ++ (codes "," ++ y)) ++ codes ","))) ++ (z ++ (each_behind_byte 44 xs ++ codes ")")) ≡ call w (x ∷ y ∷ z ∷ xs)
call_climb w x y z xs =
    append_assoc w (40 ∷ ((x ++ (44 ∷ y)) ++ codes ",")) (z ++ (each_behind_byte 44 xs ++ codes ")"))
    ∙ ap (λ t. w ++ (40 ∷ t)) (append_assoc (x ++ (44 ∷ y)) (codes ",") (z ++ (each_behind_byte 44 xs ++ codes ")")))
    ∙ call_third w x y z xs

-- ---- the lists of the family

pub printed_keys : (l : of_keys.KeyList) → map print_key (map key_of (keys_in l)) ≡ print_keys (keys_of l)
printed_keys l = sym (ap print_keys (keys_of-is l) ∙ print_keys-from (map key_of (keys_in l)))

pub printed_pipes : (l : of_pipes.PipeList) → map print (map pipe_of (pipes_in l)) ≡ print_branches (pipes_of l)
printed_pipes l = sym (ap print_branches (pipes_of-is l) ∙ print_branches-from (map pipe_of (pipes_in l)))
