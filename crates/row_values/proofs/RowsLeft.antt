-- Rows that are extended one after the other, each by the columns at its place.
use Rattle.std.proofs.Common.{◌≡◌, ◌∙◌, ℕ, zero, suc, ◌+◌, ◌<◌, IsTrue, List, [], ◌∷◌, ◌++◌, ap, refl, sym, subst, map, length, drop, add-one, append_assoc, arith}
use Rattle.std.proofs.lemmas.Bool.{and_parts}
use Rattle.edm_data.specs.Worlds.{World}
use Rattle.edm_values.specs.declared.Value.{Value}
use Rattle.edm_values.specs.Names.{Path}
use Rattle.apply_ast.specs.Trees.{Named}
use Rattle.apply_ast.specs.Views.{expr_of, named_of}
use Rattle.apply_ast.specs.declared.items.Named as of_named
use Rattle.apply_meaning.specs.Instances.{Instance, extended, val}
use Rattle.apply_meaning.specs.Meaning.{values}
use Rattle.apply_meaning.specs.Running.{all_free, new_columns}
use Rattle.apply_meaning.specs.RowViews.{columns_differ}
use Rattle.row_values.specs.Columns.{columns_at}
use Rattle.row_values.proofs.Columns.{columns-are}

-- the rows that are made, and those that are left from a place on
pub record RowsLeft (w : World) (ns : List Named) (rows made : List Instance) (k : ℕ) (rest : List Instance) : Type 0 where
  pub rows_left : drop k rows ≡ rest
  pub rows_made : map (λ i. extended i (new_columns w ns i)) rows ≡ made ++ map (λ i. extended i (new_columns w ns i)) rest
  pub free : IsTrue (all_free w ns rest)

pub none-made : (w : World) (ns : List Named) (rows : List Instance) → IsTrue (all_free w ns rows) → RowsLeft w ns rows [] 0 rows
none-made w ns rows f = record { rows_left = refl; rows_made = refl; free = f }

-- the same, by other names
pub left-as : (w : World) (ns : List Named) (rows made made' : List Instance) (k k' : ℕ) (rest rest' : List Instance) → made ≡ made' → k ≡ k' → rest ≡ rest' → RowsLeft w ns rows made k rest → RowsLeft w ns rows made' k' rest'
left-as w ns rows made made' k k' rest rest' e f g h = subst (λ xs. RowsLeft w ns rows xs k' rest') e (subst (λ n. RowsLeft w ns rows made n rest') f (subst (RowsLeft w ns rows made k) g h))

at-drop : (l : List Instance) (k : ℕ) (x : Instance) (xs : List Instance) → drop k l ≡ x ∷ xs → drop (suc k) l ≡ xs
at-drop [] zero x xs e = cc
at-drop [] (suc k) x xs e = cc
at-drop (y ∷ l) zero x xs e = cc
at-drop (y ∷ l) (suc k) x xs e = at-drop l k x xs e

-- the place of the next row is one of the list
pub place-within : (l : List Instance) (k : ℕ) (x : Instance) (xs : List Instance) → drop k l ≡ x ∷ xs → k < length l
place-within [] zero x xs e = absurd (cc)
place-within [] (suc k) x xs e = absurd (cc)
place-within (y ∷ l) zero x xs e = omega arith
place-within (y ∷ l) (suc k) x xs e = let h = place-within l k x xs e in omega (arith, h)

-- the next row may have its new columns
pub row-free : (w : World) (ns : List Named) (rows made : List Instance) (k : ℕ) (x : Instance) (rest : List Instance) (cs : List (Path × Value)) → RowsLeft w ns rows made k (x ∷ rest) → cs ≡ new_columns w ns x
    → IsTrue (columns_differ (x.columns ++ cs))
row-free w ns rows made k x rest cs L e = subst (λ ds. IsTrue (columns_differ (x.columns ++ ds))) (sym e) (and_parts (columns_differ (x.columns ++ new_columns w ns x)) (all_free w ns rest) L.free).0

-- the next row is made
pub row-made : (w : World) (ns : List Named) (rows made : List Instance) (k : ℕ) (x : Instance) (rest : List Instance) (cs : List (Path × Value)) → RowsLeft w ns rows made k (x ∷ rest) → cs ≡ new_columns w ns x
    → RowsLeft w ns rows (made ++ extended x cs ∷ []) (k + 1) rest
row-made w ns rows made k x rest cs L e =
    let each : List Instance = map (λ i. extended i (new_columns w ns i)) rest in
    record {
      rows_left = ap (λ n. drop n rows) (add-one k) ∙ at-drop rows k x rest L.rows_left;
      rows_made = L.rows_made ∙ sym (append_assoc made (extended x (new_columns w ns x) ∷ []) each) ∙ ap (λ ds. (made ++ extended x ds ∷ []) ++ each) (sym e);
      free = (and_parts (columns_differ (x.columns ++ new_columns w ns x)) (all_free w ns rest) L.free).1;
    }

named : (w : World) (x : Instance) (items : List of_named.Named) → map (λ n. (n.name ∷ [], val w x (expr_of n.expr))) items ≡ new_columns w (map named_of items) x
named w x [] = refl
named w x (n ∷ ns) = ap (λ cs. (n.name ∷ [], val w x (expr_of n.expr)) ∷ cs) (named w x ns)

-- the columns at the place of a row are its new ones
pub new-at : (w : World) (items : List of_named.Named) (rows : List Instance) (k : ℕ) (x : Instance) (rest : List Instance) (ps : List Path) (ls : List (List Value)) → drop k rows ≡ x ∷ rest
    → ps ≡ map (λ n. n.name ∷ []) items → ls ≡ map (λ n. values w (expr_of n.expr) rows) items → columns_at ps ls k ≡ new_columns w (map named_of items) x
new-at w items rows k x rest ps ls e p l =
    (λ i. columns_at (p i) (l i) k) ∙ columns-are (λ n. n.name ∷ []) (λ n i. val w i (expr_of n.expr)) items rows k x rest e ∙ named w x items
