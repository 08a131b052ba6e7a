-- Values that hang on the text of one property.
use Rattle.std.proofs.Common.{◌≡◌, ◌∙◌, ℕ, zero, suc, ◌<◌, List, [], ◌∷◌, Option, None, Some, ap, arith, get_or, length, map, refl, subst, sym}
use Rattle.std.specs.Prelude.{IfSome, option_and_then, option_map, slice_get, unwrap_or}
use Rattle.std.specs.List.{All}
use Rattle.std.proofs.lemmas.List.Elements.{All-tail}
use Rattle.std.proofs.lemmas.Option.{slice_get-get_or, slice_get-map}
use Rattle.edm_values.specs.declared.Value.{Value}
use Rattle.edm_values.specs.Values.{seen_value}
use Rattle.edm_data.specs.NumberedTexts.{NumberedList, numbered_texts, numbered_values}
use Rattle.edm_data.specs.Worlds.{World}
use Rattle.apply_ast.specs.declared.expressions.UnOp.{UnOp}
use Rattle.apply_ast.specs.declared.expressions.UnOp.TheVariants as unop
use Rattle.apply_ast.specs.Trees.{Expr}
use Rattle.apply_meaning.specs.Instances.{Instance, val}
use Rattle.row_frames.specs.declared.told.TextValues.{TextValues}
use Rattle.row_frames.specs.Blocks.{unary}
use Rattle.row_frames.specs.Frames.{value_at}
use Rattle.row_frames.specs.Told.{at_number, told_at}

-- ---- an operation on the values

unwrapped : (f : Value → Value) (o : Option Value) (other : Value) → unwrap_or (option_map f o) (f other) ≡ f (unwrap_or o other)
unwrapped f None other = refl
unwrapped f (Some v) other = refl

of-number : (f : Value → Value) (vs : List Value) (other : Value) (n : Option ℕ) → unwrap_or (option_and_then (slice_get (map f vs)) n) (f other) ≡ f (unwrap_or (option_and_then (slice_get vs) n) other)
of-number f vs other None = refl
of-number f vs other (Some n) = ap (λ o. unwrap_or o (f other)) (slice_get-map f vs n) ∙ unwrapped f (slice_get vs n) other

-- is one on the value for each entity
pub told-by : (f : Value → Value) (d d' : TextValues) → d'.numbers.now ≡ d.numbers.now → map (λ v. seen_value v) d'.values.items ≡ map f (map (λ v. seen_value v) d.values.items) → seen_value d'.null ≡ f (seen_value d.null)
    → (at : Option ℕ) → told_at d' at ≡ f (told_at d at)
told-by f d d' numbers values null at =
    (λ i. at_number (values i) (null i) (numbers i) at)
    ∙ of-number f (map (λ v. seen_value v) d.values.items) (seen_value d.null) (option_and_then (slice_get d.numbers.now) at)

-- ---- the texts themselves

there : (P : ℕ → Type 0) (xs : List ℕ) → All P xs → (k : ℕ) → IfSome (slice_get xs k) P
there P [] h k = tt
there P (x ∷ xs) h zero = h 0 x (omega arith)
there P (x ∷ xs) h (suc k) = there P xs (All-tail P x xs h) k

text-of : (pool : List (List ℕ)) (n : Option ℕ) → IfSome n (λ m. m < length pool) → unwrap_or (option_and_then (slice_get (map Value.Text pool)) n) Value.Null ≡ unwrap_or (option_map Value.Text (option_map (λ m. get_or pool m []) n)) Value.Null
text-of pool None h = refl
text-of pool (Some n) h = ap (λ o. unwrap_or o Value.Null) (slice_get-map Value.Text pool n ∙ ap (option_map Value.Text) (slice_get-get_or pool n [] h))

text-at : (l : NumberedList) → All (λ n. n < length l.pool) l.numbers → (at : Option ℕ) → at_number (map Value.Text l.pool) Value.Null l.numbers at ≡ value_at (numbered_values l) at
text-at l within None = refl
text-at l within (Some k) =
    text-of l.pool (slice_get l.numbers k) (there (λ n. n < length l.pool) l.numbers within k)
    ∙ ap (λ o. unwrap_or o Value.Null) (sym (slice_get-map Value.Text (numbered_texts l) k ∙ ap (option_map Value.Text) (slice_get-map (λ n. get_or l.pool n []) l.numbers k)))

pub texts-told : (l : NumberedList) (d : TextValues) → d.numbers.now ≡ l.numbers → All (λ n. n < length l.pool) d.numbers.now → map (λ v. seen_value v) d.values.items ≡ map Value.Text l.pool → seen_value d.null ≡ Value.Null
    → (at : Option ℕ) → told_at d at ≡ value_at (numbered_values l) at
texts-told l d numbers within values null at =
    (λ i. at_number (values i) (null i) (numbers i) at)
    ∙ text-at l (subst (λ ns. All (λ n. n < length l.pool) ns) numbers within) at

-- ---- expressions

-- the value of a unary operation
pub val-unary : (w : World) (i : Instance) (o : UnOp) (e : Expr) → val w i (Expr.Unary o e) ≡ unary o (val w i e)
val-unary w i unop.Neg e = refl
val-unary w i unop.Not e = refl
