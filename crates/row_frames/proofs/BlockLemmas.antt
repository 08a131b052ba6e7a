-- Operations on the values in the rows of a block.
use Rattle.std.proofs.Common.{◌≡◌, ◌∙◌, List, [], ◌∷◌, ◌++◌, ap, arith, get_or, length, map, refl, subst, sym, append_assoc}
use Rattle.std.specs.Prelude.{IfOk}
use Rattle.std.specs.declared.result.Result as result
use Rattle.std.specs.declared.result.Result.TheVariants.{Ok, Err}
use Rattle.std.proofs.lemmas.List.{length-map}
use Rattle.edm_values.specs.declared.Seen.{Seen}
use Rattle.edm_values.specs.declared.Value.{Value}
use Rattle.edm_values.specs.Values.{seen_value}
use Rattle.std.specs.List.{All}
use Rattle.std.proofs.lemmas.List.Elements.{All-head, All-tail}
use Rattle.apply_ast.specs.declared.expressions.UnOp.{UnOp}
use Rattle.apply_ast.specs.declared.expressions.UnOp.TheVariants.{Neg, Not}
use Rattle.row_frames.specs.declared.typed_blocks.Block.{Block}
use Rattle.row_frames.specs.Blocks.{block_values, paired}
use Rattle.row_frames.specs.declared.readers.Bound as of_bound
use Rattle.row_frames.specs.declared.readers.TableReader.{TableReader}
use Rattle.row_frames.specs.declared.tables.Pick.{Pick}
use Rattle.row_frames.specs.Frames.{bound_value, read_at, IsReadable}
use Rattle.row_frames.proofs.ReadLemmas.{row-read}

-- the values that are seen
abbrev pub seen : List Seen → List Value
seen vs = map (λ v. seen_value v) vs

mapped : {A : Type 0} (F : Value → Value) (f g : A → Value) (xs : List A) → ((x : A) → F (f x) ≡ g x) → map F (map f xs) ≡ map g xs
mapped F f g [] h = refl
mapped F f g (x ∷ xs) h = λ i. h x i ∷ mapped F f g xs h i

paired-mapped : {A : Type 0} (F : Value → Value → Value) (f f' g : A → Value) (xs : List A) → ((x : A) → F (f x) (f' x) ≡ g x) → paired F (map f xs) (map f' xs) ≡ map g xs
paired-mapped F f f' g [] h = refl
paired-mapped F f f' g (x ∷ xs) h = λ i. h x i ∷ paired-mapped F f f' g xs h i

-- an operation on the values of one operand
pub each-mapped : {A E : Type 0} (F : Value → Value) (f g : A → Value) (xs : List A) (b : Block) (r : result.Result Block E) → block_values b ≡ map f xs → ((x : A) → F (f x) ≡ g x)
    → IfOk r (λ c. block_values c ≡ map F (block_values b)) → IfOk r (λ c. block_values c ≡ map g xs)
each-mapped F f g xs b (Ok c) e h k = k ∙ ap (map F) e ∙ mapped F f g xs h
each-mapped F f g xs b (Err x) e h k = k

-- an operation on the values of two operands
pub each-paired : {A E : Type 0} (F : Value → Value → Value) (f f' g : A → Value) (xs : List A) (b b' : Block) (r : result.Result Block E) → block_values b ≡ map f xs → block_values b' ≡ map f' xs
    → ((x : A) → F (f x) (f' x) ≡ g x) → IfOk r (λ c. block_values c ≡ paired F (block_values b) (block_values b')) → IfOk r (λ c. block_values c ≡ map g xs)
each-paired F f f' g xs b b' (Ok c) e e' h k = k ∙ (λ i. paired F (e i) (e' i)) ∙ paired-mapped F f f' g xs h
each-paired F f f' g xs b b' (Err x) e e' h k = k

-- what is the same for both operations is the same for each
pub each-op : (f g : UnOp → Value) → f Neg ≡ g Neg → f Not ≡ g Not → (o : UnOp) → f o ≡ g o
each-op f g a b Neg = a
each-op f g a b Not = b

-- the values of two operands are as many as the rows
pub as-many : {A : Type 0} (f f' : A → Value) (xs : List A) (b b' : Block) → block_values b ≡ map f xs → block_values b' ≡ map f' xs → length (block_values b) ≡ length (block_values b')
as-many f f' xs b b' e e' = ap length e ∙ length-map xs f ∙ sym (length-map xs f') ∙ sym (ap length e')

-- the values of two blocks that are as many, as values
pub seen-as-many : (b b' : Block) (vs vs' : List Seen) → seen vs ≡ block_values b → seen vs' ≡ block_values b' → length (block_values b) ≡ length (block_values b') → length vs ≡ length vs'
seen-as-many b b' vs vs' e e' n =
    sym (length-map vs (λ v. seen_value v)) ∙ ap length e ∙ n ∙ sym (ap length e') ∙ length-map vs' (λ v. seen_value v)

-- the value of a bound expression in the row that is picked of a reader's table
abbrev pub read-by : TableReader → of_bound.Bound → Pick → Value
read-by r e x = bound_value r.store.now r.table.now x.row e

-- rows that are picked of one table alone
pub of-one : (rs : List TableReader) (r : TableReader) (xs : List Pick) → length rs ≡ 1 → r ≡ get_or rs 0 r → All (IsReadable rs) xs → map (read-by r r.bound) xs ≡ map (read_at rs) xs
of-one rs r [] n e H = refl
of-one rs r (x ∷ xs) n e H =
    let first = All-head (IsReadable rs) x xs H in
    let at : 0 ≡ x.table = omega (arith, first.within, n) in
    λ i. (row-read rs x r first (e ∙ ap (λ k. get_or rs k r) at)).1 i ∷ of-one rs r xs n e (All-tail (IsReadable rs) x xs H) i

pub from-one : {E : Type 0} (rs : List TableReader) (r : TableReader) (xs : List Pick) (made : result.Result Block E) → length rs ≡ 1 → r ≡ get_or rs 0 r → All (IsReadable rs) xs
    → IfOk made (λ b. block_values b ≡ map (read-by r r.bound) xs) → IfOk made (λ b. block_values b ≡ map (read_at rs) xs)
from-one rs r xs (Ok us) n e H k = k ∙ of-one rs r xs n e H
from-one rs r xs (Err x) n e H k = k

-- ---- blocks one after the other

pub map-map : {A B C : Type 0} (g : B → C) (f : A → B) (xs : List A) → map g (map f xs) ≡ map (λ x. g (f x)) xs
map-map g f [] = refl
map-map g f (x ∷ xs) = ap (λ l. g (f x) ∷ l) (map-map g f xs)

pub map-append : {A B : Type 0} (f : A → B) (xs ys : List A) → map f (xs ++ ys) ≡ map f xs ++ map f ys
map-append f [] ys = refl
map-append f (x ∷ xs) ys = ap (λ l. f x ∷ l) (map-append f xs ys)

-- what was found with that of one block more
pub block-step : {A B : Type 0} (f : A → B) (found found' whole : List B) (rest block behind : List A) → rest ≡ block ++ behind → found' ≡ found ++ map f block → found ++ map f rest ≡ whole → found' ++ map f behind ≡ whole
block-step f found found' whole rest block behind all made so-far =
    ap (λ l. l ++ map f behind) made ∙ append_assoc found (map f block) (map f behind)
    ∙ ap (λ l. found ++ l) (sym (map-append f block behind) ∙ ap (map f) (sym all)) ∙ so-far

All-second : {A : Type 0} (P : A → Type 0) (block behind : List A) → All P (block ++ behind) → All P behind
All-second P [] behind h = h
All-second P (x ∷ xs) behind h = All-second P xs behind (All-tail P x (xs ++ behind) h)

pub All-behind : {A : Type 0} (P : A → Type 0) (rest block behind : List A) → rest ≡ block ++ behind → All P rest → All P behind
All-behind P rest block behind all H = All-second P block behind (subst (All P) all H)
