-- Rows one after another: one row more, and the array of all.
use Rattle.std.proofs.Common.{◌≡◌, ℕ, zero, suc, ◌+◌, ◌<◌, Bool, true, false, List, [], ◌∷◌, ◌++◌, Some, None, length, map, take, get_or, refl, sym, ◌∙◌, ap, arith, add-one, append_assoc}
use Rattle.std.specs.Prelude.{codes, nat_lt, if◌then◌else◌}
use Rattle.std.specs.List.{list_any}
use Rattle.std.proofs.lemmas.Bool.{false≢true, lt-ltb}
use Rattle.std.proofs.lemmas.List.{append-nil}
use Rattle.serde_json.specs.View.{items_of}
use Rattle.serde_json.specs.Written.{comma_if, compact_text, items_text}
use Rattle.edm_data.specs.Worlds.{World}
use Rattle.context_typing.specs.Shapes.{Shape}
use Rattle.apply_meaning.specs.Instances.{Instance}
use Rattle.json_render.specs.Bodies.{body, body_json, context, has_beyond, row_json}
use Rattle.json_render.specs.RowRuns.{head_text, row_text, rows_run}
use Rattle.json_render.specs.RowTexts.{text_json}
use Rattle.json_render.proofs.PlainQuotes.{plain_json}

more-behind : (w : World) (s : Shape) (rows : List Instance) (k : ℕ) (d : Instance) → k < length rows → rows_run w s true (take (suc k) rows) ≡ rows_run w s true (take k rows) ++ 44 ∷ row_text w s (get_or rows k d)
more-behind w s [] k d h = absurd (omega arith)
more-behind w s (i ∷ is) zero d h = append-nil (44 ∷ row_text w s i)
more-behind w s (i ∷ is) (suc k) d h =
    ap (λ xs. (44 ∷ row_text w s i) ++ xs) (more-behind w s is k d (omega arith)) ∙ sym (append_assoc (44 ∷ row_text w s i) (rows_run w s true (take k is)) (44 ∷ row_text w s (get_or is k d)))

more : (w : World) (s : Shape) (rows : List Instance) (k : ℕ) (d : Instance) → k < length rows → rows_run w s false (take (suc k) rows) ≡ rows_run w s false (take k rows) ++ (comma_if (nat_lt 0 k) ++ row_text w s (get_or rows k d))
more w s [] k d h = absurd (omega arith)
more w s (i ∷ is) zero d h = append-nil (row_text w s i)
more w s (i ∷ is) (suc k) d h = ap (λ xs. row_text w s i ++ xs) (more-behind w s is k d (omega arith)) ∙ sym (append_assoc (row_text w s i) (rows_run w s true (take k is)) (44 ∷ row_text w s (get_or is k d)))
    ∙ ap (λ b. (row_text w s i ++ rows_run w s true (take k is)) ++ (comma_if b ++ row_text w s (get_or is k d))) (sym (lt-ltb 0 (suc k) (omega arith)))

-- a row was written behind those before it
pub row-written : (w : World) (s : Shape) (rows : List Instance) (k : ℕ) (d : Instance) (start old new : List ℕ) → k < length rows → new ≡ old ++ (comma_if (nat_lt 0 k) ++ row_text w s (get_or rows k d)) → old ≡ start ++ rows_run w s false (take k rows)
    → new ≡ start ++ rows_run w s false (take (k + 1) rows)
row-written w s rows k d start old new l h g =
    let line = comma_if (nat_lt 0 k) ++ row_text w s (get_or rows k d) in
    h ∙ ap (λ xs. xs ++ line) g ∙ append_assoc start (rows_run w s false (take k rows)) line ∙ ap (λ xs. start ++ xs) (sym (more w s rows k d l)) ∙ ap (λ n. start ++ rows_run w s false (take n rows)) (sym (add-one k))

-- a comma, and a row behind it
pub line-written : (old comma mid text new : List ℕ) → mid ≡ old ++ comma → new ≡ mid ++ text → new ≡ old ++ (comma ++ text)
line-written old comma mid text new h g = g ∙ ap (λ xs. xs ++ text) h ∙ append_assoc old comma text

-- the array of the rows
run-ended : (w : World) (s : Shape) (later : Bool) (rows : List Instance) → items_text later (items_of (map (row_json w s) rows)) ≡ rows_run w s later rows ++ 93 ∷ []
run-ended w s later [] = refl
run-ended w s later (i ∷ is) =
    ap (λ xs. comma_if later ++ (row_text w s i ++ xs)) (run-ended w s true is)
    ∙ sym (append_assoc (comma_if later) (row_text w s i) (rows_run w s true is ++ 93 ∷ []))
    ∙ sym (append_assoc (comma_if later ++ row_text w s i) (rows_run w s true is) (93 ∷ []))

not-beyond : (b : Bool) (o : List ℕ) → b ≡ false → (if b then None else Some o) ≡ Some o
not-beyond true o h = absurd (false≢true (sym h))
not-beyond false o h = refl

-- the whole body
whole : (w : World) (n : List ℕ) (s : Shape) (rows : List Instance) → compact_text (body_json w n s rows) ≡ (((codes "{\"@context\":" ++ text_json (context n s)) ++ codes ",\"value\":[") ++ rows_run w s false rows) ++ codes "]}"
whole w n s rows =
    let c = text_json (context n s) in
    let run = rows_run w s false rows in
    let front = codes "{\"@context\":" ++ c in
    let mid = codes ",\"value\":[" in
    (λ j. 123 ∷ (plain_json (codes "@context") refl j ++ 58 ∷ (c ++ 44 ∷ (plain_json (codes "value") refl j ++ 58 ∷ 91 ∷ (run-ended w s false rows j ++ 125 ∷ [])))))
    ∙ ap (λ xs. codes "{\"@context\":" ++ (c ++ (mid ++ xs))) (append_assoc run (93 ∷ []) (125 ∷ []))
    ∙ sym (append_assoc (codes "{\"@context\":") c (mid ++ (run ++ codes "]}")))
    ∙ sym (append_assoc front mid (run ++ codes "]}"))
    ∙ sym (append_assoc (front ++ mid) run (codes "]}"))

pub body-made : (w : World) (n : List ℕ) (s : Shape) (rows : List Instance) (text b1 b2 b3 b4 b5 : List ℕ) → b1 ≡ codes "{\"@context\":" → b2 ≡ b1 ++ text_json text → text ≡ context n s → b3 ≡ b2 ++ codes ",\"value\":[" → b4 ≡ b3 ++ rows_run w s false rows
    → b5 ≡ b4 ++ codes "]}" → list_any has_beyond rows ≡ false → body w n s rows ≡ Some b5
body-made w n s rows text b1 b2 b3 b4 b5 e1 e2 t e3 e4 e5 h =
    not-beyond (list_any has_beyond rows) (compact_text (body_json w n s rows)) h
    ∙ ap Some (whole w n s rows ∙ sym (e5 ∙ ap (λ xs. xs ++ codes "]}") (e4 ∙ ap (λ xs. xs ++ rows_run w s false rows) (e3 ∙ ap (λ xs. xs ++ codes ",\"value\":[") (e2 ∙ (λ j. e1 j ++ text_json (t j)))))))

-- the beginning of a body behind what was there
pub head-written : (old a t b b1 b2 b3 : List ℕ) → b1 ≡ old ++ a → b2 ≡ b1 ++ t → b3 ≡ b2 ++ b → b3 ≡ old ++ (a ++ (t ++ b))
head-written old a t b b1 b2 b3 e1 e2 e3 =
    e3 ∙ ap (λ xs. xs ++ b) (e2 ∙ ap (λ xs. xs ++ t) e1) ∙ append_assoc (old ++ a) t b ∙ append_assoc old a (t ++ b)

-- a body that has its beginning, its rows and its end
pub body-ended : (w : World) (n : List ℕ) (s : Shape) (rows : List Instance) (b1 b2 b3 : List ℕ) → b1 ≡ head_text n s → b2 ≡ b1 ++ rows_run w s false rows → b3 ≡ b2 ++ codes "]}" → list_any has_beyond rows ≡ false → body w n s rows ≡ Some b3
body-ended w n s rows b1 b2 b3 e1 e2 e3 h =
    let a = codes "{\"@context\":" in
    let t = text_json (context n s) in
    body-made w n s rows (context n s) a (a ++ t) b1 b2 b3 refl refl refl (e1 ∙ sym (append_assoc a t (codes ",\"value\":["))) e2 e3 h
