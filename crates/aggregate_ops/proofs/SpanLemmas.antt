-- Keys that stand one after the other in a list of values.
use Rattle.std.proofs.Common.{◌≡◌, ℕ, ◌-◌, ◌≤◌, List, [], ◌∷◌, ◌++◌, length, map, take, drop, refl, sym, ◌∙◌, ap, subst, arith, length-append, length-drop}
use Rattle.std.specs.Prelude.{All}
use Rattle.std.specs.Global.{Vec}
use Rattle.std.proofs.Math.Seq.{drop-append_seam}
use Rattle.std.proofs.lemmas.List.{append-nil, append_assoc, drop-append-le, take-append-le, take_all}
use Rattle.std.proofs.lemmas.List.Elements.{All-cons, All-head, All-nil, All-tail}
use Rattle.edm_values.specs.declared.Value.{Value}
use Rattle.aggregate_ops.specs.declared.groups.Span.{Span}
use Rattle.aggregate_ops.specs.Fronts.{Entry}
use Rattle.aggregate_ops.specs.KeyTables.{map_groups}
use Rattle.aggregate_ops.specs.Spans.{AreSpansOf, span, spanned}

abbrev IsIn : ℕ → Span → Type 0
IsIn n s = (s.begin ≤ s.end) × (s.end ≤ n)

-- the keys of all entries but those that are left stand in the list
pub record AreSpansTo (values : List Value) (left all : List (List Value × Vec ℕ)) (spans : List Span) : Type 0 where
  pub within : All (λ s. (s.begin ≤ s.end) × (s.end ≤ length values)) spans
  pub are : map (spanned values) spans ++ map_groups left ≡ map_groups all

pub spans-begin : (values : List Value) (all : List (List Value × Vec ℕ)) (spans : List Span) → spans ≡ [] → AreSpansTo values all all spans
spans-begin values all spans none = record { within = λ i d h. absurd (let e = ap length none in omega arith); are = ap (λ ss. map (spanned values) ss ++ map_groups all) none }

-- what stands in a list stands there when more is put behind
stays : (values more : List Value) (b e : ℕ) → b ≤ e → e ≤ length values → span (values ++ more) b e ≡ span values b e
stays values more b e up within =
    ap (take (e - b)) (drop-append-le b values more (omega arith))
    ∙ take-append-le (e - b) (drop b values) more (omega (arith, length-drop b values))

all-stay : (values more : List Value) (spans : List Span) → All (IsIn (length values)) spans → map (spanned (values ++ more)) spans ≡ map (spanned values) spans
all-stay values more [] a = refl
all-stay values more (s ∷ spans) a =
    let in' = All-head (IsIn (length values)) s spans a in
    let rest = all-stay values more spans (All-tail (IsIn (length values)) s spans a) in
    λ i. (stays values more s.begin s.end in'.0 in'.1 i, s.places.items) ∷ rest i

-- the last key
last : (values key : List Value) (e : ℕ) → e ≡ length (values ++ key) → span (values ++ key) (length values) e ≡ key
last values key e end =
    ap (take (e - length values)) (drop-append_seam values key)
    ∙ take_all (e - length values) key (omega (arith, length-append values key))

all-more : (m n : ℕ) (spans : List Span) (s : Span) → m ≤ n → All (IsIn m) spans → IsIn n s → All (IsIn n) (spans ++ s ∷ [])
all-more m n [] s le a here = All-cons (IsIn n) s [] here (All-nil (IsIn n))
all-more m n (t ∷ spans) s le a here =
    let h = All-head (IsIn m) t spans a in
    let first = h.0 in
    let second = h.1 in
    All-cons (IsIn n) t (spans ++ s ∷ []) (omega arith, omega arith) (all-more m n spans s le (All-tail (IsIn m) t spans a) here)

map-push : {X Y : Type 0} (f : X → Y) (xs : List X) (x : X) (ys : List Y) → map f (xs ++ x ∷ []) ++ ys ≡ map f xs ++ f x ∷ ys
map-push f [] x ys = refl
map-push f (z ∷ xs) x ys = ap (λ l. f z ∷ l) (map-push f xs x ys)

pub spans-next : (values values' : List Value) (left all : List (List Value × Vec ℕ)) (spans spans' : List Span) (key : List Value) (places own : Vec ℕ) (s : Span) → AreSpansTo values ((key, places) ∷ left) all spans
    → values' ≡ values ++ key → own.items ≡ places.items → s ≡ record { begin = length values; end = length values'; places = own } → spans' ≡ spans ++ s ∷ [] → AreSpansTo values' left all spans'
spans-next values values' left all spans spans' key places own s so grown same is pushed =
    let size = ap length grown in
    let sum = length-append values key in
    let b : s.begin ≡ length values = ap (λ s. s.begin) is in
    let e : s.end ≡ length values' = ap (λ s. s.end) is in
    let here : IsIn (length values') s = (omega arith, omega arith) in
    let entry : spanned values' s ≡ (key, places.items) =
    (λ i. (span (grown i) (b i) (e i), (is i).places.items)) ∙ (λ i. (last values key (length values') (ap length grown) i, same i)) in
    record {
      within = subst (λ ss. All (IsIn (length values')) ss) (sym pushed) (all-more (length values) (length values') spans s (omega arith) so.within here);
      are = ap (λ ss. map (spanned values') ss ++ map_groups left) pushed
          ∙ map-push (spanned values') spans s (map_groups left)
          ∙ (λ i. (ap (λ vs. map (spanned vs) spans) grown ∙ all-stay values key spans so.within) i ++ entry i ∷ map_groups left)
          ∙ so.are;
    }

pub spans-done : (values : List Value) (all : List (List Value × Vec ℕ)) (spans : List Span) → AreSpansTo values [] all spans → AreSpansOf values (map_groups all) spans
spans-done values all spans so = record { within = so.within; are = sym (append-nil (map (spanned values) spans)) ∙ so.are }

-- ---- the groups whose keys stand there

pub spanned-next : (values : List Value) (gs gs' : List Entry) (left rest : List Span) (all : List Entry) (s : Span) (x : Entry) → left ≡ s ∷ rest → x ≡ spanned values s → gs' ≡ gs ++ x ∷ [] → gs ++ map (spanned values) left ≡ all → gs' ++ map (spanned values) rest ≡ all
spanned-next values gs gs' left rest all s x next own pushed so =
    (λ i. pushed i ++ map (spanned values) rest)
    ∙ append_assoc gs (x ∷ []) (map (spanned values) rest)
    ∙ (λ i. gs ++ own i ∷ map (spanned values) rest)
    ∙ ap (λ l. gs ++ map (spanned values) l) (sym next)
    ∙ so

pub within-first : (n : ℕ) (left rest : List Span) (s : Span) → left ≡ s ∷ rest → All (λ s. (s.begin ≤ s.end) × (s.end ≤ n)) left → (s.begin ≤ s.end) × (s.end ≤ n)
within-first n left rest s next a = All-head (IsIn n) s rest (subst (All (IsIn n)) next a)

pub within-rest : (n : ℕ) (left rest : List Span) (s : Span) → left ≡ s ∷ rest → All (λ s. (s.begin ≤ s.end) × (s.end ≤ n)) left → All (λ s. (s.begin ≤ s.end) × (s.end ≤ n)) rest
within-rest n left rest s next a = All-tail (IsIn n) s rest (subst (All (IsIn n)) next a)
