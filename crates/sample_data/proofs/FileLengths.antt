-- The file of at most 200,000 sales keeps the limit of data files.
use Rattle.std.proofs.Common.{ℕ, zero, suc, ◌+◌, ◌-◌, ◌*◌, ◌/◌, ◌%◌, ◌<◌, ◌≤◌, ◌==◌, Bool, true, false, cond, List, [], ◌∷◌, ◌++◌, length, map, take, drop, replicate, ap, arith, codes, decimal, pos, length-append, lit<}
use Rattle.std.specs.Prelude.{if◌then◌else◌, int_lt, nat_lt, slice_get, unwrap_or}
use Rattle.std.specs.Fmt.{sign_text}
use Rattle.std.proofs.lemmas.Fmt.{length-decimal-le}
use Rattle.std.proofs.lemmas.List.{length-replicate, take-append-drop}
use Rattle.std.specs.Char.{digit_char}
use Rattle.json.specs.Print.{escape, escape_byte, escape_letter}
use Rattle.serde_json.specs.Data.{Data, string, number, unsigned}
use Rattle.serde_json.specs.View.{items_of}
use Rattle.serde_json.specs.Written.{comma_if, compact_text, items_text}
use Rattle.edm_values.specs.Lists.{places}
use Rattle.edm_values.specs.Literals.{decimal_text, padded_decimal, with_point}
use Rattle.edm_values.proofs.EachLemmas.{Each}
use Rattle.edm_values.proofs.TopPlaces.{length-places, places-below}
use Rattle.edm_model.specs.JsonTrees.{object_of, array_of}
use Rattle.sample_data.specs.Generator.{customer_count, org_count, drawn, amount, buyer, seller, country, customer_name, org_name, customer_tree, org_tree, sale_tree, generated_tree}

-- ---- texts

escaped_most : (b c : Bool) (x l d e : ℕ) → length (cond b (92 ∷ l ∷ []) (cond c (92 ∷ 117 ∷ 48 ∷ 48 ∷ d ∷ e ∷ []) (x ∷ []))) ≤ 6
escaped_most true c x l d e = omega arith
escaped_most false true x l d e = omega arith
escaped_most false false x l d e = omega arith

byte_most : (x : ℕ) → length (escape_byte x) ≤ 6
unfolding escape_byte
byte_most x = escaped_most (nat_lt 0 (escape_letter x)) (nat_lt x 32) x (escape_letter x) (digit_char (x / 16)) (digit_char (x % 16))

-- each byte of a text is written by six at most
escape_most : (s : List ℕ) → length (escape s) ≤ 6 * length s
escape_most [] = omega arith
escape_most (x ∷ s) = omega (arith, length-append (escape_byte x) (escape s), byte_most x, escape_most s)

sign_most : (b : Bool) → length (sign_text b) ≤ 1
sign_most true = omega arith
sign_most false = omega arith

point_most : (ds : List ℕ) → length (with_point 2 ds) ≤ length ds + 1
point_most ds =
    let k = length ds - 2 in
    omega (arith, length-append (take k ds) (46 ∷ drop k ds), length-append (take k ds) (drop k ds), ap length (take-append-drop k ds))

padded_most : (w n m : ℕ) → w ≤ m → length (decimal n) ≤ m → length (padded_decimal w n) ≤ m
padded_most w n m h k =
    let zeros = length-replicate {A = ℕ} (w - length (decimal n)) 48 in
    omega (arith, length-append (replicate (w - length (decimal n)) 48) (decimal n), zeros)

amount_most : (m : ℕ) → m < 10000 → length (decimal_text (pos m) 2) ≤ 6
amount_most m h =
    let digits : length (decimal m) ≤ 4 = length-decimal-le 4 m (lit< tt) h (omega arith) in
    let padded = padded_most 3 m 4 (omega arith) digits in
    let sign = int_lt (pos m) (pos 0) in
    omega (arith, length-append (sign_text sign) (with_point 2 (padded_decimal 3 m)), sign_most sign, point_most (padded_decimal 3 m), padded)

country_most : (j : ℕ) → length (country j) ≤ 2
country_most j = each (j % 4)
  where
    each : (k : ℕ) → length (unwrap_or (slice_get (codes "US" ∷ codes "NL" ∷ codes "FR" ∷ []) k) (codes "DE")) ≤ 2
    each zero = omega arith
    each (suc zero) = omega arith
    each (suc (suc zero)) = omega arith
    each (suc (suc (suc k))) = omega arith

-- ---- entities

sale_text : (t b s : List ℕ) (i : ℕ) → length t ≤ 6 → length b ≤ 2 → length s ≤ 5 → length (decimal i) ≤ 6
    → length (compact_text (object_of ((codes "Amount", string t) ∷ (codes "CustomerID", string b) ∷ (codes "ID", number (unsigned i)) ∷ (codes "OrgID", string s) ∷ []))) ≤ 132
unfolding escape_byte
sale_text t b s i ht hb hs hi = simp length-append (omega (arith, escape_most t, escape_most b, escape_most s))

org_text : (t : List ℕ) → length t ≤ 5 → length (compact_text (object_of ((codes "ID", string t) ∷ []))) ≤ 85
unfolding escape_byte
org_text t ht = simp length-append (omega (arith, escape_most t))

lower_org_text : (t p : List ℕ) → length t ≤ 5 → length p ≤ 5 → length (compact_text (object_of ((codes "ID", string t) ∷ (codes "ParentID", string p) ∷ []))) ≤ 85
unfolding escape_byte
lower_org_text t p ht hp = simp length-append (omega (arith, escape_most t, escape_most p))

customer_text : (c t : List ℕ) → length c ≤ 2 → length t ≤ 2 → length (compact_text (object_of ((codes "Country", string c) ∷ (codes "ID", string t) ∷ (codes "Name", string t) ∷ []))) ≤ 80
unfolding escape_byte
customer_text c t hc ht = simp length-append (omega (arith, escape_most c, escape_most t))

-- an identifier below ten, and one of four digits
short_name : (letter j : ℕ) → j < 10 → length (letter ∷ decimal j) ≤ 2
short_name letter j h = let digits : length (decimal j) ≤ 1 = length-decimal-le 1 j (lit< tt) h (omega arith) in omega arith

long_name : (letter j : ℕ) → j < 10000 → length (letter ∷ decimal j) ≤ 5
long_name letter j h = let digits : length (decimal j) ≤ 4 = length-decimal-le 4 j (lit< tt) h (omega arith) in omega arith

customer_most : (j : ℕ) → j < 10 → length (compact_text (customer_tree j)) ≤ 80
customer_most j h = customer_text (country j) (customer_name j) (country_most j) (short_name 67 j h)

org_most : (j : ℕ) → j < 10000 → length (compact_text (org_tree j)) ≤ 85
org_most j h = elim (j == 0) as (λ b. length (compact_text (object_of ((codes "ID", string (org_name j)) ∷ (if b then [] else (codes "ParentID", string (org_name ((j - 1) / 4))) ∷ [])))) ≤ 85) [
  | true ↦ org_text (org_name j) (long_name 79 j h)
  | false ↦ lower_org_text (org_name j) (org_name ((j - 1) / 4)) (long_name 79 j h) (long_name 79 ((j - 1) / 4) (omega arith))
]

sale_most : (n i : ℕ) → i < 1000000 → amount i < 10000 → buyer i < 10 → seller n i < 10000 → length (compact_text (sale_tree n i)) ≤ 132
sale_most n i h low few_customers few_orgs =
    let digits : length (decimal i) ≤ 6 = length-decimal-le 6 i (lit< tt) h (omega arith) in
    sale_text (decimal_text (pos (amount i)) 2) (customer_name (buyer i)) (org_name (seller n i)) i (amount_most (amount i) low) (short_name 67 (buyer i) few_customers) (long_name 79 (seller n i) few_orgs) digits

-- ---- the whole

comma_most : (later : Bool) → length (comma_if later) ≤ 1
comma_most true = omega arith
comma_most false = omega arith

items_most : (f : ℕ → Data) (m n : ℕ) → ((k : ℕ) → k < n → length (compact_text (f k)) + 1 ≤ m) → length (items_text false (items_of (map f (places n)))) ≤ m * n + 1
items_most f m n h = let size = length-places n in rw size at (each false (places n) (places-below n))
  where
    each : (later : Bool) (ks : List ℕ) → Each (λ k. k < n) ks → length (items_text later (items_of (map f ks))) ≤ m * length ks + 1
    each later [] all = omega arith
    each later (k ∷ ks) all =
        let rest = items_text true (items_of (map f ks)) in
        omega (arith, length-append (comma_if later) (compact_text (f k) ++ rest), length-append (compact_text (f k)) rest, comma_most later, h k all.0, each true ks all.1)

file_text : (customers orgs sales : List Data) → length (compact_text (object_of ((codes "Customers", array_of customers) ∷ (codes "Orgs", array_of orgs) ∷ (codes "Sales", array_of sales) ∷ []))) ≤ length (items_text false (items_of customers)) + (length (items_text false (items_of orgs)) + (length (items_text false (items_of sales)) + 40))
unfolding escape_byte
file_text customers orgs sales = simp length-append (omega arith)

rest_below : (x m k : ℕ) → 0 < m → m ≤ k → x % m < k
rest_below x m k h l = omega arith

pub file_most : (n : ℕ) → n ≤ 200000 → length (compact_text (generated_tree n)) ≤ 33554432
file_most n few =
    let customers = items_most customer_tree 81 customer_count (λ k less. let h : k < 10 = omega arith in omega (arith, customer_most k h)) in
    let orgs = items_most org_tree 86 (org_count n) (λ k less. let h : k < 10000 = omega arith in omega (arith, org_most k h)) in
    let sales = items_most (λ k. sale_tree n (k + 1)) 133 n (λ k less.
    let size = sale_most n (k + 1) (omega arith) (rest_below (drawn (k + 1)) 10000 10000 (omega arith) (omega arith)) (rest_below (drawn (k + 1) / 65536) customer_count 10 (omega arith) (omega arith)) (rest_below (drawn (k + 1) / 1024) (org_count n) 10000 (omega arith) (omega arith)) in
    omega (arith, size)) in
    let all = file_text (map customer_tree (places customer_count)) (map org_tree (places (org_count n))) (map (λ k. sale_tree n (k + 1)) (places n)) in
    omega (arith, customers, orgs, sales, all)
