-- The places of each group's instances, in a list for each number.
use Rattle.std.proofs.Common.{◌≡◌, ℕ, ◌+◌, ◌<◌, Bool, true, false, cond, refl, sym, ◌∙◌, ap, arith, List, [], ◌∷◌, ◌++◌, get_or, set, length, map, take, filter, nat_eq, ⊎_elim, get_or-set_same, get_or-set_other}
use Rattle.std.specs.Global.{Vec}
use Rattle.std.proofs.lemmas.Bool.{cases_eq}
use Rattle.std.proofs.lemmas.Bool.Decides.{nat_tests}
use Rattle.std.proofs.lemmas.List.{append-nil, ext_get_or, get_or-map, length-map, length-set, map-append}
use Rattle.std.proofs.lemmas.List.Elements.{filter-append}
use Rattle.edm_values.specs.Lists.{places}
use Rattle.par_stages.proofs.Places.{placed-more}
use Rattle.par_stages.specs.Placed.{placed}
use Rattle.numbered_groups.specs.Numbered.{places_with}
use Rattle.step_run.proofs.ListedColumns.{at-place, length-made}

-- a row more has its number
rows-more : (numbers : List ℕ) (k x j : ℕ) → k < length numbers → x ≡ get_or numbers k x → places_with (take (k + 1) numbers) j ≡ places_with (take k numbers) j ++ cond (nat_eq x j) (k ∷ []) []
rows-more numbers k x j h e =
    ap (λ xs. map (λ (y : ℕ × ℕ). y.1) (filter (λ (y : ℕ × ℕ). nat_eq y.0 j) xs)) (sym (placed-more k numbers x h e))
    ∙ ap (map (λ (y : ℕ × ℕ). y.1)) (filter-append (λ (y : ℕ × ℕ). nat_eq y.0 j) (placed 0 (take k numbers)) ((x, k) ∷ []))
    ∙ map-append (λ (y : ℕ × ℕ). y.1) (filter (λ (y : ℕ × ℕ). nat_eq y.0 j) (placed 0 (take k numbers))) (cond (nat_eq x j) ((x, k) ∷ []) [])
    ∙ ap (λ ys. places_with (take k numbers) j ++ ys) (one (nat_eq x j))
  where
    one : (b : Bool) → map (λ (y : ℕ × ℕ). y.1) (cond b ((x, k) ∷ []) []) ≡ cond b (k ∷ []) []
    one true = refl
    one false = refl

-- the place of a row is put behind those of its number
pub members-more : (numbers : List ℕ) (count k x : ℕ) (lists : List (Vec ℕ)) (v v' : Vec ℕ) → k < length numbers → x ≡ get_or numbers k x → x < count → v ≡ get_or lists x v → v'.items ≡ v.items ++ k ∷ []
    → map (λ v. v.items) lists ≡ map (places_with (take k numbers)) (places count) → map (λ v. v.items) (set lists x v') ≡ map (places_with (take (k + 1) numbers)) (places count)
members-more numbers count k x lists v v' h e below own new before =
    let made = length-made (places_with (take k numbers)) count in
    let size : length lists ≡ count = sym (length-map lists (λ v. v.items)) ∙ ap length before ∙ made in
    let here : x < length lists = omega (arith, below, size) in
    let long : length (set lists x v') ≡ count = length-set lists x v' ∙ size in
    let grown = length-made (places_with (take (k + 1) numbers)) count in
    let all = length-map (set lists x v') (λ v. v.items) in
    ext_get_or [] (map (λ v. v.items) (set lists x v')) (map (places_with (take (k + 1) numbers)) (places count)) (omega (arith, all, long, grown)) (λ j b.
    let within : j < count = omega (arith, b, all, long) in
    let old : (get_or lists j v).items ≡ places_with (take k numbers) j =
    sym (get_or-map (λ v. v.items) lists j v [] (omega (arith, within, size))) ∙ ap (λ ls. get_or ls j []) before ∙ at-place (places_with (take k numbers)) count j [] within in
    get_or-map (λ v. v.items) (set lists x v') j v [] (omega (arith, within, long))
    ∙ ⊎_elim
    (λ same.
    let yes : nat_eq x j ≡ true = grind (arith, nat_tests) in
    ap (λ i. (get_or (set lists x v') i v).items) (sym same)
    ∙ ap (λ u. u.items) (get_or-set_same lists x v' v here)
    ∙ new
    ∙ ap (λ u. u.items ++ k ∷ []) (own ∙ ap (λ i. get_or lists i v) same)
    ∙ ap (λ xs. xs ++ k ∷ []) old
    ∙ ap (λ b. places_with (take k numbers) j ++ cond b (k ∷ []) []) (sym yes))
    (λ other.
    let no : nat_eq x j ≡ false = grind (arith, nat_tests) in
    ap (λ u. u.items) (get_or-set_other lists x j v' v (λ e. other (sym e)))
    ∙ old
    ∙ sym (append-nil (places_with (take k numbers) j))
    ∙ ap (λ b. places_with (take k numbers) j ++ cond b (k ∷ []) []) (sym no))
    (cases_eq x j)
    ∙ sym (rows-more numbers k x j h e)
    ∙ sym (at-place (places_with (take (k + 1) numbers)) count j [] within))

-- there are as many lists
pub members-long : (lists : List (Vec ℕ)) (numbers : List ℕ) (count : ℕ) → map (λ v. v.items) lists ≡ map (places_with numbers) (places count) → length lists ≡ count
members-long lists numbers count are = sym (length-map lists (λ v. v.items)) ∙ ap length are ∙ length-made (places_with numbers) count
