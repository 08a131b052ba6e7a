-- One entry more of those that a loop goes over.
use Rattle.std.proofs.Common.{◌≡◌, ℕ, zero, suc, ◌+◌, ◌<◌, List, [], ◌∷◌, ◌++◌, Option, Some, None, length, map, take, get_or, refl, sym, ◌∙◌, ap, arith, add-one}
use Rattle.std.specs.Prelude.{filter_map}
use Rattle.std.specs.List.{cons_option}
use Rattle.std.proofs.lemmas.List.{append-nil, map-append}
use Rattle.json_render.specs.declared.entries.Entry.{Entry}
use Rattle.json_render.specs.Places.{named_parts, next_part, next_parts, seen}

-- what an option holds, as a list
abbrev pub listed : {X : Type 0} → Option X → List X
listed None = []
listed (Some x) = x ∷ []

pub cons-append : {X : Type 0} (o : Option X) (xs ys : List X) → cons_option o (xs ++ ys) ≡ cons_option o xs ++ ys
cons-append None xs ys = refl
cons-append (Some x) xs ys = refl

cons-listed : {X : Type 0} (o : Option X) → cons_option o [] ≡ listed o
cons-listed None = refl
cons-listed (Some x) = refl

pub filter_map-more : {X Y Z : Type 0} (g : X → Y) (f : Y → Option Z) (xs : List X) (k : ℕ) (x : X) → k < length xs → x ≡ get_or xs k x → filter_map f (map g (take (suc k) xs)) ≡ filter_map f (map g (take k xs)) ++ listed (f (g x))
filter_map-more g f [] k x h i = absurd (omega arith)
filter_map-more g f (y ∷ xs) zero x h i = cons-listed (f (g y)) ∙ ap (λ z. listed (f (g z))) (sym i)
filter_map-more g f (y ∷ xs) (suc k) x h i =
    ap (cons_option (f (g y))) (filter_map-more g f xs k x (omega arith) i)
    ∙ cons-append (f (g y)) (filter_map f (map g (take k xs))) (listed (f (g x)))

pub pushed_next : (old new es : List Entry) (k : ℕ) (e n : Entry) → k < length es → e ≡ get_or es k e → next_part (seen e) ≡ Some (seen n) → new ≡ old ++ n ∷ []
    → named_parts old ≡ next_parts (named_parts (take k es)) → named_parts new ≡ next_parts (named_parts (take (k + 1) es))
pushed_next old new es k e n h i s p r =
    rw (add-one k) (ap named_parts p ∙ map-append seen old (n ∷ []) ∙ ap (λ zs. zs ++ seen n ∷ []) r ∙ ap (λ o. next_parts (named_parts (take k es)) ++ listed o) (sym s) ∙ sym (filter_map-more seen next_part es k e h i))

pub skipped_next : (old es : List Entry) (k : ℕ) (e : Entry) → k < length es → e ≡ get_or es k e → next_part (seen e) ≡ None
    → named_parts old ≡ next_parts (named_parts (take k es)) → named_parts old ≡ next_parts (named_parts (take (k + 1) es))
skipped_next old es k e h i s r =
    rw (add-one k) (r ∙ sym (append-nil (next_parts (named_parts (take k es)))) ∙ ap (λ o. next_parts (named_parts (take k es)) ++ listed o) (sym s) ∙ sym (filter_map-more seen next_part es k e h i))
