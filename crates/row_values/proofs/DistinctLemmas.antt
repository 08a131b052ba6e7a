-- Which of the distinct values of a list are null.
use Rattle.std.proofs.Common.{◌≡◌, ◌∙◌, ℕ, ◌<◌, List, [], ◌∷◌, IsTrue, ap, get_or, length, map, refl, sym}
use Rattle.std.specs.Prelude.{nat_lt}
use Rattle.std.specs.List.{All, cons_option, list_all}
use Rattle.std.proofs.lemmas.Bool.{and_from, lt-ltb}
use Rattle.std.proofs.lemmas.List.{get_or-map}
use Rattle.std.proofs.lemmas.List.Elements.{All-head, All-tail}
use Rattle.std.proofs.lemmas.Option.{slice_get-get_or, unwrap_or-slice_get}
use Rattle.edm_values.specs.declared.Value.{Value}
use Rattle.edm_values.specs.Lists.{at_places}
use Rattle.edm_values.specs.Values.{is_null, value_in}
use Rattle.apply_meaning.specs.Instances.{Instance, no_instance}

-- rows before the end of a list are places of it
pub rows-within : (m : ℕ) (fs : List ℕ) → All (λ f. f < m) fs → IsTrue (list_all (λ f. nat_lt f m) fs)
rows-within m [] a = refl
rows-within m (f ∷ fs) a = and_from (nat_lt f m) (list_all (λ f. nat_lt f m) fs) (lt-ltb f m (All-head (λ f. f < m) f fs a)) (rows-within m fs (All-tail (λ f. f < m) f fs a))

-- whether the values at some rows are null
pub nulls-at : (g : Instance → Value) (l : List Instance) (fs : List ℕ) → All (λ f. f < length l) fs → map is_null (map g (at_places l fs)) ≡ map (λ f. is_null (value_in (map g l) f)) fs
nulls-at g l [] a = refl
nulls-at g l (f ∷ fs) a =
    let below : f < length l = All-head (λ f. f < length l) f fs a in
    let here : is_null (g (get_or l f no_instance)) ≡ is_null (value_in (map g l) f) = ap is_null (sym (unwrap_or-slice_get (map g l) f Value.Null ∙ get_or-map g l f no_instance Value.Null below)) in
    ap (λ o. map is_null (map g (cons_option o (at_places l fs)))) (slice_get-get_or l f no_instance below)
    ∙ (λ i. here i ∷ nulls-at g l fs (All-tail (λ f. f < length l) f fs a) i)
