-- Rows that are read by their numbers, and what threads share of them.
use Rattle.std.proofs.Common.{◌≡◌, ◌∙◌, ℕ, zero, suc, ◌-◌, ◌<◌, ◌≤◌, IsTrue, List, [], ◌∷◌, ◌++◌, add-one, ap, arith, get_or, length, map, refl, sym, take}
use Rattle.std.proofs.Crossing.{crosses}
use Rattle.std.proofs.MapsCrossing as maps
use Rattle.std.proofs.lemmas.List.{map_more, take_all}
use Rattle.std.proofs.lemmas.List.FromFn.{map-range_with_len_more}
use Rattle.std.proofs.lemmas.List.Sums.{AllPass-from_list_all}
use denote.Ref.{NamedLft}
use denote.Param.Send.{IsSync, sendable}
use denote.Param.SendFields.{as_row_sync, declared_sync}
use Rattle.std.specs.List.{range_with_len}
use Rattle.rayon.specs.Numbers.{nat_range}
use Rattle.edm_values.specs.declared.Value.{Value}
use Rattle.apply_meaning.specs.Instances.{Instance, no_instance}
use Rattle.apply_meaning.specs.RowViews.{is_of}
use Rattle.apply_meaning.specs.Running.{all_of}
use Rattle.row_frames.proofs.Sharing.{data-sync, expr-sync, path-sync, row-sync}
use Rattle.row_values.specs.contracts.seen.Asked as asked_type
use Rattle.row_values.specs.contracts.seen.RowReader as reader_type
use Rattle.row_values.specs.declared.seen.RowReader.{RowReader}
use Rattle.row_values.specs.Readers.{CanRead}

pub asked-sync : (a : NamedLft) → IsSync (asked_type.the_row a)
asked-sync a = search (sendable, crosses, maps.crosses, expr-sync, path-sync) depth 60 fits 20000

pub reader-sync : (a : NamedLft) → IsSync (reader_type.the_row a)
reader-sync a = declared_sync (reader_type.the_type a) (search (sendable, crosses, maps.crosses, as_row_sync, data-sync, row-sync, asked-sync) depth 60)

-- what is read of the first rows, by their numbers
upto : (f : Instance → Value) (l : List Instance) (n : ℕ) → n ≤ length l → map (λ k. f (get_or l k no_instance)) (range_with_len 0 n) ≡ map f (take n l)
upto f l zero h = refl
upto f l (suc n) h =
    let g = λ (k : ℕ). f (get_or l k no_instance) in
    ap (λ m. map g (range_with_len 0 m)) (sym (add-one n))
    ∙ map-range_with_len_more g 0 n n (omega arith)
    ∙ ap (λ vs. vs ++ f (get_or l n no_instance) ∷ []) (upto f l n (omega arith))
    ∙ sym (map_more f l n no_instance (omega arith))
    ∙ ap (λ m. map f (take m l)) (add-one n)

-- and of all
pub by-number : (f : Instance → Value) (l : List Instance) (n : ℕ) → n ≡ length l → map (λ k. f (get_or l k no_instance)) (nat_range 0 n) ≡ map f l
by-number f l n e =
    let whole : n - 0 ≡ n = omega arith in
    ap (λ m. map (λ k. f (get_or l k no_instance)) (range_with_len 0 m)) whole ∙ upto f l n (omega (arith, e)) ∙ ap (map f) (take_all n l (omega (arith, e)))

-- each row of the world can be read
pub each-read : (r : RowReader) (n : ℕ) → n ≡ length r.rows.now → IsTrue (all_of r.store.now r.rows.now) → (k : ℕ) → k < n → CanRead r k
each-read r n e h k lt =
    let within : k < length r.rows.now = omega (arith, e, lt) in
    record { there = within; of = AllPass-from_list_all (is_of r.store.now) r.rows.now h k no_instance within }
