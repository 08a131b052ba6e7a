-- What a stable sort of entries by their names gives.
use Rattle.std.proofs.Common.{◌≡◌, Bool, List, sym, ◌∙◌, ap}
use Rattle.std.specs.Cmp.{IsStrictWeakOrder}
use Rattle.std.specs.Cmp.Lexicographic.{slice_cmp}
use Rattle.std.specs.Fn.{Called, ComparesAs}
use Rattle.std.specs.List.Sorted.{IsSortedBy, IsStableBy}
use Rattle.std.specs.Ordering.{is_lt, nat_cmp}
use Rattle.std.specs.Prelude.{map}
use Rattle.std.specs.declared.cmp.Ordering.{Ordering}
use Rattle.std.proofs.lemmas.Cmp.{nat_list_cmp_total}
use Rattle.std.proofs.lemmas.Fn.{always_returns_same}
use Rattle.std.proofs.lemmas.List.Sorted.{ranks_by}
use Rattle.edm_values.proofs.SortLaws.{stable_sort_is_sorted}
use Rattle.edm_values.proofs.SortedLists.{sorted-map}
use Rattle.json_render.specs.declared.entries.Entry.{Entry}
use Rattle.json_render.specs.Places.{name_before, named_parts, seen, sorted_parts}
use denote.Param.Members.{Mut}
use denote.Ref.{Bor}

-- an entry stands before another
abbrev pub entry_before : Entry → Entry → Bool
entry_before a b = name_before (seen a) (seen b)

-- names are in a strict weak order
pub names_ranked : IsStrictWeakOrder name_before
names_ranked = ranks_by nat_list_cmp_total (λ e. e.name)

entries_ranked : IsStrictWeakOrder entry_before
entries_ranked = ranks_by nat_list_cmp_total (λ e. e.name.now)

pub entries_sorted : {F : Type 0} {g : Mut F (Bor Entry × (Bor Entry × Unit {0})) Ordering} {f : F} (xs ys : List Entry)
    → ((lt : Entry → Entry → Bool) → IsStrictWeakOrder lt → ComparesAs g lt f → IsSortedBy lt ys) → ((lt : Entry → Entry → Bool) → IsStrictWeakOrder lt → ComparesAs g lt f → IsStableBy lt xs ys)
    → ((a : Bor Entry × (Bor Entry × Unit {0})) (r : Ordering) (f' : F) → Called g f a r f' → (r ≡ slice_cmp nat_cmp (a.0.now).name.now (a.1.0.now).name.now) × (f' ≡ f)) → named_parts ys ≡ sorted_parts (named_parts xs)
entries_sorted {F} {g} {f} xs ys up stable h =
    let compares : ComparesAs g entry_before f = always_returns_same g (λ a r. is_lt r ≡ entry_before a.0.now a.1.0.now) f (λ a r f' k. (ap is_lt (h a r f' k).0, (h a r f' k).1)) in
    ap (map seen) (sym (stable_sort_is_sorted entry_before entries_ranked xs ys (up entry_before entries_ranked compares) (stable entry_before entries_ranked compares)))
    ∙ sym (sorted-map name_before seen names_ranked entries_ranked xs)
