use Rattle.std.proofs.Common.{◌≡◌, ◌∙◌, ap, sym, subst, take, length, to_z, of_z}
use Rattle.std.specs.Int.{w128}
use Rattle.std.proofs.lemmas.Int.{to_z-of_z}
use Rattle.std.proofs.lemmas.List.{length-map}
use Rattle.edm_values.specs.Values.{number_part, ranked, reaches_sum, seen_value, taken}
use Rattle.top_family.proofs.Places.{front-below, reached-front, selected}
use Rattle.top_family.specs.Selections.{seen_values}
use Rattle.top_family.specs.Thresholds.{IsLeast}
use Rattle.top_family.proofs.selections.by_sum.Goals as goal

pub ascending-requires : goal.ascending-requires
ascending-requires c =
    let values = c.args.values.now in
    record { within = front-below c.args.bottom (seen_values values) c.front_reaching-n.result (length values) c.deref.result.now (c.deref.ensures.value ∙ c.in_ok-ranking.ensures.0) (sym (length-map values seen_value)) }

pub returns : goal.returns
returns c =
    let values = c.args.values.now in
    let vs = seen_values values in
    let ks = c.as_slice.result.now in
    let n = c.front_reaching-n.result in
    let reaches = reaches_sum (number_part (seen_value c.args.bound)) in
    let ranks : ks ≡ ranked c.args.bottom vs = c.as_slice.ensures.value ∙ c.in_ok-ranking.ensures.0 in
    let same : c.deref.result.now ≡ ks = c.deref.ensures.value ∙ sym c.as_slice.ensures.value in
    let least = subst (IsLeast reaches vs) (sym (to_z-of_z w128 c.least_of_bound.result (record { sfits = c.least_of_bound.type_inv }))) c.least_of_bound.ensures in
    let front : take n c.deref.result.now ≡ taken reaches c.args.bottom vs = ap (take n) same ∙ reached-front reaches c.args.bottom vs (to_z w128 (of_z w128 c.least_of_bound.result)) ks (take n ks) least ranks c.front_reaching-n.ensures.front in
    selected reaches c.args.bottom vs (length values) (take n c.deref.result.now) c.in_ok-ascending.field-0.items c.in_ok-ranking.ensures.1 (sym (length-map values seen_value)) front c.in_ok-ascending.ensures
