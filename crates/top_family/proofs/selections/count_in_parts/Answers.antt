use Rattle.std.proofs.Common.{◌≡◌, ◌∙◌, ap, sym, min, length}
use Rattle.std.proofs.lemmas.List.{length-map}
use Rattle.edm_values.specs.Values.{reaches_count, seen_value, taken}
use Rattle.top_family.proofs.Places.{count-first, first-below, selected}
use Rattle.top_family.specs.Selections.{seen_values}
use Rattle.top_family.proofs.selections.count_in_parts.Goals as goal

pub ascending-requires : goal.ascending-requires
ascending-requires g c =
    let values = c.args.values.now in
    record { within = first-below c.args.bottom (seen_values values) c.at_most-n.result (length values) c.as_slice.result.now (c.as_slice.ensures.value ∙ c.in_ok-first.ensures.0) (sym (length-map values seen_value)) }

pub returns : goal.returns
returns g c =
    let values = c.args.values.now in
    let vs = seen_values values in
    let ks = c.as_slice.result.now in
    let front : ks ≡ taken (reaches_count c.args.n) c.args.bottom vs =
    c.as_slice.ensures.value ∙ c.in_ok-first.ensures.0 ∙ count-first c.args.n c.at_most-n.result c.args.bottom vs (c.at_most-n.ensures ∙ ap (min c.args.n) (sym (length-map values seen_value))) in
    record { value = selected (reaches_count c.args.n) c.args.bottom vs (length values) ks c.in_ok-ascending.field-0.items c.in_ok-first.ensures.1 (sym (length-map values seen_value)) front c.in_ok-ascending.ensures }
