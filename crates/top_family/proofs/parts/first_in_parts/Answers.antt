use Rattle.std.proofs.Common.{◌≡◌, ◌∙◌, Err, ap, length, sym}
use Rattle.std.proofs.lemmas.List.{length-map}
use Rattle.std.proofs.lemmas.Result.{err_from_is_err_and}
use Rattle.edm_values.specs.Lists.{places}
use Rattle.edm_values.specs.Values.{seen_value}
use Rattle.top_family.proofs.PartFirsts.{first-whole, none-beyond, one-beyond, refused-first}
use Rattle.top_family.specs.Selections.{seen_values}
use Rattle.top_family.proofs.parts.first_in_parts.Goals as goal

pub returns-in_err-lists : goal.returns-in_err-lists
returns-in_err-lists g c =
    let values = c.args.values.now in
    let vs = seen_values values in
    let are : c.as_slice.result.now ≡ places (length vs) = c.as_slice.ensures.value ∙ c.in_ok-all.ensures ∙ ap places (sym (length-map values seen_value)) in
    let q = err_from_is_err_and c.from_residual-in_err-lists.result c.from_residual-in_err-lists.ensures.1 in
    rw (q.1, q.2) (refused-first c.args.n c.args.bottom vs c.in_err-lists.field-0.0
    (λ e. one-beyond c.args.n c.args.bottom vs c.args.len c.as_slice.result.now c.in_ok-results.results.items c.requires.some are c.in_ok-results.ensures (c.in_err-lists.ensures.range (λ i. Err (e i)))))

pub returns : goal.returns
returns g c =
    let values = c.args.values.now in
    let vs = seen_values values in
    let are : c.as_slice.result.now ≡ places (length vs) = c.as_slice.ensures.value ∙ c.in_ok-all.ensures ∙ ap places (sym (length-map values seen_value)) in (
      c.in_ok-first_of.ensures ∙ first-whole c.args.n c.args.bottom vs c.args.len c.as_slice.result.now c.in_ok-results.results.items c.requires.some are c.in_ok-results.ensures c.in_ok-lists.lists.items c.in_ok-found.found.items c.in_ok-lists.ensures.ok c.in_ok-found.ensures,
      none-beyond c.args.n c.args.bottom vs c.args.len c.as_slice.result.now c.in_ok-results.results.items c.requires.some are c.in_ok-results.ensures c.in_ok-lists.lists.items c.in_ok-lists.ensures.ok,
    )
