use Rattle.std.proofs.Common.{rules, ◌≡◌, ◌∙◌, ap, length, map, subst, sym}
use Rattle.std.proofs.lemmas.List.{length-map}
use Rattle.std.proofs.lemmas.Result.{IfOk-weaker}
use Rattle.edm_values.specs.Lists.{at_places, places}
use Rattle.apply_ast.specs.Views.{expr_of}
use Rattle.apply_meaning.specs.Aggregates.{aggregate}
use Rattle.apply_meaning.specs.Meaning.{key_list, values}
use Rattle.numbered_groups.specs.Numbered.{AreKeyCodes, places_with}
use Rattle.custom_agg.specs.CustomValues.{group_results}
use Rattle.custom_agg.proofs.NumberedResults.{codes-long, results-of_numbers}
use Rattle.custom_agg.proofs.numbered.numbered_results.Goals as goal

pub number_groups-requires-clause-long : goal.number_groups-requires-clause-long
number_groups-requires-clause-long g c κs within =
    let w = c.args.store.now in
    let l = c.args.list.now in
    codes-long w c.args.paths.now l c.as_slice-codes.result.now c.len.result
    (subst (AreKeyCodes (map (key_list w c.args.paths.now) l)) (sym c.as_slice-codes.ensures.value) c.in_ok-codes.ensures.codes) c.len.ensures.value

pub aggregates_by-requires-clause-size : goal.aggregates_by-requires-clause-size
aggregates_by-requires-clause-size g c κs within =
    let w = c.args.store.now in
    let l = c.args.list.now in
    let keys = map (key_list w c.args.paths.now) l in
    let sized = length-map l (key_list w c.args.paths.now) in
    let numbered = c.in_ok-found.ensures.value keys (sized ∙ sym c.len.ensures.value) (subst (AreKeyCodes keys) (sym c.as_slice-codes.ensures.value) c.in_ok-codes.ensures.codes) in
    ap length c.numbers-numbers.ensures.value ∙ numbered.size ∙ sized

pub returns : goal.returns
returns g c =
    let w = c.args.store.now in
    let l = c.args.list.now in
    let e = expr_of c.args.e.now in
    let m = c.args.method in
    let keys = map (key_list w c.args.paths.now) l in
    let sized = length-map l (key_list w c.args.paths.now) in
    let numbered = c.in_ok-found.ensures.value keys (sized ∙ sym c.len.ensures.value) (subst (AreKeyCodes keys) (sym c.as_slice-codes.ensures.value) c.in_ok-codes.ensures.codes) in
    IfOk-weaker c.aggregates_by.result _ (λ vs. vs.items ≡ group_results w e m c.args.paths.now l)
    (λ vs h. h
    ∙ ap (λ n. map (λ j. aggregate m (at_places (values w e l) (places_with n j))) (places c.len-2.result)) c.numbers-numbers.ensures.value
    ∙ ap (λ k. map (λ j. aggregate m (at_places (values w e l) (places_with c.in_ok-found.found.numbers j))) (places k)) c.len-2.ensures.value
    ∙ results-of_numbers w c.args.paths.now l e m c.in_ok-found.found numbered)
    c.aggregates_by.ensures.value
