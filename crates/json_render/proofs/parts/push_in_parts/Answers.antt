use Rattle.std.proofs.Common.{◌≡◌, ◌++◌, ◌∙◌, Err, ap, subst, sym}
use Rattle.std.specs.List.{All}
use Rattle.std.proofs.Crossing.{crosses}
use Rattle.std.proofs.MapsCrossing as maps
use denote.Param.Send.{sendable}
use Rattle.std.proofs.lemmas.Result.{err_from_is_err_and}
use Rattle.edm_values.specs.declared.refusals.Refused.TheVariants as refused
use Rattle.apply_meaning.specs.MeaningLaws.{AllFit}
use Rattle.json_render.specs.PartTexts.{AreParts}
use Rattle.json_render.proofs.PartLemmas.{parts-fit, parts-in-range, parts-past, parts-written}
use Rattle.json_render.proofs.parts.push_in_parts.Goals as goal

pub part_texts-requires : goal.part_texts-requires
part_texts-requires g c = (
  search (sendable, crosses, maps.crosses) depth 40,
  subst (All (AllFit c.args.store.now c.args.shape.now)) (sym c.as_slice.ensures.value) (parts-fit c.args.store.now c.args.shape.now c.args.rows.now c.in_ok-parts.parts.items c.requires.fit c.in_ok-parts.ensures),
)

pub returns-clause-ok : goal.returns-clause-ok
returns-clause-ok g c =
    let are = subst (AreParts c.args.rows.now) (sym c.as_slice.ensures.value) c.in_ok-parts.ensures in
    c.in_ok-push_texts.ensures ∙ ap (λ xs. c.args.body.now.items ++ xs) (parts-written c.args.store.now c.args.shape.now c.args.rows.now c.as_slice.result.now c.in_ok-results.results.items are c.in_ok-results.ensures c.in_ok-texts.texts.items c.in_ok-texts.ensures.ok)

pub returns-clause-in_range : goal.returns-clause-in_range
returns-clause-in_range g c =
    let are = subst (AreParts c.args.rows.now) (sym c.as_slice.ensures.value) c.in_ok-parts.ensures in
    parts-in-range c.args.store.now c.args.shape.now c.args.rows.now c.as_slice.result.now c.in_ok-results.results.items are c.in_ok-results.ensures c.in_ok-texts.texts.items c.in_ok-texts.ensures.ok

pub returns-in_err-texts-clause-range : goal.returns-in_err-texts-clause-range
returns-in_err-texts-clause-range g c e =
    let are = subst (AreParts c.args.rows.now) (sym c.as_slice.ensures.value) c.in_ok-parts.ensures in
    let q = err_from_is_err_and c.from_residual-in_err-texts.result c.from_residual-in_err-texts.ensures.1 in
    let told = sym q.1 ∙ e in
    let same : q.0 ≡ refused.Range = cc in
    parts-past c.args.store.now c.args.shape.now c.args.rows.now c.as_slice.result.now c.in_ok-results.results.items are c.in_ok-results.ensures (c.in_err-texts.ensures.range (ap Err (sym q.2 ∙ same)))
