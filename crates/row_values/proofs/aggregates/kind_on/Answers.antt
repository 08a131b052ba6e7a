use Rattle.std.proofs.Common.{◌≡◌, true, ◌∙◌, IsTrue, ap, arith, subst, sym}
use Rattle.std.specs.List.{list_all}
use Rattle.std.proofs.lemmas.List.{get_or-map, length-map, take_all}
use Rattle.edm_values.specs.Literals.{is_of_kind}
use Rattle.apply_ast.specs.Views.{expr_of}
use Rattle.apply_meaning.specs.Instances.{val}
use Rattle.apply_meaning.specs.Meaning.{values}
use Rattle.aggregate_ops.specs.Partials.{is_of_every_kind}
use Rattle.aggregate_ops.proofs.KindLemmas.{every-more, none-taken, own-taken}
use Rattle.row_values.proofs.aggregates.kind_on.Goals as goal

pub returns-in-Some : goal.returns-in-Some
returns-in-Some c =
    let w = c.args.store.now in
    let e = expr_of c.args.e.now in
    let rows = c.args.rows.now in
    let vs = values w e rows in
    let i = c.loop-row.row-index in
    let row = c.row-item.result in
    let long = length-map rows (λ i. val w i e) in
    let read = ap (λ r. val w r e) c.row-item.is ∙ sym (get_or-map (λ r. val w r e) rows i row (val w row e) c.loop-row-test.true) in
    let own = own-taken vs c.in-Some.kind i (val w row e) (omega (arith, long, c.loop-row-test.true)) read
    (λ t h. c.in-Some.ensures.kind t (subst (λ u. IsTrue (is_of_kind t u)) (sym c.eval.ensures.value) h)) in
    record { taken = own.taken; typed = own.typed }

pub loop-row-preserved : goal.loop-row-preserved
loop-row-preserved c =
    let w = c.args.store.now in
    let e = expr_of c.args.e.now in
    let rows = c.args.rows.now in
    let i = c.loop-row.row-index in
    let row = c.row-item.result in
    let long = length-map rows (λ i. val w i e) in
    let read = ap (λ r. val w r e) c.row-item.is ∙ sym (get_or-map (λ r. val w r e) rows i row (val w row e) c.loop-row-test.true) in
    every-more (values w e rows) i (val w row e) (omega (arith, long, c.loop-row-test.true)) read (ap is_of_every_kind (sym c.eval.ensures.value) ∙ c.in_default.ensures.kind) c.loop-row.invariant

pub returns : goal.returns
returns c =
    let w = c.args.store.now in
    let e = expr_of c.args.e.now in
    let vs = values w e c.args.rows.now in
    let long = length-map c.args.rows.now (λ i. val w i e) in
    let none : list_all is_of_every_kind vs ≡ true = ap (list_all is_of_every_kind) (sym (take_all c.loop-row.row-index vs (omega (arith, long, c.loop-row-test.false)))) ∙ c.loop-row.invariant in
    let every = none-taken vs none in
    record { taken = every.taken; typed = every.typed }
