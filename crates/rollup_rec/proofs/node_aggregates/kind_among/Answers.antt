use Rattle.std.proofs.Common.{◌≡◌, true, ◌∙◌, ap, arith, map, sym}
use Rattle.std.specs.List.{list_all}
use Rattle.std.proofs.lemmas.List.{get_or-map, length-map, take_all}
use Rattle.edm_values.specs.Values.{seen_value}
use Rattle.aggregate_ops.specs.Partials.{is_of_every_kind}
use Rattle.aggregate_ops.proofs.KindLemmas.{every-more, none-taken, own-taken}
use Rattle.rollup_rec.proofs.node_aggregates.kind_among.Goals as goal

pub returns-in-Some : goal.returns-in-Some
returns-in-Some c =
    let vs = map (λ v. seen_value v) c.args.values.now in
    let i = c.loop-value.value-index in
    let v = c.value-item.result in
    let long = length-map c.args.values.now (λ v. seen_value v) in
    let read = ap (λ v. seen_value v) c.value-item.is ∙ sym (get_or-map (λ v. seen_value v) c.args.values.now i v (seen_value v) c.loop-value-test.true) in
    let own = own-taken vs c.in-Some.kind i (seen_value v) (omega (arith, long, c.loop-value-test.true)) read c.in-Some.ensures.kind in
    record { taken = own.taken; typed = own.typed }

pub loop-value-preserved : goal.loop-value-preserved
loop-value-preserved c =
    let vs = map (λ v. seen_value v) c.args.values.now in
    let i = c.loop-value.value-index in
    let v = c.value-item.result in
    let long = length-map c.args.values.now (λ v. seen_value v) in
    let read = ap (λ v. seen_value v) c.value-item.is ∙ sym (get_or-map (λ v. seen_value v) c.args.values.now i v (seen_value v) c.loop-value-test.true) in
    every-more vs i (seen_value v) (omega (arith, long, c.loop-value-test.true)) read c.in_default.ensures.kind c.loop-value.invariant

pub returns : goal.returns
returns c =
    let vs = map (λ v. seen_value v) c.args.values.now in
    let long = length-map c.args.values.now (λ v. seen_value v) in
    let none : list_all is_of_every_kind vs ≡ true = ap (list_all is_of_every_kind) (sym (take_all c.loop-value.value-index vs (omega (arith, long, c.loop-value-test.false)))) ∙ c.loop-value.invariant in
    let every = none-taken vs none in
    record { taken = every.taken; typed = every.typed }
