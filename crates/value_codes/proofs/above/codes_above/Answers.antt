use Rattle.std.proofs.Common.{◌<◌, subst, arith}
use Rattle.std.proofs.lemmas.List.{take_all}
use Rattle.std.proofs.lemmas.List.Elements.{All-push}
use Rattle.edm_values.specs.Values.{seen_value}
use Rattle.value_codes.specs.Above.{AreCoded, IsCode}
use Rattle.value_codes.proofs.CodeLemmas.{coded-next}
use Rattle.value_codes.proofs.above.codes_above.Goals as goal

pub loop-value-preserved : goal.loop-value-preserved
loop-value-preserved c = rw c.in_ok-push-in-Some.ensures.items (
  coded-next (λ v. IsCode c.args.spread.now.kind c.args.spread.now.least (seen_value v)) c.args.list.now c.loop-value.codes.items c.loop-value.value-index c.value-item.result c.in-Some.code c.loop-value-test.true c.value-item.is c.loop-value.invariant.0 c.in-Some.ensures.value,
  All-push (λ n. n < c.args.bound) c.loop-value.codes.items c.in-Some.code c.loop-value.invariant.1 c.in-Some.ensures.below,
)

pub returns-clause-value : goal.returns-clause-value
returns-clause-value c =
    let all = take_all c.loop-value.value-index c.args.list.now (omega (arith, c.loop-value-test.false)) in
    subst (λ l. AreCoded (λ v. IsCode c.args.spread.now.kind c.args.spread.now.least (seen_value v)) l c.loop-value.codes.items) all c.loop-value.invariant.0
