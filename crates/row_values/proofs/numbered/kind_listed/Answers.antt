use Rattle.std.proofs.Common.{◌≡◌, true, ◌∙◌, IsTrue, ap, subst, sym, arith}
use Rattle.std.specs.List.{list_all}
use Rattle.std.proofs.lemmas.List.{take_all}
use Rattle.edm_values.specs.Literals.{is_of_kind}
use Rattle.aggregate_ops.specs.Partials.{is_of_every_kind}
use Rattle.aggregate_ops.proofs.KindLemmas.{every-more, none-taken, own-taken}
use Rattle.row_values.proofs.numbered.kind_listed.Goals as goal

pub returns-in-Some : goal.returns-in-Some
returns-in-Some c =
    let own = own-taken c.args.values.now c.in-Some.kind c.loop-value.value-index c.value-item.result c.loop-value-test.true c.value-item.is
    (λ k h. c.in-Some.ensures.kind k (subst (λ v. IsTrue (is_of_kind k v)) (sym c.seen.ensures.value) h)) in
    record { taken = own.taken; typed = own.typed }

pub loop-value-preserved : goal.loop-value-preserved
loop-value-preserved c = every-more c.args.values.now c.loop-value.value-index c.value-item.result c.loop-value-test.true c.value-item.is (ap is_of_every_kind (sym c.seen.ensures.value) ∙ c.in_default.ensures.kind) c.loop-value.invariant

pub returns : goal.returns
returns c =
    let none : list_all is_of_every_kind c.args.values.now ≡ true = ap (list_all is_of_every_kind) (sym (take_all c.loop-value.value-index c.args.values.now (omega (arith, c.loop-value-test.false)))) ∙ c.loop-value.invariant in
    let every = none-taken c.args.values.now none in
    record { taken = every.taken; typed = every.typed }
