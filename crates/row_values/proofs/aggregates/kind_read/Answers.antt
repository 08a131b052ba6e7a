use Rattle.std.proofs.Common.{◌≡◌, true, ◌∙◌, ◌<◌, IsTrue, ap, get_or, length, subst, sym, arith}
use Rattle.std.specs.List.{list_all}
use Rattle.std.proofs.lemmas.List.{get_or_default, take_all}
use Rattle.edm_values.specs.declared.Value.TheVariants as value
use Rattle.edm_values.specs.Literals.{is_of_kind}
use Rattle.aggregate_ops.specs.Partials.{is_of_every_kind}
use Rattle.aggregate_ops.proofs.KindLemmas.{every-more, none-taken, own-taken}
use Rattle.row_values.proofs.aggregates.kind_read.Goals as goal

pub returns-in-Some : goal.returns-in-Some
returns-in-Some c =
    let vs = c.args.values.now in
    let k = c.loop-k.k in
    let v = get_or vs k value.Null in
    let there : k < length vs = omega arith in
    let own = own-taken vs c.in-Some.kind k v there (get_or_default vs k value.Null v there)
    (λ t h. c.in-Some.ensures.kind t (subst (λ u. IsTrue (is_of_kind t u)) (sym c.at.ensures.value) h)) in
    record { taken = own.taken; typed = own.typed }

pub loop-k-preserved : goal.loop-k-preserved
loop-k-preserved c =
    let vs = c.args.values.now in
    let k = c.loop-k.k in
    let v = get_or vs k value.Null in
    let there : k < length vs = omega arith in
    every-more vs k v there (get_or_default vs k value.Null v there) (ap is_of_every_kind (sym c.at.ensures.value) ∙ c.in_default.ensures.kind) c.loop-k.invariant

pub returns : goal.returns
returns c =
    let vs = c.args.values.now in
    let none : list_all is_of_every_kind vs ≡ true = ap (list_all is_of_every_kind) (sym (take_all c.loop-k.k vs (omega arith))) ∙ c.loop-k.invariant in
    let every = none-taken vs none in
    record { taken = every.taken; typed = every.typed }
