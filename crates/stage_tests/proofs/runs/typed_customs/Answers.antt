use Rattle.std.proofs.Common.{ap, arith, length}
use Rattle.edm_model.specs.IdLists.{custom_list}
use Rattle.stage_tests.proofs.CustomFacts.{whole-ids}
use Rattle.stage_tests.proofs.runs.typed_customs.Goals as goal

pub customs_are_typed-requires-clause-all : goal.customs_are_typed-requires-clause-all
customs_are_typed-requires-clause-all c =
    let counted = ap length c.customs.ensures.value in
    whole-ids (λ x. x.read) (λ r. r.id) (λ u. u.id) c.in_ok-customs.customs c.in_ok-list.list.items (custom_list c.args.m.now) c.in_ok-customs.ensures.reads c.in_ok-list.ensures.ids (omega (arith, c.len.ensures, c.if-len-customs.false, counted))
