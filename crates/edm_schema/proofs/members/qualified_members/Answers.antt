use Rattle.std.proofs.Common.{◌∙◌, sym}
use Rattle.edm_schema.proofs.SchemaParts.{not_qualified}
use Rattle.edm_schema.proofs.members.qualified_members.Goals as goal

pub loop-member-preserved-in_default : goal.loop-member-preserved-in_default
loop-member-preserved-in_default c =
    c.loop-member.invariant ∙ sym (not_qualified c.args.term.now c.args.members.now c.loop-member.member-index c.member-item.result c.loop-member-test.true c.member-item.is c.in_default.ensures)
