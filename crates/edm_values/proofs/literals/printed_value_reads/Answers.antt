-- The plain text of a value reads as the value.
use Rattle.edm_values.proofs.TextLaws.{printed_reads}
use Rattle.edm_values.proofs.literals.printed_value_reads.Goals as goal

pub returns : goal.returns
returns c = record { value = printed_reads c.args.kind c.args.value.now c.requires }
