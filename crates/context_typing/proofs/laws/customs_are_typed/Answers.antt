use Rattle.context_typing.proofs.WholeCustoms as whole
use Rattle.context_typing.proofs.laws.customs_are_typed.Goals as goal

pub returns : goal.returns
returns c = record { value = whole.customs_are_typed c.args.m.now c.args.c.now c.requires.typed c.requires.all }
