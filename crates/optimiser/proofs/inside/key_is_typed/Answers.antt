use Rattle.apply_ast.specs.Views.{key_of, keys_in}
use Rattle.context_typing.specs.Readings.{readings}
use Rattle.optimiser.proofs.TypedInside.{one-key}
use Rattle.optimiser.proofs.inside.key_is_typed.Goals as goal

pub returns : goal.returns
returns c = one-key c.args.m.now (readings c.args.c.now) key_of c.args.keys.now (keys_in c.args.whole.now) c.args.i c.args.key.now c.requires.whole c.requires.within c.requires.key c.requires.typed
