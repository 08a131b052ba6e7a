use Rattle.apply_ast.specs.Views.{key_of, keys_of}
use Rattle.context_typing.specs.Readings.{readings}
use Rattle.rewrite_places.proofs.TypedPlaces.{typed-key}
use Rattle.rewrite_places.proofs.typed.key_is_typed.Goals as goal

pub returns : goal.returns
returns c = typed-key c.args.m.now (readings c.args.c.now) key_of c.args.keys.now c.args.i c.args.key.now (keys_of c.args.whole.now) c.requires.within c.requires.key c.requires.whole c.requires.typed
