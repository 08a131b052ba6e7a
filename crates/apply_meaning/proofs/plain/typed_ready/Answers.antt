use Rattle.context_typing.specs.Readings.{readings}
use Rattle.apply_meaning.proofs.RunLemmas.{typed-runs}
use Rattle.apply_meaning.proofs.plain.typed_ready.Goals as goal

pub returns : goal.returns
returns c = typed-runs c.args.store.now (readings c.args.c.now) c.args.t.now c.args.rows.now.items c.data_is_loaded.ensures.value c.requires.customs c.requires.typing c.requires.set c.requires.rows
