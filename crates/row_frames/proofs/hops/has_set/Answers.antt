use Rattle.row_frames.proofs.TableLemmas.{within_places}
use Rattle.row_frames.proofs.hops.has_set.Goals as goal

pub returns-then-place-sets : goal.returns-then-place-sets
returns-then-place-sets c = within_places c.args.store.now.model c.model.result.now c.args.set c.place.result c.sets-sets.result.now c.sets-sets.ensures.value c.model.ensures.value c.place.ensures.value c.if-place-sets.true
