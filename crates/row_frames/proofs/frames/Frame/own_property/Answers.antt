use Rattle.row_frames.proofs.OwnLemmas.{own-frame}
use Rattle.row_frames.proofs.frames.Frame.own_property.Goals as goal

pub returns-clause-value : goal.returns-clause-value
returns-clause-value c =
    own-frame c.args.store.now c.args.path.now c.self.inside.tables.items c.as_slice.result.now c.self.inside.picks c.args.self.now c.property_of.result c.as_slice.ensures.value c.self.view_is c.self.invariant.1 c.property_of.ensures.value
