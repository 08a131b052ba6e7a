use Rattle.std.proofs.Common.{◌∙◌, ap}
use Rattle.edm_data.specs.Worlds.{entity_at}
use Rattle.edm_values.specs.Values.{is_beyond}
use Rattle.row_frames.specs.Related.{placed}
use Rattle.hier_rows.proofs.KeptLaws.{node-kept, property-quiet}
use Rattle.hier_rows.proofs.set_climbs.source_in_set.Goals as goal

pub returns-in-Some-source_of-clause-nodes : goal.returns-in-Some-source_of-clause-nodes
returns-in-Some-source_of-clause-nodes c = λ k.
    node-kept c.args.store.now c.args.path.now _ _ c.args.set c.in-Some-source_of.source (placed c.args.of k) c.in-Some-source_of.ensures (c.in-Some.ensures.value k)

pub returns-in-Some-source_of-clause-quiet : goal.returns-in-Some-source_of-clause-quiet
returns-in-Some-source_of-clause-quiet c = λ k.
    let own = c.in-Some.ensures.value k in
    ap is_beyond own.value ∙ property-quiet c.args.store.now (entity_at _ own.at) _ c.data_is_loaded.ensures.value.lists
