use Rattle.hier_rows.proofs.KeptLaws.{nodes-kept, own-quiet}
use Rattle.hier_rows.proofs.nodes.own_source.Goals as goal

pub returns-in-Some-source_of-clause-nodes : goal.returns-in-Some-source_of-clause-nodes
returns-in-Some-source_of-clause-nodes c =
    nodes-kept c.args.store.now c.args.path.now _ _ c.args.set c.in-Some-source_of.source c.args.list.now c.in-Some-source_of.ensures c.in-Some.ensures.value

pub returns-in-Some-source_of-clause-quiet : goal.returns-in-Some-source_of-clause-quiet
returns-in-Some-source_of-clause-quiet c =
    own-quiet c.args.store.now c.args.path.now _ _ c.args.list.now c.data_is_loaded.ensures.value.lists c.in-Some.ensures.value
