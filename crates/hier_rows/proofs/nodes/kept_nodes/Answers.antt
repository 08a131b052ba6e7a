use Rattle.std.proofs.Common.{◌∙◌, sym}
use Rattle.edm_data.proofs.KeyedLemmas.{IfOk-then}
use Rattle.hier_rows.specs.Sources.{node_at}
use Rattle.hier_rows.proofs.PlacedLaws.{nodes-there}
use Rattle.hier_rows.proofs.nodes.kept_nodes.Goals as goal

pub returns-in-Some : goal.returns-in-Some
returns-in-Some c =
    IfOk-then c.nodes_at.result _ _ (λ v e. e ∙ sym (nodes-there (node_at c.args.source.now) c.args.list.now c.in-Some.places c.in-Some.ensures)) c.nodes_at.ensures
