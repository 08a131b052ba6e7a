use Rattle.std.proofs.Common.{◌≡◌, map, subst, sym}
use Rattle.std.specs.Prelude.{IfSome}
use Rattle.edm_data.specs.References.{count}
use Rattle.hier_rows.specs.HierRows.{AreOptionsBelow, node_in}
use Rattle.hier_rows.proofs.NodeLaws.{nodes-within}
use Rattle.hier_rows.proofs.nodes.nodes_of.Goals as goal

pub returns-in-Some-clause-within : goal.returns-in-Some-clause-within
returns-in-Some-clause-within g c =
    let w = c.args.store.now in
    let nodes = map (node_in w c.args.set c.args.path.now) c.args.rows.now in
    subst (AreOptionsBelow (count w c.args.set)) (sym (subst (λ o. IfSome o (λ v. v.items ≡ nodes)) c.in-Some.is c.in_ok-nodes.ensures.nodes)) (nodes-within w c.args.set c.args.path.now c.args.rows.now)
