use Rattle.std.proofs.Common.{◌∙◌, Some, ap, length, subst, sym}
use Rattle.std.specs.Prelude.{nat_lt}
use Rattle.std.specs.List.{list_all}
use Rattle.std.proofs.lemmas.List.{length-map}
use Rattle.std.proofs.lemmas.Result.{err_from_is_err_and}
use Rattle.edm_data.specs.Hierarchies.{traversed_rows}
use Rattle.edm_data.specs.References.{count}
use Rattle.apply_ast.specs.Views.{traverse_of}
use Rattle.hier_index.specs.Walks.{is_postorder}
use Rattle.hier_rows.specs.HierRows.{AreOptionsBelow, node_in}
use Rattle.hier_rows.proofs.NodeLaws.{nodes-count}
use Rattle.hier_rows.proofs.TraversalLaws.{traverse-gives, traverse-refused, traversed-within}
use Rattle.hier_rows.proofs.traversals.traverse_places.Goals as goal

pub traverse-requires-clause-nodes : goal.traverse-requires-clause-nodes
traverse-requires-clause-nodes g c =
    let size = nodes-count c.args.store.now c.requires.nodes.0 c.args.nodes.set c.args.nodes.index.now c.requires.nodes.1 in
    subst (λ n. AreOptionsBelow n c.deref.result.now) (sym size)
    (subst (AreOptionsBelow (count c.args.store.now c.args.nodes.set)) (sym c.deref.ensures.value) c.in_ok-own.ensures.within)

pub returns-clause-value : goal.returns-clause-value
returns-clause-value g c f N =
    traverse-gives c.args.store.now f (traverse_of c.args.walk.now) c.args.rows.now c.args.nodes.set c.args.nodes.index.now c.deref.result.now c.deref-2.result.now c.in_ok-traverse.field-0.items N
    (c.deref.ensures.value ∙ c.in_ok-own.ensures.nodes.0) c.in_ok-own.ensures.nodes.1 (c.in_ok-rank.ensures.ranks ∙ ap (λ z. Some z) (sym c.deref-2.ensures.value))
    (c.in_ok-traverse.ensures.value ∙ ap (λ post. traversed_rows post c.args.nodes.index.now c.deref-2.result.now c.deref.result.now) c.walk_order.ensures)

pub returns-clause-within : goal.returns-clause-within
returns-clause-within g c =
    let size = ap length (c.deref.ensures.value ∙ c.in_ok-own.ensures.nodes.0) ∙ length-map c.args.rows.now (node_in c.args.store.now c.args.nodes.set c.args.walk.now.path) in
    ap (list_all (λ k. nat_lt k (length c.args.rows.now))) c.in_ok-traverse.ensures.value
    ∙ traversed-within (is_postorder c.walk_order.result) c.args.nodes.index.now c.deref-2.result.now c.deref.result.now (length c.args.rows.now) size

pub returns-in_err-rank-clause-value : goal.returns-in_err-rank-clause-value
returns-in_err-rank-clause-value g c f N =
    let p = err_from_is_err_and c.from_residual-in_err-rank.result c.from_residual-in_err-rank.ensures.1 in
    rw (p.1, p.2) (traverse-refused c.args.store.now f (traverse_of c.args.walk.now) c.args.rows.now c.in_err-rank.field-0.0 c.args.nodes.set c.args.nodes.index.now _ N c.in_err-rank.ensures.ranks)
