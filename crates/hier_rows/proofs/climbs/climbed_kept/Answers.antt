use Rattle.std.proofs.Common.{◌≡◌, ◌∙◌, false, map, slice_index_or, subst, sym}
use Rattle.edm_data.specs.Hierarchies.{rows_whose}
use Rattle.hier_rows.specs.HierRows.{AreOptionsBelow, node_in}
use Rattle.hier_rows.specs.Sources.{node_at}
use Rattle.hier_rows.proofs.NodeLaws.{nodes-count, nodes-within}
use Rattle.hier_rows.proofs.PlacedLaws.{nodes-there}
use Rattle.hier_rows.proofs.climbs.climbed_kept.Goals as goal

pub returns-clause-rows : goal.returns-clause-rows
returns-clause-rows c =
    let w = c.args.store.now in
    let s = c.args.set in
    let index = c.args.index.now in
    let own = map (node_in w s c.args.path.now) c.args.rows.now in
    let size = nodes-count w c.requires.nodes.0 s index c.requires.nodes.1 in
    let within = subst (λ n. AreOptionsBelow n own) (sym size) (nodes-within w s c.args.path.now c.args.rows.now) in
    let there : map (node_at c.in-Some.source) c.in-Some-places_in.places ≡ own =
    sym (nodes-there (node_at c.in-Some.source) c.args.rows.now c.in-Some-places_in.places c.in-Some-places_in.ensures) ∙ c.in-Some.ensures.nodes in
    c.in_ok-marked_at.ensures
    ∙ (λ i. rows_whose (λ x. slice_index_or (c.as_slice.ensures.value i) x false) (there i))
    ∙ c.in_ok-marks.ensures.value own within
