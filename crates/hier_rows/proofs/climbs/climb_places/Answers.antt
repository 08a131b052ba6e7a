use Rattle.std.proofs.Common.{◌≡◌, ◌∙◌, false, map, refl, subst, sym}
use Rattle.std.specs.Prelude.{IfSome, if◌then◌else◌}
use Rattle.std.specs.List.{list_any}
use Rattle.edm_values.specs.Values.{is_beyond}
use Rattle.edm_data.specs.Hierarchies.{ancestor_rows, descendant_rows}
use Rattle.edm_data.specs.References.{count}
use Rattle.hier_rows.specs.HierRows.{AreNodesBelow, AreOptionsBelow, node_in, path_values}
use Rattle.hier_rows.proofs.ClimbLaws.{climb-gives, present-within}
use Rattle.hier_rows.proofs.NodeLaws.{nodes-count}
use Rattle.hier_rows.proofs.climbs.climb_places.Goals as goal

pub climbed_kept-requires-clause-from : goal.climbed_kept-requires-clause-from
climbed_kept-requires-clause-from g c =
    let n = count c.args.store.now c.args.nodes.set in
    let size = nodes-count c.args.store.now c.requires.nodes.0 c.args.nodes.set c.args.nodes.index.now c.requires.nodes.1 in
    let within = subst (AreOptionsBelow n) (sym c.as_slice.ensures.value) c.in_ok-starting.ensures.within in
    subst (λ m. AreNodesBelow m c.as_slice-from.result.now) (sym size)
    (subst (AreNodesBelow n) (sym (c.as_slice-from.ensures.value ∙ c.in_ok-found.ensures)) (present-within n c.as_slice.result.now within))

pub returns-in-Some-clause-value : goal.returns-in-Some-clause-value
returns-in-Some-clause-value g c f N =
    let w = c.args.store.now in
    let p = c.args.path.now in
    let l = c.args.rows.now in
    let took = if c.args.up then ancestor_rows else descendant_rows in
    let rows = subst (λ o. IfSome o (λ v. v.items ≡ took c.args.nodes.index.now c.args.distance c.args.keep c.as_slice-from.result.now (map (node_in w c.args.nodes.set p) l))) c.in-Some.is c.in_ok-kept.ensures.rows in
    let quiet = subst (λ o. IfSome o (λ v. list_any is_beyond (path_values w p l) ≡ false)) c.in-Some.is c.in_ok-kept.ensures.quiet in
    climb-gives c.args.store.now c.args.up f c.args.path.now c.args.distance c.args.keep c.args.starts.now c.args.rows.now c.args.nodes.set c.args.nodes.index.now
    _ c.as_slice.result.now c.as_slice-from.result.now c.in-Some.places.items N refl quiet
    (c.as_slice.ensures.value ∙ c.in_ok-starting.ensures.nodes.0) c.in_ok-starting.ensures.nodes.1 (c.as_slice-from.ensures.value ∙ c.in_ok-found.ensures)
    rows

pub climbed_rows-requires-clause-from : goal.climbed_rows-requires-clause-from
climbed_rows-requires-clause-from g c κs longer =
    let n = count c.args.store.now c.args.nodes.set in
    let size = nodes-count c.args.store.now c.requires.nodes.0 c.args.nodes.set c.args.nodes.index.now c.requires.nodes.1 in
    let within = subst (AreOptionsBelow n) (sym c.as_slice.ensures.value) c.in_ok-starting.ensures.within in
    subst (λ m. AreNodesBelow m c.as_slice-from.result.now) (sym size)
    (subst (AreNodesBelow n) (sym (c.as_slice-from.ensures.value ∙ c.in_ok-found.ensures)) (present-within n c.as_slice.result.now within))

pub returns-clause-value : goal.returns-clause-value
returns-clause-value g c f N =
    climb-gives c.args.store.now c.args.up f c.args.path.now c.args.distance c.args.keep c.args.starts.now c.args.rows.now c.args.nodes.set c.args.nodes.index.now
    _ c.as_slice.result.now c.as_slice-from.result.now c.in_ok-climbed_rows-in-None.field-0.items N refl c.in_ok-climbed_rows-in-None.ensures.1
    (c.as_slice.ensures.value ∙ c.in_ok-starting.ensures.nodes.0) c.in_ok-starting.ensures.nodes.1 (c.as_slice-from.ensures.value ∙ c.in_ok-found.ensures)
    c.in_ok-climbed_rows-in-None.ensures.0
