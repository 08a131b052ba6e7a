use Rattle.std.proofs.Common.{◌∙◌, ap, false, map, subst, sym}
use Rattle.std.specs.Prelude.{slice_index_or}
use Rattle.edm_values.specs.Lists.{places}
use Rattle.edm_data.specs.Hierarchies.{rows_whose}
use Rattle.edm_data.specs.References.{count}
use Rattle.row_frames.specs.Related.{placed}
use Rattle.hier_rows.specs.HierRows.{AreNodesBelow, AreOptionsBelow}
use Rattle.hier_rows.specs.Sources.{node_at}
use Rattle.hier_rows.proofs.ClimbLaws.{climb-gives, present-within}
use Rattle.hier_rows.proofs.NodeLaws.{nodes-count}
use Rattle.hier_rows.proofs.SetLaws.{all-within, nodes-in-set, quiet-in-set, whose-below, within-set}
use Rattle.hier_rows.proofs.set_climbs.climb_set.Goals as goal

pub node_marks-requires : goal.node_marks-requires
node_marks-requires g c =
    let n = count c.args.store.now c.args.nodes.set in
    let size = nodes-count c.args.store.now c.requires.nodes.0 c.args.nodes.set c.args.nodes.index.now c.requires.nodes.1 in
    let within = subst (AreOptionsBelow n) (sym c.as_slice.ensures.value) c.in_ok-starting.ensures.within in
    record {
      starts = subst (λ m. AreNodesBelow m c.as_slice-2.result.now) (sym size)
          (subst (AreNodesBelow n) (sym (c.as_slice-2.ensures.value ∙ c.in_ok-found.ensures)) (present-within n c.as_slice.result.now within));
    }

pub marked_in_set-requires : goal.marked_in_set-requires
marked_in_set-requires g c =
    within-set c.args.store.now c.args.nodes.set c.args.of c.args.path.now c.in-Some.source c.count.result
    (c.count.ensures.value ∙ nodes-count c.args.store.now c.requires.nodes.0 c.args.nodes.set c.args.nodes.index.now c.requires.nodes.1)
    c.in-Some.ensures.nodes

pub returns-clause-value : goal.returns-clause-value
returns-clause-value g c = λ f N.
    let w = c.args.store.now in
    let p = c.args.path.now in
    let s = c.args.nodes.set in
    let index = c.args.nodes.index.now in
    let of = c.args.of in
    let x = c.in-Some.source in
    let ks = places c.args.count in
    let l = map (placed of) ks in
    let own = map (node_at x) ks in
    let size = nodes-count w c.requires.nodes.0 s index c.requires.nodes.1 in
    let marked = c.in_ok-places.ensures
    ∙ ap (λ ms. rows_whose (λ k. slice_index_or ms k false) own) c.as_slice-3.ensures.value
    ∙ c.in_ok-marks.ensures.value own (all-within (node_at x) _ ks (within-set w s of p x _ size c.in-Some.ensures.nodes)) in
    climb-gives w c.args.up f p c.args.distance c.args.keep c.args.starts.now l s index own c.as_slice.result.now c.as_slice-2.result.now c.in_ok-places.places.items N
    (nodes-in-set w s of p x ks c.in-Some.ensures.nodes) (quiet-in-set w of p ks c.in-Some.ensures.quiet)
    (c.as_slice.ensures.value ∙ c.in_ok-starting.ensures.nodes.0) c.in_ok-starting.ensures.nodes.1 (c.as_slice-2.ensures.value ∙ c.in_ok-found.ensures)
    marked

pub returns-clause-within : goal.returns-clause-within
returns-clause-within g c = whose-below _ (node_at c.in-Some.source) c.args.count c.in_ok-places.places.items c.in_ok-places.ensures
