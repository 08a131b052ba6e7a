use Rattle.std.proofs.Common.{◌∙◌, ap, subst, sym}
use Rattle.std.specs.Prelude.{if◌then◌else◌}
use Rattle.edm_data.specs.Hierarchies.{ancestor_rows, descendant_rows}
use Rattle.edm_data.specs.References.{count}
use Rattle.hier_rows.specs.HierRows.{AreOptionsBelow}
use Rattle.hier_rows.proofs.NodeLaws.{nodes-count}
use Rattle.hier_rows.proofs.climbs.climbed_rows.Goals as goal

pub ancestors-requires-clause-nodes : goal.ancestors-requires-clause-nodes
ancestors-requires-clause-nodes g c =
    let size = nodes-count c.args.store.now c.requires.nodes.0 c.args.set c.args.index.now c.requires.nodes.1 in
    subst (λ n. AreOptionsBelow n c.as_slice-own.result.now) (sym size)
    (subst (AreOptionsBelow (count c.args.store.now c.args.set)) (sym c.as_slice-own.ensures.value) c.in_ok-found.ensures.within)

pub returns-then-up : goal.returns-then-up
returns-then-up g c = (
  c.in_ok-ancestors.ensures.value
      ∙ ap (λ b. (if b then ancestor_rows else descendant_rows) c.args.index.now c.args.distance c.args.keep c.args.from.now c.as_slice-own.result.now) (sym c.if-up.true)
      ∙ ap (λ own. (if c.args.up then ancestor_rows else descendant_rows) c.args.index.now c.args.distance c.args.keep c.args.from.now own) (c.as_slice-own.ensures.value ∙ c.in_ok-found.ensures.nodes.0),
  c.in_ok-found.ensures.nodes.1,
)

pub descendants-requires-clause-nodes : goal.descendants-requires-clause-nodes
descendants-requires-clause-nodes g c =
    let size = nodes-count c.args.store.now c.requires.nodes.0 c.args.set c.args.index.now c.requires.nodes.1 in
    subst (λ n. AreOptionsBelow n c.as_slice-own.result.now) (sym size)
    (subst (AreOptionsBelow (count c.args.store.now c.args.set)) (sym c.as_slice-own.ensures.value) c.in_ok-found.ensures.within)

pub returns : goal.returns
returns g c = (
  c.in_ok-descendants.ensures.value
      ∙ ap (λ b. (if b then ancestor_rows else descendant_rows) c.args.index.now c.args.distance c.args.keep c.args.from.now c.as_slice-own.result.now) (sym c.if-up.false)
      ∙ ap (λ own. (if c.args.up then ancestor_rows else descendant_rows) c.args.index.now c.args.distance c.args.keep c.args.from.now own) (c.as_slice-own.ensures.value ∙ c.in_ok-found.ensures.nodes.0),
  c.in_ok-found.ensures.nodes.1,
)
