use Rattle.std.proofs.Common.{◌∙◌, ap, subst, sym}
use Rattle.edm_values.specs.Lists.{places}
use Rattle.edm_data.proofs.KeyedLemmas.{IfOk-then}
use Rattle.edm_data.specs.References.{count}
use Rattle.hier_rows.specs.HierRows.{AreNodesBelow}
use Rattle.hier_rows.proofs.ShownLaws.{places-below, shown-all}
use Rattle.hier_rows.proofs.shown.all_nodes.Goals as goal

pub returns-clause-value : goal.returns-clause-value
returns-clause-value c = IfOk-then c.first_nodes.result _ _ (λ v e. e ∙ ap places c.count.ensures.value ∙ sym (shown-all c.args.store.now c.args.set)) c.first_nodes.ensures

pub returns-clause-within : goal.returns-clause-within
returns-clause-within c =
    let n = count c.args.store.now c.args.set in
    IfOk-then c.first_nodes.result _ _ (λ v e. subst (AreNodesBelow n) (sym (e ∙ ap places c.count.ensures.value)) (places-below n)) c.first_nodes.ensures
