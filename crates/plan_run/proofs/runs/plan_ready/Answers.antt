use Rattle.std.proofs.Common.{subst, sym, IsTrue}
use Rattle.context_typing.specs.Readings.{readings}
use Rattle.context_typing.specs.Typing.{customs_typed}
use Rattle.apply_meaning.specs.MeaningLaws.{IsLoaded}
use Rattle.frame_run.specs.HeldRows.{rows_of}
use Rattle.plan_run.proofs.PlanLemmas.{plan-means, plan-ready, plan-runs}
use Rattle.plan_run.proofs.runs.plan_ready.Goals as goal

pub returns-clause-runs : goal.returns-clause-runs
returns-clause-runs g c =
    let x = c.args.context.now in
    let typed = subst (λ cs. IsTrue (customs_typed x.world.model (readings cs))) c.customs-customs.ensures.value c.customs-customs.ensures.whole in
    record {
      runs = plan-runs x.world (readings x.customs) c.args.plan.now (rows_of c.args.held.now) (subst IsLoaded c.store.ensures.value c.data_is_loaded.ensures.value) typed c.requires.plan c.requires.set c.requires.rows;
      root_is = sym c.requires.root;
    }

pub returns-clause-named : goal.returns-clause-named
returns-clause-named g c =
    let x = c.args.context.now in
    let typed = subst (λ cs. IsTrue (customs_typed x.world.model (readings cs))) c.customs-customs.ensures.value c.customs-customs.ensures.whole in
    plan-ready x c.args.plan.now typed c.requires.plan c.requires.named

pub returns-clause-means : goal.returns-clause-means
returns-clause-means g c =
    let x = c.args.context.now in
    let typed = subst (λ cs. IsTrue (customs_typed x.world.model (readings cs))) c.customs-customs.ensures.value c.customs-customs.ensures.whole in
    plan-means x.world (readings x.customs) c.args.plan.now (subst IsLoaded c.store.ensures.value c.data_is_loaded.ensures.value) typed c.requires.plan c.requires.set
