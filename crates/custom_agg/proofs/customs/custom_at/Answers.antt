use Rattle.std.proofs.Common.{◌≡◌, ◌∙◌, ap, Some, sym}
use Rattle.std.proofs.lemmas.Result.{IfOk-weaker}
use Rattle.apply_meaning.proofs.RunLemmas.{all-fit-of}
use Rattle.context_typing.specs.Answers.{custom_of}
use Rattle.custom_agg.specs.CustomValues.{value_by_id}
use Rattle.custom_agg.proofs.FoldLemmas.{read-foldable, read-results, value-of_all, value-of_groups}
use Rattle.custom_agg.proofs.customs.custom_at.Goals as goal

pub over_all-requires-clause-of : goal.over_all-requires-clause-of
over_all-requires-clause-of g c κs within = let root = c.requires.fit in all-fit-of c.args.store.now root.0 c.args.rows.now root.2

pub over_all-requires-clause-foldable : goal.over_all-requires-clause-foldable
over_all-requires-clause-foldable g c κs within =
    let u = custom_of c.definition-custom.result.now in
    read-foldable c.args.store.now c.data_is_loaded.ensures.value c.args.c.now c.requires.customs c.args.id u c.definition-custom.ensures c.read-read.result.now c.read-read.ensures.value c.args.rows.now c.requires.fit

pub returns-in-None : goal.returns-in-None
returns-in-None g c =
    record {
      value = let u = custom_of c.definition-custom.result.now in
          let value = value-of_all c.args.store.now c.data_is_loaded.ensures.value c.args.c.now c.requires.customs c.args.id u c.definition-custom.ensures c.read-read.result.now c.read-read.ensures.value c.args.rows.now c.requires.fit c.in-None.is in
          IfOk-weaker c.over_all.result _ (λ v. Some v ≡ value_by_id c.args.store.now c.args.c.now c.args.id c.args.rows.now) (λ v h. ap Some h ∙ sym value) c.over_all.ensures;
    }

pub over_groups-requires-clause-of : goal.over_groups-requires-clause-of
over_groups-requires-clause-of g c κs within = let root = c.requires.fit in all-fit-of c.args.store.now root.0 c.args.rows.now root.2

pub over_groups-requires-clause-foldable : goal.over_groups-requires-clause-foldable
over_groups-requires-clause-foldable g c κs within =
    let u = custom_of c.definition-custom.result.now in
    read-foldable c.args.store.now c.data_is_loaded.ensures.value c.args.c.now c.requires.customs c.args.id u c.definition-custom.ensures c.read-read.result.now c.read-read.ensures.value c.args.rows.now c.requires.fit

pub over_groups-requires-clause-results : goal.over_groups-requires-clause-results
over_groups-requires-clause-results g c κs within =
    let u = custom_of c.definition-custom.result.now in
    read-results c.args.store.now c.data_is_loaded.ensures.value c.args.c.now c.requires.customs c.args.id u c.definition-custom.ensures c.read-read.result.now c.read-read.ensures.value c.args.rows.now c.requires.fit c.in-Some.outer c.in-Some.is

pub returns-in-Some : goal.returns-in-Some
returns-in-Some g c =
    record {
      value = let u = custom_of c.definition-custom.result.now in
          let value = value-of_groups c.args.store.now c.data_is_loaded.ensures.value c.args.c.now c.requires.customs c.args.id u c.definition-custom.ensures c.read-read.result.now c.read-read.ensures.value c.args.rows.now c.requires.fit c.in-Some.outer c.in-Some.is in
          IfOk-weaker c.over_groups.result _ (λ v. Some v ≡ value_by_id c.args.store.now c.args.c.now c.args.id c.args.rows.now) (λ v h. ap Some h ∙ sym value) c.over_groups.ensures;
    }
