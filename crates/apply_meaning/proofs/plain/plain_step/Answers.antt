use Rattle.std.proofs.Common.{◌≡◌, ◌∙◌, ap, sym, subst, length, map, Some, IsTrue, arith}
use Rattle.edm_values.proofs.OptionFacts.{some_value}
use Rattle.apply_meaning.specs.Instances.{extended}
use Rattle.apply_ast.specs.Views.{agg_of, step_of, named_of, expr_of}
use Rattle.apply_ast.proofs.ViewEquations.{step_of-Aggregate, step_of-Identity, step_of-Filter, step_of-Compute, step_of-Skip, step_of-Top}
use Rattle.apply_meaning.specs.Counts.{rows_made}
use Rattle.apply_meaning.specs.Meaning.{step_mean}
use Rattle.apply_meaning.proofs.MeaningEquations.{step_mean-Aggregate, step_mean-Identity, step_mean-Filter, step_mean-Compute, step_mean-Skip, step_mean-Top}
use Rattle.apply_meaning.specs.Running.{Gives, StepRuns, all_free, new_columns}
use Rattle.apply_meaning.proofs.RunLemmas.{compute-free, all-fit-of}
use Rattle.apply_meaning.proofs.CountLemmas.{always}
use Rattle.apply_meaning.proofs.plain.plain_step.Goals as goal

pub filter_rows-requires : goal.filter_rows-requires
filter_rows-requires g c = all-fit-of c.args.store.now c.requires.ready.1 c.args.rows.items (c.requires.ready.3).fit

pub compute_rows-requires-clause-of : goal.compute_rows-requires-clause-of
compute_rows-requires-clause-of g c = all-fit-of c.args.store.now c.requires.ready.1 c.args.rows.items (c.requires.ready.3).fit

pub compute_rows-requires-clause-free : goal.compute_rows-requires-clause-free
compute_rows-requires-clause-free g c =
    let w = c.args.store.now in
    let e = ap step_of c.in-Compute.is ∙ step_of-Compute c.in-Compute.items in
    subst (λ xs. IsTrue (all_free w (map named_of xs) c.args.rows.items)) (sym c.as_slice.ensures.value)
    (compute-free w c.requires.ready.0 c.requires.ready.1 c.requires.ready.2 (map named_of c.in-Compute.items) c.args.rows.items c.data_is_loaded.ensures.value (subst (λ s. StepRuns w c.requires.ready.0 c.requires.ready.1 c.requires.ready.2 s c.args.rows.items) e c.requires.ready.3))

pub returns-in-Identity-clause-mean : goal.returns-in-Identity-clause-mean
returns-in-Identity-clause-mean g c = λ c' S S' R. ap (λ s. step_mean c.args.store.now c' S s c.args.rows.items) (ap step_of c.in-Identity.is ∙ step_of-Identity) ∙ step_mean-Identity c.args.store.now c' S c.args.rows.items

pub returns-in-Filter-clause-mean : goal.returns-in-Filter-clause-mean
returns-in-Filter-clause-mean g c = λ c' S S' R.
    subst (Gives c.filter_rows.result) (sym (ap (λ s. step_mean c.args.store.now c' S s c.args.rows.items) (ap step_of c.in-Filter.is ∙ step_of-Filter c.in-Filter.e) ∙ step_mean-Filter c.args.store.now c' S (expr_of c.in-Filter.e) c.args.rows.items)) c.filter_rows.ensures.value

pub returns-in_ok-compute_rows-in-Compute-clause-mean : goal.returns-in_ok-compute_rows-in-Compute-clause-mean
returns-in_ok-compute_rows-in-Compute-clause-mean g c = λ c' S S' R.
    let w = c.args.store.now in
    ap (λ s. step_mean w c' S s c.args.rows.items) (ap step_of c.in-Compute.is ∙ step_of-Compute c.in-Compute.items) ∙ step_mean-Compute w c' S (map named_of c.in-Compute.items) c.args.rows.items
    ∙ ap (λ xs. Some (map (λ i. extended i (new_columns w (map named_of xs) i)) c.args.rows.items)) (sym c.as_slice.ensures.value)
    ∙ ap Some (sym c.in_ok-compute_rows-in-Compute.ensures.rows)

pub returns-in-Skip-clause-mean : goal.returns-in-Skip-clause-mean
returns-in-Skip-clause-mean g c = λ c' S S' R.
    ap (λ s. step_mean c.args.store.now c' S s c.args.rows.items) (ap step_of c.in-Skip.is ∙ step_of-Skip c.in-Skip.n) ∙ step_mean-Skip c.args.store.now c' S c.in-Skip.n c.args.rows.items ∙ ap Some (sym c.skip_rows.ensures.value)

pub returns-in-Top-clause-mean : goal.returns-in-Top-clause-mean
returns-in-Top-clause-mean g c = λ c' S S' R.
    ap (λ s. step_mean c.args.store.now c' S s c.args.rows.items) (ap step_of c.in-Top.is ∙ step_of-Top c.in-Top.n) ∙ step_mean-Top c.args.store.now c' S c.in-Top.n c.args.rows.items ∙ ap Some (sym c.top_rows.ensures.value)

pub returns-in-Identity-clause-each : goal.returns-in-Identity-clause-each
returns-in-Identity-clause-each g c =
    let made : rows_made (step_of c.args.step.now) c.args.rows.items ≡ 0 = ap (λ s. rows_made s c.args.rows.items) (ap step_of c.in-Identity.is ∙ step_of-Identity) in
    omega (arith, made)

pub returns-in-Filter-clause-each : goal.returns-in-Filter-clause-each
returns-in-Filter-clause-each g c =
    let made : rows_made (step_of c.args.step.now) c.args.rows.items ≡ 0 = ap (λ s. rows_made s c.args.rows.items) (ap step_of c.in-Filter.is ∙ step_of-Filter c.in-Filter.e) in
    always c.filter_rows.result (omega (arith, made))

pub returns-in-Skip-clause-each : goal.returns-in-Skip-clause-each
returns-in-Skip-clause-each g c =
    let made : rows_made (step_of c.args.step.now) c.args.rows.items ≡ 0 = ap (λ s. rows_made s c.args.rows.items) (ap step_of c.in-Skip.is ∙ step_of-Skip c.in-Skip.n) in
    omega (arith, made)

pub returns-in-Top-clause-each : goal.returns-in-Top-clause-each
returns-in-Top-clause-each g c =
    let made : rows_made (step_of c.args.step.now) c.args.rows.items ≡ 0 = ap (λ s. rows_made s c.args.rows.items) (ap step_of c.in-Top.is ∙ step_of-Top c.in-Top.n) in
    omega (arith, made)

pub returns-in_ok-compute_rows-in-Compute-clause-each : goal.returns-in_ok-compute_rows-in-Compute-clause-each
returns-in_ok-compute_rows-in-Compute-clause-each g c =
    let made : rows_made (step_of c.args.step.now) c.args.rows.items ≡ length c.args.rows.items = ap (λ s. rows_made s c.args.rows.items) (ap step_of c.in-Compute.is ∙ step_of-Compute c.in-Compute.items) in
    omega (arith, made, c.in_ok-compute_rows-in-Compute.ensures.each)

pub returns-in_ok-compute_rows-in-Compute-clause-steps : goal.returns-in_ok-compute_rows-in-Compute-clause-steps
returns-in_ok-compute_rows-in-Compute-clause-steps g c =
    let made : rows_made (step_of c.args.step.now) c.args.rows.items ≡ length c.args.rows.items = ap (λ s. rows_made s c.args.rows.items) (ap step_of c.in-Compute.is ∙ step_of-Compute c.in-Compute.items) in
    omega (arith, made, c.compute_rows.ensures.steps)

pub returns-in_err-compute_rows-in-Compute-clause-steps : goal.returns-in_err-compute_rows-in-Compute-clause-steps
returns-in_err-compute_rows-in-Compute-clause-steps g c =
    let made : rows_made (step_of c.args.step.now) c.args.rows.items ≡ length c.args.rows.items = ap (λ s. rows_made s c.args.rows.items) (ap step_of c.in-Compute.is ∙ step_of-Compute c.in-Compute.items) in
    omega (arith, made, c.compute_rows.ensures.steps)

pub returns-in_ok-aggregation_rows-in-Aggregate-clause-each : goal.returns-in_ok-aggregation_rows-in-Aggregate-clause-each
returns-in_ok-aggregation_rows-in-Aggregate-clause-each g c =
    let made : rows_made (step_of c.args.step.now) c.args.rows.items ≡ 1 = ap (λ s. rows_made s c.args.rows.items) (ap step_of c.in-Aggregate.is ∙ step_of-Aggregate c.in-Aggregate.items) in
    let w = c.args.store.now in
    let r = c.requires.ready in
    let row = ap length (some_value (sym (step_mean-Aggregate w r.0 r.1 (map agg_of c.in-Aggregate.items) c.args.rows.items) ∙ c.in_ok-aggregation_rows-in-Aggregate.ensures.mean r.0 r.1)) in
    omega (arith, made, row, c.in_ok-aggregation_rows-in-Aggregate.ensures.each)

pub returns-in_ok-aggregation_rows-in-Aggregate-clause-steps : goal.returns-in_ok-aggregation_rows-in-Aggregate-clause-steps
returns-in_ok-aggregation_rows-in-Aggregate-clause-steps g c =
    let made : rows_made (step_of c.args.step.now) c.args.rows.items ≡ 1 = ap (λ s. rows_made s c.args.rows.items) (ap step_of c.in-Aggregate.is ∙ step_of-Aggregate c.in-Aggregate.items) in
    omega (arith, made, c.aggregation_rows.ensures.steps)

pub returns-in_err-aggregation_rows-in-Aggregate-clause-steps : goal.returns-in_err-aggregation_rows-in-Aggregate-clause-steps
returns-in_err-aggregation_rows-in-Aggregate-clause-steps g c =
    let made : rows_made (step_of c.args.step.now) c.args.rows.items ≡ 1 = ap (λ s. rows_made s c.args.rows.items) (ap step_of c.in-Aggregate.is ∙ step_of-Aggregate c.in-Aggregate.items) in
    omega (arith, made, c.aggregation_rows.ensures.steps)
