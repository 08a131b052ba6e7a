use Rattle.std.proofs.Common.{◌∙◌, ℕ, ap, sym, subst, length, map, true, List, Some}
use Rattle.std.specs.Prelude.{filter, nat_lt}
use Rattle.std.specs.List.{list_all}
use Rattle.edm_values.proofs.ListFacts.{all-drop, all-take}
use Rattle.edm_values.specs.Lists.{at_places}
use Rattle.edm_values.specs.Values.{is_value}
use Rattle.apply_ast.specs.Views.{expr_of, item_of, step_of, top_of}
use Rattle.apply_ast.proofs.ViewEquations.{step_of-Filter, step_of-Identity, step_of-OrderBy, step_of-Skip, step_of-Top, step_of-TopBy}
use Rattle.context_typing.specs.Readings.{readings}
use Rattle.apply_meaning.proofs.MeaningEquations.{step_mean-Filter, step_mean-Identity, step_mean-OrderBy, step_mean-Skip, step_mean-Top, step_mean-TopBy}
use Rattle.apply_meaning.proofs.RunLemmas.{all-fit-of}
use Rattle.apply_meaning.specs.Instances.{val}
use Rattle.apply_meaning.specs.Meaning.{refused_at_beyond, selected, step_mean, values}
use Rattle.row_orders.specs.Places.{GivesOrder}
use Rattle.step_run.proofs.KeptSteps.{read-order}
use Rattle.step_run.proofs.PlacedRuns.{placed-drop, placed-take}
use Rattle.step_run.specs.KeptGroups.{read_of}
use Rattle.step_run.proofs.kept_groups.kept_by.Goals as goal

pub returns-in-Identity-clause-mean : goal.returns-in-Identity-clause-mean
returns-in-Identity-clause-mean g c = λ S S' R.
    let x = c.args.context.now in
    let l = at_places c.args.rows.now c.args.places.items in
    ap (λ s. step_mean x.world (readings x.customs) S s l) (ap step_of c.in-Identity.is ∙ step_of-Identity) ∙ step_mean-Identity x.world (readings x.customs) S l

pub returns-in-Skip-clause-mean : goal.returns-in-Skip-clause-mean
returns-in-Skip-clause-mean g c = λ S S' R.
    let x = c.args.context.now in
    let l = at_places c.args.rows.now c.args.places.items in
    ap (λ s. step_mean x.world (readings x.customs) S s l) (ap step_of c.in-Skip.is ∙ step_of-Skip c.in-Skip.n) ∙ step_mean-Skip x.world (readings x.customs) S c.in-Skip.n l
    ∙ ap Some (sym (ap (at_places c.args.rows.now) c.later_places.ensures ∙ placed-drop c.args.rows.now c.in-Skip.n c.args.places.items c.requires.within))

pub returns-in-Skip-clause-within : goal.returns-in-Skip-clause-within
returns-in-Skip-clause-within g c =
    let p = λ (k : ℕ). nat_lt k (length c.args.rows.now) in
    ap (list_all p) c.later_places.ensures ∙ all-drop p c.in-Skip.n c.args.places.items c.requires.within

pub returns-in-Top-clause-mean : goal.returns-in-Top-clause-mean
returns-in-Top-clause-mean g c = λ S S' R.
    let x = c.args.context.now in
    let l = at_places c.args.rows.now c.args.places.items in
    ap (λ s. step_mean x.world (readings x.customs) S s l) (ap step_of c.in-Top.is ∙ step_of-Top c.in-Top.n) ∙ step_mean-Top x.world (readings x.customs) S c.in-Top.n l
    ∙ ap Some (sym (ap (at_places c.args.rows.now) c.first_places.ensures ∙ placed-take c.args.rows.now c.in-Top.n c.args.places.items c.requires.within))

pub returns-in-Top-clause-within : goal.returns-in-Top-clause-within
returns-in-Top-clause-within g c =
    let p = λ (k : ℕ). nat_lt k (length c.args.rows.now) in
    ap (list_all p) c.first_places.ensures ∙ all-take p c.in-Top.n c.args.places.items c.requires.within

pub returns-in-Filter-clause-mean : goal.returns-in-Filter-clause-mean
returns-in-Filter-clause-mean g c = λ S S' R.
    let x = c.args.context.now in
    let rows = c.args.rows.now in
    let e = expr_of c.in-Filter.e in
    let l = at_places rows c.args.places.items in
    subst (GivesOrder c.filtered_at.result rows) (sym (ap (λ s. step_mean x.world (readings x.customs) S s l) (ap step_of c.in-Filter.is ∙ step_of-Filter c.in-Filter.e) ∙ step_mean-Filter x.world (readings x.customs) S e l))
    (subst (λ (ks : List ℕ). GivesOrder c.filtered_at.result rows (refused_at_beyond (values x.world e (at_places rows ks)) (filter (λ i. is_value true (val x.world i e)) (at_places rows ks)))) c.as_slice-own.ensures.value c.filtered_at.ensures.mean)

pub filtered_at-requires-clause-lists : goal.filtered_at-requires-clause-lists
filtered_at-requires-clause-lists g c κs within = c.requires.lists ∙ ap (read_of c.args.context.now.world c.args.rows.now) (ap step_of c.in-Filter.is ∙ step_of-Filter c.in-Filter.e)

pub selected_at-requires-clause-lists : goal.selected_at-requires-clause-lists
selected_at-requires-clause-lists g c κs within = c.requires.lists ∙ ap (read_of c.args.context.now.world c.args.rows.now) (ap step_of c.in-TopBy.is ∙ step_of-TopBy c.in-TopBy.top)

pub returns-in-TopBy-clause-mean : goal.returns-in-TopBy-clause-mean
returns-in-TopBy-clause-mean g c = λ S S' R.
    let x = c.args.context.now in
    let rows = c.args.rows.now in
    let t = top_of c.in-TopBy.top in
    let l = at_places rows c.args.places.items in
    subst (GivesOrder c.selected_at.result rows) (sym (ap (λ s. step_mean x.world (readings x.customs) S s l) (ap step_of c.in-TopBy.is ∙ step_of-TopBy c.in-TopBy.top) ∙ step_mean-TopBy x.world (readings x.customs) S t l))
    (subst (λ (ks : List ℕ). GivesOrder c.selected_at.result rows (selected x.world t (at_places rows ks))) c.as_slice-own-in-TopBy.ensures.value c.selected_at.ensures.mean)

pub ordered_at-requires-clause-of : goal.ordered_at-requires-clause-of
ordered_at-requires-clause-of g c κs within =
    let r = c.requires.ready in
    all-fit-of c.args.context.now.world r.0 (at_places c.args.rows.now c.args.places.items) (r.2).runs.fit

pub ordered_at-requires-clause-lists : goal.ordered_at-requires-clause-lists
ordered_at-requires-clause-lists g c κs within =
    let w = c.args.context.now.world in
    c.requires.lists ∙ ap (read_of w c.args.rows.now) (ap step_of c.in-OrderBy.is ∙ step_of-OrderBy c.in-OrderBy.items) ∙ sym (read-order w c.args.rows.now c.in-OrderBy.items)

pub returns-in-OrderBy-clause-mean : goal.returns-in-OrderBy-clause-mean
returns-in-OrderBy-clause-mean g c = λ S S' R.
    let x = c.args.context.now in
    let l = at_places c.args.rows.now c.args.places.items in
    subst (GivesOrder c.ordered_at.result c.args.rows.now) (sym (ap (λ s. step_mean x.world (readings x.customs) S s l) (ap step_of c.in-OrderBy.is ∙ step_of-OrderBy c.in-OrderBy.items) ∙ step_mean-OrderBy x.world (readings x.customs) S (map item_of c.in-OrderBy.items) l))
    c.ordered_at.ensures.mean
