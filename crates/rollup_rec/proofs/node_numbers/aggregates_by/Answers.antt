use Rattle.std.proofs.Common.{◌∙◌, ◌+◌, ap, length, subst, sym}
use Rattle.std.proofs.lemmas.Result.{IfOk-weaker}
use Rattle.apply_ast.specs.Views.{expr_of}
use Rattle.apply_meaning.specs.Meaning.{values}
use Rattle.row_values.specs.GroupFolds.{ArePartialsBy}
use Rattle.rollup_rec.proofs.NumberLaws.{folds-of, told-long}
use Rattle.rollup_rec.proofs.node_numbers.aggregates_by.Goals as goal

pub partials_by-requires-clause-size : goal.partials_by-requires-clause-size
partials_by-requires-clause-size g c κs within = ap length c.requires.told ∙ told-long c.args.rows.now.numbers.now c.args.rows.now.nodes.now ∙ sym c.requires.size

pub aggregates_of-requires-clause-kept : goal.aggregates_of-requires-clause-kept
aggregates_of-requires-clause-kept g c κs within =
    let vs = values c.args.store.now (expr_of c.args.e.now) c.args.list.now in
    let numbers = c.args.rows.now.numbers.now in
    let kept = subst (λ ns. ArePartialsBy g.P.Partial.kind g.P.Partial.stands_for vs ns (length numbers + 1) c.in_ok-own.own.items) c.requires.told c.in_ok-own.ensures.value in
    record { of = kept.of; vs = vs; folds = folds-of numbers c.args.rows.now.nodes.now g.P.Partial.kind g.P.Partial.stands_for vs c.in_ok-own.own.items c.truncate.new.self.items kept c.truncate.ensures.items }

pub returns : goal.returns
returns g c =
    let vs = values c.args.store.now (expr_of c.args.e.now) c.args.list.now in
    let numbers = c.args.rows.now.numbers.now in
    let kept = subst (λ ns. ArePartialsBy g.P.Partial.kind g.P.Partial.stands_for vs ns (length numbers + 1) c.in_ok-own.own.items) c.requires.told c.in_ok-own.ensures.value in
    IfOk-weaker c.aggregates_of.result _ _
    (λ found all. all (record { of = kept.of; vs = vs; folds = folds-of numbers c.args.rows.now.nodes.now g.P.Partial.kind g.P.Partial.stands_for vs c.in_ok-own.own.items c.truncate.new.self.items kept c.truncate.ensures.items }))
    c.aggregates_of.ensures
