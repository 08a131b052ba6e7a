use Rattle.std.proofs.Common.{map}
use Rattle.std.proofs.lemmas.Result.{IfOk-weaker}
use Rattle.edm_values.specs.Values.{seen_value}
use Rattle.rollup_rec.proofs.node_folds.aggregates_by_number.Goals as goal

pub aggregates_of-requires-clause-kept : goal.aggregates_of-requires-clause-kept
aggregates_of-requires-clause-kept g c κs within = record { of = g.P.Partial.kind c.args.empty.now; vs = map (λ v. seen_value v) c.args.rows.now.values.now; folds = c.in_ok-own.ensures }

pub returns : goal.returns
returns g c = IfOk-weaker c.aggregates_of.result _ _ (λ found told. told (record { of = g.P.Partial.kind c.args.empty.now; vs = map (λ v. seen_value v) c.args.rows.now.values.now; folds = c.in_ok-own.ensures })) c.aggregates_of.ensures
