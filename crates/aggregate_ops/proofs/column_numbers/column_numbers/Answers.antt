use Rattle.std.proofs.Common.{◌∙◌, ap, sym, subst}
use Rattle.std.specs.Prelude.{All}
use Rattle.aggregate_ops.specs.ColumnNumbers.{IsIn, NumbersState}
use Rattle.aggregate_ops.proofs.ColumnNumberLaws.{numbers-all}
use Rattle.aggregate_ops.proofs.column_numbers.column_numbers.Goals as goal

pub pieces-requires-clause-kind : goal.pieces-requires-clause-kind
pieces-requires-clause-kind g c κs within = subst (λ cs. All (IsIn cs) c.args.places.now) (sym c.new-empty.ensures.columns) c.requires.there

pub returns : goal.returns
returns g c = ap (λ (s : NumbersState). s.numbers) c.result.view_is ∙ numbers-all c.args.columns.now _ c.args.places.now (c.in_ok-pieces.ensures.kind ∙ c.new-empty.ensures.columns) c.in_ok-pieces.ensures.stands
