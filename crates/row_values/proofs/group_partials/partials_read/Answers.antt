use Rattle.std.proofs.Common.{subst, sym}
use Rattle.std.specs.List.{All}
use Rattle.row_values.proofs.NumberedLemmas.{partials-by}
use Rattle.row_values.proofs.group_partials.partials_read.Goals as goal

pub fold-requires-clause-kind : goal.fold-requires-clause-kind
fold-requires-clause-kind g c κs within = subst (λ s. All (g.P.Partial.takes (g.P.Partial.kind s.empty)) c.args.values.now) (sym c.new-folds.ensures.value) c.requires.kind

pub returns : goal.returns
returns g c =
    partials-by g.P.Partial.kind g.P.Partial.stands_for c.in_ok-all.all c.args.values.now c.args.numbers.now c.args.count c.into_groups.result.items c.into_groups.ensures.value c.into_groups.ensures.kind
    (c.are_by.ensures.numbers c.if-not-are_by.false) (c.are_by.ensures.count c.if-not-are_by.false) c.requires.size c.in_ok-all.ensures.stands
