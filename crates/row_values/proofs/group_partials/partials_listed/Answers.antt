use Rattle.std.proofs.Common.{◌∙◌, ap, subst, sym}
use Rattle.std.specs.List.{All}
use Rattle.row_values.proofs.NumberedLemmas.{partials-by}
use Rattle.row_values.proofs.group_partials.partials_listed.Goals as goal

pub pieces-requires-clause-kind : goal.pieces-requires-clause-kind
pieces-requires-clause-kind g c κs within = subst (λ s. All (g.P.Partial.takes (g.P.Partial.kind s.empty)) c.args.values.now) (sym c.new-folds.ensures.value) c.requires.kind

pub returns : goal.returns
returns g c =
    let kind = c.in_ok-all.ensures.kind in
    partials-by g.P.Partial.kind g.P.Partial.stands_for c.in_ok-all.all c.args.values.now c.args.numbers.now c.args.count c.into_groups.result.items c.into_groups.ensures.value c.into_groups.ensures.kind
    (ap (λ k. k.0) kind ∙ ap (λ s. s.numbers) c.new-folds.ensures.value) (ap (λ k. k.1.0) kind ∙ ap (λ s. s.count) c.new-folds.ensures.value) c.requires.size c.in_ok-all.ensures.stands
