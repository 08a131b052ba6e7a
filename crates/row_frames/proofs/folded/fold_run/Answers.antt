use Rattle.std.proofs.Common.{◌∙◌, IfOk, List, map, subst, sym}
use Rattle.std.specs.List.{All}
use Rattle.par_stages.specs.Placed.{placed}
use Rattle.row_frames.specs.Frames.{read_at, IsReadable}
use Rattle.row_frames.specs.declared.tables.Pick.{Pick}
use Rattle.row_frames.proofs.folded.fold_run.Goals as goal

pub fold_own_ints-requires-clause-kind : goal.fold_own_ints-requires-clause-kind
fold_own_ints-requires-clause-kind g c κs within = subst (λ vs. All (g.P.Partial.takes (g.P.Partial.kind c.args.empty)) vs) (sym c.in-Some.ensures) c.requires.kind

pub returns-in-Some : goal.returns-in-Some
returns-in-Some g c = subst (λ vs. IfOk c.fold_own_ints.result (λ p. g.P.Partial.stands_for p (placed 0 vs))) c.in-Some.ensures c.fold_own_ints.ensures

pub fold_own_decs-requires-clause-kind : goal.fold_own_decs-requires-clause-kind
fold_own_decs-requires-clause-kind g c κs within = subst (λ vs. All (g.P.Partial.takes (g.P.Partial.kind c.args.empty)) vs) (sym c.in-Some-run_decs.ensures) c.requires.kind

pub returns-in-Some-run_decs : goal.returns-in-Some-run_decs
returns-in-Some-run_decs g c = subst (λ vs. IfOk c.fold_own_decs.result (λ p. g.P.Partial.stands_for p (placed 0 vs))) c.in-Some-run_decs.ensures c.fold_own_decs.ensures

pub fold_each-requires-clause-readable : goal.fold_each-requires-clause-readable
fold_each-requires-clause-readable g c κs within = subst (All (IsReadable c.args.readers.now)) (sym (c.as_slice.ensures.value ∙ c.in_ok-picks.ensures)) c.requires.readable

pub fold_each-requires-clause-kind : goal.fold_each-requires-clause-kind
fold_each-requires-clause-kind g c κs within =
    subst (λ (xs : List Pick). All (g.P.Partial.takes (g.P.Partial.kind c.args.empty)) (map (read_at c.args.readers.now) xs)) (sym (c.as_slice.ensures.value ∙ c.in_ok-picks.ensures)) c.requires.kind

pub returns : goal.returns
returns g c =
    subst (λ (xs : List Pick). IfOk c.fold_each.result (λ p. g.P.Partial.stands_for p (placed 0 (map (read_at c.args.readers.now) xs)))) (c.as_slice.ensures.value ∙ c.in_ok-picks.ensures) c.fold_each.ensures
