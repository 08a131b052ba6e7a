use Rattle.std.proofs.Common.{IfOk, List, map, subst, sym}
use Rattle.std.specs.List.{All}
use Rattle.par_stages.specs.Placed.{placed}
use Rattle.row_frames.specs.Frames.{read_at, IsReadable}
use Rattle.row_frames.specs.declared.tables.Pick.{Pick}
use Rattle.row_frames.proofs.folded.fold_read.Goals as goal

pub fold_run-requires-clause-readable : goal.fold_run-requires-clause-readable
fold_run-requires-clause-readable g c κs within = subst (All (IsReadable c.args.readers.now)) (sym c.in-Run.ensures) c.requires.readable

pub fold_run-requires-clause-kind : goal.fold_run-requires-clause-kind
fold_run-requires-clause-kind g c κs within = subst (λ (xs : List Pick). All (g.P.Partial.takes (g.P.Partial.kind c.args.empty)) (map (read_at c.args.readers.now) xs)) (sym c.in-Run.ensures) c.requires.kind

pub returns-in-Run : goal.returns-in-Run
returns-in-Run g c = subst (λ (xs : List Pick). IfOk c.fold_run.result (λ p. g.P.Partial.stands_for p (placed 0 (map (read_at c.args.readers.now) xs)))) c.in-Run.ensures c.fold_run.ensures

pub fold_list-requires-clause-readable : goal.fold_list-requires-clause-readable
fold_list-requires-clause-readable g c κs within = subst (All (IsReadable c.args.readers.now)) (sym c.in-List.ensures) c.requires.readable

pub fold_list-requires-clause-kind : goal.fold_list-requires-clause-kind
fold_list-requires-clause-kind g c κs within = subst (λ (xs : List Pick). All (g.P.Partial.takes (g.P.Partial.kind c.args.empty)) (map (read_at c.args.readers.now) xs)) (sym c.in-List.ensures) c.requires.kind

pub returns-in-List : goal.returns-in-List
returns-in-List g c = subst (λ (xs : List Pick). IfOk c.fold_list.result (λ p. g.P.Partial.stands_for p (placed 0 (map (read_at c.args.readers.now) xs)))) c.in-List.ensures c.fold_list.ensures
