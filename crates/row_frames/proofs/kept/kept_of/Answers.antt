use Rattle.std.proofs.Common.{◌∙◌, Bool, Err, Option, ap, sym}
use Rattle.std.specs.List.{flat_map}
use Rattle.std.proofs.Crossing.{crosses}
use Rattle.std.proofs.MapsCrossing as maps
use Rattle.std.proofs.lemmas.Result.{err_from_is_err_and}
use denote.Param.Send.{sendable}
use Rattle.row_frames.specs.Answers.{answer_of}
use Rattle.row_frames.specs.Frames.{read_at, IsReadable}
use Rattle.row_frames.specs.Runs.{part_rows}
use Rattle.row_frames.specs.declared.tables.Pick.{Pick}
use Rattle.row_frames.proofs.KeptLemmas.{err-keeps, past-in-parts, whole-in-parts}
use Rattle.row_frames.proofs.PartLemmas.{each-part}
use Rattle.row_frames.proofs.kept.kept_of.Goals as goal

pub kept_in_parts-requires : goal.kept_in_parts-requires
kept_in_parts-requires g c = (
  search (sendable, crosses, maps.crosses) depth 40,
  each-part (IsReadable c.args.readers.now) part_rows c.as_slice.result.now c.args.picks.now (ap (flat_map part_rows) c.as_slice.ensures.value ∙ c.in_ok-parts.ensures) c.requires,
)

pub returns-in_err-found : goal.returns-in_err-found
returns-in_err-found g c =
    let f = λ (x : Pick). answer_of (read_at c.args.readers.now x) in
    let whole = ap (flat_map part_rows) c.as_slice.ensures.value ∙ c.in_ok-parts.ensures in
    let q = err_from_is_err_and c.from_residual-in_err-found.result c.from_residual-in_err-found.ensures.1 in
    err-keeps f c.args.picks.now c.from_residual-in_err-found.result q.0 q.1 (λ h.
    past-in-parts f part_rows c.as_slice.result.now c.args.picks.now c.in_ok-results.results.items whole c.in_ok-results.ensures (c.in_err-found.ensures.range (ap Err (sym q.2 ∙ h))))

pub returns : goal.returns
returns g c =
    let f = λ (x : Pick). answer_of (read_at c.args.readers.now x) in
    let whole = ap (flat_map part_rows) c.as_slice.ensures.value ∙ c.in_ok-parts.ensures in
    whole-in-parts f part_rows c.as_slice.result.now c.args.picks.now c.in_ok-results.results.items c.in_ok-joined.field-0.items whole c.in_ok-results.ensures (c.in_ok-found.found.items, c.in_ok-found.ensures.ok, c.in_ok-joined.ensures)
