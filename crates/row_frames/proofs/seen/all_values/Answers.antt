use Rattle.std.proofs.Common.{◌∙◌, ap, refl}
use Rattle.std.specs.List.{flat_map}
use Rattle.std.proofs.Crossing.{crosses}
use Rattle.std.proofs.MapsCrossing as maps
use Rattle.std.proofs.lemmas.Result.{IfOk-weaker}
use denote.Param.Send.{sendable}
use Rattle.row_frames.specs.Frames.{read_at, AreRead, IsReadable}
use Rattle.row_frames.specs.Runs.{part_rows}
use Rattle.row_frames.proofs.PartLemmas.{each-part, parts-whole}
use Rattle.row_frames.proofs.seen.all_values.Goals as goal

pub values_in_parts-requires : goal.values_in_parts-requires
values_in_parts-requires g c = (
  search (sendable, crosses, maps.crosses) depth 40,
  each-part (IsReadable c.args.readers.now) part_rows c.as_slice.result.now c.args.picks.now (ap (flat_map part_rows) c.as_slice.ensures.value ∙ c.in_ok-parts.ensures) c.requires.readable,
)

pub returns : goal.returns
returns g c =
    let rs = c.args.readers.now in
    let xs = c.args.picks.now in
    let whole = ap (flat_map part_rows) c.as_slice.ensures.value ∙ c.in_ok-parts.ensures in
    IfOk-weaker c.whole.result _ (λ vs. AreRead rs xs (vs.items))
    (λ vs h. record { read = parts-whole _ part_rows (λ l. l) refl (λ a b. refl) (read_at rs) (AreRead rs) (λ part ys p. p.read) xs c.as_slice.result.now c.in_ok-found.found.items h.0 vs.items whole c.in_ok-found.ensures h.1 h.2 }) c.whole.ensures
