use Rattle.std.proofs.Common.{List, map, subst, sym}
use Rattle.std.specs.List.{All}
use Rattle.std.specs.Prelude.{IfOk}
use Rattle.edm_values.specs.Values.{seen_value}
use Rattle.row_frames.specs.Frames.{AreRead, IsReadable}
use Rattle.row_frames.specs.declared.tables.Pick.{Pick}
use Rattle.row_frames.proofs.seen.seen_alone.Goals as goal

pub seen_in_part-requires : goal.seen_in_part-requires
seen_in_part-requires c = subst (All (IsReadable c.args.readers.now)) (sym c.as_part-part.ensures) c.requires

pub returns : goal.returns
returns c = subst (λ (xs : List Pick). IfOk c.seen_in_part.result (λ vs. AreRead c.args.readers.now xs (map (λ v. seen_value v) vs.items))) c.as_part-part.ensures c.seen_in_part.ensures
