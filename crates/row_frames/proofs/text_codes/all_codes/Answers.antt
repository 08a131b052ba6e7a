use Rattle.std.proofs.Common.{◌∙◌, ◌+◌, List, ap, subst}
use Rattle.std.specs.List.{flat_map}
use Rattle.std.proofs.Crossing.{crosses}
use Rattle.std.proofs.MapsCrossing as maps
use denote.Param.Send.{sendable}
use Rattle.row_frames.specs.CodeParts.{MadeCodes}
use Rattle.std.specs.Prelude.{option_map}
use Rattle.row_frames.specs.TextCodes.{IsCodeThere}
use Rattle.row_frames.specs.Runs.{part_rows}
use Rattle.row_frames.specs.declared.tables.Pick.{Pick}
use Rattle.row_frames.proofs.CodePartLemmas.{codes-whole}
use Rattle.row_frames.proofs.text_codes.all_codes.Goals as goal

pub parts_codes-requires : goal.parts_codes-requires
parts_codes-requires g c = (search (sendable, crosses, maps.crosses) depth 40, c.requires)

pub returns-then-is_one_part : goal.returns-then-is_one_part
returns-then-is_one_part g c = subst (λ (xs : List Pick). MadeCodes (IsCodeThere c.args.table.now c.args.texts.now (option_map (λ l. l.now) c.args.links)) (c.args.null + 1) xs c.part_codes.result) c.as_part.ensures c.part_codes.ensures

pub returns : goal.returns
returns g c =
    let whole = ap (flat_map part_rows) c.as_slice.ensures.value ∙ c.in_ok-parts.ensures in
    codes-whole _ (IsCodeThere c.args.table.now c.args.texts.now (option_map (λ l. l.now) c.args.links)) (c.args.null + 1) part_rows c.args.picks.now c.as_slice.result.now c.in_ok-found.found.items c.joined_codes.result whole c.in_ok-found.ensures c.joined_codes.ensures
