use Rattle.std.proofs.Common.{◌∙◌, ◌+◌, ◌<◌, List, ap, length, subst, sym}
use Rattle.std.specs.List.{All, flat_map}
use Rattle.std.proofs.Crossing.{crosses}
use Rattle.std.proofs.MapsCrossing as maps
use denote.Param.Send.{sendable}
use Rattle.row_frames.specs.CodeParts.{MadeCodes}
use Rattle.row_frames.specs.LinkCodes.{IsLinkCode}
use Rattle.row_frames.specs.Runs.{part_rows}
use Rattle.row_frames.specs.declared.tables.Pick.{Pick}
use Rattle.row_frames.proofs.CodePartLemmas.{codes-whole}
use Rattle.row_frames.proofs.PartLemmas.{each-part}
use Rattle.row_frames.proofs.codes.all_link_codes.Goals as goal

pub part_link_codes-requires-clause-within : goal.part_link_codes-requires-clause-within
part_link_codes-requires-clause-within g c = subst (All (λ (x : Pick). x.table < length c.args.tables.now)) (sym c.as_part.ensures) c.requires.within

pub parts_link_codes-requires : goal.parts_link_codes-requires
parts_link_codes-requires g c = (search (sendable, crosses, maps.crosses) depth 40, (c.requires.tables, each-part (λ (x : Pick). x.table < length c.args.tables.now) part_rows c.as_slice.result.now c.args.picks.now (ap (flat_map part_rows) c.as_slice.ensures.value ∙ c.in_ok-parts.ensures) c.requires.within))

pub returns-then-is_one_part : goal.returns-then-is_one_part
returns-then-is_one_part g c = subst (λ (xs : List Pick). MadeCodes (IsLinkCode c.args.tables.now c.args.links.now) (c.args.count + 1) xs c.part_link_codes.result) c.as_part.ensures c.part_link_codes.ensures

pub returns : goal.returns
returns g c =
    let whole = ap (flat_map part_rows) c.as_slice.ensures.value ∙ c.in_ok-parts.ensures in
    codes-whole _ (IsLinkCode c.args.tables.now c.args.links.now) (c.args.count + 1) part_rows c.args.picks.now c.as_slice.result.now c.in_ok-found.found.items c.joined_codes.result whole c.in_ok-found.ensures c.joined_codes.ensures
