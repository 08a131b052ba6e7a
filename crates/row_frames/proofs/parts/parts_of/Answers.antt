use Rattle.std.proofs.Common.{◌≡◌, ◌<◌, arith, length}
use Rattle.std.specs.List.{flat_map}
use Rattle.row_frames.specs.Runs.{part_rows}
use Rattle.row_frames.proofs.PartLemmas.{more-parts, none-left}
use Rattle.row_frames.proofs.RunLemmas.{first-later, later-fewer}
use Rattle.row_frames.proofs.parts.parts_of.Goals as goal

pub loop-rest-preserved : goal.loop-rest-preserved
loop-rest-preserved c =
    let rest = part_rows c.loop-rest.rest in
    more-parts part_rows c.loop-rest.parts.items c.push.new.self.items c.first-front.result rest (part_rows c.later-behind.result) c.args.picks.now c.in_ok-push.ensures.items
    (first-later rest (part_rows c.first-front.result) (part_rows c.later-behind.result) c.args.len c.first-front.ensures c.later-behind.ensures) c.loop-rest.invariant

pub loop-rest-smaller : goal.loop-rest-smaller
loop-rest-smaller c =
    let some : 0 < length (part_rows c.loop-rest.rest) = omega arith in
    later-fewer (part_rows c.loop-rest.rest) (part_rows c.later-behind.result) c.args.len c.later-behind.ensures c.requires some

pub returns : goal.returns
returns c =
    let none : length (part_rows c.loop-rest.rest) ≡ 0 = omega arith in
    none-left (flat_map part_rows c.loop-rest.parts.items) (part_rows c.loop-rest.rest) c.args.picks.now none c.loop-rest.invariant
