use Rattle.std.proofs.Common.{◌≡◌, ◌∙◌, ◌<◌, ◌∷◌, [], ◌++◌, arith, ap, length, map, subst, sym}
use Rattle.std.proofs.lemmas.List.{map-append, take_all}
use Rattle.row_frames.specs.Frames.{picked}
use Rattle.row_frames.specs.Related.{placed}
use Rattle.row_frames.specs.declared.tables.Pick.{Pick}
use Rattle.row_frames.proofs.RunLemmas.{more-taken}
use Rattle.row_frames.proofs.related.picked_places.Goals as goal

pub picked_place-requires-clause-within : goal.picked_place-requires-clause-within
picked_place-requires-clause-within c =
    let within : c.loop-k.k < length c.args.picks.now = omega arith in
    subst (λ (x : Pick). x.table < length c.args.tables.now) (sym (c.at.ensures c.at.result)) (c.requires.within c.loop-k.k c.at.result within)

pub loop-k-preserved : goal.loop-k-preserved
loop-k-preserved c =
    let within : c.loop-k.k < length c.args.picks.now = omega arith in
    let set = placed c.args.set in
    let made = ap (map set) c.in_ok-push.ensures.items ∙ map-append set c.loop-k.places.items (c.picked_place.result ∷ []) in
    more-taken (picked c.args.tables.now) c.args.picks.now c.loop-k.k c.at.result (set c.picked_place.result) (map set c.loop-k.places.items) (map set c.push.new.self.items) within (c.at.ensures c.at.result) c.picked_place.ensures made c.loop-k.invariant

pub returns : goal.returns
returns c = c.loop-k.invariant ∙ ap (map (picked c.args.tables.now)) (take_all c.loop-k.k c.args.picks.now (omega arith))
