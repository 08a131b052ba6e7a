use Rattle.std.proofs.Common.{◌∙◌, ◌<◌, ap, length, subst}
use Rattle.std.specs.List.{AllZip}
use Rattle.edm_values.specs.Lists.{at_places}
use Rattle.row_frames.specs.Joined.{IsShared}
use Rattle.row_frames.specs.declared.tables.Pick.{Pick}
use Rattle.row_frames.proofs.JoinedLemmas.{shared-all, shared-picked, shared-within}
use Rattle.row_frames.proofs.PlaceLemmas.{at-within, picked-at, places-seen}
use Rattle.row_frames.proofs.frames.Frame.picked.Goals as goal

pub picks_at-requires : goal.picks_at-requires
picks_at-requires c = places-seen c.self.inside.tables.items c.self.inside.picks c.args.self.now c.args.places.now c.self.view_is c.requires.within

pub invariant_of-result : goal.invariant_of-result
invariant_of-result c =
    let ts = c.self.inside.tables.items in
    let us = c.in_ok-tables.tables.items in
    let xs = c.self.inside.picks in
    let there = places-seen ts xs c.args.self.now c.args.places.now c.self.view_is c.requires.within in
    let z = subst (λ l. AllZip IsShared l us) c.as_slice.ensures.value c.in_ok-tables.ensures in
    let e = c.of_list-picks.ensures ∙ c.in_ok-list.ensures in (
      shared-all ts us z c.self.invariant.0,
      shared-within ts us (at_places xs c.args.places.now) c.of_list-picks.result z e (at-within (λ (x : Pick). x.table < length ts) xs c.args.places.now there c.self.invariant.1),
    )

pub returns : goal.returns
returns c =
    let ts = c.self.inside.tables.items in
    let us = c.in_ok-tables.tables.items in
    let xs = c.self.inside.picks in
    let z = subst (λ l. AllZip IsShared l us) c.as_slice.ensures.value c.in_ok-tables.ensures in
    record {
      value = shared-picked ts us (at_places xs c.args.places.now) c.of_list-picks.result z (c.of_list-picks.ensures ∙ c.in_ok-list.ensures)
          ∙ picked-at ts xs c.args.places.now
          ∙ ap (λ l. at_places l c.args.places.now) c.self.view_is;
    }
