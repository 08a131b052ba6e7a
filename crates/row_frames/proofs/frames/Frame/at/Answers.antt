use Rattle.std.proofs.Common.{◌∙◌, ◌<◌, ap, length}
use Rattle.std.proofs.lemmas.List.Elements.{All-same}
use Rattle.edm_values.specs.Lists.{at_places}
use Rattle.row_frames.specs.Frames.{all_picked}
use Rattle.row_frames.specs.declared.tables.Pick.{Pick}
use Rattle.row_frames.proofs.PlaceLemmas.{at-within, picked-at, places-seen}
use Rattle.row_frames.proofs.frames.Frame.at.Goals as goal

pub picks_at-requires : goal.picks_at-requires
picks_at-requires c = places-seen c.self.inside.tables.items c.self.inside.picks c.args.self c.args.places.now c.self.view_is c.requires.within

pub invariant_of-result : goal.invariant_of-result
invariant_of-result c =
    let there = places-seen c.self.inside.tables.items c.self.inside.picks c.args.self c.args.places.now c.self.view_is c.requires.within in
    let W = λ (x : Pick). x.table < length c.self.inside.tables.items in (
      c.self.invariant.0,
      All-same W c.of_list-picks.result (at_places c.self.inside.picks c.args.places.now) (c.of_list-picks.ensures ∙ c.in_ok-list.ensures) (at-within W c.self.inside.picks c.args.places.now there c.self.invariant.1),
    )

pub returns : goal.returns
returns c = record {
  value = ap (all_picked c.self.inside.tables.items) (c.of_list-picks.ensures ∙ c.in_ok-list.ensures)
      ∙ picked-at c.self.inside.tables.items c.self.inside.picks c.args.places.now
      ∙ ap (λ l. at_places l c.args.places.now) c.self.view_is;
}
