use Rattle.std.proofs.Common.{rules, ◌∙◌, ap, map}
use Rattle.top_family.proofs.NumberRanks.{sorted-by_mantissa}
use Rattle.top_family.specs.declared.numbers.Ranked.{Ranked}
use Rattle.top_family.specs.Selections.{seen_values}
use Rattle.top_family.proofs.numbers.number_ranking.Goals as goal

pub returns : goal.returns
returns c = (
  c.in_ok-places_of.ensures ∙ ap (map (λ (r : Ranked). r.place)) c.as_slice.ensures.value
      ∙ sorted-by_mantissa c.args.bottom (seen_values c.args.values.now) c.in_ok-ranked.ranked.items c.sort_by.new.self.items c.requires.numbers c.in_ok-ranked.ensures.1 c.in_ok-ranked.ensures.0
      c.in_ok-sort_by.ensures.sorted c.sort_by.ensures.stable (λ a r f' k. search rules),
  c.in_ok-ranked.ensures.1,
)
