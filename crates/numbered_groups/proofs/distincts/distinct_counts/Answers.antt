use Rattle.std.proofs.Common.{◌<◌, ◌∙◌, ap, false, filter, get_or, length, map, not, subst, sym}
use Rattle.std.specs.List.{All}
use Rattle.std.proofs.lemmas.Result.{IfOk-weaker}
use Rattle.numbered_groups.proofs.DistinctLaws.{distinct-of_groups, kept-below}
use Rattle.numbered_groups.proofs.distincts.distinct_counts.Goals as goal

pub tallies-requires : goal.tallies-requires
tallies-requires g c =
    let numbers = c.args.numbers.now in
    let pairs = c.in_ok-pairs.pairs in
    let size = c.in_ok-pairs.ensures.numbers_are.size in
    record {
      there = subst (All (λ n. n < c.args.count)) (sym (c.as_slice.ensures.value ∙ c.in_ok-counted.ensures))
          (kept-below numbers c.args.count (length pairs.numbers) (λ f. not (get_or c.args.nulls.now (get_or c.numbers-own.result.now f 0) false)) c.firsts.result.now (c.requires.long ∙ sym size) c.requires.there c.firsts.ensures.there);
    }

pub returns : goal.returns
returns g c =
    let numbers = c.args.numbers.now in
    let values = c.args.values.now in
    let counted = c.as_slice.ensures.value ∙ c.in_ok-counted.ensures ∙ ap (λ fs. map (λ f. get_or numbers f 0) (filter (λ f. not (get_or c.args.nulls.now (get_or c.numbers-own.result.now f 0) false)) fs)) c.firsts.ensures.value in
    record {
      value = IfOk-weaker c.count_values.result _ _
          (λ found made vs is told quiet.
          distinct-of_groups vs values c.args.nulls.now is told numbers c.numbers-own.result.now c.as_slice.result.now c.as_slice-2.result.now found.items c.in_ok-pairs.pairs c.args.count (c.requires.long ∙ is.numbers_are.size) c.numbers-own.ensures.value c.in_ok-pairs.ensures quiet counted (c.as_slice-2.ensures.value ∙ c.in_ok-counts.ensures) made)
          c.count_values.ensures;
    }
