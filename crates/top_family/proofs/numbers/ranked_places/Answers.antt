use Rattle.std.proofs.Common.{◌≡◌, ◌++◌, [], ◌∷◌, ◌∙◌, ap, sym, map, length, arith, add-one}
use Rattle.std.specs.List.{list_any}
use Rattle.std.proofs.lemmas.List.{length-map, map-append, take_all}
use Rattle.edm_values.specs.Lists.{places}
use Rattle.edm_values.specs.Values.{is_beyond, seen_value, value_in}
use Rattle.top_family.proofs.Places.{beyond-more, beyond-there, seen-in}
use Rattle.top_family.specs.Numbers.{ranked_at, ranked_of}
use Rattle.top_family.specs.Selections.{seen_values}
use Rattle.top_family.proofs.numbers.ranked_places.Goals as goal

pub returns-then-is_beyond : goal.returns-then-is_beyond
returns-then-is_beyond c = beyond-there c.args.values.now c.loop-k.k c.index-values-k.result c.loop-k-test.true c.index-values-k.is (sym c.is_beyond.ensures.value ∙ c.if-is_beyond.true)

pub loop-k-preserved : goal.loop-k-preserved
loop-k-preserved c =
    let values = c.args.values.now in
    let vs = seen_values values in
    let k = c.loop-k.k in
    let there : seen_value c.index-values-k.result ≡ value_in vs k = sym (seen-in values k c.index-values-k.result c.loop-k-test.true c.index-values-k.is) in (
      c.in_ok-push.ensures.items ∙ (λ i. c.loop-k.invariant.0 i ++ (c.ranked_of.ensures ∙ ap (λ v. ranked_of v k) there) i ∷ [])
          ∙ sym (map-append (ranked_at vs) (places k) (k ∷ [])) ∙ ap (λ m. map (ranked_at vs) (places m)) (sym (add-one k)),
      beyond-more values k c.index-values-k.result c.loop-k-test.true c.index-values-k.is c.loop-k.invariant.1 (sym c.is_beyond.ensures.value ∙ c.if-is_beyond.false),
    )

pub returns : goal.returns
returns c =
    let values = c.args.values.now in
    let whole : c.loop-k.k ≡ length values = omega (arith, c.loop-k.auto.k-end, c.loop-k-test.false) in (
      c.loop-k.invariant.0 ∙ ap (λ k. map (ranked_at (seen_values values)) (places k)) (whole ∙ sym (length-map values seen_value)),
      ap (λ us. list_any is_beyond (seen_values us)) (sym (take_all c.loop-k.k values (omega arith))) ∙ c.loop-k.invariant.1,
    )
