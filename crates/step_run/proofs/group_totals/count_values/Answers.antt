use Rattle.std.proofs.Common.{◌∙◌, ap, length, map, arith}
use Rattle.std.specs.Prelude.{pos}
use Rattle.std.proofs.lemmas.List.{take_all}
use Rattle.std.proofs.lemmas.Simd.{map-map}
use Rattle.edm_values.specs.declared.Value.{Value}
use Rattle.edm_values.specs.Lists.{places}
use Rattle.numbered_groups.specs.Numbered.{places_with}
use Rattle.step_run.proofs.group_totals.count_values.Goals as goal

pub returns : goal.returns
returns c =
    let k = c.loop-n.n-index in
    let cs = c.as_slice-counted.result.now in
    let test = c.loop-n-test.false in
    c.loop-n.invariant
    ∙ ap (map (λ n. Value.Int (pos n))) (take_all k cs (omega (arith, test)) ∙ c.as_slice-counted.ensures.value ∙ c.in_ok-counts.ensures)
    ∙ map-map (λ n. Value.Int (pos n)) (λ j. length (places_with c.args.groups.now.numbers j)) (places (length c.args.groups.now.firsts))
