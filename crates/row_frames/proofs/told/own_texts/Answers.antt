use Rattle.std.proofs.Common.{◌∙◌, ap, arith, map, refl}
use Rattle.std.proofs.lemmas.List.{take_all}
use Rattle.edm_values.specs.declared.Seen.{Seen}
use Rattle.edm_values.specs.declared.Value.{Value}
use Rattle.row_frames.proofs.ToldLemmas.{texts-told}
use Rattle.row_frames.proofs.told.own_texts.Goals as goal

pub returns : goal.returns
returns c =
    let l = c.args.texts.now in
    texts-told l (record { numbers = c.numbers-numbers.result; values = c.loop-number.values; null = Seen.Null }) c.numbers-numbers.ensures.value c.numbers-numbers.ensures.there
    (c.loop-number.invariant ∙ ap (map Value.Text) (take_all c.loop-number.number l.pool (omega (arith, c.requires))))
    refl
