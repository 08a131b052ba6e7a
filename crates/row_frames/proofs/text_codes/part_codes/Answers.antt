use Rattle.std.proofs.Common.{◌<◌, ◌+◌, ◌∙◌, ap, arith, length, subst}
use Rattle.std.specs.Prelude.{option_map}
use Rattle.std.proofs.lemmas.List.{take_all}
use Rattle.std.proofs.lemmas.List.Elements.{All-push}
use Rattle.edm_data.specs.NumberedTexts.{numbered_values}
use Rattle.row_frames.specs.Frames.{value_at}
use Rattle.row_frames.specs.Runs.{part_rows}
use Rattle.row_frames.specs.TextCodes.{IsCodeThere, IsTextCode, place_behind}
use Rattle.row_frames.specs.declared.tables.Pick.{Pick}
use Rattle.row_frames.proofs.LinkCodeLemmas.{coded-at}
use Rattle.value_codes.specs.Above.{AreCoded}
use Rattle.row_frames.proofs.text_codes.part_codes.Goals as goal

pub loop-k-preserved : goal.loop-k-preserved
loop-k-preserved c =
    let texts = c.args.texts.now in
    let xs = part_rows c.args.part.now in
    let code = c.in-Some.code in
    let R = IsCodeThere c.args.table.now texts (option_map (λ l. l.now) c.args.links) in
    let lt : c.loop-k.k < length xs = omega arith in
    let place = c.place_of-place.ensures ∙ ap (place_behind _) c.place_in.ensures in
    let there = subst (λ o. IsTextCode texts.pool (value_at (numbered_values texts) o) code) place c.in-Some.ensures.code in
    let here = subst (λ (x : Pick). R x code) (c.at.ensures c.at.result) there in
    rw c.in_ok-push-in-Some.ensures.items (
      coded-at R xs c.loop-k.codes.items c.loop-k.k c.at.result code lt c.loop-k.invariant.0 here,
      All-push (λ n. n < c.args.null + 1) c.loop-k.codes.items code c.loop-k.invariant.1 c.in-Some.ensures.below,
    )

pub returns : goal.returns
returns c =
    let R = IsCodeThere c.args.table.now c.args.texts.now (option_map (λ l. l.now) c.args.links) in
    record {
      coded = subst (λ l. AreCoded R l c.loop-k.codes.items) (take_all c.loop-k.k (part_rows c.args.part.now) (omega arith)) c.loop-k.invariant.0;
      below = c.loop-k.invariant.1;
    }
