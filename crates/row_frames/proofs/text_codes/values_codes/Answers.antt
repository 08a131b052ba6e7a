use Rattle.std.proofs.Common.{sym}
use Rattle.edm_data.specs.NumberedTexts.{numbered_values}
use Rattle.row_frames.proofs.TextCodeLemmas.{made-by-texts}
use Rattle.row_frames.proofs.text_codes.values_codes.Goals as goal

pub returns-clause-value : goal.returns-clause-value
returns-clause-value g c =
    let texts = c.in-Some.texts.now in
    (made-by-texts c.args.table.now _ texts.pool c.numbers-numbers.ensures.pool (numbered_values texts) c.args.values.now c.args.picks.now c.text_codes.result (sym c.in-Some.ensures.value) c.text_codes.ensures).0

pub returns-clause-within : goal.returns-clause-within
returns-clause-within g c =
    let texts = c.in-Some.texts.now in
    (made-by-texts c.args.table.now _ texts.pool c.numbers-numbers.ensures.pool (numbered_values texts) c.args.values.now c.args.picks.now c.text_codes.result (sym c.in-Some.ensures.value) c.text_codes.ensures).1
