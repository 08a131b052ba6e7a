use Rattle.std.proofs.Common.{◌≡◌, ◌<◌, ◌∙◌, ap, refl, sym, subst, length, slice_get, Some}
use Rattle.std.proofs.lemmas.Option.{slice_get_read}
use Rattle.edm_data.specs.NumberedTexts.{numbered_values}
use Rattle.row_frames.specs.Frames.{value_at}
use Rattle.row_frames.specs.TextCodes.{IsTextCode}
use Rattle.row_frames.proofs.TextCodeLemmas.{text-code}
use Rattle.row_frames.proofs.text_codes.text_code.Goals as goal

pub returns-in-Some-get-clause-code : goal.returns-in-Some-get-clause-code
returns-in-Some-get-clause-code c =
    let l = c.args.texts.now in
    let k = c.in-Some.at in
    let n = c.in-Some-get.number.now in
    let within = c.in-Some-get.ensures.lookup.3.0 in
    let is = c.in-Some-get.ensures.lookup.1 in
    let at : slice_get l.numbers k ≡ Some n = ap (λ ns. slice_get ns k) (sym c.numbers.ensures.value) ∙ slice_get_read c.numbers.result.now (length c.numbers.result.now) k n refl within is in
    let less : n < length l.pool = subst (λ m. m < length l.pool) (sym is) (c.numbers.ensures.there k n within) in
    subst (λ o. IsTextCode l.pool (value_at (numbered_values l) o) n) (sym c.in-Some.is) (text-code l k n at less)
