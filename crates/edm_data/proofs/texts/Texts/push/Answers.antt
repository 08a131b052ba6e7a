use Rattle.std.proofs.Common.{◌≡◌, ◌+◌, ◌++◌, ◌∷◌, [], length, sym, ap, ◌∙◌, arith}
use Rattle.edm_data.specs.TextSpans.{texts_in}
use Rattle.edm_data.proofs.TextLemmas.{AreTexts-grown, AreTexts-push, texts_in-push, texts_grown, OnErr-from}
use Rattle.edm_data.proofs.texts.Texts.push.Goals as goal

pub invariant_of-self-in_err-push : goal.invariant_of-self-in_err-push
invariant_of-self-in_err-push c = rw (c.in_err-push.ensures.items, c.in_ok-extend_from_slice.ensures.items) (AreTexts-grown c.self.inside.bytes.items c.as_bytes.result.now c.self.inside.spans.items c.self.invariant)

pub returns-in_err-push-clause-err : goal.returns-in_err-push-clause-err
returns-in_err-push-clause-err c =
    let bytes = c.self.inside.bytes.items in
    OnErr-from c.from_residual-in_err-push.result _ (rw (c.in_err-push.ensures.items, c.in_ok-extend_from_slice.ensures.items) (texts_grown bytes c.as_bytes.result.now c.self.inside.spans.items c.self.invariant ∙ c.self.view_is))

pub invariant_of-self-2 : goal.invariant_of-self-2
invariant_of-self-2 c =
    let begins : c.len-begin.result ≡ length c.self.inside.bytes.items = omega (arith, c.self.inside.bytes.ok.0) in
    let ends : c.len-begin.result + length c.args.text.now ≡ c.len-begin.result + length c.as_bytes.result.now = ap (λ t. c.len-begin.result + length t) (sym c.as_bytes.ensures.value) in
    rw (c.in_ok-push.ensures.items, c.in_ok-extend_from_slice.ensures.items) (AreTexts-push c.self.inside.bytes.items c.as_bytes.result.now c.self.inside.spans.items c.len-begin.result (c.len-begin.result + length c.args.text.now) begins ends c.as_bytes.ensures.utf8 c.self.invariant)

pub returns : goal.returns
returns c =
    let begins : c.len-begin.result ≡ length c.self.inside.bytes.items = omega (arith, c.self.inside.bytes.ok.0) in
    let ends : c.len-begin.result + length c.args.text.now ≡ c.len-begin.result + length c.as_bytes.result.now = ap (λ t. c.len-begin.result + length t) (sym c.as_bytes.ensures.value) in
    rw (c.in_ok-push.ensures.items, c.in_ok-extend_from_slice.ensures.items, ← c.self.view_is) (record { ok = texts_in-push c.self.inside.bytes.items c.as_bytes.result.now c.self.inside.spans.items c.len-begin.result (c.len-begin.result + length c.args.text.now) begins ends c.self.invariant ∙ ap (λ t. texts_in c.self.inside.bytes.items c.self.inside.spans.items ++ t ∷ []) c.as_bytes.ensures.value; err = tt })
