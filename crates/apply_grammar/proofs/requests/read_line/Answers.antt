use Rattle.std.proofs.Common.{◌≡◌, ◌∙◌, sym, subst, IsUtf8}
use Rattle.percent_encoding.specs.Percent.{percent_decode}
use Rattle.apply_grammar.specs.Gives.{GivesRequest}
use Rattle.apply_grammar.proofs.LineLaws.{line_read, line_bad}
use Rattle.apply_grammar.proofs.requests.read_line.Goals as goal

pub returns-in-Ok : goal.returns-in-Ok
returns-in-Ok c =
    let e : c.deref.result.now ≡ percent_decode c.args.line.now = c.deref.ensures.value ∙ c.in_ok-append_to.ensures.ok ∙ rw c.new-bytes.ensures.items c.percent_decode.ensures.bytes in
    let f : c.as_bytes.result.now ≡ percent_decode c.args.line.now = c.as_bytes.ensures.value ∙ c.in-Ok.ensures.cases.0 ∙ e in
    let u : IsUtf8 c.as_bytes.result.now = subst (λ l. IsUtf8 l) (sym (c.as_bytes.ensures.value ∙ c.in-Ok.ensures.cases.0)) c.in-Ok.ensures.cases.1 in
    subst (λ r. GivesRequest c.read_decoded.result r) (sym (line_read c.args.line.now c.as_bytes.result.now f u)) c.read_decoded.ensures

pub returns : goal.returns
returns c =
    let e : c.deref.result.now ≡ percent_decode c.args.line.now = c.deref.ensures.value ∙ c.in_ok-append_to.ensures.ok ∙ rw c.new-bytes.ensures.items c.percent_decode.ensures.bytes in
    line_bad c.args.line.now c.deref.result.now e c.in-Err.ensures.cases.0
