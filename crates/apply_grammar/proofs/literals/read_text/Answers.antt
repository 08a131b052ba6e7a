use Rattle.std.proofs.Common.{◌≡◌, ℕ, ◌∙◌, sym, ap, subst, Some, string_bytes, IsUtf8, Vec, Global}
use Rattle.std.proofs.lemmas.Str.{IsUtf8-string_bytes}
use Rattle.apply_ast.specs.Trees.{Expr}
use Rattle.apply_grammar.proofs.Leaves.{false_true}
use Rattle.apply_grammar.proofs.Characters.{text_read, text_bad}
use Rattle.apply_grammar.proofs.literals.read_text.Goals as goal

pub returns-in-Ok : goal.returns-in-Ok
returns-in-Ok c =
    let e : string_bytes c.in-Ok.string ≡ c.in_ok-bytes.bytes.items = ap (λ (v : Vec ℕ Global). v.items) c.in-Ok.ensures.ok in
    text_read c.args.text.now c.in_ok-bytes.bytes.items c.in_ok-bytes.rest.now c.in_ok-bytes.ensures (subst (λ l. IsUtf8 l) e (IsUtf8-string_bytes c.in-Ok.string))
    ∙ ap (λ l. Some (Expr.Text l, c.in_ok-bytes.rest.now)) (sym (c.in_ok-new-in-Ok.ensures.bytes ∙ e))

pub returns : goal.returns
returns c = text_bad c.args.text.now c.in_ok-bytes.bytes.items c.in_ok-bytes.rest.now c.in_ok-bytes.ensures (λ u. false_true (c.in-Err.ensures.succeeds u))
