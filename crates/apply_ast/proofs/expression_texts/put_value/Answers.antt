use Rattle.std.proofs.Common.{◌++◌, sym, ap, ◌∙◌, subst}
use Rattle.std.specs.Str.{IsUtf8}
use Rattle.edm_values.specs.Literals.{plain_text}
use Rattle.edm_values.specs.Values.{seen_value}
use Rattle.apply_ast.proofs.PlainTexts.{plain_is_utf8}
use Rattle.apply_ast.proofs.expression_texts.put_value.Goals as goal

pub unreachable-requires : goal.unreachable-requires
unreachable-requires c =
    let text = plain_text (seen_value c.args.v) in
    let bytes = c.deref.ensures.value ∙ c.in_ok-print_value.ensures.ok ∙ ap (λ front. front ++ text) c.new-bytes.ensures.items in
    c.in-Err.ensures.cases.0 (subst IsUtf8 (sym bytes) (plain_is_utf8 (seen_value c.args.v) c.requires.text))
