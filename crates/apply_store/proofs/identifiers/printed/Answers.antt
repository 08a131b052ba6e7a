use Rattle.std.proofs.Common.{◌++◌, sym, ap, ◌∙◌, subst}
use Rattle.std.specs.Str.{IsUtf8}
use Rattle.std.proofs.lemmas.Bool.{false≢true}
use Rattle.edm_values.specs.Literals.{plain_text}
use Rattle.edm_values.specs.Values.{seen_value}
use Rattle.apply_ast.proofs.PlainTexts.{plain_is_utf8}
use Rattle.apply_store.proofs.identifiers.printed.Goals as goal

pub unreachable-requires : goal.unreachable-requires
unreachable-requires c =
    let text = plain_text (seen_value c.args.value) in
    let bytes = c.in_ok-print_value.ensures.ok ∙ ap (λ front. front ++ text) c.new-bytes.ensures.items in
    false≢true (c.in-Err.ensures.succeeds (subst IsUtf8 (sym bytes) (plain_is_utf8 (seen_value c.args.value) c.requires.text)))
