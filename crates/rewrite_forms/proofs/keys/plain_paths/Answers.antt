use Rattle.std.proofs.Common.{sym, ◌∙◌, ap, ◌++◌, arith}
use Rattle.apply_ast.specs.Views.{key_of}
use Rattle.context_typing.specs.Grouping.{plain_of}
use Rattle.rewrite_forms.proofs.KeyForms.{plain-more}
use Rattle.rewrite_forms.proofs.keys.plain_paths.Goals as goal

pub loop-key-preserved : goal.loop-key-preserved
loop-key-preserved c =
    c.in_ok-put_plain.ensures ∙ ap (λ l. l ++ plain_of (key_of c.key-item.result)) c.loop-key.invariant
    ∙ sym (plain-more key_of c.args.keys.now c.loop-key.key-index c.key-item.result (omega arith) c.key-item.is)
