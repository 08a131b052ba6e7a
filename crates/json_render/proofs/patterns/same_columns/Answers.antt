use Rattle.std.proofs.Common.{◌∙◌, ap, sym, arith}
use Rattle.context_typing.proofs.PathLemmas.{same_paths}
use Rattle.json_render.specs.RowTexts.{column_path}
use Rattle.json_render.proofs.Agreement.{agree_more}
use Rattle.json_render.proofs.patterns.same_columns.Goals as goal

pub loop-k-preserved : goal.loop-k-preserved
loop-k-preserved c =
    agree_more column_path c.args.a.now c.args.b.now c.loop-k.k c.index-a-k.result c.index-b-k.result (omega arith) (omega arith) c.index-a-k.is c.index-b-k.is
    (sym c.names.ensures.names ∙ same_paths _ _ (sym c.same_path.ensures.value ∙ c.if-not-same_path.false) ∙ c.names-in-loop-k.ensures.names ∙ ap column_path (sym c.index-b-k.is)) c.loop-k.invariant
