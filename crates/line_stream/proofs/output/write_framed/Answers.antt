use Rattle.std.proofs.Common.{◌++◌, [], ◌∷◌}
use Rattle.std.proofs.lemmas.Result.{on_err_weaker}
use Rattle.line_stream.proofs.Known.{front-first, front-second}
use Rattle.line_stream.proofs.Known.{OnErr-always}
use Rattle.line_stream.proofs.output.write_framed.Goals as goal

pub returns-in_err-write_whole-clause-err : goal.returns-in_err-write_whole-clause-err
returns-in_err-write_whole-clause-err g c = OnErr-always _ (front-first _ _ c.args.line.now (c.args.body.now ++ 10 ∷ []) c.in_err-write_whole.ensures.err)

pub returns-clause-err : goal.returns-clause-err
returns-clause-err g c = on_err_weaker c.write_parts.result (front-second _ _ _ c.args.line.now (c.args.body.now ++ 10 ∷ []) c.in_ok-write_whole.ensures.ok) c.write_parts.ensures.err
