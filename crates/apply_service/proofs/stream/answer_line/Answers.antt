use Rattle.std.proofs.Common.{◌≡◌, ◌<◌, length, arith}
use Rattle.std.proofs.lemmas.Bool.Decides.{nat_tests}
use Rattle.std.proofs.lemmas.Result.{on_ok_weaker, on_err_weaker}
use Rattle.line_stream.specs.Outputs.{bytes_of}
use Rattle.line_stream.proofs.Responding.{Writes-nothing, Writes-line, WritesPart-line}
use Rattle.line_stream.proofs.Counting.{Rises-still, Rises-one}
use Rattle.apply_service.proofs.stream.answer_line.Goals as goal

pub returns-then-is_empty-clause-ok : goal.returns-then-is_empty-clause-ok
returns-then-is_empty-clause-ok g c =
    let none : length c.args.line.now ≡ 0 = grind (arith, nat_tests, c.is_empty.ensures) in
    Writes-nothing _ _ c.args.line.now none

pub returns-clause-ok : goal.returns-clause-ok
returns-clause-ok g c =
    let some : 0 < length c.args.line.now = grind (arith, nat_tests, c.is_empty.ensures) in
    on_ok_weaker c.write_output.result (Writes-line _ _ _ c.args.line.now (bytes_of c.reply-response.result) some c.reply-response.ensures.reply) c.write_output.ensures.ok

pub returns-clause-err : goal.returns-clause-err
returns-clause-err g c =
    let some : 0 < length c.args.line.now = grind (arith, nat_tests, c.is_empty.ensures) in
    on_err_weaker c.write_output.result (WritesPart-line _ _ _ c.args.line.now (bytes_of c.reply-response.result) some c.reply-response.ensures.reply) c.write_output.ensures.err

pub returns-then-is_empty-clause-counted : goal.returns-then-is_empty-clause-counted
returns-then-is_empty-clause-counted g c = Rises-still _ _ _

pub returns-clause-counted : goal.returns-clause-counted
returns-clause-counted g c =
    let some : 0 < length c.args.line.now = grind (arith, nat_tests, c.is_empty.ensures) in
    Rises-one _ c.args.line.now _ _ some c.reply-response.ensures.grown c.reply-response.ensures.steps
