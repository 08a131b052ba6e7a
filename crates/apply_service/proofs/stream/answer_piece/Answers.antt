use Rattle.std.proofs.Common.{◌≡◌, length, arith}
use Rattle.line_stream.proofs.Streaming.{Advances-read, Overruns-read, Breaks-read}
use Rattle.apply_service.proofs.Stops.{limit-no_read, limit-no_write, ok-no_stop, read-no_limit, read-no_write, write-no_limit, write-no_read}
use Rattle.apply_service.proofs.stream.answer_piece.Goals as goal

pub returns-clause-ok : goal.returns-clause-ok
returns-clause-ok g c =
    let all : c.in-Ok.count ≡ c.min-allowed.result = omega arith in
    let within = c.in-Ok.ensures.count in
    Advances-read _ _ _ (g.S.Source.left c.read_piece.new.input) (g.K.Sink.held c.args.output.now) (g.K.Sink.held c.take_bytes.new.output) c.args.steps.now c.take_bytes.new.steps c.args.line.now c.take_bytes.new.line c.read_piece.new.buffer c.min-allowed.result (omega (arith, within.0)) (rw all at c.in-Ok.ensures.bytes) c.in-Ok-take_bytes.ensures.ok

pub returns-then-allowed-count-clause-limit_passed : goal.returns-then-allowed-count-clause-limit_passed
returns-then-allowed-count-clause-limit_passed g c = λ _.
    let within = c.in-Ok.ensures.count in
    let limit : c.min-allowed.result ≡ c.args.left = omega arith in
    Overruns-read _ _ _ (g.S.Source.left c.read_piece.new.input) (g.K.Sink.held c.args.output.now) (g.K.Sink.held c.take_bytes.new.output) c.args.steps.now c.take_bytes.new.steps c.args.line.now c.take_bytes.new.line c.read_piece.new.buffer c.in-Ok.count c.args.left (omega (arith, within.1)) within.0 c.in-Ok.ensures.bytes (rw limit at c.in-Ok-take_bytes.ensures.ok)

pub returns-in_default-take_bytes-clause-write : goal.returns-in_default-take_bytes-clause-write
returns-in_default-take_bytes-clause-write g c = λ _.
    let within = c.in-Ok.ensures.count in
    Breaks-read _ _ g.S.Source.left g.S.Source.reads_once (length c.args.buffer.now) c.args.left c.args.input.now c.read_piece.new.input (g.K.Sink.held c.args.output.now) (g.K.Sink.held c.take_bytes.new.output) c.args.steps.now c.take_bytes.new.steps c.args.line.now c.read_piece.new.buffer c.in-Ok.count c.min-allowed.result (omega arith) within.0 (omega (arith, within.0)) within.1 c.in-Ok.ensures.bytes c.read_piece.ensures.once c.in_default-take_bytes.ensures.err

-- ---- what is said of the other stops

pub returns-in_default-clause-write_cause : goal.returns-in_default-clause-write_cause
returns-in_default-clause-write_cause g c = λ h. read-no_write h

pub returns-in_default-clause-write : goal.returns-in_default-clause-write
returns-in_default-clause-write g c = λ h. read-no_write h

pub returns-in_default-clause-limit_passed : goal.returns-in_default-clause-limit_passed
returns-in_default-clause-limit_passed g c = λ h. read-no_limit h

pub returns-in_default-take_bytes-clause-read_cause : goal.returns-in_default-take_bytes-clause-read_cause
returns-in_default-take_bytes-clause-read_cause g c = λ h. write-no_read h

pub returns-in_default-take_bytes-clause-read : goal.returns-in_default-take_bytes-clause-read
returns-in_default-take_bytes-clause-read g c = λ h. write-no_read h

pub returns-in_default-take_bytes-clause-limit_passed : goal.returns-in_default-take_bytes-clause-limit_passed
returns-in_default-take_bytes-clause-limit_passed g c = λ h. write-no_limit h

pub returns-then-allowed-count-clause-read_cause : goal.returns-then-allowed-count-clause-read_cause
returns-then-allowed-count-clause-read_cause g c = λ h. limit-no_read h

pub returns-then-allowed-count-clause-read : goal.returns-then-allowed-count-clause-read
returns-then-allowed-count-clause-read g c = λ h. limit-no_read h

pub returns-then-allowed-count-clause-write_cause : goal.returns-then-allowed-count-clause-write_cause
returns-then-allowed-count-clause-write_cause g c = λ h. limit-no_write h

pub returns-then-allowed-count-clause-write : goal.returns-then-allowed-count-clause-write
returns-then-allowed-count-clause-write g c = λ h. limit-no_write h

pub returns-clause-read_cause : goal.returns-clause-read_cause
returns-clause-read_cause g c = λ h. ok-no_stop h

pub returns-clause-read : goal.returns-clause-read
returns-clause-read g c = λ h. ok-no_stop h

pub returns-clause-write_cause : goal.returns-clause-write_cause
returns-clause-write_cause g c = λ h. ok-no_stop h

pub returns-clause-write : goal.returns-clause-write
returns-clause-write g c = λ h. ok-no_stop h

pub returns-clause-limit_passed : goal.returns-clause-limit_passed
returns-clause-limit_passed g c = λ h. ok-no_stop h
