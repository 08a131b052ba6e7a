use Rattle.std.proofs.Common.{arith}
use Rattle.std.proofs.lemmas.List.{length-take}
use Rattle.apply_load.proofs.Fronts.{IfOk-part}
use Rattle.apply_load.proofs.file.read_part.Goals as goal

pub returns-clause-bytes : goal.returns-clause-bytes
returns-clause-bytes g c =
    IfOk-part _ _ _ _ _ _ (omega (arith, c.min-room.ensures, c.read.auto.buf, length-take c.min-room.result c.args.buffer.now)) c.read.ensures.bound c.read.ensures.bytes
