use Rattle.std.proofs.Common.{◌≡◌, length}
use Rattle.std.specs.Io.KnownBytes.{Keeps}
use Rattle.apply_io.proofs.adapters.read_again.Given as goal

-- a call that was interrupted left what is known as it was
abbrev pub invariant-tries : goal.invariant-tries
invariant-tries g l = (length l.buf ≡ length l.initial.buf) × Keeps (g.R.Read.remaining l.initial.reader) (g.R.Read.remaining l.reader)
