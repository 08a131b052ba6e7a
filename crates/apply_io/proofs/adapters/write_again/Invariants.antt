use Rattle.std.specs.Io.KnownBytes.{Keeps}
use Rattle.apply_io.proofs.adapters.write_again.Given as goal

-- a call that was interrupted left what is known as it was
abbrev pub invariant-tries : goal.invariant-tries
invariant-tries g l = Keeps (g.W.Write.contents l.initial.writer) (g.W.Write.contents l.writer)
