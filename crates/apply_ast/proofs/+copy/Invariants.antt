use Rattle.std.proofs.Common.{◌≡◌, map, take}
use Rattle.apply_ast.specs.Views.{key_of, step_of, pipe_of}
use Rattle.apply_ast.proofs.+copy.Given as goal

abbrev pub invariant-steps::Pipe::copy-loop-step : goal.invariant-steps::Pipe::copy-loop-step
invariant-steps::Pipe::copy-loop-step l = map step_of l.steps.items ≡ map step_of (take l.step-index l.step-items)

abbrev pub invariant-steps::KeyList::copy-loop-key : goal.invariant-steps::KeyList::copy-loop-key
invariant-steps::KeyList::copy-loop-key l = map key_of l.keys.items ≡ map key_of (take l.key-index l.key-items)

abbrev pub invariant-steps::PipeList::copy-loop-pipe : goal.invariant-steps::PipeList::copy-loop-pipe
invariant-steps::PipeList::copy-loop-pipe l = map pipe_of l.pipes.items ≡ map pipe_of (take l.pipe-index l.pipe-items)
