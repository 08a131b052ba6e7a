use Rattle.std.proofs.Common.{take}
use Rattle.std.specs.List.{AllZip}
use Rattle.hier_states.specs.States.{IsStateOf}
use Rattle.hier_states.proofs.states.hier_states.Given as goal

-- the states so far are those of the ids so far
abbrev pub invariant-loop-id : goal.invariant-loop-id
invariant-loop-id l = AllZip (IsStateOf l.store) (take l.id-index l.ids) l.states.items
