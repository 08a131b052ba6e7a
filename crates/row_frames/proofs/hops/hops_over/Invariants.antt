use Rattle.std.proofs.Common.{drop}
use Rattle.edm_model.specs.LookUps.{IsSet}
use Rattle.row_frames.specs.Hops.{Lead}
use Rattle.row_frames.proofs.hops.hops_over.Given as goal

-- where the names so far lead, and the names that are left
abbrev pub invariant-loop-name : goal.invariant-loop-name
invariant-loop-name l = Lead l.store l.fn.set l.names (drop l.name-index l.names) l.hops.items l.at × IsSet l.store.model l.at
