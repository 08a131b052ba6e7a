use Rattle.std.proofs.Common.{◌≡◌, take}
use Rattle.std.specs.Prelude.{flat_map, fold}
use Rattle.std.specs.Hash.DefaultHasher as sip
use Rattle.edm_values.specs.Keys.{hash_writes}
use Rattle.aggregate_ops.specs.Columns.{key_values}
use Rattle.aggregate_ops.proofs.hashed.number_of.Given as goal

-- the values so far are written
abbrev pub invariant-loop-k : goal.invariant-loop-k
invariant-loop-k l = l.state ≡ fold sip.write sip.initial (flat_map hash_writes (take l.k (key_values l.values)))
