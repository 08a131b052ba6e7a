use Rattle.std.proofs.Common.{◌∙◌, ap, arith}
use Rattle.std.specs.Prelude.{flat_map, fold}
use Rattle.std.specs.Hash.DefaultHasher as sip
use Rattle.std.proofs.lemmas.List.{take_all}
use Rattle.edm_values.specs.Keys.{hash_writes}
use Rattle.aggregate_ops.specs.Columns.{key_values}
use Rattle.aggregate_ops.specs.Numbers.{key_number}
use Rattle.aggregate_ops.proofs.SameLemmas.{fed-more}
use Rattle.aggregate_ops.proofs.hashed.number_of.Goals as goal

pub loop-k-preserved : goal.loop-k-preserved
loop-k-preserved c = fed-more sip.write sip.initial _ _ (key_values c.args.values.now) c.loop-k.k _ (omega arith) c.value_at.ensures c.loop-k.invariant c.write_value.ensures

pub returns : goal.returns
unfolding key_number
returns c = c.finish.ensures ∙ ap sip.finish (c.loop-k.invariant ∙ ap (λ ks. fold sip.write sip.initial (flat_map hash_writes ks)) (take_all c.loop-k.k (key_values c.args.values.now) (omega arith)))
