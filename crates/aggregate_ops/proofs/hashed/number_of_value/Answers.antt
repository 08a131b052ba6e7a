use Rattle.std.proofs.Common.{◌∙◌, ap}
use Rattle.std.specs.Prelude.{fold}
use Rattle.std.specs.Hash.DefaultHasher as sip
use Rattle.edm_values.specs.Keys.{hash_writes}
use Rattle.edm_values.specs.Values.{seen_value}
use Rattle.aggregate_ops.specs.Numbers.{value_number}
use Rattle.aggregate_ops.proofs.hashed.number_of_value.Goals as goal

pub returns : goal.returns
unfolding value_number
returns c = c.finish.ensures ∙ ap sip.finish (c.write_value.ensures ∙ (λ i. fold sip.write (c.new-state.ensures i) (hash_writes (seen_value c.args.value))))
