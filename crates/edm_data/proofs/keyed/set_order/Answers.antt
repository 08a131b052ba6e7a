use Rattle.edm_values.specs.Values.{seen_value, value_cmp}
use Rattle.edm_data.specs.Keys.{key_cmp}
use Rattle.edm_data.specs.References.{keys_of}
use Rattle.edm_data.specs.KeyOrders.{IsKeyOrder, AreDistinct}
use Rattle.edm_data.proofs.KeyedLemmas.{IfOk-then}
use Rattle.edm_data.proofs.SeenKeys.{key_of_value, value_of_key, IsKeyOrder-seen, AreDistinct-seen, IsFirstTwice-seen}
use Rattle.edm_data.proofs.keyed.set_order.Goals as goal

pub key_order-requires : goal.key_order-requires
key_order-requires c = rw c.as_slice.ensures.value c.in_ok-keys.ensures.few

pub returns-clause-ok : goal.returns-clause-ok
returns-clause-ok c = IfOk-then c.key_order.result (λ order. IsKeyOrder key_cmp c.as_slice.result.now order.items) (λ order. IsKeyOrder value_cmp (keys_of c.args.tables.now c.args.s) order.items) (λ order o. rw (← c.in_ok-keys.ensures.keys, ← c.as_slice.ensures.value) (IsKeyOrder-seen (λ k. seen_value k.value) value_cmp key_of_value value_of_key c.as_slice.result.now order.items o)) c.key_order.ensures.ok

pub returns-clause-distinct : goal.returns-clause-distinct
returns-clause-distinct c = IfOk-then c.key_order.result (λ order. AreDistinct key_cmp c.as_slice.result.now) (λ order. AreDistinct value_cmp (keys_of c.args.tables.now c.args.s)) (λ order o. rw (← c.in_ok-keys.ensures.keys, ← c.as_slice.ensures.value) (AreDistinct-seen (λ k. seen_value k.value) value_cmp c.as_slice.result.now o)) c.key_order.ensures.distinct

pub returns-clause-twice : goal.returns-clause-twice
returns-clause-twice c = λ k is. rw (← c.in_ok-keys.ensures.keys, ← c.as_slice.ensures.value) (IsFirstTwice-seen (λ k. seen_value k.value) value_cmp c.as_slice.result.now k (c.key_order.ensures.twice k is))
