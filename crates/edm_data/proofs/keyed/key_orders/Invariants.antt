use Rattle.std.proofs.Common.{◌≡◌, ℕ, ◌<◌, vec_len}
use Rattle.edm_values.specs.Values.{value_cmp}
use Rattle.edm_data.specs.References.{keys_of}
use Rattle.edm_data.specs.KeyOrders.{IsKeyOrder, AreDistinct}
use Rattle.edm_data.specs.KeptOrders.{list_at}
use Rattle.edm_data.proofs.keyed.key_orders.Given as goal

abbrev pub invariant-loop-set : goal.invariant-loop-set
invariant-loop-set l = record {
  len : vec_len l.orders ≡ l.set-index;
  orders : (s : ℕ) → s < l.set-index → IsKeyOrder value_cmp (keys_of l.tables s) (list_at l.orders s);
  distinct : (s : ℕ) → s < l.set-index → AreDistinct value_cmp (keys_of l.tables s);
}
