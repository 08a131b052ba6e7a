use Rattle.std.proofs.Common.{◌≡◌, ◌+◌, ◌≤◌, length, Err, ap, ◌∙◌, arith, below_more}
use Rattle.edm_values.specs.Lists.{places}
use Rattle.edm_values.specs.Values.{value_cmp}
use Rattle.edm_data.specs.References.{keys_of}
use Rattle.edm_data.specs.KeyOrders.{AreDistinct}
use Rattle.edm_data.proofs.PlaceLemmas.{place_is, place_count}
use Rattle.edm_data.proofs.KeyedLemmas.{keys_distinct, Tells-twice, HasKeyOrders-all, orders-more}
use Rattle.edm_data.proofs.keyed.key_orders.Goals as goal

pub set_order-requires : goal.set_order-requires
set_order-requires c =
    let sets = c.sets-set-items.ensures.value ∙ ap (λ m. places (length m.sets)) c.model.ensures.value in
    let number = place_count c.sets-set-items.result.now (length c.args.tables.now.model.sets) sets in
    let set = place_is c.sets-set-items.result.now (length c.args.tables.now.model.sets) c.loop-set.set-index c.set-item.result sets c.loop-set-test.true c.set-item.is in
    rw (set, ← number) c.loop-set-test.true

pub returns-in-Err-clause-refused : goal.returns-in-Err-clause-refused
returns-in-Err-clause-refused c =
    let sets = c.sets-set-items.ensures.value ∙ ap (λ m. places (length m.sets)) c.model.ensures.value in
    let set = place_is c.sets-set-items.result.now (length c.args.tables.now.model.sets) c.loop-set.set-index c.set-item.result sets c.loop-set-test.true c.set-item.is in
    Tells-twice c.args.tables.now c.model.ensures.fits c.set-item.result c.in-Err.refused c.refused_in.result c.refused_in.ensures.twice c.refused_in.ensures.memory (λ j less. c.loop-set.invariant.distinct j (rw set at less)) (λ k is. c.in-Err.ensures.twice k (ap Err is))

pub loop-set-preserved : goal.loop-set-preserved
loop-set-preserved c =
    let sets = c.sets-set-items.ensures.value ∙ ap (λ m. places (length m.sets)) c.model.ensures.value in
    let set = place_is c.sets-set-items.result.now (length c.args.tables.now.model.sets) c.loop-set.set-index c.set-item.result sets c.loop-set-test.true c.set-item.is in
    let grown = c.in_ok-push-in-Ok.ensures.len in
    let so_far = c.loop-set.invariant.len in
    let size : length c.loop-set.orders.items ≡ c.loop-set.set-index = omega (arith, c.loop-set.orders.ok.0) in
    record {
      len = grown ∙ ap (λ n. n + 1) so_far;
      orders = orders-more c.args.tables.now c.loop-set.orders c.push.new.self c.in-Ok.order c.loop-set.set-index c.in_ok-push-in-Ok.ensures.items size c.loop-set.invariant.orders (rw set at c.in-Ok.ensures.ok);
      distinct = below_more (λ s. AreDistinct value_cmp (keys_of c.args.tables.now s)) c.loop-set.set-index c.loop-set.invariant.distinct (rw set at c.in-Ok.ensures.distinct);
    }

pub returns-clause-ok : goal.returns-clause-ok
returns-clause-ok c =
    let sets = c.sets-set-items.ensures.value ∙ ap (λ m. places (length m.sets)) c.model.ensures.value in
    let number = place_count c.sets-set-items.result.now (length c.args.tables.now.model.sets) sets in
    let over : length c.sets-set-items.result.now ≤ c.loop-set.set-index = omega arith in
    let so_far = c.loop-set.invariant.len in
    let size : length c.loop-set.orders.items ≡ c.loop-set.set-index = omega (arith, c.loop-set.orders.ok.0) in
    HasKeyOrders-all c.args.tables.now c.model.ensures.fits c.loop-set.orders c.loop-set.set-index (rw number at over) size c.loop-set.invariant.orders

pub returns-clause-distinct : goal.returns-clause-distinct
returns-clause-distinct c =
    let sets = c.sets-set-items.ensures.value ∙ ap (λ m. places (length m.sets)) c.model.ensures.value in
    let number = place_count c.sets-set-items.result.now (length c.args.tables.now.model.sets) sets in
    let over : length c.sets-set-items.result.now ≤ c.loop-set.set-index = omega arith in
    keys_distinct c.args.tables.now c.model.ensures.fits c.loop-set.set-index (rw number at over) c.loop-set.invariant.distinct
