use Rattle.edm_data.proofs.RisingLemmas.{IsKeyOrder-rising, AreDistinct-rising}
use Rattle.edm_data.proofs.key_order.key_order.Goals as goal

pub returns-clause-ok : goal.returns-clause-ok
returns-clause-ok g c = IsKeyOrder-rising g.K.Ord.cmp c.args.keys.now _ (c.rise.ensures c.if-not-rise.false) c.in_ok-first_places.ensures

pub returns-clause-distinct : goal.returns-clause-distinct
returns-clause-distinct g c = AreDistinct-rising g.met.K.Ord.total c.args.keys.now (c.rise.ensures c.if-not-rise.false)
