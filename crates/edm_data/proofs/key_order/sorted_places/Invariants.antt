use Rattle.edm_data.proofs.KeyOrderLemmas.{IsMapOf}
use Rattle.edm_data.proofs.key_order.sorted_places.Given as goal

abbrev pub invariant-loop-k : goal.invariant-loop-k
invariant-loop-k g l = IsMapOf g.K.Ord.cmp l.keys l.k l.places
