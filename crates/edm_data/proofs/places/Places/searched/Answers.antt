use Rattle.std.proofs.Common.{sym}
use Rattle.edm_data.proofs.ColumnLemmas.{found-search, none-search}
use Rattle.edm_data.proofs.places.Places.searched.Goals as goal

pub returns-in-Ok : goal.returns-in-Ok
returns-in-Ok c = rw (← c.self.view_is) (sym (found-search c.self.inside.list.items c.args.place c.in-Ok.found c.binary_search.result c.self.invariant c.in-Ok.is (rw c.as_slice.ensures.value at c.binary_search.ensures.position)))

pub returns-in-Err : goal.returns-in-Err
returns-in-Err c = rw (← c.self.view_is) (sym (none-search c.self.inside.list.items c.args.place c.in-Err.field-0 c.binary_search.result c.self.invariant c.in-Err.is (rw c.as_slice.ensures.value at c.binary_search.ensures.position)))
