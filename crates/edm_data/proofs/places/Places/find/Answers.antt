use Rattle.std.proofs.Common.{◌≡◌, ◌<◌, length, get_or, sym, arith}
use Rattle.edm_data.proofs.ColumnLemmas.{found-rising, read_at}
use Rattle.edm_data.proofs.places.Places.find.Goals as goal

pub returns-then-index-place : goal.returns-then-index-place
returns-then-index-place c =
    let at = c.self.inside.list.items in
    let k = c.args.place in
    let within : k < length at = omega (arith, c.self.inside.list.ok.0) in
    let item : k ≡ get_or at k k = rw c.if-index-place.true at c.index.ensures in
    rw (← c.self.view_is) (sym (found-rising at k k c.self.invariant within (read_at at k k 0 within item)))
