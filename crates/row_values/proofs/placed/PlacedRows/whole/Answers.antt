use Rattle.std.proofs.Common.{ap}
use Rattle.std.specs.Prelude.{option_map}
use Rattle.row_values.proofs.PlacedLemmas.{seen-all}
use Rattle.row_values.proofs.placed.PlacedRows.whole.Goals as goal

pub returns-in-None : goal.returns-in-None
returns-in-None c = record { value = seen-all c.self.inside.list.now c.args.self.now (option_map (λ p. p.now) c.self.inside.places) (ap (option_map (λ p. p.now)) c.in-None.is) c.self.view_is }
