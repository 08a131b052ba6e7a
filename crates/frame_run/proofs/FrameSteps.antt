-- What frames give where a part refuses.
use Rattle.std.proofs.Common.{ℕ, List, ap, Option}
use Rattle.std.specs.Prelude.{option_map}
use Rattle.std.specs.declared.result.Result.TheVariants.{Err}
use Rattle.edm_values.specs.declared.refusals.Refused.{Refused}
use Rattle.edm_values.specs.declared.refusals.Refused.TheVariants.{Range, Memory}
use Rattle.edm_values.specs.Lists.{at_places}
use Rattle.apply_meaning.specs.Instances.{Instance}
use Rattle.apply_meaning.specs.Meaning.{Outcome}
use Rattle.apply_meaning.specs.Running.{Gives}
use Rattle.row_frames.specs.Frames.{GivesFrame}
use Rattle.row_orders.specs.Places.{GivesOrder}
use Rattle.row_orders.specs.Ranks.{GivesNumbers}

pub frame-numbers : (e : Refused) (m : Option (List ℕ)) (l : List Instance) → GivesNumbers (Err e) m → GivesFrame (Err e) (option_map (at_places l) m)
frame-numbers Range m l h = ap (option_map (at_places l)) h
frame-numbers Memory m l h = tt

pub frame-order : (e : Refused) (m : Outcome) (l : List Instance) → GivesOrder (Err e) l m → GivesFrame (Err e) m
frame-order Range m l h = h
frame-order Memory m l h = tt

pub frame-gives : (e : Refused) (m : Outcome) → GivesFrame (Err e) m → Gives (Err e) m
frame-gives Range m h = h
frame-gives Memory m h = tt

pub gives-frame : (e : Refused) (m : Outcome) → Gives (Err e) m → GivesFrame (Err e) m
gives-frame Range m h = h
gives-frame Memory m h = tt
