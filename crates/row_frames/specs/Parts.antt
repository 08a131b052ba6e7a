-- Parts of a list that threads share.
use Rattle.std.specs.Prelude.{◌≡◌, List, Ok, map}
use Rattle.std.specs.declared.result.Result.{Result}
use Rattle.std.specs.Global.{Vec}
use Rattle.std.specs.List.{flat_map}

-- each part is there, and their elements, one part behind the other, are these
abbrev pub IsWhole : {T E : Type 0} → List (Result (Vec T) E) → List T → Type 0
IsWhole {T} parts all = (ls : List (Vec T)) × (map Ok ls ≡ parts) × (all ≡ flat_map (λ l. l.items) ls)
