-- What a call over values returns, where it is refused for the range or for want of memory.
use Rattle.std.specs.declared.result.Result as result
use Rattle.std.specs.declared.result.Result.TheVariants.{Ok, Err}
use Rattle.edm_values.specs.declared.refusals.Refused.{Refused}
use Rattle.edm_values.specs.declared.refusals.Refused.TheVariants.{Range, Memory}

-- what was returned is right, or it is refused for the range, where this says so: `Memory` says nothing
abbrev pub Returns : {T : Type 0} → (T → Type 0) → Type 0 → result.Result T Refused → Type 0
Returns IsRight IsRefused (Ok x) = IsRight x
Returns IsRight IsRefused (Err Range) = IsRefused
Returns IsRight IsRefused (Err Memory) = Unit {0}
