-- Numbers in place of values, of parts of a list.
use Rattle.std.specs.Prelude.{◌≡◌, ℕ, ◌<◌, All, IfOk, IfSome, List, Ok, Option, Some, map}
use Rattle.std.specs.declared.result.Result.{Result}
use Rattle.std.specs.Global.{Vec}
use Rattle.std.specs.List.{flat_map}
use Rattle.row_frames.specs.declared.tables.Pick.{Pick}
use Rattle.value_codes.specs.Above.{AreCoded}

-- each row has its number, which is below a bound
pub record AreCodesOf (R : Pick → ℕ → Type 0) (bound : ℕ) (xs : List Pick) (cs : List ℕ) : Type 0 where
  pub coded : AreCoded R xs cs
  pub below : All (λ c. c < bound) cs

-- they are those of these rows, where memory was enough and they are known
abbrev pub MadeCodes : {E : Type 0} → (Pick → ℕ → Type 0) → ℕ → List Pick → Result (Option (Vec ℕ)) E → Type 0
MadeCodes R bound xs r = IfOk r (λ o. IfSome o (λ v. AreCodesOf R bound xs v.items))

-- those of each part are known, and these are all of them, one part behind the other
abbrev pub AreAllCodes : {E : Type 0} → List (Result (Option (Vec ℕ)) E) → List ℕ → Type 0
AreAllCodes parts all = (ls : List (Vec ℕ)) × (map (λ l. Ok (Some l)) ls ≡ parts) × (all ≡ flat_map (λ l. l.items) ls)
