-- What the objects over std pass on, and the names that they keep.
use Rattle.std.specs.Prelude.{ℕ, ◌≤◌, List, length, take, Result, MatchResult, Some, None, if◌then◌else◌, nat_le}
use Rattle.std.specs.declared.option.Option.{Option}
use Rattle.std.specs.Io.KnownBytes.{Appends}

-- some front of the piece was appended
pub record AppendsFront (old new : Option (List ℕ)) (piece : List ℕ) : Type 0 where
  pub count : ℕ
  pub within : count ≤ length piece
  pub appended : Appends old new (take count piece)

-- at `Ok(n)` the first n bytes of the piece were appended, and at an error some front of it
abbrev pub PassesOn : {E : Type 0} → Option (List ℕ) → Option (List ℕ) → Result ℕ E → List ℕ → Type 0
PassesOn old new result piece = MatchResult result (λ n. Appends old new (take n piece)) (λ _. AppendsFront old new piece)

-- the most bytes of a name that a folder keeps
abbrev pub name_limit : ℕ
name_limit = 4096

-- the name, where it is no longer than that
abbrev pub kept_name : List ℕ → Option (List ℕ)
kept_name name = if nat_le (length name) name_limit then Some name else None
