-- What lines cost, and how far a count rose. It never falls. What bounds the cost of a line is a parameter.
use Rattle.std.specs.Prelude.{ℕ, ◌+◌, ◌≤◌, List, [], ◌∷◌, ⊤}

-- n is at least the sum of bounds of these lines, one of each
abbrev pub BoundsAll : (List ℕ → ℕ → Type 0) → List (List ℕ) → ℕ → Type 0
BoundsAll bounds [] n = ⊤
BoundsAll bounds (line ∷ lines) n = (first : ℕ) × (others : ℕ) × bounds line first × BoundsAll bounds lines others × (first + others ≤ n)

-- the count rose by no more than what bounds the costs of these lines, and did not fall
pub record Rises (bounds : List ℕ → ℕ → Type 0) (lines : List (List ℕ)) (count0 count1 : ℕ) : Type 0 where
  pub within : (n : ℕ) → BoundsAll bounds lines n → count1 ≤ count0 + n
  pub grown : count0 ≤ count1

-- of what bounds the costs of all lines, what the count left bounds those of the others, and the count did not fall
pub record Leaves (bounds : List ℕ → ℕ → Type 0) (all others : List (List ℕ)) (count0 count1 : ℕ) : Type 0 where
  pub over : (n : ℕ) → BoundsAll bounds all n → (left : ℕ) × BoundsAll bounds others left × (count1 + left ≤ count0 + n)
  pub grown : count0 ≤ count1
