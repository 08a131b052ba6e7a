-- The instances that a filter keeps.
use Rattle.std.specs.Prelude.{Bool, true, false, List, [], ◌∷◌, Option, Some, None, option_map}
use Rattle.apply_meaning.specs.Instances.{Instance}
use Rattle.apply_meaning.specs.Meaning.{Outcome}

-- the instances whose answers are true, refused where one has none
abbrev pub kept_by : List (Option Bool) → List Instance → Outcome
kept_by bs [] = Some []
kept_by [] (i ∷ l) = Some []
kept_by (None ∷ bs) (i ∷ l) = None
kept_by (Some true ∷ bs) (i ∷ l) = option_map (λ k. i ∷ k) (kept_by bs l)
kept_by (Some false ∷ bs) (i ∷ l) = kept_by bs l
