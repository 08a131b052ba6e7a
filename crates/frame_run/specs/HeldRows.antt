-- The rows that a plan has come to, made or not.
use Rattle.std.specs.Prelude.{◌≡◌, ℕ, List, [], ◌∷◌, Option, Some, None, length, map, sum}
use Rattle.std.specs.declared.result.Result as result
use Rattle.std.specs.declared.result.Result.TheVariants.{Ok, Err}
use Rattle.edm_values.specs.declared.refusals.Refused.{Refused}
use Rattle.std.specs.Global.{Vec}
use Rattle.edm_values.specs.Lists.{all_some, places}
use Rattle.edm_values.specs.Refusals.{Returns}
use Rattle.apply_meaning.specs.Instances.{Instance}
use Rattle.apply_meaning.specs.Meaning.{Outcome}
use Rattle.row_frames.specs.Related.{placed}
use Rattle.frame_run.specs.declared.held.Held.{Held}
use Rattle.frame_run.specs.declared.held.Held.TheVariants as held

-- the instances of the first entities of a set, so many, in data order
abbrev pub first_of : ℕ → ℕ → List Instance
first_of s n = map (placed s) (places n)

-- the instance of the entity of a set at this place, if there is one
abbrev pub entity_list : ℕ → Option ℕ → List Instance
entity_list s None = []
entity_list s (Some k) = placed s k ∷ []

-- the instances of the rows
abbrev pub rows_of : Held → List Instance
rows_of (held.Set s n) = first_of s n
rows_of (held.Frame f) = f
rows_of (held.Rows v) = v.items

-- how many rows are still to be made
abbrev pub owed : Held → ℕ
owed (held.Set s n) = n
owed (held.Frame f) = length f
owed (held.Rows v) = 0

-- the same of what a run returned, nothing where it is refused
abbrev pub owed_by : {E : Type 0} → result.Result Held E → ℕ
owed_by (Ok h) = owed h
owed_by (Err e) = 0

-- what a run returned, where the meaning is known: `Memory` says nothing
abbrev pub GivesHeld : result.Result Held Refused → Outcome → Type 0
GivesHeld r m = Returns (λ (h : Held). m ≡ Some (rows_of h)) (m ≡ None) r

-- what several runs returned, where the meaning of each is known: `Memory` says nothing
abbrev pub GivesLists : result.Result (Vec Held) Refused → List Outcome → Type 0
GivesLists r os = Returns (λ (v : Vec Held). all_some os ≡ Some (map rows_of v.items)) (all_some os ≡ None) r

-- how many rows are still to be made of what several runs returned, none where it is refused
abbrev pub lists_owed : {E : Type 0} → result.Result (Vec Held) E → ℕ
lists_owed (Ok v) = sum (map owed v.items)
lists_owed (Err e) = 0
