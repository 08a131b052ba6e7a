-- What a line costs: how many steps may be counted while it is answered.
use Rattle.std.specs.Prelude.{◌≡◌, ℕ, ◌≤◌, Bool, true, false, List, length, None}
use Rattle.edm_model.specs.Models.{Model}
use Rattle.edm_data.specs.Worlds.{World}
use Rattle.apply_ast.specs.Trees.{Pipe}
use Rattle.apply_grammar.specs.Frames.{line_limit}
use Rattle.apply_grammar.specs.Requests.{Asked, IsRequest}
use Rattle.context_typing.specs.Shapes.{Shape}
use Rattle.context_typing.specs.Readings.{readings}
use Rattle.context_typing.specs.Typing.{Customs, shape_of_set}
use Rattle.hier_states.specs.NamedHierarchies.{hierarchies}
use Rattle.hier_states.specs.States.{first_cycle}
use Rattle.step_run.specs.Costs.{total_cost}
use Rattle.rewrite_laws.specs.Rewrites.{IsPlanOf}
use Rattle.apply_store.specs.Stores.{Store}
use Rattle.apply_replies.specs.Replies.{IsTyped}

-- the second pipeline is what is run for the first: its plan where plans are optimised, and else the first itself
abbrev pub IsRunFor : Bool → Model → Customs → Shape → Pipe → Pipe → Type 0
IsRunFor true m c S p q = IsPlanOf m c S p q
IsRunFor false m c S p q = q ≡ p

-- n is at least what a request costs: the cost of what is run for its pipeline, where it has a typing, is no `explain` and names no cyclic hierarchy
abbrev pub BoundsRequest : Bool → World → Customs → Asked → ℕ → Type 0
BoundsRequest optimised w c asked n =
    (set : ℕ) (s : Shape) (q : Pipe) → IsTyped w c asked set s → asked.0 ≡ false → first_cycle w (hierarchies asked.2) ≡ None
    → IsRunFor optimised w.model c (shape_of_set w.model set) asked.2 q → total_cost w c set q ≤ n

-- n is at least what a line costs: what its request does; a line that is too long or no request costs nothing
abbrev pub BoundsLine : Bool → World → Customs → List ℕ → ℕ → Type 0
BoundsLine optimised w c line n = length line ≤ line_limit → (asked : Asked) → IsRequest line asked → BoundsRequest optimised w c asked n

-- the same of a line over a store
abbrev pub BoundsLineOf : Bool → Store → List ℕ → ℕ → Type 0
BoundsLineOf optimised store line n = BoundsLine optimised store.world (readings store.customs) line n
