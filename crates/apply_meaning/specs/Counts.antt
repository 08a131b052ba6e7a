-- How many rows plain pipelines make.
use Rattle.std.specs.Prelude.{ℕ, ◌+◌, List, length, Some, None}
use Rattle.edm_data.specs.References.{count}
use Rattle.edm_data.specs.Worlds.{World}
use Rattle.apply_ast.specs.Trees.{Pipe, Step}
use Rattle.context_typing.specs.Shapes.{Shape}
use Rattle.context_typing.specs.Typing.{Customs, after, shape_of_set}
use Rattle.apply_meaning.specs.Instances.{Instance, rows}
use Rattle.apply_meaning.specs.Meaning.{step_mean}

-- how many rows a plain transformation makes: a computation one for each row, an aggregation one; the others pass rows on
abbrev pub rows_made : Step → List Instance → ℕ
rows_made (Step.Compute items) l = length l
rows_made (Step.Aggregate items) l = 1
rows_made _ l = 0

-- how many the transformations of a plain pipeline make, up to one that is refused
abbrev pub pipe_made : World → Customs → Shape → Pipe → List Instance → ℕ
pipe_made w c S Pipe.End l = 0
pipe_made w c S (Pipe.Then s p) l = rows_made s l + elim (step_mean w c S s l) [ None ↦ 0 | Some r ↦ pipe_made w c (after w.model c S s) p r ]

-- how many a plain pipeline makes on the instances of an entity set, each of which is made too
abbrev pub all_made : World → Customs → ℕ → Pipe → ℕ
all_made w c s p = count w s + pipe_made w c (shape_of_set w.model s) p (rows w s)
