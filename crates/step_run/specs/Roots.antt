-- The entity type at the empty prefix from one transformation to the next.
use Rattle.std.specs.Prelude.{◌≡◌, ℕ, Option, Some, option_and_then}
use Rattle.edm_model.specs.Models.{Model}
use Rattle.edm_values.specs.Lists.{all_some}
use Rattle.apply_ast.specs.Trees.{OptPipe, Pipe, Pipes, Step}
use Rattle.context_typing.specs.Shapes.{Shape}
use Rattle.context_typing.specs.Typing.{Customs, branch_shapes, concat_shape, inner_shape, no_shape, root_type, step_shape, steps_shape}

-- wherever a transformation is typed from a shape with the first type at its empty prefix, the shape after it has the second there
abbrev pub LeadsTo : Step → Option ℕ → Option ℕ → Type 0
LeadsTo s before behind = (m : Model) (c : Customs) (S S' : Shape) → step_shape m c S s ≡ Some S' → root_type S ≡ before → root_type S' ≡ behind

-- the same of a pipeline
abbrev pub PipeLeadsTo : Pipe → Option ℕ → Option ℕ → Type 0
PipeLeadsTo p before behind = (m : Model) (c : Customs) (S S' : Shape) → steps_shape m c S p ≡ Some S' → root_type S ≡ before → root_type S' ≡ behind

-- the same of what a grouping makes of each group
abbrev pub InnerLeadsTo : OptPipe → Option ℕ → Option ℕ → Type 0
InnerLeadsTo T before behind = (m : Model) (c : Customs) (S S' : Shape) → inner_shape m c S no_shape T ≡ Some S' → root_type S ≡ before → root_type S' ≡ behind

-- the same of the branches of a concatenation
abbrev pub BranchesLeadTo : Pipes → Option ℕ → Option ℕ → Type 0
BranchesLeadTo ps before behind = (m : Model) (c : Customs) (S S' : Shape) → option_and_then (concat_shape m) (all_some (branch_shapes m c S ps)) ≡ Some S' → root_type S ≡ before → root_type S' ≡ behind
