-- Values of expressions in blocks of rows, operator by operator.
use Rattle.std.specs.Prelude.{Bool, List, [], ◌∷◌, map}
use Rattle.std.specs.declared.cmp.Ordering.{Ordering}
use Rattle.edm_values.specs.declared.Value.{Value}
use Rattle.edm_values.specs.Values.{negated, negation, seen_value}
use Rattle.apply_ast.specs.declared.expressions.UnOp.{UnOp}
use Rattle.apply_ast.specs.declared.expressions.UnOp.TheVariants.{Neg, Not}
use Rattle.row_frames.specs.declared.typed_blocks.Block.{Block}
use Rattle.row_frames.specs.declared.typed_blocks.Test.{Test}

-- the values of a block
abbrev pub block_values : Block → List Value
block_values (Block.Ints list) = map Value.Int list.items
block_values (Block.Decs list) = map Value.Dec list.items
block_values (Block.Truths list) = map Value.Bool list.items
block_values (Block.Any values) = map (λ v. seen_value v) values.items

-- what a comparison answers to an order
abbrev pub answer_to : Test → Ordering → Bool
answer_to t Ordering.Less = t.less
answer_to t Ordering.Equal = t.equal
answer_to t Ordering.Greater = t.greater

-- a unary operation
abbrev pub unary : UnOp → Value → Value
unary Neg = negated
unary Not = negation

-- an operation on the values of two lists, place by place
abbrev pub paired : (Value → Value → Value) → List Value → List Value → List Value
paired f [] vs = []
paired f (u ∷ us) [] = []
paired f (u ∷ us) (v ∷ vs) = f u v ∷ paired f us vs
