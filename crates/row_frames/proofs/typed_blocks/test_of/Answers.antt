-- What each comparison answers to each order.
use Rattle.std.proofs.Common.{ap, refl}
use Rattle.std.specs.Ordering.{is_eq, is_ge, is_gt, is_le, is_lt, is_ne}
use Rattle.edm_values.specs.declared.Value.{Value}
use Rattle.apply_meaning.specs.Instances.{binary}
use Rattle.row_frames.proofs.OperatorLemmas.{each-order, number-tested}
use Rattle.row_frames.proofs.typed_blocks.test_of.Goals as goal

pub returns-in-Eq : goal.returns-in-Eq
returns-in-Eq c = number-tested c.args.op is_eq _ (λ x y. ap (λ o. binary o (Value.Int x) (Value.Int y)) c.in-Eq.is) (λ d y. ap (λ o. binary o (Value.Dec d) (Value.Int y)) c.in-Eq.is) (each-order is_eq _ refl refl refl)

pub returns-in-Ne : goal.returns-in-Ne
returns-in-Ne c = number-tested c.args.op is_ne _ (λ x y. ap (λ o. binary o (Value.Int x) (Value.Int y)) c.in-Ne.is) (λ d y. ap (λ o. binary o (Value.Dec d) (Value.Int y)) c.in-Ne.is) (each-order is_ne _ refl refl refl)

pub returns-in-Gt : goal.returns-in-Gt
returns-in-Gt c = number-tested c.args.op is_gt _ (λ x y. ap (λ o. binary o (Value.Int x) (Value.Int y)) c.in-Gt.is) (λ d y. ap (λ o. binary o (Value.Dec d) (Value.Int y)) c.in-Gt.is) (each-order is_gt _ refl refl refl)

pub returns-in-Ge : goal.returns-in-Ge
returns-in-Ge c = number-tested c.args.op is_ge _ (λ x y. ap (λ o. binary o (Value.Int x) (Value.Int y)) c.in-Ge.is) (λ d y. ap (λ o. binary o (Value.Dec d) (Value.Int y)) c.in-Ge.is) (each-order is_ge _ refl refl refl)

pub returns-in-Lt : goal.returns-in-Lt
returns-in-Lt c = number-tested c.args.op is_lt _ (λ x y. ap (λ o. binary o (Value.Int x) (Value.Int y)) c.in-Lt.is) (λ d y. ap (λ o. binary o (Value.Dec d) (Value.Int y)) c.in-Lt.is) (each-order is_lt _ refl refl refl)

pub returns-in-Le : goal.returns-in-Le
returns-in-Le c = number-tested c.args.op is_le _ (λ x y. ap (λ o. binary o (Value.Int x) (Value.Int y)) c.in-Le.is) (λ d y. ap (λ o. binary o (Value.Dec d) (Value.Int y)) c.in-Le.is) (each-order is_le _ refl refl refl)
