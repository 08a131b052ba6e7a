-- Each operator has its loop.
use Rattle.std.proofs.Common.{◌∙◌, ap, of_z, refl, sym, to_z}
use Rattle.std.specs.Int.{w64}
use Rattle.std.proofs.lemmas.Int.{to_z-of_z}
use Rattle.edm_values.specs.declared.Value.{Value}
use Rattle.edm_values.specs.Values.{minus, plus, tested, times}
use Rattle.apply_meaning.specs.Instances.{binary}
use Rattle.row_frames.specs.Blocks.{answer_to}
use Rattle.row_frames.proofs.OperatorLemmas.{made-alike}
use Rattle.row_frames.proofs.typed_blocks.ints_with.Goals as goal

pub returns-in-Add : goal.returns-in-Add
returns-in-Add c =
    made-alike Value.Int (λ a. plus a (Value.Int (to_z w64 (of_z w64 c.args.y)))) (λ a. binary c.args.op a (Value.Int c.args.y)) c.args.list.now c.ints_sum.result
    (λ x. ap (λ z. plus (Value.Int x) (Value.Int z)) (to_z-of_z w64 c.args.y c.ranges.y) ∙ ap (λ o. binary o (Value.Int x) (Value.Int c.args.y)) (sym c.in-Add.is)) c.ints_sum.ensures

pub returns-in-Sub : goal.returns-in-Sub
returns-in-Sub c =
    made-alike Value.Int (λ a. minus a (Value.Int (to_z w64 (of_z w64 c.args.y)))) (λ a. binary c.args.op a (Value.Int c.args.y)) c.args.list.now c.ints_difference.result
    (λ x. ap (λ z. minus (Value.Int x) (Value.Int z)) (to_z-of_z w64 c.args.y c.ranges.y) ∙ ap (λ o. binary o (Value.Int x) (Value.Int c.args.y)) (sym c.in-Sub.is)) c.ints_difference.ensures

pub returns-in-Mul : goal.returns-in-Mul
returns-in-Mul c =
    made-alike Value.Int (λ a. times a (Value.Int (to_z w64 (of_z w64 c.args.y)))) (λ a. binary c.args.op a (Value.Int c.args.y)) c.args.list.now c.ints_product.result
    (λ x. ap (λ z. times (Value.Int x) (Value.Int z)) (to_z-of_z w64 c.args.y c.ranges.y) ∙ ap (λ o. binary o (Value.Int x) (Value.Int c.args.y)) (sym c.in-Mul.is)) c.ints_product.ensures

pub returns-in-Some : goal.returns-in-Some
returns-in-Some c =
    made-alike Value.Int (λ a. tested (answer_to c.in-Some.test) a (Value.Int (to_z w64 (of_z w64 c.args.y)))) (λ a. binary c.args.op a (Value.Int c.args.y)) c.args.list.now c.ints_answers.result
    (λ x. ap (λ z. tested (answer_to c.in-Some.test) (Value.Int x) (Value.Int z)) (to_z-of_z w64 c.args.y c.ranges.y) ∙ sym (c.in-Some.ensures (Value.Int x) c.args.y refl)) c.ints_answers.ensures
