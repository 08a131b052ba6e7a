-- Each operator has its loop.
use Rattle.std.proofs.Common.{rules, ◌≡◌, ◌∙◌, ap, arith, of_z, refl, sym, to_z}
use Rattle.std.specs.Int.{w64}
use Rattle.std.specs.Prelude.{neg_ℤ}
use Rattle.std.proofs.lemmas.Int.{ints, to_z-of_z}
use Rattle.edm_values.specs.declared.Value.{Value}
use Rattle.edm_values.specs.Values.{plus, tested, times}
use Rattle.apply_meaning.specs.Instances.{binary}
use Rattle.row_frames.specs.Blocks.{answer_to}
use Rattle.row_frames.proofs.OperatorLemmas.{made-alike, minus-is}
use Rattle.row_frames.proofs.typed_blocks.decs_with.Goals as goal

pub returns-in-Add : goal.returns-in-Add
returns-in-Add c =
    made-alike Value.Dec (λ a. plus a (Value.Int (to_z w64 (of_z w64 c.args.y)))) (λ a. binary c.args.op a (Value.Int c.args.y)) c.args.list.now c.decs_sum.result
    (λ x. ap (λ z. plus (Value.Dec x) (Value.Int z)) (to_z-of_z w64 c.args.y c.ranges.y) ∙ ap (λ o. binary o (Value.Dec x) (Value.Int c.args.y)) (sym c.in-Add.is)) c.decs_sum.ensures

pub returns-in-Some : goal.returns-in-Some
returns-in-Some c =
    let turned : c.in-Some.n ≡ neg_ℤ c.args.y = search rules in
    let back : to_z w64 (of_z w64 c.in-Some.n) ≡ c.in-Some.n = omega (arith, ints) in
    made-alike Value.Dec (λ a. plus a (Value.Int (to_z w64 (of_z w64 c.in-Some.n)))) (λ a. binary c.args.op a (Value.Int c.args.y)) c.args.list.now c.decs_sum-in-Some.result
    (λ x. minus-is (Value.Dec x) c.args.y (to_z w64 (of_z w64 c.in-Some.n)) (back ∙ turned) ∙ ap (λ o. binary o (Value.Dec x) (Value.Int c.args.y)) (sym c.in-Sub.is)) c.decs_sum-in-Some.ensures

pub returns-in-Mul : goal.returns-in-Mul
returns-in-Mul c =
    made-alike Value.Dec (λ a. times a (Value.Int (to_z w64 (of_z w64 c.args.y)))) (λ a. binary c.args.op a (Value.Int c.args.y)) c.args.list.now c.decs_product.result
    (λ x. ap (λ z. times (Value.Dec x) (Value.Int z)) (to_z-of_z w64 c.args.y c.ranges.y) ∙ ap (λ o. binary o (Value.Dec x) (Value.Int c.args.y)) (sym c.in-Mul.is)) c.decs_product.ensures

pub returns-in-Some-test_of : goal.returns-in-Some-test_of
returns-in-Some-test_of c =
    made-alike Value.Dec (λ a. tested (answer_to c.in-Some-test_of.test) a (Value.Int (to_z w64 (of_z w64 c.args.y)))) (λ a. binary c.args.op a (Value.Int c.args.y)) c.args.list.now c.decs_answers.result
    (λ x. ap (λ z. tested (answer_to c.in-Some-test_of.test) (Value.Dec x) (Value.Int z)) (to_z-of_z w64 c.args.y c.ranges.y) ∙ sym (c.in-Some-test_of.ensures (Value.Dec x) c.args.y refl)) c.decs_answers.ensures
