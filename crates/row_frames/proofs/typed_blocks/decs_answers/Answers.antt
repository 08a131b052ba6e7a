-- All of the list.
use Rattle.std.proofs.Common.{◌≡◌, arith, map, of_z, subst, to_z}
use Rattle.std.specs.Int.{w64}
use Rattle.std.proofs.lemmas.Int.{to_z-of_z}
use Rattle.std.proofs.lemmas.List.{take_all}
use Rattle.edm_values.specs.declared.Value.{Value}
use Rattle.edm_values.specs.Values.{tested}
use Rattle.row_frames.specs.Blocks.{answer_to}
use Rattle.row_frames.proofs.typed_blocks.decs_answers.Goals as goal

pub returns : goal.returns
returns c =
    let all = take_all c.loop-x.x-index c.args.list.now (omega (arith, c.loop-x-test.false)) in
    let found = c.loop-x.found.items in
    subst (λ z. map Value.Bool found ≡ map (λ a. tested (answer_to c.args.test) a (Value.Int z)) (map Value.Dec c.args.list.now)) (to_z-of_z w64 c.args.y c.ranges.y)
    (subst (λ l. map Value.Bool found ≡ map (λ a. tested (answer_to c.args.test) a (Value.Int (to_z w64 (of_z w64 c.args.y)))) (map Value.Dec l)) all c.loop-x.invariant)
