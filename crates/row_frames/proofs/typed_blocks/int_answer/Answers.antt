-- The answer to the order of the integers.
use Rattle.std.proofs.Common.{rules, ◌≡◌, ◌∙◌, ap}
use Rattle.std.specs.Ordering.{int_cmp}
use Rattle.edm_values.specs.declared.Value.{Value}
use Rattle.row_frames.specs.Blocks.{answer_to}
use Rattle.row_frames.proofs.OperatorLemmas.{integers-compared, tested-by}
use Rattle.row_frames.proofs.typed_blocks.int_answer.Goals as goal

pub returns : goal.returns
returns c =
    let plain : c.cmp.result ≡ int_cmp c.args.x.now c.args.y = search rules in
    ap Value.Bool c.answer_to.ensures ∙ ap (λ o. Value.Bool (answer_to c.args.test o)) plain
    ∙ tested-by (answer_to c.args.test) (Value.Int c.args.x.now) (Value.Int c.args.y) (int_cmp c.args.x.now c.args.y) (integers-compared c.args.x.now c.args.y)
