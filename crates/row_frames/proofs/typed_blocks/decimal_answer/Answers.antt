-- The answer to the order of the mantissas at the decimal's scale.
use Rattle.std.proofs.Common.{rules, ◌≡◌, ◌∙◌, ◌^◌, ap, pos, refl}
use Rattle.std.specs.Prelude.{◌*ℤ◌}
use Rattle.std.specs.Ordering.{int_cmp}
use Rattle.edm_values.specs.declared.Value.{Value}
use Rattle.row_frames.specs.Blocks.{answer_to}
use Rattle.row_frames.proofs.OperatorLemmas.{decimal-compared, tested-by}
use Rattle.row_frames.proofs.typed_blocks.decimal_answer.Goals as goal

pub returns : goal.returns
returns c =
    let power : c.in_ok-raised.raised ≡ c.args.y *ℤ pos (10 ^ c.scale.result) = search rules in
    let plain : c.cmp.result ≡ int_cmp c.mantissa.result c.in_ok-raised.raised = search rules in
    ap Value.Bool c.answer_to.ensures ∙ ap (λ o. Value.Bool (answer_to c.args.test o)) (plain ∙ ap (λ m. int_cmp m c.in_ok-raised.raised) c.mantissa.ensures.value)
    ∙ tested-by (answer_to c.args.test) (Value.Dec c.args.x) (Value.Int c.args.y) (int_cmp c.args.x.mantissa c.in_ok-raised.raised)
    (decimal-compared c.args.x c.args.y c.in_ok-raised.raised c.args.x.scale refl (power ∙ ap (λ s. c.args.y *ℤ pos (10 ^ s)) c.scale.ensures.value))
