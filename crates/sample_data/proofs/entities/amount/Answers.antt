use Rattle.std.proofs.Common.{◌≡◌, ◌++◌, ◌<◌, ◌^◌, sym, ap, ◌∙◌, subst, pos, arith, w64, to_z, of_z}
use Rattle.std.specs.Str.{IsUtf8}
use Rattle.std.proofs.lemmas.Bool.{false≢true}
use Rattle.std.proofs.lemmas.Int.{ints}
use Rattle.edm_values.specs.Values.{decimal_of}
use Rattle.edm_values.specs.Literals.{decimal_text}
use Rattle.sample_data.proofs.AmountTexts.{amount_is_utf8, text_is}
use Rattle.sample_data.proofs.entities.amount.Goals as goal
use Rattle.sample_data.proofs.entities.amount.Goals.{In_ok-print_value-in-Some}

-- the bytes are the amount's text
written : (c : In_ok-print_value-in-Some) → c.print_value.new.out.items ≡ decimal_text (pos c.args.hundredths) 2
written c =
    let same : to_z w64 (of_z w64 c.from.result) ≡ pos c.args.hundredths = omega (arith, ints) in
    c.in_ok-print_value-in-Some.ensures.ok ∙ ap (λ front. front ++ decimal_text c.in-Some.amount.mantissa c.in-Some.amount.scale) c.new-bytes.ensures.items
    ∙ text_is c.in-Some.amount c.args.hundredths 2 (c.in-Some.ensures.value ∙ ap (λ m. decimal_of m 2) same)

pub unreachable-requires-in-Err : goal.unreachable-requires-in-Err
unreachable-requires-in-Err c =
    let small : c.args.hundredths < 2 ^ 64 = omega arith in
    false≢true (c.in-Err.ensures.succeeds (subst IsUtf8 (sym (written (goal.at.unreachable-requires-in-Err c).In_ok-print_value-in-Some)) (amount_is_utf8 c.args.hundredths 1 small)))

pub returns : goal.returns
returns c = ap (λ v. v.items) c.in-Ok.ensures.ok ∙ written (goal.at.returns c).In_ok-print_value-in-Some
