-- There is room for the digits, and zeros stand before them.
use Rattle.std.proofs.Common.{◌<◌, ◌^◌, length, ap, arith, lit<}
use Rattle.std.proofs.lemmas.Fmt.{length-decimal-le}
use Rattle.edm_values.proofs.PrintLaws.{padded_end}
use Rattle.edm_values.proofs.printing.write_padded.Goals as goal

pub write_digits-start-requires : goal.write_digits-start-requires
write_digits-start-requires c =
    let small : c.args.number < 2 ^ 64 = omega arith in
    let long = ap length c.requires.zeros in
    (length-decimal-le 20 c.args.number (lit< tt) (omega arith) small, omega (arith, long))

pub returns-clause-digits : goal.returns-clause-digits
returns-clause-digits c =
    padded_end 20 c.args.width c.args.number c.write_digits-start.result c.min.result c.write_digits-start.new.buf c.args.room.now
    c.write_digits-start.ensures.start c.write_digits-start.ensures.written c.write_digits-start.ensures.before c.requires.zeros c.requires.width c.min.ensures
