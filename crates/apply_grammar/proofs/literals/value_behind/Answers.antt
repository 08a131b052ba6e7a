use Rattle.std.proofs.Common.{◌+◌, ◌-◌, ◌*◌, ◌<◌, arith, get_or}
use Rattle.apply_grammar.proofs.ByteLoops.{value_past, value_digit, value_done}
use Rattle.apply_grammar.proofs.literals.value_behind.Goals as goal

pub returns-then-next-from-clause-exact : goal.returns-then-next-from-clause-exact
returns-then-next-from-clause-exact c =
    let g : c.args.most < c.loop-byte.n * 10 + (get_or c.args.digits.now c.loop-byte.byte-index 0 - 48) = omega (arith, c.from.ensures, c.from-in-loop-byte.ensures, c.from-in-loop-byte-2.ensures, c.if-next-from.true) in
    value_past c.args.most c.args.start c.args.digits.now c.loop-byte.byte-index c.loop-byte.n c.requires.digits c.loop-byte-test.true c.loop-byte.invariant.0 g

pub loop-byte-preserved : goal.loop-byte-preserved
loop-byte-preserved c =
    let e = value_digit c.args.start c.args.digits.now c.loop-byte.byte-index c.requires.digits c.loop-byte-test.true in
    (omega (arith, e, c.loop-byte.invariant.0, c.from.ensures, c.from-in-loop-byte.ensures), omega (arith, c.from-in-loop-byte-2.ensures))

pub returns-clause-exact : goal.returns-clause-exact
returns-clause-exact c =
    rw c.loop-byte.invariant.0 (value_done c.args.most c.args.start c.args.digits.now c.loop-byte.byte-index c.loop-byte-test.false (omega (arith, c.loop-byte.invariant.0)))
