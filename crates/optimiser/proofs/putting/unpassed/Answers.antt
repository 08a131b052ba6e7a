use Rattle.std.proofs.Common.{◌≡◌, sym, ◌∙◌, ◌<◌, ◌+◌, ◌-◌, length, arith}
use Rattle.optimiser.specs.HeldSegments.{test_of}
use Rattle.optimiser.proofs.HeldLists.{goes-first, goes-to, past-more, past-none}
use Rattle.optimiser.proofs.putting.unpassed.Goals as goal

pub loop-k-init : goal.loop-k-init
loop-k-init c = record { within = omega arith; past = λ m w. past-none m w (test_of c.args.test.now) c.args.segments.now }

pub loop-k-preserved : goal.loop-k-preserved
loop-k-preserved c = record {
  within = omega arith;
  past = λ m w.
      let k = c.loop-k.k in
      let next : k ≡ (k - 1) + 1 = omega arith in
      let at : k - 1 < length c.args.segments.now = omega arith in
      past-more m w c.args.segments.now k (k - 1) next at c.index-segments-k.result c.index-segments-k.is (test_of c.args.test.now) (sym c.passed.ensures ∙ c.if-not-passed.false) (c.loop-k.invariant.past m w);
}

pub returns-then-not-passed-clause-place : goal.returns-then-not-passed-clause-place
returns-then-not-passed-clause-place c m w =
    goes-to m w (test_of c.args.test.now) c.args.segments.now c.loop-k.k c.index-segments-k.result c.loop-k.invariant.within (c.loop-k.invariant.past m w) c.loop-k-test.true c.index-segments-k.is (sym c.passed.ensures ∙ c.if-not-passed.true)

pub returns-clause-place : goal.returns-clause-place
returns-clause-place c m w =
    let none : c.loop-k.k ≡ 0 = omega arith in
    goes-first m w (test_of c.args.test.now) c.args.segments.now (rw none at (c.loop-k.invariant.past m w))
