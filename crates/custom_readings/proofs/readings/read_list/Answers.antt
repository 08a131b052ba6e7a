use Rattle.std.proofs.Common.{arith, ap, length, length-append, ◌∷◌, []}
use Rattle.custom_readings.specs.Readings.{IsRead}
use Rattle.custom_readings.proofs.ReadLists.{read-stopped, read-all, zip-more}
use Rattle.custom_readings.proofs.readings.read_list.Goals as goal

pub returns-in-None : goal.returns-in-None
returns-in-None c =
    read-stopped c.args.customs.now c.loop-custom.list.items c.loop-custom.custom-index c.custom-item.result c.loop-custom-test.true c.custom-item.is c.loop-custom.invariant.count c.loop-custom.invariant.read (rw c.in-None.is at c.in_ok-read.ensures)

pub loop-custom-preserved : goal.loop-custom-preserved
loop-custom-preserved c = record {
  count = omega (arith, ap length c.in_ok-push-in-Some.ensures.items, length-append c.loop-custom.list.items (c.in-Some.read ∷ []), c.loop-custom.invariant.count);
  read =
      rw c.in_ok-push-in-Some.ensures.items (zip-more IsRead c.args.customs.now c.loop-custom.list.items c.loop-custom.custom-index c.custom-item.result c.in-Some.read c.loop-custom-test.true c.custom-item.is c.loop-custom.invariant.read (rw c.in-Some.is at c.in_ok-read.ensures));
}

pub returns : goal.returns
returns c = read-all c.args.customs.now c.loop-custom.list.items c.loop-custom.custom-index c.loop-custom-test.false c.loop-custom.invariant.count c.loop-custom.invariant.read
