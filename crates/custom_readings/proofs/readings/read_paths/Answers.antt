use Rattle.custom_readings.proofs.ReadLists.{no-paths, paths-more}
use Rattle.custom_readings.proofs.readings.read_paths.Goals as goal

pub returns-in-Err-Syntax : goal.returns-in-Err-Syntax
returns-in-Err-Syntax c =
    no-paths c.args.texts.now c.loop-text.text-index c.text-item.result c.loop-text-test.true c.text-item.is (rw (c.in-Err-Syntax.field-0-is, c.as_str.ensures.value) at c.in-Err-Syntax.ensures.only)

pub loop-text-preserved : goal.loop-text-preserved
loop-text-preserved c =
    rw c.in_ok-push-in-Ok.ensures.items (paths-more c.args.texts.now c.loop-text.paths.items c.loop-text.text-index c.text-item.result c.in-Ok.path c.loop-text-test.true c.text-item.is c.loop-text.invariant (rw c.as_str.ensures.value at c.in-Ok.ensures.found) (rw c.as_str.ensures.value at c.in-Ok.ensures.only))
