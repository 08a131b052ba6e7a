use Rattle.std.proofs.Common.{◌<◌, ◌||◌, length, ◌∙◌, arith}
use Rattle.std.proofs.lemmas.List.Folds.{list_any_more}
use Rattle.apply_meaning.specs.Instances.{no_instance}
use Rattle.json_render.specs.Bodies.{has_beyond}
use Rattle.json_render.proofs.RowLines.{row-written}
use Rattle.json_render.proofs.body.push_rows.Goals as goal

pub loop-k-preserved : goal.loop-k-preserved
loop-k-preserved c =
    let l = c.loop-k in
    let end = c.len-k-end.ensures in
    let within : l.k < length c.args.rows.now = omega (arith, c.loop-k-test.true, end) in
    record {
      text = c.make_room.ensures ∙ row-written c.args.store.now c.args.shape.now c.args.rows.now l.k no_instance c.args.body.now.items l.body.items c.push_row.new.body.items within c.in_ok-last.ensures.ok l.invariant.text;
      range = list_any_more has_beyond c.args.rows.now l.k no_instance within ∙ (λ j. l.invariant.range j || c.in_ok-last.ensures.in_range j);
      known = c.in_ok-last.ensures.known;
    }
