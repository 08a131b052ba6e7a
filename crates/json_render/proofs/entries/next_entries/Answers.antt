use Rattle.std.proofs.Common.{◌∙◌, sym, ap, arith}
use Rattle.std.specs.Prelude.{option_map}
use Rattle.json_render.specs.Places.{named_parts, seen}
use Rattle.json_render.proofs.KeptEntries.{pushed_next, skipped_next}
use Rattle.json_render.proofs.entries.next_entries.Goals as goal
use Rattle.json_render.proofs.entries.next_entries.Goals.{in-Some+in_ok-push, in_default}

pub loop-entry-preserved : goal.loop-entry-preserved
loop-entry-preserved c = elim c.match-next.branch [
  | in-Some+in_ok-push w ↦ pushed_next c.loop-entry.all.items c.match-next.all.items c.args.entries.now c.loop-entry.entry-index c.entry-item.result w.in-Some.next (omega arith) c.entry-item.is
      (sym c.next.ensures ∙ ap (option_map seen) w.in-Some.is) (ap (λ v. v.items) w.all-is ∙ w.in_ok-push.ensures.items) c.loop-entry.invariant
  | in_default w ↦ ap (λ v. named_parts v.items) w.all-is
      ∙ skipped_next c.loop-entry.all.items c.args.entries.now c.loop-entry.entry-index c.entry-item.result (omega arith) c.entry-item.is (sym c.next.ensures ∙ ap (option_map seen) w.in_default.is) c.loop-entry.invariant
]
