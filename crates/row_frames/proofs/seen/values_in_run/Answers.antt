use Rattle.std.proofs.Common.{◌≡◌, ◌∙◌, ◌++◌, ◌<◌, ap, arith, length, map, sym}
use Rattle.row_frames.proofs.BlockLemmas.{block-step}
use Rattle.row_frames.specs.Frames.{read_at, IsReadable}
use Rattle.row_frames.specs.Runs.{run_rows}
use Rattle.row_frames.proofs.PartLemmas.{read-all}
use Rattle.row_frames.proofs.RunLemmas.{all-first, all-later, first-later, later-fewer}
use Rattle.row_frames.proofs.seen.values_in_run.Goals as goal

pub values_in_turn-requires : goal.values_in_turn-requires
values_in_turn-requires c = all-first (IsReadable c.args.readers.now) (run_rows c.loop-alloc.rest) c.as_slice.result.now 1024 (c.as_slice.ensures.value ∙ c.in_ok-block.ensures ∙ c.first-front.ensures) c.loop-alloc.invariant.0

pub loop-alloc-preserved : goal.loop-alloc-preserved
loop-alloc-preserved c =
    let rs = c.args.readers.now in
    let found = c.loop-alloc.found.items in
    let rest = run_rows c.loop-alloc.rest in
    let block = c.as_slice.result.now in
    let behind = run_rows c.later-behind.result in
    let is = c.as_slice.ensures.value ∙ c.in_ok-block.ensures ∙ c.first-front.ensures in
    let made = c.in_ok-append.ensures.items ∙ ap (λ l. found ++ l) c.in_ok-values.ensures.read in (
      all-later (IsReadable rs) rest behind 1024 c.later-behind.ensures c.loop-alloc.invariant.0,
      block-step (read_at rs) found _ _ rest block behind (sym (first-later rest block behind 1024 is c.later-behind.ensures)) made c.loop-alloc.invariant.1,
    )

pub loop-alloc-smaller : goal.loop-alloc-smaller
loop-alloc-smaller c =
    let some : 0 < length (run_rows c.loop-alloc.rest) = omega arith in
    later-fewer (run_rows c.loop-alloc.rest) (run_rows c.later-behind.result) 1024 c.later-behind.ensures (omega arith) some

pub returns : goal.returns
returns c =
    let rs = c.args.readers.now in
    let found = c.loop-alloc.found.items in
    let rest = run_rows c.loop-alloc.rest in
    let none : length rest ≡ 0 = omega arith in
    record { read = read-all (read_at rs) found rest (map (read_at rs) (run_rows c.args.run)) none c.loop-alloc.invariant.1 }
