use Rattle.std.proofs.Common.{◌≡◌, ◌∙◌, ◌<◌, Bool, Option, arith, length, sym}
use Rattle.std.proofs.lemmas.Result.{err_from_is_err_and}
use Rattle.row_frames.specs.Answers.{answer_of}
use Rattle.row_frames.specs.Frames.{read_at, IsReadable}
use Rattle.row_frames.specs.Runs.{run_rows}
use Rattle.row_frames.specs.declared.tables.Pick.{Pick}
use Rattle.row_frames.proofs.KeptLemmas.{all-so-far, bad-block, err-keeps, more-so-far, past-so-far}
use Rattle.row_frames.proofs.RunLemmas.{all-first, all-later, first-later, later-fewer}
use Rattle.row_frames.proofs.kept.kept_in_run.Goals as goal

pub kept_in_list-requires : goal.kept_in_list-requires
kept_in_list-requires c = all-first (IsReadable c.args.readers.now) (run_rows c.loop-alloc.rest) c.as_slice.result.now 1024 (c.as_slice.ensures.value ∙ c.in_ok-block.ensures ∙ c.first-front.ensures) c.loop-alloc.invariant.0

pub loop-alloc-preserved : goal.loop-alloc-preserved
loop-alloc-preserved c =
    let rs = c.args.readers.now in
    let f = λ (x : Pick). answer_of (read_at rs x) in
    let rest = run_rows c.loop-alloc.rest in
    let block = c.as_slice.result.now in
    let behind = run_rows c.later-behind.result in
    let is = c.as_slice.ensures.value ∙ c.in_ok-block.ensures ∙ c.first-front.ensures in
    let all = first-later rest block behind 1024 is c.later-behind.ensures in (
      all-later (IsReadable rs) rest behind 1024 c.later-behind.ensures c.loop-alloc.invariant.0,
      more-so-far f (run_rows c.args.run) rest block behind c.loop-alloc.kept.items _ c.in_ok-more.more.items all c.in_ok-more.ensures.0 c.in_ok-more.ensures.1 c.in_ok-append.ensures.items c.loop-alloc.invariant.1,
    )

pub loop-alloc-smaller : goal.loop-alloc-smaller
loop-alloc-smaller c =
    let some : 0 < length (run_rows c.loop-alloc.rest) = omega arith in
    later-fewer (run_rows c.loop-alloc.rest) (run_rows c.later-behind.result) 1024 c.later-behind.ensures (omega arith) some

pub returns-in_err-more : goal.returns-in_err-more
returns-in_err-more c =
    let f = λ (x : Pick). answer_of (read_at c.args.readers.now x) in
    let rest = run_rows c.loop-alloc.rest in
    let block = c.as_slice.result.now in
    let behind = run_rows c.later-behind.result in
    let is = c.as_slice.ensures.value ∙ c.in_ok-block.ensures ∙ c.first-front.ensures in
    let all = first-later rest block behind 1024 is c.later-behind.ensures in
    let q = err_from_is_err_and c.from_residual-in_err-more.result c.from_residual-in_err-more.ensures.1 in
    err-keeps f (run_rows c.args.run) c.from_residual-in_err-more.result q.0 q.1 (λ h.
    past-so-far f (run_rows c.args.run) rest block behind c.loop-alloc.kept.items all (bad-block f block _ c.in_err-more.ensures (sym q.2 ∙ h)) c.loop-alloc.invariant.1)

pub returns : goal.returns
returns c =
    let f = λ (x : Pick). answer_of (read_at c.args.readers.now x) in
    let rest = run_rows c.loop-alloc.rest in
    let none : length rest ≡ 0 = omega arith in
    all-so-far f (run_rows c.args.run) rest c.loop-alloc.kept.items none c.loop-alloc.invariant.1
