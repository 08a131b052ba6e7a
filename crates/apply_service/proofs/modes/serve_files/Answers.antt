use Rattle.std.proofs.Common.{◌≡◌, refl, ap, Err, arith}
use Rattle.apply_service.proofs.Ends.{input-over, load-said, serve-refused, serve-said}
use Rattle.apply_service.proofs.Folders.{KeepsFiles-same}
use Rattle.apply_service.proofs.modes.serve_files.Goals as goal

pub returns-in_default-clause-keeps : goal.returns-in_default-clause-keeps
returns-in_default-clause-keeps g c = KeepsFiles-same _

pub returns-in_default-clause-says : goal.returns-in_default-clause-says
returns-in_default-clause-says g c = (refl, refl, refl)

pub returns-in_default-vec-clause-keeps : goal.returns-in_default-vec-clause-keeps
returns-in_default-vec-clause-keeps g c = KeepsFiles-same _

pub returns-in_default-vec-clause-says : goal.returns-in_default-vec-clause-says
returns-in_default-vec-clause-says g c = (refl, refl, refl)

pub returns-in-Err-clause-says : goal.returns-in-Err-clause-says
returns-in-Err-clause-says g c =
    serve-refused _ _ _ _ _ _ _ _ _ _ c.tell_stop.result refl refl
    (load-said _ _ _ _ _ c.in-Err.stop c.tell_stop.result c.tell_stop.ensures.says c.in-Err.ensures.stop (λ e. (c.in-Err.ensures.fault (ap Err e), c.in-Err.ensures.steady (ap Err e))))

pub serve_input-requires-clause-room : goal.serve_input-requires-clause-room
serve_input-requires-clause-room g c = λ _ _. omega (arith, c.in-Ok-vec.ensures.len, c.in-Ok-vec.buffer.ok.0)

pub returns-clause-says : goal.returns-clause-says
returns-clause-says g c =
    let over : c.new-replies.result.store.now ≡ c.in-Ok-load.store = ap (λ x. x.now) c.new-replies.ensures.store in
    serve-said _ _ _ _ _ _ _ _ _ _ c.in-Ok-load.store c.serve_input.result c.in-Ok-load.ensures.ok
    (input-over _ _ _ _ _ _ _ _ c.serve_input.result c.new-replies.ensures.plan over c.serve_input.ensures.says)
