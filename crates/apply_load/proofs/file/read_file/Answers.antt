use Rattle.std.proofs.Common.{◌≡◌, length, take, arith, rules, ap}
use Rattle.std.proofs.lemmas.List.{length-take-le}
use Rattle.apply_load.proofs.Fronts.{IsFront-more, front-ended, KeepsFiles-more}
use Rattle.apply_load.proofs.file.read_file.Goals as goal

pub returns-then-count-eq0-clause-bytes : goal.returns-then-count-eq0-clause-bytes
returns-then-count-eq0-clause-bytes g c =
    let at : c.len-at.result ≡ length c.loop-bytes.bytes.items = omega (arith, c.len-at.ensures, c.loop-bytes.bytes.ok.0) in
    let none = ap (λ n. length (take n c.read_part.new.buffer)) c.if-count-eq0.true in
    front-ended _ _ _ _ _ _ c.args.limit at (omega arith) none c.loop-bytes.invariant.keeps c.loop-bytes.invariant.front c.in-Ok.ensures.bytes

pub loop-bytes-preserved : goal.loop-bytes-preserved
loop-bytes-preserved g c =
    let at : c.len-at.result ≡ length c.loop-bytes.bytes.items = omega (arith, c.len-at.ensures, c.loop-bytes.bytes.ok.0) in
    let size = length-take-le c.in-Ok.count c.read_part.new.buffer c.in-Ok.ensures.count.0 in
    record {
      within = omega (arith, c.in-Ok-extend_from_slice.ensures.len, size, c.in-Ok.ensures.count.1);
      room = search rules;
      keeps = KeepsFiles-more _ _ _ c.loop-bytes.invariant.keeps c.read_part.ensures.keeps;
      later = search rules;
      steady = search rules;
      front = rw (c.in-Ok-extend_from_slice.ensures.items) (IsFront-more _ _ _ _ _ _ at c.loop-bytes.invariant.keeps c.loop-bytes.invariant.front c.in-Ok.ensures.bytes);
    }
