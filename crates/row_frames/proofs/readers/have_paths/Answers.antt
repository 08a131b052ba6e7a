use Rattle.std.proofs.Common.{◌∙◌, ap, length, subst, sym, arith, ◌<◌}
use Rattle.row_frames.proofs.TableLemmas.{paths-more}
use Rattle.row_frames.proofs.readers.have_paths.Goals as goal

pub loop-prefix-preserved : goal.loop-prefix-preserved
loop-prefix-preserved c = λ k.
    paths-more c.args.prefixes.now c.loop-prefix.prefix-index c.prefix-item.result k (c.loop-prefix.invariant k) c.loop-prefix-test.true c.prefix-item.is
    (subst (λ p. 0 < length p) c.names-names.ensures.names c.names-names.ensures.some)
