use Rattle.std.proofs.Common.{◌∙◌, ap, sym, arith}
use Rattle.std.specs.Prelude.{Option, option_map}
use Rattle.edm_values.specs.Names.{Path}
use Rattle.edm_data.specs.Worlds.{Entity}
use Rattle.context_typing.specs.Paths.{same_path}
use Rattle.row_frames.proofs.TableLemmas.{prefix-there}
use Rattle.row_frames.proofs.readers.prefix_place.Goals as goal

pub returns-then-same_path : goal.returns-then-same_path
returns-then-same_path c = λ k.
    let same = ap (λ p. same_path p c.args.names.now) (sym c.names.ensures.names) ∙ sym c.same_path.ensures.value ∙ c.if-same_path.true in
    ap (option_map (λ (x : Path × Option Entity). x.1)) (c.loop-c.invariant k)
    ∙ prefix-there c.args.prefixes.now c.loop-c.c c.index-prefixes-c.result c.args.names.now k (omega arith) c.index-prefixes-c.is same
