use Rattle.std.proofs.Common.{◌∙◌, ap, sym, arith}
use Rattle.std.specs.Prelude.{option_map}
use Rattle.edm_values.specs.declared.Value.{Value}
use Rattle.edm_values.specs.Names.{Path}
use Rattle.context_typing.specs.Paths.{same_path}
use Rattle.row_frames.proofs.TableLemmas.{place-there}
use Rattle.row_frames.proofs.readers.column_place.Goals as goal

pub returns-then-same_path : goal.returns-then-same_path
returns-then-same_path c = λ k.
    let same = ap (λ p. same_path p c.args.names.now) (sym c.names.ensures.names) ∙ sym c.same_path.ensures.value ∙ c.if-same_path.true in
    ap (option_map (λ (x : Path × Value). x.1)) (c.loop-c.invariant k)
    ∙ place-there c.args.columns.now c.loop-c.c c.index-columns-c.result c.args.names.now k (omega arith) c.index-columns-c.is same
