use Rattle.std.proofs.Common.{◌≡◌, ◌∙◌, List, Some, ap, map, subst, sym}
use Rattle.std.proofs.lemmas.Option.{slice_get-get_or}
use Rattle.row_frames.specs.declared.tables.Prefix.{Prefix}
use Rattle.row_frames.specs.Frames.{prefix_at}
use Rattle.row_frames.specs.Shown.{prefix_set}
use Rattle.row_frames.proofs.ShownLemmas.{picked-columns, picked-prefixes}
use Rattle.row_frames.proofs.shown.are_alike.Goals as goal

pub returns-clause-columns : goal.returns-clause-columns
returns-clause-columns c = λ h.
    let ts = c.args.tables.now in
    let t = c.index-tables-a.result in
    picked-columns ts c.args.a c.args.b t c.if-a-b.false (slice_get-get_or ts c.args.a.table t c.requires.within ∙ ap Some (sym c.index-tables-a.is))

pub returns-clause-prefixes : goal.returns-clause-prefixes
returns-clause-prefixes c = λ h.
    let ts = c.args.tables.now in
    let t = c.index-tables-a.result in
    picked-prefixes ts c.args.a c.args.b t c.if-a-b.false (slice_get-get_or ts c.args.a.table t c.requires.within ∙ ap Some (sym c.index-tables-a.is))
    (subst (λ (ps : List Prefix). map prefix_set (map (prefix_at c.args.a.row) ps) ≡ map prefix_set (map (prefix_at c.args.b.row) ps)) c.as_slice.ensures.value (c.have_same_sets.ensures h))
