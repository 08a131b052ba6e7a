use Rattle.std.proofs.Common.{◌∙◌, ◌<◌, ap, length, map, subst, sym}
use Rattle.std.proofs.lemmas.List.{length-map}
use Rattle.apply_meaning.specs.Instances.{Instance}
use Rattle.row_frames.specs.declared.tables.Pick.{Pick}
use Rattle.row_frames.specs.Frames.{picked}
use Rattle.row_frames.specs.Runs.{part_rows}
use Rattle.row_frames.specs.Shown.{column_path, prefix_set}
use Rattle.row_frames.proofs.PlaceLemmas.{one-picked}
use Rattle.row_frames.proofs.shown.rows_are_alike.Goals as goal

pub at-requires : goal.at-requires
at-requires c = subst (λ n. c.args.j < n) (length-map (part_rows c.args.picks.now) (picked c.args.tables.now)) c.requires.first

pub at-requires-2 : goal.at-requires-2
at-requires-2 c = subst (λ n. c.args.k < n) (length-map (part_rows c.args.picks.now) (picked c.args.tables.now)) c.requires.second

pub are_alike-requires : goal.are_alike-requires
are_alike-requires c =
    let lt = subst (λ n. c.args.j < n) (length-map (part_rows c.args.picks.now) (picked c.args.tables.now)) c.requires.first in
    record { within = subst (λ (x : Pick). x.table < length c.args.tables.now) (sym (c.at.ensures c.at.result)) (c.requires.within c.args.j c.at.result lt) }

pub returns-clause-columns : goal.returns-clause-columns
returns-clause-columns c = λ h.
    let paths = λ (i : Instance). map column_path i.columns in
    let first = one-picked c.args.tables.now (part_rows c.args.picks.now) c.args.j c.at.result c.requires.first (c.at.ensures c.at.result) in
    let second = one-picked c.args.tables.now (part_rows c.args.picks.now) c.args.k c.at-2.result c.requires.second (c.at-2.ensures c.at-2.result) in
    ap paths (sym first) ∙ c.are_alike.ensures.columns h ∙ ap paths second

pub returns-clause-prefixes : goal.returns-clause-prefixes
returns-clause-prefixes c = λ h.
    let sets = λ (i : Instance). map prefix_set i.prefixes in
    let first = one-picked c.args.tables.now (part_rows c.args.picks.now) c.args.j c.at.result c.requires.first (c.at.ensures c.at.result) in
    let second = one-picked c.args.tables.now (part_rows c.args.picks.now) c.args.k c.at-2.result c.requires.second (c.at-2.ensures c.at-2.result) in
    ap sets (sym first) ∙ c.are_alike.ensures.prefixes h ∙ ap sets second
