use Rattle.std.proofs.Common.{◌∙◌, ◌<◌, List, ap, get_or, length, subst, sym}
use Rattle.row_frames.specs.declared.tables.Pick.{Pick}
use Rattle.row_frames.proofs.picks.Picks.at.Goals as goal

pub at-requires : goal.at-requires
at-requires c = subst (λ (xs : List Pick). c.args.k < length xs) (sym c.as_part.ensures) c.requires

pub returns : goal.returns
returns c = λ d. c.at.ensures d ∙ ap (λ xs. get_or xs c.args.k d) c.as_part.ensures
