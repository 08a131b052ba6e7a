use Rattle.std.proofs.Common.{◌∙◌, ap, length, List, Option, Bool, map, subst}
use Rattle.std.proofs.lemmas.List.{length-map}
use Rattle.row_frames.specs.Answers.{answer_of, Keeps}
use Rattle.row_frames.specs.Frames.{read_at}
use Rattle.row_frames.specs.declared.tables.Pick.{Pick}
use Rattle.row_frames.proofs.kept.kept_in_list.Goals as goal

pub kept_by-requires : goal.kept_by-requires
kept_by-requires c = ap length (c.as_slice.ensures.value ∙ c.in_ok-found.ensures.answers) ∙ length-map c.args.picks.now (λ (x : Pick). answer_of (read_at c.args.readers.now x))

pub returns : goal.returns
returns c = subst (λ (bs : List (Option Bool)). Keeps bs c.args.picks.now c.kept_by.result) (c.as_slice.ensures.value ∙ c.in_ok-found.ensures.answers) c.kept_by.ensures
