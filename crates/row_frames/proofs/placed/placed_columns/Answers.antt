use Rattle.std.proofs.Common.{◌∙◌, ◌≡◌, ap, subst, sym, true}
use Rattle.apply_meaning.specs.Running.{all_of}
use Rattle.row_frames.specs.Frames.{all_picked}
use Rattle.row_frames.proofs.placed.placed_columns.Goals as goal

pub columns_in_turn-requires-clause-of : goal.columns_in_turn-requires-clause-of
columns_in_turn-requires-clause-of c = subst (λ l. all_of c.args.store.now l ≡ true) (sym (ap (all_picked c.args.tables.now) c.as_slice.ensures.value ∙ c.in_ok-found.ensures.picked)) c.requires.of
