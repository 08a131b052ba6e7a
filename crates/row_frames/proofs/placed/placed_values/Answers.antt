use Rattle.std.proofs.Common.{◌∙◌, ◌≡◌, ap, subst, sym, true}
use Rattle.apply_meaning.specs.Running.{all_of}
use Rattle.row_frames.specs.Frames.{all_picked}
use Rattle.row_frames.proofs.placed.placed_values.Goals as goal

pub values_alone-requires-clause-of : goal.values_alone-requires-clause-of
values_alone-requires-clause-of c = subst (λ l. all_of c.args.store.now l ≡ true) (sym (ap (all_picked c.args.tables.now) c.as_slice.ensures.value ∙ c.in_ok-found.ensures.picked)) c.requires.of
