use Rattle.std.proofs.Common.{true, subst, sym}
use Rattle.apply_meaning.specs.Meaning.{item_before}
use Rattle.edm_values.specs.Values.{seen_value}
use Rattle.aggregate_ops.specs.Partials.{IsFirstOf}
use Rattle.std.proofs.lemmas.Result.{on_ok_weaker}
use Rattle.aggregate_ops.proofs.PartialLemmas.{IsFirstOf-next}
use Rattle.aggregate_ops.proofs.extremes.MaxOfSeenPartial.add_seen.Goals as goal

pub returns-clause-added : goal.returns-clause-added
returns-clause-added c = on_ok_weaker c.keep_first.result (λ first xs h.
    rw c.is_beyond.ensures.value (IsFirstOf-next true _ _ xs (seen_value c.args.item) c.args._place first (subst (λ s. IsFirstOf (item_before true) s xs) (sym c.self.view_is) h))) c.keep_first.ensures
