use Rattle.std.proofs.Common.{◌∙◌, ◌++◌, ◌∷◌, [], ap, arith, map, take}
use Rattle.std.proofs.lemmas.List.{map-append}
use Rattle.par_stages.specs.Placed.{placed}
use Rattle.aggregate_ops.specs.KeyTables.{groups_of}
use Rattle.aggregate_ops.proofs.NumberLemmas.{levels-more}
use Rattle.aggregate_ops.proofs.fronts.by_fronts.Goals as goal

pub loop-front-preserved : goal.loop-front-preserved
loop-front-preserved c = record {
  numbered = λ h. c.in_ok-fronts-2.ensures h;
  are = λ keys are.
      let found = c.loop-front.found.items in
      levels-more (λ j. groups_of (placed 0 (map (take j) keys))) c.args.least c.loop-front.front (map (λ l. l.items) found) (map (λ l. l.items) c.push.new.self.items) (omega arith) (c.loop-front.invariant.are keys are)
      (ap (map (λ l. l.items)) c.in_ok-push.ensures.items ∙ map-append (λ l. l.items) found (c.in_ok-level.field-0 ∷ []) ∙ ap (λ g. map (λ l. l.items) found ++ g ∷ []) (c.in_ok-level.ensures keys are));
}
