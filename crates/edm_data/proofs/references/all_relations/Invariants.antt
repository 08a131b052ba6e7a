use Rattle.std.proofs.Common.{◌≡◌, ℕ, ◌<◌, [], vec_len}
use Rattle.std.specs.List.{slice_get}
use Rattle.std.specs.Option.{unwrap_or}
use Rattle.edm_data.specs.Links.{HasRelations}
use Rattle.edm_data.proofs.LinkedLemmas.{AreSound}
use Rattle.edm_data.proofs.references.all_relations.Given as goal

abbrev pub invariant-loop-set : goal.invariant-loop-set
invariant-loop-set l = record {
  len : vec_len l.sets ≡ l.set-index;
  each : (s : ℕ) → s < l.set-index → HasRelations l.keyed s (unwrap_or (slice_get l.sets.items s) []);
  sound : (s : ℕ) → s < l.set-index → AreSound l.keyed s;
}
