-- The laws of the meaning, of every world that is loaded.
use Rattle.edm_model.specs.LookUps.{set_type}
use Rattle.edm_data.specs.Worlds.{World}
use Rattle.apply_meaning.specs.MeaningLaws.{IsLoaded, ValuesFit, RowsFit, MeanFits, SureIsNotBeyond, QuietIsNotRefused, NodesFit, RelatedFit}
use Rattle.apply_meaning.proofs.WellTyped.{IsWellTyped}
use Rattle.apply_meaning.proofs.LoadedWorlds.{well_typed, set-here}
use Rattle.apply_meaning.proofs.SureLemmas.{sure_is_not_beyond, values_fit}
use Rattle.apply_meaning.proofs.NodeLemmas.{nodes_fit, related_fit, rows_fit}
use Rattle.apply_meaning.proofs.MeanLaw.{mean_fits}
use Rattle.apply_meaning.proofs.QuietLemmas.{quiet_runs}

pub loaded-typed : (w : World) → IsLoaded w → IsWellTyped w
loaded-typed w L = well_typed w L.model L.lists

pub loaded-values : ValuesFit IsLoaded
loaded-values = values_fit IsLoaded loaded-typed

pub loaded-rows : RowsFit IsLoaded
loaded-rows w s L h = rows_fit w s (set_type w.model s) (set-here w.model s h)

pub loaded-mean_fits : MeanFits IsLoaded
loaded-mean_fits = mean_fits IsLoaded loaded-typed

pub loaded-sure : SureIsNotBeyond IsLoaded
loaded-sure = sure_is_not_beyond IsLoaded loaded-typed

pub loaded-quiet : QuietIsNotRefused IsLoaded
loaded-quiet = quiet_runs IsLoaded loaded-typed

pub loaded-nodes : NodesFit IsLoaded
loaded-nodes = nodes_fit IsLoaded

pub loaded-related : RelatedFit IsLoaded
loaded-related = related_fit IsLoaded loaded-typed
