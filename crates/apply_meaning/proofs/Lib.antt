pub mod AggregateForms
pub mod AggregateLemmas
pub mod AggregateOrders
pub mod AggregatedFit
pub mod AggregationLemmas
pub mod CountLemmas
pub mod ExprLemmas
pub mod FitLemmas
pub mod FitMore
pub mod GroupFit
pub mod InstanceOrders
mod InstanceRows
pub mod JoinedFit
pub mod LoadedWorlds
pub mod LookupForms
pub mod LookupLemmas
pub mod MeanLaw
pub mod MeanLemmas
pub mod MeaningEquations
pub mod MeaningProved
mod MeaningRows
pub mod MergedFit
pub mod NodeLemmas
mod NodeRows
pub mod PlaceLemmas
pub mod PlacedRows
pub mod QuietLemmas
pub mod RootLemmas
pub mod RunLemmas
pub mod RowLemmas
pub mod SetLemmas
pub mod SumLaws
pub mod SureLemmas
pub mod WellTyped
