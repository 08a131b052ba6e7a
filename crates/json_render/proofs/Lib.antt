pub mod Agreement
mod BodyRows
pub mod Depths
pub mod FitRows
pub mod Grouping
pub mod ItemDepths
pub mod KeptEntries
pub mod PartLemmas
pub mod PatternLemmas
pub mod PlaceItems
pub mod PlaceMembers
pub mod PlainQuotes
mod RowLines
pub mod RowParts
pub mod RowSeen
pub mod Runs
pub mod SegmentLemmas
pub mod Sharing
pub mod SlotLemmas
pub mod SortedEntries
pub mod TemplateLemmas
pub mod WrittenMembers
pub mod WrittenItems
