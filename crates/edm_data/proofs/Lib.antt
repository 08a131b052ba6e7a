pub mod ColumnLemmas
pub mod DataRows
pub mod EntityLemmas
pub mod FirstPlaces
mod FrontRows
pub mod GridLemmas
pub mod GroupLemmas
pub mod JsonValueLemmas
pub mod KeyOrderLemmas
pub mod KeyedLemmas
pub mod LinkedLemmas
pub mod LoadLemmas
pub mod PlaceLemmas
pub mod PoolLemmas
pub mod ReaderLemmas
pub mod ReferenceLemmas
pub mod RelationLemmas
pub mod RisingLemmas
pub mod SearchLemmas
pub mod SeenKeys
pub mod ShapeLemmas
pub mod SharedLemmas
pub mod TableLemmas
pub mod TextLemmas
pub mod TreeLemmas
mod HierarchyRows
pub mod ValueFits
