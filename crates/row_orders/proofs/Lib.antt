pub mod ItemSorts
pub mod OrderLemmas
pub mod PlaceSorts
pub mod RankLemmas
