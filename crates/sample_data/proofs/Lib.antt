pub mod AmountTexts
pub mod EntityTrees
pub mod FileLengths
pub mod GeneratedFile
mod GeneratedRows
pub mod GeneratedTree
pub mod PlaceLists
pub mod WorldKeys
pub mod WorldReferences
