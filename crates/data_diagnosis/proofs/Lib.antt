pub mod FileLaws
pub mod Searches
pub mod SetKeys
pub mod ShapeFaults
pub mod ShapeLaws
