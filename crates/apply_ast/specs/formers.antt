pub mod non_empty
