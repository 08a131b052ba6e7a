mod CustomsRead
pub mod FirstCustoms
mod Named
