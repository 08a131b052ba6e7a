pub mod Characters
pub mod PrintableLaws
