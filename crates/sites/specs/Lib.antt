pub mod Types
pub mod Sites
