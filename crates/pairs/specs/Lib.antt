pub mod Reach
pub mod Stands
