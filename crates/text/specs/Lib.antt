pub mod Stretches
pub mod Numbers
pub mod Fields
