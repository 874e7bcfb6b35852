pub mod Below
pub mod BelowLaws
