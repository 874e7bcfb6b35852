pub mod Hanging
pub mod Sights
pub mod Below
pub mod AtRow
