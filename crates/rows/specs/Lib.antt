pub mod Links
pub mod Alike
pub mod Backward
pub mod Given
