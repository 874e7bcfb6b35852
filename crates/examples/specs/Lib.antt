pub mod Texts
pub mod Examples
pub mod Needless
pub mod Given
pub mod Refused
pub mod Kept
pub mod StandInLists
