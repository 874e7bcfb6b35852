-- What the contracts of `slack` cite, and the laws that callers cite. Assumes nothing.
pub mod Sites
pub mod Hung
pub mod Ready
pub mod Walk
pub mod Sound
pub mod Marked
pub mod Given
