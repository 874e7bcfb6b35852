-- What the contracts of `units` cite. Assumes nothing.
pub mod Times
