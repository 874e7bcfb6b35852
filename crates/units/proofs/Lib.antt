-- The laws of the quantities' arithmetic that `units` and its callers cite. Assumes nothing.
pub mod Times
pub mod Bits
