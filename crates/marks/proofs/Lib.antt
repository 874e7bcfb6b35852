-- The laws that the proofs of `marks` share. Assumes nothing.
pub mod Words
