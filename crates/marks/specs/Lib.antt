-- What the contracts of `marks` cite, and the laws that callers cite. Assumes nothing.
pub mod Marks
