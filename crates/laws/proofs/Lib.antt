-- What is true of the definitions in specs/ and rests on the steps of the method. Assumes nothing.
pub mod Steps
pub mod Merging
pub mod Moves
pub mod Ties
pub mod Method
pub mod Bounds
pub mod Waiting
pub mod MethodAt
pub mod Listing
pub mod Picked
pub mod Called
