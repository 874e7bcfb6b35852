pub mod Shown
pub mod Made
pub mod Steps
pub mod Links
pub mod Spine
pub mod Recursion
pub mod Upward
pub mod Code
