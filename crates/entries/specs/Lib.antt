pub mod Lines
pub mod Entries
pub mod Held
pub mod Words
pub mod EntryLaws
pub mod HeldLaws
pub mod RowLaws
