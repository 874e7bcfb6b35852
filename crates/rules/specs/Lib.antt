-- What is believed, to be read from top to bottom: ranges and rooms; lists; what a text and a table state, and when it is refused; the net
-- as a tree, a placement on it, its slack and its pairs; then the areas that are lent, the answers, and with them the promise of each
-- public entry and of each exported call. What is true of these definitions is in `laws`, and the paper's examples are in `examples`.
pub mod Quantities
pub mod Lists
pub mod Entries
pub mod Text
pub mod Tables
pub mod Refusals
pub mod Net
pub mod Placements
pub mod Slack
pub mod Pairs
pub mod Areas
pub mod Answers
pub mod Promises
pub mod Calls
