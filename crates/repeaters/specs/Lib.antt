pub mod Repeaters
