pub mod Texts
pub mod TextLaws
