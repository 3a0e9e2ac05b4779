pub mod Info
pub mod InfoLaws
pub mod Signed
pub mod Text
pub mod TextLaws
