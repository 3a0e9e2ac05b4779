pub mod Fresh
pub mod FreshLaws
pub mod Head
pub mod HeaderLaws
pub mod Headers
pub mod Meaning
pub mod Stored
pub mod StoredLaws
