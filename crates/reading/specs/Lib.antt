pub mod Given
pub mod Mapped
pub mod MappedLaws
pub mod Parts
pub mod Read
pub mod ReadLaws
