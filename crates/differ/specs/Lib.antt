pub mod Differ
pub mod DifferLaws
