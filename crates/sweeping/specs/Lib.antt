pub mod Parts
pub mod Sweep
pub mod ZeroedLaws
pub mod SweepLaws
pub mod Given
