pub mod CutTold
pub mod HighestTold
