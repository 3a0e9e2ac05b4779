pub mod BuildTold
