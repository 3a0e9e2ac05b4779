pub mod SweepTold
