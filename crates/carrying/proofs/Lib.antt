pub mod CarryTold
pub mod Decisions
pub mod KindTests
pub mod Making
