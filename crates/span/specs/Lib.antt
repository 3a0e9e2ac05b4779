pub mod Ascii
pub mod Bytes
pub mod Laws
pub mod EmptiedLaws
pub mod Stretches
pub mod Tests
pub mod Told
