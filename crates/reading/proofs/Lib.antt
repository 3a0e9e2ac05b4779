pub mod ByMap
pub mod Pages
