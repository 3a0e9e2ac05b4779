pub mod Decimal
pub mod Position
pub mod Delta
