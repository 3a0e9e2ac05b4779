pub mod Meaning
pub mod SlotLaws
pub mod Slots
pub mod StateLaws
