pub mod Build
pub mod Steps
pub mod BuildLaws
pub mod MapLaws
pub mod Given
pub mod BuildWords
pub mod BuildMeaningLaws
pub mod BuildMeaning
