pub mod Times
pub mod WordLaws
pub mod BodyLaws
pub mod FaultLaws
pub mod SettingsLaws
pub mod EntryLaws
