pub mod HeedLaws
pub mod TurnLaws
pub mod RunLaws
pub mod NetworkLaws
