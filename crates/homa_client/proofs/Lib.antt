pub mod OpenLaws
pub mod ReceiveLaws
pub mod EmitLaws
pub mod TimerLaws
pub mod TableLaws
pub mod ReceivedLaws
