pub mod At
pub mod Opening
pub mod Calls
pub mod Settle
