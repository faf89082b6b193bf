pub mod Bodies
pub mod Refusals
pub mod Forms
pub mod Told
