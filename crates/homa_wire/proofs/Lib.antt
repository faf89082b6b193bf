pub mod Headers
pub mod Payload
pub mod Times
