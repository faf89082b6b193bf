pub mod Spelled
pub mod Digits
pub mod Taking
pub mod InLine
pub mod Feeds
pub mod BeforeFeed
pub mod NextLine
pub mod Told
