pub mod FairRows
pub mod ClientSays
pub mod Silent
pub mod FairAmid
pub mod FairMoves
pub mod FairSteps
pub mod FairEvents
pub mod FairLaw
