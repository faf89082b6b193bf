pub mod RecordingEnds
pub mod Recorded
pub mod TraceEnds
pub mod Traces
