mod DrawLaws
mod QueueLaws
mod FirstHops
mod HandedLaws
mod Opened
