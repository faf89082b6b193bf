mod StandingLaws
mod ReceiverLaws
mod OrderLaws
