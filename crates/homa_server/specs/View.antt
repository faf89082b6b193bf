-- The state of a row, as contracts see it.
use Rattle.homa_server.specs.Held.{HeldState, Arriving, Keeping, Answering, Gone}
use Rattle.homa_server.specs.declared.state.State.{State}
use Rattle.homa_server.specs.declared.state.State.TheVariants.{Receiving, Held, Replying, Buried}

-- the state with the bytes of its response
abbrev pub held_state : State → HeldState
held_state (Receiving service part base count) = Arriving service part base count
held_state (Held response release) = Keeping response.items release
held_state (Replying response out order base count) = Answering response.items out order base count
held_state (Buried until) = Gone until
