-- What a sink that holds lines back has.
use Rattle.std.specs.Prelude.{◌≡◌, ◌≤◌, ℕ, ◌-◌, length, Option, List, Result, OnOk, OnErr, take, drop}
use Rattle.homa_io.specs.Outside.{HasRisen, Grows}
use Rattle.homa_io.specs.declared.held_text.Room.{Room}
use Rattle.homa_io.specs.declared.held_text.HeldText.{HeldText}
use Rattle.homa_io.specs.declared.held.HeldSink.{HeldSink}

-- how many bytes the room has
abbrev pub room_size : Room → ℕ
room_size room = length room.bytes.items

-- the bytes of a text that are held
abbrev pub text_bytes : HeldText → List ℕ
text_bytes text = drop text.sent (take text.len text.bytes.items)

-- how many more bytes fit in it, after those that are held
abbrev pub text_space : HeldText → ℕ
text_space text = 65536 - text.len

-- the sink below
abbrev pub sink_below : {K : Type 0} → HeldSink K → K
sink_below held = held.sink

-- the bytes that are held
abbrev pub held_bytes : {K : Type 0} → HeldSink K → List ℕ
held_bytes held = text_bytes held.text

-- how many more bytes fit after those that are held
abbrev pub space_left : {K : Type 0} → HeldSink K → ℕ
space_left held = text_space held.text

-- how many lines are still passed on at once
abbrev pub direct_lines : {K : Type 0} → HeldSink K → ℕ
direct_lines held = held.direct

-- the sink below took more or nothing, only an error counts a fault there, and it is the same sink
pub record PassesOn {K A E : Type 0} (taken : K → Option (List ℕ)) (faults : K → ℕ) (is_same : K → K → Type 0) (result : Result A E) (old new : K)
    : Type 0 where
  pub grows : Grows (taken old) (taken new)
  pub risen : OnErr result (HasRisen (faults old) (faults new))
  pub quiet : OnOk result (faults new ≡ faults old)
  pub never_falls : faults old ≤ faults new
  pub same : is_same old new
