-- What messages take on the wire.
use Rattle.std.specs.Prelude.{ℕ, zero, suc, ◌+◌, ◌*◌, ◌==◌, if◌then◌else◌}
use Rattle.std.specs.Int.{div_ceil}
use Rattle.homa_plain.specs.declared.settings.Settings.{Settings}
use Rattle.experiment.specs.declared.framing.Framing.{Framing}

-- how messages are cut: the most bytes of a piece, and the bytes of a piece's frame beside them
pub record Cut : Type 0 where
  pub piece : ℕ
  pub frame : ℕ

abbrev pub cut_of : Framing → Cut
cut_of f = record { piece = f.piece; frame = f.frame }

-- how many bytes a DATA datagram has beside its payload
abbrev pub data_header : Settings → ℕ
data_header s = if s.wire == 1 then 36 else 44

-- how the messages of these settings are cut, where a datagram has so many bytes on the wire beside its own
abbrev pub cut_for : Settings → ℕ → Cut
cut_for s overhead = record { piece = s.seg; frame = data_header s + overhead }

-- the bytes that a message has on the wire: its own, and a frame's for each piece
abbrev pub wire : Cut → ℕ → ℕ
wire cut n = n + div_ceil n cut.piece * cut.frame

-- the bytes that messages of each length from 1 to n have on the wire together
unfoldable pub wire_up_to : Cut → ℕ → ℕ
wire_up_to cut zero = 0
wire_up_to cut (suc n) = wire_up_to cut n + wire cut (suc n)
