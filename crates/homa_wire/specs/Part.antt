-- A part of a datagram.
use Rattle.std.specs.Prelude.{ℕ, List, slice_range}
use Rattle.homa_wire.specs.declared.reading.Span.{Span}

-- the bytes of a datagram that a span names
abbrev pub part : List ℕ → Span → List ℕ
part bytes span = slice_range bytes span.from span.to
