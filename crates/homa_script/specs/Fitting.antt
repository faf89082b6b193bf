-- Events that the program can hold.
use Rattle.std.specs.Prelude.{◌<◌, ◌^◌}
use Rattle.homa_plain.specs.declared.event.Event.{Event}
use Rattle.homa_plain.specs.declared.event.Event.TheVariants.{Call, Deliver, Clock, Turn, Restart, Inject, Shift}

-- the numbers of an event fit their types
abbrev pub IsFitting : Event → Type 0
IsFitting (Call client server number) = (client.0 < 2 ^ 16) × (server.0 < 2 ^ 16) × (number < 2 ^ 8)
IsFitting (Deliver packet) = packet < 2 ^ 64
IsFitting Clock = Unit {0}
IsFitting (Turn host) = host.0 < 2 ^ 16
IsFitting (Restart host) = host.0 < 2 ^ 16
IsFitting (Inject host) = host.0 < 2 ^ 16
IsFitting (Shift host n) = (host.0 < 2 ^ 16) × (n < 2 ^ 32)
