-- What a host's step keeps of names: the host's, its packets' sender, and how its packets are numbered.
use Rattle.std.specs.Prelude.{◌≡◌, ℕ, ◌+◌}
use Rattle.std.specs.List.{AllByRecursion}
use Rattle.homa_plain.specs.declared.id.HostId.{HostId}
use Rattle.homa_plain.specs.Entries.{PlainEntry, PlainRestart, PlainSend}
use Rattle.homa_plain.specs.Packets.{Packet, sender}
use Rattle.homa_plain.specs.Host.{Told, Says, packets_in}
use Rattle.homa_plain.specs.Work.{Work}
use Rattle.step_moves.specs.Worlds.{HasOwnName}

-- what a step tells: no `send` line but by a packet, and no restart
abbrev pub IsOfStep : Told → Type 0
IsOfStep (Says (PlainSend number from to inc role id level what payload)) = ⊥
IsOfStep (Says (PlainRestart host inc)) = ⊥
IsOfStep told = Unit {0}

-- a step's host keeps its name, and its packets are sent by it
pub record IsOwnStep (id : HostId) (work : Work) : Type 0 where
  pub name : HasOwnName id work.host
  pub by : AllByRecursion (λ (p : Packet). sender p ≡ id) (packets_in work.told)
  pub said : AllByRecursion IsOfStep work.told

-- an entry whose packet has a number that is greater by n
abbrev pub numbered : ℕ → PlainEntry → PlainEntry
numbered n (PlainSend number from to inc role id level what payload) = PlainSend (n + number) from to inc role id level what payload
numbered n entry = entry
