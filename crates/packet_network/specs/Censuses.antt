-- What becomes of packets, in numbers.
use Rattle.std.specs.Prelude.{◌≡◌, ℕ, ◌+◌}
use Rattle.packet_network.specs.declared.fates.Fates.{Fates}

-- Each packet that was sent, and each that came twice, has its fate or is under way.
abbrev pub IsConserved : Fates → (under_way : ℕ) → Type 0
IsConserved f under_way = f.sent + f.repeated ≡ f.delivered + (f.lost + (f.full + (f.old + under_way)))

-- one packet more was sent
abbrev pub one_sent : Fates → Fates
one_sent f = record f { sent = f.sent + 1 }

-- one packet more came twice
abbrev pub one_repeated : Fates → Fates
one_repeated f = record f { repeated = f.repeated + 1 }

-- one packet more is lost
abbrev pub one_lost : Fates → Fates
one_lost f = record f { lost = f.lost + 1 }

-- one packet more had no room
abbrev pub one_refused : Fates → Fates
one_refused f = record f { full = f.full + 1 }

-- one packet more is at its host
abbrev pub one_delivered : Fates → Fates
one_delivered f = record f { delivered = f.delivered + 1 }

-- no packet was sent
abbrev pub no_fates : Fates
no_fates = record { sent = 0; repeated = 0; delivered = 0; lost = 0; full = 0; old = 0 }

-- no packet was sent, and none came to its host
pub record IsStill (before after : Fates) : Type 0 where
  pub sent : after.sent ≡ before.sent
  pub delivered : after.delivered ≡ before.delivered
  pub old : after.old ≡ before.old
