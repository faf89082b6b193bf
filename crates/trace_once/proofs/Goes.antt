-- Every call goes on, at every host, and what was so of packets and of calls that are over is so still.
use Rattle.std.proofs.Common.{◌≡◌, ℕ, List, [], ◌∷◌, sym, subst}
use Rattle.std.specs.List.{AllByRecursion}
use Rattle.homa_plain.specs.declared.id.CallId.{CallId}
use Rattle.homa_plain.specs.declared.id.HostId.{HostId}
use Rattle.homa_plain.specs.declared.settings.Settings.{Settings}
use Rattle.homa_plain.specs.Packets.{acks}
use Rattle.homa_plain.specs.World.{SentPacket}
use Rattle.trace_steps.specs.Stands.{Stand}
use Rattle.trace_once.specs.Lifetime.{Times, times, IsOver, Lifetime, Later}
use Rattle.trace_once.specs.Kept.{PacketFits, call_of}
use Rattle.trace_once.proofs.Later.{fits_later, over_later, same_later, later_then}

-- from one moment to a later one
pub record Goes (s : Times) (n : HostId) (v u : Stand) : Type 0 where
  pub later : Later s v u
  pub kept : Lifetime s n u

abbrev pub AllGo : Settings → (CallId → HostId → Stand) → (CallId → HostId → Stand) → Type 0
AllGo s v u = (q : CallId) (n : HostId) → Goes (times s) n (v q n) (u q n)

-- nothing happened to the call
pub goes_still : (s : Times) (n : HostId) (v u : Stand) → Lifetime s n v → u ≡ v → Goes s n v u
goes_still s n v u k e = subst (Goes s n v) (sym e) (record { later = same_later s v; kept = k })

pub goes_then : (s : Times) (n : HostId) (v u x : Stand) → Goes s n v u → Goes s n u x → Goes s n v x
goes_then s n v u x a b = record { later = later_then s v u x a.later b.later; kept = b.kept }

module _ (s : Settings) (v u : CallId → HostId → Stand) (go : AllGo s v u) where
  pub calls_later : (n : HostId) (qs : List CallId) → AllByRecursion (λ q. IsOver n (v q n)) qs → AllByRecursion (λ q. IsOver n (u q n)) qs
  calls_later n [] all = tt
  calls_later n (q ∷ qs) all = (over_later (times s) n (v q n) (u q n) (go q n).later all.0, calls_later n qs all.1)

  pub lists_later : (client m : HostId) (cs : List (ℕ × ℕ)) → AllByRecursion (λ (c : ℕ × ℕ). IsOver m (v (call_of client c) m)) cs
      → AllByRecursion (λ (c : ℕ × ℕ). IsOver m (u (call_of client c) m)) cs
  lists_later client m [] all = tt
  lists_later client m (c ∷ cs) all =
      (over_later (times s) m (v (call_of client c) m) (u (call_of client c) m) (go (call_of client c) m).later all.0, lists_later client m cs all.1)

  pub packet_later : (p : SentPacket) → PacketFits s v p → PacketFits s u p
  packet_later p f = record {
    fits = fits_later (times s) p.packet.server (v p.packet.id p.packet.server) (u p.packet.id p.packet.server) p.tick p.packet.role p.packet.body
        p.packet.payload (go p.packet.id p.packet.server).later f.fits;
    acked = calls_later p.packet.server (acks p.packet) f.acked;
  }

  pub packets_later : (ps : List SentPacket) → AllByRecursion (PacketFits s v) ps → AllByRecursion (PacketFits s u) ps
  packets_later [] all = tt
  packets_later (p ∷ ps) all = (packet_later p all.0, packets_later ps all.1)
