-- What is kept of packets, as time goes on and more are sent.
use Rattle.std.proofs.Common.{◌≡◌, ◌≢◌, ◌<◌, ◌≤◌, ℕ, zero, suc, Some, None, List, [], ◌∷◌, ◌++◌, length, refl, sym, ap, subst, ◌∙◌, arith}
use Rattle.std.specs.Prelude.{map, slice_get}
use Rattle.std.specs.List.{AllByRecursion}
use Rattle.homa_plain.specs.declared.id.HostId.{HostId}
use Rattle.homa_plain.specs.declared.packet.Packet.{Packet as WirePacket}
use Rattle.homa_plain.specs.declared.settings.Settings.{Settings}
use Rattle.homa_plain.specs.Wire.{packet_in}
use Rattle.homa_plain.specs.Packets.{Packet, sender, receiver, datagram, wire_packet}
use Rattle.homa_plain.specs.World.{SentPacket, stamped}
use Rattle.host_view.specs.Frames.{frames_of, IsFormed}
use Rattle.world_packets.specs.Kept.{KeptPacket, WholePacket, LatePacket, StalePacket, IsAged, AllAged}
use Rattle.homa_world.specs.Packed.{IsShownBy, AreShownBy, IsFromHost, frame_kept}

some_is : {A : Type 0} (x y : A) → Some x ≡ Some y → x ≡ y
some_is x y e = cc

module _ (s : Settings) where
  later_by : (now later : ℕ) → now ≤ later → (p : SentPacket) (k : KeptPacket) → IsShownBy s now p k → IsShownBy s later p k
  later_by now later l p (WholePacket tick f) b = b
  later_by now later l p (LatePacket tick) b = (b.0, b.1, omega (arith, b.2, l))
  later_by now later l p (StalePacket to at) b = (b.0, b.1, b.2, omega (arith, b.3, l))

  pub shown_later : (now later : ℕ) → now ≤ later → (ps : List SentPacket) (ks : List KeptPacket) → AreShownBy s now ps ks → AreShownBy s later ps ks
  shown_later now later l [] [] all = tt
  shown_later now later l [] (k ∷ ks) all = absurd all
  shown_later now later l (p ∷ ps) [] all = absurd all
  shown_later now later l (p ∷ ps) (k ∷ ks) all = (later_by now later l p k all.0, shown_later now later l ps ks all.1)

  -- the clock that a datagram tells is its packet's
  told_clock : (p : Packet) (wire : ℕ) (bytes : List ℕ) (read : WirePacket × List ℕ) → s.wire ≡ wire → bytes ≡ datagram s p
      → packet_in s.wire (datagram s p) ≡ Some (wire_packet p, p.payload) → packet_in wire bytes ≡ Some read → read.0.at ≡ p.at
  told_clock p wire bytes read w b back e =
      let same : (wire_packet p, p.payload) ≡ read =
      some_is (wire_packet p, p.payload) read (sym back ∙ ap (λ n. packet_in n (datagram s p)) w ∙ ap (packet_in wire) (sym b) ∙ e) in
      ap (λ (r : WirePacket × List ℕ). r.0.at) (sym same)

  module _ (back : (p : Packet) → IsFormed s p → packet_in s.wire (datagram s p) ≡ Some (wire_packet p, p.payload)) where
    aged_by : (now : ℕ) (p : SentPacket) (k j : KeptPacket) → IsAged s now k j → IsShownBy s now p k → IsShownBy s now p j
    aged_by now p (WholePacket tick f) (WholePacket later g) a b = (a.0 ∙ b.0, a.1 ∙ b.1, b.2)
    aged_by now p (WholePacket tick f) (LatePacket later) a b = (a.0, a.1 ∙ b.0, omega (arith, a.2, a.1))
    aged_by now p (WholePacket tick f) (StalePacket to at) a b =
        (a.0, a.1 ∙ ap (λ g. g.to) b.1, sym a.2.2 ∙ told_clock p.packet 2 f.bytes a.2.0 a.0 (ap (λ g. g.bytes) b.1) (back p.packet b.2) a.2.1, a.3)
    aged_by now p (LatePacket tick) (LatePacket later) a b = (b.0, a ∙ b.1, omega (arith, a, b.2))
    aged_by now p (StalePacket to at) (StalePacket other later) a b = (b.0, a.0 ∙ b.1, a.1 ∙ b.2, omega (arith, a.1, b.3))
    aged_by now p (LatePacket tick) (WholePacket later g) a b = absurd a
    aged_by now p (LatePacket tick) (StalePacket to at) a b = absurd a
    aged_by now p (StalePacket to at) (WholePacket later g) a b = absurd a
    aged_by now p (StalePacket to at) (LatePacket later) a b = absurd a

    pub shown_aged : (now : ℕ) (ps : List SentPacket) (ks js : List KeptPacket) → AllAged s now ks js → AreShownBy s now ps ks → AreShownBy s now ps js
    shown_aged now [] [] [] a all = tt
    shown_aged now [] [] (j ∷ js) a all = absurd a
    shown_aged now [] (k ∷ ks) js a all = absurd all
    shown_aged now (p ∷ ps) [] js a all = absurd all
    shown_aged now (p ∷ ps) (k ∷ ks) [] a all = absurd a
    shown_aged now (p ∷ ps) (k ∷ ks) (j ∷ js) a all = (aged_by now p k j a.0 all.0, shown_aged now ps ks js a.1 all.1)

  pub shown_more : (now : ℕ) (ps qs : List SentPacket) (ks js : List KeptPacket) → AreShownBy s now ps ks → AreShownBy s now qs js
      → AreShownBy s now (ps ++ qs) (ks ++ js)
  shown_more now [] qs [] js a b = b
  shown_more now [] qs (k ∷ ks) js a b = absurd a
  shown_more now (p ∷ ps) qs [] js a b = absurd a
  shown_more now (p ∷ ps) qs (k ∷ ks) js a b = (a.0, shown_more now ps qs ks js a.1 b)

  -- packets that are sent now
  pub shown_sent : (now tick : ℕ) (ps : List Packet) → AllByRecursion (IsFormed s) ps
      → AreShownBy s now (stamped tick ps) (map (frame_kept tick) (frames_of s ps))
  shown_sent now tick [] all = tt
  shown_sent now tick (p ∷ ps) all = ((refl, refl, all.0), shown_sent now tick ps all.1)

pub shown_length : (s : Settings) (now : ℕ) (ps : List SentPacket) (ks : List KeptPacket) → AreShownBy s now ps ks → length ps ≡ length ks
shown_length s now [] [] all = refl
shown_length s now [] (k ∷ ks) all = absurd all
shown_length s now (p ∷ ps) [] all = absurd all
shown_length s now (p ∷ ps) (k ∷ ks) all = ap suc (shown_length s now ps ks all.1)

-- the packet of which something is kept
pub record IsSeenAs (s : Settings) (now : ℕ) (ps : List SentPacket) (n : ℕ) (k : KeptPacket) : Type 0 where
  pub sent : SentPacket
  pub found : slice_get ps n ≡ Some sent
  pub shown : IsShownBy s now sent k

pub seen_as : (s : Settings) (now : ℕ) (ps : List SentPacket) (ks : List KeptPacket) (n : ℕ) (k : KeptPacket) → AreShownBy s now ps ks
    → slice_get ks n ≡ Some k → IsSeenAs s now ps n k
seen_as s now [] [] n k all e = absurd (none_some e) where
  none_some : {A : Type 0} {x : A} → None ≡ Some x → ⊥
  none_some e = cc
seen_as s now [] (j ∷ ks) n k all e = absurd all
seen_as s now (p ∷ ps) [] n k all e = absurd all
seen_as s now (p ∷ ps) (j ∷ ks) zero k all e = record { sent = p; found = refl; shown = subst (IsShownBy s now p) (some_is j k e) all.0 }
seen_as s now (p ∷ ps) (j ∷ ks) (suc n) k all e = let r = seen_as s now ps ks n k all.1 e in record { sent = r.sent; found = r.found; shown = r.shown }

-- ---- the hosts that datagrams come from

froms_by : (s : Settings) (hosts now : ℕ) → now ≤ 1000000000000 → (k j : KeptPacket) → IsAged s now k j → IsFromHost hosts k → IsFromHost hosts j
froms_by s hosts now most (WholePacket tick f) (WholePacket later g) a b =
    (subst (λ (x : HostId). x.0 < hosts) (sym (ap (λ h. h.from) a.1)) b.0, λ e. b.1 (sym (ap (λ h. h.from) a.1) ∙ e ∙ ap (λ h. h.to) a.1))
froms_by s hosts now most (WholePacket tick f) (LatePacket later) a b = tt
froms_by s hosts now most (WholePacket tick f) (StalePacket to at) a b = omega (arith, a.3, most)
froms_by s hosts now most (LatePacket tick) (LatePacket later) a b = tt
froms_by s hosts now most (LatePacket tick) (WholePacket later g) a b = absurd a
froms_by s hosts now most (LatePacket tick) (StalePacket to at) a b = absurd a
froms_by s hosts now most (StalePacket to at) (StalePacket other later) a b = omega (arith, a.1, b)
froms_by s hosts now most (StalePacket to at) (WholePacket later g) a b = absurd a
froms_by s hosts now most (StalePacket to at) (LatePacket later) a b = absurd a

pub froms_aged : (s : Settings) (hosts now : ℕ) → now ≤ 1000000000000 → (ks js : List KeptPacket) → AllAged s now ks js
    → AllByRecursion (IsFromHost hosts) ks → AllByRecursion (IsFromHost hosts) js
froms_aged s hosts now most [] [] a all = tt
froms_aged s hosts now most [] (j ∷ js) a all = absurd a
froms_aged s hosts now most (k ∷ ks) [] a all = absurd a
froms_aged s hosts now most (k ∷ ks) (j ∷ js) a all = (froms_by s hosts now most k j a.0 all.0, froms_aged s hosts now most ks js a.1 all.1)

pub aged_length : (s : Settings) (now : ℕ) (ks js : List KeptPacket) → AllAged s now ks js → length js ≡ length ks
aged_length s now [] [] a = refl
aged_length s now [] (j ∷ js) a = absurd a
aged_length s now (k ∷ ks) [] a = absurd a
aged_length s now (k ∷ ks) (j ∷ js) a = ap suc (aged_length s now ks js a.1)

pub froms_sent : (s : Settings) (hosts tick : ℕ) (ps : List Packet)
    → AllByRecursion (λ (p : Packet). ((sender p).0 < hosts) × (sender p ≢ receiver p)) ps
    → AllByRecursion (IsFromHost hosts) (map (frame_kept tick) (frames_of s ps))
froms_sent s hosts tick [] all = tt
froms_sent s hosts tick (p ∷ ps) all = (all.0, froms_sent s hosts tick ps all.1)
