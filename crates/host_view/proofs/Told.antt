-- The marks of what was told, with its frames, are its entries.
use Rattle.std.proofs.Common.{◌≡◌, ℕ, suc, ◌+◌, Bool, true, false, IsSome, Option, Some, None, List, [], ◌∷◌, ◌++◌, length, map, refl, sym, ap, subst}
use Rattle.std.proofs.Common.{◌∙◌, append_assoc, inl, inr, arith}
use Rattle.std.specs.Prelude.{slice_get}
use Rattle.std.specs.List.{Contains, AllByRecursion}
use Rattle.std.specs.Option.{option_and_then}
use Rattle.std.proofs.lemmas.List.{length-append}
use Rattle.plain_sets.proofs.OrderSame.{none_in, at_head}
use Rattle.homa_plain.specs.declared.id.CallId.{CallId}
use Rattle.homa_plain.specs.declared.id.HostId.{HostId}
use Rattle.homa_plain.specs.declared.packet.Role.{Role}
use Rattle.homa_plain.specs.declared.packet.Role.TheVariants.{Client, Server}
use Rattle.homa_plain.specs.declared.packet.Body.{Body}
use Rattle.homa_plain.specs.declared.packet.Packet.{Packet as WirePacket}
use Rattle.homa_plain.specs.declared.settings.Settings.{Settings}
use Rattle.homa_plain.specs.Wire.{packet_in}
use Rattle.homa_plain.specs.Entries.{PlainEntry, PlainSettings, PlainCall, PlainDeliver, PlainClock, PlainRestart, PlainInject, PlainShift, PlainJunk}
use Rattle.homa_plain.specs.Entries.{PlainStale, PlainSend, PlainRun, PlainDone, PlainFail, PlainDrop, PlainGaps, PlainBury, PlainFree, PlainFullRows}
use Rattle.homa_plain.specs.Entries.{PlainFullPages, PlainBalance, PlainRecv, PlainFinished, PlainRefused, PlainStalled}
use Rattle.homa_plain.specs.Packets.{Packet, sender, receiver, wire_packet, datagram, packet_between, send_line}
use Rattle.homa_plain.specs.Host.{Told, Says, Sends, packets_in, entries_from}
use Rattle.homa_plain.proofs.WireLaws.{one_spelling}
use Rattle.homa_plain.proofs.WireLengths.{spelling_is_bytes}
use Rattle.host_view.specs.declared.mark.Mark.{Mark}
use Rattle.host_view.specs.declared.mark.Mark.TheVariants.{Sent}
use Rattle.host_view.specs.declared.outbox.SentFrame.{SentFrame}
use Rattle.host_view.specs.Frames.{frame_of, frames_of, IsFormed, packet_of, read_line, line_of, frame_line}
use Rattle.host_view.specs.Seen.{Seen}
use Rattle.host_view.specs.Marks.{shown, mark_of, marks_from, IsShown, shown_entries}
use Rattle.host_view.specs.Done.{HoldsSent}

-- the mark of an entry is none of a packet
no_packet : (e : PlainEntry) (n : ℕ) → mark_of e ≡ Sent n → ⊥
no_packet (PlainSettings settings) k f = cc
no_packet (PlainCall id server service bytes) k f = cc
no_packet (PlainDeliver packet) k f = cc
no_packet (PlainClock tick) k f = cc
no_packet (PlainRestart host inc) k f = cc
no_packet (PlainInject host bytes) k f = cc
no_packet (PlainShift host n) k f = cc
no_packet (PlainJunk host) k f = cc
no_packet (PlainStale host at now) k f = cc
no_packet (PlainSend number from to inc role id level body payload) k f = cc
no_packet (PlainRun host id service request response hold) k f = cc
no_packet (PlainDone id bytes) k f = cc
no_packet (PlainFail id why) k f = cc
no_packet (PlainDrop host id) k f = cc
no_packet (PlainGaps host id) k f = cc
no_packet (PlainBury host id until) k f = cc
no_packet (PlainFree host id) k f = cc
no_packet (PlainFullRows host id rows limit) k f = cc
no_packet (PlainFullPages host id need free) k f = cc
no_packet (PlainBalance host cutoffs) k f = cc
no_packet (PlainRecv host from bytes) k f = cc
no_packet (PlainFinished n) k f = cc
no_packet (PlainRefused line fault) k f = cc
no_packet (PlainStalled turns now) k f = cc

-- the place behind some
at_end : {X : Type 0} (xs : List X) (x : X) (ys : List X) → slice_get (xs ++ x ∷ ys) (length xs) ≡ Some x
at_end [] x ys = refl
at_end (z ∷ xs) x ys = at_end xs x ys

-- a packet between its sender and its receiver is itself
between_itself : (role : Role) (id : CallId) (server : HostId) (inc at level : ℕ) (what : Body) (payload : List ℕ)
    → let p : Packet = record { role = role; id = id; server = server; inc = inc; at = at; level = level; body = what; payload = payload } in
    packet_between (sender p) (receiver p) (wire_packet p) payload ≡ p
between_itself Client id server inc at level what payload = refl
between_itself Server id server inc at level what payload = refl

module _ (s : Settings) where
  -- a formed packet is read back
  read_back : (p : Packet) → IsFormed s p → packet_in s.wire (datagram s p) ≡ Some (wire_packet p, p.payload)
  read_back p formed =
      (one_spelling s.wire (datagram s p) (wire_packet p) p.payload (spelling_is_bytes s.wire (wire_packet p) p.payload formed)).1 (formed, refl)

  -- the frame with a number
  frame_at : (frames pre : List SentFrame) (p : Packet) (rest : List SentFrame) (n : ℕ) → frames ≡ pre ++ frame_of s p ∷ rest → length pre ≡ n
      → slice_get frames n ≡ Some (frame_of s p)
  frame_at frames pre p rest n e long = ap (λ k. slice_get frames k) (sym long) ∙ ap (λ fs. slice_get fs (length pre)) e ∙ at_end pre (frame_of s p) rest

  -- the rest of the frames
  frames_on : (frames pre : List SentFrame) (f : SentFrame) (rest : List SentFrame) → frames ≡ pre ++ f ∷ rest → frames ≡ (pre ++ f ∷ []) ++ rest
  frames_on frames pre f rest e = e ∙ sym (append_assoc pre (f ∷ []) rest)

  long_on : (pre : List SentFrame) (f : SentFrame) (n : ℕ) → length pre ≡ n → length (pre ++ f ∷ []) ≡ suc n
  long_on pre f n long = length-append pre (f ∷ []) ∙ ap (λ k. k + 1) long ∙ omega arith

module _ (h : Seen) (whole : List ℕ) (frames : List SentFrame) where
  pub entries-told : (pre : List SentFrame) (n : ℕ) (told : List Told) → frames ≡ pre ++ frames_of h.settings (packets_in told) → length pre ≡ n
      → AllByRecursion (IsFormed h.settings) (packets_in told) → AllByRecursion (IsShown h whole) told
      → map (shown h frames whole) (marks_from n told) ≡ entries_from n told
  entries-told pre n [] e long formed is = refl
  entries-told pre n (Says entry ∷ told) e long formed is =
      ap (λ x. x ∷ map (shown h frames whole) (marks_from n told)) (is.0 frames) ∙ ap (λ xs. entry ∷ xs) (entries-told pre n told e long formed is.1)
  entries-told pre n (Sends p ∷ told) e long formed is =
      let f = frame_of h.settings p in
      ap (λ x. x ∷ map (shown h frames whole) (marks_from (suc n) told)) (
      ap (line_of h.settings n) (frame_at h.settings frames pre p (frames_of h.settings (packets_in told)) n e long)
      ∙ ap (read_line n f) (read_back h.settings p formed.0)
      ∙ ap (λ q. send_line n q) (between_itself p.role p.id p.server p.inc p.at p.level p.body p.payload))
      ∙ ap (λ xs. send_line n p ∷ xs)
      (entries-told (pre ++ f ∷ []) (suc n) told (frames_on h.settings frames pre f (frames_of h.settings (packets_in told)) e)
      (long_on h.settings pre f n long) formed.1 is.1)

  pub sent-told : (pre : List SentFrame) (k : ℕ) (told : List Told) → frames ≡ pre ++ frames_of h.settings (packets_in told) → length pre ≡ k
      → AllByRecursion (IsFormed h.settings) (packets_in told) → (n : ℕ) → Contains (marks_from k told) (Sent n)
      → IsSome (option_and_then (packet_of h.settings) (slice_get frames n))
  sent-told pre k [] e long formed n c = absurd (none_in (Sent n) c)
  sent-told pre k (Says entry ∷ told) e long formed n c = elim (at_head (mark_of entry) (Sent n) (marks_from k told) c) [
    | inl same ↦ absurd (no_packet entry n same)
    | inr later ↦ sent-told pre k told e long formed n later
  ]
  sent-told pre k (Sends p ∷ told) e long formed n c = elim (at_head (Sent k) (Sent n) (marks_from (suc k) told) c) [
    | inl same ↦ subst (λ (o : Option (WirePacket × List ℕ)). IsSome o) (sym (
        ap (option_and_then (packet_of h.settings))
        (ap (λ j. slice_get frames j) (sym (number same)) ∙ frame_at h.settings frames pre p (frames_of h.settings (packets_in told)) k e long)
        ∙ read_back h.settings p formed.0)) some
    | inr later ↦ sent-told (pre ++ frame_of h.settings p ∷ []) (suc k) told
        (frames_on h.settings frames pre (frame_of h.settings p) (frames_of h.settings (packets_in told)) e)
        (long_on h.settings pre (frame_of h.settings p) k long) formed.1 n later
  ] where
    number : Sent k ≡ Sent n → k ≡ n
    number same = cc

    some : IsSome {T = WirePacket × List ℕ} (Some (wire_packet p, p.payload))
    some = refl

-- the marks of what was told are its entries
pub shown-told : (h : Seen) (whole : List ℕ) (frames : List SentFrame) (told : List Told) → h.marks ≡ marks_from 0 told
    → frames ≡ frames_of h.settings (packets_in told)
    → AllByRecursion (IsFormed h.settings) (packets_in told) → AllByRecursion (IsShown h whole) told
    → (shown_entries h frames whole ≡ entries_from 0 told) × HoldsSent h frames
shown-told h whole frames told marks is formed shows = (
  ap (map (shown h frames whole)) marks ∙ entries-told h whole frames [] 0 told is refl formed shows,
  λ n c. sent-told h whole frames [] 0 told is refl formed n (subst (λ ms. Contains ms (Sent n)) marks c),
)
