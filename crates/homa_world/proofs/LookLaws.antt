-- What a world shows of its hosts and its packets.
use Rattle.std.proofs.Common.{Bool, true, false, ◌≡◌, ◌≢◌, ◌⊎◌, inl, inr, ◌^◌, ◌<◌, ◌≤◌, ◌==◌, ◌&&◌, ℕ, zero, suc, ◌+◌, Option, Some, None, List, []}
use Rattle.std.proofs.Common.{◌∷◌, length, take, refl, sym, ap, subst, ◌∙◌, arith}
use Rattle.std.proofs.lemmas.Bool.Decides.{nat_tests}
use Rattle.std.specs.Prelude.{slice_get, MatchOption}
use Rattle.std.proofs.lemmas.List.{length-map}
use Rattle.std.specs.List.{list_all}
use Rattle.plain_sets.specs.Maps.{len}
use Rattle.homa_plain.specs.declared.id.HostId.{HostId}
use Rattle.homa_plain.specs.declared.settings.Settings.{Settings}
use Rattle.homa_plain.specs.Host.{Host}
use Rattle.homa_plain.specs.Packets.{wire_packet, datagram}
use Rattle.homa_plain.specs.World.{World as PlainWorld, SentPacket}
use Rattle.homa_plain.proofs.WireLengths.{spelling_fits, longest_fits}
use Rattle.world_packets.specs.Kept.{WholePacket, LatePacket, StalePacket}
use Rattle.world_packets.specs.All.{kept_all}
use Rattle.world_packets.specs.Blocks.{Frame}
use Rattle.homa_world.specs.declared.parts.WorldParts.{WorldParts}
use Rattle.homa_world.specs.declared.shown.Passing.{Passing}
use Rattle.homa_world.specs.Passing.{IsOf}
use Rattle.homa_world.specs.Packed.{IsShownBy}
use Rattle.host_view.specs.Seen.{Seen}
use Rattle.host_table.specs.Staged.{Known, hosts_of, known, known_of}
use Rattle.host_table.proofs.StageLaws.{map_at}
use Rattle.homa_world.specs.Standing.{StandsFor, IsKept}
use Rattle.homa_world.proofs.EventLaws.{host_there}
use Rattle.homa_world.proofs.PackedLaws.{seen_as, shown_length}

-- ---- packets

-- no datagram is longer than a datagram may be
pub whole_fits : (s : Settings) (now tick : ℕ) (sent : SentPacket) (f : Frame) → IsShownBy s now sent (WholePacket tick f) → length f.bytes ≤ 1444
whole_fits s now tick sent f shown =
    omega (
      arith,
      ap length (ap (λ (x : Frame). x.bytes) shown.1),
      spelling_fits s.wire (wire_packet sent.packet) sent.packet.payload shown.2,
      longest_fits s.wire,
    )

level_at : (s : Settings) (sent : SentPacket) (bytes : List ℕ) (n : ℕ) → bytes ≡ datagram s sent.packet → slice_get bytes 3 ≡ Some n → n ≡ sent.packet.level
level_at s sent bytes n are at = some_is n sent.packet.level (sym at ∙ ap (λ (b : List ℕ). slice_get b 3) are) where
  some_is : (x y : ℕ) → Some x ≡ Some y → x ≡ y
  some_is x y e = cc

module _ {S : Type 0} (w : WorldParts S) (n : ℕ) (p : PlainWorld) (stands : StandsFor w p) where
  -- a packet that is kept whole
  pub whole_passing : (tick : ℕ) (f : Frame) (q : Passing) → slice_get (kept_all w.packets) n ≡ Some (WholePacket tick f) → q.to ≡ f.to
      → slice_get f.bytes 3 ≡ Some q.level → q.len ≡ length f.bytes → q.tick ≡ tick → IsOf w.settings p n (Some q)
  whole_passing tick f q kept to level size when =
      let r = seen_as w.settings w.clock p.packets (kept_all w.packets) n (WholePacket tick f) stands.packets kept in
      let bytes : f.bytes ≡ datagram w.settings r.sent.packet = ap (λ (x : Frame). x.bytes) r.shown.1 in (
        r.sent,
        r.found,
        record {
          to = to ∙ ap (λ (x : Frame). x.to) r.shown.1;
          level = level_at w.settings r.sent f.bytes q.level bytes level;
          len = size ∙ ap length bytes;
          tick = when ∙ r.shown.0;
        },
      )

  -- it is no shorter than a header, and no longer than a datagram
  pub whole_is_packet : (tick : ℕ) (f : Frame) → slice_get (kept_all w.packets) n ≡ Some (WholePacket tick f)
      → (slice_get f.bytes 3 ≡ None) ⊎ (2 ^ 32 ≤ length f.bytes) → ⊥
  whole_is_packet tick f kept either =
      let r = seen_as w.settings w.clock p.packets (kept_all w.packets) n (WholePacket tick f) stands.packets kept in
      neither r.sent (ap (λ (x : Frame). x.bytes) r.shown.1) (whole_fits w.settings w.clock tick r.sent f r.shown) either where
        neither : (s : SentPacket) → f.bytes ≡ datagram w.settings s.packet → length f.bytes ≤ 1444
            → (slice_get f.bytes 3 ≡ None) ⊎ (2 ^ 32 ≤ length f.bytes) → ⊥
        neither s are short (inl none) = no (sym none ∙ ap (λ (b : List ℕ). slice_get b 3) are) where
          no : {x : ℕ} → None ≡ Some x → ⊥
          no e = cc
        neither s are short (inr long) = omega (arith, short, long)

  -- what is read of a packet that is kept whole is shown of it
  pub shown_whole : (tick : ℕ) (f : Frame) (o : Option Passing) → slice_get (kept_all w.packets) n ≡ Some (WholePacket tick f)
      → MatchOption o ((slice_get f.bytes 3 ≡ None) ⊎ (2 ^ 32 ≤ length f.bytes))
      (λ q. (q.to ≡ f.to) × (slice_get f.bytes 3 ≡ Some q.level) × (q.len ≡ length f.bytes) × (q.tick ≡ tick)) → IsOf w.settings p n o
  shown_whole tick f None kept either = absurd (whole_is_packet tick f kept either)
  shown_whole tick f (Some q) kept read = whole_passing tick f q kept read.0 read.1 read.2 read.3

  -- one that is late for good was sent at an earlier tick
  pub late_passing : (tick : ℕ) → slice_get (kept_all w.packets) n ≡ Some (LatePacket tick) → IsOf w.settings p n None
  late_passing tick kept sent found version =
      let r = seen_as w.settings w.clock p.packets (kept_all w.packets) n (LatePacket tick) stands.packets kept in
      omega (arith, r.shown.1, r.shown.2, ap (λ (x : SentPacket). x.tick) (same sent r.sent (sym found ∙ r.found)), stands.clock) where
        same : (x y : SentPacket) → Some x ≡ Some y → x ≡ y
        same x y e = cc

  -- one that is stale was sent with version 2
  pub stale_passing : (to : HostId) (at : ℕ) → slice_get (kept_all w.packets) n ≡ Some (StalePacket to at) → IsOf w.settings p n None
  stale_passing to at kept sent found version =
      let r = seen_as w.settings w.clock p.packets (kept_all w.packets) n (StalePacket to at) stands.packets kept in
      absurd (omega (arith, r.shown.0, version))

  -- one that wasn't sent
  pub no_passing : length (kept_all w.packets) ≤ n → IsOf w.settings p n None
  no_passing past sent found version =
      absurd (beyond p.packets n (omega (arith, past, shown_length w.settings w.clock p.packets (kept_all w.packets) stands.packets)) found) where
        beyond : (xs : List SentPacket) (k : ℕ) → length xs ≤ k → slice_get xs k ≡ Some sent → ⊥
        beyond [] k l e = cc
        beyond (x ∷ xs) zero l e = omega (arith, l)
        beyond (x ∷ xs) (suc k) l e = beyond xs k (omega (arith, l)) e

-- something is kept of each packet
pub packets_count : {S : Type 0} (old w : WorldParts S) → w ≡ old → (n : ℕ) → n ≡ length (kept_all w.packets) → (p : PlainWorld) → StandsFor old p
    → n ≡ length p.packets
packets_count old w view n count p stands =
    count ∙ ap (λ (x : WorldParts _). length (kept_all x.packets)) view
    ∙ sym (shown_length old.settings old.clock p.packets (kept_all old.packets) stands.packets)

-- ---- hosts

module _ {S : Type 0} (served : S → ℕ) (old w : WorldParts S) (view : w ≡ old) (kept : IsKept served w) (id : HostId) (h : Seen)
    (at : slice_get (hosts_of w.stage) id.0 ≡ Some h) where
  -- a host has the world's settings
  pub host_settings : h.settings ≡ old.settings
  host_settings = (kept.each id (known h) (map_at known (hosts_of w.stage) id.0 h at)).settings ∙ ap (λ (x : WorldParts S). x.settings) view

  -- it is the plain world's
  pub host_stands : (p : PlainWorld) → StandsFor old p → slice_get p.hosts id.0 ≡ Some h.host
  host_stands p stands = host_there w id h p (subst (λ (x : WorldParts S). StandsFor x p) (sym view) stands) at

-- there are as many as the settings say
pub hosts_count : {S : Type 0} (served : S → ℕ) (w : WorldParts S) (p : PlainWorld) → IsKept served w → StandsFor w p → length p.hosts ≡ w.settings.hosts
hosts_count served w p kept stands = ap length stands.hosts ∙ length-map (known_of w.stage) (λ (k : Known). k.host) ∙ kept.hosts

-- ---- live calls

abbrev pub is_free : Host → Bool
is_free h = len h.clients == 0

-- how many calls of a host are live, where there is one
abbrev pub IsLive : Option Host → ℕ → Type 0
IsLive o n = MatchOption o (n ≡ 0) (λ h. n ≡ len h.clients)

and_next : (a b c : Bool) → a && b ≡ true → (b ≡ true → c ≡ true) → a && c ≡ true
and_next true b c e f = f e
and_next false b c e f = e

-- the hosts up to one are free, and so is this
free_next : (hs : List Host) (i n : ℕ) → i < length hs → IsLive (slice_get hs i) n → n ≡ 0 → list_all is_free (take i hs) ≡ true
    → list_all is_free (take (suc i) hs) ≡ true
free_next [] i n l live none before = absurd (omega (arith, l))
free_next (h ∷ hs) zero n l live none before = rw (sym live ∙ none) refl
free_next (h ∷ hs) (suc i) n l live none before =
    and_next (is_free h) (list_all is_free (take i hs)) (list_all is_free (take (suc i) hs)) before (λ rest. free_next hs i n (omega (arith, l)) live none rest)

pub one_free : (hs : List Host) (i n : ℕ) → i < length hs → IsLive (slice_get hs i) n → n ≡ 0 → list_all is_free (take i hs) ≡ true
    → list_all is_free (take (i + 1) hs) ≡ true
one_free hs i n l live none before =
    let next : suc i ≡ i + 1 = omega arith in
    ap (λ (k : ℕ). list_all is_free (take k hs)) (sym next) ∙ free_next hs i n l live none before

and_false : (a b : Bool) → b ≡ false → a && b ≡ false
and_false true b e = e
and_false false b e = refl

-- one isn't free
pub one_busy : (hs : List Host) (i n : ℕ) → i < length hs → IsLive (slice_get hs i) n → n ≢ 0 → list_all is_free hs ≡ false
one_busy [] i n l live some = absurd (omega (arith, l))
one_busy (h ∷ hs) zero n l live some = (let busy : (len h.clients == 0) ≡ false = grind (arith, nat_tests, live, some) in rw busy refl)
one_busy (h ∷ hs) (suc i) n l live some = and_false (is_free h) (list_all is_free hs) (one_busy hs i n (omega (arith, l)) live some)
