-- What a recorder keeps of a step's reports, and what it finds in it.
use Rattle.std.proofs.Common.{◌≡◌, ◌⊎◌, inl, inr, ℕ, suc, zero, ◌+◌, ◌≤◌, Bool, true, false, Option, None, Some, List, [], ◌∷◌, ◌++◌, length, map, filter}
use Rattle.std.proofs.Common.{max, refl, sym, ap, ◌∙◌, subst, append_assoc, arith}
use Rattle.std.specs.Prelude.{is_some, if◌then◌else◌, slice_get, ◌==◌, ◌&&◌, nat_le}
use Rattle.std.specs.Str.{bytes_eq}
use Rattle.std.specs.List.{AllByRecursion}
use Rattle.std.proofs.lemmas.List.{append-nil}
use Rattle.std.proofs.lemmas.Bool.{leb-true, leb-false, true≢false}
use Rattle.std.proofs.lemmas.Slice.Eq.{bytes_eq-Decides}
use Rattle.homa_plain.specs.declared.id.HostId.{HostId}
use Rattle.homa_plain.specs.declared.packet.Packet.{Packet as WirePacket}
use Rattle.homa_plain.specs.declared.settings.Settings.{Settings}
use Rattle.homa_plain.specs.Calls.{is_host}
use Rattle.homa_plain.specs.Wire.{packet_in, spelling}
use Rattle.homa_plain.specs.Entries.{PlainEntry, PlainSettings, PlainClock, PlainCall, PlainSend, PlainRecv}
use Rattle.homa_plain.specs.Packets.{Packet, sender, receiver, wire_packet, datagram, send_line}
use Rattle.homa_plain.specs.Host.{Told, Says, Sends, packets_in, entries_from}
use Rattle.homa_plain.specs.World.{SentPacket, stamped}
use Rattle.homa_plain.specs.Replay.{Happening}
use Rattle.homa_plain.proofs.CallOrder.{hosts_are}
use Rattle.step_laws.proofs.Places.{all-append}
use Rattle.step_moves.proofs.Inner.{AllInner, IsSaid}
use Rattle.node_runs.specs.Course.{Report, Tells}
use Rattle.node_runs.specs.Recorder.{Kept, Notes, Kind, Sent, Junk, Strange, is_same, greatest, kind_by, kind_of, kind_in, strange, events, in_life, still}
use Rattle.node_runs.specs.Recorder.{sent_packet, keeps, told, kept}
use Rattle.node_runs.specs.Observed.{observed}
use Rattle.node_runs.specs.Replayed.{recorded_events, NoneStrange}
use Rattle.node_runs.proofs.Observing.{notes_behind, usual-first, usual-append as usual-parts}
use Rattle.node_laws.proofs.OfNode.{IsOfNode}

-- ---- reports one after the other

-- what is kept after some reports
abbrev pub kept_all : Notes → List Report → Notes
kept_all n rs = notes_behind kept n rs

pub kept-append : (n : Notes) (a b : List Report) → kept_all n (a ++ b) ≡ kept_all (kept_all n a) b
kept-append n [] b = refl
kept-append n (r ∷ a) b = kept-append (kept n r) a b

-- one report, and those behind it
pub events_first : (n : Notes) (r : Report) (rs : List Report) → recorded_events n (r ∷ rs) ≡ events n r ++ recorded_events (kept n r) rs
unfolding observed
events_first n r rs = refl

pub events_none : (n : Notes) → recorded_events n [] ≡ []
unfolding observed
events_none n = refl

pub events-append : (n : Notes) (a b : List Report) → recorded_events n (a ++ b) ≡ recorded_events n a ++ recorded_events (kept_all n a) b
unfolding observed
events-append n [] b = refl
events-append n (r ∷ a) b =
    ap (λ (es : List Happening). events n r ++ es) (events-append (kept n r) a b)
    ∙ sym (append_assoc (events n r) (recorded_events (kept n r) a) (recorded_events (kept_all (kept n r) a) b))

-- where nothing is strange
pub usual-append : (n : Notes) (a b : List Report) → NoneStrange n (a ++ b) → NoneStrange n a × NoneStrange (kept_all n a) b
usual-append n a b h = usual-parts told kept strange n a b h

pub usual_first : (n : Notes) (r : Report) (rs : List Report) → NoneStrange n (r ∷ rs) → strange n r ≡ false
usual_first n r rs h = (usual-first told kept strange n r rs h).0

-- ---- lines within a step

says_no_event : (n : Notes) (e : PlainEntry) → IsSaid e → events n (Tells e) ≡ []
says_no_event n (PlainCall id server service bytes) said = absurd said
says_no_event n (PlainClock tick) said = absurd said
says_no_event n (PlainRecv host from bytes) said = absurd said
says_no_event n e said = refl

says_keeps : (n : Notes) (e : PlainEntry) → IsSaid e → kept n (Tells e) ≡ n
unfolding kept
says_keeps n (PlainSettings settings) said = absurd said
says_keeps n (PlainClock tick) said = absurd said
says_keeps n (PlainSend number from to inc role id level what payload) said = absurd said
says_keeps n e said = refl

-- none of them stands for an event
pub inner_no_event : (n : Notes) (k : ℕ) (told : List Told) → AllInner told → recorded_events n (map Tells (entries_from k told)) ≡ []
inner_no_event n k [] inner = events_none n
inner_no_event n k (Says e ∷ told) inner =
    events_first n (Tells e) (map Tells (entries_from k told))
    ∙ ap (λ (es : List Happening). es ++ recorded_events (kept n (Tells e)) (map Tells (entries_from k told))) (says_no_event n e inner.0)
    ∙ inner_no_event (kept n (Tells e)) k told inner.1
inner_no_event n k (Sends p ∷ told) inner =
    events_first n (Tells (send_line k p)) (map Tells (entries_from (suc k) told)) ∙ inner_no_event (kept n (Tells (send_line k p))) (suc k) told inner

-- ---- notes of a world

pub get-append : {A : Type 0} (xs ys : List A) (i : ℕ) (x : A) → slice_get xs i ≡ Some x → slice_get (xs ++ ys) i ≡ Some x
get-append [] ys i x e = absurd (let z : None ≡ Some x = e in cc)
get-append (y ∷ xs) ys zero x e = e
get-append (y ∷ xs) ys (suc i) x e = get-append xs ys i x e

pub get_last : {A : Type 0} (xs : List A) (x : A) → slice_get (xs ++ x ∷ []) (length xs) ≡ Some x
get_last [] x = refl
get_last (y ∷ xs) x = get_last xs x

module _ (s : Settings) where
  -- a datagram that is kept is that of a packet in its life
  pub record IsKept (clock : ℕ) (packets : List SentPacket) (d : Kept) : Type 0 where
    pub sent : SentPacket
    pub stands : slice_get packets d.number ≡ Some sent
    pub from : d.from ≡ sender sent.packet
    pub to : d.to ≡ receiver sent.packet
    pub tick : d.tick ≡ sent.tick
    pub bytes : d.bytes ≡ datagram s sent.packet
    pub life : clock ≤ sent.tick + s.life

  -- the notes of a recorder of a world with these packets
  pub record AreNotes (n : Notes) (clock : ℕ) (packets : List SentPacket) : Type 0 where
    pub tick : n.tick ≡ clock
    pub settings : n.settings ≡ Some s
    pub kept : AllByRecursion (IsKept clock packets) n.datagrams

  still_kept : (clock : ℕ) (packets more : List SentPacket) (ds : List Kept) → AllByRecursion (IsKept clock packets) ds
      → AllByRecursion (IsKept clock (packets ++ more)) ds
  still_kept clock packets more [] all = tt
  still_kept clock packets more (d ∷ ds) all =
      let k = all.0 in (
        record {
          sent = k.sent;
          stands = get-append packets more d.number k.sent k.stands;
          from = k.from;
          to = k.to;
          tick = k.tick;
          bytes = k.bytes;
          life =
              k.life;
        },
        still_kept clock packets more ds all.1,
      )

  -- the packet of a `send` line is the one that was sent
  pub same_packet : (clock : ℕ) (p : Packet) (tick : ℕ) → tick ≡ clock → p.at ≡ (if s.wire == 1 then 0 else clock + s.skew)
      → sent_packet s tick p.inc p.role p.id p.level p.body ≡ wire_packet p
  same_packet clock p tick same dated =
      let at : (if s.wire == 1 then 0 else tick + s.skew) ≡ p.at = ap (λ (t : ℕ). if s.wire == 1 then 0 else t + s.skew) same ∙ sym dated in
      let packet : ℕ → WirePacket =
      λ (t : ℕ). record { role = p.role; level = p.level; sender = p.inc; inc = p.id.inc; seq = p.id.seq; at = t; body = p.body } in
      ap packet at

  sent_kept : (n : Notes) (clock : ℕ) (packets : List SentPacket) (k : ℕ) (p : Packet) → k ≡ length packets
      → IsOfNode s (record { tick = clock; packet = p }) → AreNotes n clock packets
      → AreNotes (kept n (Tells (send_line k p))) clock (packets ++ record { tick = clock; packet = p } ∷ [])
  unfolding kept
  sent_kept n clock packets k p number of_node a =
      subst (λ (o : Option Settings). AreNotes (keeps o k (sender p) (receiver p) bytes n) clock (packets ++ sent ∷ [])) (sym a.settings)
      (record {
        tick = a.tick;
        settings = a.settings;
        kept = all-append (IsKept clock (packets ++ sent ∷ [])) n.datagrams (new ∷ []) (still_kept clock packets (sent ∷ []) n.datagrams a.kept) (of_new, tt);
      }) where
        sent : SentPacket
        sent = record { tick = clock; packet = p }

        bytes : Settings → List ℕ
        bytes u = spelling u.wire (sent_packet u n.tick p.inc p.role p.id p.level p.body) p.payload

        new : Kept
        new = record { number = k; from = sender p; to = receiver p; tick = n.tick; bytes = bytes s }

        of_new : IsKept clock (packets ++ sent ∷ []) new
        of_new = record {
          sent = sent;
          stands = ap (slice_get (packets ++ sent ∷ [])) number ∙ get_last packets sent;
          from = refl;
          to = refl;
          tick = a.tick;
          bytes = ap (λ (w : WirePacket). spelling s.wire w p.payload) (same_packet clock p n.tick a.tick of_node.dated);
          life = omega arith;
        }

  -- the lines within a step, whose packets have the numbers from k on
  pub inner_notes : (n : Notes) (clock : ℕ) (packets : List SentPacket) (k : ℕ) (told : List Told) → k ≡ length packets → AllInner told
      → AllByRecursion (IsOfNode s) (stamped clock (packets_in told)) → AreNotes n clock packets
      → AreNotes (kept_all n (map Tells (entries_from k told))) clock (packets ++ stamped clock (packets_in told))
  inner_notes n clock packets k [] number inner sent a = subst (AreNotes n clock) (sym (append-nil packets)) a
  inner_notes n clock packets k (Says e ∷ told) number inner sent a =
      subst (λ (m : Notes). AreNotes (kept_all m (map Tells (entries_from k told))) clock (packets ++ stamped clock (packets_in told)))
      (sym (says_keeps n e inner.0))
      (inner_notes n clock packets k told number inner.1 sent a)
  inner_notes n clock packets k (Sends p ∷ told) number inner sent a =
      let new : SentPacket = record { tick = clock; packet = p } in
      subst (AreNotes (kept_all (kept n (Tells (send_line k p))) (map Tells (entries_from (suc k) told))) clock)
      (append_assoc packets (new ∷ []) (stamped clock (packets_in told)))
      (inner_notes (kept n (Tells (send_line k p))) clock (packets ++ new ∷ []) (suc k) told (ap suc number ∙ sym (longer packets new)) inner sent.1
      (sent_kept n clock packets k p number sent.0 a)) where
        longer : (ps : List SentPacket) (x : SentPacket) → length (ps ++ x ∷ []) ≡ suc (length ps)
        longer [] x = refl
        longer (p ∷ ps) x = ap suc (longer ps x)

  -- ---- the clock

  in_time : (packets : List SentPacket) (old now : ℕ) (ds : List Kept) → AllByRecursion (IsKept old packets) ds
      → AllByRecursion (IsKept now packets) (filter (in_life s now) ds)
  in_time packets old now [] all = tt
  in_time packets old now (d ∷ ds) all = by_test (in_life s now d) refl (in_time packets old now ds all.1) where
    by_test : (b : Bool) → in_life s now d ≡ b → AllByRecursion (IsKept now packets) (filter (in_life s now) ds)
        → AllByRecursion (IsKept now packets) (if b then d ∷ filter (in_life s now) ds else filter (in_life s now) ds)
    by_test true e rest =
        let k = all.0 in
        let timely : now ≤ d.tick + s.life = leb-true now (d.tick + s.life) e in
        (record { sent = k.sent; stands = k.stands; from = k.from; to = k.to; tick = k.tick; bytes = k.bytes; life = omega (arith, timely, k.tick) }, rest)
    by_test false e rest = rest

  pub clock_notes : (n : Notes) (old now : ℕ) (packets : List SentPacket) → old ≤ now → AreNotes n old packets
      → AreNotes (kept n (Tells (PlainClock now))) now packets
  unfolding kept
  clock_notes n old now packets onward a =
      let later : max n.tick now ≡ now = omega (arith, a.tick, onward) in
      subst (λ (t : ℕ). AreNotes (record n { tick = t; datagrams = still n.settings t n.datagrams }) now packets) (sym later)
      (record {
        tick = refl;
        settings = a.settings;
        kept = subst (λ (o : Option Settings). AllByRecursion (IsKept now packets) (still o now n.datagrams)) (sym a.settings)
            (in_time packets old now n.datagrams a.kept);
      })

  -- ---- a datagram that comes

  -- a packet that was sent from one host to another in the last ticks, with these bytes
  pub record IsFound (clock : ℕ) (packets : List SentPacket) (host from : HostId) (bytes : List ℕ) (number : ℕ) : Type 0 where
    pub sent : SentPacket
    pub stands : slice_get packets number ≡ Some sent
    pub is_from : from ≡ sender sent.packet
    pub is_to : host ≡ receiver sent.packet
    pub spelled : bytes ≡ datagram s sent.packet
    pub life : clock ≤ sent.tick + s.life

  pub both_true : (a b : Bool) → (a && b) ≡ true → (a ≡ true) × (b ≡ true)
  both_true true b e = (refl, e)
  both_true false b e = absurd (true≢false (sym e))

  max_cases : (m n : ℕ) → (max m n ≡ m) ⊎ (max m n ≡ n)
  max_cases m n = by_test (nat_le m n) refl where
    by_test : (b : Bool) → nat_le m n ≡ b → (max m n ≡ m) ⊎ (max m n ≡ n)
    by_test true e = inr (omega (arith, leb-true m n e))
    by_test false e = inl (omega (arith, leb-false m n e))

  module _ (clock : ℕ) (packets : List SentPacket) (host from : HostId) (bytes : List ℕ) where
    found_here : (d : Kept) → IsKept clock packets d → is_same host from bytes d ≡ true → IsFound clock packets host from bytes d.number
    found_here d k e =
        let one = both_true (is_host d.to host && is_host d.from from) (bytes_eq d.bytes bytes) e in
        let two = both_true (is_host d.to host) (is_host d.from from) one.0 in
        record {
          sent = k.sent;
          stands = k.stands;
          is_from = sym ((hosts_are d.from from).0 two.1) ∙ k.from;
          is_to = sym ((hosts_are d.to host).0 two.0) ∙ k.to;
          spelled = sym ((bytes_eq-Decides d.bytes bytes).0 one.1) ∙ k.bytes;
          life = k.life;
        }

    abbrev numbers : List Kept → List ℕ
    numbers ds = map (λ (d : Kept). d.number) ds

    found_first : (d : Kept) (rest : List Kept) (number : ℕ) → IsKept clock packets d → (b : Bool) → is_same host from bytes d ≡ b
        → greatest (numbers (if b then d ∷ rest else rest)) ≡ Some number
        → ((m : ℕ) → greatest (numbers rest) ≡ Some m → IsFound clock packets host from bytes m) → IsFound clock packets host from bytes number
    found_first d rest number k false same e next = next number e
    found_first d rest number k true same e next = by_rest (greatest (numbers rest)) refl e where
      by_rest : (o : Option ℕ) → greatest (numbers rest) ≡ o → (elim o [ None ↦ Some d.number | Some m ↦ Some (max d.number m) ]) ≡ Some number
          → IsFound clock packets host from bytes number
      by_rest None g h = subst (IsFound clock packets host from bytes) (let z : d.number ≡ number = cc in z) (found_here d k same)
      by_rest (Some m) g h = by_max (max_cases d.number m) where
        is : max d.number m ≡ number
        is = cc

        by_max : (max d.number m ≡ d.number) ⊎ (max d.number m ≡ m) → IsFound clock packets host from bytes number
        by_max (inl a) = subst (IsFound clock packets host from bytes) (sym a ∙ is) (found_here d k same)
        by_max (inr b) = next number (g ∙ ap Some (sym b ∙ is))

    found : (ds : List Kept) (number : ℕ) → AllByRecursion (IsKept clock packets) ds
        → greatest (map (λ (d : Kept). d.number) (filter (is_same host from bytes) ds)) ≡ Some number → IsFound clock packets host from bytes number
    found [] number all e = absurd (let z : None ≡ Some number = e in cc)
    found (d ∷ ds) number all e =
        found_first d (filter (is_same host from bytes) ds) number all.0 (is_same host from bytes d) refl e (λ m h. found ds m all.1 h)

    -- what a datagram is by the notes
    pub found_sent : (n : Notes) (number : ℕ) → AreNotes n clock packets → kind_in n host from bytes ≡ Some (Sent number)
        → IsFound clock packets host from bytes number
    unfolding kind_of
    found_sent n number a e =
        by_kind (greatest (numbers (filter (is_same host from bytes) n.datagrams))) refl
        (sym (ap (λ (o : Option Settings). elim o [ None ↦ None | Some u ↦ Some (kind_of u n.datagrams host from bytes) ]) a.settings) ∙ e) where
          by_kind : (o : Option ℕ) → greatest (numbers (filter (is_same host from bytes) n.datagrams)) ≡ o
              → Some (kind_by o (is_some (packet_in s.wire bytes))) ≡ Some (Sent number) → IsFound clock packets host from bytes number
          by_kind (Some m) g h = found n.datagrams number a.kept (g ∙ ap Some (sent_is m number (is_some (packet_in s.wire bytes)) h)) where
            sent_is : (m number : ℕ) (b : Bool) → Some (kind_by (Some m) b) ≡ Some (Sent number) → m ≡ number
            sent_is m number true h = cc
            sent_is m number false h = cc
          by_kind None g h = absurd (none_sent (is_some (packet_in s.wire bytes)) h) where
            none_sent : (b : Bool) → Some (kind_by None b) ≡ Some (Sent number) → ⊥
            none_sent true h = cc
            none_sent false h = cc

    -- bytes that are no packet
    pub found_junk : (n : Notes) → AreNotes n clock packets → kind_in n host from bytes ≡ Some Junk → packet_in s.wire bytes ≡ None
    unfolding kind_of
    found_junk n a e = by_kind (greatest (numbers (filter (is_same host from bytes) n.datagrams))) (packet_in s.wire bytes) refl
        (sym (ap (λ (o : Option Settings). elim o [ None ↦ None | Some u ↦ Some (kind_of u n.datagrams host from bytes) ]) a.settings) ∙ e) where
          by_kind : (o : Option ℕ) (r : Option (WirePacket × List ℕ)) → packet_in s.wire bytes ≡ r → Some (kind_by o (is_some r)) ≡ Some Junk
              → packet_in s.wire bytes ≡ None
          by_kind (Some m) r is h = absurd (let z : Some (Sent m) ≡ Some Junk = h in cc)
          by_kind None None is h = is
          by_kind None (Some r) is h = absurd (let z : Some Strange ≡ Some Junk = h in cc)

    -- once the settings were told, a datagram is something
    pub found_some : (n : Notes) → AreNotes n clock packets → (kind : Kind) → kind_of s n.datagrams host from bytes ≡ kind
        → kind_in n host from bytes ≡ Some kind
    found_some n a kind e = ap (λ (o : Option Settings). elim o [ None ↦ None | Some u ↦ Some (kind_of u n.datagrams host from bytes) ]) a.settings ∙ ap Some e
