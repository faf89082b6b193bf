-- Where nothing of a run is strange to a recorder, the net was honest: the recorder keeps the datagrams that were sent and are in their life.
use Rattle.std.proofs.Common.{◌≡◌, ℕ, suc, ◌+◌, ◌≤◌, Bool, true, false, Option, None, Some, List, [], ◌∷◌, ◌++◌, map, filter, max, refl, sym, ap, ◌∙◌, subst}
use Rattle.std.proofs.Common.{arith}
use Rattle.std.specs.Prelude.{is_some, if◌then◌else◌, ◌==◌, ◌&&◌, ◌||◌, not, nat_le}
use Rattle.std.specs.List.{list_any}
use Rattle.std.proofs.lemmas.Bool.{leb-true, leb-false, true≢false}
use Rattle.std.proofs.lemmas.Bool.Decides.{nat_tests}
use Rattle.std.proofs.lemmas.List.Elements.{filter-append}
use Rattle.homa_plain.specs.declared.id.HostId.{HostId}
use Rattle.homa_plain.specs.declared.settings.Settings.{Settings}
use Rattle.homa_plain.specs.Wire.{packet_in, spelling}
use Rattle.homa_plain.specs.Entries.{PlainEntry, PlainSettings, PlainClock, PlainSend, PlainRecv}
use Rattle.homa_plain.specs.Packets.{send_line}
use Rattle.homa_plain.specs.Host.{Told, Says, Sends, entries_from}
use Rattle.step_moves.proofs.Inner.{AllInner, IsSaid}
use Rattle.node_runs.specs.Course.{Report, Tells, Turning}
use Rattle.node_runs.specs.Recorder.{Kept, Notes, no_notes, is_same, greatest, kind_by, kind_of, is_strange, strange, in_life, still, sent_packet, keeps}
use Rattle.node_runs.specs.Recorder.{told, kept}
use Rattle.node_runs.specs.Replayed.{NoneStrange}
use Rattle.node_runs.specs.Texts.{entries}
use Rattle.node_runs.proofs.Observing.{usual-first}
use Rattle.node_trace_laws.specs.Honest.{noted, may_come, was_sent, is_honest_by, is_honest, AreHonest}
use Rattle.node_trace_laws.proofs.Sent.{noted_all}

-- ---- lines in order

-- the settings are told once, and the clock doesn't fall
abbrev pub IsNext : Notes → PlainEntry → Type 0
IsNext n (PlainSettings s) = n.settings ≡ None
IsNext n (PlainClock now) = n.tick ≤ now
IsNext n line = Unit {0}

abbrev pub AreInOrder : Notes → List PlainEntry → Type 0
AreInOrder n [] = Unit {0}
AreInOrder n (line ∷ lines) = IsNext n line × AreInOrder (noted n line) lines

-- lines within a step
said_next : (n : Notes) (e : PlainEntry) → IsSaid e → IsNext n e
said_next n (PlainSettings settings) said = absurd said
said_next n (PlainClock tick) said = absurd said
said_next n e said = tt

pub inner_next : (n : Notes) (k : ℕ) (told : List Told) → AllInner told → AreInOrder n (entries_from k told)
inner_next n k [] inner = tt
inner_next n k (Says e ∷ told) inner = (said_next n e inner.0, inner_next (noted n e) k told inner.1)
inner_next n k (Sends p ∷ told) inner = (tt, inner_next (noted n (send_line k p)) (suc k) told inner)

-- ---- what a recorder keeps

-- it keeps those datagrams that were sent and are in their life
abbrev AreKept : Option Settings → ℕ → List Kept → List Kept → Type 0
AreKept None now kept sent = (kept ≡ []) × (sent ≡ [])
AreKept (Some s) now kept sent = kept ≡ filter (in_life s now) sent

-- a recorder's notes, and those of all that was sent
pub record AreMatched (k n : Notes) : Type 0 where
  pub tick : k.tick ≡ n.tick
  pub settings : k.settings ≡ n.settings
  pub datagrams : AreKept n.settings n.tick k.datagrams n.datagrams

pub none_matched : AreMatched no_notes no_notes
none_matched = record { tick = refl; settings = refl; datagrams = (refl, refl) }

-- what was given up stays given up
still_filter : (s : Settings) (old now : ℕ) (ds : List Kept) → old ≤ now → filter (in_life s now) (filter (in_life s old) ds) ≡ filter (in_life s now) ds
still_filter s old now [] onward = refl
still_filter s old now (d ∷ ds) onward = by_old (in_life s old d) refl (still_filter s old now ds onward) where
  by_now : (c : Bool) → in_life s now d ≡ c → in_life s old d ≡ false → filter (in_life s now) (filter (in_life s old) ds) ≡ filter (in_life s now) ds
      → filter (in_life s now) (filter (in_life s old) ds) ≡ (if c then d ∷ filter (in_life s now) ds else filter (in_life s now) ds)
  by_now true is e rest = absurd (omega (arith, onward, leb-true now (d.tick + s.life) is, leb-false old (d.tick + s.life) e))
  by_now false is e rest = rest

  by_old : (b : Bool) → in_life s old d ≡ b → filter (in_life s now) (filter (in_life s old) ds) ≡ filter (in_life s now) ds
      → filter (in_life s now) (if b then d ∷ filter (in_life s old) ds else filter (in_life s old) ds) ≡ filter (in_life s now) (d ∷ ds)
  by_old true e rest = ap (λ (xs : List Kept). if in_life s now d then d ∷ xs else xs) rest
  by_old false e rest = by_now (in_life s now d) refl e rest

-- a datagram that is sent now
module _ (number : ℕ) (from to : HostId) (bytes : ℕ → Settings → List ℕ) where
  abbrev new : Settings → ℕ → Kept
  new s tick = record { number = number; from = from; to = to; tick = tick; bytes = bytes tick s }

  sent_now : (s : Settings) (now : ℕ) (kept sent : List Kept) → kept ≡ filter (in_life s now) sent
      → kept ++ new s now ∷ [] ≡ filter (in_life s now) (sent ++ new s now ∷ [])
  sent_now s now kept sent e =
      let here : nat_le now (now + s.life) ≡ true = grind (arith, nat_tests) in
      ap (λ (ds : List Kept). ds ++ new s now ∷ []) e
      ∙ ap (λ (b : Bool). filter (in_life s now) sent ++ (if b then new s now ∷ [] else [])) (sym here)
      ∙ sym (filter-append (in_life s now) sent (new s now ∷ []))

  keeps_matched : (k n : Notes) → AreMatched k n
      → AreMatched (keeps k.settings number from to (bytes k.tick) k) (keeps n.settings number from to (bytes n.tick) n)
  keeps_matched k n m =
      subst (λ (o : Option Settings). AreMatched (keeps o number from to (bytes k.tick) k) (keeps n.settings number from to (bytes n.tick) n)) (sym m.settings)
      (by_settings n.settings refl m.datagrams) where
        by_settings : (o : Option Settings) → n.settings ≡ o → AreKept o n.tick k.datagrams n.datagrams
            → AreMatched (keeps o number from to (bytes k.tick) k) (keeps o number from to (bytes n.tick) n)
        by_settings None is d = m
        by_settings (Some s) is d = record {
          tick = m.tick;
          settings = m.settings;
          datagrams = subst (λ (o : Option Settings). AreKept o n.tick (k.datagrams ++ new s k.tick ∷ []) (n.datagrams ++ new s n.tick ∷ [])) (sym is)
              (ap (λ (t : ℕ). k.datagrams ++ new s t ∷ []) m.tick ∙ sent_now s n.tick k.datagrams n.datagrams d);
        }

-- the clock goes on
risen_matched : (k n : Notes) (now : ℕ) → n.tick ≤ now → AreMatched k n
    → AreMatched (record k { tick = now; datagrams = still k.settings now k.datagrams }) (record n { tick = now })
risen_matched k n now onward m = record {
  tick = refl;
  settings = m.settings;
  datagrams = subst (λ (o : Option Settings). AreKept n.settings now (still o now k.datagrams) n.datagrams) (sym m.settings)
      (by_settings n.settings m.datagrams);
} where
  by_settings : (o : Option Settings) → AreKept o n.tick k.datagrams n.datagrams → AreKept o now (still o now k.datagrams) n.datagrams
  by_settings None d = d
  by_settings (Some s) d = ap (filter (in_life s now)) d ∙ still_filter s n.tick now n.datagrams onward

next_matched : (k n : Notes) (e : PlainEntry) → IsNext n e → AreMatched k n → AreMatched (kept k (Tells e)) (noted n e)
unfolding kept noted
next_matched k n (PlainSettings s) next m =
    let none : AreKept None n.tick k.datagrams n.datagrams = subst (λ (o : Option Settings). AreKept o n.tick k.datagrams n.datagrams) next m.datagrams in
    record { tick = m.tick; settings = refl; datagrams = none.0 ∙ ap (filter (in_life s n.tick)) (sym none.1) }
next_matched k n (PlainClock now) next m =
    let later : max k.tick now ≡ now = omega (arith, m.tick, next) in
    subst (λ (t : ℕ). AreMatched (record k { tick = t; datagrams = still k.settings t k.datagrams }) (record n { tick = now })) (sym later)
    (risen_matched k n now next m)
next_matched k n (PlainSend number from to inc role id level body payload) next m =
    keeps_matched number from to (λ (t : ℕ) (s : Settings). spelling s.wire (sent_packet s t inc role id level body) payload) k n m
next_matched k n e next m = m

turned_matched : (k n : Notes) (host : HostId) → AreMatched k n → AreMatched (kept k (Turning host)) n
unfolding kept
turned_matched k n host m = m

-- ---- a datagram that comes

or_right : (a b : Bool) → b ≡ true → (a || b) ≡ true
or_right true b e = refl
or_right false b e = e

module _ (s : Settings) (now : ℕ) (host from : HostId) (bytes : List ℕ) where
  abbrev same : Kept → Bool
  same = is_same host from bytes

  abbrev numbers : List Kept → List ℕ
  numbers ds = map (λ (d : Kept). d.number) ds

  abbrev sent : List Kept → Bool
  sent ds = list_any (λ (d : Kept). is_same host from bytes d && may_come s now d) ds

  -- one that is kept was sent, and may come
  found : (ds : List Kept) (number : ℕ) → greatest (numbers (filter same (filter (in_life s now) ds))) ≡ Some number → sent ds ≡ true
  found [] number e = absurd (let z : None ≡ Some number = e in cc)
  found (d ∷ ds) number e = by_life (in_life s now d) e (found ds) where
    in_time : (w b : Bool) → ((not w || true) || b) ≡ true
    in_time true b = refl
    in_time false b = refl

    by_same : (b : Bool) → greatest (numbers (if b then d ∷ filter same (filter (in_life s now) ds) else filter same (filter (in_life s now) ds))) ≡ Some number
        → ((m : ℕ) → greatest (numbers (filter same (filter (in_life s now) ds))) ≡ Some m → sent ds ≡ true)
        → ((b && (not (s.wire == 1) || true)) || sent ds) ≡ true
    by_same true e next = in_time (s.wire == 1) (sent ds)
    by_same false e next = next number e

    by_life : (a : Bool) → greatest (numbers (filter same (if a then d ∷ filter (in_life s now) ds else filter (in_life s now) ds))) ≡ Some number
        → ((m : ℕ) → greatest (numbers (filter same (filter (in_life s now) ds))) ≡ Some m → sent ds ≡ true)
        → ((same d && (not (s.wire == 1) || a)) || sent ds) ≡ true
    by_life true e next = by_same (same d) e next
    by_life false e next = or_right (same d && (not (s.wire == 1) || false)) (sent ds) (next number e)

honest_here : (k n : Notes) (e : PlainEntry) → AreMatched k n → strange k (Tells e) ≡ false → is_honest n e ≡ true
unfolding kind_of
honest_here k n (PlainRecv host from bytes) m usual = by_settings n.settings m.datagrams (sym (ap of_kind m.settings) ∙ usual) where
  of_kind : Option Settings → Bool
  of_kind o = is_strange (elim o [ None ↦ None | Some s ↦ Some (kind_of s k.datagrams host from bytes) ])

  by_settings : (o : Option Settings) → AreKept o n.tick k.datagrams n.datagrams → of_kind o ≡ false → is_honest_by o n host from bytes ≡ true
  by_settings None d e = refl
  by_settings (Some s) d e =
      by_kind (greatest (map (λ (x : Kept). x.number) (filter (is_same host from bytes) k.datagrams))) (is_some (packet_in s.wire bytes)) refl e where
        by_kind : (g : Option ℕ) (b : Bool) → greatest (map (λ (x : Kept). x.number) (filter (is_same host from bytes) k.datagrams)) ≡ g
            → is_strange (Some (kind_by g b)) ≡ false
            → (not b || was_sent s n host from bytes) ≡ true
        by_kind (Some number) b is h =
            or_right (not b) (was_sent s n host from bytes)
            (found s n.tick host from bytes n.datagrams number
            (sym (ap (λ (ds : List Kept). greatest (map (λ (x : Kept). x.number) (filter (is_same host from bytes) ds))) d) ∙ is))
        by_kind None true is h = absurd (true≢false h)
        by_kind None false is h = refl
honest_here k n e m usual = refl

-- ---- reports one after the other

-- where nothing of some reports is strange, their lines are honest
pub usual_honest : (k n : Notes) (rs : List Report) → AreMatched k n → AreInOrder n (entries rs) → NoneStrange k rs → AreHonest n (entries rs)
usual_honest k n [] m order usual = tt
usual_honest k n (Turning host ∷ rs) m order usual =
    usual_honest (kept k (Turning host)) n rs (turned_matched k n host m) order (usual-first told kept strange k (Turning host) rs usual).1
usual_honest k n (Tells e ∷ rs) m order usual =
    let u = usual-first told kept strange k (Tells e) rs usual in
    (honest_here k n e m u.0, usual_honest (kept k (Tells e)) (noted n e) rs (next_matched k n e order.0 m) order.1 u.1)

pub order-append : (n : Notes) (a b : List PlainEntry) → AreInOrder n a → AreInOrder (noted_all n a) b → AreInOrder n (a ++ b)
order-append n [] b first second = second
order-append n (line ∷ a) b first second = (first.0, order-append (noted n line) a b first.1 second)
