-- What is printed and kept of each report.
use Rattle.std.proofs.Common.{◌≡◌, ◌≤◌, ◌<◌, ℕ, zero, suc, ◌+◌, ◌-◌, true, false, Option, None, Some, List, [], ◌∷◌, ◌++◌, Ok, Err, refl, sym, ap}
use Rattle.std.proofs.Common.{◌∙◌, subst, arith, append-nil, append_assoc}
use Rattle.homa_io.specs.Outside.{appended, TookFront}
use Rattle.homa_plain.specs.declared.id.CallId.{CallId}
use Rattle.homa_plain.specs.declared.id.HostId.{HostId}
use Rattle.homa_plain.specs.declared.settings.Settings.{Settings}
use Rattle.homa_plain.specs.declared.event.Event.TheVariants as event
use Rattle.homa_plain.specs.declared.entry.Entry.{Entry}
use Rattle.homa_plain.specs.declared.entry.Entry.TheVariants as entry
use Rattle.homa_plain.specs.Entries.{plain, PlainSettings, PlainClock, PlainCall, PlainRecv}
use Rattle.homa_plain.specs.Script.{event_text, settings_text}
use Rattle.node_runs.specs.Course.{Report, Tells, Turning}
use Rattle.node_runs.specs.Recorder.{Notes, keeps, Kind, Sent, Junk, Strange, clocks, kind_in, is_strange, stranger_text, kind_events, told, kept, strange}
use denote.Bor.{Bor}
use Rattle.std.specs.Prelude.{if◌then◌else◌, Result, OnOk}
use Rattle.homa_plain.specs.declared.packet.Packet.{Packet}
use Rattle.homa_plain.specs.declared.packet.Body.{Body}
use Rattle.homa_plain.specs.declared.packet.Role.{Role}
use Rattle.homa_plain.specs.Wire.{spelling}
use Rattle.homa_io.specs.declared.sink.WriteFailed.{WriteFailed}
use Rattle.homa_io.specs.Outside.{HasRisen}
use Rattle.homa_io.specs.Growing.{appended-appended}
use Rattle.homa_io.proofs.Fronts.{front_after}
use Rattle.written_lines.proofs.Putting.{front_more}
use Rattle.node_io.specs.declared.observer.SeenFault.{SeenFault}
use Rattle.node_io.specs.declared.observer.SeenFault.TheVariants.{Write, Stranger}
use Rattle.homa_record.specs.Seen.{texts, kind_text, strange_answer, dated, Sees}

pub told_settings : (n : Notes) (s : Settings) → told n (Tells (PlainSettings s)) ≡ settings_text s
unfolding told
told_settings n s = append-nil (settings_text s)

pub told_clock : (n : Notes) (now : ℕ) → told n (Tells (PlainClock now)) ≡ texts (clocks (now - n.tick))
unfolding told
told_clock n now = refl

pub told_call : (n : Notes) (id : CallId) (server : HostId) (service : ℕ) (bytes : List ℕ)
    → told n (Tells (PlainCall id server service bytes)) ≡ event_text (event.Call id.client server service) bytes
unfolding told
told_call n id server service bytes = append-nil (event_text (event.Call id.client server service) bytes)

pub told_turning : (n : Notes) (host : HostId) → told n (Turning host) ≡ event_text (event.Turn host) []
unfolding told
told_turning n host = append-nil (event_text (event.Turn host) [])

by_kind : (host from : HostId) (bytes : List ℕ) (k : Option Kind) → (if is_strange k then stranger_text host from bytes else [])
    ++ texts (kind_events host bytes k) ≡ kind_text host from bytes k
by_kind host from bytes None = refl
by_kind host from bytes (Some (Sent number)) = append-nil (event_text (event.Deliver number) [])
by_kind host from bytes (Some Junk) = append-nil (event_text (event.Inject host) bytes)
by_kind host from bytes (Some Strange) = append-nil (stranger_text host from bytes)

pub told_recv : (n : Notes) (host from : HostId) (bytes : List ℕ)
    → told n (Tells (PlainRecv host from bytes)) ≡ kind_text host from bytes (kind_in n host from bytes)
unfolding told
told_recv n host from bytes = by_kind host from bytes (kind_in n host from bytes)

-- nothing more was taken
pub took_nothing : (taken : Option (List ℕ)) → taken ≡ appended taken []
took_nothing None = refl
took_nothing (Some xs) = ap Some (sym (append-nil xs))

-- ---- answers

pub sees_ok : (report : Report) (old new : Option (List ℕ)) (old_faults new_faults : ℕ) (n m : Notes) (text : List ℕ) → told n report ≡ text
    → new ≡ appended old text → new_faults ≡ old_faults → m ≡ kept n report → strange n report ≡ false
    → Sees report old new old_faults new_faults n m (Ok tt)
sees_ok report old new old_faults new_faults n m text e t q k u = record {
  is_told = t ∙ ap (appended old) (sym e);
  is_kept = k;
  usual = u;
  err = tt;
  stranger = tt;
  stranger_told = tt;
  stranger_kept = tt;
  risen = tt;
  quiet = q;
  never_falls = omega (arith, q);
}

pub sees_failed : (report : Report) (old new : Option (List ℕ)) (old_faults new_faults : ℕ) (n m : Notes) (text : List ℕ) (failed : WriteFailed)
    → told n report ≡ text → TookFront old new text → HasRisen old_faults new_faults → old_faults ≤ new_faults
    → Sees report old new old_faults new_faults n m (Err (Write failed))
sees_failed report old new old_faults new_faults n m text failed e t r f = record {
  is_told = tt;
  is_kept = tt;
  usual = tt;
  err = subst (TookFront old new) (sym e) t;
  stranger = tt;
  stranger_told = tt;
  stranger_kept = tt;
  risen = r;
  quiet = tt;
  never_falls = f;
}

pub sees_strange : (report : Report) (old new : Option (List ℕ)) (old_faults new_faults : ℕ) (n : Notes) (text : List ℕ) → told n report ≡ text
    → new ≡ appended old text → new_faults ≡ old_faults → strange n report ≡ true
    → Sees report old new old_faults new_faults n n (Err Stranger)
sees_strange report old new old_faults new_faults n text e t q u = record {
  is_told = tt;
  is_kept = tt;
  usual = tt;
  err = (told n report, [], append-nil (told n report), t ∙ ap (appended old) (sym e));
  stranger = u;
  stranger_told = t ∙ ap (appended old) (sym e);
  stranger_kept = refl;
  risen = tt;
  quiet = q;
  never_falls = omega (arith, q);
}

kept_recv : (n : Notes) (host from : HostId) (bytes : List ℕ) → n ≡ kept n (Tells (PlainRecv host from bytes))
unfolding kept
kept_recv n host from bytes = refl

-- a datagram that came
pub sees_kind : (host from : HostId) (bytes : List ℕ) (old new : Option (List ℕ)) (old_faults new_faults : ℕ) (n : Notes) (k : Option Kind)
    (result : Result (Unit {0}) SeenFault) → k ≡ kind_in n host from bytes → result ≡ strange_answer k
    → new ≡ appended old (kind_text host from bytes k) → new_faults ≡ old_faults
    → Sees (Tells (PlainRecv host from bytes)) old new old_faults new_faults n n result
sees_kind host from bytes old new old_faults new_faults n k result e r t q = subst (Sees report old new old_faults new_faults n n) (sym r)
    (by_cases k (told_recv n host from bytes ∙ ap (kind_text host from bytes) (sym e)) (ap is_strange (sym e)) t) where
      report : Report
      report = Tells (PlainRecv host from bytes)

      by_cases : (k : Option Kind) → told n report ≡ kind_text host from bytes k → strange n report ≡ is_strange k
          → new ≡ appended old (kind_text host from bytes k) → Sees report old new old_faults new_faults n n (strange_answer k)
      by_cases None e u t = sees_ok report old new old_faults new_faults n n [] e t q (kept_recv n host from bytes) u
      by_cases (Some (Sent number)) e u t =
          sees_ok report old new old_faults new_faults n n (event_text (event.Deliver number) []) e t q (kept_recv n host from bytes) u
      by_cases (Some Junk) e u t = sees_ok report old new old_faults new_faults n n (event_text (event.Inject host) bytes) e t q (kept_recv n host from bytes) u
      by_cases (Some Strange) e u t = sees_strange report old new old_faults new_faults n (stranger_text host from bytes) e t q u

pub kept_call : (n : Notes) (id : CallId) (server : HostId) (service : ℕ) (bytes : List ℕ) → n ≡ kept n (Tells (PlainCall id server service bytes))
unfolding kept
kept_call n id server service bytes = refl

pub kept_turning : (n : Notes) (host : HostId) → n ≡ kept n (Turning host)
unfolding kept
kept_turning n host = refl

-- ---- the clock's lines

pub clocks_more : (n : ℕ) → texts (clocks (n + 1)) ≡ texts (clocks n) ++ event_text event.Clock []
clocks_more n = ap (λ (k : ℕ). texts (clocks k)) (let e : n + 1 ≡ suc n = omega arith in e) ∙ one_more n where
  one_more : (n : ℕ) → texts (clocks (suc n)) ≡ texts (clocks n) ++ event_text event.Clock []
  one_more zero = append-nil (event_text event.Clock [])
  one_more (suc n) = ap (λ (xs : List ℕ). event_text event.Clock [] ++ xs) (one_more n)
      ∙ sym (append_assoc (event_text event.Clock []) (texts (clocks n)) (event_text event.Clock []))

pub clocks_split : (i n : ℕ) → texts (clocks i) ++ texts (clocks n) ≡ texts (clocks (i + n))
clocks_split zero n = ap (λ (k : ℕ). texts (clocks k)) (let e : n ≡ 0 + n = omega arith in e)
clocks_split (suc i) n =
    append_assoc (event_text event.Clock []) (texts (clocks i)) (texts (clocks n))
    ∙ (ap (λ (xs : List ℕ). event_text event.Clock [] ++ xs) (clocks_split i n) ∙ ap (λ (k : ℕ). texts (clocks k))
    (let e : suc (i + n) ≡ suc i + n = omega arith in e))

-- one line more was taken
pub clock_taken : (i : ℕ) (old mid new : Option (List ℕ)) → mid ≡ appended old (texts (clocks i)) → new ≡ appended mid (event_text event.Clock [])
    → new ≡ appended old (texts (clocks (i + 1)))
clock_taken i old mid new so_far next =
    next ∙ (ap (λ (o : Option (List ℕ)). appended o (event_text event.Clock [])) so_far
    ∙ (appended-appended old (texts (clocks i)) (event_text event.Clock []) ∙ ap (appended old) (sym (clocks_more i))))

-- a front of the next line was taken
pub clock_front : (i n : ℕ) (old mid new : Option (List ℕ)) → i < n → mid ≡ appended old (texts (clocks i))
    → TookFront mid new (event_text event.Clock []) → TookFront old new (texts (clocks n))
clock_front i n old mid new h so_far t =
    let one = front_after old mid new (texts (clocks i)) (event_text event.Clock []) so_far t in
    let rest : i + 1 + (n - (i + 1)) ≡ n = omega (arith, h) in
    front_more old new (texts (clocks i) ++ event_text event.Clock []) (texts (clocks (n - (i + 1)))) (texts (clocks n)) one
    (ap (λ (xs : List ℕ). xs ++ texts (clocks (n - (i + 1)))) (sym (clocks_more i))
    ∙ (clocks_split (i + 1) (n - (i + 1)) ∙ ap (λ (k : ℕ). texts (clocks k)) rest))

-- ---- packets

pub ok_weaker : {T E : Type 0} (r : Result T E) (P Q : Type 0) → (P → Q) → OnOk r P → OnOk r Q
ok_weaker (Ok x) P Q f h = f h
ok_weaker (Err e) P Q f h = tt

pub kept_put : (n m : Notes) (s : Settings) (number : ℕ) (from to : HostId) (p : Packet) (payload frame bytes : List ℕ) → n.settings ≡ Some s
    → frame ≡ spelling s.wire (dated s n.tick p) payload → bytes ≡ frame
    → m ≡ record n { datagrams = n.datagrams ++ record { number = number; from = from; to = to; tick = n.tick; bytes = bytes } ∷ [] }
    → m ≡ keeps n.settings number from to (λ (u : Settings). spelling u.wire (dated u n.tick p) payload) n
kept_put n m s number from to p payload frame bytes is spelled same e =
    let holding : List ℕ → Notes =
    λ (xs : List ℕ). record n { datagrams = n.datagrams ++ record { number = number; from = from; to = to; tick = n.tick; bytes = xs } ∷ [] } in
    e ∙ (ap holding (same ∙ spelled)
    ∙ ap (λ (o : Option Settings). keeps o number from to (λ (u : Settings). spelling u.wire (dated u n.tick p) payload) n) (sym is))

told_of_send : (n : Notes) (number : ℕ) (from to : HostId) (inc : ℕ) (role : Role) (id : CallId) (level : ℕ) (body : Body) (payload : Bor (List ℕ))
    → told n (Tells (plain (entry.Send number from to inc role id level body payload))) ≡ []
unfolding told
told_of_send n number from to inc role id level body payload = refl

pub told_send : (n : Notes) (e : Entry) (number : ℕ) (from to : HostId) (inc : ℕ) (role : Role) (id : CallId) (level : ℕ) (body : Body)
    (payload : Bor (List ℕ)) → e ≡ entry.Send number from to inc role id level body payload → told n (Tells (plain e)) ≡ []
told_send n e number from to inc role id level body payload is =
    ap (λ (x : Entry). told n (Tells (plain x))) is ∙ told_of_send n number from to inc role id level body payload

packet_of : ℕ → Role → CallId → ℕ → Body → Packet
packet_of inc role id level body = record { role = role; level = level; sender = inc; inc = id.inc; seq = id.seq; at = 0; body = body }

kept_of_send : (n : Notes) (number : ℕ) (from to : HostId) (inc : ℕ) (role : Role) (id : CallId) (level : ℕ) (body : Body) (payload : Bor (List ℕ))
    → keeps n.settings number from to (λ (u : Settings). spelling u.wire (dated u n.tick (packet_of inc role id level body)) payload.now) n ≡ kept n
    (Tells (plain (entry.Send number from to inc role id level body payload)))
unfolding kept packet_of
kept_of_send n number from to inc role id level body payload = refl

pub kept_send : (n m : Notes) (e : Entry) (number : ℕ) (from to : HostId) (inc : ℕ) (role : Role) (id : CallId) (level : ℕ) (body copied : Body)
    (payload : Bor (List ℕ)) → e ≡ entry.Send number from to inc role id level body payload → copied ≡ body
    → m ≡ keeps n.settings number from to
    (λ (u : Settings). spelling u.wire
    (dated u n.tick (record { role = role; level = level; sender = inc; inc = id.inc; seq = id.seq; at = 0; body = copied })) payload.now) n
    → m ≡ kept n (Tells (plain e))
unfolding packet_of
kept_send n m e number from to inc role id level body copied payload is same eq =
    eq ∙ (ap (λ (b : Body). keeps n.settings number from to
    (λ (u : Settings). spelling u.wire (dated u n.tick (packet_of inc role id level b)) payload.now) n) same
    ∙ (kept_of_send n number from to inc role id level body payload ∙ ap (λ (x : Entry). kept n (Tells (plain x))) (sym is)))

-- ---- entries of which nothing is told

pub others : (n : Notes) (e : Entry)
    → ((x : Settings) → e ≡ entry.Settings x → ⊥)
    → ((a : CallId) (b : HostId) (c : ℕ) (d : Bor (List ℕ)) → e ≡ entry.Call a b c d → ⊥)
    → ((x : ℕ) → e ≡ entry.Clock x → ⊥)
    → ((a : ℕ) (b c : HostId) (d : ℕ) (f : Role) (g : CallId) (h : ℕ) (i : Body) (j : Bor (List ℕ)) → e ≡ entry.Send a b c d f g h i j → ⊥)
    → ((a b : HostId) (c : Bor (List ℕ)) → e ≡ entry.Recv a b c → ⊥)
    → (told n (Tells (plain e)) ≡ []) × (n ≡ kept n (Tells (plain e))) × (strange n (Tells (plain e)) ≡ false)
unfolding told kept
others n (entry.Settings x) p q r s t = absurd (p x refl)
others n (entry.Call a b c d) p q r s t = absurd (q a b c d refl)
others n (entry.Deliver packet) p q r s t = (refl, refl, refl)
others n (entry.Clock x) p q r s t = absurd (r x refl)
others n (entry.Restart host inc) p q r s t = (refl, refl, refl)
others n (entry.Inject host bytes) p q r s t = (refl, refl, refl)
others n (entry.Shift host m) p q r s t = (refl, refl, refl)
others n (entry.Junk host) p q r s t = (refl, refl, refl)
others n (entry.Stale host at now) p q r s t = (refl, refl, refl)
others n (entry.Send a b c d f g h i j) p q r s t = absurd (s a b c d f g h i j refl)
others n (entry.Run host id service request response hold) p q r s t = (refl, refl, refl)
others n (entry.Done id bytes) p q r s t = (refl, refl, refl)
others n (entry.Fail id why) p q r s t = (refl, refl, refl)
others n (entry.Drop host id) p q r s t = (refl, refl, refl)
others n (entry.Gaps host id) p q r s t = (refl, refl, refl)
others n (entry.Bury host id until) p q r s t = (refl, refl, refl)
others n (entry.Free host id) p q r s t = (refl, refl, refl)
others n (entry.FullRows host id rows limit) p q r s t = (refl, refl, refl)
others n (entry.FullPages host id need free) p q r s t = (refl, refl, refl)
others n (entry.Balance host cutoffs) p q r s t = (refl, refl, refl)
others n (entry.Recv a b c) p q r s t = absurd (t a b c refl)
others n (entry.Finished m) p q r s t = (refl, refl, refl)
others n (entry.Refused line fault) p q r s t = (refl, refl, refl)
others n (entry.Stalled turns now) p q r s t = (refl, refl, refl)
