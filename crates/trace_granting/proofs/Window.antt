-- No more than a window beyond what has arrived is granted of a message, at each line but those of GRANTs.
use Rattle.std.proofs.Common.{◌≡◌, ℕ, suc, ◌+◌, ◌≤◌, true, false, not, ◌&&◌, Option, Some, None, List, [], ◌∷◌, length, min, refl, sym, ap, subst, ◌∙◌, arith}
use Rattle.std.specs.Prelude.{nat_lt, unwrap_or, slice_get}
use Rattle.std.specs.List.{AllByRecursion}
use Rattle.std.proofs.lemmas.Bool.{cond_both}
use Rattle.plain_sets.specs.Maps.{get, insert, remove, len}
use Rattle.plain_sets.proofs.MoreCounts.{len-grows}
use Rattle.homa_plain.specs.declared.id.CallId.{CallId}
use Rattle.homa_plain.specs.declared.id.HostId.{HostId}
use Rattle.homa_plain.specs.declared.packet.Role.{Role}
use Rattle.homa_plain.specs.declared.packet.Body.{Body}
use Rattle.homa_plain.specs.declared.packet.Body.TheVariants as body
use Rattle.homa_plain.specs.declared.entry.Why.{Why}
use Rattle.homa_plain.specs.declared.entry.Why.TheVariants.{Timeout, Forgotten}
use Rattle.homa_plain.specs.declared.settings.Settings.{Settings}
use Rattle.homa_plain.specs.Wire.{is_client}
use Rattle.homa_plain.specs.Calls.{is_host, is_call}
use Rattle.homa_plain.specs.Entries.{PlainEntry, PlainCall, PlainDeliver, PlainInject, PlainSend, PlainRun, PlainDone, PlainFail, PlainDrop}
use Rattle.homa_plain.specs.Entries.{PlainGaps, PlainBury, PlainFree, PlainFullRows, PlainFullPages, PlainBalance, PlainJunk, PlainStale}
use Rattle.homa_plain.specs.Packets.{Packet, send_line, sender, receiver}
use Rattle.homa_plain.specs.Host.{Told, Says, Sends, packets_in, entries_from}
use Rattle.trace_rules.specs.Parts.{Part, Parts, opened, grown}
use Rattle.trace_rules.specs.View.{View, Called, Sent, Progress, is_server_of, sent_last, counts, has_run}
use Rattle.trace_rules.specs.Seen as lines
use Rattle.trace_rules.specs.Seen.{seen, seen_all, refused, failed, finished, dropped, said, renewed, heard, counted, admitted, to_server, to_client}
use Rattle.trace_rules.specs.Seen.{is_delivery_to}
use Rattle.trace_rules.specs.Laws.{Holds}
use Rattle.trace_rules.specs.Granting.{IsWithinAt, IsWithin, Granting, IsAllowed}
use Rattle.trace_steps.specs.Told.{sent_of}
use Rattle.trace_steps.proofs.Lines.{inner_same}
use Rattle.step_moves.proofs.Inner.{said_inner, AllInner, IsSaid}
use Rattle.trace_steps.proofs.Progress.{get-set, get-gone}
use Rattle.trace_steps.proofs.PartLines.{is_grant}

-- no part, whether it is a message or not, is granted more than a window beyond what has arrived of it
abbrev pub IsBoundedAt : ℕ → Option Part → Type 0
IsBoundedAt window None = Unit {0}
IsBoundedAt window (Some p) = p.granted ≤ len p.arrived + window

abbrev pub PartsWithin : ℕ → Progress → Type 0
PartsWithin window m = (id : CallId) → IsBoundedAt window (get m.requests id) × IsBoundedAt window (get m.responses id)

bounded_within : (window : ℕ) (o : Option Part) → IsBoundedAt window o → IsWithinAt window o
bounded_within window None k = tt
bounded_within window (Some p) k = λ t. k

pub parts_within : (window : ℕ) (v : View) → v.settings.window ≡ window → PartsWithin window v.now → IsWithin v
parts_within window v e k id =
    let a = (k id).0 in
    let b = (k id).1 in
    subst (λ (n : ℕ). IsWithinAt n (get v.now.requests id) × IsWithinAt n (get v.now.responses id)) (sym e)
    (bounded_within window (get v.now.requests id) a, bounded_within window (get v.now.responses id) b)

-- ---- one map

module _ (window : ℕ) where
  within_gone : (parts : Parts) (id q : CallId) → IsBoundedAt window (get parts q) → IsBoundedAt window (get (remove parts id) q)
  within_gone parts id q k =
      subst (IsBoundedAt window) (sym (get-gone parts id q)) (cond_both (is_call q id) None (get parts q) (IsBoundedAt window) (λ _. tt) (λ _. k))

  within_set : (parts : Parts) (id : CallId) (p : Part) (q : CallId) → p.granted ≤ len p.arrived + window → IsBoundedAt window (get parts q)
      → IsBoundedAt window (get (insert parts id p) q)
  within_set parts id p q new k =
      subst (IsBoundedAt window) (sym (get-set parts id p q)) (cond_both (is_call q id) (Some p) (get parts q) (IsBoundedAt window) (λ _. new) (λ _. k))

  within_finished : (id : CallId) (m : Progress) → PartsWithin window m → PartsWithin window (finished id m)
  within_finished id m k q = ((k q).0, within_gone m.responses id q (k q).1)

  within_dropped : (v : View) (host : HostId) (id : CallId) (m : Progress) → PartsWithin window m → PartsWithin window (dropped v host id m)
  within_dropped v host id m k = cond_both (is_server_of v id host) _ _ (PartsWithin window) (λ _ q. (within_gone m.requests id q (k q).0, (k q).1)) (λ _. k)

  -- a packet that is no GRANT
  within_said : (v : View) (p : Sent) (what : Body) (m : Progress) → is_grant what ≡ false → PartsWithin window m → PartsWithin window (said v p what m)
  within_said v p (body.Grant offset prio) m e k = absurd (true_false e) where
    true_false : true ≡ false → ⊥
    true_false e = cc
  within_said v p (body.Resend from to prio) m e k = cond_both (is_client p.role) _ _ (PartsWithin window) (λ _. k) (λ _. k)
  within_said v p (body.Data size offset version service ack) m e k =
      cond_both (is_client p.role && not (sent_last v p.id)) _ _ (PartsWithin window) (λ _. k) (λ _. k)
  within_said v p body.Busy m e k = k
  within_said v p (body.Cutoffs cutoffs) m e k = k
  within_said v p (body.Unknown reason) m e k = k
  within_said v p body.NeedAck m e k = k
  within_said v p (body.Ack more) m e k = k

  -- ---- deliveries

  within_heard : (p : Sent) (m : Progress) → PartsWithin window m → PartsWithin window (heard p m)
  within_heard p m k q = (
    (k q).0,
    cond_both (nat_lt (unwrap_or (get m.live p.id) 0) p.inc) (remove m.responses p.id) m.responses
        (λ (parts : Parts). IsBoundedAt window (get parts q)) (λ _. within_gone m.responses p.id q (k q).1) (λ _. (k q).1),
  )

  within_counted : (v : View) (p : Sent) (m : Progress) → PartsWithin window m → PartsWithin window (counted v p m)
  within_counted v p m k = cond_both (counts v m p) _ _ (PartsWithin window) (λ _. within_heard p m k) (λ _. k)

  -- more bytes of a part, or the first of one
  within_grown : (place a b : ℕ) (o : Option Part) (first : Part) → IsBoundedAt window o → first.granted ≤ len first.arrived + window
      → IsBoundedAt window (Some (grown place a b (unwrap_or o first)))
  within_grown place a b None first k new = omega (arith, new, len-grows first.arrived a (min b first.length))
  within_grown place a b (Some p) first k new = omega (arith, k, len-grows p.arrived a (min b p.length))

  module _ (s : Settings) (narrow : s.unsched ≤ window) (v : View) (same : v.settings ≡ s) (p : Sent) where
    opens_within : (h peer : HostId) (n : ℕ) → (opened h peer n v.settings.unsched).granted ≤ len (opened h peer n v.settings.unsched).arrived + window
    opens_within h peer n = omega (arith, narrow, ap (λ (x : Settings). x.unsched) same)

    within_server : (offset : ℕ) (m : Progress) (o : Option Called) → PartsWithin window m → PartsWithin window (to_server v p offset m o)
    within_server offset m None k = k
    within_server offset m (Some c) k =
        let first : Part = opened c.server p.id.client (length c.request) v.settings.unsched in
        let after : Part = grown v.place offset (offset + length p.payload) (unwrap_or (get m.requests p.id) first) in
        cond_both (is_host p.to c.server && not (has_run v c.server p.id)) _ _ (PartsWithin window)
        (λ _ q. (
          within_set m.requests p.id after q
              (within_grown v.place offset (offset + length p.payload) (get m.requests p.id) first (k p.id).0
              (opens_within c.server p.id.client (length c.request))) (k q).0,
          (k q).1,
        )) (λ _. k)

    within_client : (size offset : ℕ) (m : Progress) → PartsWithin window m → PartsWithin window (to_client v p size offset m)
    within_client size offset m k =
        let first : Part = opened p.to p.from size v.settings.unsched in
        let after : Part = grown v.place offset (offset + length p.payload) (unwrap_or (get m.responses p.id) first) in
        cond_both (counts v m p) _ _ (PartsWithin window)
        (λ _ q. (
          (k q).0,
          within_set m.responses p.id after q
              (within_grown v.place offset (offset + length p.payload) (get m.responses p.id) first (k p.id).1 (opens_within p.to p.from size)) (k q).1,
        )) (λ _. k)

    within_admitted : (m : Progress) (what : Body) → PartsWithin window m → PartsWithin window (admitted v p m what)
    within_admitted m (body.Data size offset version service ack) k =
        cond_both (is_client p.role) _ _ (PartsWithin window) (λ _. within_server offset m (get v.calls p.id) k) (λ _. within_client size offset m k)
    within_admitted m (body.Grant offset prio) k = k
    within_admitted m (body.Resend from to prio) k = k
    within_admitted m body.Busy k = k
    within_admitted m (body.Cutoffs cutoffs) k = k
    within_admitted m (body.Unknown reason) k = k
    within_admitted m body.NeedAck k = k
    within_admitted m (body.Ack more) k = k

-- ---- lines of a step, before its GRANTs

-- whether a delivery is refused, stale or none of that
pub record AllWithin (s : Settings) (v : View) : Type 0 where
  pub settings : v.settings ≡ s
  pub now : PartsWithin s.window v.now
  pub if_refused : PartsWithin s.window v.if_refused
  pub if_stale : PartsWithin s.window v.if_stale

pub deliver_within : (s : Settings) (v : View) (n : ℕ) → s.unsched ≤ s.window → v.settings ≡ s → PartsWithin s.window v.now
    → AllWithin s (seen v (PlainDeliver n))
unfolding seen
deliver_within s v n narrow same k = by_packet (slice_get v.packets n) where
  b : View
  b = lines.begun v

  by_packet : (o : Option Sent) → AllWithin s (record (lines.delivered b o) { place = v.place + 1; ended = (seen v (PlainDeliver n)).ended })
  by_packet None = record { settings = same; now = k; if_refused = k; if_stale = k }
  by_packet (Some p) =
      let un : PartsWithin s.window (counted b p (record b.now { came = Some p })) = within_counted s.window b p (record b.now { came = Some p }) k in
      record {
        settings = same;
        now = within_admitted s.window s narrow b same p (counted b p (record b.now { came = Some p })) p.body un;
        if_refused = un;
        if_stale = k;
      }

pub inject_within : (s : Settings) (v : View) (host : HostId) (bytes : List ℕ) → v.settings ≡ s → PartsWithin s.window v.now
    → AllWithin s (seen v (PlainInject host bytes))
unfolding seen
inject_within s v host bytes same k = record { settings = same; now = k; if_refused = k; if_stale = k }

pub call_within : (s : Settings) (v : View) (id : CallId) (server : HostId) (service : ℕ) (request : List ℕ) → v.settings ≡ s
    → PartsWithin s.window v.now → AllWithin s (seen v (PlainCall id server service request))
unfolding seen
call_within s v id server service request same k = record { settings = same; now = k; if_refused = k; if_stale = k }

refused_within : (s : Settings) (v : View) (host : HostId) (id : CallId) → AllWithin s v → AllWithin s (refused v host id)
refused_within s v host id k =
    cond_both (is_delivery_to v host id) _ _ (AllWithin s)
    (λ _. record { settings = k.settings; now = k.if_refused; if_refused = k.if_refused; if_stale = k.if_stale }) (λ _. k)

failed_within : (s : Settings) (v : View) (id : CallId) (why : Why) → AllWithin s v → AllWithin s (failed v id why)
failed_within s v id Timeout k =
    record {
      settings = k.settings;
      now = within_finished s.window id v.now k.now;
      if_refused = within_finished s.window id v.if_refused k.if_refused;
      if_stale = within_finished s.window id v.if_stale k.if_stale;
    }
failed_within s v id Forgotten k =
    record {
      settings = k.settings;
      now = within_finished s.window id v.now k.now;
      if_refused = within_finished s.window id v.if_refused k.if_refused;
      if_stale = within_finished s.window id v.if_stale k.if_stale;
    }

as_line : (s : Settings) (v u : View) → AllWithin s v → u.settings ≡ v.settings → u.now ≡ v.now → u.if_refused ≡ v.if_refused
    → u.if_stale ≡ v.if_stale → AllWithin s u
as_line s v u k a b c d = record {
  settings = a ∙ k.settings;
  now = subst (PartsWithin s.window) (sym b) k.now;
  if_refused = subst (PartsWithin s.window) (sym c) k.if_refused;
  if_stale = subst (PartsWithin s.window) (sym d) k.if_stale;
}

said_within : (s : Settings) (v : View) (line : PlainEntry) → IsSaid line → AllWithin s v → AllWithin s (seen v line)
unfolding seen
said_within s v (PlainRun host id service request response hold) said k = as_line s v _ k refl refl refl refl
said_within s v (PlainDone id bytes) said k =
    record {
      settings = k.settings;
      now = within_finished s.window id v.now k.now;
      if_refused = within_finished s.window id v.if_refused k.if_refused;
      if_stale = within_finished s.window id v.if_stale k.if_stale;
    }
said_within s v (PlainFail id why) said k = as_line s (failed v id why) _ (failed_within s v id why k) refl refl refl refl
said_within s v (PlainDrop host id) said k =
    record {
      settings = k.settings;
      now = within_dropped s.window v host id v.now k.now;
      if_refused = within_dropped s.window v host id v.if_refused k.if_refused;
      if_stale = within_dropped s.window v host id v.if_stale k.if_stale;
    }
said_within s v (PlainGaps host id) said k = as_line s (refused v host id) _ (refused_within s v host id k) refl refl refl refl
said_within s v (PlainBury host id until) said k = as_line s v _ k refl refl refl refl
said_within s v (PlainFree host id) said k = as_line s v _ k refl refl refl refl
said_within s v (PlainFullRows host id rows limit) said k = as_line s (refused v host id) _ (refused_within s v host id k) refl refl refl refl
said_within s v (PlainFullPages host id need free) said k = as_line s (refused v host id) _ (refused_within s v host id k) refl refl refl refl
said_within s v (PlainBalance host cutoffs) said k = as_line s v _ k refl refl refl refl
said_within s v (PlainJunk host) said k = as_line s v _ k refl refl refl refl
said_within s v (PlainStale host at now) said k = record { settings = k.settings; now = k.if_stale; if_refused = k.if_stale; if_stale = k.if_stale }
said_within s v line said k = absurd said

sent_within : (s : Settings) (v : View) (n : ℕ) (p : Packet) → is_grant p.body ≡ false → AllWithin s v → AllWithin s (seen v (send_line n p))
unfolding seen
sent_within s v n p e k = record {
  settings = k.settings;
  now = within_said s.window v (sent_of p) p.body v.now e k.now;
  if_refused = within_said s.window v (sent_of p) p.body v.if_refused e k.if_refused;
  if_stale = within_said s.window v (sent_of p) p.body v.if_stale e k.if_stale;
}

-- no GRANT is among these packets
abbrev pub NoGrants : List Packet → Type 0
NoGrants ps = AllByRecursion (λ (p : Packet). is_grant p.body ≡ false) ps

unallowed : (v : View) (from to : HostId) (role : Role) (id : CallId) (what : Body) → is_grant what ≡ false → IsAllowed v from to role id what
unallowed v from to role id (body.Grant offset prio) e = absurd (true_false e) where
  true_false : true ≡ false → ⊥
  true_false e = cc
unallowed v from to role id what e = tt

granting_said : (v : View) (line : PlainEntry) → IsSaid line → IsWithin (seen v line) → Granting v line
granting_said v (PlainSend number from to inc role id level what payload) said k = absurd said
granting_said v line said k = k

pub granting_sent : (v : View) (n : ℕ) (p : Packet) → is_grant p.body ≡ false → IsWithin (seen v (send_line n p)) → Granting v (send_line n p)
granting_sent v n p e k = (unallowed v (sender p) (receiver p) p.role p.id p.body e, k)

-- the law holds at the lines of a move that gives no GRANT
pub told_granting : (s : Settings) (v : View) (n : ℕ) (told : List Told) → AllInner told → NoGrants (packets_in told) → AllWithin s v
    → Holds Granting v (entries_from n told) × AllWithin s (seen_all v (entries_from n told))
told_granting s v n [] inner none k = (tt, k)
told_granting s v n (Says entry ∷ told) inner none k =
    let a = said_within s v entry inner.0 k in
    let r = told_granting s (seen v entry) n told inner.1 none a in
    ((granting_said v entry inner.0 (parts_within s.window (seen v entry) (ap (λ (x : Settings). x.window) a.settings) a.now), r.0), r.1)
told_granting s v n (Sends p ∷ told) inner none k =
    let a = sent_within s v n p none.0 k in
    let r = told_granting s (seen v (send_line n p)) (suc n) told inner none.1 a in
    ((granting_sent v n p none.0 (parts_within s.window (seen v (send_line n p)) (ap (λ (x : Settings). x.window) a.settings) a.now), r.0), r.1)

-- ---- lines of a step, where no delivery is refused any more

pub record NowWithin (s : Settings) (v : View) : Type 0 where
  pub settings : v.settings ≡ s
  pub now : PartsWithin s.window v.now

abbrev pub IsLate : PlainEntry → Type 0
IsLate (PlainGaps host id) = ⊥
IsLate (PlainFullRows host id rows limit) = ⊥
IsLate (PlainFullPages host id need free) = ⊥
IsLate (PlainStale host at now) = ⊥
IsLate line = IsSaid line

abbrev pub AllLate : List Told → Type 0
AllLate [] = Unit {0}
AllLate (Says entry ∷ told) = IsLate entry × AllLate told
AllLate (Sends packet ∷ told) = AllLate told

late_said : (entry : PlainEntry) → IsLate entry → IsSaid entry
late_said (PlainGaps host id) late = absurd late
late_said (PlainFullRows host id rows limit) late = absurd late
late_said (PlainFullPages host id need free) late = absurd late
late_said (PlainStale host at now) late = absurd late
late_said line late = late

failed_now : (window : ℕ) (v : View) (id : CallId) (why : Why) → PartsWithin window v.now → PartsWithin window (failed v id why).now
failed_now window v id Timeout k = within_finished window id v.now k
failed_now window v id Forgotten k = within_finished window id v.now k

late_now : (window : ℕ) (v : View) (line : PlainEntry) → IsLate line → PartsWithin window v.now → PartsWithin window (seen v line).now
unfolding seen
late_now window v (PlainRun host id service request response hold) late k = k
late_now window v (PlainDone id bytes) late k = within_finished window id v.now k
late_now window v (PlainFail id why) late k = failed_now window v id why k
late_now window v (PlainDrop host id) late k = within_dropped window v host id v.now k
late_now window v (PlainBury host id until) late k = k
late_now window v (PlainFree host id) late k = k
late_now window v (PlainBalance host cutoffs) late k = k
late_now window v (PlainJunk host) late k = k
late_now window v line late k = absurd late

sent_now : (window : ℕ) (v : View) (n : ℕ) (p : Packet) → is_grant p.body ≡ false → PartsWithin window v.now → PartsWithin window (seen v (send_line n p)).now
unfolding seen
sent_now window v n p e k = within_said window v (sent_of p) p.body v.now e k

-- the law holds at the lines of such a move, if it gives no GRANT
pub told_late : (s : Settings) (v : View) (n : ℕ) (told : List Told) → AllLate told → NoGrants (packets_in told) → NowWithin s v
    → Holds Granting v (entries_from n told) × NowWithin s (seen_all v (entries_from n told))
told_late s v n [] late none k = (tt, k)
told_late s v n (Says entry ∷ told) late none k =
    let said = late_said entry late.0 in
    let a : NowWithin s (seen v entry) =
    record { settings = (inner_same v entry (said_inner entry said)).settings ∙ k.settings; now = late_now s.window v entry late.0 k.now } in
    let r = told_late s (seen v entry) n told late.1 none a in
    ((granting_said v entry said (parts_within s.window (seen v entry) (ap (λ (x : Settings). x.window) a.settings) a.now), r.0), r.1)
told_late s v n (Sends p ∷ told) late none k =
    let a : NowWithin s (seen v (send_line n p)) =
    record { settings = (inner_same v (send_line n p) tt).settings ∙ k.settings; now = sent_now s.window v n p none.0 k.now } in
    let r = told_late s (seen v (send_line n p)) (suc n) told late none.1 a in
    ((granting_sent v n p none.0 (parts_within s.window (seen v (send_line n p)) (ap (λ (x : Settings). x.window) a.settings) a.now), r.0), r.1)
