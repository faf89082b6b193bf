-- Lines one after the other, and what no line within a step changes.
use Rattle.std.proofs.Common.{◌≡◌, ℕ, suc, ◌+◌, List, [], ◌∷◌, ◌++◌, length, map, refl, sym, ap, ◌∙◌, arith, append_assoc}
use Rattle.std.proofs.lemmas.Bool.{cond_both}
use Rattle.std.proofs.lemmas.List.{append-nil}
use Rattle.homa_plain.specs.declared.id.CallId.{CallId}
use Rattle.homa_plain.specs.declared.id.HostId.{HostId}
use Rattle.homa_plain.specs.declared.entry.Why.{Why}
use Rattle.homa_plain.specs.declared.entry.Why.TheVariants.{Timeout, Forgotten}
use Rattle.homa_plain.specs.Entries.{PlainEntry, PlainSettings, PlainCall, PlainDeliver, PlainClock, PlainRestart, PlainInject, PlainShift, PlainJunk}
use Rattle.homa_plain.specs.Entries.{PlainStale, PlainSend, PlainRun, PlainDone, PlainFail, PlainDrop, PlainGaps, PlainBury, PlainFree, PlainFullRows}
use Rattle.homa_plain.specs.Entries.{PlainFullPages, PlainBalance, PlainRecv, PlainFinished, PlainRefused, PlainStalled}
use Rattle.homa_plain.specs.Packets.{Packet, send_line}
use Rattle.homa_plain.specs.Host.{Told, Says, Sends, packets_in, entries_from}
use Rattle.trace_rules.specs.View.{View}
use Rattle.trace_rules.specs.Seen.{seen, seen_all, refused, failed, is_delivery_to}
use Rattle.trace_rules.specs.Laws.{Holds}
use Rattle.step_moves.proofs.Inner.{entries_from-append, IsInner, IsSaid, AllInner, said_inner}
use Rattle.trace_steps.specs.Told.{sent_of}

pub seen_all-append : (v : View) (a b : List PlainEntry) → seen_all v (a ++ b) ≡ seen_all (seen_all v a) b
seen_all-append v [] b = refl
seen_all-append v (line ∷ a) b = seen_all-append (seen v line) a b

-- what the lines say, with those of a move behind those of the moves before it
pub seen-told : (v : View) (n : ℕ) (a b : List Told) → seen_all v (entries_from n (a ++ b)) ≡ seen_all (seen_all v (entries_from n a))
    (entries_from (n + length (packets_in a)) b)
seen-told v n a b = ap (seen_all v) (entries_from-append n a b) ∙ seen_all-append v (entries_from n a) (entries_from (n + length (packets_in a)) b)

-- a law holds at lines that stand one behind the other
pub holds-append : (law : View → PlainEntry → Type 0) (v : View) (a b : List PlainEntry) → Holds law v a → Holds law (seen_all v a) b → Holds law v (a ++ b)
holds-append law v [] b first second = second
holds-append law v (line ∷ a) b first second = (first.0, holds-append law (seen v line) a b first.1 second)

-- what no line within a step changes
pub record SameSetting (v u : View) : Type 0 where
  pub settings : u.settings ≡ v.settings
  pub tick : u.tick ≡ v.tick
  pub leads : u.leads ≡ v.leads
  pub restarts : u.restarts ≡ v.restarts
  pub calls : u.calls ≡ v.calls

same_itself : (v : View) → SameSetting v v
same_itself v = record { settings = refl; tick = refl; leads = refl; restarts = refl; calls = refl }

same_then : (v u x : View) → SameSetting v u → SameSetting u x → SameSetting v x
same_then v u x a b =
    record {
      settings = b.settings ∙ a.settings;
      tick = b.tick ∙ a.tick;
      leads = b.leads ∙ a.leads;
      restarts = b.restarts ∙ a.restarts;
      calls = b.calls ∙ a.calls;
    }

same_refused : (v : View) (host : HostId) (id : CallId) → SameSetting v (refused v host id)
same_refused v host id =
    cond_both (is_delivery_to v host id) _ _ (SameSetting v)
    (λ _. record { settings = refl; tick = refl; leads = refl; restarts = refl; calls = refl })
    (λ _. record { settings = refl; tick = refl; leads = refl; restarts = refl; calls = refl })

same_failed : (v : View) (id : CallId) (why : Why) → SameSetting v (failed v id why)
same_failed v id Timeout = record { settings = refl; tick = refl; leads = refl; restarts = refl; calls = refl }
same_failed v id Forgotten = record { settings = refl; tick = refl; leads = refl; restarts = refl; calls = refl }

-- a line's place aside
as_seen : (v u x : View) → SameSetting v u → x.settings ≡ u.settings → x.tick ≡ u.tick → x.leads ≡ u.leads → x.restarts ≡ u.restarts
    → x.calls ≡ u.calls → SameSetting v x
as_seen v u x e a b c d f = same_then v u x e (record { settings = a; tick = b; leads = c; restarts = d; calls = f })

pub inner_same : (v : View) (line : PlainEntry) → IsInner line → SameSetting v (seen v line)
unfolding seen
inner_same v (PlainRun host id service request response hold) inner = record { settings = refl; tick = refl; leads = refl; restarts = refl; calls = refl }
inner_same v (PlainSend number from to inc role id level what payload) inner =
    record { settings = refl; tick = refl; leads = refl; restarts = refl; calls = refl }
inner_same v (PlainDone id bytes) inner = record { settings = refl; tick = refl; leads = refl; restarts = refl; calls = refl }
inner_same v (PlainFail id why) inner = as_seen v (failed v id why) (seen v (PlainFail id why)) (same_failed v id why) refl refl refl refl refl
inner_same v (PlainDrop host id) inner = record { settings = refl; tick = refl; leads = refl; restarts = refl; calls = refl }
inner_same v (PlainGaps host id) inner = as_seen v (refused v host id) (seen v (PlainGaps host id)) (same_refused v host id) refl refl refl refl refl
inner_same v (PlainBury host id until) inner = record { settings = refl; tick = refl; leads = refl; restarts = refl; calls = refl }
inner_same v (PlainFree host id) inner = record { settings = refl; tick = refl; leads = refl; restarts = refl; calls = refl }
inner_same v (PlainFullRows host id rows limit) inner = as_seen v (refused v host id) _ (same_refused v host id) refl refl refl refl refl
inner_same v (PlainFullPages host id need free) inner = as_seen v (refused v host id) _ (same_refused v host id) refl refl refl refl refl
inner_same v (PlainBalance host cutoffs) inner = record { settings = refl; tick = refl; leads = refl; restarts = refl; calls = refl }
inner_same v (PlainJunk host) inner = record { settings = refl; tick = refl; leads = refl; restarts = refl; calls = refl }
inner_same v (PlainStale host at now) inner = record { settings = refl; tick = refl; leads = refl; restarts = refl; calls = refl }
inner_same v line inner = absurd inner

-- what a move tells leaves all this
pub told_same : (v : View) (n : ℕ) (told : List Told) → AllInner told → SameSetting v (seen_all v (entries_from n told))
told_same v n [] inner = same_itself v
told_same v n (Says entry ∷ told) inner = same_then v (seen v entry) _ (inner_same v entry (said_inner entry inner.0)) (told_same (seen v entry) n told inner.1)
told_same v n (Sends packet ∷ told) inner =
    same_then v (seen v (send_line n packet)) _ (inner_same v (send_line n packet) tt) (told_same (seen v (send_line n packet)) (suc n) told inner)

-- ---- packets

packets_refused : (v : View) (host : HostId) (id : CallId) → (refused v host id).packets ≡ v.packets
packets_refused v host id = cond_both (is_delivery_to v host id) _ _ (λ (u : View). u.packets ≡ v.packets) (λ _. refl) (λ _. refl)

packets_failed : (v : View) (id : CallId) (why : Why) → (failed v id why).packets ≡ v.packets
packets_failed v id Timeout = refl
packets_failed v id Forgotten = refl

-- what a host says within a step is of no packet
pub said_packets : (v : View) (line : PlainEntry) → IsSaid line → (seen v line).packets ≡ v.packets
unfolding seen
said_packets v (PlainRun host id service request response hold) said = refl
said_packets v (PlainDone id bytes) said = refl
said_packets v (PlainFail id why) said = packets_failed v id why
said_packets v (PlainDrop host id) said = refl
said_packets v (PlainGaps host id) said = packets_refused v host id
said_packets v (PlainBury host id until) said = refl
said_packets v (PlainFree host id) said = refl
said_packets v (PlainFullRows host id rows limit) said = packets_refused v host id
said_packets v (PlainFullPages host id need free) said = packets_refused v host id
said_packets v (PlainBalance host cutoffs) said = refl
said_packets v (PlainJunk host) said = refl
said_packets v (PlainStale host at now) said = refl
said_packets v line said = absurd said

sent_more : (v : View) (n : ℕ) (packet : Packet) → (seen v (send_line n packet)).packets ≡ v.packets ++ sent_of packet ∷ []
unfolding seen
sent_more v n packet = refl

-- the packets, behind what a move tells
pub told_packets : (v : View) (n : ℕ) (told : List Told) → AllInner told → (seen_all v (entries_from n told)).packets ≡ v.packets
    ++ map sent_of (packets_in told)
told_packets v n [] inner = sym (append-nil v.packets)
told_packets v n (Says entry ∷ told) inner =
    told_packets (seen v entry) n told inner.1 ∙ ap (λ ps. ps ++ map sent_of (packets_in told)) (said_packets v entry inner.0)
told_packets v n (Sends packet ∷ told) inner = told_packets (seen v (send_line n packet)) (suc n) told inner
    ∙ ap (λ ps. ps ++ map sent_of (packets_in told)) (sent_more v n packet) ∙ append_assoc v.packets (sent_of packet ∷ []) (map sent_of (packets_in told))
