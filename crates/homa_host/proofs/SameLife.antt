-- Each step keeps its host's name, life and clock.
use Rattle.std.proofs.Common.{◌≡◌, ◌-◌, ℕ, zero, suc, Bool, true, false, Option, Some, None, List, [], ◌∷◌, ◌++◌, length, refl, ap, subst, ◌∙◌}
use Rattle.std.specs.Prelude.{◌==◌, nat_lt}
use Rattle.std.proofs.lemmas.Bool.{cond_both}
use Rattle.plain_sets.specs.Maps.{get}
use Rattle.homa_plain.specs.declared.id.CallId.{CallId}
use Rattle.homa_plain.specs.declared.id.HostId.{HostId}
use Rattle.homa_plain.specs.declared.packet.Role.{Role}
use Rattle.homa_plain.specs.declared.packet.Role.TheVariants.{Client, Server}
use Rattle.homa_plain.specs.declared.packet.Body.{Body}
use Rattle.homa_plain.specs.declared.packet.Body.TheVariants as body
use Rattle.homa_plain.specs.declared.settings.Settings.{Settings}
use Rattle.homa_plain.specs.Timers.{due}
use Rattle.homa_plain.specs.SentNext.{least}
use Rattle.homa_plain.specs.Grants.{grants, Granted}
use Rattle.homa_plain.specs.Outgoing.{next_range}
use Rattle.homa_plain.specs.Packets.{Packet, sender, acks}
use Rattle.homa_plain.specs.Rows.{ClientRow, ServerRow, set_row, State, Receiving, Held, Replying, Buried}
use Rattle.homa_plain.specs.Host.{Host, finished_at, peer_cutoffs, packets_in}
use Rattle.homa_plain.specs.Rules.{Answer, Did}
use Rattle.homa_plain.specs.Tombstones.{server_acked}
use Rattle.homa_plain.specs.Timers.{Place, OfClient, OfServer, Timer, timer_key, timers, client_acts, server_acts}
use Rattle.homa_plain.specs.Sending.{Arriving, arrivals, response_content}
use Rattle.homa_plain.specs.SentNext.{Leaving, leaving_key, departures}
use Rattle.homa_plain.specs.Work.{Work, now_of, begun, tells, said}
use Rattle.homa_plain.specs.Credit.{refilled}
use Rattle.homa_plain.specs.CutoffsPackets.{notes, tells_cutoffs}
use Rattle.homa_plain.specs.FiveAcks.{acknowledged, finishes}
use Rattle.homa_plain.specs.Steps.{asked, served, moment}
use Rattle.homa_plain.specs.CutoffsPackets.{is_newer, hears_cutoffs}
use Rattle.homa_plain.specs.Steps.{comes_to_row, acked, takes, comes, client_acted, server_acted, acts_at, all_act}
use Rattle.homa_plain.specs.OldPackets.{is_stale}
use Rattle.homa_plain.specs.Steps.{acts, client_is_granted, server_is_granted, grants_at, all_granted, gives_grants}
use Rattle.homa_plain.specs.SentNext.{request_leaves, response_leaves}
use Rattle.homa_plain.specs.SentNext.{client_leaves, state_leaves, server_leaves, leaves_from, first_leaves, pumped_once, pumps}
use Rattle.homa_plain.specs.Steps.{ended, starts}
use Rattle.homa_plain.specs.Steps.{call_step, arrival_step, turn_step}
use Rattle.step_laws.proofs.StepEnd.{left}

abbrev pub life : Host → HostId × ℕ × ℕ
life h = (h.id, h.inc, h.last)

abbrev SameLife : Work → Work → Type 0
SameLife v w = life v.host ≡ life w.host

notes-life : (s : Settings) (o : Option ℕ) (w : Work) → life (notes s o w).host ≡ life w.host
notes-life s None w = refl
notes-life s (Some n) w = refl

cutoffs-life : (s : Settings) (role : Role) (id : CallId) (server : HostId) (o : Option ℕ) (w : Work)
    → life (tells_cutoffs s role id server o w).host ≡ life w.host
cutoffs-life s role id server None w = refl
cutoffs-life s role id server (Some version) w =
    cond_both (version == w.host.tuning.own.version) _ _ (λ (v : Work). life v.host ≡ life w.host) (λ _. refl) (λ _. refl)

acknowledged-life : (s : Settings) (server : HostId) (calls : List (ℕ × ℕ)) (w : Work) → life (acknowledged s server calls w).host ≡ life w.host
acknowledged-life s server [] w = refl
acknowledged-life s server (call ∷ calls) w = cond_both (nat_lt (length calls) 4) _ _ (λ (v : Work). life v.host ≡ life w.host) (λ _. refl) (λ _. refl)

finishes-life : (s : Settings) (id : CallId) (server : HostId) (done : Bool) (w : Work) → life (finishes s id server done w).host ≡ life w.host
finishes-life s id server false w = refl
finishes-life s id server true w = acknowledged-life s server (finished_at w.host server ++ (id.inc, id.seq) ∷ []) w

asked-life : (s : Settings) (id : CallId) (server : HostId) (did : Did ClientRow) (w : Work) → life (asked s id server did w).host ≡ life w.host
unfolding asked
asked-life s id server did w =
    let put : Work = record w { host = record w.host { order = did.order; clients = set_row w.host.clients id did.row } } in
    let noted : Work = notes s did.opened put in
    let reply : Work = tells_cutoffs s Client id server did.version noted in
    finishes-life s id server did.finished (tells (said s w.host Client id server did.says) reply) ∙ cutoffs-life s Client id server did.version noted
    ∙ notes-life s did.opened put

served-life : (s : Settings) (id : CallId) (did : Did ServerRow) (w : Work) → life (served s id did w).host ≡ life w.host
unfolding served
served-life s id did w =
    let put : Work = record w { host = record w.host { order = did.order; servers = set_row w.host.servers id did.row } } in
    cutoffs-life s Server id w.host.id did.version (notes s did.opened put) ∙ notes-life s did.opened put

hears-life : (s : Settings) (peer : HostId) (inc : ℕ) (what : Body) (w : Work) → life (hears_cutoffs s peer inc what w).host ≡ life w.host
hears-life s peer inc (body.Cutoffs cutoffs) w =
    cond_both (is_newer inc cutoffs (peer_cutoffs s w.host peer)) _ _ (λ (v : Work). life v.host ≡ life w.host) (λ _. refl) (λ _. refl)
hears-life s peer inc (body.Data size offset version service ack) w = refl
hears-life s peer inc (body.Grant offset prio) w = refl
hears-life s peer inc (body.Resend from to prio) w = refl
hears-life s peer inc body.Busy w = refl
hears-life s peer inc (body.Unknown reason) w = refl
hears-life s peer inc body.NeedAck w = refl
hears-life s peer inc (body.Ack more) w = refl

acts_at-life : (s : Settings) (place : Place) (w : Work) → life (acts_at s place w).host ≡ life w.host
acts_at-life s (OfClient id) w = at (get w.host.clients id) where
  at : (o : Option ClientRow) → life (client_acted s id o w).host ≡ life w.host
  at None = refl
  at (Some r) = asked-life s id r.server (client_acts s (moment s id w) id r) w
acts_at-life s (OfServer id) w = at (get w.host.servers id) where
  at : (o : Option ServerRow) → life (server_acted s id o w).host ≡ life w.host
  at None = refl
  at (Some r) = served-life s id (server_acts s (moment s id w) id r) w

to_row-life : (s : Settings) (p : Packet) (a : Answer) (role : Role) (w : Work) → life (comes_to_row s p a role w).host ≡ life w.host
to_row-life s p a Client w = served-life s p.id _ w
to_row-life s p a Server w = asked-life s p.id p.server _ w

-- ---- grants and the pump

granted-life : (s : Settings) (place : Place) (offset prio : ℕ) (w : Work) → life (grants_at s place offset prio w).host ≡ life w.host
granted-life s (OfClient id) offset prio w = at (get w.host.clients id) where
  at : (o : Option ClientRow) → life (client_is_granted s id (body.Grant offset prio) offset o w).host ≡ life w.host
  at None = refl
  at (Some r) = refl
granted-life s (OfServer id) offset prio w = at (get w.host.servers id) where
  at : (o : Option ServerRow) → life (server_is_granted s id (body.Grant offset prio) offset o w).host ≡ life w.host
  at None = refl
  at (Some r) = refl

all_granted-life : (s : Settings) (gs : List (Granted Arriving)) (w : Work) → life (all_granted s gs w).host ≡ life w.host
all_granted-life s [] w = refl
all_granted-life s (g ∷ gs) w = all_granted-life s gs (grants_at s g.to.place g.offset g.prio w) ∙ granted-life s g.to.place g.offset g.prio w

none : {A : Type 0} (v : Work) → None ≡ Some v → A
none v e = cc

client_leaves-life : (s : Settings) (id : CallId) (o : Option ClientRow) (w v : Work) → client_leaves s id o w ≡ Some v → life v.host ≡ life w.host
client_leaves-life s id None w v e = none v e
client_leaves-life s id (Some r) w v e =
    let l = left (next_range r.out s.seg) w v (λ range. request_leaves s id r range w) e in
    subst (λ (u : Work). life u.host ≡ life w.host) l.is refl

state_leaves-life : (s : Settings) (id : CallId) (row : ServerRow) (state : State) (w v : Work) → state_leaves s id row state w ≡ Some v
    → life v.host ≡ life w.host
state_leaves-life s id row (Replying response out order base count) w v e =
    let l = left (next_range out s.seg) w v
    (λ range. response_leaves s id row (response_content s (peer_cutoffs s w.host id.client).cutoffs response out range) range w) e in
    subst (λ (u : Work). life u.host ≡ life w.host) l.is refl
state_leaves-life s id row (Receiving service part base count) w v e = none v e
state_leaves-life s id row (Held response release) w v e = none v e
state_leaves-life s id row (Buried until) w v e = none v e

server_leaves-life : (s : Settings) (id : CallId) (o : Option ServerRow) (w v : Work) → server_leaves s id o w ≡ Some v → life v.host ≡ life w.host
server_leaves-life s id None w v e = none v e
server_leaves-life s id (Some row) w v e = state_leaves-life s id row row.state w v e

leaves_from-life : (s : Settings) (place : Place) (w v : Work) → leaves_from s place w ≡ Some v → life v.host ≡ life w.host
leaves_from-life s (OfClient id) w v e = client_leaves-life s id (get w.host.clients id) w v e
leaves_from-life s (OfServer id) w v e = server_leaves-life s id (get w.host.servers id) w v e

first_leaves-life : (s : Settings) (o : Option Leaving) (w v : Work) → first_leaves s o w ≡ Some v → life v.host ≡ life w.host
first_leaves-life s None w v e = none v e
first_leaves-life s (Some l) w v e = leaves_from-life s l.place w v e

once-life : (s : Settings) (w v : Work) → pumped_once s w ≡ Some v → life v.host ≡ life w.host
unfolding pumped_once
once-life s w v e = first_leaves-life s (least leaving_key (departures s (now_of w) w.host)) w v e

pumps-life : (s : Settings) (n : ℕ) (w : Work) → life (pumps s n w).host ≡ life w.host
unfolding pumps
pumps-life s zero w = refl
pumps-life s (suc n) w =
    elim (pumped_once s w) as (λ o. pumped_once s w ≡ o → SameLife (elim o [ None ↦ w | Some after ↦ pumps s n after ]) w) [
      | None ↦ λ e. refl
      | Some v ↦ λ e. pumps-life s n v ∙ once-life s w v e
    ] refl

pub ended-life : (s : Settings) (w : Work) → life (ended s w).host ≡ life w.host
ended-life s w =
    let v : Work = gives_grants s w in
    pumps-life s (64 - length (packets_in v.told)) v ∙ all_granted-life s (grants (λ (a : Arriving). a.message) s.overcommit s.window (arrivals w.host)) w

-- ---- steps

acked-life : (s : Settings) (ids : List CallId) (w : Work) → life (acked s ids w).host ≡ life w.host
acked-life s [] w = refl
acked-life s (id ∷ ids) w =
    let did = server_acked s (moment s id w) id (get w.host.servers id) in
    acked-life s ids (served s id did w) ∙ served-life s id did w

takes-life : (s : Settings) (p : Packet) (a : Answer) (w : Work) → life (takes s p a w).host ≡ life w.host
unfolding takes
takes-life s p a w =
    let v : Work = hears_cutoffs s (sender p) p.inc p.body w in
    acked-life s (acks p) (comes_to_row s p a p.role v) ∙ to_row-life s p a p.role v ∙ hears-life s (sender p) p.inc p.body w

comes-life : (s : Settings) (o : Option Packet) (a : Answer) (w : Work) → life (comes s o a w).host ≡ life w.host
comes-life s None a w = refl
comes-life s (Some p) a w = cond_both (is_stale s (now_of w) p) _ _ (λ (v : Work). life v.host ≡ life w.host) (λ _. refl) (λ _. takes-life s p a w)

all_act-life : (s : Settings) (ts : List Timer) (w : Work) → life (all_act s ts w).host ≡ life w.host
all_act-life s [] w = refl
all_act-life s (t ∷ ts) w = all_act-life s ts (acts_at s t.place w) ∙ acts_at-life s t.place w

refilled-life : (s : Settings) (h : Host) → life (refilled s h) ≡ life h
refilled-life s h = cond_both (nat_lt h.refilled h.last) _ _ (λ (g : Host). life g ≡ life h) (λ _. refl) (λ _. refl)

pub call-life : (s : Settings) (h : Host) (now : ℕ) (server : HostId) (service : ℕ) (request : List ℕ)
    → life (call_step s h now server service request).host ≡ (h.id, h.inc, now)
unfolding call_step
call-life s h now server service request = ended-life s (starts s server service request (begun h now))

pub arrival-life : (s : Settings) (h : Host) (now : ℕ) (o : Option Packet) (a : Answer) → life (arrival_step s h now o a).host ≡ (h.id, h.inc, now)
unfolding arrival_step
arrival-life s h now o a = ended-life s (comes s o a (begun h now)) ∙ comes-life s o a (begun h now)

pub turn-life : (s : Settings) (h : Host) (now : ℕ) → life (turn_step s h now).host ≡ (h.id, h.inc, now)
unfolding turn_step
turn-life s h now =
    let filled : Host = refilled s (record h { last = now }) in
    ended-life s (acts s (begun filled now)) ∙ all_act-life s (due timer_key (now_of (begun filled now)) (timers s filled)) (begun filled now)
    ∙ ap (λ (l : HostId × ℕ × ℕ). (l.0, l.1, now)) (refilled-life s (record h { last = now }))
