-- The entries of a whole step are those of its marks.
use Rattle.std.proofs.Common.{◌≡◌, ℕ, suc, Bool, true, false, Option, Some, None, List, [], ◌∷◌, ◌++◌, length, refl, sym, ap, subst, ◌∙◌}
use Rattle.std.specs.Prelude.{◌==◌, nat_lt, IfSome, unwrap_or}
use Rattle.std.specs.List.{AllByRecursion, Contains}
use Rattle.std.proofs.lemmas.Bool.{cond_both}
use Rattle.plain_sets.specs.Maps.{get}
use Rattle.step_laws.proofs.Places.{all-append}
use Rattle.homa_plain.specs.declared.id.CallId.{CallId}
use Rattle.homa_plain.specs.declared.id.HostId.{HostId}
use Rattle.homa_plain.specs.declared.packet.Role.{Role}
use Rattle.homa_plain.specs.declared.packet.Role.TheVariants.{Client, Server}
use Rattle.homa_plain.specs.declared.packet.Body.{Body}
use Rattle.homa_plain.specs.declared.packet.Body.TheVariants as body
use Rattle.homa_plain.specs.declared.settings.Settings.{Settings}
use Rattle.homa_plain.specs.Timers.{due}
use Rattle.homa_plain.specs.Entries.{PlainEntry, PlainSettings, PlainCall, PlainDeliver, PlainClock, PlainRestart, PlainInject, PlainShift, PlainJunk}
use Rattle.homa_plain.specs.Entries.{PlainStale, PlainSend, PlainRun, PlainDone, PlainFail, PlainDrop, PlainGaps, PlainBury, PlainFree, PlainFullRows}
use Rattle.homa_plain.specs.Entries.{PlainFullPages, PlainBalance, PlainRecv, PlainFinished, PlainRefused, PlainStalled}
use Rattle.homa_plain.specs.Packets.{Packet, sender, acks}
use Rattle.homa_plain.specs.Rows.{ClientRow, ServerRow, set_row}
use Rattle.homa_plain.specs.Host.{Host, Told, Says, Sends, finished_at}
use Rattle.homa_plain.specs.Rules.{Answer, Did}
use Rattle.homa_plain.specs.Tombstones.{server_acked}
use Rattle.homa_plain.specs.Timers.{Place, OfClient, OfServer, Timer, timer_key, timers, client_acts, server_acts}
use Rattle.homa_plain.specs.Work.{Work, now_of, begun, tells, said}
use Rattle.homa_plain.specs.Credit.{refilled}
use Rattle.homa_plain.specs.CutoffsPackets.{notes, tells_cutoffs}
use Rattle.homa_plain.specs.FiveAcks.{acknowledged, finishes}
use Rattle.homa_plain.specs.Steps.{asked, served, moment}
use Rattle.homa_plain.specs.CutoffsPackets.{is_newer, hears_cutoffs}
use Rattle.homa_plain.specs.Steps.{comes_to_row, acked, takes, comes, client_acted, server_acted, acts_at, all_act}
use Rattle.homa_plain.specs.OldPackets.{is_stale}
use Rattle.homa_plain.specs.Steps.{acts, next_id, starts, call_step, arrival_step, turn_step, new_call}
use Rattle.homa_plain.specs.Host.{peer_cutoffs}
use Rattle.host_view.specs.declared.outbox.SentFrame.{SentFrame}
use Rattle.host_view.specs.Seen.{Seen}
use Rattle.host_view.specs.Marks.{shown, mark_of, marks_from, request_of, response_of, IsReply, IsWhole, IsShown}
use Rattle.host_laws.proofs.Keeps.{ended-keeps}
use Rattle.step_laws.proofs.Others.{get-set_row}
use Rattle.step_laws.proofs.OneAnswer.{answer_told}
use Rattle.plain_sets.proofs.OrderFirst.{all_from}
use Rattle.std.specs.Option.{option_map}
use Rattle.host_laws.specs.Bytes.{IsOwnEntry, IsOwnTold}
use Rattle.host_laws.proofs.OwnTold.{AreOwn, to_client-own, to_server-own, hears-own, acked_one-own, acts_at-own, ended-told}

-- ---- a host keeps its name

notes-id : (s : Settings) (o : Option ℕ) (w : Work) → (notes s o w).host.id ≡ w.host.id
notes-id s None w = refl
notes-id s (Some n) w = refl

cutoffs-id : (s : Settings) (role : Role) (id : CallId) (server : HostId) (o : Option ℕ) (w : Work) → (tells_cutoffs s role id server o w).host.id ≡ w.host.id
cutoffs-id s role id server None w = refl
cutoffs-id s role id server (Some version) w =
    cond_both (version == w.host.tuning.own.version) _ _ (λ (v : Work). v.host.id ≡ w.host.id) (λ _. refl) (λ _. refl)

acknowledged-id : (s : Settings) (server : HostId) (calls : List (ℕ × ℕ)) (w : Work) → (acknowledged s server calls w).host.id ≡ w.host.id
acknowledged-id s server [] w = refl
acknowledged-id s server (call ∷ calls) w = cond_both (nat_lt (length calls) 4) _ _ (λ (v : Work). v.host.id ≡ w.host.id) (λ _. refl) (λ _. refl)

finishes-id : (s : Settings) (id : CallId) (server : HostId) (done : Bool) (w : Work) → (finishes s id server done w).host.id ≡ w.host.id
finishes-id s id server false w = refl
finishes-id s id server true w = acknowledged-id s server (finished_at w.host server ++ (id.inc, id.seq) ∷ []) w

asked-id : (s : Settings) (id : CallId) (server : HostId) (did : Did ClientRow) (w : Work) → (asked s id server did w).host.id ≡ w.host.id
unfolding asked
asked-id s id server did w =
    let put : Work = record w { host = record w.host { order = did.order; clients = set_row w.host.clients id did.row } } in
    let noted : Work = notes s did.opened put in
    let reply : Work = tells_cutoffs s Client id server did.version noted in
    finishes-id s id server did.finished (tells (said s w.host Client id server did.says) reply) ∙ cutoffs-id s Client id server did.version noted
    ∙ notes-id s did.opened put

served-id : (s : Settings) (id : CallId) (did : Did ServerRow) (w : Work) → (served s id did w).host.id ≡ w.host.id
unfolding served
served-id s id did w =
    let put : Work = record w { host = record w.host { order = did.order; servers = set_row w.host.servers id did.row } } in
    cutoffs-id s Server id w.host.id did.version (notes s did.opened put) ∙ notes-id s did.opened put

hears-id : (s : Settings) (peer : HostId) (inc : ℕ) (what : Body) (w : Work) → (hears_cutoffs s peer inc what w).host.id ≡ w.host.id
hears-id s peer inc (body.Cutoffs cutoffs) w =
    cond_both (is_newer inc cutoffs (peer_cutoffs s w.host peer)) _ _ (λ (v : Work). v.host.id ≡ w.host.id) (λ _. refl) (λ _. refl)
hears-id s peer inc (body.Data size offset version service ack) w = refl
hears-id s peer inc (body.Grant offset prio) w = refl
hears-id s peer inc (body.Resend from to prio) w = refl
hears-id s peer inc body.Busy w = refl
hears-id s peer inc (body.Unknown reason) w = refl
hears-id s peer inc body.NeedAck w = refl
hears-id s peer inc (body.Ack more) w = refl

acts_at-id : (s : Settings) (place : Place) (w : Work) → (acts_at s place w).host.id ≡ w.host.id
acts_at-id s (OfClient id) w = at (get w.host.clients id) where
  at : (o : Option ClientRow) → (client_acted s id o w).host.id ≡ w.host.id
  at None = refl
  at (Some r) = asked-id s id r.server (client_acts s (moment s id w) id r) w
acts_at-id s (OfServer id) w = at (get w.host.servers id) where
  at : (o : Option ServerRow) → (server_acted s id o w).host.id ≡ w.host.id
  at None = refl
  at (Some r) = served-id s id (server_acts s (moment s id w) id r) w

to_row-id : (s : Settings) (p : Packet) (a : Answer) (role : Role) (w : Work) → (comes_to_row s p a role w).host.id ≡ w.host.id
to_row-id s p a Client w = served-id s p.id _ w
to_row-id s p a Server w = asked-id s p.id p.server _ w

-- ---- what a step tells is its host's own

no : {A : Type 0} → false ≡ true → A
no e = cc

module _ (full : Bool) (host : HostId) (now : ℕ) (s : Settings) where
  acked-own : (ids : List CallId) (w : Work) → w.host.id ≡ host → AreOwn full host now w → AreOwn full host now (acked s ids w)
  acked-own [] w same own = own
  acked-own (id ∷ ids) w same own =
      let did : Did ServerRow = server_acked s (moment s id w) id (get w.host.servers id) in
      acked-own ids (served s id did w) (served-id s id did w ∙ same) (acked_one-own full host now s id w same own)

  to_row-own : full ≡ true → (p : Packet) (a : Answer) (role : Role) (w : Work) → w.host.id ≡ host → (role ≡ Server → p.id.client ≡ host)
      → AreOwn full host now w → AreOwn full host now (comes_to_row s p a role w)
  to_row-own f p a Client w same of_host own = to_server-own full host now s f p a w same own
  to_row-own f p a Server w same of_host own = to_client-own full host now s f p a w same (of_host refl) own

  takes-own : full ≡ true → (p : Packet) (a : Answer) (w : Work) → w.host.id ≡ host → (p.role ≡ Server → p.id.client ≡ host) → AreOwn full host now w
      → AreOwn full host now (takes s p a w)
  unfolding takes
  takes-own f p a w same of_host own =
      let v : Work = hears_cutoffs s (sender p) p.inc p.body w in
      let same_v : v.host.id ≡ host = hears-id s (sender p) p.inc p.body w ∙ same in
      acked-own (acks p) (comes_to_row s p a p.role v) (to_row-id s p a p.role v ∙ same_v)
      (to_row-own f p a p.role v same_v of_host (hears-own full host now s (sender p) p.inc p.body w own))

  comes-own : full ≡ true → (o : Option Packet) (a : Answer) (w : Work) → w.host.id ≡ host → w.host.last ≡ now
      → IfSome o (λ (p : Packet). p.role ≡ Server → p.id.client ≡ host) → AreOwn full host now w → AreOwn full host now (comes s o a w)
  comes-own f None a w same clock of_host own = all-append (IsOwnTold full host now) w.told _ own (same, tt)
  comes-own f (Some p) a w same clock of_host own =
      cond_both (is_stale s (now_of w) p) _ _ (AreOwn full host now) (λ _. all-append (IsOwnTold full host now) w.told _ own ((same, clock), tt))
      (λ _. takes-own f p a w same of_host own)

  all_act-own : (ts : List Timer) (w : Work) → w.host.id ≡ host → AreOwn full host now w → AreOwn full host now (all_act s ts w)
  all_act-own [] w same own = own
  all_act-own (t ∷ ts) w same own = all_act-own ts (acts_at s t.place w) (acts_at-id s t.place w ∙ same) (acts_at-own full host now s t.place w same own)

  pub arrival-own : full ≡ true → (h : Host) (o : Option Packet) (a : Answer) → h.id ≡ host
      → IfSome o (λ (p : Packet). p.role ≡ Server → p.id.client ≡ host) → AreOwn full host now (arrival_step s h now o a)
  unfolding arrival_step
  arrival-own f h o a same of_host =
      ended-told (IsOwnTold full host now) (λ p. tt) s (comes s o a (begun h now)) (comes-own f o a (begun h now) same refl of_host tt)

  refilled-id : (h : Host) → (refilled s h).id ≡ h.id
  refilled-id h = cond_both (nat_lt h.refilled h.last) _ _ (λ (g : Host). g.id ≡ h.id) (λ _. refl) (λ _. refl)

  pub turn-own : (h : Host) → h.id ≡ host → AreOwn full host now (turn_step s h now)
  unfolding turn_step
  turn-own h same =
      let w : Work = begun (refilled s (record h { last = now })) now in
      ended-told (IsOwnTold full host now) (λ p. tt) s (acts s w)
      (all_act-own (due timer_key (now_of w) (timers s w.host)) w (refilled-id (record h { last = now }) ∙ same) tt)

-- ---- entries and their marks

-- the bytes of a response are those of its row
abbrev pub HasBytes : Host → Told → Type 0
HasBytes h (Says (PlainRun host id service request response hold)) = response_of h id ≡ response
HasBytes h told = Unit {0}

entry-shown : (full : Bool) (h : Seen) (whole : List ℕ) (e : PlainEntry) → IsOwnEntry full h.host.id h.host.last e → IsWhole whole (Says e)
    → HasBytes h.host (Says e) → (frames : List SentFrame) → shown h frames whole (mark_of e) ≡ e
entry-shown full h whole (PlainSettings settings) own is bytes frames = absurd own
entry-shown full h whole (PlainCall id server service request) own is bytes frames = absurd own
entry-shown full h whole (PlainDeliver packet) own is bytes frames = absurd own
entry-shown full h whole (PlainClock tick) own is bytes frames = absurd own
entry-shown full h whole (PlainRestart host inc) own is bytes frames = absurd own
entry-shown full h whole (PlainInject host request) own is bytes frames = absurd own
entry-shown full h whole (PlainShift host n) own is bytes frames = absurd own
entry-shown full h whole (PlainJunk host) own is bytes frames = ap PlainJunk (sym own)
entry-shown full h whole (PlainStale host at now) own is bytes frames = λ i. PlainStale (sym own.0 i) at (sym own.1 i)
entry-shown full h whole (PlainSend number from to inc role id level what payload) own is bytes frames = absurd own
entry-shown full h whole (PlainRun host id service request response hold) own is bytes frames = λ i. PlainRun (sym own.0 i) id service (sym is i) (bytes i) hold
entry-shown full h whole (PlainDone id message) own is bytes frames = ap (PlainDone id) (sym is)
entry-shown full h whole (PlainFail id why) own is bytes frames = refl
entry-shown full h whole (PlainDrop host id) own is bytes frames = λ i. PlainDrop (sym own i) id
entry-shown full h whole (PlainGaps host id) own is bytes frames = λ i. PlainGaps (sym own i) id
entry-shown full h whole (PlainBury host id until) own is bytes frames = λ i. PlainBury (sym own i) id until
entry-shown full h whole (PlainFree host id) own is bytes frames = λ i. PlainFree (sym own i) id
entry-shown full h whole (PlainFullRows host id rows limit) own is bytes frames = λ i. PlainFullRows (sym own i) id rows limit
entry-shown full h whole (PlainFullPages host id need free) own is bytes frames = λ i. PlainFullPages (sym own i) id need free
entry-shown full h whole (PlainBalance host cutoffs) own is bytes frames = λ i. PlainBalance (sym own i) cutoffs
entry-shown full h whole (PlainRecv host from datagram) own is bytes frames = absurd own
entry-shown full h whole (PlainFinished n) own is bytes frames = absurd own
entry-shown full h whole (PlainRefused line fault) own is bytes frames = absurd own
entry-shown full h whole (PlainStalled turns now) own is bytes frames = absurd own

pub told-shown : (full : Bool) (h : Seen) (whole : List ℕ) (told : List Told) → AllByRecursion (IsOwnTold full h.host.id h.host.last) told
    → AllByRecursion (IsWhole whole) told → AllByRecursion (HasBytes h.host) told
    → AllByRecursion (IsShown h whole) told
told-shown full h whole [] own is bytes = tt
told-shown full h whole (Says e ∷ told) own is bytes = (entry-shown full h whole e own.0 is.0 bytes.0, told-shown full h whole told own.1 is.1 bytes.1)
told-shown full h whole (Sends p ∷ told) own is bytes = (tt, told-shown full h whole told own.1 is.1 bytes.1)

-- where nothing is whole, there is no message and no response to be told
none-whole : (host : HostId) (now : ℕ) (h : Host) (whole : List ℕ) (told : List Told) → AllByRecursion (IsOwnTold false host now) told
    → AllByRecursion (IsWhole whole) told × AllByRecursion (HasBytes h) told
none-whole host now h whole [] own = (tt, tt)
none-whole host now h whole (Says e ∷ told) own =
    let rest = none-whole host now h whole told own.1 in let one = entry-none host now h whole e own.0 in ((one.0, rest.0), (one.1, rest.1)) where
      entry-none : (host : HostId) (now : ℕ) (h : Host) (whole : List ℕ) (e : PlainEntry) → IsOwnEntry false host now e
          → IsWhole whole (Says e) × HasBytes h (Says e)
      entry-none host now h whole (PlainSettings settings) own = (tt, tt)
      entry-none host now h whole (PlainCall id server service request) own = (tt, tt)
      entry-none host now h whole (PlainDeliver packet) own = (tt, tt)
      entry-none host now h whole (PlainClock tick) own = (tt, tt)
      entry-none host now h whole (PlainRestart of inc) own = (tt, tt)
      entry-none host now h whole (PlainInject of request) own = (tt, tt)
      entry-none host now h whole (PlainShift of n) own = (tt, tt)
      entry-none host now h whole (PlainJunk of) own = (tt, tt)
      entry-none host now h whole (PlainStale of tick n) own = (tt, tt)
      entry-none host now h whole (PlainSend number from to inc role id level what payload) own = (tt, tt)
      entry-none host now h whole (PlainRun of id service request response hold) own = no own.1
      entry-none host now h whole (PlainDone id message) own = no own
      entry-none host now h whole (PlainFail id why) own = (tt, tt)
      entry-none host now h whole (PlainDrop of id) own = (tt, tt)
      entry-none host now h whole (PlainGaps of id) own = (tt, tt)
      entry-none host now h whole (PlainBury of id until) own = (tt, tt)
      entry-none host now h whole (PlainFree of id) own = (tt, tt)
      entry-none host now h whole (PlainFullRows of id rows limit) own = (tt, tt)
      entry-none host now h whole (PlainFullPages of id need free) own = (tt, tt)
      entry-none host now h whole (PlainBalance of cutoffs) own = (tt, tt)
      entry-none host now h whole (PlainRecv of from datagram) own = (tt, tt)
      entry-none host now h whole (PlainFinished n) own = (tt, tt)
      entry-none host now h whole (PlainRefused line fault) own = (tt, tt)
      entry-none host now h whole (PlainStalled turns n) own = (tt, tt)
none-whole host now h whole (Sends p ∷ told) own = let rest = none-whole host now h whole told own.1 in ((tt, rest.0), (tt, rest.1))

-- ---- whole steps

-- what runs tell is what the service answered
abbrev IsRunBy : Answer → Told → Type 0
IsRunBy a (Says (PlainRun host id service request response hold)) = response ≡ a.bytes
IsRunBy a told = Unit {0}

replies : (h : Host) (a : Answer) (n : ℕ) (told : List Told) → AllByRecursion (IsReply h a) (marks_from n told) → AllByRecursion (IsRunBy a) told
    → AllByRecursion (HasBytes h) told
replies h a n [] reply runs = tt
replies h a n (Says e ∷ told) reply runs = (at e reply.0 runs.0, replies h a n told reply.1 runs.1) where
  at : (e : PlainEntry) → IsReply h a (mark_of e) → IsRunBy a (Says e) → HasBytes h (Says e)
  at (PlainSettings settings) reply run = tt
  at (PlainCall id server service request) reply run = tt
  at (PlainDeliver packet) reply run = tt
  at (PlainClock tick) reply run = tt
  at (PlainRestart of inc) reply run = tt
  at (PlainInject of request) reply run = tt
  at (PlainShift of n) reply run = tt
  at (PlainJunk of) reply run = tt
  at (PlainStale of tick n) reply run = tt
  at (PlainSend number from to inc role id level what payload) reply run = tt
  at (PlainRun of id service request response hold) reply run = sym (ap (λ (b : Answer). b.bytes) reply) ∙ sym run
  at (PlainDone id message) reply run = tt
  at (PlainFail id why) reply run = tt
  at (PlainDrop of id) reply run = tt
  at (PlainGaps of id) reply run = tt
  at (PlainBury of id until) reply run = tt
  at (PlainFree of id) reply run = tt
  at (PlainFullRows of id rows limit) reply run = tt
  at (PlainFullPages of id need free) reply run = tt
  at (PlainBalance of cutoffs) reply run = tt
  at (PlainRecv of from datagram) reply run = tt
  at (PlainFinished n) reply run = tt
  at (PlainRefused line fault) reply run = tt
  at (PlainStalled turns n) reply run = tt
replies h a n (Sends p ∷ told) reply runs = (tt, replies h a (suc n) told reply.1 runs.1)

runs-by : (s : Settings) (h : Host) (now : ℕ) (o : Option Packet) (a : Answer) → AllByRecursion (IsRunBy a) (arrival_step s h now o a).told
runs-by s h now o a = all_from (IsRunBy a) (arrival_step s h now o a).told (λ t c. at t c) where
  at : (t : Told) → Contains (arrival_step s h now o a).told t → IsRunBy a t
  at (Says (PlainSettings settings)) c = tt
  at (Says (PlainCall id server service request)) c = tt
  at (Says (PlainDeliver packet)) c = tt
  at (Says (PlainClock tick)) c = tt
  at (Says (PlainRestart of inc)) c = tt
  at (Says (PlainInject of request)) c = tt
  at (Says (PlainShift of n)) c = tt
  at (Says (PlainJunk of)) c = tt
  at (Says (PlainStale of tick n)) c = tt
  at (Says (PlainSend number from to inc role id level what payload)) c = tt
  at (Says (PlainRun of id service request response hold)) c = (answer_told s h now o a of id service request response hold c).0
  at (Says (PlainDone id message)) c = tt
  at (Says (PlainFail id why)) c = tt
  at (Says (PlainDrop of id)) c = tt
  at (Says (PlainGaps of id)) c = tt
  at (Says (PlainBury of id until)) c = tt
  at (Says (PlainFree of id)) c = tt
  at (Says (PlainFullRows of id rows limit)) c = tt
  at (Says (PlainFullPages of id need free)) c = tt
  at (Says (PlainBalance of cutoffs)) c = tt
  at (Says (PlainRecv of from datagram)) c = tt
  at (Says (PlainFinished n)) c = tt
  at (Says (PlainRefused line fault)) c = tt
  at (Says (PlainStalled turns n)) c = tt
  at (Sends p) c = tt

pub arrival-shown : (s : Settings) (h : Host) (now : ℕ) (o : Option Packet) (a : Answer) (h' : Seen) (whole : List ℕ) → h'.host.id ≡ h.id → h'.host.last ≡ now
    → IfSome o (λ (p : Packet). p.role ≡ Server → p.id.client ≡ h.id) → h'.marks ≡ marks_from 0 (arrival_step s h now o a).told
    → AllByRecursion (IsReply h'.host a) h'.marks
    → AllByRecursion (IsWhole whole) (arrival_step s h now o a).told → AllByRecursion (IsShown h' whole) (arrival_step s h now o a).told
arrival-shown s h now o a h' whole name clock of_host marks reply is =
    let told : List Told = (arrival_step s h now o a).told in
    told-shown true h' whole told
    (subst (λ last. AllByRecursion (IsOwnTold true h'.host.id last) told) (sym clock)
    (subst (λ host. AllByRecursion (IsOwnTold true host now) told) (sym name) (arrival-own true h.id now s refl h o a refl of_host))) is
    (replies h'.host a 0 told (subst (AllByRecursion (IsReply h'.host a)) marks reply) (runs-by s h now o a))

pub turn-shown : (s : Settings) (h : Host) (now : ℕ) (h' : Seen) (whole : List ℕ) → h'.host.id ≡ h.id → h'.host.last ≡ now
    → AllByRecursion (IsShown h' whole) (turn_step s h now).told
turn-shown s h now h' whole name clock =
    let told : List Told = (turn_step s h now).told in
    let own : AllByRecursion (IsOwnTold false h'.host.id h'.host.last) told =
    subst (λ last. AllByRecursion (IsOwnTold false h'.host.id last) told) (sym clock)
    (subst (λ host. AllByRecursion (IsOwnTold false host now) told) (sym name) (turn-own false h.id now s h refl)) in
    let none = none-whole h'.host.id h'.host.last h'.host whole told own in
    told-shown false h' whole told own none.0 none.1

-- the request of a call that starts stays in its row
call-bytes : (s : Settings) (h : Host) (now : ℕ) (server : HostId) (service : ℕ) (request : List ℕ)
    → request_of (call_step s h now server service request).host (next_id h) ≡ request
unfolding call_step
call-bytes s h now server service request =
    let w : Work = starts s server service request (begun h now) in
    (ended-keeps s w).requests (next_id h) ∙ ap (λ (o : Option ClientRow). unwrap_or (option_map (λ (r : ClientRow). r.request) o) [])
    (get-set_row h.clients (next_id h) (Some (new_call s now h.order server service request)))

pub call-shown : (s : Settings) (h : Host) (now : ℕ) (server : HostId) (service : ℕ) (request : List ℕ) (h' : Seen) (whole : List ℕ)
    → h'.host ≡ (call_step s h now server service request).host
    → AllByRecursion (IsShown h' whole) (call_step s h now server service request).told
unfolding call_step
call-shown s h now server service request h' whole is =
    ended-told (IsShown h' whole) (λ p. tt) s (starts s server service request (begun h now))
    ((λ frames. ap (PlainCall (next_id h) server service) (ap (λ g. request_of g (next_id h)) is ∙ call-bytes s h now server service request)), tt)
