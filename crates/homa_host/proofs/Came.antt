-- A packet that comes: too old, of a server, of a client.
use Rattle.std.proofs.Common.{inl, inr, ◌⊎◌, ◌≡◌, ◌≤◌, ◌+◌, ℕ, suc, Bool, true, false, not, cond, Option, Some, None, List, [], ◌∷◌, ◌++◌, length}
use Rattle.std.proofs.Common.{refl, sym, ap, subst, ◌∙◌, arith}
use Rattle.std.specs.Prelude.{◌==◌}
use Rattle.std.specs.List.{AllByRecursion}
use Rattle.std.proofs.lemmas.Bool.{true≢false, cond_both}
use Rattle.plain_sets.specs.Maps.{get}
use Rattle.homa_plain.specs.declared.id.CallId.{CallId}
use Rattle.homa_plain.specs.declared.id.HostId.{HostId}
use Rattle.homa_plain.specs.declared.packet.Body.{Body}
use Rattle.homa_plain.specs.declared.packet.Body.TheVariants as body
use Rattle.homa_plain.specs.declared.packet.Packet.{Packet as WirePacket}
use Rattle.homa_plain.specs.declared.packet.Role.{Role}
use Rattle.homa_plain.specs.declared.packet.Role.TheVariants.{Client, Server}
use Rattle.homa_plain.specs.declared.settings.Settings.{Settings}
use Rattle.homa_plain.specs.Calls.{is_call}
use Rattle.homa_plain.specs.Entries.{PlainEntry, PlainRun, PlainStale}
use Rattle.homa_plain.specs.Host.{Host, Told, Says, Sends, peer_cutoffs}
use Rattle.homa_plain.specs.Packets.{Packet, packet_between, sender_of, call_between, server_between, acks, acks_in}
use Rattle.homa_plain.specs.Rows.{ServerRow, State, Receiving, Held, Replying, Buried}
use Rattle.homa_plain.specs.Rules.{Answer, Moment, Say, Tells, Posts}
use Rattle.homa_plain.specs.AtServer.{server_gets, row_gets, unknown_gets}
use Rattle.homa_plain.specs.Tombstones.{server_acked, state_acked}
use Rattle.homa_plain.specs.AtClient.{client_gets}
use Rattle.homa_plain.specs.Steps.{Asked, asked_in, served, moment, comes_to_row, acked, takes}
use Rattle.homa_plain.specs.Work.{Work, begun, tells, said}
use Rattle.homa_plain.specs.CutoffsPackets.{hears_cutoffs, is_newer}
use Rattle.homa_plain.specs.OldPackets.{is_stale}
use Rattle.homa_plain.specs.Steps.{comes}
use Rattle.homa_plain.specs.Wire.{FitsKind, latest}
use Rattle.homa_plain.proofs.CallOrder.{calls_are}
use Rattle.step_laws.specs.StepLaws.{run_count}
use Rattle.step_laws.proofs.Places.{all-append}
use Rattle.step_laws.proofs.ToldBy.{Calm, calm_none, calm_then, acked_one-calm, hears_cutoffs-calm, asked-carried, served-carried, Carried, said-runs}
use Rattle.step_laws.proofs.ToldBy.{asks, run_count-append}
use Rattle.step_laws.proofs.Own.{AllOwn, runs_said, gets_own, gets_quiet}
use Rattle.host_view.specs.declared.mark.Mark.{Mark}
use Rattle.host_view.specs.declared.mark.Mark.TheVariants.{Ran}
use Rattle.host_view.specs.declared.outbox.SentFrame.{SentFrame}
use Rattle.host_view.specs.Marks.{mark_of, marks_from, has_ran, response_of, IsReply, IsAllowed, IsWhole}
use Rattle.host_state.specs.Control.{Control}
use Rattle.host_state.specs.Saying.{HasFitCutoffs}
use Rattle.homa_host.specs.Parts.{host_of, IsKept}
use Rattle.homa_host.specs.Amid.{Amid, HasCome}
use Rattle.homa_host.specs.declared.parts.HostParts.{HostParts}
use Rattle.homa_host.proofs.WholeLaws.{SayWhole, served-whole}
use Rattle.homa_host.proofs.Delivered.{TellsAlike, quiet_ran, no_replies, none_allowed, ran_append, asked_append, marks_append, left_of_all}
use Rattle.homa_host.proofs.Begun.{kept-control, sound-begun, amid-begun, amid-told}

-- ---- the plain packet

sender_is : (r : Role) (from me : HostId) (inc seq : ℕ) → sender_of r (call_between r from me inc seq) (server_between r from me) ≡ from
sender_is Client from me inc seq = refl
sender_is Server from me inc seq = refl

pub fit_cutoffs : (role : Role) (level : ℕ) (b : Body) (payload : List ℕ) → FitsKind role level b payload → HasFitCutoffs b
fit_cutoffs role level (body.Cutoffs c) payload fits = record { version = fits.1; levels = fits.2; bounds = fits.3 }
fit_cutoffs role level (body.Data size offset version service ack) payload fits = tt
fit_cutoffs role level (body.Grant offset prio) payload fits = tt
fit_cutoffs role level (body.Resend from to prio) payload fits = tt
fit_cutoffs role level body.Busy payload fits = tt
fit_cutoffs role level (body.Unknown reason) payload fits = tt
fit_cutoffs role level body.NeedAck payload fits = tt
fit_cutoffs role level (body.Ack more) payload fits = tt

-- a server acknowledges nothing
acks_none : (role : Role) (id : CallId) (level : ℕ) (b : Body) (payload : List ℕ) → FitsKind role level b payload → role ≡ Server → acks_in id b ≡ []
acks_none role id level (body.Data size offset version service None) payload fits e = refl
acks_none role id level (body.Data size offset version service (Some call)) payload fits e = absurd (no (sym (fits.of_response e).1)) where
  no : None ≡ Some call → ⊥
  no e = cc
acks_none role id level (body.Ack more) payload fits e = absurd (no (sym fits.1 ∙ e)) where
  no : Client ≡ Server → ⊥
  no e = cc
acks_none role id level (body.Grant offset prio) payload fits e = refl
acks_none role id level (body.Resend from to prio) payload fits e = refl
acks_none role id level body.Busy payload fits e = refl
acks_none role id level (body.Cutoffs c) payload fits e = refl
acks_none role id level (body.Unknown reason) payload fits e = refl
acks_none role id level body.NeedAck payload fits e = refl

module _ (s : Settings) (h : Host) (now : ℕ) (from me : HostId) (w : WirePacket) (payload : List ℕ) (a : Answer) where
  abbrev pub came : Packet
  came = packet_between from me w payload

  pub stale_comes : is_stale s now came ≡ true → comes s (Some came) a (begun h now) ≡ tells (Says (PlainStale h.id w.at now) ∷ []) (begun h now)
  stale_comes e = ap (λ b. cond b (tells (Says (PlainStale h.id w.at now) ∷ []) (begun h now)) (takes s came a (begun h now))) e

  pub fresh_comes : is_stale s now came ≡ false
      → comes s (Some came) a (begun h now) ≡ acked s (acks came) (comes_to_row s came a w.role (hears_cutoffs s from w.sender w.body (begun h now)))
  unfolding takes
  fresh_comes e =
      ap (λ b. cond b (tells (Says (PlainStale h.id w.at now) ∷ []) (begun h now)) (takes s came a (begun h now))) e
      ∙ ap (λ peer. acked s (acks came) (comes_to_row s came a w.role (hears_cutoffs s peer w.sender w.body (begun h now))))
      (sender_is w.role from me w.inc w.seq)

  pub server_comes : is_stale s now came ≡ false → w.role ≡ Server → FitsKind w.role w.level w.body payload
      → comes s (Some came) a (begun h now) ≡ comes_to_row s came a Server (hears_cutoffs s from w.sender w.body (begun h now))
  server_comes e role fits =
      fresh_comes e
      ∙ ap (λ ids. acked s ids (comes_to_row s came a w.role (hears_cutoffs s from w.sender w.body (begun h now))))
      (acks_none w.role came.id w.level w.body payload fits role)
      ∙ ap (λ r. comes_to_row s came a r (hears_cutoffs s from w.sender w.body (begun h now))) role

  pub client_comes : is_stale s now came ≡ false → w.role ≡ Client
      → comes s (Some came) a (begun h now) ≡ acked s (acks came) (comes_to_row s came a Client (hears_cutoffs s from w.sender w.body (begun h now)))
  client_comes e role = fresh_comes e ∙ ap (λ r. acked s (acks came) (comes_to_row s came a r (hears_cutoffs s from w.sender w.body (begun h now)))) role

-- ---- a step that tells one entry

-- a host began a step in tick `now`, and told one entry, of no run
pub record HasTold (o : HostParts) (now : ℕ) (entry : PlainEntry) (control : Control) : Type 0 where
  pub kept : IsKept (record o { control = control })
  pub amid : Amid (tells (Says entry ∷ []) (begun (host_of o) now)) (record o { control = control }) []
  pub steady : (out : List SentFrame) → out ≡ [] → HasCome now 10 4 2 o (record o { control = control }) out
  pub quiet : has_ran control.marks ≡ false

pub told_by : (o : HostParts) → IsKept o → (now : ℕ) → now ≤ 1000000002000 → o.control.last ≤ now → (entry : PlainEntry) → has_ran (mark_of entry ∷ []) ≡ false
    → (first told : Control) → first ≡ record o.control { last = now; marks = [] } → told ≡ record first { marks = first.marks ++ mark_of entry ∷ [] }
    → HasTold o now entry told
told_by o kept now clock later entry quiet first told begins tells =
    let m = mark_of entry in
    let both : told ≡ record o.control { last = now; marks = m ∷ [] } = tells ∙ ap (λ (k : Control). record k { marks = k.marks ++ m ∷ [] }) begins in
    let marks : told.marks ≡ m ∷ [] = ap (λ (k : Control). k.marks) both in
    record {
      kept = subst (λ (k : Control). IsKept (record o { control = k })) (sym both)
          (kept-control o (record o.control { last = now; marks = m ∷ [] })
          (record { settings = refl; id = refl; inc = refl; last = later; opened = refl })
          (sound-begun o.control now (m ∷ []) clock (omega arith) kept.control) kept);
      amid = amid-told (begun (host_of o) now) (record o { control = first }) told [] entry tells (amid-begun o first now begins);
      steady = λ out none. record {
        settings = ap (λ (k : Control). k.settings) both;
        id = ap (λ (k : Control). k.id) both;
        last = ap (λ (k : Control). k.last) both;
        marks_told = omega (arith, ap length marks);
        frames_sent = omega (arith, ap length none);
        order = omega arith;
      };
      quiet = ap has_ran marks ∙ quiet;
    }

-- ---- whose RUN is told

abbrev pub IsRunOf : CallId → Told → Type 0
IsRunOf id (Says (PlainRun host q service request response hold)) = q ≡ id
IsRunOf id told = Unit {0}

abbrev pub IsRanOf : CallId → Mark → Type 0
IsRanOf id (Ran q service hold) = q ≡ id
IsRanOf id m = Unit {0}

quiet_runs : (id : CallId) (told : List Told) → run_count told ≡ 0 → AllByRecursion (IsRunOf id) told
quiet_runs id [] e = tt
quiet_runs id (Says (PlainRun host q service request response hold) ∷ told) e = absurd (omega arith)
quiet_runs id (t ∷ told) e = (tt, quiet_runs id told e)

said_runs : (s : Settings) (h : Host) (n : HostId) (role : Role) (id : CallId) (server : HostId) (says : List Say) → AllOwn n id says
    → AllByRecursion (IsRunOf id) (said s h role id server says)
said_runs s h n role id server [] own = tt
said_runs s h n role id server (Tells (PlainRun host q service request response hold) ∷ says) own = (own.0.1, said_runs s h n role id server says own.1)
said_runs s h n role id server (Tells entry ∷ says) own = (tt, said_runs s h n role id server says own.1)
said_runs s h n role id server (Posts what ∷ says) own = (tt, said_runs s h n role id server says own)

pub ran_of : (id : CallId) (n : ℕ) (told : List Told) → AllByRecursion (IsRunOf id) told → AllByRecursion (IsRanOf id) (marks_from n told)
ran_of id n [] all = tt
ran_of id n (Says (PlainRun host q service request response hold) ∷ told) all = (all.0, ran_of id n told all.1)
ran_of id n (Says entry ∷ told) all = (tt, ran_of id n told all.1)
ran_of id n (Sends packet ∷ told) all = (tt, ran_of id (suc n) told all.1)

-- ---- how many RUNs are told

carried_count : (n end : ℕ) (says : List Told) (w v : Work) → Carried n end says w v → run_count v.told ≡ run_count w.told + run_count says
carried_count n end says w v c =
    ap run_count c.grown
    ∙ (let e : run_count (w.told ++ (c.before ++ (says ++ c.after))) ≡ run_count w.told + run_count says = omega (
      arith,
      run_count-append w.told (c.before ++ (says ++ c.after)),
      run_count-append c.before (says ++ c.after),
      run_count-append says c.after,
      c.quiet_before,
      c.quiet_after,
    ) in e)

asks_none : (says : List Say) → runs_said says ≡ false → asks says ≡ 0
asks_none [] e = refl
asks_none (Tells (PlainRun host id service request response hold) ∷ says) e = absurd (true≢false e)
asks_none (x ∷ says) e = asks_none says e

pub heard_count : (s : Settings) (peer : HostId) (inc : ℕ) (what : Body) (h : Host) (now : ℕ) → run_count (hears_cutoffs s peer inc what (begun h now)).told ≡ 0
heard_count s peer inc what h now = let calm = hears_cutoffs-calm s peer inc what (begun h now) in ap run_count calm.grown ∙ calm.quiet

-- a packet of a server asks no service
pub client_unrun : (s : Settings) (p : Packet) (a : Answer) (v : Work) → run_count v.told ≡ 0 → run_count (comes_to_row s p a Server v).told ≡ 0
client_unrun s p a v none =
    let did = client_gets s (moment s p.id v) p (get v.host.clients p.id) in
    let count = carried_count _ did.order (said s v.host Client p.id p.server did.says) v (comes_to_row s p a Server v) (asked-carried s p.id p.server did v) in
    let runs = said-runs s v.host Client p.id p.server did.says in
    let asked = asks_none did.says (gets_quiet s (moment s p.id v) p (get v.host.clients p.id)).1 in
    omega (arith, count, runs, asked, none)

-- nor does an ACK
ack_asks : (s : Settings) (m : Moment) (p : Packet) (a : Answer) (more : List (ℕ × ℕ)) (o : Option ServerRow) → p.body ≡ body.Ack more
    → asks (server_gets s m p a o).says ≡ 0
unfolding server_gets
ack_asks s m p a more None e = subst (λ (b : Body). asks (unknown_gets s m p.id b p.payload a).says ≡ 0) (sym e) refl
ack_asks s m p a more (Some row) e = subst (λ (b : Body). asks (row_gets s m p.id b p.payload a row row.state).says ≡ 0) (sym e) (by_state row.state) where
  by_state : (st : State) → asks (row_gets s m p.id (body.Ack more) p.payload a row st).says ≡ 0
  by_state (Receiving service part base count) = refl
  by_state (Held response release) = refl
  by_state (Replying response out order base count) = refl
  by_state (Buried until) = refl

pub ack_unrun : (s : Settings) (p : Packet) (a : Answer) (more : List (ℕ × ℕ)) (v : Work) → p.body ≡ body.Ack more → run_count v.told ≡ 0
    → run_count (comes_to_row s p a Client v).told ≡ 0
ack_unrun s p a more v e none =
    let did = server_gets s (moment s p.id v) p a (get v.host.servers p.id) in
    let count = carried_count _ did.order (said s v.host Server p.id v.host.id did.says) v (comes_to_row s p a Client v) (served-carried s p.id did v) in
    let runs = said-runs s v.host Server p.id v.host.id did.says in
    let asked = ack_asks s (moment s p.id v) p a more (get v.host.servers p.id) e in
    omega (arith, count, runs, asked, none)

-- the RUN of a packet of a client is of its call
pub own_run : (s : Settings) (p : Packet) (a : Answer) (v : Work) → run_count v.told ≡ 0 → AllByRecursion (IsRunOf p.id) (comes_to_row s p a Client v).told
own_run s p a v none =
    let did = server_gets s (moment s p.id v) p a (get v.host.servers p.id) in
    let c = served-carried s p.id did v in
    let said_here = said s v.host Server p.id v.host.id did.says in
    subst (AllByRecursion (IsRunOf p.id)) (sym c.grown)
    (all-append (IsRunOf p.id) v.told (c.before ++ (said_here ++ c.after)) (quiet_runs p.id v.told none)
    (all-append (IsRunOf p.id) c.before (said_here ++ c.after) (quiet_runs p.id c.before c.quiet_before)
    (all-append (IsRunOf p.id) said_here c.after
    (said_runs s v.host v.host.id Server p.id v.host.id did.says (gets_own s (moment s p.id v) p a (get v.host.servers p.id)))
    (quiet_runs p.id c.after c.quiet_after))))

-- a packet that is no ACK acknowledges other calls than its own
pub acks_others : (id : CallId) (b : Body) → ((more : List (ℕ × ℕ)) × (b ≡ body.Ack more)) ⊎ AllByRecursion (λ q. id ≡ q → ⊥) (acks_in id b)
acks_others id (body.Data size offset version service None) = inr tt
acks_others id (body.Data size offset version service (Some call)) = inr (by_test (is_call ridden id) refl) where
  ridden : CallId
  ridden = record { client = id.client; inc = call.0; seq = call.1 }

  by_test : (t : Bool) → is_call ridden id ≡ t → AllByRecursion (λ q. id ≡ q → ⊥) (cond (not t) (ridden ∷ []) [])
  by_test true e = tt
  by_test false e = (λ same. true≢false (sym ((calls_are ridden id).1 (sym same)) ∙ e), tt)
acks_others id (body.Ack more) = inl (more, refl)
acks_others id (body.Grant offset prio) = inr tt
acks_others id (body.Resend from to prio) = inr tt
acks_others id body.Busy = inr tt
acks_others id (body.Cutoffs c) = inr tt
acks_others id (body.Unknown reason) = inr tt
acks_others id body.NeedAck = inr tt

-- ---- calls that are over leave the service's answer to the packet's own call

pub acked_calm : (s : Settings) (ids : List CallId) (w : Work) → (n : ℕ) × Calm n w (acked s ids w)
acked_calm s [] w = (0, calm_none w)
acked_calm s (id ∷ ids) w =
    let v = served s id (server_acked s (moment s id w) id (get w.host.servers id)) w in
    let rest = acked_calm s ids v in
    (0 + rest.0, calm_then 0 rest.0 w v (acked s ids v) (acked_one-calm s id w) rest.1)

pub acked_asks : (s : Settings) (ids : List CallId) (w : Work) (q : Asked) → asked_in w.told ≡ Some q → asked_in (acked s ids w).told ≡ Some q
acked_asks s ids w q e = let c = acked_calm s ids w in ap asked_in c.1.grown ∙ asked_append w.told c.1.told q e

replies_at : (h k : Host) (id : CallId) → response_of k id ≡ response_of h id → (a : Answer) (ms : List Mark) → AllByRecursion (IsRanOf id) ms
    → AllByRecursion (IsReply h a) ms → AllByRecursion (IsReply k a) ms
replies_at h k id same a [] own all = tt
replies_at h k id same a (Ran q service hold ∷ ms) own all = (
  all.0 ∙ ap (λ (bytes : List ℕ). record { bytes = bytes; hold = hold }) (ap (response_of h) own.0 ∙ sym same ∙ sym (ap (response_of k) own.0)),
  replies_at h k id same a ms own.1 all.1,
)
replies_at h k id same a (m ∷ ms) own all = (tt, replies_at h k id same a ms own.1 all.1)

allowed_at : (h k : Host) (id : CallId) → response_of k id ≡ response_of h id
    → (allows : ℕ → List ℕ → List ℕ → ℕ → Type 0) (whole : List ℕ) (ms : List Mark) → AllByRecursion (IsRanOf id) ms
    → AllByRecursion (IsAllowed h allows whole) ms
    → AllByRecursion (IsAllowed k allows whole) ms
allowed_at h k id same allows whole [] own all = tt
allowed_at h k id same allows whole (Ran q service hold ∷ ms) own all = (
  subst (λ bytes. allows service whole bytes hold) (ap (response_of h) own.0 ∙ sym same ∙ sym (ap (response_of k) own.0)) all.0,
  allowed_at h k id same allows whole ms own.1 all.1,
)
allowed_at h k id same allows whole (m ∷ ms) own all = (tt, allowed_at h k id same allows whole ms own.1 all.1)

module _ (n : ℕ) (w v : Work) (calm : Calm n w v) (mid q : HostParts) (before after : List SentFrame) (amid : Amid w mid before)
    (ends : Amid v q after) (id : CallId) (own : AllByRecursion (IsRunOf id) w.told)
    (same : (has_ran mid.control.marks ≡ false) ⊎ (response_of (host_of q) id ≡ response_of (host_of mid) id)) where
  more : List Mark
  more = marks_from (marks_append 0 w.told calm.told).0 calm.told

  none : has_ran more ≡ false
  unfolding more
  none = quiet_ran _ calm.told calm.quiet

  marks_grown : q.control.marks ≡ mid.control.marks ++ more
  unfolding more
  marks_grown = ends.marked ∙ ap (marks_from 0) calm.grown ∙ (marks_append 0 w.told calm.told).1 ∙ ap (λ ms. ms ++ more) (sym amid.marked)

  own_marks : AllByRecursion (IsRanOf id) mid.control.marks
  own_marks = subst (AllByRecursion (IsRanOf id)) (sym amid.marked) (ran_of id 0 w.told own)

  over_ran : has_ran q.control.marks ≡ has_ran mid.control.marks
  over_ran = ap has_ran marks_grown ∙ ran_append mid.control.marks more none

  over_back : (a : Answer) → AllByRecursion (IsReply (host_of q) a) q.control.marks → AllByRecursion (IsReply (host_of mid) a) mid.control.marks
  over_back a all = elim same [
    | inl quiet ↦ no_replies (host_of mid) a mid.control.marks quiet
    | inr e ↦ replies_at (host_of q) (host_of mid) id (sym e) a mid.control.marks own_marks
        (left_of_all (IsReply (host_of q) a) mid.control.marks more (subst (AllByRecursion (IsReply (host_of q) a)) marks_grown all))
  ]

  over_on : (a : Answer) → AllByRecursion (IsReply (host_of mid) a) mid.control.marks → AllByRecursion (IsReply (host_of q) a) q.control.marks
  over_on a all = elim same [
    | inl quiet ↦ no_replies (host_of q) a q.control.marks (over_ran ∙ quiet)
    | inr e ↦ subst (AllByRecursion (IsReply (host_of q) a)) (sym marks_grown)
        (all-append (IsReply (host_of q) a) mid.control.marks more (replies_at (host_of mid) (host_of q) id e a mid.control.marks own_marks all)
        (no_replies (host_of q) a more none))
  ]

  over_allowed : (allows : ℕ → List ℕ → List ℕ → ℕ → Type 0) (whole : List ℕ)
      → AllByRecursion (IsAllowed (host_of mid) allows whole) mid.control.marks → AllByRecursion (IsAllowed (host_of q) allows whole) q.control.marks
  over_allowed allows whole all = elim same [
    | inl quiet ↦ none_allowed (host_of q) allows whole q.control.marks (over_ran ∙ quiet)
    | inr e ↦ subst (AllByRecursion (IsAllowed (host_of q) allows whole)) (sym marks_grown)
        (all-append (IsAllowed (host_of q) allows whole) mid.control.marks more
        (allowed_at (host_of mid) (host_of q) id e allows whole mid.control.marks own_marks all) (none_allowed (host_of q) allows whole more none))
  ]

  over_alike : TellsAlike mid q
  over_alike = record { ran = over_ran; back = over_back; on = over_on; allowed = over_allowed }

-- nothing is told of what a peer tells
pub heard_told : (s : Settings) (peer : HostId) (inc : ℕ) (what : Body) (h : Host) (now : ℕ) → (hears_cutoffs s peer inc what (begun h now)).told ≡ []
heard_told s peer inc (body.Cutoffs c) h now = cond_both (is_newer inc c (peer_cutoffs s h peer)) _ _ (λ (v : Work). v.told ≡ []) (λ _. refl) (λ _. refl)
heard_told s peer inc (body.Data size offset version service ack) h now = refl
heard_told s peer inc (body.Grant offset prio) h now = refl
heard_told s peer inc (body.Resend from to prio) h now = refl
heard_told s peer inc body.Busy h now = refl
heard_told s peer inc (body.Unknown reason) h now = refl
heard_told s peer inc body.NeedAck h now = refl
heard_told s peer inc (body.Ack calls) h now = refl

abbrev pub is_stale_here : Settings → ℕ → HostId → HostId → WirePacket → List ℕ → Bool
is_stale_here s now from me w payload = is_stale s now (packet_between from me w payload)

pub at_most : (wire at : ℕ) → at ≤ latest wire → at ≤ 1000000002000
at_most wire at h = cond_both (wire == 1) 0 1000000002000 (λ n. at ≤ n → at ≤ 1000000002000) (λ _ g. omega (arith, g)) (λ _ g. g) h

-- what the parts tell then of RUNs: none, where a server's packet came
pub server_marks : (s : Settings) (p : Packet) (a : Answer) (v : Work) → run_count v.told ≡ 0 → (mid : HostParts) (frames : List SentFrame)
    → Amid (comes_to_row s p a Server v) mid frames → has_ran mid.control.marks ≡ false
server_marks s p a v none mid frames amid = ap has_ran amid.marked ∙ quiet_ran 0 (comes_to_row s p a Server v).told (client_unrun s p a v none)

acked_says : (s : Settings) (whole : List ℕ) (m : Moment) (id : CallId) (o : Option ServerRow) → SayWhole whole (server_acked s m id o).says
unfolding server_acked
acked_says s whole m id None = tt
acked_says s whole m id (Some row) = by_state row.state where
  by_state : (st : State) → SayWhole whole (state_acked s m id row st).says
  by_state (Receiving service part base count) = tt
  by_state (Held response release) = (tt, tt)
  by_state (Replying response out order base count) = (tt, tt)
  by_state (Buried until) = tt

acked_whole : (s : Settings) (whole : List ℕ) (ids : List CallId) (w : Work) → AllByRecursion (IsWhole whole) w.told
    → AllByRecursion (IsWhole whole) (acked s ids w).told
acked_whole s whole [] w all = all
acked_whole s whole (id ∷ ids) w all =
    let did = server_acked s (moment s id w) id (get w.host.servers id) in
    acked_whole s whole ids (served s id did w) (served-whole s whole id did w all (acked_says s whole (moment s id w) id (get w.host.servers id)))

-- a packet of a client: its row, and then the calls that it acknowledges
module _ (s : Settings) (p : Packet) (v : Work) (quiet : run_count v.told ≡ 0) (mid q : HostParts) (before after : List SentFrame)
    (step : (w : Work) → Amid w mid before → Amid (acked s (acks p) w) q after)
    (others : AllByRecursion (λ (id : CallId). p.id ≡ id → ⊥) (acks p) → response_of (host_of q) p.id ≡ response_of (host_of mid) p.id)
    (first : Answer) (amid : Amid (comes_to_row s p first Client v) mid before) where
  abbrev row : Work
  row = comes_to_row s p first Client v

  ends : Amid (acked s (acks p) row) q after
  ends = step row amid

  either : (has_ran mid.control.marks ≡ false) ⊎ (response_of (host_of q) p.id ≡ response_of (host_of mid) p.id)
  either = elim (acks_others p.id p.body) [
    | inl ack ↦ inl (ap has_ran amid.marked ∙ quiet_ran 0 row.told (ack_unrun s p first ack.0 v ack.1 quiet))
    | inr none ↦ inr (others none)
  ]

  pub client_alike : TellsAlike mid q
  client_alike =
      let c = acked_calm s (acks p) row in over_alike c.0 row (acked s (acks p) row) c.1 mid q before after amid ends p.id (own_run s p first v quiet) either

  -- and so with each answer that the marks agree to
  pub client_done : (whole : List ℕ) (a : Answer) → (Amid (comes_to_row s p a Client v) mid before) × AllByRecursion (IsWhole whole)
      (comes_to_row s p a Client v).told
      → Amid (acked s (acks p) (comes_to_row s p a Client v)) q after × AllByRecursion (IsWhole whole) (acked s (acks p) (comes_to_row s p a Client v)).told
  client_done whole a came = (step (comes_to_row s p a Client v) came.0, acked_whole s whole (acks p) (comes_to_row s p a Client v) came.1)
