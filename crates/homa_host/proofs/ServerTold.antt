-- What a packet at a call's server told.
use Rattle.std.proofs.Common.{◌≡◌, ◌⊎◌, inl, inr, ◌+◌, ℕ, Bool, false, List, [], ◌∷◌, ◌++◌, refl, sym, ap, subst, ◌∙◌, Option, Some}
use Rattle.std.specs.List.{AllByRecursion}
use Rattle.homa_plain.specs.declared.id.CallId.{CallId}
use Rattle.homa_plain.specs.declared.id.HostId.{HostId}
use Rattle.homa_plain.specs.declared.packet.Role.{Role}
use Rattle.homa_plain.specs.declared.packet.Role.TheVariants.{Client, Server}
use Rattle.homa_plain.specs.declared.packet.Packet.{Packet as WirePacket}
use Rattle.homa_plain.specs.declared.settings.Settings.{Settings}
use Rattle.homa_plain.specs.Host.{Host}
use Rattle.homa_plain.specs.Entries.{PlainRun}
use Rattle.homa_plain.specs.Rows.{ServerRow}
use Rattle.homa_plain.specs.Rules.{Moment, Answer, Did, Piece, Say, Tells, Posts}
use Rattle.homa_plain.specs.Work.{Work, begun, said}
use Rattle.homa_plain.specs.Steps.{moment, comes_to_row, served, Asked, asked_in}
use Rattle.homa_plain.specs.Packets.{Packet, packet_between}
use Rattle.msg_pool.specs.Pool.{Pool}
use Rattle.homa_in.specs.Pieces.{piece_in}
use Rattle.host_view.specs.declared.mark.Mark.{Mark}
use Rattle.host_view.specs.Marks.{marks_from, has_ran, response_of, IsReply as IsReplyMark, IsAllowed, IsWhole}
use Rattle.homa_server.specs.Answers.{served_of, service_in, asked_said, IsReply, IfRan, has_run as did_run}
use Rattle.homa_server.specs.Table.{Servers, response_at}
use Rattle.homa_server.specs.declared.answers.ServerDid.{ServerDid}
use Rattle.homa_server.specs.declared.answers.ServerDid.TheVariants as did
use Rattle.host_state.specs.Control.{Control, IsAt}
use Rattle.host_view.specs.declared.outbox.SentFrame.{SentFrame}
use Rattle.host_books.specs.declared.books.Books.{Books}
use Rattle.homa_host.specs.Parts.{host_of}
use Rattle.homa_host.specs.Amid.{Amid}
use Rattle.homa_host.specs.Outcomes.{server_change, server_orders}
use Rattle.homa_host.specs.ServerFollow.{FollowedServer}
use Rattle.homa_host.specs.declared.parts.HostParts.{HostParts}
use Rattle.homa_host.proofs.RanLaws.{AreQuiet, IsQuiet, Quiet, Ran, quiet-marks, ran-marks, heard-quiet}
use Rattle.step_laws.specs.StepLaws.{run_count}
use Rattle.step_laws.proofs.ToldBy.{served-carried}
use Rattle.homa_host.proofs.Delivered.{asked_append, asked_behind}
use Rattle.homa_host.proofs.ServerHeard.{heard_work}
use Rattle.homa_host.proofs.ServerGets.{HasTaken, p, is_p, got, row_now, gets, gets_is, gets_amid, response_same, reply_of, is_reply_of}

-- the service ran, or it didn't
abbrev pub HasRan : ServerDid → Type 0
HasRan d = (slot : ℕ) × (opened : Bool) × (hold : ℕ) × (d ≡ did.Ran slot opened hold)

ran_or : (d : ServerDid) → HasRan d ⊎ (did_run d ≡ false)
ran_or did.Nothing = inr refl
ran_or (did.Touched slot) = inr refl
ran_or (did.Opened slot) = inr refl
ran_or (did.Ran slot opened hold) = inl (slot, opened, hold, refl)
ran_or (did.FullRows rows) = inr refl
ran_or (did.FullPages need free) = inr refl
ran_or (did.Gaps slot) = inr refl
ran_or (did.Busy slot) = inr refl
ran_or (did.Unknown slot) = inr refl

any_reply : (d : ServerDid) → did_run d ≡ false → (response : List ℕ) (a : Answer) → IsReply response a d
any_reply did.Nothing e response a = tt
any_reply (did.Touched slot) e response a = tt
any_reply (did.Opened slot) e response a = tt
any_reply (did.Ran slot opened hold) e response a = cc
any_reply (did.FullRows rows) e response a = tt
any_reply (did.FullPages need free) e response a = tt
any_reply (did.Gaps slot) e response a = tt
any_reply (did.Busy slot) e response a = tt
any_reply (did.Unknown slot) e response a = tt

quiet_says : (s : Settings) (m : Moment) (id : CallId) (piece : Option Piece) (row : Option ServerRow) (told : List ℕ) (a : Answer) (d : ServerDid)
    → did_run d ≡ false → IsQuiet (served_of s m id piece row told a d).says
quiet_says s m id piece row told a did.Nothing e = tt
quiet_says s m id piece row told a (did.Touched slot) e = tt
quiet_says s m id piece row told a (did.Opened slot) e = tt
quiet_says s m id piece row told a (did.Ran slot opened hold) e = cc
quiet_says s m id piece row told a (did.FullRows rows) e = (tt, tt)
quiet_says s m id piece row told a (did.FullPages need free) e = (tt, tt)
quiet_says s m id piece row told a (did.Gaps slot) e = (tt, tt)
quiet_says s m id piece row told a (did.Busy slot) e = tt
quiet_says s m id piece row told a (did.Unknown slot) e = tt

module _ (s : Settings) (id : CallId) (piece : Option Piece) (row : Option ServerRow) (told response : List ℕ) (d : ServerDid) (w : Work)
    (before : AreQuiet w.told) (m : Moment)
    (rule : Answer → Did ServerRow) (rule_is : (a : Answer) → IsReply response a d → rule a ≡ served_of s m id piece row told a d) where
  told_quiet : did_run d ≡ false → (a : Answer) → Quiet (served s id (rule a) w).told
  told_quiet e a =
      quiet-marks s id (rule a) w before
      (subst (λ (x : Did ServerRow). IsQuiet x.says) (sym (rule_is a (any_reply d e response a))) (quiet_says s m id piece row told a d e))

  told_ran : (r : HasRan d) (a : Answer) → IsReply response a d → Ran id (service_in piece) told r.2 (served s id (rule a) w).told
  told_ran r a reply = ran-marks s id (rule a) w before m.host (service_in piece) told a.bytes r.2
      (ap (λ (x : Did ServerRow). x.says) (rule_is a reply) ∙ ap (λ (d : ServerDid). (served_of s m id piece row told a d).says) r.3)

  abbrev answer : Answer
  answer = reply_of d response

  told_whole : (a : Answer) → IsReply response a d → AllByRecursion (IsWhole told) (served s id (rule a) w).told
  told_whole a reply = elim (ran_or d) [ inl r ↦ (told_ran r a reply).whole told refl | inr e ↦ (told_quiet e a).whole told ]

  module _ (g : Host) (same : response_of g id ≡ response) (marks : List Mark) (marked : marks ≡ marks_from 0 (served s id (rule answer) w).told) where
    told_runs : has_ran marks ≡ did_run d
    told_runs = ap has_ran marked
        ∙ elim (ran_or d) [ inl r ↦ (told_ran r answer (is_reply_of d response)).ran ∙ sym (ap did_run r.3) | inr e ↦ (told_quiet e answer).ran ∙ sym e ]

    told_reply : (a : Answer) → AllByRecursion (IsReplyMark g a) marks → IsReply response a d
    told_reply a all = elim (ran_or d) [
      | inl r ↦
          let is = (told_ran r answer (is_reply_of d response)).is_reply a g (subst (AllByRecursion (IsReplyMark g a)) marked all) in
          subst (λ (d : ServerDid). IsReply response a d) (sym r.3) (is ∙ ap (λ (bytes : List ℕ). record { bytes = bytes; hold = r.2 }) same)
      | inr e ↦ any_reply d e response a
    ]

    told_answered : AllByRecursion (IsReplyMark g answer) marks
    told_answered = subst (AllByRecursion (IsReplyMark g answer)) (sym marked) (elim (ran_or d) [
      | inl r ↦ (told_ran r answer (is_reply_of d response)).reply answer g
          (subst (λ (d : ServerDid). IsReply response answer d) r.3 (is_reply_of d response)
          ∙ ap (λ (bytes : List ℕ). record { bytes = bytes; hold = r.2 }) (sym same))
      | inr e ↦ (told_quiet e answer).reply answer g
    ])

    told_allowed : (allows : ℕ → List ℕ → List ℕ → ℕ → Type 0) → IfRan d (λ hold. allows (service_in piece) told response hold)
        → AllByRecursion (IsAllowed g allows told) marks
    told_allowed allows ok = subst (AllByRecursion (IsAllowed g allows told)) (sym marked) (elim (ran_or d) [
      | inl r ↦ (told_ran r answer (is_reply_of d response)).allowed g allows told
          (subst (λ (bytes : List ℕ). allows (service_in piece) told bytes r.2) (sym same)
          (subst (λ (d : ServerDid). IfRan d (λ hold. allows (service_in piece) told response hold)) r.3 ok))
      | inr e ↦ (told_quiet e answer).allowed g allows told
    ])

-- what comes of a packet of a client once it was settled
pub record HasSettled (host : HostParts) (from : HostId) (packet : WirePacket) (payload : List ℕ) (now : ℕ) (new : HostParts) (out : List SentFrame)
    (told : List ℕ) (allows : ℕ → List ℕ → List ℕ → ℕ → Type 0) (d : ServerDid) : Type 0 where
  pub ran : has_ran new.control.marks ≡ did_run d
  pub answered : (a : Answer) × AllByRecursion (IsReplyMark (host_of new) a) new.control.marks
  pub allowed : AllByRecursion (IsAllowed (host_of new) allows told) new.control.marks
  pub step : (a : Answer) → AllByRecursion (IsReplyMark (host_of new) a) new.control.marks
      → let w = comes_to_row host.control.settings (packet_between from host.control.id packet payload) a Client (heard_work host from packet now) in
      Amid w new out × AllByRecursion (IsWhole told) w.told

module _ (host : HostParts) {from : HostId} {packet : WirePacket} {payload : List ℕ} {now : ℕ} {control : Control} {servers : Servers} {pool : Pool}
    {told : List ℕ} {allows : ℕ → List ℕ → List ℕ → ℕ → Type 0} {d : ServerDid}
    (x : HasTaken host from packet payload now control servers pool told allows d) where
  abbrev heard : HostParts
  heard = record host { control = control }

  abbrev pub q : Packet
  q = p heard x.heard.kept x.taken

  abbrev w : Work
  w = heard_work host from packet now

  abbrev pub rule : Answer → Did ServerRow
  rule a = gets heard x.heard.kept x.taken a w

  pub rule_is : (a : Answer) → IsReply (response_at servers.rows q.id) a d
      → rule a ≡ served_of control.settings (moment control.settings q.id w) q.id (piece_in packet.body payload) (row_now heard x.heard.kept x.taken) told a d
  rule_is a reply = gets_is heard x.heard.kept x.taken a reply w x.heard.amid.host

  pub settled_by : (after : Control) (out : List SentFrame) (books : Books) (order : ℕ) → order ≡ host.order + server_orders d
      → FollowedServer servers control.settings.calls (server_change d) host.books books
      → ((a : Answer) → IsReply (response_at servers.rows q.id) a d → IsAt (served control.settings q.id (rule a) w) after out)
      → HasSettled host from packet payload now
      (record { control = after; clients = host.clients; servers = servers; pool = pool; books = books; order = order }) out told allows d
  settled_by after out books order order_is follows settled =
      let s = control.settings in
      let m = moment s q.id w in
      let piece = piece_in packet.body payload in
      let row = row_now heard x.heard.kept x.taken in
      let response = response_at servers.rows q.id in
      let quiet : AreQuiet w.told = heard-quiet host.control.settings from packet.sender packet.body (begun (host_of host) now) tt in
      let new : HostParts = record { control = after; clients = host.clients; servers = servers; pool = pool; books = books; order = order } in
      let same : response_of (host_of new) q.id ≡ response = response_same pool servers.rows q.id (host_of new) refl in
      let marked = (settled (reply_of d response) (is_reply_of d response)).marked in
      record {
        ran = told_runs s q.id piece row told response d w quiet m rule rule_is (host_of new) same after.marks marked;
        answered = (reply_of d response, told_answered s q.id piece row told response d w quiet m rule rule_is (host_of new) same after.marks marked);
        allowed = told_allowed s q.id piece row told response d w quiet m rule rule_is (host_of new) same after.marks marked allows
            (got heard x.heard.kept x.taken).ran;
        step = λ a all.
            let reply = told_reply s q.id piece row told response d w quiet m rule rule_is (host_of new) same after.marks marked a all in
            subst (λ (t : Settings × Packet). Amid (comes_to_row t.0 t.1 a Client w) new out × AllByRecursion (IsWhole told)
            (comes_to_row t.0 t.1 a Client w).told)
            (λ i. (x.heard.on.settings i, (is_p heard x.heard.kept x.taken ∙ ap (λ (h : HostId). packet_between from h packet payload) x.heard.on.id) i)) (
              gets_amid heard x.heard.kept x.taken after books order order_is follows a reply w [] out x.heard.amid (settled a reply),
              told_whole s q.id piece row told response d w quiet m rule rule_is a reply,
            );
      }

-- ---- where the service found no memory

said_asks : (s : Settings) (h : Host) (role : Role) (id : CallId) (server : HostId) (says : List Say) (q : Asked) → asked_said says ≡ Some q
    → asked_in (said s h role id server says) ≡ Some q
said_asks s h role id server [] q e = cc
said_asks s h role id server (Posts what ∷ says) q e = said_asks s h role id server says q e
said_asks s h role id server (Tells (PlainRun host call service request response hold) ∷ says) q e = e
said_asks s h role id server (Tells entry ∷ says) q e = said_asks s h role id server says q e

pub served_asks : (s : Settings) (id : CallId) (d : Did ServerRow) (w : Work) (q : Asked) → run_count w.told ≡ 0 → asked_said d.says ≡ Some q
    → asked_in (served s id d w).told ≡ Some q
served_asks s id d w q none e =
    let c = served-carried s id d w in
    let here = said s w.host Server id w.host.id d.says in
    ap asked_in c.grown
    ∙ asked_behind w.told (c.before ++ (here ++ c.after)) q none
    (asked_behind c.before (here ++ c.after) q c.quiet_before (asked_append here c.after q (said_asks s w.host Server id w.host.id d.says q e)))
