-- The next piece of the response in the row at a place goes out.
use Rattle.std.proofs.Common.{◌≡◌, ◌<◌, ◌≤◌, ◌+◌, ◌-◌, ℕ, Some, None, List, length, option_copied, refl, sym, ap, subst, ◌∙◌, arith}
use Rattle.std.specs.Option.{option_and_then}
use Rattle.plain_sets.specs.Maps.{get}
use Rattle.plain_sets.specs.Ranges.{range}
use Rattle.plain_sets.proofs.MapMembers.{same_some}
use Rattle.homa_plain.specs.declared.id.CallId.{CallId}
use Rattle.homa_plain.specs.declared.row.OutFacts.{OutFacts}
use Rattle.homa_plain.specs.declared.row.RowFacts.{RowFacts}
use Rattle.homa_plain.specs.declared.row.Emitted.{Emitted}
use Rattle.homa_plain.specs.declared.row.Emitted.TheVariants.{Sent, Short, Rests}
use Rattle.homa_plain.specs.declared.settings.Settings.{Settings}
use Rattle.homa_plain.specs.Host.{peer_cutoffs}
use Rattle.homa_plain.specs.Sending.{response_content}
use Rattle.homa_plain.specs.Work.{Work}
use Rattle.homa_plain.specs.SentNext.{response_leaves}
use Rattle.homa_in.specs.Sends.{IfSent, IsAffordable}
use Rattle.host_places.specs.Placed.{Placed}
use Rattle.homa_server.specs.Held.{HeldServer, HeldState, Answering, seen_server, state_response, response_in, IsReplied}
use Rattle.homa_server.specs.Held as held
use Rattle.homa_server.specs.Answers.{out_facts, server_facts}
use Rattle.host_state.specs.Control.{IsAt}
use Rattle.homa_pacer.specs.Pace.{Pace, without}
use Rattle.homa_host.specs.declared.outcome.Change.TheVariants.{Stays}
use Rattle.homa_host.proofs.Emits.{at_spot}
use Rattle.homa_host.specs.ServerFollow.{CanFollowServer}
use Rattle.homa_host.proofs.ClientStays.{Beside}
use Rattle.homa_host.proofs.ServerStays.{knows}
use Rattle.homa_host.proofs.ServerLeaves.{IsNext, HasEmitted, emitted_at, rests_kept, rests_idle, short_kept, short_ends, response_there}
use Rattle.homa_host.proofs.ServerLeaves.{sent_follows, sent_kept, sent_step}
use Rattle.homa_host.proofs.parts.HostParts.response_leaves.Goals as goal
use Rattle.homa_host.proofs.parts.HostParts.response_leaves.Goals.{After-emit}

-- what is so once the table emitted something of the row at the place
record HasLeft (c : After-emit) (e : Emitted) : Type 0 where
  next : IsNext c.args.self.now c.args.place
  facts : c.row-facts.result ≡ server_facts next.id next.row
  emitted : HasEmitted c.args.self.now c.args.place next c.emit.new.self e
  affordable : IfSent e (IsAffordable (length (response_in next.row.state)) c.args.self.now.servers.settings.seg c.credit-credit.result)
  calls : c.settings.result.now.calls ≡ c.args.self.now.control.settings.calls

left : (c : After-emit) (e : Emitted) → c.emit.result ≡ e → HasLeft c e
left c e is =
    let h = c.args.self.now in
    let a = at_spot h.servers.rows c.args.place c.requires.stands in
    let next : IsNext h c.args.place = record { id = a.0; row = a.1; stands = a.2; sound = c.row-facts.ensures.kept a.0 a.1 a.2; first = c.requires.picked } in
    record {
      next = next;
      facts = c.row-facts.ensures.facts a.0 a.1 a.2;
      emitted = emitted_at h c.requires.kept c.args.place next c.emit.new.self c.last.result c.credit-credit.result c.emit.result e c.last.ensures
          c.credit-credit.ensures is
          (c.emit.ensures.moved a.0 a.1 h.pool a.2) (c.emit.ensures.emitted a.0 a.1 h.pool a.2);
      affordable = subst (λ e. IfSent e (IsAffordable (length (response_in a.1.state)) h.servers.settings.seg c.credit-credit.result)) is
          (c.emit.ensures.bytes a.0 a.1 a.2);
      calls = ap (λ (s : Settings). s.calls) c.settings.ensures.settings;
    }

-- a piece is sent: what is told of its message, where the response stands, and that the books can follow once it is paid for
module _ (c : After-emit) {from to : ℕ} (is : c.emit.result ≡ Sent from to) where
  abbrev x : HasLeft c (Sent from to)
  x = left c (Sent from to) is

  told : (let a = x.emitted.view.0 in c.row-facts.result.out ≡ out_facts (Answering a.response a.out a.order a.base a.count))
  told = ap (λ (f : RowFacts). f.out) x.facts ∙ ap out_facts x.emitted.view.0.is

  stored : option_and_then (λ (y : Placed HeldServer). state_response y.row.state) (get c.emit.new.self.rows c.row-facts.result.id)
      ≡ Some x.emitted.view.0.response
  stored =
      ap (λ (f : RowFacts). option_and_then (λ (y : Placed HeldServer). state_response y.row.state) (get c.emit.new.self.rows f.id)) x.facts
      ∙ response_there c.args.self.now c.requires.kept c.args.place x.next from to c.emit.new.self x.emitted

  follows : (pacer : Pace) → pacer ≡ record c.args.self.now.books.pacer { credit = c.args.self.now.books.pacer.credit - (to - from) }
      → CanFollowServer c.emit.new.self c.settings.result.now.calls (record c.args.self.now.books { pacer = pacer }) (Stays c.args.place)
  follows pacer spent =
      sent_follows c.args.self.now c.requires.kept c.args.place x.next from to c.emit.new.self x.emitted c.settings.result.now.calls pacer x.calls spent

pub overflow_add-calls : goal.overflow_add-calls
overflow_add-calls c =
    let kept = c.requires.kept in
    let x = left (goal.at.overflow_add-calls c).After-emit Rests c.in-Rests.is in
    let ranges = kept.control.valid.in_range.2.2.2.2.2.2.2.2.2.2 in
    omega (arith, kept.server_places.within x.next.id _ x.next.stands, ranges.1, ranges.2.1, x.calls)

pub idle-requires : goal.idle-requires
idle-requires c =
    let kept = c.requires.kept in
    let x = left (goal.at.idle-requires c).After-emit Rests c.in-Rests.is in
    omega (arith, kept.server_places.within x.next.id _ x.next.stands, kept.room.pacer, x.calls)

pub unreachable-requires : goal.unreachable-requires
unreachable-requires c =
    let b = (goal.at.unreachable-requires c).After-emit in
    c.in_default.not-Some _ (told b c.in-Sent.is)

pub unreachable-requires-in_default-response : goal.unreachable-requires-in_default-response
unreachable-requires-in_default-response c =
    let b = (goal.at.unreachable-requires-in_default-response c).After-emit in
    nothing (sym (ap option_copied c.in_default-response.is) ∙ c.response.ensures ∙ stored b c.in-Sent.is) where
      nothing : {bytes : List ℕ} → None ≡ Some bytes → ⊥
      nothing e = cc

pub send_response-requires-clause-client : goal.send_response-requires-clause-client
send_response-requires-clause-client c =
    let h = c.args.self.now in
    let x = left (goal.at.send_response-requires-clause-client c).After-emit _ c.in-Sent.is in
    subst (λ (f : RowFacts). f.id.client.0 < h.control.settings.hosts) (sym x.facts)
    (knows h c.requires.kept x.next.id c.args.place x.next.row x.next.stands).client

pub send_response-requires-clause-call : goal.send_response-requires-clause-call
send_response-requires-clause-call c =
    let x = left (goal.at.send_response-requires-clause-call c).After-emit _ c.in-Sent.is in
    subst (λ (f : RowFacts). 1 ≤ f.id.inc) (sym x.facts) (knows c.args.self.now c.requires.kept x.next.id c.args.place x.next.row x.next.stands).life

pub send_response-requires-clause-piece : goal.send_response-requires-clause-piece
send_response-requires-clause-piece c =
    let h = c.args.self.now in
    let b = (goal.at.send_response-requires-clause-piece c).After-emit in
    let x = left b (Sent c.in-Sent.from c.in-Sent.to) c.in-Sent.is in
    let a = x.emitted.view.0 in
    let message = same_some _ _ (sym c.in-Some.is ∙ told b c.in-Sent.is) in
    let response : c.in-Some-response.response.now ≡ a.response =
    same_some _ _ (sym (ap option_copied c.in-Some-response.is) ∙ c.response.ensures ∙ stored b c.in-Sent.is) in
    let is : IsReplied a.response a.out a.base = subst held.IsKept a.is x.next.sound in
    let long : c.in-Some.message.length ≡ a.out.length = ap (λ (m : OutFacts). m.length) message in
    let size : length c.in-Some-response.response.now ≡ length a.response = ap length response in
    let held_size : length (response_in x.next.row.state) ≡ length a.response = ap (λ (st : HeldState). length (response_in st)) a.is in
    let seg : h.servers.settings.seg ≡ h.control.settings.seg = ap (λ (s : Settings). s.seg) c.requires.kept.one.server_settings in
    record {
      some = x.affordable.some;
      inside = omega (arith, x.affordable.within, long, held_size, is.long);
      long = omega (arith, long, size, is.long);
      most = omega (arith, long, is.long, is.message.small);
      short = omega (arith, x.affordable.short, seg, c.requires.kept.control.valid.in_range.2.1);
      level = subst (λ n. n ≤ 7) (sym (ap (λ (m : OutFacts). m.prio) message)) is.prio;
    }

pub overflow_sub-to : goal.overflow_sub-to
overflow_sub-to c =
    let x = left (goal.at.overflow_sub-to c).After-emit (Sent c.in-Sent.from c.in-Sent.to) c.in-Sent.is in
    omega (arith, x.affordable.some)

pub spend-requires : goal.spend-requires
spend-requires c =
    let x = left (goal.at.spend-requires c).After-emit (Sent c.in-Sent.from c.in-Sent.to) c.in-Sent.is in
    omega (arith, x.affordable.paid, c.credit-credit.ensures)

pub server_goes_on-requires : goal.server_goes_on-requires
server_goes_on-requires c = follows (goal.at.server_goes_on-requires c).After-emit c.in-Sent.is c.spend.new.self c.spend.ensures.spent

-- the pacer is told that the message rests
rests : (c : After-emit) (pacer : Pace)
    → pacer ≡ record c.args.self.now.books.pacer { ready = without (c.settings.result.now.calls + c.args.place) c.args.self.now.books.pacer.ready }
    → (x : HasLeft c Rests)
    → pacer ≡ record c.args.self.now.books.pacer { ready = without (c.args.self.now.control.settings.calls + c.args.place) c.args.self.now.books.pacer.ready }
rests c pacer idle x = idle ∙ ap (λ n. record c.args.self.now.books.pacer { ready = without (n + c.args.place) c.args.self.now.books.pacer.ready }) x.calls

pub returns-in-Rests-clause-kept : goal.returns-in-Rests-clause-kept
returns-in-Rests-clause-kept c =
    let b = (goal.at.returns-in-Rests-clause-kept c).After-emit in
    let x = left b Rests c.in-Rests.is in
    rests_kept c.args.self.now c.requires.kept c.args.place x.next c.emit.new.self x.emitted c.idle.new.self (rests b c.idle.new.self c.idle.ensures.idle x)

pub returns-in-Rests-clause-pumped : goal.returns-in-Rests-clause-pumped
returns-in-Rests-clause-pumped c =
    let b = (goal.at.returns-in-Rests-clause-pumped c).After-emit in
    let x = left b Rests c.in-Rests.is in
    rests_idle c.args.self.now c.requires.kept c.args.place x.next c.emit.new.self x.emitted c.idle.new.self
    (rests b c.idle.new.self c.idle.ensures.idle x) c.args.out.now

pub returns-in-Short-clause-kept : goal.returns-in-Short-clause-kept
returns-in-Short-clause-kept c =
    let x = left (goal.at.returns-in-Short-clause-kept c).After-emit Short c.in-Short.is in
    short_kept c.args.self.now c.requires.kept c.args.place x.next c.emit.new.self x.emitted

pub returns-in-Short-clause-pumped : goal.returns-in-Short-clause-pumped
returns-in-Short-clause-pumped c =
    let x = left (goal.at.returns-in-Short-clause-pumped c).After-emit Short c.in-Short.is in
    short_ends c.args.self.now c.requires.kept c.args.place x.next c.emit.new.self x.emitted c.args.out.now

pub returns-in-Some-response-clause-kept : goal.returns-in-Some-response-clause-kept
returns-in-Some-response-clause-kept c =
    let h = c.args.self.now in
    let x = left (goal.at.returns-in-Some-response-clause-kept c).After-emit (Sent c.in-Sent.from c.in-Sent.to) c.in-Sent.is in
    sent_kept h c.requires.kept c.args.place x.next c.in-Sent.from c.in-Sent.to c.emit.new.self x.emitted c.settings.result.now.calls c.spend.new.self
    x.calls c.spend.ensures.spent c.server_goes_on.new.books c.server_goes_on.ensures
    c.send_response.new.self c.send_response.ensures.sound
    (subst (Beside h.control) (sym c.send_response.ensures.same) (record { settings = refl; id = refl; inc = refl; last = refl; opened = refl }))

pub returns-in-Some-response-clause-pumped : goal.returns-in-Some-response-clause-pumped
returns-in-Some-response-clause-pumped c =
    let h = c.args.self.now in
    let b = (goal.at.returns-in-Some-response-clause-pumped c).After-emit in
    let x = left b (Sent c.in-Sent.from c.in-Sent.to) c.in-Sent.is in
    let a = x.emitted.view.0 in
    let message = same_some _ _ (sym c.in-Some.is ∙ told b c.in-Sent.is) in
    let response : c.in-Some-response.response.now ≡ a.response =
    same_some _ _ (sym (ap option_copied c.in-Some-response.is) ∙ c.response.ensures ∙ stored b c.in-Sent.is) in
    let row = seen_server h.pool x.next.row in
    let r = range c.in-Sent.from c.in-Sent.to in
    let posted : (w : Work) → IsAt w h.control c.args.out.now
    → IsAt (response_leaves h.control.settings x.next.id row
    (response_content h.control.settings (peer_cutoffs h.control.settings w.host x.next.id.client).cutoffs a.response a.out r) r w)
    c.send_response.new.self c.send_response.new.out =
    λ w at.
    subst (λ (q : CallId × List ℕ). IsAt
    (response_leaves h.control.settings q.0 row
    (response_content h.control.settings (peer_cutoffs h.control.settings w.host q.0.client).cutoffs q.1 a.out r) r w) c.send_response.new.self
    c.send_response.new.out)
    (λ i. ((x.facts i).id, response i))
    (c.send_response.ensures.step w row a.out at (sym (ap (λ (m : OutFacts). m.length) message)) (sym (ap (λ (m : OutFacts). m.prio) message))) in
    sent_step h c.requires.kept c.args.place x.next c.in-Sent.from c.in-Sent.to c.emit.new.self x.emitted c.settings.result.now.calls c.spend.new.self
    x.calls c.spend.ensures.spent c.server_goes_on.new.books c.server_goes_on.ensures
    c.args.out.now c.send_response.new.self c.send_response.new.out posted c.send_response.ensures.frames c.send_response.ensures.marks
