-- The next piece of the request in the row at a place goes out.
use Rattle.std.proofs.Common.{◌≡◌, ◌<◌, ◌≤◌, ◌-◌, ℕ, length, sym, ap, subst, ◌∙◌, arith}
use Rattle.plain_sets.specs.Ranges.{range}
use Rattle.plain_sets.proofs.MapMembers.{same_some}
use Rattle.homa_plain.specs.declared.id.CallId.{CallId}
use Rattle.homa_plain.specs.declared.row.RowFacts.{RowFacts}
use Rattle.homa_plain.specs.declared.row.Emitted.{Emitted}
use Rattle.homa_plain.specs.declared.row.Emitted.TheVariants.{Sent, Short, Rests}
use Rattle.homa_plain.specs.Work.{Work}
use Rattle.homa_plain.specs.SentNext.{request_leaves}
use Rattle.homa_in.specs.Sends.{IfSent, IsAffordable}
use Rattle.homa_client.specs.Held.{seen_row}
use Rattle.homa_client.specs.Gives.{facts}
use Rattle.host_state.specs.Control.{IsAt}
use Rattle.homa_pacer.specs.Pace.{Pace}
use Rattle.homa_host.specs.declared.outcome.Change.TheVariants.{Stays}
use Rattle.homa_host.proofs.Emits.{at_spot}
use Rattle.homa_host.specs.Outcomes.{CanFollowClient}
use Rattle.homa_host.proofs.ClientStays.{owned, knows, beside_sent}
use Rattle.homa_host.proofs.ClientLeaves.{IsNext, HasEmitted, emitted_at, rests_kept, rests_idle, short_kept, short_ends, request_there, sent_follows}
use Rattle.homa_host.proofs.ClientLeaves.{sent_kept, sent_step}
use Rattle.homa_host.proofs.parts.HostParts.request_leaves.Goals as goal
use Rattle.homa_host.proofs.parts.HostParts.request_leaves.Goals.{After-emit}

-- what is so once the table emitted something of the row at the place
record HasLeft (c : After-emit) (e : Emitted) : Type 0 where
  next : IsNext c.args.self.now c.args.place
  facts : c.row-facts.result ≡ facts next.id next.row
  emitted : HasEmitted c.args.self.now c.args.place next c.emit.new.self e
  affordable : IfSent e (IsAffordable next.row.out.length c.args.self.now.clients.settings.seg c.credit-credit.result)

left : (c : After-emit) (e : Emitted) → c.emit.result ≡ e → HasLeft c e
left c e is =
    let h = c.args.self.now in
    let a = at_spot h.clients.rows c.args.place c.requires.stands in
    let next : IsNext h c.args.place = record { id = a.0; row = a.1; stands = a.2; sound = c.row-facts.ensures.out a.0 a.1 a.2; first = c.requires.picked } in
    record {
      next = next;
      facts = c.row-facts.ensures.facts a.0 a.1 a.2;
      emitted = emitted_at h c.requires.kept c.args.place next c.emit.new.self c.last.result c.credit-credit.result c.emit.result e c.last.ensures
          c.credit-credit.ensures is
          (c.emit.ensures.row a.0 a.1 h.pool a.2) (c.emit.ensures.emitted a.0 a.1 h.pool a.2);
      affordable = subst (λ e. IfSent e (IsAffordable a.1.out.length h.clients.settings.seg c.credit-credit.result)) is (c.emit.ensures.sent a.0 a.1 a.2);
    }

-- a piece is sent: the books can follow once it is paid for
follows : (c : After-emit) {from to : ℕ} → c.emit.result ≡ Sent from to → (pacer : Pace)
    → pacer ≡ record c.args.self.now.books.pacer { credit = c.args.self.now.books.pacer.credit - (to - from) }
    → CanFollowClient c.emit.new.self (record c.args.self.now.books { pacer = pacer }) (Stays c.args.place)
follows c {from} {to} is pacer spent =
    let x = left c (Sent from to) is in
    sent_follows c.args.self.now c.requires.kept c.args.place x.next from to c.emit.new.self x.emitted pacer spent

pub idle-requires : goal.idle-requires
idle-requires c =
    let kept = c.requires.kept in
    let a = at_spot c.args.self.now.clients.rows c.args.place c.requires.stands in
    omega (arith, kept.client_places.within a.0 _ a.2, kept.room.pacer)

pub request-request-requires : goal.request-request-requires
request-request-requires c =
    let x = left (goal.at.request-request-requires c).After-emit (Sent c.in-Sent.from c.in-Sent.to) c.in-Sent.is in
    (request_there c.args.self.now c.requires.kept c.args.place x.next c.in-Sent.from c.in-Sent.to c.emit.new.self x.emitted).0

pub send_request-requires-clause-server : goal.send_request-requires-clause-server
send_request-requires-clause-server c =
    let h = c.args.self.now in
    let x = left (goal.at.send_request-requires-clause-server c).After-emit _ c.in-Sent.is in
    subst (λ (f : RowFacts). f.peer.0 < h.control.settings.hosts) (sym x.facts) (knows h c.requires.kept x.next.id c.args.place x.next.row x.next.stands).server

pub send_request-requires-clause-call : goal.send_request-requires-clause-call
send_request-requires-clause-call c =
    let kept = c.requires.kept in
    let x = left (goal.at.send_request-requires-clause-call c).After-emit _ c.in-Sent.is in
    subst (λ (f : RowFacts). 1 ≤ f.id.inc) (sym x.facts)
    (subst (λ n. 1 ≤ n) (sym (owned c.args.self.now kept x.next.id c.args.place x.next.row x.next.stands).1) kept.control.inc)

pub send_request-requires-clause-piece : goal.send_request-requires-clause-piece
send_request-requires-clause-piece c =
    let h = c.args.self.now in
    let kept = c.requires.kept in
    let x = left (goal.at.send_request-requires-clause-piece c).After-emit (Sent c.in-Sent.from c.in-Sent.to) c.in-Sent.is in
    let n = x.next in
    let y = request_there h kept c.args.place n c.in-Sent.from c.in-Sent.to c.emit.new.self x.emitted in
    let request : c.request-request.result.now ≡ n.row.request = c.request-request.ensures n.id y.1 y.2 ∙ y.3 in
    let message = same_some _ _ (sym c.in-Some.is ∙ ap (λ (f : RowFacts). f.out) x.facts) in
    let is = c.row-facts.ensures.row n.id n.row n.stands in
    let long : c.in-Some.message.length ≡ n.row.out.length = ap (λ m. m.length) message in
    let size : length c.request-request.result.now ≡ length n.row.request = ap length request in
    let seg : h.clients.settings.seg ≡ h.control.settings.seg = ap (λ s. s.seg) kept.one.client_settings in
    record {
      some = x.affordable.some;
      inside = omega (arith, x.affordable.within, long);
      long = omega (arith, long, size, is.long);
      most = omega (arith, long, is.long, c.row-facts.ensures.small n.id n.row n.stands);
      short = omega (arith, x.affordable.short, seg, kept.control.valid.in_range.2.1);
      level = subst (λ n. n ≤ 7) (sym (ap (λ m. m.prio) message)) is.prio;
    }

pub overflow_sub-to : goal.overflow_sub-to
overflow_sub-to c =
    let x = left (goal.at.overflow_sub-to c).After-emit (Sent c.in-Sent.from c.in-Sent.to) c.in-Sent.is in
    omega (arith, x.affordable.some)

pub spend-requires : goal.spend-requires
spend-requires c =
    let x = left (goal.at.spend-requires c).After-emit (Sent c.in-Sent.from c.in-Sent.to) c.in-Sent.is in
    omega (arith, x.affordable.paid, c.credit-credit.ensures)

pub client_goes_on-requires : goal.client_goes_on-requires
client_goes_on-requires c = follows (goal.at.client_goes_on-requires c).After-emit c.in-Sent.is c.spend.new.self c.spend.ensures.spent

pub returns-in-Rests-clause-kept : goal.returns-in-Rests-clause-kept
returns-in-Rests-clause-kept c =
    let x = left (goal.at.returns-in-Rests-clause-kept c).After-emit Rests c.in-Rests.is in
    rests_kept c.args.self.now c.requires.kept c.args.place x.next c.emit.new.self x.emitted c.idle.new.self c.idle.ensures.idle

pub returns-in-Rests-clause-pumped : goal.returns-in-Rests-clause-pumped
returns-in-Rests-clause-pumped c =
    let x = left (goal.at.returns-in-Rests-clause-pumped c).After-emit Rests c.in-Rests.is in
    rests_idle c.args.self.now c.requires.kept c.args.place x.next c.emit.new.self x.emitted c.idle.new.self c.idle.ensures.idle c.args.out.now

pub returns-in-Short-clause-kept : goal.returns-in-Short-clause-kept
returns-in-Short-clause-kept c =
    let x = left (goal.at.returns-in-Short-clause-kept c).After-emit Short c.in-Short.is in
    short_kept c.args.self.now c.requires.kept c.args.place x.next c.emit.new.self x.emitted

pub returns-in-Short-clause-pumped : goal.returns-in-Short-clause-pumped
returns-in-Short-clause-pumped c =
    let x = left (goal.at.returns-in-Short-clause-pumped c).After-emit Short c.in-Short.is in
    short_ends c.args.self.now c.requires.kept c.args.place x.next c.emit.new.self x.emitted c.args.out.now

pub returns-in-Some-clause-kept : goal.returns-in-Some-clause-kept
returns-in-Some-clause-kept c =
    let h = c.args.self.now in
    let x = left (goal.at.returns-in-Some-clause-kept c).After-emit (Sent c.in-Sent.from c.in-Sent.to) c.in-Sent.is in
    sent_kept h c.requires.kept c.args.place x.next c.in-Sent.from c.in-Sent.to c.emit.new.self x.emitted c.spend.new.self c.spend.ensures.spent
    c.client_goes_on.new.books c.client_goes_on.ensures
    c.send_request.new.self c.send_request.ensures.sound (beside_sent h.control c.send_request.new.self c.send_request.ensures.same)

pub returns-in-Some-clause-pumped : goal.returns-in-Some-clause-pumped
returns-in-Some-clause-pumped c =
    let h = c.args.self.now in
    let x = left (goal.at.returns-in-Some-clause-pumped c).After-emit (Sent c.in-Sent.from c.in-Sent.to) c.in-Sent.is in
    let n = x.next in
    let row = seen_row h.pool n.row in
    let y = request_there h c.requires.kept c.args.place n c.in-Sent.from c.in-Sent.to c.emit.new.self x.emitted in
    let request : c.request-request.result.now ≡ n.row.request = c.request-request.ensures n.id y.1 y.2 ∙ y.3 in
    let message = same_some _ _ (sym c.in-Some.is ∙ ap (λ (f : RowFacts). f.out) x.facts) in
    let r = range c.in-Sent.from c.in-Sent.to in
    let posted : (w : Work) → IsAt w h.control c.args.out.now
    → IsAt (request_leaves h.control.settings n.id row r w) c.send_request.new.self c.send_request.new.out =
    λ w at.
    subst (λ (q : CallId). IsAt (request_leaves h.control.settings q row r w) c.send_request.new.self c.send_request.new.out)
    (ap (λ (f : RowFacts). f.id) x.facts)
    (c.send_request.ensures.step w row at (sym (ap (λ (f : RowFacts). f.peer) x.facts)) (sym request) (sym (ap (λ m. m.length) message))
    (sym (ap (λ m. m.prio) message)) (sym (ap (λ m. m.service) message))) in
    sent_step h c.requires.kept c.args.place n c.in-Sent.from c.in-Sent.to c.emit.new.self x.emitted c.spend.new.self c.spend.ensures.spent
    c.client_goes_on.new.books c.client_goes_on.ensures
    c.args.out.now c.send_request.new.self c.send_request.new.out posted c.send_request.ensures.frames c.send_request.ensures.marks

pub unreachable-requires : goal.unreachable-requires
unreachable-requires c =
    let x = left (goal.at.unreachable-requires c).After-emit _ c.in-Sent.is in
    c.in_default.not-Some _ (ap (λ (f : RowFacts). f.out) x.facts)
