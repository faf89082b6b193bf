use Rattle.std.proofs.Common.{◌≡◌, ◌∙◌, refl, sym, ap, subst, true, false, Option}
use Rattle.std.specs.Option.{option_map}
use Rattle.homa_plain.specs.declared.entry.Entry.{Entry}
use Rattle.homa_plain.specs.declared.entry.Entry.TheVariants as entry
use Rattle.homa_plain.specs.Entries.{plain, PlainCall, PlainDeliver, PlainClock, PlainRestart, PlainShift, PlainRecv, PlainInject}
use Rattle.trace_rules.specs.Judge.{has_shape, is_new_call, is_behind}
use Rattle.trace_rules.specs.Lines.{is_event}
use Rattle.trace_rules.specs.Seen as seen
use Rattle.trace_rules.specs.Seen.{begun, delivery}
use Rattle.trace_rules.specs.View.{View}
use Rattle.homa_plain.specs.Wire.{Between, packet_in}
use Rattle.check_call.specs.Spots.{Undo}
use Rattle.check_call.specs.Kept.{packet_of}
use Rattle.check_lines.specs.Changes.{Takes}
use Rattle.check_lines.specs.Traces.{Keeps}
use Rattle.check_lines.proofs.LineLaws.{both}
use Rattle.check_lines.proofs.EventLaws.{event_takes, begin_keeps, deliver_takes, recv_takes, packet_got, clock_keeps, shift_keeps, restart_keeps}
use Rattle.check_lines.proofs.EventLaws.{inject_keeps, call_due, call_here, clock_due, clock_here, restart_due, restart_here, shift_due, shift_here}
use Rattle.check_lines.proofs.EventLaws.{inject_due, inject_here}
use Rattle.check_lines.proofs.trace.Trace.take_event.Goals as goal

pub returns-in_ok-start-in-Call-clause-taken : goal.returns-in_ok-start-in-Call-clause-taken
returns-in_ok-start-in-Call-clause-taken c v o keeps place shape is =
    let a = c.in-Call in
    let s = subst (λ (e : Entry). has_shape v (plain e) ≡ true) a.is shape in
    let e = c.in_ok-start-in-Call.ensures in
    subst (λ (x : Entry). Takes v o (plain x) c.start.new.self) (sym a.is)
    (event_takes v o (PlainCall a.id a.server a.service a.bytes.now) c.start.new.self
    (e.kept v keeps (both (is_behind v) (is_new_call v a.id a.server a.bytes.now) s).1) (e.delivery ∙ c.requires.begun) refl
    (call_due v a.id a.server a.service a.bytes.now) (call_here v a.id a.server a.service a.bytes.now) (e.count.here ∙ c.requires.here))

pub returns-in_ok-deliver_some-in-Deliver-clause-taken : goal.returns-in_ok-deliver_some-in-Deliver-clause-taken
returns-in_ok-deliver_some-in-Deliver-clause-taken c v o keeps place shape is =
    let t = c.args.self.now in
    let a = c.in-Deliver in
    let e = c.in_ok-deliver_some-in-Deliver.ensures in
    subst (λ (x : Entry). Takes v o (plain x) c.deliver_some.new.self) (sym a.is)
    (deliver_takes v o c.deliver_some.new.self a.packet
    (e.taken (begun v) (delivery v (PlainDeliver a.packet)) (begin_keeps v t keeps) place refl
    (c.packet-packet.ensures ∙ packet_got v t a.packet keeps)) (e.count.here ∙ c.requires.here))

pub returns-in_ok-deliver_some-in-Recv-clause-taken : goal.returns-in_ok-deliver_some-in-Recv-clause-taken
returns-in_ok-deliver_some-in-Recv-clause-taken c v o keeps place shape is =
    let t = c.args.self.now in
    let a = c.in-Recv in
    let e = c.in_ok-deliver_some-in-Recv.ensures in
    let wire = ap (λ s. s.wire) keeps.settings in
    let got = c.received-packet.ensures (subst (Between 1 2) wire keeps.wire)
    ∙ ap (λ n. option_map packet_of (seen.received a.host a.from (packet_in n a.bytes.now))) (sym wire) in
    subst (λ (x : Entry). Takes v o (plain x) c.deliver_some-in-Recv.new.self) (sym a.is)
    (recv_takes v o c.deliver_some-in-Recv.new.self a.host a.from a.bytes.now
    (e.taken (begun v) (delivery v (PlainRecv a.host a.from a.bytes.now)) (begin_keeps v t keeps) place refl got) (e.count.here ∙ c.requires.here))

pub returns-in-Clock-clause-taken : goal.returns-in-Clock-clause-taken
returns-in-Clock-clause-taken c v o keeps place shape is =
    let t = c.args.self.now in
    let a = c.in-Clock in
    let u = record t { tick = a.tick } in
    subst (λ (x : Entry). Takes v o (plain x) u) (sym a.is)
    (event_takes v o (PlainClock a.tick) u (clock_keeps v t u a.tick keeps refl) c.requires.begun refl (clock_due v a.tick)
    (clock_here v a.tick) c.requires.here)

pub returns-in_ok-restart-in-Restart-clause-taken : goal.returns-in_ok-restart-in-Restart-clause-taken
returns-in_ok-restart-in-Restart-clause-taken c v o keeps place shape is =
    let t = c.args.self.now in
    let a = c.in-Restart in
    let u = c.restart.new.self in
    let e = c.in_ok-restart-in-Restart.ensures in
    subst (λ (x : Entry). Takes v o (plain x) u) (sym a.is)
    (event_takes v o (PlainRestart a.host a.inc) u (restart_keeps v t a.host a.inc keeps u e.rest e.restarts e.lead e.first e.asked e.awaited)
    (ap (λ z. z.delivery) e.rest ∙ c.requires.begun) refl
    (restart_due v a.host a.inc) (restart_here v a.host a.inc) (ap (λ z. z.here) e.rest ∙ c.requires.here))

pub returns-in_ok-shift-in-Shift-clause-taken : goal.returns-in_ok-shift-in-Shift-clause-taken
returns-in_ok-shift-in-Shift-clause-taken c v o keeps place shape is =
    let t = c.args.self.now in
    let a = c.in-Shift in
    let u = c.shift.new.self in
    let e = c.in_ok-shift-in-Shift.ensures in
    subst (λ (x : Entry). Takes v o (plain x) u) (sym a.is)
    (event_takes v o (PlainShift a.host a.n) u (shift_keeps v t u a.host a.n keeps e.rest e.lead e.first e.restarts e.lists)
    (ap (λ z. z.delivery) e.rest ∙ c.requires.begun) refl
    (shift_due v a.host a.n) (shift_here v a.host a.n) (ap (λ z. z.here) e.rest ∙ c.requires.here))

-- an event of which nothing is kept
others : (c : goal.In_default) (v : View) (o : Option Undo) → Keeps v c.args.self.now → (x : Entry) → c.args.line.now ≡ x → Takes v o (plain x) c.args.self.now
others c v o keeps (entry.Call a b d f) e = absurd (c.in_default.not-Call a b d f e)
others c v o keeps (entry.Deliver a) e = absurd (c.in_default.not-Deliver a e)
others c v o keeps (entry.Recv a b d) e = absurd (c.in_default.not-Recv a b d e)
others c v o keeps (entry.Clock a) e = absurd (c.in_default.not-Clock a e)
others c v o keeps (entry.Restart a b) e = absurd (c.in_default.not-Restart a b e)
others c v o keeps (entry.Shift a b) e = absurd (c.in_default.not-Shift a b e)
others c v o keeps (entry.Inject a b) e =
    event_takes v o (PlainInject a b.now) c.args.self.now (inject_keeps v c.args.self.now a b.now keeps) c.requires.begun refl (inject_due v a b.now)
    (inject_here v a b.now) c.requires.here
others c v o keeps x e = let h : false ≡ true = subst (λ (y : Entry). is_event (plain y) ≡ true) e c.requires.event in absurd cc

pub returns-in_default : goal.returns-in_default
returns-in_default c = record { taken = λ v o keeps place shape is. others c v o keeps c.args.line.now refl; numbers = record { place = refl; ended = refl } }
