use Rattle.std.proofs.Common.{rules, ◌≡◌, ◌≤◌, ℕ, Option, Some, None, List, [], ◌∷◌, length, ap, sym, subst, refl, arith}
use Rattle.std.specs.Prelude.{OnOk, IfErr}
use Rattle.std.specs.List.{AllByRecursion}
use Rattle.std.specs.Option.{option_map}
use Rattle.homa_plain.specs.declared.packet.Packet.{Packet as WirePacket}
use Rattle.homa_plain.specs.declared.settings.Settings.{Settings}
use Rattle.homa_plain.specs.Entries.{PlainJunk}
use Rattle.homa_plain.specs.Host.{Says}
use Rattle.homa_plain.specs.Rules.{Answer}
use Rattle.homa_plain.specs.Packets.{Packet, packet_between}
use Rattle.homa_plain.specs.Work.{begun, tells}
use Rattle.homa_plain.specs.Steps.{comes}
use Rattle.homa_plain.specs.Wire.{packet_in}
use Rattle.homa_wire.specs.Part.{part}
use Rattle.host_state.specs.Control.{Control}
use Rattle.host_view.specs.Marks.{IsReply, IsWhole}
use Rattle.host_view.specs.Done.{arriving}
use Rattle.homa_host.specs.Parts.{host_of, seen_of}
use Rattle.homa_host.specs.Asking.{HasAsked}
use Rattle.homa_host.specs.Amid.{Amid}
use Rattle.homa_host.proofs.Delivered.{none_allowed, served_none, answered_none}
use Rattle.homa_host.proofs.Came.{HasTold, told_by}
use Rattle.homa_host.proofs.parts.HostParts.arrives.Given as given
use Rattle.homa_host.proofs.parts.HostParts.arrives.Goals as goal
use Rattle.homa_host.proofs.parts.HostParts.arrives.Goals.{After-tell, In-Some}

-- what is no packet is told
junk : (g : given.Over) (c : After-tell g) → HasTold c.args.self.now c.args.now (PlainJunk c.args.self.now.control.id) c.tell.new.self
junk g c = told_by c.args.self.now c.requires.kept c.args.now c.requires.begins.now c.requires.begins.later (PlainJunk c.args.self.now.control.id) refl
    c.begin.new.self c.tell.new.self c.begin.ensures c.tell.ensures

-- what a datagram is read as, at its host
came : (g : given.Over) (c : In-Some g)
    → Some (packet_between c.args.from c.args.self.now.control.id c.in-Some.packet (part c.args.frame.now c.in-Some.span)) ≡ arriving
    (seen_of c.args.self.now) c.args.from c.args.frame.now
came g c = sym (ap (option_map (λ (r : WirePacket × List ℕ). packet_between c.args.from c.args.self.now.control.id r.0 r.1))
    (sym (subst (λ (s : Settings). Some (c.in-Some.packet, part c.args.frame.now c.in-Some.span) ≡ packet_in s.wire c.args.frame.now)
    c.settings.ensures.settings c.in-Some.ensures.read)))

pub decode-requires : goal.decode-requires
decode-requires g c =
    let r = c.requires.kept.control.valid.in_range.2.2.2.2.2.2.2.2.2.2.2.2.2.2 in
    subst (λ (s : Settings). (1 ≤ s.wire) × (s.wire ≤ 2)) (sym c.settings.ensures.settings) (r.0, r.1)

pub begin-requires : goal.begin-requires
begin-requires g c = c.requires.begins.now

pub tell-requires : goal.tell-requires
tell-requires g c = let none = ap (λ (k : Control). length k.marks) c.begin.ensures in omega (arith, none)

pub slice_bounds-payload-count : goal.slice_bounds-payload-count
slice_bounds-payload-count g c = search rules

pub slice_bounds-payload-start : goal.slice_bounds-payload-start
slice_bounds-payload-start g c = search rules

pub slice_bounds-payload-end : goal.slice_bounds-payload-end
slice_bounds-payload-end g c = search rules

pub comes-requires-clause-kept : goal.comes-requires-clause-kept
comes-requires-clause-kept g c = c.requires.kept

pub comes-requires-clause-begins : goal.comes-requires-clause-begins
comes-requires-clause-begins g c = c.requires.begins

pub comes-requires-clause-formed : goal.comes-requires-clause-formed
comes-requires-clause-formed g c = search (rules, c.settings.ensures.settings, c.in-Some.ensures.spelled.0)

pub returns-in-None-clause-step : goal.returns-in-None-clause-step
returns-in-None-clause-step g c a replies =
    let o = c.args.self.now in
    let read = sym (subst (λ (s : Settings). None ≡ packet_in s.wire c.args.frame.now) c.settings.ensures.settings c.in-None.ensures.read) in
    let is : arriving (seen_of o) c.args.from c.args.frame.now ≡ None =
    ap (option_map (λ (r : WirePacket × List ℕ). packet_between c.args.from o.control.id r.0 r.1)) read in
    let w = tells (Says (PlainJunk o.control.id) ∷ []) (begun (host_of o) c.args.now) in
    subst (λ (p : Option Packet). Amid (comes o.control.settings p a (begun (host_of o) c.args.now)) (record o { control = c.tell.new.self })
    c.args.lent.now.out.now × AllByRecursion (IsWhole c.args.lent.now.scratch.now) (comes o.control.settings p a (begun (host_of o) c.args.now)).told)
    (sym is) (
      subst (λ f. Amid w (record o { control = c.tell.new.self }) f) (sym c.requires.begins.out)
          (junk g (goal.at.returns-in-None-clause-step g c).After-tell).amid,
      (tt, tt),
    )

pub returns-in-None-clause-steady : goal.returns-in-None-clause-steady
returns-in-None-clause-steady g c = (junk g (goal.at.returns-in-None-clause-steady g c).After-tell).steady c.args.lent.now.out.now c.requires.begins.out

pub returns-in-None-clause-kept : goal.returns-in-None-clause-kept
returns-in-None-clause-kept g c = (junk g (goal.at.returns-in-None-clause-kept g c).After-tell).kept

pub returns-in-Some-clause-step : goal.returns-in-Some-clause-step
returns-in-Some-clause-step g c =
    let o = c.args.self.now in
    subst (λ (p : Option Packet). OnOk c.comes.result ((a : Answer) → AllByRecursion (IsReply (host_of c.comes.new.self) a) c.comes.new.self.control.marks
    → (Amid (comes o.control.settings p a (begun (host_of o) c.args.now)) c.comes.new.self c.comes.new.lent.out.now)
    × AllByRecursion (IsWhole c.comes.new.lent.scratch.now) (comes o.control.settings p a (begun (host_of o) c.args.now)).told))
    (came g (goal.at.returns-in-Some-clause-step g c).In-Some) c.comes.ensures.step

pub returns-in-Some-clause-steady : goal.returns-in-Some-clause-steady
returns-in-Some-clause-steady g c = c.comes.ensures.steady

pub returns-in-Some-clause-kept : goal.returns-in-Some-clause-kept
returns-in-Some-clause-kept g c = c.comes.ensures.kept

pub returns-in-Some-clause-served : goal.returns-in-Some-clause-served
returns-in-Some-clause-served g c = c.comes.ensures.served

pub returns-in-Some-clause-asks : goal.returns-in-Some-clause-asks
returns-in-Some-clause-asks g c =
    let o = c.args.self.now in
    subst (λ (p : Option Packet). IfErr c.comes.result
    (λ e. (a : Answer) → HasAsked e.id e.number c.comes.new.lent.scratch.now (comes o.control.settings p a (begun (host_of o) c.args.now)).told))
    (came g (goal.at.returns-in-Some-clause-asks g c).In-Some) c.comes.ensures.asks

pub returns-in-Some-clause-same : goal.returns-in-Some-clause-same
returns-in-Some-clause-same g c = c.comes.ensures.same

pub returns-in-Some-clause-refused : goal.returns-in-Some-clause-refused
returns-in-Some-clause-refused g c = c.comes.ensures.refused

pub returns-in-Some-clause-lent : goal.returns-in-Some-clause-lent
returns-in-Some-clause-lent g c = c.comes.ensures.lent

pub returns-in-None-clause-served : goal.returns-in-None-clause-served
returns-in-None-clause-served g c =
    let quiet = (junk g (goal.at.returns-in-None-clause-served g c).After-tell).quiet in
    let host = host_of (record c.args.self.now { control = c.tell.new.self }) in
    record {
      counted = served_none (g.V.Service.served c.args.lent.now.service.now) c.tell.new.self.marks quiet;
      answered = answered_none host c.tell.new.self.marks quiet;
      allowed = none_allowed host (g.V.Service.allows c.args.lent.now.service.now (g.V.Service.served c.args.lent.now.service.now))
          c.args.lent.now.scratch.now c.tell.new.self.marks quiet;
    }

pub returns-in-None-clause-lent : goal.returns-in-None-clause-lent
returns-in-None-clause-lent g c = record { service = refl; out = refl; scratch = refl; before = λ count number hold q r allows. allows }
