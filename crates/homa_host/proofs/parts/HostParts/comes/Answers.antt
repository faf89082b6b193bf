-- A packet comes: too old, of a server, or of a client.
use Rattle.std.proofs.Common.{◌≡◌, ◌<◌, ◌+◌, ℕ, Bool, false, cond, [], ◌∷◌, length, ap, sym, subst, ◌∙◌, refl, arith}
use Rattle.std.specs.List.{AllByRecursion}
use Rattle.homa_plain.specs.declared.id.HostId.{HostId}
use Rattle.homa_plain.specs.declared.packet.Role.TheVariants.{Client, Server}
use Rattle.homa_plain.specs.declared.settings.Settings.{Settings}
use Rattle.homa_plain.specs.Rules.{Answer}
use Rattle.homa_plain.specs.Packets.{packet_between, acks}
use Rattle.homa_plain.specs.declared.id.CallId.{CallId}
use Rattle.homa_plain.specs.Entries.{PlainStale}
use Rattle.homa_plain.specs.Host.{Says}
use Rattle.homa_plain.specs.Settings.{IsValid}
use Rattle.host_state.specs.Control.{Control}
use Rattle.homa_plain.specs.Steps.{Asked, acked, comes_to_row}
use Rattle.homa_plain.specs.Work.{Work, begun, tells}
use Rattle.homa_plain.specs.Wire.{IsWellFormed}
use Rattle.homa_in.specs.Pieces.{piece_in}
use Rattle.homa_server.specs.Answers.{service_in}
use Rattle.host_view.specs.Marks.{has_ran, response_of, IsWhole}
use Rattle.homa_host.specs.Parts.{host_of}
use Rattle.homa_host.specs.Asking.{HasAsked}
use Rattle.homa_host.specs.Amid.{Amid}
use Rattle.homa_host.proofs.Delivered.{TellsAlike, none_allowed, served_none, answered_none}
use Rattle.homa_host.proofs.ServerHeard.{heard_work, HasHeard, heard_by}
use Rattle.homa_host.proofs.Came as came
use Rattle.homa_host.proofs.Came.{HasTold, told_by}
use Rattle.homa_host.proofs.parts.HostParts.comes.Given as given
use Rattle.homa_host.proofs.parts.HostParts.comes.Goals as goal
use Rattle.homa_host.proofs.parts.HostParts.comes.Goals.{After-is_stale, After-tell, After-settings-sound, After-client_gets, After-acknowledged}

-- whether the packet is too old
age : (g : given.Over) (c : After-is_stale g)
    → came.is_stale_here c.args.self.now.control.settings c.args.now c.args.from c.args.self.now.control.id c.args.packet.now c.args.payload.now
    ≡ c.is_stale.result
age g c = let o = c.args.self.now in
    sym (subst (λ (t : Settings). c.is_stale.result ≡ came.is_stale_here t c.args.now c.args.from o.control.id c.args.packet.now c.args.payload.now)
    c.settings.ensures.settings (c.is_stale.ensures (packet_between c.args.from o.control.id c.args.packet.now c.args.payload.now) refl))

-- one that is too old is told
stale : (g : given.Over) (c : After-tell g)
    → HasTold c.args.self.now c.args.now (PlainStale c.args.self.now.control.id c.args.packet.now.at c.args.now) c.tell.new.self
stale g c = told_by c.args.self.now c.requires.kept c.args.now c.requires.begins.now c.requires.begins.later
    (PlainStale c.args.self.now.control.id c.args.packet.now.at c.args.now) refl c.begin.new.self c.tell.new.self c.begin.ensures c.tell.ensures

-- the cutoffs of one of a server are heard
heard : (g : given.Over) (c : After-settings-sound g) → HasHeard c.args.self.now c.args.from c.args.packet.now c.args.now c.hear.new.self
heard g c = heard_by c.args.self.now c.requires.kept c.args.from c.args.packet.now c.args.now c.requires.begins.later c.begin-in-Server.new.self
    c.hear.new.self c.begin-in-Server.ensures c.hear.ensures.same c.settings-sound.ensures.sound c.hear.ensures.step

-- what the packet of a server did at the client of its call: no service is asked
record AtClient (g : given.Over) (c : After-client_gets g) : Type 0 where
  step : (a : Answer) → let o = c.args.self.now in
      let s = o.control.settings in
      let w = comes_to_row s (packet_between c.args.from o.control.id c.args.packet.now c.args.payload.now) a Server
      (heard_work o c.args.from c.args.packet.now c.args.now) in
      Amid w c.client_gets.new.self c.client_gets.new.out × AllByRecursion (IsWhole c.client_gets.new.scratch) w.told
  quiet : has_ran c.client_gets.new.self.control.marks ≡ false

at_client : (g : given.Over) (c : After-client_gets g) → HasHeard c.args.self.now c.args.from c.args.packet.now c.args.now c.hear.new.self → AtClient g c
at_client g c x =
    let o = c.args.self.now in
    let s = o.control.settings in
    let v = heard_work o c.args.from c.args.packet.now c.args.now in
    let there = subst (λ f. Amid v (record o { control = c.hear.new.self }) f) (sym c.requires.begins.out) x.amid in
    let p = packet_between c.args.from c.hear.new.self.id c.args.packet.now c.args.payload.now in
    let some : Answer = record { bytes = []; hold = 0 } in
    record {
      step = λ a. subst (λ (y : Settings × HostId). let w = comes_to_row y.0 (packet_between c.args.from y.1 c.args.packet.now c.args.payload.now) a
          Server v in Amid w c.client_gets.new.self c.client_gets.new.out × AllByRecursion (IsWhole c.client_gets.new.scratch) w.told)
          (λ i. (x.on.settings i, x.on.id i)) (
            c.client_gets.ensures.step v a there,
            c.client_gets.ensures.whole v a there (came.heard_told s c.args.from c.args.packet.now.sender c.args.packet.now.body (host_of o) c.args.now),
          );
      quiet = came.server_marks c.hear.new.self.settings p some v
          (came.heard_count s c.args.from c.args.packet.now.sender c.args.packet.now.body (host_of o) c.args.now)
          c.client_gets.new.self c.client_gets.new.out (c.client_gets.ensures.step v some there);
    }

-- what became of the packet of a client once the calls that it acknowledges were over
record AtServer (g : given.Over) (c : After-acknowledged g) : Type 1 where
  alike : TellsAlike c.server_gets.new.self c.acknowledged.new.self
  step : (a : Answer) → let o = c.args.self.now in
      let s = o.control.settings in
      let p = packet_between c.args.from o.control.id c.args.packet.now c.args.payload.now in
      let w = comes_to_row s p a Client (heard_work o c.args.from c.args.packet.now c.args.now) in
      Amid w c.server_gets.new.self c.server_gets.new.lent.out.now × AllByRecursion (IsWhole c.server_gets.new.lent.scratch.now) w.told
      → Amid (acked s (acks p) w) c.acknowledged.new.self c.server_gets.new.lent.out.now × AllByRecursion (IsWhole c.server_gets.new.lent.scratch.now)
      (acked s (acks p) w).told

at_server : (g : given.Over) (c : After-acknowledged g) → AtServer g c
at_server g c =
    let o = c.args.self.now in
    let s = o.control.settings in
    let mid = c.server_gets.new.self in
    let q = c.acknowledged.new.self in
    let e = c.in-Ok.ensures in
    let p = packet_between c.args.from o.control.id c.args.packet.now c.args.payload.now in
    let v = heard_work o c.args.from c.args.packet.now c.args.now in
    let quiet = came.heard_count s c.args.from c.args.packet.now.sender c.args.packet.now.body (host_of o) c.args.now in
    let step : (w : Work) → Amid w mid c.server_gets.new.lent.out.now → Amid (acked s (acks p) w) q c.server_gets.new.lent.out.now = λ w amid.
    subst (λ (y : Settings × HostId). Amid (acked y.0 (acks (packet_between c.args.from y.1 c.args.packet.now c.args.payload.now)) w) q
    c.server_gets.new.lent.out.now) (λ i. (e.steady.settings i, e.steady.id i))
    (c.acknowledged.ensures.step c.args.payload.now w c.server_gets.new.lent.out.now amid) in
    let others : AllByRecursion (λ (id : CallId). p.id ≡ id → ⊥) (acks p) → response_of (host_of q) p.id ≡ response_of (host_of mid) p.id =
    λ apart. c.acknowledged.ensures.others c.args.payload.now p.id
    (subst (λ (me : HostId). AllByRecursion (λ (id : CallId). p.id ≡ id → ⊥)
    (acks (packet_between c.args.from me c.args.packet.now c.args.payload.now))) (sym e.steady.id) apart) in
    let amid = (e.step e.served.answered.0 e.served.answered.1).0 in
    record {
      alike = came.client_alike s p v quiet mid q c.server_gets.new.lent.out.now c.server_gets.new.lent.out.now step others e.served.answered.0 amid;
      step = came.client_done s p v quiet mid q c.server_gets.new.lent.out.now c.server_gets.new.lent.out.now step others e.served.answered.0 amid
          c.server_gets.new.lent.scratch.now;
    }

pub is_stale-requires-clause-valid : goal.is_stale-requires-clause-valid
is_stale-requires-clause-valid g c = subst IsValid (sym c.settings.ensures.settings) c.requires.kept.control.valid

pub is_stale-requires-clause-sent : goal.is_stale-requires-clause-sent
is_stale-requires-clause-sent g c = came.at_most c.args.self.now.control.settings.wire c.args.packet.now.at c.requires.formed.tick

pub begin-requires : goal.begin-requires
begin-requires g c = c.requires.begins.now

pub tell-requires : goal.tell-requires
tell-requires g c = let none = ap (λ (k : Control). length k.marks) c.begin.ensures in omega (arith, none)

pub returns-then-is_stale-clause-step : goal.returns-then-is_stale-clause-step
returns-then-is_stale-clause-step g c a replies =
    let o = c.args.self.now in
    let at = goal.at.returns-then-is_stale-clause-step g c in
    let is = came.stale_comes o.control.settings (host_of o) c.args.now c.args.from o.control.id c.args.packet.now c.args.payload.now a
    (age g at.After-is_stale ∙ c.if-is_stale.true) in
    let w = tells (Says (PlainStale o.control.id c.args.packet.now.at c.args.now) ∷ []) (begun (host_of o) c.args.now) in
    subst (λ (w : Work). Amid w (record o { control = c.tell.new.self }) c.args.lent.now.out.now
    × AllByRecursion (IsWhole c.args.lent.now.scratch.now) w.told) (sym is)
    (subst (λ f. Amid w (record o { control = c.tell.new.self }) f) (sym c.requires.begins.out) (stale g at.After-tell).amid, (tt, tt))

pub returns-then-is_stale-clause-steady : goal.returns-then-is_stale-clause-steady
returns-then-is_stale-clause-steady g c =
    (stale g (goal.at.returns-then-is_stale-clause-steady g c).After-tell).steady c.args.lent.now.out.now c.requires.begins.out

pub returns-then-is_stale-clause-kept : goal.returns-then-is_stale-clause-kept
returns-then-is_stale-clause-kept g c = (stale g (goal.at.returns-then-is_stale-clause-kept g c).After-tell).kept

pub begin-requires-in-Server : goal.begin-requires-in-Server
begin-requires-in-Server g c = c.requires.begins.now

pub hear-requires-clause-peer : goal.hear-requires-clause-peer
hear-requires-clause-peer g c = subst (λ n. c.args.from.0 < n) (sym (ap (λ k. k.settings.hosts) c.begin-in-Server.ensures)) c.requires.begins.from

pub hear-requires-clause-fit : goal.hear-requires-clause-fit
hear-requires-clause-fit g c =
    came.fit_cutoffs c.args.packet.now.role c.args.packet.now.level c.args.packet.now.body c.args.payload.now c.requires.formed.of_kind

pub client_gets-requires-clause-kept : goal.client_gets-requires-clause-kept
client_gets-requires-clause-kept g c = (heard g (goal.at.client_gets-requires-clause-kept g c).After-settings-sound).kept

pub client_gets-requires-clause-from : goal.client_gets-requires-clause-from
client_gets-requires-clause-from g c =
    subst (λ (s : Settings). c.args.from.0 < s.hosts)
    (sym (heard g (goal.at.client_gets-requires-clause-from g c).After-settings-sound).on.settings) c.requires.begins.from

pub client_gets-requires-clause-formed : goal.client_gets-requires-clause-formed
client_gets-requires-clause-formed g c =
    subst (λ (s : Settings). IsWellFormed s.wire c.args.packet.now c.args.payload.now)
    (sym (heard g (goal.at.client_gets-requires-clause-formed g c).After-settings-sound).on.settings) c.requires.formed

pub client_gets-requires-clause-role : goal.client_gets-requires-clause-role
client_gets-requires-clause-role g c = c.in-Server.is

pub client_gets-requires-clause-order : goal.client_gets-requires-clause-order
client_gets-requires-clause-order g c = c.requires.begins.order

pub client_gets-requires-clause-room : goal.client_gets-requires-clause-room
client_gets-requires-clause-room g c =
    let none = (heard g (goal.at.client_gets-requires-clause-room g c).After-settings-sound).marks in
    record { marks_left = omega (arith, ap length none); frames_left = omega (arith, ap length c.requires.begins.out) }

pub server_gets-requires-clause-kept : goal.server_gets-requires-clause-kept
server_gets-requires-clause-kept g c = c.requires.kept

pub server_gets-requires-clause-begins : goal.server_gets-requires-clause-begins
server_gets-requires-clause-begins g c = c.requires.begins

pub server_gets-requires-clause-formed : goal.server_gets-requires-clause-formed
server_gets-requires-clause-formed g c = c.requires.formed

pub server_gets-requires-clause-role : goal.server_gets-requires-clause-role
server_gets-requires-clause-role g c = c.in-Client.is

pub returns-in-Err-clause-asks : goal.returns-in-Err-clause-asks
returns-in-Err-clause-asks g c a =
    let o = c.args.self.now in
    let s = o.control.settings in
    let p = packet_between c.args.from o.control.id c.args.packet.now c.args.payload.now in
    let v = heard_work o c.args.from c.args.packet.now c.args.now in
    let id : CallId = record { client = c.args.from; inc = c.args.packet.now.inc; seq = c.args.packet.now.seq } in
    let fresh = age g (goal.at.returns-in-Err-clause-asks g c).After-is_stale ∙ c.if-is_stale.false in
    let is = came.client_comes s (host_of o) c.args.now c.args.from o.control.id c.args.packet.now c.args.payload.now a fresh c.in-Client.is in
    let request : Asked =
    record { id = id; service = service_in (piece_in c.args.packet.now.body c.args.payload.now); request = c.server_gets.new.lent.scratch.now } in
    let asked = came.acked_asks s (acks p) (comes_to_row s p a Client v) request (c.in-Err.ensures.asks a) in
    subst (λ (w : Work). HasAsked c.call-id.result c.service_of-number.result c.server_gets.new.lent.scratch.now w.told) (sym is)
    (subst (λ (x : CallId × ℕ). HasAsked x.0 x.1 c.server_gets.new.lent.scratch.now (acked s (acks p) (comes_to_row s p a Client v)).told)
    (λ i. (sym c.call-id.ensures i, sym (c.service_of-number.ensures c.args.payload.now) i)) asked)

pub returns-in-Err-clause-kept : goal.returns-in-Err-clause-kept
returns-in-Err-clause-kept g c = c.server_gets.ensures.kept

pub acknowledged-requires-clause-kept : goal.acknowledged-requires-clause-kept
acknowledged-requires-clause-kept g c = c.server_gets.ensures.kept

pub acknowledged-requires-clause-from : goal.acknowledged-requires-clause-from
acknowledged-requires-clause-from g c = subst (λ (s : Settings). c.args.from.0 < s.hosts) (sym c.in-Ok.ensures.steady.settings) c.requires.begins.from

pub acknowledged-requires-clause-formed : goal.acknowledged-requires-clause-formed
acknowledged-requires-clause-formed g c = (
  c.args.payload.now,
  subst (λ (s : Settings). IsWellFormed s.wire c.args.packet.now c.args.payload.now)
      (sym c.in-Ok.ensures.steady.settings) c.requires.formed,
)

pub acknowledged-requires-clause-role : goal.acknowledged-requires-clause-role
acknowledged-requires-clause-role g c = c.in-Client.is

pub acknowledged-requires-clause-order : goal.acknowledged-requires-clause-order
acknowledged-requires-clause-order g c = let up = c.in-Ok.ensures.steady.order in let small = c.requires.begins.order in omega (arith, up, small)

pub acknowledged-requires-clause-room : goal.acknowledged-requires-clause-room
acknowledged-requires-clause-room g c =
    let s = c.in-Ok.ensures.steady in
    omega (arith, s.marks_told)

pub returns-in-Server-clause-step : goal.returns-in-Server-clause-step
returns-in-Server-clause-step g c a replies =
    let o = c.args.self.now in
    let at = goal.at.returns-in-Server-clause-step g c in
    let is = came.server_comes o.control.settings (host_of o) c.args.now c.args.from o.control.id c.args.packet.now c.args.payload.now a
    (age g at.After-is_stale ∙ c.if-is_stale.false) c.in-Server.is c.requires.formed.of_kind in
    subst (λ (w : Work). Amid w c.client_gets.new.self c.client_gets.new.out × AllByRecursion (IsWhole c.client_gets.new.scratch) w.told) (sym is)
    ((at_client g at.After-client_gets (heard g at.After-settings-sound)).step a)

pub returns-in-Server-clause-steady : goal.returns-in-Server-clause-steady
returns-in-Server-clause-steady g c =
    let t = c.client_gets.ensures.steady in
    let x = heard g (goal.at.returns-in-Server-clause-steady g c).After-settings-sound in
    record {
      settings = t.settings ∙ x.on.settings;
      id = t.id ∙ x.on.id;
      last = t.last ∙ x.last;
      marks_told = omega (arith, t.marks_told, ap length x.marks);
      frames_sent = omega (arith, t.frames_sent, ap length c.requires.begins.out);
      order = omega (arith, t.order);
    }

pub returns-in-Server-clause-kept : goal.returns-in-Server-clause-kept
returns-in-Server-clause-kept g c = c.client_gets.ensures.kept

pub returns-in-Ok-clause-step : goal.returns-in-Ok-clause-step
returns-in-Ok-clause-step g c a replies =
    let o = c.args.self.now in
    let at = goal.at.returns-in-Ok-clause-step g c in
    let x = at_server g at.After-acknowledged in
    let is = came.client_comes o.control.settings (host_of o) c.args.now c.args.from o.control.id c.args.packet.now c.args.payload.now a
    (age g at.After-is_stale ∙ c.if-is_stale.false) c.in-Client.is in
    subst (λ (w : Work). Amid w c.acknowledged.new.self c.server_gets.new.lent.out.now
    × AllByRecursion (IsWhole c.server_gets.new.lent.scratch.now) w.told) (sym is)
    (x.step a (c.in-Ok.ensures.step a (x.alike.back a replies)))

pub returns-in-Ok-clause-steady : goal.returns-in-Ok-clause-steady
returns-in-Ok-clause-steady g c =
    let e = c.in-Ok.ensures.steady in
    let t = c.acknowledged.ensures.steady in
    record {
      settings = t.settings ∙ e.settings;
      id = t.id ∙ e.id;
      last = t.last ∙ e.last;
      marks_told = omega (arith, t.marks_told, e.marks_told);
      frames_sent = omega (arith, e.frames_sent);
      order = omega (arith, t.order, e.order);
    }

pub returns-in-Ok-clause-kept : goal.returns-in-Ok-clause-kept
returns-in-Ok-clause-kept g c = c.acknowledged.ensures.kept

pub returns-then-is_stale-clause-served : goal.returns-then-is_stale-clause-served
returns-then-is_stale-clause-served g c =
    let quiet = (stale g (goal.at.returns-then-is_stale-clause-served g c).After-tell).quiet in
    let host = host_of (record c.args.self.now { control = c.tell.new.self }) in
    record {
      counted = served_none (g.V.Service.served c.args.lent.now.service.now) c.tell.new.self.marks quiet;
      answered = answered_none host c.tell.new.self.marks quiet;
      allowed = none_allowed host (g.V.Service.allows c.args.lent.now.service.now (g.V.Service.served c.args.lent.now.service.now))
          c.args.lent.now.scratch.now c.tell.new.self.marks quiet;
    }

pub returns-then-is_stale-clause-lent : goal.returns-then-is_stale-clause-lent
returns-then-is_stale-clause-lent g c = record { service = refl; out = refl; scratch = refl; before = λ count number hold q r allows. allows }

pub returns-in-Server-clause-served : goal.returns-in-Server-clause-served
returns-in-Server-clause-served g c =
    let at = goal.at.returns-in-Server-clause-served g c in
    let quiet = (at_client g at.After-client_gets (heard g at.After-settings-sound)).quiet in
    record {
      counted = served_none (g.V.Service.served c.args.lent.now.service.now) c.client_gets.new.self.control.marks quiet;
      answered = answered_none (host_of c.client_gets.new.self) c.client_gets.new.self.control.marks quiet;
      allowed = none_allowed (host_of c.client_gets.new.self)
          (g.V.Service.allows c.args.lent.now.service.now (g.V.Service.served c.args.lent.now.service.now))
          c.client_gets.new.scratch c.client_gets.new.self.control.marks quiet;
    }

pub returns-in-Server-clause-lent : goal.returns-in-Server-clause-lent
returns-in-Server-clause-lent g c = record { service = refl; out = refl; scratch = refl; before = λ count number hold q r allows. allows }

pub returns-in-Ok-clause-served : goal.returns-in-Ok-clause-served
returns-in-Ok-clause-served g c =
    let served = c.in-Ok.ensures.served in
    let alike = (at_server g (goal.at.returns-in-Ok-clause-served g c).After-acknowledged).alike in
    record {
      counted = subst (λ (b : Bool). g.V.Service.served c.server_gets.new.lent.service.now
          ≡ cond b (g.V.Service.served c.args.lent.now.service.now + 1) (g.V.Service.served c.args.lent.now.service.now)) (sym alike.ran) served.counted;
      answered = (served.answered.0, alike.on served.answered.0 served.answered.1);
      allowed = alike.allowed (g.V.Service.allows c.args.lent.now.service.now (g.V.Service.served c.args.lent.now.service.now))
          c.server_gets.new.lent.scratch.now served.allowed;
    }

pub returns-in-Ok-clause-lent : goal.returns-in-Ok-clause-lent
returns-in-Ok-clause-lent g c =
    let same = c.server_gets.ensures.lent in
    record { service = same.service; out = same.out; scratch = same.scratch; before = same.before }

pub returns-in-Err-clause-same : goal.returns-in-Err-clause-same
returns-in-Err-clause-same g c = c.in-Err.ensures.same

pub returns-in-Err-clause-refused : goal.returns-in-Err-clause-refused
returns-in-Err-clause-refused g c = c.in-Err.ensures.refused

pub returns-in-Err-clause-lent : goal.returns-in-Err-clause-lent
returns-in-Err-clause-lent g c = c.server_gets.ensures.lent
