-- A host's whole steps: how each begins, and that it is done.
use Rattle.std.proofs.Common.{◌≡◌, ◌≤◌, ℕ, Bool, true, false, cond, Option, Some, None, List, [], refl, sym, ap, subst, ◌∙◌, arith}
use Rattle.std.specs.Prelude.{nat_lt, IfSome}
use Rattle.std.specs.List.{AllByRecursion}
use Rattle.homa_plain.specs.declared.id.HostId.{HostId}
use Rattle.homa_plain.specs.declared.settings.Settings.{Settings}
use Rattle.homa_plain.specs.declared.packet.Role.{Role}
use Rattle.homa_plain.specs.declared.packet.Role.TheVariants.{Client, Server}
use Rattle.homa_plain.specs.declared.packet.Packet.{Packet as WirePacket}
use Rattle.std.specs.Option.{option_map}
use Rattle.homa_plain.specs.Wire.{packet_in}
use Rattle.homa_plain.specs.Host.{Host}
use Rattle.homa_plain.specs.Packets.{Packet, call_between, packet_between}
use Rattle.homa_plain.specs.Rules.{Answer}
use Rattle.homa_plain.specs.Timers.{Place, OfClient, OfServer}
use Rattle.homa_plain.specs.Work.{Work, begun}
use Rattle.homa_plain.specs.Credit.{refilled}
use Rattle.homa_plain.specs.Steps.{starts, comes, acts, ended, call_step, arrival_step, turn_step, Asked, asked_in}
use Rattle.step_laws.specs.StepLaws.{IsBounded}
use Rattle.step_laws.proofs.Bounds.{call-bounded, arrival-bounded, turn-bounded}
use Rattle.homa_in.specs.Pooled.{IsInPool, HasNumber}
use Rattle.host_view.specs.declared.outbox.SentFrame.{SentFrame}
use Rattle.host_view.specs.Seen.{Seen, AreReady}
use Rattle.host_view.specs.Marks.{IsReply, IsWhole}
use Rattle.host_view.specs.Done.{IsDone, arriving}
use Rattle.host_state.specs.Control.{Control}
use Rattle.homa_pacer.specs.Pace.{Pace, refill}
use Rattle.host_laws.proofs.Shown.{call-shown, arrival-shown, turn-shown}
use Rattle.host_laws.proofs.OwnTold.{ended-told}
use Rattle.homa_host.specs.Parts.{host_of, seen_of, part_in, IsKept}
use Rattle.homa_host.specs.Amid.{Amid}
use Rattle.homa_host.specs.Public.{IsSameHost}
use Rattle.homa_host.specs.declared.parts.HostParts.{HostParts}
use Rattle.homa_host.proofs.Finished.{finished}
use Rattle.homa_host.proofs.Begun.{kept-control, sound-begun}
use Rattle.homa_host.proofs.Delivered.{asked_stays}
use Rattle.homa_host.proofs.SameLife.{life, call-life, arrival-life, turn-life}

-- ---- the credit is filled up

-- parts with another pacer, of the same messages
kept-pacer : (p : HostParts) (pace : Pace) → pace.ready ≡ p.books.pacer.ready → pace.slots ≡ p.books.pacer.slots → pace.rate ≡ p.books.pacer.rate
    → IsKept p → IsKept (record p { books = record p.books { pacer = pace } })
kept-pacer p pace ready slots rate kept = record {
  control = kept.control;
  one = record {
    client = kept.one.client;
    life = kept.one.life;
    client_settings = kept.one.client_settings;
    server = kept.one.server;
    server_settings = kept.one.server_settings;
  };
  own = record { rows = kept.own.rows; arriving = kept.own.arriving; leaving = kept.own.leaving };
  known = record { clients = kept.known.clients; own = kept.known.own; servers = kept.known.servers };
  foreign = kept.foreign;
  opened = kept.opened;
  parts = record { within = λ k. in_place k; apart = λ j k. apart_in j k };
  pages = kept.pages;
  leased = kept.leased;
  client_places = kept.client_places;
  server_places = kept.server_places;
  room = record {
    timers = kept.room.timers;
    grants = kept.room.grants;
    hosts = kept.room.hosts;
    most = kept.room.most;
    pacer = slots ∙ kept.room.pacer;
    rate = rate ∙ kept.room.rate;
  };
  booked = record {
    armed = kept.booked.armed;
    entered = kept.booked.entered;
    granted = kept.booked.granted;
    ready = subst (λ book. AreReady (seen_of after) book) (sym ready) (record { all = kept.booked.ready.all; only = kept.booked.ready.only });
  };
} where
  after : HostParts
  after = record p { books = record p.books { pacer = pace } }

  in_place : (k : Place) → IsInPool p.pool (part_in after k)
  in_place (OfClient id) = kept.parts.within (OfClient id)
  in_place (OfServer id) = kept.parts.within (OfServer id)

  apart_in : (j k : Place) (n : ℕ) → HasNumber n (part_in after j) → HasNumber n (part_in after k) → j ≡ k
  apart_in (OfClient a) (OfClient b) n x y = kept.parts.apart (OfClient a) (OfClient b) n x y
  apart_in (OfClient a) (OfServer b) n x y = kept.parts.apart (OfClient a) (OfServer b) n x y
  apart_in (OfServer a) (OfClient b) n x y = kept.parts.apart (OfServer a) (OfClient b) n x y
  apart_in (OfServer a) (OfServer b) n x y = kept.parts.apart (OfServer a) (OfServer b) n x y

module _ (p : HostParts) (kept : IsKept p) (now : ℕ) (clock : now ≤ 1000000002000) (later : p.control.last ≤ now) (control : Control)
    (is : control ≡ record p.control { last = now; marks = [] }) where
  -- as it begins
  pub begun_kept : IsKept (record p { control = control })
  begun_kept = subst (λ (c : Control). IsKept (record p { control = c })) (sym is)
      (kept-control p (record p.control { last = now; marks = [] }) (record { settings = refl; id = refl; inc = refl; last = later; opened = refl })
      (sound-begun p.control now [] clock (omega arith) kept.control) kept)

  pub filled_kept : (pace : Pace) → pace ≡ refill now p.books.pacer → IsKept (record p { control = control; books = record p.books { pacer = pace } })
  filled_kept pace e = subst (λ (q : Pace). IsKept (record p { control = control; books = record p.books { pacer = q } })) (sym e)
      (by_test (nat_lt p.books.pacer.refilled now)) where
        by_test : (b : Bool)
            → IsKept (record p {
              control = control;
              books = record p.books { pacer = cond b (record p.books.pacer { credit = p.books.pacer.rate; refilled = now }) p.books.pacer };
            })
        by_test true =
            kept-pacer (record p { control = control }) (record p.books.pacer { credit = p.books.pacer.rate; refilled = now }) refl refl refl begun_kept
        by_test false = begun_kept

  pub filled_amid : (pace : Pace) → pace ≡ refill now p.books.pacer
      → Amid (begun (refilled p.control.settings (record (host_of p) { last = now })) now)
      (record p { control = control; books = record p.books { pacer = pace } }) []
  filled_amid pace e =
      subst (λ (c : Control). Amid (begun (refilled p.control.settings (record (host_of p) { last = now })) now)
      (record p { control = c; books = record p.books { pacer = pace } }) []) (sym is)
      (subst (λ (q : Pace). Amid (begun (refilled p.control.settings (record (host_of p) { last = now })) now)
      (record p { control = record p.control { last = now; marks = [] }; books = record p.books { pacer = q } }) []) (sym e)
      (by_test (nat_lt p.books.pacer.refilled now))) where
        base : Host
        base = record (host_of p) { last = now }

        by_test : (b : Bool) → Amid (begun (cond b (record base { credit = p.control.settings.rate; refilled = base.last }) base) now)
            (record p {
              control = record p.control { last = now; marks = [] };
              books = record p.books { pacer = cond b (record p.books.pacer { credit = p.books.pacer.rate; refilled = now }) p.books.pacer };
            }) []
        by_test true = record { host = λ i. record base { credit = kept.room.rate i; refilled = now }; marked = refl; sent = refl; formed = tt }
        by_test false = record { host = refl; marked = refl; sent = refl; formed = tt }

-- ---- as they end

module _ (o q : HostParts) (kept : IsKept o) (now : ℕ) (settings : q.control.settings ≡ o.control.settings) where
  few : o.control.settings.overcommit ≤ 7
  few = kept.control.valid.in_range.2.2.2.2.1

  -- the same host
  same-host : (n : ℕ) (w : Work) → n ≤ 64 → IsBounded n (host_of o) w → life w.host ≡ (o.control.id, o.control.inc, now) → host_of q ≡ w.host
      → IsSameHost (seen_of o) (seen_of q)
  same-host n w up bounded lives is = record {
    settings = settings;
    id = ap (λ (h : Host). h.id) is ∙ ap (λ (l : HostId × ℕ × ℕ). l.0) lives;
    inc = ap (λ (h : Host). h.inc) is ∙ ap (λ (l : HostId × ℕ × ℕ). l.1) lives;
    order = let most = bounded.order in let same = ap (λ (h : Host). h.order) is in omega (arith, most, same, up);
  }

  last-now : (w : Work) → life w.host ≡ (o.control.id, o.control.inc, now) → host_of q ≡ w.host → q.control.last ≡ now
  last-now w lives is = ap (λ (h : Host). h.last) is ∙ ap (λ (l : HostId × ℕ × ℕ). l.2) lives

  module _ (frames : List SentFrame) where
    -- a turn
    module _ (amid : Amid
        (ended o.control.settings (acts o.control.settings (begun (refilled o.control.settings (record (host_of o) { last = now })) now))) q frames) where
      turn_amid : Amid (turn_step o.control.settings (host_of o) now) q frames
      unfolding turn_step
      turn_amid = amid

      pub turn_same : IsSameHost (seen_of o) (seen_of q)
      turn_same = same-host 32 (turn_step o.control.settings (host_of o) now) (omega arith) (turn-bounded o.control.settings few (host_of o) now)
          (turn-life o.control.settings (host_of o) now) turn_amid.host

      pub turn_last : q.control.last ≡ now
      turn_last = last-now (turn_step o.control.settings (host_of o) now) (turn-life o.control.settings (host_of o) now) turn_amid.host

      pub turn_done : (whole : List ℕ) → IsDone (seen_of o) (turn_step o.control.settings (host_of o) now) (seen_of q) frames whole
      turn_done whole = finished (seen_of o) (turn_step o.control.settings (host_of o) now) q frames whole settings turn_amid
          (turn-shown o.control.settings (host_of o) now (seen_of q) whole turn_same.id turn_last)

    -- a call
    module _ (server : HostId) (service : ℕ) (request : List ℕ)
        (amid : Amid (ended o.control.settings (starts o.control.settings server service request (begun (host_of o) now))) q frames) where
      call_amid : Amid (call_step o.control.settings (host_of o) now server service request) q frames
      unfolding call_step
      call_amid = amid

      pub call_same : IsSameHost (seen_of o) (seen_of q)
      call_same = same-host 1 (call_step o.control.settings (host_of o) now server service request) (omega arith)
          (call-bounded o.control.settings few (host_of o) now server service request)
          (call-life o.control.settings (host_of o) now server service request) call_amid.host

      pub call_last : q.control.last ≡ now
      call_last = last-now (call_step o.control.settings (host_of o) now server service request)
          (call-life o.control.settings (host_of o) now server service request) call_amid.host

      pub call_done : (whole : List ℕ) → IsDone (seen_of o) (call_step o.control.settings (host_of o) now server service request) (seen_of q) frames whole
      call_done whole = finished (seen_of o) (call_step o.control.settings (host_of o) now server service request) q frames whole settings call_amid
          (call-shown o.control.settings (host_of o) now server service request (seen_of q) whole call_amid.host)

    -- a packet that comes
    module _ (p : Option Packet) (a : Answer) (amid : Amid (ended o.control.settings (comes o.control.settings p a (begun (host_of o) now))) q frames) where
      arrival_amid : Amid (arrival_step o.control.settings (host_of o) now p a) q frames
      unfolding arrival_step
      arrival_amid = amid

      pub arrival_same : IsSameHost (seen_of o) (seen_of q)
      arrival_same =
          same-host 2 (arrival_step o.control.settings (host_of o) now p a) (omega arith) (arrival-bounded o.control.settings few (host_of o) now p a)
          (arrival-life o.control.settings (host_of o) now p a) arrival_amid.host

      pub arrival_last : q.control.last ≡ now
      arrival_last = last-now (arrival_step o.control.settings (host_of o) now p a) (arrival-life o.control.settings (host_of o) now p a) arrival_amid.host

      pub arrival_done : (whole : List ℕ) → IfSome p (λ (p : Packet). p.role ≡ Server → p.id.client ≡ o.control.id)
          → AllByRecursion (IsReply (host_of q) a) q.control.marks
          → AllByRecursion (IsWhole whole) (arrival_step o.control.settings (host_of o) now p a).told
          → IsDone (seen_of o) (arrival_step o.control.settings (host_of o) now p a) (seen_of q) frames whole
      arrival_done whole of_host reply is_whole =
          finished (seen_of o) (arrival_step o.control.settings (host_of o) now p a) q frames whole settings arrival_amid
          (arrival-shown o.control.settings (host_of o) now p a (seen_of q) whole arrival_same.id arrival_last of_host arrival_amid.marked reply is_whole)

-- ---- the moves of a step, one after another

-- what ends it
pub ended_through : (s : Settings) (w : Work) (mid q : HostParts) (before after : List SentFrame) → mid.control.settings ≡ s → Amid w mid before
    → ((v : Work) → Amid v mid before → Amid (ended mid.control.settings v) q after) → Amid (ended s w) q after
ended_through s w mid q before after settings amid ends = subst (λ (t : Settings). Amid (ended t w) q after) settings (ends w amid)

-- the rows that were due in a turn acted
pub turn_acted : (o : HostParts) (kept : IsKept o) (now : ℕ) (clock : now ≤ 1000000002000) (later : o.control.last ≤ now) (control : Control)
    (is : control ≡ record o.control { last = now; marks = [] }) (pace : Pace) → pace ≡ refill now o.books.pacer
    → (mid : HostParts) (before between : List SentFrame) → before ≡ []
    → ((w : Work) → Amid w (record o { control = control; books = record o.books { pacer = pace } }) before → Amid (acts control.settings w) mid between)
    → Amid (acts o.control.settings (begun (refilled o.control.settings (record (host_of o) { last = now })) now)) mid between
turn_acted o kept now clock later control is pace e mid before between none acting =
    let w : Work = begun (refilled o.control.settings (record (host_of o) { last = now })) now in
    let base : HostParts = record o { control = control; books = record o.books { pacer = pace } } in
    let same : control.settings ≡ o.control.settings = ap (λ (c : Control). c.settings) is in
    let begins : Amid w base before = subst (Amid w base) (sym none) (filled_amid o kept now clock later control is pace e) in
    subst (λ (s : Settings). Amid (acts s w) mid between) same (acting w begins)

-- a turn
pub turn_through : (o : HostParts) (kept : IsKept o) (now : ℕ) (clock : now ≤ 1000000002000) (later : o.control.last ≤ now) (control : Control)
    (is : control ≡ record o.control { last = now; marks = [] }) (pace : Pace) → pace ≡ refill now o.books.pacer
    → (mid q : HostParts) (before between after : List SentFrame) → before ≡ []
    → ((w : Work) → Amid w (record o { control = control; books = record o.books { pacer = pace } }) before → Amid
    (acts control.settings w) mid between) → mid.control.settings ≡ control.settings
    → ((w : Work) → Amid w mid between → Amid (ended mid.control.settings w) q after)
    → Amid (ended o.control.settings (acts o.control.settings (begun (refilled o.control.settings (record (host_of o) { last = now })) now))) q after
turn_through o kept now clock later control is pace e mid q before between after none acting settings ends =
    let w : Work = begun (refilled o.control.settings (record (host_of o) { last = now })) now in
    let same : control.settings ≡ o.control.settings = ap (λ (c : Control). c.settings) is in
    let acted = turn_acted o kept now clock later control is pace e mid before between none acting in
    ended_through o.control.settings (acts o.control.settings w) mid q between after (settings ∙ same) acted ends

-- ---- nothing happens

pub quiet_kept : (p : HostParts) → IsKept p → (c : Control) → c ≡ record p.control { marks = [] } → IsKept (record p { control = c })
quiet_kept p kept c e = subst (λ (k : Control). IsKept (record p { control = k })) (sym e)
    (kept-control p (record p.control { marks = [] }) (record { settings = refl; id = refl; inc = refl; last = omega arith; opened = refl })
    (sound-begun p.control p.control.last [] kept.control.last (omega arith) kept.control) kept)

pub quiet_seen : (o p : HostParts) (h : Seen) (c : Control) → seen_of o ≡ h → p ≡ o → c ≡ record p.control { marks = [] }
    → seen_of (record p { control = c }) ≡ record h { marks = [] }
quiet_seen o p h c view same e = ap (λ (k : Control). seen_of (record p { control = k })) e
    ∙ ap (λ (q : HostParts). record (seen_of q) { marks = [] }) same ∙ ap (λ (g : Seen). record g { marks = [] }) view

pub quiet_same : (h k : Seen) → k ≡ record h { marks = [] } → IsSameHost h k
quiet_same h k e = subst (IsSameHost h) (sym e) (record { settings = refl; id = refl; inc = refl; order = omega arith })

-- ---- a packet that comes

-- the packet of a server comes to the client of its call
client_is : (r : Role) (from me : HostId) (inc seq : ℕ) → r ≡ Server → (call_between r from me inc seq).client ≡ me
client_is Client from me inc seq e = cc
client_is Server from me inc seq e = refl

pub arriving_of_host : (o : HostParts) (from : HostId) (bytes : List ℕ)
    → IfSome (arriving (seen_of o) from bytes) (λ (p : Packet). p.role ≡ Server → p.id.client ≡ o.control.id)
arriving_of_host o from bytes = by_case (packet_in o.control.settings.wire bytes) where
  by_case : (r : Option (WirePacket × List ℕ)) → IfSome (option_map (λ (r : WirePacket × List ℕ). packet_between from o.control.id r.0 r.1) r)
      (λ (p : Packet). p.role ≡ Server → p.id.client ≡ o.control.id)
  by_case None = tt
  by_case (Some r) = client_is r.0.role from o.control.id r.0.inc r.0.seq

pub arrival_whole : (s : Settings) (h : Host) (now : ℕ) (p : Option Packet) (a : Answer) (whole : List ℕ)
    → AllByRecursion (IsWhole whole) (comes s p a (begun h now)).told → AllByRecursion (IsWhole whole) (arrival_step s h now p a).told
unfolding arrival_step
arrival_whole s h now p a whole all = ended-told (IsWhole whole) (λ q. tt) s (comes s p a (begun h now)) all

pub arrival_asks : (s : Settings) (h : Host) (now : ℕ) (p : Option Packet) (a : Answer) (q : Asked)
    → asked_in (comes s p a (begun h now)).told ≡ Some q → asked_in (arrival_step s h now p a).told ≡ Some q
unfolding arrival_step
arrival_asks s h now p a q e = asked_stays s (comes s p a (begun h now)) q e
