-- A step begins: the clock goes on, and nothing is told so far. The rows stay.
use Rattle.std.proofs.Common.{◌≡◌, ◌≤◌, ℕ, List, [], ◌∷◌, ◌++◌, length, refl, sym, ap, subst, ◌∙◌}
use Rattle.std.proofs.lemmas.Bool.{cond_both}
use Rattle.homa_plain.specs.declared.id.HostId.{HostId}
use Rattle.homa_plain.specs.declared.packet.Body.{Body}
use Rattle.homa_plain.specs.declared.packet.Body.TheVariants as body
use Rattle.homa_plain.specs.declared.settings.Settings.{Settings}
use Rattle.homa_plain.specs.Entries.{PlainEntry}
use Rattle.homa_plain.specs.Host.{Host, Says, peer_cutoffs}
use Rattle.homa_plain.specs.Work.{Work, begun, tells}
use Rattle.homa_plain.specs.CutoffsPackets.{is_newer, hears_cutoffs}
use Rattle.host_view.specs.declared.outbox.SentFrame.{SentFrame}
use Rattle.host_view.proofs.Pump.{later_ready}
use Rattle.host_view.specs.declared.mark.Mark.{Mark}
use Rattle.host_view.specs.Marks.{mark_of}
use Rattle.host_state.specs.Control.{Control, IsSound, IsAt}
use Rattle.host_state.proofs.At.{at-told}
use Rattle.homa_plain.specs.Timers.{Place, OfClient, OfServer}
use Rattle.homa_in.specs.Pooled.{IsInPool, HasNumber}
use Rattle.host_places.specs.Placed.{ArePlaced}
use Rattle.homa_client.specs.AtTable.{seen_rows}
use Rattle.homa_server.specs.Table.{seen_servers}
use Rattle.host_view.specs.Seen.{Seen}
use Rattle.host_books.specs.Duties.{HaveRoom, AreBooked}
use Rattle.host_laws.specs.Peers.{KnowsServer, KnowsClient}
use Rattle.homa_host.specs.Parts.{host_of, seen_of, part_in, IsKept}
use Rattle.homa_host.specs.Amid.{Amid}
use Rattle.homa_host.specs.declared.parts.HostParts.{HostParts}

-- parts with another control, of the same host at a later clock
pub record GoesOn (old new : Control) : Type 0 where
  pub settings : new.settings ≡ old.settings
  pub id : new.id ≡ old.id
  pub inc : new.inc ≡ old.inc
  pub last : old.last ≤ new.last
  pub opened : new.tuning.opened ≡ old.tuning.opened

-- are kept
pub kept-control : (p : HostParts) (c : Control) → GoesOn p.control c → IsSound c → IsKept p → IsKept (record p { control = c })
kept-control p c on sound kept = record {
  control = sound;
  one = record {
    client = kept.one.client ∙ sym on.id;
    life = kept.one.life ∙ sym on.inc;
    client_settings = kept.one.client_settings ∙ sym on.settings;
    server = kept.one.server ∙ sym on.id;
    server_settings = kept.one.server_settings ∙ sym on.settings;
  };
  own = record { rows = kept.own.rows; arriving = kept.own.arriving; leaving = kept.own.leaving };
  known = record {
    clients = λ id r is. subst (λ (s : Settings). KnowsServer s.hosts r) (sym on.settings) (kept.known.clients id r is);
    own = λ id r is. let o = kept.known.own id r is in (o.0 ∙ sym on.id, o.1 ∙ sym on.inc);
    servers = λ id row is. subst (λ (s : Settings). KnowsClient s.hosts id row) (sym on.settings) (kept.known.servers id row is);
  };
  foreign = λ q e. kept.foreign q (e ∙ on.id);
  opened = subst (λ n. n ≤ p.order) (sym on.opened) kept.opened;
  parts = record { within = λ k. in_place k; apart = λ j k. apart_in j k };
  pages = kept.pages ∙ sym (ap (λ (s : Settings). s.pages) on.settings);
  leased = kept.leased;
  client_places = subst (λ (s : Settings). ArePlaced s.calls p.clients.rows) (sym on.settings) kept.client_places;
  server_places = subst (λ (s : Settings). ArePlaced s.served p.servers.rows) (sym on.settings) kept.server_places;
  room = subst (λ (s : Settings). HaveRoom s p.books) (sym on.settings) kept.room;
  booked = subst (λ (s : Settings). AreBooked (with_settings s) p.books) (sym on.settings) later;
} where
  with_settings : Settings → Seen
  with_settings s = record (seen_of (record p { control = c })) { settings = s }

  in_place : (k : Place) → IsInPool p.pool (part_in (record p { control = c }) k)
  in_place (OfClient id) = kept.parts.within (OfClient id)
  in_place (OfServer id) = kept.parts.within (OfServer id)

  apart_in : (j k : Place) (n : ℕ) → HasNumber n (part_in (record p { control = c }) j) → HasNumber n (part_in (record p { control = c }) k) → j ≡ k
  apart_in (OfClient a) (OfClient b) n x y = kept.parts.apart (OfClient a) (OfClient b) n x y
  apart_in (OfClient a) (OfServer b) n x y = kept.parts.apart (OfClient a) (OfServer b) n x y
  apart_in (OfServer a) (OfClient b) n x y = kept.parts.apart (OfServer a) (OfClient b) n x y
  apart_in (OfServer a) (OfServer b) n x y = kept.parts.apart (OfServer a) (OfServer b) n x y

  later : AreBooked (with_settings p.control.settings) p.books
  later =
      let ready = later_ready (seen_of p) p.books.pacer.ready c.last on.last kept.booked.ready in
      record { armed = kept.booked.armed; entered = kept.booked.entered; ready = record { all = ready.all; only = ready.only }; granted = kept.booked.granted }

-- a step begins
pub amid-begun : (p : HostParts) (c : Control) (now : ℕ) → c ≡ record p.control { last = now; marks = [] }
    → Amid (begun (host_of p) now) (record p { control = c }) []
amid-begun p c now e =
    subst (λ c. Amid (begun (host_of p) now) (record p { control = c }) []) (sym e) (record { host = refl; marked = refl; sent = refl; formed = tt })

-- what the control is in the midst of
pub at-amid : (w : Work) (p : HostParts) (out : List SentFrame) → Amid w p out → IsAt w p.control out
at-amid w p out amid = record {
  id = sym (ap (λ (h : Host). h.id) amid.host);
  inc = sym (ap (λ (h : Host). h.inc) amid.host);
  last = sym (ap (λ (h : Host). h.last) amid.host);
  tuning = sym (ap (λ (h : Host). h.tuning) amid.host);
  peers = sym (ap (λ (h : Host). h.peers) amid.host);
  finished = sym (ap (λ (h : Host). h.finished) amid.host);
  marked = amid.marked;
  sent = amid.sent;
  formed = amid.formed;
}

-- what a control is in the midst of, the parts are, where the rest of the host is theirs
pub record IsRest (p : HostParts) (h : Host) : Type 0 where
  pub seq : p.clients.seq ≡ h.seq
  pub order : p.order ≡ h.order
  pub credit : p.books.pacer.credit ≡ h.credit
  pub refilled : p.books.pacer.refilled ≡ h.refilled
  pub clients : seen_rows p.pool p.clients.rows ≡ h.clients
  pub servers : seen_servers p.pool p.servers.rows ≡ h.servers

pub amid-at : (w : Work) (p : HostParts) (out : List SentFrame) → IsAt w p.control out → IsRest p w.host → Amid w p out
amid-at w p out at rest = record {
  host = λ i. record {
    id = sym at.id i;
    inc = sym at.inc i;
    seq = rest.seq i;
    order = rest.order i;
    credit = rest.credit i;
    refilled = rest.refilled i;
    last = sym at.last i;
    tuning = sym at.tuning i;
    peers = sym at.peers i;
    finished = sym at.finished i;
    clients = rest.clients i;
    servers = rest.servers i;
  };
  marked = at.marked;
  sent = at.sent;
  formed = at.formed;
}

pub rest-amid : (w : Work) (p : HostParts) (out : List SentFrame) → Amid w p out → IsRest p w.host
rest-amid w p out amid = record {
  seq = ap (λ (h : Host). h.seq) amid.host;
  order = ap (λ (h : Host). h.order) amid.host;
  credit = ap (λ (h : Host). h.credit) amid.host;
  refilled = ap (λ (h : Host). h.refilled) amid.host;
  clients = ap (λ (h : Host). h.clients) amid.host;
  servers = ap (λ (h : Host). h.servers) amid.host;
}

-- an entry is told
pub amid-told : (w : Work) (p : HostParts) (c : Control) (out : List SentFrame) (entry : PlainEntry)
    → c ≡ record p.control { marks = p.control.marks ++ mark_of entry ∷ [] } → Amid w p out
    → Amid (tells (Says entry ∷ []) w) (record p { control = c }) out
amid-told w p c out entry e amid =
    let rest = rest-amid w p out amid in
    amid-at (tells (Says entry ∷ []) w) (record p { control = c }) out (at-told w p.control c out entry e (at-amid w p out amid))
    (record { seq = rest.seq; order = rest.order; credit = rest.credit; refilled = rest.refilled; clients = rest.clients; servers = rest.servers })

-- a peer's cutoffs leave the rest of a host
hears-rest : (s : Settings) (peer : HostId) (inc : ℕ) (what : Body) (w : Work) (p : HostParts) → IsRest p w.host
    → IsRest p (hears_cutoffs s peer inc what w).host
hears-rest s peer inc (body.Cutoffs cutoffs) w p rest =
    cond_both (is_newer inc cutoffs (peer_cutoffs s w.host peer)) _ _ (λ (v : Work). IsRest p v.host)
    (λ _. record {
      seq = rest.seq;
      order = rest.order;
      credit = rest.credit;
      refilled = rest.refilled;
      clients = rest.clients;
      servers = rest.servers;
    }) (λ _. rest)
hears-rest s peer inc (body.Data size offset version service ack) w p rest = rest
hears-rest s peer inc (body.Grant offset prio) w p rest = rest
hears-rest s peer inc (body.Resend from to prio) w p rest = rest
hears-rest s peer inc body.Busy w p rest = rest
hears-rest s peer inc (body.Unknown reason) w p rest = rest
hears-rest s peer inc body.NeedAck w p rest = rest
hears-rest s peer inc (body.Ack more) w p rest = rest

-- a peer tells its cutoffs
pub amid-heard : (s : Settings) (peer : HostId) (inc : ℕ) (what : Body) (w : Work) (p : HostParts) (c : Control) (out : List SentFrame)
    → IsAt (hears_cutoffs s peer inc what w) c out → Amid w p out
    → Amid (hears_cutoffs s peer inc what w) (record p { control = c }) out
amid-heard s peer inc what w p c out at amid =
    let rest = hears-rest s peer inc what w p (rest-amid w p out amid) in
    amid-at (hears_cutoffs s peer inc what w) (record p { control = c }) out at
    (record { seq = rest.seq; order = rest.order; credit = rest.credit; refilled = rest.refilled; clients = rest.clients; servers = rest.servers })

-- a control whose step begins, and one that tells
pub sound-begun : (c : Control) (now : ℕ) (marks : List Mark) → now ≤ 1000000002000 → length marks ≤ 128 → IsSound c
    → IsSound (record c { last = now; marks = marks })
sound-begun c now marks clock few sound = record {
  valid = sound.valid;
  host = sound.host;
  inc = sound.inc;
  last = clock;
  own = sound.own;
  peers = sound.peers;
  peer_cutoffs = sound.peer_cutoffs;
  finished = sound.finished;
  few = sound.few;
  calls = sound.calls;
  room = few;
}
