-- What each move of a step tells, as a list, and what it leaves of its host.
use Rattle.std.proofs.Common.{◌≡◌, ℕ, ◌≤◌, Bool, true, false, Option, Some, None, List, [], ◌∷◌, ◌++◌, length, cond, refl, sym, ap, subst, ◌∙◌, arith}
use Rattle.std.proofs.Common.{append_assoc}
use Rattle.std.specs.Prelude.{◌==◌, nat_lt, if◌then◌else◌}
use Rattle.std.specs.List.{AllByRecursion}
use Rattle.std.proofs.lemmas.List.{append-nil}
use Rattle.std.proofs.lemmas.Bool.{cond_both}
use Rattle.homa_plain.specs.declared.id.CallId.{CallId}
use Rattle.homa_plain.specs.declared.id.HostId.{HostId}
use Rattle.homa_plain.specs.declared.packet.Role.{Role}
use Rattle.homa_plain.specs.declared.packet.Role.TheVariants.{Client, Server}
use Rattle.homa_plain.specs.declared.packet.Body.TheVariants as body
use Rattle.homa_plain.specs.declared.settings.Settings.{Settings}
use Rattle.homa_plain.specs.Entries.{PlainEntry, PlainRun, PlainDone, PlainFail, PlainDrop, PlainGaps, PlainBury, PlainFree, PlainFullRows, PlainFullPages}
use Rattle.homa_plain.specs.Packets.{Packet, sender, sender_of}
use Rattle.homa_plain.specs.Rows.{ClientRow, ServerRow, RowsOf, set_row}
use Rattle.homa_plain.specs.Host.{Host, Told, Sends, packets_in, Tuned, tuned, is_balance_due, counted, finished_at}
use Rattle.homa_plain.specs.Rules.{Say, Tells, Posts, Did}
use Rattle.homa_plain.specs.Sending.{Content}
use Rattle.homa_plain.specs.Work.{Work, tells, said, bare, packet_from}
use Rattle.homa_plain.specs.CutoffsPackets.{notes, tells_cutoffs}
use Rattle.homa_plain.specs.Steps.{served}
use Rattle.step_laws.proofs.ToldBy.{packets_in-append, served-servers, served-clients}
use Rattle.step_laws.proofs.Places.{all-append}
use Rattle.step_moves.proofs.Inner.{inner-append, AllInner, IsSaid}
use Rattle.step_laws.proofs.Own.{IsOwn, AllOwn}

-- a packet is of this host, of its present life and of its last step at the latest
pub record IsFrom (h : Host) (p : Packet) : Type 0 where
  pub by : sender p ≡ h.id
  pub life : p.inc ≡ h.inc
  pub dated : p.at ≤ h.last

-- a move tells so much, and leaves the host with these rows; all else that the laws speak of it leaves, but for the lists of finished calls
pub record IsMove (work new : Work) (told : List Told) (clients : RowsOf ClientRow) (servers : RowsOf ServerRow) : Type 0 where
  pub grown : new.told ≡ work.told ++ told
  pub inner : AllInner told
  pub sent : AllByRecursion (IsFrom work.host) (packets_in told)
  pub id : new.host.id ≡ work.host.id
  pub inc : new.host.inc ≡ work.host.inc
  pub seq : new.host.seq ≡ work.host.seq
  pub last : new.host.last ≡ work.host.last
  pub at_clients : new.host.clients ≡ clients
  pub at_servers : new.host.servers ≡ servers

-- ---- what is told

-- of cutoffs that are computed anew
abbrev pub notes_told : Settings → Option ℕ → Work → List Told
notes_told s None w = []
notes_told s (Some n) w = (tuned s w.host.id w.host.tuning n).told

-- in answer to a first piece by other cutoffs
abbrev pub reply_told : Settings → Role → CallId → HostId → Option ℕ → Work → List Told
reply_told s role id server None w = []
reply_told s role id server (Some version) w =
    if version == w.host.tuning.own.version then [] else Sends (packet_from s w.host role id server (bare (body.Cutoffs w.host.tuning.own))) ∷ []

-- where a call is done: an ACK of five calls, or nothing
abbrev pub acknowledged_told : Settings → HostId → List (ℕ × ℕ) → Work → List Told
acknowledged_told s server [] w = []
acknowledged_told s server (call ∷ calls) w =
    if nat_lt (length calls) 4 then []
    else Sends (packet_from s w.host Client (record { client = w.host.id; inc = call.0; seq = call.1 }) server (bare (body.Ack calls))) ∷ []

abbrev pub finishes_told : Settings → CallId → HostId → Bool → Work → List Told
finishes_told s id server false w = []
finishes_told s id server true w = acknowledged_told s server (finished_at w.host server ++ (id.inc, id.seq) ∷ []) w

-- ---- a host whose name, life and clock are the same

pub record SameHost (w v : Work) : Type 0 where
  pub id : v.host.id ≡ w.host.id
  pub inc : v.host.inc ≡ w.host.inc
  pub seq : v.host.seq ≡ w.host.seq
  pub last : v.host.last ≡ w.host.last

pub host_itself : (w : Work) → SameHost w w
host_itself w = record { id = refl; inc = refl; seq = refl; last = refl }

pub host_then : (w v x : Work) → SameHost w v → SameHost v x → SameHost w x
host_then w v x a b = record { id = b.id ∙ a.id; inc = b.inc ∙ a.inc; seq = b.seq ∙ a.seq; last = b.last ∙ a.last }

from_same : (h k : Host) (p : Packet) → k.id ≡ h.id → k.inc ≡ h.inc → k.last ≡ h.last → IsFrom k p → IsFrom h p
from_same h k p id inc last f = record { by = f.by ∙ id; life = f.life ∙ inc; dated = omega (arith, f.dated, last) }

pub all_from_same : (w v : Work) (ps : List Packet) → SameHost w v → AllByRecursion (IsFrom v.host) ps → AllByRecursion (IsFrom w.host) ps
all_from_same w v [] e all = tt
all_from_same w v (p ∷ ps) e all = (from_same w.host v.host p e.id e.inc e.last all.0, all_from_same w v ps e all.1)

module _ (s : Settings) where
  -- a packet tells the host's clock or, with version 1, nothing
  dated_now : (h : Host) → (if s.wire == 1 then 0 else h.last) ≤ h.last
  dated_now h = cond_both (s.wire == 1) 0 h.last (λ (t : ℕ). t ≤ h.last) (λ _. omega arith) (λ _. omega arith)

  pub from_host : (h : Host) (role : Role) (id : CallId) (server : HostId) (content : Content) → sender_of role id server ≡ h.id
      → IsFrom h (packet_from s h role id server content)
  from_host h role id server content mine = record { by = mine; life = refl; dated = dated_now h }

  -- ---- cutoffs

  pub notes-host : (o : Option ℕ) (w : Work) → SameHost w (notes s o w)
  notes-host None w = host_itself w
  notes-host (Some n) w = record { id = refl; inc = refl; seq = refl; last = refl }

  pub reply-host : (role : Role) (id : CallId) (server : HostId) (o : Option ℕ) (w : Work) → SameHost w (tells_cutoffs s role id server o w)
  reply-host role id server None w = host_itself w
  reply-host role id server (Some version) w =
      cond_both (version == w.host.tuning.own.version) _ _ (SameHost w) (λ _. host_itself w) (λ _. record { id = refl; inc = refl; seq = refl; last = refl })

  pub notes-told : (o : Option ℕ) (w : Work) → (notes s o w).told ≡ w.told ++ notes_told s o w
  notes-told None w = sym (append-nil w.told)
  notes-told (Some n) w = refl

  pub reply-told : (role : Role) (id : CallId) (server : HostId) (o : Option ℕ) (w : Work) → (tells_cutoffs s role id server o w).told ≡ w.told
      ++ reply_told s role id server o w
  reply-told role id server None w = sym (append-nil w.told)
  reply-told role id server (Some version) w = by_test (version == w.host.tuning.own.version) where
    packet : Told
    packet = Sends (packet_from s w.host role id server (bare (body.Cutoffs w.host.tuning.own)))

    by_test : (b : Bool) → (cond b w (tells (packet ∷ []) w)).told ≡ w.told ++ (cond b [] (packet ∷ []))
    by_test true = sym (append-nil w.told)
    by_test false = refl

  -- no packet, and no line but of the cutoffs
  pub notes_none : (o : Option ℕ) (w : Work) → packets_in (notes_told s o w) ≡ []
  unfolding tuned
  notes_none None w = refl
  notes_none (Some n) w = cond_both (is_balance_due s (counted w.host.tuning n)) _ _ (λ (t : Tuned). packets_in t.told ≡ []) (λ _. refl) (λ _. refl)

  pub notes_inner : (o : Option ℕ) (w : Work) → AllInner (notes_told s o w)
  unfolding tuned
  notes_inner None w = tt
  notes_inner (Some n) w = cond_both (is_balance_due s (counted w.host.tuning n)) _ _ (λ (t : Tuned). AllInner t.told) (λ _. (tt, tt)) (λ _. tt)

  pub reply_inner : (role : Role) (id : CallId) (server : HostId) (o : Option ℕ) (w : Work) → AllInner (reply_told s role id server o w)
  reply_inner role id server None w = tt
  reply_inner role id server (Some version) w = cond_both (version == w.host.tuning.own.version) _ _ AllInner (λ _. tt) (λ _. tt)

  pub reply_from : (role : Role) (id : CallId) (server : HostId) (o : Option ℕ) (w : Work) → sender_of role id server ≡ w.host.id
      → AllByRecursion (IsFrom w.host) (packets_in (reply_told s role id server o w))
  reply_from role id server None w mine = tt
  reply_from role id server (Some version) w mine =
      cond_both (version == w.host.tuning.own.version) _ _ (λ (t : List Told). AllByRecursion (IsFrom w.host) (packets_in t)) (λ _. tt)
      (λ _. (from_host w.host role id server (bare (body.Cutoffs w.host.tuning.own)) mine, tt))

  -- ---- what a rule says

  module _ (h : Host) (role : Role) (id : CallId) (server n : HostId) where
    pub said_inner : (says : List Say) → AllOwn n id says → AllInner (said s h role id server says)
    said_inner [] own = tt
    said_inner (Tells entry ∷ says) own = (own_said entry own.0, said_inner says own.1) where
      own_said : (entry : PlainEntry) → IsOwn n id entry → IsSaid entry
      own_said (PlainRun host q service request response hold) own = tt
      own_said (PlainDone q bytes) own = tt
      own_said (PlainFail q why) own = tt
      own_said (PlainDrop host q) own = tt
      own_said (PlainGaps host q) own = tt
      own_said (PlainBury host q until) own = tt
      own_said (PlainFree host q) own = tt
      own_said (PlainFullRows host q rows limit) own = tt
      own_said (PlainFullPages host q need free) own = tt
      own_said line own = absurd own
    said_inner (Posts what ∷ says) own = said_inner says own

    pub said_from : (says : List Say) → sender_of role id server ≡ h.id → AllByRecursion (IsFrom h) (packets_in (said s h role id server says))
    said_from [] mine = tt
    said_from (Tells entry ∷ says) mine = said_from says mine
    said_from (Posts what ∷ says) mine = (from_host h role id server (bare what) mine, said_from says mine)

-- ---- a rule at a server is carried out

module _ (s : Settings) (id : CallId) (did : Did ServerRow) (w : Work) where
  abbrev pub served_put : Work
  served_put = record w { host = record w.host { order = did.order; servers = set_row w.host.servers id did.row } }

  abbrev pub served_noted : Work
  served_noted = notes s did.opened served_put

  abbrev pub served_told : List Told
  served_told = notes_told s did.opened served_put ++ (reply_told s Server id w.host.id did.version served_noted ++ said s w.host Server id w.host.id did.says)

  served-grown : (served s id did w).told ≡ w.told ++ served_told
  unfolding served
  served-grown =
      ap (λ t. t ++ said s w.host Server id w.host.id did.says)
      (reply-told s Server id w.host.id did.version served_noted ∙ ap (λ t. t ++ reply_told s Server id w.host.id did.version served_noted)
      (notes-told s did.opened served_put))
      ∙ append_assoc (w.told ++ notes_told s did.opened served_put) (reply_told s Server id w.host.id did.version served_noted)
      (said s w.host Server id w.host.id did.says)
      ∙ append_assoc w.told (notes_told s did.opened served_put)
      (reply_told s Server id w.host.id did.version served_noted ++ said s w.host Server id w.host.id did.says)

  served-host : SameHost w (served s id did w)
  unfolding served
  served-host =
      let a = host_then served_put served_noted (tells_cutoffs s Server id w.host.id did.version served_noted) (notes-host s did.opened served_put)
      (reply-host s Server id w.host.id did.version served_noted) in
      record { id = a.id; inc = a.inc; seq = a.seq; last = a.last }

  -- the packets: the answer to a first piece, and what the rule says
  pub served_packets : packets_in served_told ≡ packets_in (reply_told s Server id w.host.id did.version served_noted)
      ++ packets_in (said s w.host Server id w.host.id did.says)
  served_packets =
      packets_in-append (notes_told s did.opened served_put)
      (reply_told s Server id w.host.id did.version served_noted ++ said s w.host Server id w.host.id did.says)
      ∙ ap (λ ps. ps ++ packets_in (reply_told s Server id w.host.id did.version served_noted ++ said s w.host Server id w.host.id did.says))
      (notes_none s did.opened served_put)
      ∙ packets_in-append (reply_told s Server id w.host.id did.version served_noted) (said s w.host Server id w.host.id did.says)

  pub served-move : AllOwn w.host.id id did.says → IsMove w (served s id did w) served_told w.host.clients (set_row w.host.servers id did.row)
  served-move own =
      let h = served-host in
      let says = said s w.host Server id w.host.id did.says in
      let reply = reply_told s Server id w.host.id did.version served_noted in
      record {
        grown = served-grown;
        inner = inner-append (notes_told s did.opened served_put) (reply ++ says) (notes_inner s did.opened served_put)
            (inner-append reply says (reply_inner s Server id w.host.id did.version served_noted)
            (said_inner s w.host Server id w.host.id w.host.id did.says own));
        sent = subst (AllByRecursion (IsFrom w.host)) (sym served_packets) (all-append (IsFrom w.host) (packets_in reply) (packets_in says)
            (noted_from did.opened (reply_from s Server id w.host.id did.version served_noted (sym (notes-host s did.opened served_put).id)))
            (said_from s w.host Server id w.host.id w.host.id did.says refl));
        id = h.id;
        inc = h.inc;
        seq = h.seq;
        last = h.last;
        at_clients = served-clients s id did w;
        at_servers = served-servers s id did w;
      } where
        noted_from : (o : Option ℕ)
            → AllByRecursion (IsFrom served_noted.host) (packets_in (reply_told s Server id w.host.id did.version served_noted))
            → AllByRecursion (IsFrom w.host) (packets_in (reply_told s Server id w.host.id did.version served_noted))
        noted_from o all =
            let a = notes-host s did.opened served_put in
            all_from_same w served_noted (packets_in (reply_told s Server id w.host.id did.version served_noted))
            (record { id = a.id; inc = a.inc; seq = a.seq; last = a.last }) all

  pub served-finished : (served s id did w).host.finished ≡ w.host.finished
  unfolding served
  served-finished = reply_finished did.version ∙ notes_finished did.opened where
    notes_finished : (o : Option ℕ) → (notes s o served_put).host.finished ≡ w.host.finished
    notes_finished None = refl
    notes_finished (Some n) = refl

    reply_finished : (o : Option ℕ) → (tells_cutoffs s Server id w.host.id o served_noted).host.finished ≡ served_noted.host.finished
    reply_finished None = refl
    reply_finished (Some version) =
        cond_both (version == served_noted.host.tuning.own.version) _ _ (λ (x : Work). x.host.finished ≡ served_noted.host.finished) (λ _. refl) (λ _. refl)
