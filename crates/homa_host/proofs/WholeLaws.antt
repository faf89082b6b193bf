-- What comes of a rule at a call's client tells no whole message but the rule's own.
use Rattle.std.proofs.Common.{ℕ, ◌==◌, nat_lt, Bool, true, false, List, [], ◌∷◌, ◌++◌, length, Option, Some, None}
use Rattle.std.specs.List.{AllByRecursion}
use Rattle.std.proofs.lemmas.Bool.{cond_both}
use Rattle.homa_plain.specs.declared.id.CallId.{CallId}
use Rattle.homa_plain.specs.declared.id.HostId.{HostId}
use Rattle.homa_plain.specs.declared.packet.Role.{Role}
use Rattle.homa_plain.specs.declared.packet.Role.TheVariants.{Client, Server}
use Rattle.homa_plain.specs.declared.packet.Body.TheVariants as body
use Rattle.homa_plain.specs.declared.settings.Settings.{Settings}
use Rattle.homa_plain.specs.Host.{Host, Says, Tuning, Tuned, tuned, counted, rebalanced, is_balance_due, finished_at, with_finished}
use Rattle.homa_plain.specs.Entries.{PlainBalance}
use Rattle.homa_plain.specs.Rows.{ClientRow, ServerRow, set_row}
use Rattle.homa_plain.specs.Rules.{Say, Tells, Posts, Did}
use Rattle.homa_plain.specs.Work.{Work, tells, posts, said}
use Rattle.homa_plain.specs.CutoffsPackets.{notes, tells_cutoffs}
use Rattle.homa_plain.specs.FiveAcks.{acknowledged, finishes}
use Rattle.homa_plain.specs.Steps.{asked, served}
use Rattle.step_laws.proofs.Places.{all-append}
use Rattle.host_view.specs.Marks.{IsWhole}

abbrev pub AreWhole : List ℕ → Work → Type 0
AreWhole whole w = AllByRecursion (IsWhole whole) w.told

-- what a rule says tells no other whole message
abbrev pub SayWhole : List ℕ → List Say → Type 0
SayWhole whole [] = Unit {0}
SayWhole whole (Tells entry ∷ says) = IsWhole whole (Says entry) × SayWhole whole says
SayWhole whole (Posts what ∷ says) = SayWhole whole says

module _ (s : Settings) (whole : List ℕ) where
  posts-whole : (role : Role) (id : CallId) (server : HostId) (what : _) (w : Work) → AreWhole whole w → AreWhole whole (posts s role id server what w)
  posts-whole role id server what w all = all-append (IsWhole whole) w.told _ all (tt, tt)

  tuned-whole : (host : HostId) (t : Tuning) (n : ℕ) → AllByRecursion (IsWhole whole) (tuned s host t n).told
  unfolding tuned
  tuned-whole host t n =
      let u = counted t n in
      cond_both (is_balance_due s u) (record { tuning = rebalanced s u; told = Says (PlainBalance host (rebalanced s u).own) ∷ [] })
      (record { tuning = u; told = [] }) (λ (x : Tuned). AllByRecursion (IsWhole whole) x.told) (λ _. (tt, tt)) (λ _. tt)

  notes-whole : (o : Option ℕ) (w : Work) → AreWhole whole w → AreWhole whole (notes s o w)
  notes-whole None w all = all
  notes-whole (Some n) w all = all-append (IsWhole whole) w.told (tuned s w.host.id w.host.tuning n).told all (tuned-whole w.host.id w.host.tuning n)

  cutoffs-whole : (role : Role) (id : CallId) (server : HostId) (o : Option ℕ) (w : Work) → AreWhole whole w
      → AreWhole whole (tells_cutoffs s role id server o w)
  cutoffs-whole role id server None w all = all
  cutoffs-whole role id server (Some version) w all =
      cond_both (version == w.host.tuning.own.version) w (posts s role id server (body.Cutoffs w.host.tuning.own) w) (AreWhole whole) (λ _. all)
      (λ _. posts-whole role id server (body.Cutoffs w.host.tuning.own) w all)

  acknowledged-whole : (server : HostId) (calls : List (ℕ × ℕ)) (w : Work) → AreWhole whole w → AreWhole whole (acknowledged s server calls w)
  acknowledged-whole server [] w all = all
  acknowledged-whole server (call ∷ calls) w all =
      cond_both (nat_lt (length calls) 4) (record w { host = with_finished server (call ∷ calls) w.host })
      (posts s Client (record { client = w.host.id; inc = call.0; seq = call.1 }) server (body.Ack calls)
      (record w { host = with_finished server [] w.host })) (AreWhole whole)
      (λ _. all) (λ _. posts-whole Client (record { client = w.host.id; inc = call.0; seq = call.1 }) server (body.Ack calls)
      (record w { host = with_finished server [] w.host }) all)

  finishes-whole : (id : CallId) (server : HostId) (done : Bool) (w : Work) → AreWhole whole w → AreWhole whole (finishes s id server done w)
  finishes-whole id server false w all = all
  finishes-whole id server true w all = acknowledged-whole server (finished_at w.host server ++ (id.inc, id.seq) ∷ []) w all

  said-whole : (h : Host) (role : Role) (id : CallId) (server : HostId) (says : List Say) → SayWhole whole says
      → AllByRecursion (IsWhole whole) (said s h role id server says)
  said-whole h role id server [] all = tt
  said-whole h role id server (Tells entry ∷ says) all = (all.0, said-whole h role id server says all.1)
  said-whole h role id server (Posts what ∷ says) all = (tt, said-whole h role id server says all)

  pub asked-whole : (id : CallId) (server : HostId) (did : Did ClientRow) (w : Work) → AreWhole whole w → SayWhole whole did.says
      → AreWhole whole (asked s id server did w)
  unfolding asked
  asked-whole id server did w all says =
      let put : Work = record w { host = record w.host { order = did.order; clients = set_row w.host.clients id did.row } } in
      let noted : Work = notes s did.opened put in
      let reply : Work = tells_cutoffs s Client id server did.version noted in
      let told : Work = tells (said s w.host Client id server did.says) reply in
      let a = notes-whole did.opened put all in
      let b = cutoffs-whole Client id server did.version noted a in
      let d : AreWhole whole told =
      all-append (IsWhole whole) reply.told (said s w.host Client id server did.says) b (said-whole w.host Client id server did.says says) in
      finishes-whole id server did.finished told d

  pub served-whole : (id : CallId) (did : Did ServerRow) (w : Work) → AreWhole whole w → SayWhole whole did.says → AreWhole whole (served s id did w)
  unfolding served
  served-whole id did w all says =
      let put : Work = record w { host = record w.host { order = did.order; servers = set_row w.host.servers id did.row } } in
      let noted : Work = notes s did.opened put in
      let reply : Work = tells_cutoffs s Server id w.host.id did.version noted in
      let a = notes-whole did.opened put all in
      let b = cutoffs-whole Server id w.host.id did.version noted a in
      all-append (IsWhole whole) reply.told (said s w.host Server id w.host.id did.says) b (said-whole w.host Server id w.host.id did.says says)
