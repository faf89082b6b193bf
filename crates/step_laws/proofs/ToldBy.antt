-- What the moves of a step tell, and what they leave of the host.
use Rattle.std.proofs.Common.{◌≡◌, ℕ, suc, ◌+◌, ◌≤◌, Bool, true, false, Option, Some, None, List, [], ◌∷◌, ◌++◌, length, refl, sym, ap, ◌∙◌, arith}
use Rattle.std.proofs.Common.{append_assoc}
use Rattle.std.specs.Prelude.{◌==◌, nat_lt}
use Rattle.std.proofs.lemmas.List.{append-nil, length-append}
use Rattle.std.proofs.lemmas.Bool.{cond_both}
use Rattle.plain_sets.specs.Maps.{get}
use Rattle.homa_plain.specs.declared.id.CallId.{CallId}
use Rattle.homa_plain.specs.declared.id.HostId.{HostId}
use Rattle.homa_plain.specs.declared.packet.Role.{Role}
use Rattle.homa_plain.specs.declared.packet.Role.TheVariants.{Client, Server}
use Rattle.homa_plain.specs.declared.packet.Body.{Body}
use Rattle.homa_plain.specs.declared.packet.Body.TheVariants as body
use Rattle.homa_plain.specs.declared.settings.Settings.{Settings}
use Rattle.homa_plain.specs.Entries.{PlainRun}
use Rattle.homa_plain.specs.Host.{Host, Tuned, tuned, Tuning, is_balance_due, counted, peer_cutoffs, finished_at, Told, Says, Sends, packets_in}
use Rattle.homa_plain.specs.Rows.{ClientRow, ServerRow, State, Receiving, Held, Replying, Buried, set_row}
use Rattle.homa_plain.specs.Rules.{Say, Tells, Posts, Did, Moment}
use Rattle.homa_plain.specs.Tombstones.{state_acked, server_acked}
use Rattle.homa_plain.specs.Work.{Work, tells, posts, said}
use Rattle.homa_plain.specs.CutoffsPackets.{notes, tells_cutoffs, is_newer, hears_cutoffs}
use Rattle.homa_plain.specs.FiveAcks.{acknowledged, finishes}
use Rattle.homa_plain.specs.Steps.{asked, served, moment}
use Rattle.step_laws.specs.StepLaws.{run_count, LeavesRows}

-- ---- lists of what is told

pub run_count-append : (a b : List Told) → run_count (a ++ b) ≡ run_count a + run_count b
run_count-append [] b = omega arith
run_count-append (Says (PlainRun host id service request response hold) ∷ a) b = omega (arith, run_count-append a b)
run_count-append (t ∷ a) b = run_count-append a b

pub packets_in-append : (a b : List Told) → packets_in (a ++ b) ≡ packets_in a ++ packets_in b
packets_in-append [] b = refl
packets_in-append (Says entry ∷ a) b = packets_in-append a b
packets_in-append (Sends packet ∷ a) b = ap (λ ps. packet ∷ ps) (packets_in-append a b)

pub length-packets-append : (a b : List Told) → length (packets_in (a ++ b)) ≡ length (packets_in a) + length (packets_in b)
length-packets-append a b = ap length (packets_in-append a b) ∙ length-append (packets_in a) (packets_in b)

-- ---- moves that tell at most n packets and no RUN, and leave the order and the clock

pub record Calm (n : ℕ) (w v : Work) : Type 0 where
  pub told : List Told
  pub grown : v.told ≡ w.told ++ told
  pub few : length (packets_in told) ≤ n
  pub quiet : run_count told ≡ 0
  pub order : v.host.order ≡ w.host.order
  pub last : v.host.last ≡ w.host.last

pub calm_none : (w : Work) → Calm 0 w w
calm_none w = record { told = []; grown = sym (append-nil w.told); few = omega arith; quiet = refl; order = refl; last = refl }

pub calm_then : (m n : ℕ) (w v x : Work) → Calm m w v → Calm n v x → Calm (m + n) w x
calm_then m n w v x a b = record {
  told = a.told ++ b.told;
  grown = b.grown ∙ ap (λ t. t ++ b.told) a.grown ∙ append_assoc w.told a.told b.told;
  few = omega (arith, length-packets-append a.told b.told, a.few, b.few);
  quiet = omega (arith, run_count-append a.told b.told, a.quiet, b.quiet);
  order = b.order ∙ a.order;
  last = b.last ∙ a.last;
}

pub calm_more : (m n : ℕ) (w v : Work) → m ≤ n → Calm m w v → Calm n w v
calm_more m n w v h a = record { told = a.told; grown = a.grown; few = omega (arith, h, a.few); quiet = a.quiet; order = a.order; last = a.last }

pub rows_none : (w : Work) → LeavesRows w w
rows_none w = record { clients = refl; servers = refl }

pub rows_then : (w v x : Work) → LeavesRows w v → LeavesRows v x → LeavesRows w x
rows_then w v x a b = record { clients = b.clients ∙ a.clients; servers = b.servers ∙ a.servers }

-- ---- the moves beside the rows

abbrev pub one_if_some : Option ℕ → ℕ
one_if_some None = 0
one_if_some (Some n) = 1

abbrev pub one_if : Bool → ℕ
one_if false = 0
one_if true = 1

module _ (s : Settings) where
  pub posts-calm : (role : Role) (id : CallId) (server : HostId) (what : Body) (w : Work) → Calm 1 w (posts s role id server what w)
  posts-calm role id server what w = record { told = _; grown = refl; few = omega arith; quiet = refl; order = refl; last = refl }

  tuned-told : (host : HostId) (t : Tuning) (n : ℕ) → (length (packets_in (tuned s host t n).told) ≤ 0) × (run_count (tuned s host t n).told ≡ 0)
  unfolding tuned
  tuned-told host t n = cond_both (is_balance_due s (counted t n)) _ _ (λ (u : Tuned). (length (packets_in u.told) ≤ 0) × (run_count u.told ≡ 0))
      (λ _. (omega arith, refl)) (λ _. (omega arith, refl))

  pub notes-calm : (o : Option ℕ) (w : Work) → Calm 0 w (notes s o w)
  notes-calm None w = calm_none w
  notes-calm (Some n) w =
      let t = tuned-told w.host.id w.host.tuning n in
      record { told = (tuned s w.host.id w.host.tuning n).told; grown = refl; few = t.0; quiet = t.1; order = refl; last = refl }

  pub notes-rows : (o : Option ℕ) (w : Work) → LeavesRows w (notes s o w)
  notes-rows None w = rows_none w
  notes-rows (Some n) w = record { clients = refl; servers = refl }

  pub tells_cutoffs-calm : (role : Role) (id : CallId) (server : HostId) (o : Option ℕ) (w : Work) → Calm (one_if_some o) w (tells_cutoffs s role id server o w)
  tells_cutoffs-calm role id server None w = calm_none w
  tells_cutoffs-calm role id server (Some version) w =
      cond_both (version == w.host.tuning.own.version) _ _ (Calm 1 w) (λ _. calm_more 0 1 w w (omega arith) (calm_none w))
      (λ _. posts-calm role id server (body.Cutoffs w.host.tuning.own) w)

  pub tells_cutoffs-rows : (role : Role) (id : CallId) (server : HostId) (o : Option ℕ) (w : Work) → LeavesRows w (tells_cutoffs s role id server o w)
  tells_cutoffs-rows role id server None w = rows_none w
  tells_cutoffs-rows role id server (Some version) w =
      cond_both (version == w.host.tuning.own.version) _ _ (LeavesRows w) (λ _. rows_none w) (λ _. record { clients = refl; servers = refl })

  acknowledged-calm : (server : HostId) (calls : List (ℕ × ℕ)) (w : Work) → Calm 1 w (acknowledged s server calls w)
  acknowledged-calm server [] w = calm_more 0 1 w w (omega arith) (calm_none w)
  acknowledged-calm server (call ∷ calls) w =
      cond_both (nat_lt (length calls) 4) _ _ (Calm 1 w)
      (λ _. record { told = []; grown = sym (append-nil w.told); few = omega arith; quiet = refl; order = refl; last = refl })
      (λ _. record { told = _; grown = refl; few = omega arith; quiet = refl; order = refl; last = refl })

  acknowledged-rows : (server : HostId) (calls : List (ℕ × ℕ)) (w : Work) → LeavesRows w (acknowledged s server calls w)
  acknowledged-rows server [] w = rows_none w
  acknowledged-rows server (call ∷ calls) w =
      cond_both (nat_lt (length calls) 4) _ _ (LeavesRows w) (λ _. record { clients = refl; servers = refl }) (λ _. record { clients = refl; servers = refl })

  pub finishes-calm : (id : CallId) (server : HostId) (done : Bool) (w : Work) → Calm (one_if done) w (finishes s id server done w)
  finishes-calm id server false w = calm_none w
  finishes-calm id server true w = acknowledged-calm server (finished_at w.host server ++ (id.inc, id.seq) ∷ []) w

  pub finishes-rows : (id : CallId) (server : HostId) (done : Bool) (w : Work) → LeavesRows w (finishes s id server done w)
  finishes-rows id server false w = rows_none w
  finishes-rows id server true w = acknowledged-rows server (finished_at w.host server ++ (id.inc, id.seq) ∷ []) w

  pub hears_cutoffs-calm : (peer : HostId) (inc : ℕ) (what : Body) (w : Work) → Calm 0 w (hears_cutoffs s peer inc what w)
  hears_cutoffs-calm peer inc (body.Cutoffs cutoffs) w =
      cond_both (is_newer inc cutoffs (peer_cutoffs s w.host peer)) _ _ (Calm 0 w)
      (λ _. record { told = []; grown = sym (append-nil w.told); few = omega arith; quiet = refl; order = refl; last = refl }) (λ _. calm_none w)
  hears_cutoffs-calm peer inc what w = calm_none w

  pub hears_cutoffs-rows : (peer : HostId) (inc : ℕ) (what : Body) (w : Work) → LeavesRows w (hears_cutoffs s peer inc what w)
  hears_cutoffs-rows peer inc (body.Cutoffs cutoffs) w =
      cond_both (is_newer inc cutoffs (peer_cutoffs s w.host peer)) _ _ (LeavesRows w) (λ _. record { clients = refl; servers = refl }) (λ _. rows_none w)
  hears_cutoffs-rows peer inc what w = rows_none w

-- ---- what rules say

-- how many RUNs are said
abbrev pub asks : List Say → ℕ
asks [] = 0
asks (Tells (PlainRun host id service request response hold) ∷ says) = suc (asks says)
asks (x ∷ says) = asks says

-- how many packets are said
abbrev pub post_count : List Say → ℕ
post_count [] = 0
post_count (Tells entry ∷ says) = post_count says
post_count (Posts what ∷ says) = suc (post_count says)

module _ (s : Settings) (h : Host) (role : Role) (id : CallId) (server : HostId) where
  pub said-runs : (says : List Say) → run_count (said s h role id server says) ≡ asks says
  said-runs [] = refl
  said-runs (Tells (PlainRun host id' service request response hold) ∷ says) = ap suc (said-runs says)
  said-runs (x ∷ says) = said-runs says

  pub said-posts : (says : List Say) → length (packets_in (said s h role id server says)) ≡ post_count says
  said-posts [] = refl
  said-posts (Tells entry ∷ says) = said-posts says
  said-posts (Posts what ∷ says) = ap suc (said-posts says)

-- ---- a rule is carried out

-- what a rule says is told among at most n packets and no RUN
pub record Carried (n end : ℕ) (says : List Told) (w v : Work) : Type 0 where
  pub before : List Told
  pub after : List Told
  pub grown : v.told ≡ w.told ++ (before ++ (says ++ after))
  pub few : length (packets_in before) + length (packets_in after) ≤ n
  pub quiet_before : run_count before ≡ 0
  pub quiet_after : run_count after ≡ 0
  pub order : v.host.order ≡ end
  pub last : v.host.last ≡ w.host.last

-- how many packets come of a rule at most, besides those that it says
abbrev pub beside : {R : Type 0} → Did R → ℕ
beside did = one_if_some did.version + one_if did.finished

grown_twice : (w before says after : List Told) → ((w ++ before) ++ says) ++ after ≡ w ++ (before ++ (says ++ after))
grown_twice w before says after = simp append_assoc

module _ (s : Settings) where
  pub asked-carried : (id : CallId) (server : HostId) (did : Did ClientRow) (w : Work)
      → Carried (beside did) did.order (said s w.host Client id server did.says) w (asked s id server did w)
  unfolding asked
  asked-carried id server did w =
      let put : Work = record w { host = record w.host { order = did.order; clients = set_row w.host.clients id did.row } } in
      let noted : Work = notes s did.opened put in
      let reply : Work = tells_cutoffs s Client id server did.version noted in
      let told : Work = tells (said s w.host Client id server did.says) reply in
      let a = calm_then 0 (one_if_some did.version) put noted reply (notes-calm s did.opened put) (tells_cutoffs-calm s Client id server did.version noted) in
      let b = finishes-calm s id server did.finished told in
      record {
        before = a.told;
        after = b.told;
        grown = b.grown ∙ ap (λ t. (t ++ said s w.host Client id server did.says) ++ b.told) a.grown
            ∙ grown_twice w.told a.told (said s w.host Client id server did.says) b.told;
        few = omega (arith, a.few, b.few);
        quiet_before = a.quiet;
        quiet_after = b.quiet;
        order = b.order ∙ a.order;
        last = b.last ∙ a.last;
      }

  pub served-carried : (id : CallId) (did : Did ServerRow) (w : Work)
      → Carried (one_if_some did.version) did.order (said s w.host Server id w.host.id did.says) w (served s id did w)
  unfolding served
  served-carried id did w =
      let put : Work = record w { host = record w.host { order = did.order; servers = set_row w.host.servers id did.row } } in
      let noted : Work = notes s did.opened put in
      let reply : Work = tells_cutoffs s Server id w.host.id did.version noted in
      let a =
      calm_then 0 (one_if_some did.version) put noted reply (notes-calm s did.opened put) (tells_cutoffs-calm s Server id w.host.id did.version noted) in
      record {
        before = a.told;
        after = [];
        grown = ap (λ t. t ++ said s w.host Server id w.host.id did.says) a.grown ∙ append_assoc w.told a.told (said s w.host Server id w.host.id did.says)
            ∙ ap (λ t. w.told ++ (a.told ++ t)) (sym (append-nil (said s w.host Server id w.host.id did.says)));
        few = omega (arith, a.few);
        quiet_before = a.quiet;
        quiet_after = refl;
        order = a.order;
        last = a.last;
      }

  pub asked-clients : (id : CallId) (server : HostId) (did : Did ClientRow) (w : Work)
      → (asked s id server did w).host.clients ≡ set_row w.host.clients id did.row
  unfolding asked
  asked-clients id server did w =
      let put : Work = record w { host = record w.host { order = did.order; clients = set_row w.host.clients id did.row } } in
      let noted : Work = notes s did.opened put in
      let reply : Work = tells_cutoffs s Client id server did.version noted in
      (finishes-rows s id server did.finished (tells (said s w.host Client id server did.says) reply)).clients
      ∙ (tells_cutoffs-rows s Client id server did.version noted).clients ∙ (notes-rows s did.opened put).clients

  pub asked-servers : (id : CallId) (server : HostId) (did : Did ClientRow) (w : Work) → (asked s id server did w).host.servers ≡ w.host.servers
  unfolding asked
  asked-servers id server did w =
      let put : Work = record w { host = record w.host { order = did.order; clients = set_row w.host.clients id did.row } } in
      let noted : Work = notes s did.opened put in
      let reply : Work = tells_cutoffs s Client id server did.version noted in
      (finishes-rows s id server did.finished (tells (said s w.host Client id server did.says) reply)).servers
      ∙ (tells_cutoffs-rows s Client id server did.version noted).servers ∙ (notes-rows s did.opened put).servers

  pub served-servers : (id : CallId) (did : Did ServerRow) (w : Work) → (served s id did w).host.servers ≡ set_row w.host.servers id did.row
  unfolding served
  served-servers id did w =
      let put : Work = record w { host = record w.host { order = did.order; servers = set_row w.host.servers id did.row } } in
      let noted : Work = notes s did.opened put in
      (tells_cutoffs-rows s Server id w.host.id did.version noted).servers ∙ (notes-rows s did.opened put).servers

  pub served-clients : (id : CallId) (did : Did ServerRow) (w : Work) → (served s id did w).host.clients ≡ w.host.clients
  unfolding served
  served-clients id did w =
      let put : Work = record w { host = record w.host { order = did.order; servers = set_row w.host.servers id did.row } } in
      let noted : Work = notes s did.opened put in
      (tells_cutoffs-rows s Server id w.host.id did.version noted).clients ∙ (notes-rows s did.opened put).clients

-- ---- a call that is over

-- a rule that says no RUN and opens nothing
pub calm_carried : (n end : ℕ) (says : List Told) (w v : Work) → Carried n end says w v → run_count says ≡ 0 → end ≡ w.host.order
    → Calm (n + length (packets_in says)) w v
calm_carried n end says w v c quiet same = record {
  told = c.before ++ (says ++ c.after);
  grown = c.grown;
  few = omega (arith, length-packets-append c.before (says ++ c.after), length-packets-append says c.after, c.few);
  quiet = omega (arith, run_count-append c.before (says ++ c.after), run_count-append says c.after, c.quiet_before, c.quiet_after, quiet);
  order = c.order ∙ same;
  last = c.last;
}

-- nothing is opened, and no packet is sent
record Still (m : Moment) (did : Did ServerRow) : Type 0 where
  pub order : did.order ≡ m.order
  pub version : did.version ≡ None
  pub quiet : asks did.says ≡ 0
  pub few : post_count did.says ≡ 0

state_acked-still : (s : Settings) (m : Moment) (id : CallId) (row : ServerRow) (state : State) → Still m (state_acked s m id row state)
state_acked-still s m id row (Receiving service part base count) = record { order = refl; version = refl; quiet = refl; few = refl }
state_acked-still s m id row (Held response release) = record { order = refl; version = refl; quiet = refl; few = refl }
state_acked-still s m id row (Replying response out order base count) = record { order = refl; version = refl; quiet = refl; few = refl }
state_acked-still s m id row (Buried until) = record { order = refl; version = refl; quiet = refl; few = refl }

server_acked-still : (s : Settings) (m : Moment) (id : CallId) (o : Option ServerRow) → Still m (server_acked s m id o)
unfolding server_acked
server_acked-still s m id None = record { order = refl; version = refl; quiet = refl; few = refl }
server_acked-still s m id (Some row) = state_acked-still s m id row row.state

pub acked_one-calm : (s : Settings) (id : CallId) (w : Work) → Calm 0 w (served s id (server_acked s (moment s id w) id (get w.host.servers id)) w)
acked_one-calm s id w =
    let did : Did ServerRow = server_acked s (moment s id w) id (get w.host.servers id) in
    let still = server_acked-still s (moment s id w) id (get w.host.servers id) in
    let says : List Told = said s w.host Server id w.host.id did.says in
    let none : one_if_some did.version ≡ 0 = ap one_if_some still.version in
    calm_more (one_if_some did.version + length (packets_in says)) 0 w (served s id did w)
    (omega (arith, none, said-posts s w.host Server id w.host.id did.says, still.few))
    (calm_carried (one_if_some did.version) did.order says w (served s id did w) (served-carried s id did w)
    (said-runs s w.host Server id w.host.id did.says ∙ still.quiet) still.order)
