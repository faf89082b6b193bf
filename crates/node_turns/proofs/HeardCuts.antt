-- The hosts stopped while one of them received.
use Rattle.std.proofs.Common.{◌≡◌, ℕ, suc, Option, Some, List, [], ◌∷◌, ◌++◌, refl, sym, ap, ◌∙◌, subst, append_assoc}
use Rattle.std.specs.Prelude.{map}
use Rattle.std.proofs.lemmas.List.{append-nil, length-map}
use Rattle.homa_plain.specs.declared.settings.Settings.{Settings}
use Rattle.homa_plain.specs.declared.id.HostId.{HostId}
use Rattle.homa_plain.specs.Entries.{PlainEntry, PlainRecv}
use Rattle.homa_plain.specs.Rules.{Answer}
use Rattle.homa_plain.specs.World.{World}
use Rattle.host_view.specs.declared.outbox.SentFrame.{SentFrame}
use Rattle.node_io.specs.declared.net.Got.{Got}
use Rattle.node_io.specs.declared.net.Got.TheVariants as got
use Rattle.node_io.specs.Net.{receive_of, added}
use Rattle.node_runs.specs.Course.{Report, Tells, Datagram, Arrival, Receive, IsReceived, datagrams, follows, hears, arrival_outcome}
use Rattle.node_runs.specs.Texts.{entries}
use Rattle.homa_plain.specs.Answers.{shown, answering}
use Rattle.node_turns.specs.Told.{listed}
use Rattle.node_turns.specs.Acting.{node_at, node_of, frame_datagram, IsStep, IsBegun, IsCut}
use Rattle.node_turns.proofs.Lists.{added_is, listed_none, entries_tells}
use Rattle.node_turns.proofs.Acted.{hears_one}
use Rattle.node_turns.proofs.Grows.{hears_grows}

module _ (s : Settings) (id : HostId) where
  -- a receive failed
  pub cut_before : (k : ℕ) (w : World) (b : List PlainEntry → Type 0) (tell : List Report → Type 0) (take : List Datagram → Type 0)
      (g0 g1 : Option (List Receive))
      → tell [] → take [] → g1 ≡ g0 → b [] → IsCut (hears s id k) s w b tell take g0 g1
  cut_before k w b tell take g0 g1 tells took given none = record {
    reports = [];
    sent = [];
    gave = [];
    told = tells;
    took = took;
    numbers = refl;
    given = given ∙ listed_none g0;
    received = tt;
    allowed = none;
    same = λ first later calls left held.
        let q = hears_grows s id k left (node_at (answering later w) first calls held) in
        record {
          more = q.more;
          later = q.later;
          told = q.told ∙ ap (λ rs. rs ++ q.more) (sym (append-nil first));
          grown = q.grown ∙ ap (λ ds. ds ++ q.later) (sym (append-nil (datagrams s w)));
        };
  }

  -- a datagram came, of which no more is known than that it is told
  pub cut_recv : (n : ℕ) (d : Arrival) (w : World) (b : List PlainEntry → Type 0) (tell : List Report → Type 0) (take : List Datagram → Type 0)
      (g0 g1 : Option (List Receive))
      → ((later : List Answer) → IsBegun (λ v. arrival_outcome s v id d) (PlainRecv id d.from d.bytes ∷ []) s w later)
      → tell (Tells (PlainRecv id d.from d.bytes) ∷ []) → take [] → g1 ≡ listed g0 (record { host = id; got = Some d } ∷ []) → IsReceived d
      → b (PlainRecv id d.from d.bytes ∷ [])
      → IsCut (hears s id (suc n)) s w b tell take g0 g1
  cut_recv n d w b tell take g0 g1 begun tells took given came none = record {
    reports = Tells (PlainRecv id d.from d.bytes) ∷ [];
    sent = [];
    gave = record { host = id; got = Some d } ∷ [];
    told = tells;
    took = took;
    numbers = refl;
    given = given;
    received = (came, tt);
    allowed = none;
    same = λ first later calls left held.
        let k = begun later in
        let path = hears_one s id n (Some d) left (node_at (answering later w) first calls held)
        ∙ ap (λ o. hears s id n left (follows [] o (node_at (answering later w) first calls held))) k.done in
        let m = node_at k.next (first ++ map Tells (PlainRecv id d.from d.bytes ∷ k.more)) calls held in
        let q = hears_grows s id n left m in
        record {
          more = map Tells k.more ++ q.more;
          later = k.sent ++ q.later;
          told = ap (λ c. (node_of c).reports) path ∙ q.told
              ∙ ap (λ rs. rs ++ q.more) (sym (append_assoc first (Tells (PlainRecv id d.from d.bytes) ∷ []) (map Tells k.more)))
              ∙ append_assoc (first ++ Tells (PlainRecv id d.from d.bytes) ∷ []) (map Tells k.more) q.more;
          grown = ap (λ c. datagrams s (node_of c).world) path ∙ q.grown
              ∙ ap (λ ds. ds ++ q.later) (k.grown ∙ ap (λ ds. ds ++ k.sent) (sym (append-nil (datagrams s w))))
              ∙ append_assoc (datagrams s w ++ []) k.sent q.later;
        };
  }

  -- a datagram came, and of what it did a front was sent and told
  pub cut_heard : (n : ℕ) (d : Arrival) (w : World) (stands : World → Type 0) (told : List PlainEntry) (frames : List SentFrame)
      (b a : List PlainEntry → Type 0) (tell : List Report → Type 0)
      (take : List Datagram → Type 0) (g0 g1 : Option (List Receive))
      → IsStep (λ v. arrival_outcome s v id d) (PlainRecv id d.from d.bytes ∷ []) s w stands told frames b a
      → tell (Tells (PlainRecv id d.from d.bytes) ∷ map Tells told)
      → take (map frame_datagram frames) → g1 ≡ listed g0 (record { host = id; got = Some d } ∷ []) → IsReceived d → a []
      → IsCut (hears s id (suc n)) s w b tell take g0 g1
  cut_heard n d w stands told frames b a tell take g0 g1 step tells took given came none = record {
    reports = Tells (PlainRecv id d.from d.bytes) ∷ map Tells told;
    sent = map frame_datagram frames;
    gave = record { host = id; got = Some d } ∷ [];
    told = tells;
    took = took;
    numbers = length-map frames frame_datagram ∙ step.numbers;
    given = given;
    received = (came, tt);
    allowed = subst b (append-nil (PlainRecv id d.from d.bytes ∷ told) ∙ ap (λ es. PlainRecv id d.from d.bytes ∷ es) (sym (entries_tells told)))
        (step.allowed [] none);
    same = λ first later calls left held.
        let path =
        hears_one s id n (Some d) left (node_at (answering (shown (entries (map Tells told)) ++ later) w) first calls held)
        ∙ ap (λ es. hears s id n left (follows [] (arrival_outcome s (answering (shown es ++ later) w) id d)
        (node_at (answering (shown es ++ later) w) first calls held))) (entries_tells told)
        ∙ ap (λ o. hears s id n left (follows [] o (node_at (answering (shown told ++ later) w) first calls held))) (step.done later) in
        let m = node_at (answering later step.next) (first ++ map Tells (PlainRecv id d.from d.bytes ∷ told)) calls held in
        let q = hears_grows s id n left m in
        record {
          more = q.more;
          later = q.later;
          told = ap (λ c. (node_of c).reports) path ∙ q.told;
          grown = ap (λ c. datagrams s (node_of c).world) path ∙ q.grown ∙ ap (λ ds. ds ++ q.later) step.sent;
        };
  }

  -- a datagram came, with what is known of it in other words
  pub recv_cut : (k n : ℕ) → k ≡ suc n → (t : Settings) → t ≡ s → (from : HostId) (y z : List ℕ) → y ≡ z → (g : Got) → g ≡ got.Frame from
      → (w : World) (b : List PlainEntry → Type 0) (tell : List Report → Type 0) (take : List Datagram → Type 0) (g0 g1 : Option (List Receive))
      → ((later : List Answer) → IsBegun (λ v. arrival_outcome t v id (record { from = from; bytes = z })) (PlainRecv id from z ∷ []) t w later)
      → tell (Tells (PlainRecv id from y) ∷ []) → take []
      → g1 ≡ added g0 (receive_of id g z) → IsReceived (record { from = from; bytes = z }) → b (PlainRecv id from z ∷ [])
      → IsCut (hears s id k) s w b tell take g0 g1
  recv_cut k n e t same from y z ey g is w b tell take g0 g1 begun tells sent given came none =
      subst (λ m. IsCut (hears s id m) s w b tell take g0 g1) (sym e)
      (cut_recv n (record { from = from; bytes = z }) w b tell take g0 g1
      (subst (λ q. (later : List Answer) → IsBegun (λ v. arrival_outcome q v id (record { from = from; bytes = z })) (PlainRecv id from z ∷ []) q w later)
      same begun)
      (subst (λ q. tell (Tells (PlainRecv id from q) ∷ [])) ey tells) sent
      (given ∙ ap (λ o. added g0 (receive_of id o z)) is ∙ added_is g0 (receive_of id (got.Frame from) z)) came none)

  pub heard_cut : (k n : ℕ) → k ≡ suc n → (t : Settings) → t ≡ s → (from : HostId) (x y z : List ℕ) → x ≡ z → y ≡ z → (g : Got) → g ≡ got.Frame from
      → (w : World) (stands : World → Type 0) (told : List PlainEntry) (frames : List SentFrame) (b a : List PlainEntry → Type 0) (tell : List Report → Type 0)
      (take : List Datagram → Type 0) (g0 g1 : Option (List Receive))
      → IsStep (λ v. arrival_outcome t v id (record { from = from; bytes = x })) (PlainRecv id from x ∷ []) t w stands told frames b a
      → tell (Tells (PlainRecv id from y) ∷ map Tells told)
      → take (map frame_datagram frames) → g1 ≡ added g0 (receive_of id g z) → IsReceived (record { from = from; bytes = z }) → a []
      → IsCut (hears s id k) s w b tell take g0 g1
  heard_cut k n e t same from x y z ex ey g is w stands told frames b a tell take g0 g1 step tells took given came none =
      subst (λ m. IsCut (hears s id m) s w b tell take g0 g1) (sym e)
      (cut_heard n (record { from = from; bytes = z }) w stands told frames b a tell take g0 g1
      (subst (λ q. IsStep (λ v. arrival_outcome s v id (record { from = from; bytes = q })) (PlainRecv id from q ∷ []) s w stands told frames b a) ex
      (subst (λ q. IsStep (λ v. arrival_outcome q v id (record { from = from; bytes = x })) (PlainRecv id from x ∷ []) q w stands told frames b a) same step))
      (subst (λ q. tell (Tells (PlainRecv id from q) ∷ map Tells told)) ey tells) took
      (given ∙ ap (λ o. added g0 (receive_of id o z)) is ∙ added_is g0 (receive_of id (got.Frame from) z)) came none)
