-- A part that was done, and one in which the hosts stopped.
use Rattle.std.proofs.Common.{◌≡◌, Option, List, [], ◌∷◌, ◌++◌, refl, sym, ap, ◌∙◌, subst, append_assoc}
use Rattle.homa_plain.specs.declared.settings.Settings.{Settings}
use Rattle.std.specs.Prelude.{map}
use Rattle.std.proofs.lemmas.List.{append-nil, length-map}
use Rattle.homa_plain.specs.declared.id.HostId.{HostId}
use Rattle.homa_plain.specs.declared.event.Event.TheVariants as event
use Rattle.homa_plain.specs.Entries.{PlainEntry}
use Rattle.host_view.specs.declared.outbox.SentFrame.{SentFrame}
use Rattle.homa_plain.specs.Rules.{Answer}
use Rattle.homa_plain.specs.World.{World, outcome}
use Rattle.node_runs.specs.Course.{Report, Tells, Turning, GoesOn, follows, has_turn, Datagram, Receive, datagrams}
use Rattle.node_runs.specs.Texts.{entries}
use Rattle.homa_plain.specs.Answers.{shown, answering}
use Rattle.node_turns.specs.Told.{Listed}
use Rattle.node_turns.specs.Acting.{Part, node_at, node_of, frame_datagram, with_left, IsStep, IsBegun, HasActed, IsCut}
use Rattle.node_turns.proofs.Lists.{listed_none, listed_more, received_more, numbers_more, entries_tells, entries_parts, shown_parts}

module _ (s : Settings) where
  -- the hosts stopped behind a part that was done
  pub cut_on : (act mid : Part) (w : World) (st : World → Type 0) (b m : List PlainEntry → Type 0) (tell1 tell2 tell : List Report → Type 0)
      (take2 take : List Datagram → Type 0) (s0 s1 : Option (List Datagram)) (g0 g1 g2 : Option (List Receive))
      → HasActed act mid s w st b m tell1 s0 s1 g0 g1 → ((v : World) → st v → IsCut mid s v m tell2 take2 g1 g2)
      → ((x y : List Report) → tell1 x → tell2 y → tell (x ++ y))
      → ((x y : List Datagram) → Listed s0 s1 x → take2 y → take (x ++ y)) → IsCut act s w b tell take g0 g2
  cut_on act mid w st b m tell1 tell2 tell take2 take s0 s1 g0 g1 g2 h next tells takes =
      let k = next h.next h.stood in
      record {
        reports = h.reports ++ k.reports;
        sent = h.sent ++ k.sent;
        gave = h.gave ++ k.gave;
        told = tells h.reports k.reports h.told k.told;
        took = takes h.sent k.sent h.took k.took;
        numbers = numbers_more h.sent k.sent h.reports k.reports h.numbers k.numbers;
        given = listed_more g0 g1 g2 h.gave k.gave h.given k.given;
        received = received_more h.gave k.gave h.received k.received;
        allowed = subst b (sym (entries_parts h.reports k.reports)) (h.allowed (entries k.reports) k.allowed);
        same = λ first later calls left held.
            let q = k.same (first ++ h.reports) later calls left held in
            let path =
            ap (λ xs. act xs (node_at (answering (shown (entries (h.reports ++ k.reports)) ++ later) w) first calls held)) (append_assoc h.gave k.gave left)
            ∙ ap (λ xs. act (h.gave ++ (k.gave ++ left)) (node_at (answering xs w) first calls held)) (answers h.reports k.reports later)
            ∙ h.same first (shown (entries k.reports) ++ later) calls (k.gave ++ left) held in
            record {
              more = q.more;
              later = q.later;
              told = ap (λ c. (node_of c).reports) path ∙ q.told ∙ ap (λ rs. rs ++ q.more) (append_assoc first h.reports k.reports);
              grown = ap (λ c. datagrams s (node_of c).world) path ∙ q.grown
                  ∙ ap (λ ds. ds ++ q.later) (ap (λ ds. ds ++ k.sent) h.grown ∙ append_assoc (datagrams s w) h.sent k.sent);
            };
      } where
        answers : (x y : List Report) (later : List Answer) → shown (entries (x ++ y)) ++ later ≡ shown (entries x) ++ (shown (entries y) ++ later)
        answers x y later = ap (λ es. shown es ++ later) (entries_parts x y) ∙ ap (λ xs. xs ++ later) (shown_parts (entries x) (entries y))
            ∙ append_assoc (shown (entries x)) (shown (entries y)) later

  -- a turn that was told, and of which no more is known than that it can be had
  pub cut_begun : (id : HostId) (w : World) (b : List PlainEntry → Type 0) (tell : List Report → Type 0) (take : List Datagram → Type 0)
      (g0 g1 : Option (List Receive))
      → ((later : List Answer) → IsBegun (λ v. outcome s v (event.Turn id) []) [] s w later) → tell (Turning id ∷ []) → take [] → g1 ≡ g0 → b []
      → IsCut (with_left (λ n. GoesOn (has_turn s id n))) s w b tell take g0 g1
  cut_begun id w b tell take g0 g1 begun tells took given none = record {
    reports = Turning id ∷ [];
    sent = [];
    gave = [];
    told = tells;
    took = took;
    numbers = refl;
    given = given ∙ listed_none g0;
    received = tt;
    allowed = none;
    same = λ first later calls left held.
        let k = begun later in
        let path = ap (λ o. GoesOn (follows (Turning id ∷ []) o (node_at (answering later w) first calls left))) k.done in
        record {
          more = map Tells k.more;
          later = k.sent;
          told = ap (λ c. (node_of c).reports) path ∙ sym (append_assoc first (Turning id ∷ []) (map Tells k.more));
          grown = ap (λ c. datagrams s (node_of c).world) path ∙ k.grown ∙ ap (λ ds. ds ++ k.sent) (sym (append-nil (datagrams s w)));
        };
  }

  -- a turn that was had, of which a front was sent and told
  pub cut_turn : (id : HostId) (w : World) (stands : World → Type 0) (told : List PlainEntry) (frames : List SentFrame) (b a : List PlainEntry → Type 0)
      (tell : List Report → Type 0)
      (take : List Datagram → Type 0) (g0 g1 : Option (List Receive))
      → IsStep (λ v. outcome s v (event.Turn id) []) [] s w stands told frames b a → tell (Turning id ∷ map Tells told)
      → take (map frame_datagram frames) → g1 ≡ g0 → a []
      → IsCut (with_left (λ n. GoesOn (has_turn s id n))) s w b tell take g0 g1
  cut_turn id w stands told frames b a tell take g0 g1 step tells took given none = record {
    reports = Turning id ∷ map Tells told;
    sent = map frame_datagram frames;
    gave = [];
    told = tells;
    took = took;
    numbers = length-map frames frame_datagram ∙ step.numbers;
    given = given ∙ listed_none g0;
    received = tt;
    allowed = subst b (append-nil told ∙ sym (entries_tells told)) (step.allowed [] none);
    same = λ first later calls left held.
        let path =
        ap (λ es. GoesOn (has_turn s id (node_at (answering (shown es ++ later) w) first calls left))) (entries_tells told)
        ∙ ap (λ o. GoesOn (follows (Turning id ∷ []) o (node_at (answering (shown told ++ later) w) first calls left))) (step.done later) in
        record {
          more = [];
          later = [];
          told = ap (λ c. (node_of c).reports) path ∙ sym (append-nil (first ++ Turning id ∷ map Tells told));
          grown = ap (λ c. datagrams s (node_of c).world) path ∙ step.sent ∙ sym (append-nil (datagrams s w ++ map frame_datagram frames));
        };
  }
