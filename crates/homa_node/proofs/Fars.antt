-- A node's run goes on, or ends.
use Rattle.std.proofs.Common.{◌≡◌, ◌≤◌, ◌⊎◌, inl, inr, ℕ, Bool, true, false, Option, None, Some, List, [], ◌∷◌, ◌++◌, length}
use Rattle.std.proofs.Common.{refl, sym, ap, ◌∙◌, subst, append_assoc}
use mathlib.Core.Path.{fun_ext}
use Rattle.std.specs.Prelude.{IfSome}
use Rattle.std.proofs.lemmas.List.{append-nil}
use Rattle.homa_plain.specs.Entries.{PlainEntry}
use Rattle.homa_plain.specs.Rules.{Answer}
use Rattle.homa_plain.specs.World.{last_tick}
use Rattle.homa_plain.specs.Answers.{shown}
use Rattle.node_io.specs.Clock.{next_tick, if_ticks}
use Rattle.node_runs.specs.Course.{Report, Datagram, Receive, AreReceived, AreTicks, End, Run}
use Rattle.node_runs.specs.Recorder.{Notes}
use Rattle.node_runs.specs.Texts.{entries}
use Rattle.node_turns.specs.Told.{listed, numbers_of, Hears, AreDone}
use Rattle.node_turns.proofs.Lists.{listed_none, listed_more, received_more, numbers_more, entries_parts, shown_parts}
use Rattle.node_turns.proofs.Done.{gone_none, gone_more}
use Rattle.script_lines.specs.Read.{IsRead, IsCut}
use Rattle.script_lines.proofs.ReadParts.{read_start, read_on, read_map, read_whole}
use Rattle.homa_node.specs.Served.{Outside, Whole, AreGiven, BeginsRun, IsServed, IsPart}
use Rattle.homa_node.specs.Progress.{IsFar}
use Rattle.homa_node.proofs.Started.{read_cut}

-- what is still to be answered, read and received
abbrev pub Later : Type 0
Later = List Answer → List ℕ → List Receive → Run

-- what was read is also this of what was due
read_as : {A : Type 0} (bytes : List ℕ) (left : Option (List ℕ)) (due now due2 now2 : List ℕ → A) → IsRead bytes left due now
    → ((more : List ℕ) → due2 more ≡ due more) → ((more : List ℕ) → now more ≡ now2 more) → IsRead bytes left due2 now2
read_as bytes left due now due2 now2 d e f = record {
  came = d.came;
  rest = d.rest;
  split = d.split;
  has_left = d.has_left;
  ended = d.ended;
  nothing = d.nothing;
  same = λ more k. e (d.came ++ more) ∙ (d.same more k ∙ f more);
}

pub none_given : (held : Option (List ℕ)) → AreGiven held []
none_given None = tt
none_given (Some ticks) = refl

-- a clock gave a tick
given_next : (held held2 : Option (List ℕ)) (now : ℕ) (on : List ℕ) → IfSome held (λ ticks. now ≡ next_tick ticks) → held2 ≡ if_ticks held
    → AreGiven held2 on → AreGiven held (now ∷ on)
given_next None held2 now on is left given = tt
given_next (Some ticks) held2 now on is left given =
    let on_is : AreGiven (if_ticks (Some ticks)) on = subst (λ h. AreGiven h on) left given in
    ap (λ n. n ∷ on) is ∙ ap (λ xs. next_tick ticks ∷ xs) on_is

module _ (whole : Whole) (told : Notes → Report → List ℕ) (kept : Notes → Report → Notes) (strange : Notes → Report → Bool)
    (may_tell : List PlainEntry → Type 0) where
  -- nothing was done yet
  pub far_start : (bytes : List ℕ) (left : Option (List ℕ)) (o : Outside) → left ≡ Some bytes
      → IsFar whole told kept strange may_tell bytes left o o may_tell 0 [] [] whole
  far_start bytes left o e = record {
    ticks = [];
    gave = [];
    told_all = gone_none told kept strange o.taken o.notes o.acts (Hears 64);
    took = listed_none o.sent;
    numbers = refl;
    given = listed_none o.gave;
    received = tt;
    ticked = λ on h. h;
    rises = λ on h. h;
    allowed = λ more h. h;
    read = read_start bytes left whole e;
  }

  module _ (bytes : List ℕ) (left : Option (List ℕ)) (old new : Outside) (after : List PlainEntry → Type 0) (least : ℕ) (reports : List Report)
      (sent : List Datagram) where
    -- more was read
    pub far_read : {X : Type 0} (g : X → Later) (h h2 : List ℕ → X) (left2 : Option (List ℕ))
        → IsFar whole told kept strange may_tell bytes left old new after least reports sent (λ more. g (h more))
        → ((rest : List ℕ) → left ≡ Some rest → IsRead rest left2 h h2)
        → IsFar whole told kept strange may_tell bytes left2 old new after least reports sent (λ more. g (h2 more))
    far_read {X} g h h2 left2 d f = record {
      ticks = d.ticks;
      gave = d.gave;
      told_all = d.told_all;
      took = d.took;
      numbers = d.numbers;
      given = d.given;
      received = d.received;
      ticked = d.ticked;
      rises = d.rises;
      allowed = d.allowed;
      read = read_on bytes left left2 (λ more later on next. whole more (shown (entries reports) ++ later) (d.ticks ++ on) (d.gave ++ next))
          (λ more. g (h more)) (λ more. g (h2 more)) d.read
          (λ rest e. read_map rest left2 h h2 g (f rest e));
    }

    module _ (rest : Whole) (d : IsFar whole told kept strange may_tell bytes left old new after least reports sent rest) where
      -- what the run was given so far, and what is still to come
      abbrev so_far : Whole
      so_far more later on next = whole more (shown (entries reports) ++ later) (d.ticks ++ on) (d.gave ++ next)

      -- the run goes on so, in other words
      pub far_to : (onward : Whole) → ((more : List ℕ) (later : List Answer) (on : List ℕ) (next : List Receive)
          → rest more later on next ≡ onward more later on next)
          → IsFar whole told kept strange may_tell bytes left old new after least reports sent onward
      far_to onward e = record {
        ticks = d.ticks;
        gave = d.gave;
        told_all = d.told_all;
        took = d.took;
        numbers = d.numbers;
        given = d.given;
        received = d.received;
        ticked = d.ticked;
        rises = d.rises;
        allowed = d.allowed;
        read = read_as {A = Later} bytes left so_far rest so_far onward d.read (λ more. refl)
            (λ more. fun_ext (λ later. fun_ext (λ on. fun_ext (λ next. e more later on next))));
      }

      -- some bytes more came, and then reading stopped
      pub far_stop : (left2 : Option (List ℕ)) → ((rb : List ℕ) → left ≡ Some rb → IsCut rb left2)
          → (came : List ℕ) × IsFar whole told kept strange may_tell bytes left2 old new after least reports sent (λ more. rest (came ++ more))
      far_stop left2 f =
          let r = read_cut {A = Later} bytes left left2 so_far rest d.read f in (
            r.0,
            record {
              ticks = d.ticks;
              gave = d.gave;
              told_all = d.told_all;
              took = d.took;
              numbers = d.numbers;
              given = d.given;
              received = d.received;
              ticked = d.ticked;
              rises = d.rises;
              allowed = d.allowed;
              read = r.1;
            },
          )

      -- the clock gave a tick
      pub far_tick : (now : ℕ) (held : Option (List ℕ)) → least ≤ now → now ≤ last_tick → IfSome new.ticks (λ ticks. now ≡ next_tick ticks)
          → held ≡ if_ticks new.ticks
          → IsFar whole told kept strange may_tell bytes left old (record new { ticks = held }) after now reports sent
          (λ more later on next. rest more later (now ∷ on) next)
      far_tick now held low high is left_is = record {
        ticks = d.ticks ++ now ∷ [];
        gave = d.gave;
        told_all = d.told_all;
        took = d.took;
        numbers = d.numbers;
        given = d.given;
        received = d.received;
        ticked = λ on h. subst (AreGiven old.ticks) (sym (append_assoc d.ticks (now ∷ []) on))
            (d.ticked (now ∷ on) (given_next new.ticks held now on is left_is h));
        rises = λ on h. subst (AreTicks 0) (sym (append_assoc d.ticks (now ∷ []) on)) (d.rises (now ∷ on) (low, high, h));
        allowed = d.allowed;
        read = read_as {A = Later} bytes left (λ more later on next. so_far more later (now ∷ on) next) (λ more later on next. rest more later (now ∷ on) next)
            (λ more later on next. whole more (shown (entries reports) ++ later) ((d.ticks ++ now ∷ []) ++ on) (d.gave ++ next))
            (λ more later on next. rest more later (now ∷ on) next)
            (read_map {A = Later} {B = Later} bytes left so_far rest (λ (f : Later) later on next. f later (now ∷ on) next) d.read)
            (λ more. fun_ext (λ later. fun_ext
            (λ on. fun_ext (λ next. ap (λ ticks. whole more (shown (entries reports) ++ later) ticks (d.gave ++ next))
            (append_assoc d.ticks (now ∷ []) on)))))
            (λ more. refl);
      }

      answers : (x y : List Report) (later : List Answer) → shown (entries (x ++ y)) ++ later ≡ shown (entries x) ++ (shown (entries y) ++ later)
      answers x y later = ap (λ es. shown es ++ later) (entries_parts x y) ∙ ap (λ xs. xs ++ later) (shown_parts (entries x) (entries y))
          ∙ append_assoc (shown (entries x)) (shown (entries y)) later

      -- what it was given with these further answers and receives
      with_more : (r : List Report) (g : List Receive) (more : List ℕ) (later : List Answer) (on : List ℕ) (next : List Receive)
          → whole more (shown (entries (reports ++ r)) ++ later) (d.ticks ++ on) ((d.gave ++ g) ++ next)
          ≡ so_far more (shown (entries r) ++ later) on (g ++ next)
      with_more r g more later on next =
          ap (λ xs. whole more xs (d.ticks ++ on) ((d.gave ++ g) ++ next)) (answers reports r later)
          ∙ ap (whole more (shown (entries reports) ++ (shown (entries r) ++ later)) (d.ticks ++ on)) (append_assoc d.gave g next)

      -- the hosts did more
      pub far_acted : (new2 : Outside) (after2 : List PlainEntry → Type 0) (r : List Report) (sent2 more_sent : List Datagram) (g : List Receive)
          (onward : Whole)
          → AreDone told kept strange new.taken new.notes new2.taken new2.notes new.acts new2.acts (Hears 64) (Hears 64) r
          → new2.sent ≡ listed new.sent more_sent → new2.gave ≡ listed new.gave g
          → AreReceived g → new2.ticks ≡ new.ticks → sent2 ≡ sent ++ more_sent → length more_sent ≡ length (numbers_of r)
          → ((more : List PlainEntry) → after2 more → after (entries r ++ more))
          → ((more : List ℕ) (later : List Answer) (on : List ℕ) (next : List Receive)
          → rest more (shown (entries r) ++ later) on (g ++ next) ≡ onward more later on next)
          → IsFar whole told kept strange may_tell bytes left old new2 after2 least (reports ++ r) sent2 onward
      far_acted new2 after2 r sent2 more_sent g onward tells took given came held grown count allowed e = record {
        ticks = d.ticks;
        gave = d.gave ++ g;
        told_all = gone_more told kept strange old.taken new.taken new2.taken old.notes new.notes new2.notes old.acts new.acts new2.acts
            (Hears 64) (Hears 64) (Hears 64) reports r d.told_all tells;
        took = listed_more old.sent new.sent new2.sent sent more_sent d.took took ∙ ap (listed old.sent) (sym grown);
        numbers = ap length grown ∙ numbers_more sent more_sent reports r d.numbers count;
        given = listed_more old.gave new.gave new2.gave d.gave g d.given given;
        received = received_more d.gave g d.received came;
        ticked = λ on h. d.ticked on (subst (λ x. AreGiven x on) held h);
        rises = d.rises;
        allowed = λ more a. subst may_tell (sym (ap (λ es. es ++ more) (entries_parts reports r) ∙ append_assoc (entries reports) (entries r) more))
            (d.allowed (entries r ++ more) (allowed more a));
        read = read_as {A = Later} bytes left (λ more later on next. so_far more (shown (entries r) ++ later) on (g ++ next))
            (λ more later on next. rest more (shown (entries r) ++ later) on (g ++ next))
            (λ more later on next. whole more (shown (entries (reports ++ r)) ++ later) (d.ticks ++ on) ((d.gave ++ g) ++ next)) onward
            (read_map {A = Later} {B = Later} bytes left so_far rest (λ (f : Later) later on next. f (shown (entries r) ++ later) on (g ++ next)) d.read)
            (λ more. fun_ext (λ later. fun_ext (λ on. fun_ext (λ next. with_more r g more later on next))))
            (λ more. fun_ext (λ later. fun_ext (λ on. fun_ext (λ next. e more later on next))));
      }

      by_end : (new2 : Outside) (tell : List Report → Type 0) (take : List Datagram → Type 0) (r : List Report)
          (more_sent : List Datagram) (g : List Receive)
          → tell (reports ++ r) → take (sent ++ more_sent) → length more_sent ≡ length (numbers_of r)
          → new2.gave ≡ listed new.gave g → AreReceived g → AreTicks least [] → after (entries r)
          → ((more : List ℕ) (later : List Answer) (on : List ℕ) (next : List Receive)
          → BeginsRun (rest more (shown (entries r) ++ later) on (g ++ next)) (reports ++ r) (sent ++ more_sent))
          → (t : Bool) → d.read.ended ≡ t → IsPart whole told kept strange may_tell bytes left old new2 tell take
      by_end new2 tell take r more_sent g tells took count given came none3 allowed begins t is = record {
        came = d.read.came;
        rest = d.read.rest;
        split = d.read.split;
        has_left = d.read.has_left;
        answers = shown (entries (reports ++ r));
        ticks = d.ticks;
        gave = d.gave ++ g;
        reports = reports ++ r;
        sent = sent ++ more_sent;
        told_part = tells;
        took = took;
        numbers = numbers_more sent more_sent reports r d.numbers count;
        given = listed_more old.gave new.gave new2.gave d.gave g d.given given;
        received = received_more d.gave g d.received came;
        ticked = subst (AreGiven old.ticks) (append-nil d.ticks) (d.ticked [] (none_given new.ticks));
        rises = subst (AreTicks 0) (append-nil d.ticks) (d.rises [] none3);
        shows = refl;
        allowed = subst may_tell (sym (entries_parts reports r)) (d.allowed (entries r) allowed);
        front = by_flag t is;
      } where
        path : (more : List ℕ) (later : List Answer) (on : List ℕ) (next : List Receive) → (d.read.ended ≡ true → more ≡ [])
            → whole (d.read.came ++ more) (shown (entries (reports ++ r)) ++ later) (d.ticks ++ on) ((d.gave ++ g) ++ next)
            ≡ rest more (shown (entries r) ++ later) on (g ++ next)
        path more later on next k = with_more r g (d.read.came ++ more) later on next
            ∙ ap (λ (f : Later). f (shown (entries r) ++ later) on (g ++ next)) (d.read.same more k)

        begun : (more : List ℕ) (later : List Answer) (on : List ℕ) (next : List Receive) → (d.read.ended ≡ true → more ≡ [])
            → BeginsRun (whole (d.read.came ++ more) (shown (entries (reports ++ r)) ++ later) (d.ticks ++ on) ((d.gave ++ g) ++ next)) (reports ++ r)
            (sent ++ more_sent)
        begun more later on next k = subst (λ x. BeginsRun x (reports ++ r) (sent ++ more_sent)) (sym (path more later on next k)) (begins more later on next)

        by_flag : (t : Bool) → d.read.ended ≡ t
            → ((more : List ℕ) (later : List Answer) (on : List ℕ) (next : List Receive)
            → BeginsRun (whole (d.read.came ++ more) (shown (entries (reports ++ r)) ++ later) (d.ticks ++ on) ((d.gave ++ g) ++ next)) (reports ++ r)
            (sent ++ more_sent))
            ⊎ ((d.read.rest ≡ []) × ((later : List Answer) (on : List ℕ) (next : List Receive)
            → BeginsRun (whole d.read.came (shown (entries (reports ++ r)) ++ later) (d.ticks ++ on) ((d.gave ++ g) ++ next)) (reports ++ r)
            (sent ++ more_sent)))
        by_flag true e = inr (
          d.read.nothing e,
          λ later on next.
              subst (λ xs. BeginsRun (whole xs (shown (entries (reports ++ r)) ++ later) (d.ticks ++ on) ((d.gave ++ g) ++ next)) (reports ++ r)
              (sent ++ more_sent)) (append-nil d.read.came) (begun [] later on next (λ k. refl)),
        )
        by_flag false e = inl (λ more later on next. begun more later on next (λ k. absurd cc))

      -- the hosts stopped
      pub far_part : (new2 : Outside) (tell : List Report → Type 0) (take : List Datagram → Type 0) (r : List Report)
          (more_sent : List Datagram) (g : List Receive)
          → tell (reports ++ r) → take (sent ++ more_sent) → length more_sent ≡ length (numbers_of r)
          → new2.gave ≡ listed new.gave g → AreReceived g → after (entries r)
          → ((more : List ℕ) (later : List Answer) (on : List ℕ) (next : List Receive)
          → BeginsRun (rest more (shown (entries r) ++ later) on (g ++ next)) (reports ++ r) (sent ++ more_sent))
          → IsPart whole told kept strange may_tell bytes left old new2 tell take
      far_part new2 tell take r more_sent g tells took count given came allowed begins =
          by_end new2 tell take r more_sent g tells took count given came tt allowed begins d.read.ended refl

      -- the run is over
      pub far_end : (end : End) → after []
          → ((more : List ℕ) (later : List Answer) (on : List ℕ) (next : List Receive)
          → rest more later on next ≡ record { reports = reports; sent = sent; left = next; end = Some end })
          → IsServed whole told kept strange may_tell bytes old new end
      far_end end none e = record {
        answers = shown (entries reports);
        ticks = d.ticks;
        gave = d.gave;
        ended = ap (λ (x : Run). x.end) run;
        used = ap (λ (x : Run). x.left) run;
        told_all = subst (AreDone told kept strange old.taken old.notes new.taken new.notes old.acts new.acts (Hears 64) (Hears 64))
            (sym (ap (λ (x : Run). x.reports) run)) d.told_all;
        took = d.took ∙ ap (listed old.sent) (sym (ap (λ (x : Run). x.sent) run));
        given = d.given;
        received = d.received;
        ticked = subst (AreGiven old.ticks) (append-nil d.ticks) (d.ticked [] (none_given new.ticks));
        rises = subst (AreTicks 0) (append-nil d.ticks) (d.rises [] tt);
        shows = ap (λ (x : Run). shown (entries x.reports)) run;
        allowed = subst may_tell (append-nil (entries reports) ∙ sym (ap (λ (x : Run). entries x.reports) run)) (d.allowed [] none);
      } where
        run : whole bytes (shown (entries reports)) d.ticks d.gave ≡ record { reports = reports; sent = sent; left = []; end = Some end }
        run =
            ap (λ xs. whole bytes xs d.ticks d.gave) (sym (append-nil (shown (entries reports))))
            ∙ ap (λ xs. whole bytes (shown (entries reports) ++ []) xs d.gave) (sym (append-nil d.ticks))
            ∙ ap (λ xs. whole bytes (shown (entries reports) ++ []) (d.ticks ++ []) xs) (sym (append-nil d.gave))
            ∙ ap (λ (f : Later). f [] [] []) (read_whole {A = Later} bytes left so_far rest d.read)
            ∙ e d.read.rest [] [] []
