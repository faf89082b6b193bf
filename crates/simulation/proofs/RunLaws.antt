-- Runs that go on, and runs that stop.
use Rattle.std.proofs.Common.{◌≡◌, ◌+◌, ℕ, Bool, true, false, Option, None, List, [], ◌∷◌, ◌++◌, length, refl, sym, ap, ◌∙◌, subst, append_assoc}
use Rattle.std.proofs.Common.{replicate, arith}
use Rattle.std.specs.List.{flat_map}
use Rattle.std.proofs.lemmas.List.{append-nil, length-append}
use Rattle.homa_io.specs.Outside.{appended, TookFront}
use Rattle.homa_plain.specs.declared.id.HostId.{HostId}
use Rattle.homa_plain.specs.declared.settings.Settings.{Settings}
use Rattle.homa_plain.specs.declared.event.Event.TheVariants as event
use Rattle.homa_plain.specs.Entries.{PlainEntry, PlainSettings}
use Rattle.homa_plain.specs.Rules.{Answer}
use Rattle.homa_plain.specs.Script.{settings_text}
use Rattle.homa_plain.specs.World.{World, new_world}
use Rattle.homa_plain.specs.Replay.{Happening, bare, carried}
use Rattle.homa_plain.specs.Answers.{shown, answering}
use Rattle.generated_runs.proofs.Carried.{no_event}
use Rattle.homa_replay.specs.OpenWorld.{IsFirst, IsOpened}
use Rattle.homa_replay.proofs.Fronts.{nothing_appended, wrote_more, front_after, front_none, front_same, front_wide}
use Rattle.homa_world.specs.declared.shown.Passing.{Passing}
use Rattle.simulated_network.specs.declared.step.RunStep.{RunStep}
use Rattle.simulated_network.specs.declared.step.RunStep.TheVariants as step
use Rattle.simulation.specs.Turns.{Turn, Waited, LeftOut, Happened, happenings, told_of, line_of, IsWait, Asks, IsFull, HasRoom, HasHappened, AreTurns}
use Rattle.simulation.specs.Runs.{said, At, HasRun, HasStopped, IsRun, IsPart}
use Rattle.simulation.proofs.TurnLaws.{happenings-append, told_of-append, turns_on, carried_of}

pub said-append : (prints : Bool) (x y : List ℕ) → said prints (x ++ y) ≡ said prints x ++ said prints y
said-append true x y = refl
said-append false x y = refl

said_nothing : (prints : Bool) → said prints [] ≡ []
said_nothing true = refl
said_nothing false = refl

-- a step was given, at this tick
pub gave_as : {N : Type 0} (gives : N → ℕ → RunStep → N → Type 0) (a b : N) (t u : ℕ) (x y : RunStep) → t ≡ u → x ≡ y → gives a t x b → gives a u y b
gave_as gives a b t u x y same is gave = subst (λ (z : RunStep). gives a u z b) is (subst (λ (n : ℕ). gives a n x b) same gave)

-- nothing was printed
pub unsaid : (prints : Bool) (old : Option (List ℕ)) → old ≡ appended old (said prints [])
unsaid prints old = nothing_appended old ∙ ap (λ (l : List ℕ). appended old l) (sym (said_nothing prints))

flat_map-append' : (a b : List Happening) → flat_map line_of (a ++ b) ≡ flat_map line_of a ++ flat_map line_of b
flat_map-append' [] b = refl
flat_map-append' (e ∷ a) b =
    ap (λ (l : List ℕ). line_of e ++ l) (flat_map-append' a b) ∙ sym (append_assoc (line_of e) (flat_map line_of a) (flat_map line_of b))

module _ {N : Type 0} (gives : N → ℕ → RunStep → N → Type 0) (heeds : N → PlainEntry → Option Passing → N → Type 0) (leaves : N → N → Type 0)
    (s : Settings) (service : ℕ) (prints : Bool) where
  -- nothing happened yet
  pub none_run : (w : World) (a : At N) (stands : World → Type 0) (before : List PlainEntry → Type 0) → stands w
      → HasRun gives heeds leaves s service prints w a a stands before before
  none_run w a stands before stood = record {
    turns = [];
    end = w;
    stood = stood;
    led = (refl, refl);
    counted = omega arith;
    printed = unsaid prints a.taken;
    allowed = λ more h. h;
  }

  -- time went on in the network alone, or the run is over
  pub waited : (w : World) (a : At N) (b : N) (given : RunStep) (stands : World → Type 0) (before : List PlainEntry → Type 0) → IsWait given
      → gives a.network w.clock given b → stands w → HasRun gives heeds leaves s service prints w a (record a { network = b }) stands before before
  waited w a b given stands before is gave stood = record {
    turns = Waited given ∷ [];
    end = w;
    stood = stood;
    led = (is, record { next = b; gave = gave; rest = (refl, refl) });
    counted = omega arith;
    printed = unsaid prints a.taken;
    allowed = λ more h. h;
  }

  -- a call wasn't made
  pub left_out : (w : World) (a : At N) (m b : N) (client server : HostId) (bytes : ℕ) (stands : World → Type 0) (before : List PlainEntry → Type 0)
      → IsFull s w client → gives a.network w.clock (step.Call client server bytes) m → leaves m b → stands w
      → HasRun gives heeds leaves s service prints w a (record a { network = b }) stands before before
  left_out w a m b client server bytes stands before full gave left stood = record {
    turns = LeftOut client server bytes ∷ [];
    end = w;
    stood = stood;
    led = (full, record { next = m; gave = gave; rest = record { next = b; left = left; rest = (refl, refl) } });
    counted = omega arith;
    printed = unsaid prints a.taken;
    allowed = λ more h. h;
  }

  -- an event happened
  pub one_event : (w : World) (a b : At N) (m : N) (given : RunStep) (e : Happening) (stands : World → Type 0) (before after : List PlainEntry → Type 0)
      → gives a.network w.clock given m → Asks service given e → HasRoom s w given → HasHappened heeds s w e m b.network stands before after
      → b.events ≡ a.events + 1 → b.taken ≡ appended a.taken (said prints (line_of e))
      → HasRun gives heeds leaves s service prints w a b stands before after
  one_event w a b m given e stands before after gave asks room happened counted printed = record {
    turns = Happened e happened.told happened.next ∷ [];
    end = happened.next;
    stood = happened.stood;
    led = record {
      given = given;
      asks = asks;
      room = room;
      asked = m;
      gave = gave;
      done = happened.done;
      heard = b.network;
      heeded = happened.heard;
      rest = (refl, refl);
    };
    counted = counted;
    printed = printed ∙ ap (λ (l : List ℕ). appended a.taken (said prints l)) (sym (append-nil (line_of e)));
    allowed = λ more h.
        subst (λ (l : List PlainEntry). before (l ++ more)) (sym (append-nil happened.told)) (happened.allowed more h);
  }

  pub run_on : (w : World) (a b c : At N) (st su : World → Type 0) (p q r : List PlainEntry → Type 0)
      → HasRun gives heeds leaves s service prints w a b st p q
      → ((v : World) → st v → HasRun gives heeds leaves s service prints v b c su q r)
      → HasRun gives heeds leaves s service prints w a c su p r
  run_on w a b c st su p q r first next =
      let second = next first.end first.stood in
      let es = happenings first.turns in
      let fs = happenings second.turns in
      let all = happenings-append first.turns second.turns in
      record {
        turns = first.turns ++ second.turns;
        end = second.end;
        stood = second.stood;
        led = turns_on gives heeds leaves s service first.turns second.turns w first.end second.end a.network b.network c.network first.led second.led;
        counted = omega (arith, first.counted, second.counted, length-append es fs, ap (length {A = Happening}) all);
        printed = wrote_more a.taken b.taken c.taken (said prints (flat_map line_of es)) (said prints (flat_map line_of fs)) first.printed second.printed
            ∙ ap (λ (l : List ℕ). appended a.taken l)
            (sym (said-append prints (flat_map line_of es) (flat_map line_of fs))
            ∙ ap (said prints) (sym (flat_map-append' es fs) ∙ ap (flat_map line_of) (sym all)));
        allowed = λ more h.
            subst p (sym (append_assoc (told_of first.turns) (told_of second.turns) more)
            ∙ ap (λ (l : List PlainEntry). l ++ more) (sym (told_of-append first.turns second.turns)))
            (first.allowed (told_of second.turns ++ more) (second.allowed more h));
      }

  -- it stopped, and nothing more was printed
  pub stopped_here : (w : World) (a : At N) (before : List PlainEntry → Type 0) → before []
      → HasStopped gives heeds leaves s service prints w a a.taken before
  stopped_here w a before none = record {
    turns = [];
    end = w;
    reached = a.network;
    led = (refl, refl);
    last = bare event.Clock;
    front = front_none a.taken _;
    allowed = none;
  }

  -- it stopped at an event, whose line was printed in part or as a whole
  pub stopped_at : (w : World) (a : At N) (new : Option (List ℕ)) (before : List PlainEntry → Type 0) (last : Happening) → before []
      → TookFront a.taken new (said prints (line_of last)) → HasStopped gives heeds leaves s service prints w a new before
  stopped_at w a new before last none front = record {
    turns = [];
    end = w;
    reached = a.network;
    led = (refl, refl);
    last = last;
    front = front_same a.taken new (said prints (line_of last)) _ (ap (said prints) (sym (append-nil (line_of last)))) front;
    allowed = none;
  }

  -- it went on, and stopped there
  pub stopped_on : (w : World) (a b : At N) (new : Option (List ℕ)) (st : World → Type 0) (p q : List PlainEntry → Type 0)
      → HasRun gives heeds leaves s service prints w a b st p q
      → ((v : World) → st v → HasStopped gives heeds leaves s service prints v b new q)
      → HasStopped gives heeds leaves s service prints w a new p
  stopped_on w a b new st p q first next =
      let second = next first.end first.stood in
      let es = happenings first.turns in
      let fs = happenings second.turns ++ second.last ∷ [] in
      record {
        turns = first.turns ++ second.turns;
        end = second.end;
        reached = second.reached;
        led = turns_on gives heeds leaves s service first.turns second.turns w first.end second.end a.network b.network second.reached first.led
            second.led;
        last = second.last;
        front = front_same a.taken new (said prints (flat_map line_of es) ++ said prints (flat_map line_of fs)) _
            (sym (said-append prints (flat_map line_of es) (flat_map line_of fs))
            ∙ ap (said prints) (sym (flat_map-append' es fs)
            ∙ ap (flat_map line_of) (sym (append_assoc es (happenings second.turns) (second.last ∷ []))
            ∙ ap (λ (l : List Happening). l ++ second.last ∷ []) (sym (happenings-append first.turns second.turns)))))
            (front_after a.taken b.taken new (said prints (flat_map line_of es)) (said prints (flat_map line_of fs)) first.printed second.front);
        allowed = subst p (sym (told_of-append first.turns second.turns)) (first.allowed (told_of second.turns) second.allowed);
      }

  -- the same, where the settings stayed
  pub then_run : (t : Settings) (w : World) (a b c : At N) (st su : World → Type 0) (p q r : List PlainEntry → Type 0) → t ≡ s
      → HasRun gives heeds leaves s service prints w a b st p q
      → ((v : World) → st v → HasRun gives heeds leaves t service prints v b c su q r)
      → HasRun gives heeds leaves s service prints w a c su p r
  then_run t w a b c st su p q r same first next =
      run_on w a b c st su p q r first
      (λ v h. subst (λ (o : Settings). HasRun gives heeds leaves o service prints v b c su q r) same (next v h))

  pub then_stopped : (t : Settings) (w : World) (a b : At N) (new : Option (List ℕ)) (st : World → Type 0) (p q : List PlainEntry → Type 0) → t ≡ s
      → HasRun gives heeds leaves s service prints w a b st p q
      → ((v : World) → st v → HasStopped gives heeds leaves t service prints v b new q)
      → HasStopped gives heeds leaves s service prints w a new p
  then_stopped t w a b new st p q same first next =
      stopped_on w a b new st p q first
      (λ v h. subst (λ (o : Settings). HasStopped gives heeds leaves o service prints v b new q) same (next v h))

module _ {N : Type 0} (gives : N → ℕ → RunStep → N → Type 0) (heeds : N → PlainEntry → Option Passing → N → Type 0) (leaves : N → N → Type 0)
    (s : Settings) (service : ℕ) (prints : Bool) (boxes : ℕ) (first : World) (is_first : IsFirst s boxes first) (a : At N)
    (p : List PlainEntry → Type 0) (allowed : List PlainEntry → Type 0) (old : Option (List ℕ))
    (begun : a.taken ≡ appended old (said prints (settings_text s)))
    (allow : (told : List PlainEntry) → p told → allowed (PlainSettings s ∷ told)) where
  -- it came to its end
  pub whole_run : (b : At N) (st : World → Type 0) (q : List PlainEntry → Type 0) → a.events ≡ 0 → q []
      → HasRun gives heeds leaves s service prints first a b st p q → IsRun s boxes prints allowed old b.taken b.events
  whole_run b st q zero last run =
      let es = happenings run.turns in
      let told = told_of run.turns in
      record {
        es = es;
        told = told;
        end = run.end;
        carries = λ later. ap (λ (x : World). carried s x es) (sym (is_first (shown told ++ later)))
            ∙ carried_of gives heeds leaves s service run.turns first run.end a.network b.network run.led later;
        counted = omega (arith, run.counted, zero);
        printed = wrote_more old a.taken b.taken (said prints (settings_text s)) (said prints (flat_map line_of es)) begun run.printed
            ∙ ap (λ (l : List ℕ). appended old l) (sym (said-append prints (settings_text s) (flat_map line_of es)));
        allow = subst (λ (l : List PlainEntry). allowed (PlainSettings s ∷ l)) (append-nil told) (allow (told ++ []) (run.allowed [] last));
      }

  -- it stopped
  pub part_run : (new : Option (List ℕ)) → HasStopped gives heeds leaves s service prints first a new p → IsPart s boxes prints allowed old new
  part_run new run =
      let es = happenings run.turns in
      let told = told_of run.turns in
      let all = flat_map line_of (es ++ run.last ∷ []) in
      record {
        es = es;
        told = told;
        end = run.end;
        carries = λ later. ap (λ (x : World). carried s x es) (sym (is_first (shown told ++ later)))
            ∙ carried_of gives heeds leaves s service run.turns first run.end a.network run.reached run.led later;
        last = run.last;
        front = front_same old new (said prints (settings_text s) ++ said prints all) _ (sym (said-append prints (settings_text s) all))
            (front_after old a.taken new (said prints (settings_text s)) (said prints all) begun run.front);
        allow = allow told run.allowed;
      }

-- no event was carried out
unbegun : (s : Settings) (boxes : ℕ) (later : List Answer) → carried s (new_world s (replicate s.hosts 1) 0 boxes later) []
    ≡ record { world = answering later (new_world s (replicate s.hosts 1) 0 boxes []); told = []; count = 0; fault = None }
unfolding new_world
unbegun s boxes later = no_event s (new_world s (replicate s.hosts 1) 0 boxes later)

-- a front of the settings was printed
pub part_settings : (s : Settings) (boxes : ℕ) (prints : Bool) (allowed : List PlainEntry → Type 0) (old new : Option (List ℕ))
    → allowed (PlainSettings s ∷ []) → TookFront old new (said prints (settings_text s)) → IsPart s boxes prints allowed old new
part_settings s boxes prints allowed old new allow front =
    let rest = flat_map line_of (bare event.Clock ∷ []) in
    record {
      es = [];
      told = [];
      end = new_world s (replicate s.hosts 1) 0 boxes [];
      carries = unbegun s boxes;
      last = bare event.Clock;
      front = front_same old new (said prints (settings_text s) ++ said prints rest) _ (sym (said-append prints (settings_text s) rest))
          (front_wide old new (said prints (settings_text s)) (said prints rest) front);
      allow = allow;
    }

-- nothing was printed
pub part_none : (s : Settings) (boxes : ℕ) (prints : Bool) (allowed : List PlainEntry → Type 0) (old : Option (List ℕ))
    → allowed (PlainSettings s ∷ []) → IsPart s boxes prints allowed old old
part_none s boxes prints allowed old allow = part_settings s boxes prints allowed old old allow (front_none old (said prints (settings_text s)))

-- ---- as the code does it, with the settings that it has

said_as : (p q : Bool) (s u : Settings) → q ≡ p → u ≡ s → said q (settings_text u) ≡ said p (settings_text s)
said_as p q s u prints same =
    ap (λ (x : Bool). said x (settings_text u)) prints ∙ ap (λ (x : Settings). said p (settings_text x)) same

-- a front of the settings was printed
pub part_begun : (s u : Settings) (boxes : ℕ) (p q : Bool) (allowed : List PlainEntry → Type 0) (old new : Option (List ℕ)) → u ≡ s → q ≡ p
    → allowed (PlainSettings s ∷ []) → TookFront old new (said q (settings_text u)) → IsPart s boxes p allowed old new
part_begun s u boxes p q allowed old new same prints allow front =
    part_settings s boxes p allowed old new allow
    (front_same old new (said q (settings_text u)) (said p (settings_text s)) (said_as p q s u prints same) front)

module _ {N : Type 0} (gives : N → ℕ → RunStep → N → Type 0) (heeds : N → PlainEntry → Option Passing → N → Type 0) (leaves : N → N → Type 0)
    (s u t : Settings) (service : ℕ) (pr qr : Bool) (boxes : ℕ) (a : At N) (st : World → Type 0) (p : List PlainEntry → Type 0)
    (allowed : List PlainEntry → Type 0) (old : Option (List ℕ)) (same : u ≡ s) (stays : t ≡ u) (prints : qr ≡ pr) (opened : IsOpened u boxes st)
    (begun : a.taken ≡ appended old (said qr (settings_text u)))
    (allow : (told : List PlainEntry) → p told → allowed (PlainSettings u ∷ told)) where
  first_is : IsFirst s boxes opened.first
  first_is = subst (λ (o : Settings). IsFirst o boxes opened.first) same opened.is_first

  begun_so : a.taken ≡ appended old (said pr (settings_text s))
  begun_so = begun ∙ ap (λ (l : List ℕ). appended old l) (said_as pr qr s u prints same)

  allow_so : (told : List PlainEntry) → p told → allowed (PlainSettings s ∷ told)
  allow_so told h = subst (λ (o : Settings). allowed (PlainSettings o ∷ told)) same (allow told h)

  pub whole_here : (b : At N) (su : World → Type 0) (q : List PlainEntry → Type 0) → a.events ≡ 0 → q []
      → ((w : World) → st w → HasRun gives heeds leaves t service qr w a b su p q) → IsRun s boxes pr allowed old b.taken b.events
  whole_here b su q zero last ran =
      whole_run gives heeds leaves s service pr boxes opened.first first_is a p allowed old begun_so allow_so b su q zero last
      (subst (λ (o : Settings). HasRun gives heeds leaves o service pr opened.first a b su p q) (stays ∙ same)
      (subst (λ (x : Bool). HasRun gives heeds leaves t service x opened.first a b su p q) prints (ran opened.first opened.stood)))

  pub part_here : (new : Option (List ℕ)) → ((w : World) → st w → HasStopped gives heeds leaves t service qr w a new p)
      → IsPart s boxes pr allowed old new
  part_here new stopped =
      part_run gives heeds leaves s service pr boxes opened.first first_is a p allowed old begun_so allow_so new
      (subst (λ (o : Settings). HasStopped gives heeds leaves o service pr opened.first a new p) (stays ∙ same)
      (subst (λ (x : Bool). HasStopped gives heeds leaves t service x opened.first a new p) prints (stopped opened.first opened.stood)))
