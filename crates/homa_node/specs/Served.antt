-- How a node's run ends, and what was told, sent and given in it.
use Rattle.std.specs.Prelude.{◌≡◌, ◌⊎◌, ℕ, zero, suc, Bool, Option, None, Some, Result, Ok, Err, List, [], ◌∷◌, ◌++◌, length}
use Rattle.homa_plain.specs.declared.settings.Settings.{Settings}
use Rattle.homa_plain.specs.declared.fault.LineFault.TheVariants.{Script as ByWords, World as ByWorld}
use Rattle.homa_plain.specs.declared.fault.WorldFault.TheVariants.{NoSuchHost, Start as CantStart}
use Rattle.homa_plain.specs.Entries.{PlainEntry}
use Rattle.homa_plain.specs.Rules.{Answer}
use Rattle.homa_plain.specs.World.{World, new_world}
use Rattle.homa_plain.specs.Answers.{shown, answering}
use Rattle.node_io.specs.declared.observer.SeenFault.TheVariants.{Stranger, NoMemory as NoRoom}
use Rattle.node_io.specs.Clock.{next_tick, ticks_after}
use Rattle.node_runs.specs.Course.{Report, Datagram, Receive, AreReceived, AreTicks, End, Ended, RefusedAt, StalledAt, Run, most_received}
use Rattle.node_runs.specs.Acts.{Act, opened_acts}
use Rattle.node_runs.specs.Script.{opening}
use Rattle.homa_plain.specs.Script.{most_bytes}
use Rattle.node_runs.specs.Recorder.{Notes}
use Rattle.node_runs.specs.Texts.{entries, sent_by}
use Rattle.node_turns.specs.Told.{listed, Listed, ListedFront, numbers_of, Hears, AreDone, AreBroken, AreHalted}
use Rattle.node_turns.specs.declared.stop.NodeStop.{NodeStop}
use Rattle.node_turns.specs.declared.stop.NodeStop.TheVariants.{Script, Start, Host, Read, Net, Seen, Stalled, NoMemory}

-- the world with which a node begins, in these incarnations, whatever its services will answer
pub record IsFirstIn (s : Settings) (incs : List ℕ) (stands : World → Type 0) : Type 0 where
  pub first : World
  pub stood : stands first
  pub is_first : (answers : List Answer) → answering answers first ≡ new_world s incs 0 0 answers

-- what so many readings of a clock give that holds these ticks
abbrev pub ticks_given : ℕ → List ℕ → List ℕ
ticks_given zero ticks = []
ticks_given (suc n) ticks = next_tick ticks ∷ ticks_given n (ticks_after ticks)

-- these are the ticks that a clock gave, where it can tell
abbrev pub AreGiven : Option (List ℕ) → List ℕ → Type 0
AreGiven None ticks = Unit {0}
AreGiven (Some held) ticks = ticks ≡ ticks_given (length ticks) held

-- what the observer's sink took, the observer's notes, what the net did, took and gave, and the ticks that the clock is to give, where they can tell
pub record Outside : Type 0 where
  pub taken : Option (List ℕ)
  pub notes : Notes
  pub acts : Option (List Act)
  pub sent : Option (List Datagram)
  pub gave : Option (List Receive)
  pub ticks : Option (List ℕ)

abbrev pub outside : Option (List ℕ) → Notes → Option (List Act) → Option (List Datagram) → Option (List Receive) → Option (List ℕ) → Outside
outside taken notes acts sent gave ticks = record { taken = taken; notes = notes; acts = acts; sent = sent; gave = gave; ticks = ticks }

-- a run, of the bytes of a script, what the services answer, the ticks of the clock, and what each receive gives
abbrev pub Whole : Type 0
Whole = List ℕ → List Answer → List ℕ → List Receive → Run

-- a run that begins so
pub record BeginsRun (run : Run) (reports : List Report) (sent : List Datagram) : Type 0 where
  pub more : List Report
  pub later : List Datagram
  pub reports_are : run.reports ≡ reports ++ more
  pub sent_is : run.sent ≡ sent ++ later

module _ (whole : Whole) (told : Notes → Report → List ℕ) (kept : Notes → Report → Notes) (strange : Notes → Report → Bool)
    (may_tell : List PlainEntry → Type 0) where
  -- The run of these bytes came to this end. There are answers, ticks and receives of which it is the run. The answers
  -- are those that its `run` lines show, which the boxes allow. The ticks and receives are those that were given, where
  -- that is told, and it leaves no receive. All of it was told, and nothing was strange; the net did what comes and
  -- goes by it, in order.
  pub record IsServed (bytes : List ℕ) (old new : Outside) (end : End) : Type 0 where
    pub answers : List Answer
    pub ticks : List ℕ
    pub gave : List Receive
    pub ended : (whole bytes answers ticks gave).end ≡ Some end
    pub used : (whole bytes answers ticks gave).left ≡ []
    pub told_all : AreDone told kept strange old.taken old.notes new.taken new.notes old.acts new.acts (Hears most_received) (Hears most_received)
        (whole bytes answers ticks gave).reports
    pub took : new.sent ≡ listed old.sent (whole bytes answers ticks gave).sent
    pub given : new.gave ≡ listed old.gave gave
    pub received : AreReceived gave
    pub ticked : AreGiven old.ticks ticks
    pub rises : AreTicks 0 ticks
    pub shows : shown (entries (whole bytes answers ticks gave).reports) ≡ answers
    pub allowed : may_tell (entries (whole bytes answers ticks gave).reports)

  -- The run stopped. Some of the bytes came. The run begins with `reports` and `sent`, one datagram for each packet
  -- that is told. So does the run of every input that begins with the bytes that came, whatever is answered, read and
  -- received later. Or nothing more is left, and it is the run of what came. `tell` says how much of the reports was
  -- told, and `take` how much was sent.
  pub record IsPart (bytes : List ℕ) (left : Option (List ℕ)) (old new : Outside) (tell : List Report → Type 0) (take : List Datagram → Type 0) : Type 0 where
    pub came : List ℕ
    pub rest : List ℕ
    pub split : bytes ≡ came ++ rest
    pub has_left : left ≡ Some rest
    pub answers : List Answer
    pub ticks : List ℕ
    pub gave : List Receive
    pub reports : List Report
    pub sent : List Datagram
    pub told_part : tell reports
    pub took : take sent
    pub numbers : length sent ≡ length (numbers_of reports)
    pub given : new.gave ≡ listed old.gave gave
    pub received : AreReceived gave
    pub ticked : AreGiven old.ticks ticks
    pub rises : AreTicks 0 ticks
    pub shows : shown (entries reports) ≡ answers
    pub allowed : may_tell (entries reports)
    pub front : ((more : List ℕ) (later : List Answer) (on : List ℕ) (next : List Receive)
        → BeginsRun (whole (came ++ more) (answers ++ later) (ticks ++ on) (gave ++ next)) reports sent)
        ⊎ ((rest ≡ []) × ((later : List Answer) (on : List ℕ) (next : List Receive)
        → BeginsRun (whole came (answers ++ later) (ticks ++ on) (gave ++ next)) reports sent))

  -- The run stopped at a datagram that is strange, which was told. Of each run that begins so the net took the datagrams up to it.
  pub record IsStranger (bytes : List ℕ) (left : Option (List ℕ)) (old new : Outside) : Type 0 where
    pub part : IsPart bytes left old new (AreHalted told kept strange old.taken old.notes new.taken old.acts new.acts (Hears most_received))
        (Listed old.sent new.sent)
    pub took : (run : Run) → BeginsRun run part.reports part.sent → new.sent ≡ listed old.sent (sent_by kept strange old.notes run)

  -- how it stopped: at a line, after its last loop turn, at a datagram that is strange, or in its midst
  abbrev pub IsStopped : List ℕ → Option (List ℕ) → Outside → Outside → NodeStop → Type 0
  IsStopped bytes left old new (Script line fault) = IsServed bytes old new (RefusedAt line (ByWords fault))
  IsStopped bytes left old new (Start line fault) = IsServed bytes old new (RefusedAt line (ByWorld (CantStart fault)))
  IsStopped bytes left old new (Host line) = IsServed bytes old new (RefusedAt line (ByWorld NoSuchHost))
  IsStopped bytes left old new (Stalled turns now) = IsServed bytes old new (StalledAt turns now)
  IsStopped bytes left old new (Seen Stranger) = IsStranger bytes left old new
  IsStopped bytes left old new (Seen NoRoom) = ⊥
  IsStopped bytes left old new stop =
      IsPart bytes left old new (AreBroken told kept strange old.taken old.notes new.taken old.acts new.acts (Hears most_received))
      (ListedFront old.sent new.sent)

  -- what was served
  abbrev pub IsAnswered : List ℕ → Option (List ℕ) → Outside → Outside → Result ℕ NodeStop → Type 0
  IsAnswered bytes left old new (Ok n) = IsServed bytes old new (Ended n) × (left ≡ Some [])
  IsAnswered bytes left old new (Err stop) = IsStopped bytes left old new stop

  -- it broke off: reading or the net failed, or there is no memory
  abbrev pub IsBrokenOff : Result ℕ NodeStop → Type 0
  IsBrokenOff (Err Read) = Unit {0}
  IsBrokenOff (Err Net) = Unit {0}
  IsBrokenOff (Err NoMemory) = Unit {0}
  IsBrokenOff answer = ⊥

  -- The net first binds and routes the hosts that the script names, in order, and then does what comes and goes in the run. Where it hasn't bound
  -- and routed all of them the run broke off before anything was told.
  pub record HasServed (bytes : List ℕ) (left : Option (List ℕ)) (old new : Outside) (answer : Result ℕ NodeStop) : Type 0 where
    pub first : List Act
    pub rest : List Act
    pub connected : opened_acts (opening most_bytes bytes) ≡ first ++ rest
    pub all_first : (rest ≡ []) ⊎ (IsBrokenOff answer × (new.taken ≡ old.taken))
    pub answered : IsAnswered bytes left (record old { acts = listed old.acts first }) new answer
