-- How far a node's run has come.
use Rattle.std.specs.Prelude.{◌≡◌, ℕ, Bool, suc, nat_le, if◌then◌else◌, Option, Some, List, ◌++◌, length}
use Rattle.homa_plain.specs.Entries.{PlainEntry}
use Rattle.homa_plain.specs.Rules.{Answer}
use Rattle.homa_plain.specs.World.{World}
use Rattle.homa_plain.specs.Answers.{shown, answering}
use Rattle.node_runs.specs.Script.{Setup, Calls}
use Rattle.node_runs.specs.Course.{Report, Datagram, Receive, AreReceived, AreTicks, Node, Course, GoesOn, Stops, ◌>>=◌, StalledAt, Run, run_of, datagrams}
use Rattle.node_runs.specs.Course.{hosts_act, locals, ends, loop_turns}
use Rattle.node_runs.specs.Recorder.{Notes}
use Rattle.node_runs.specs.Texts.{entries}
use Rattle.node_turns.specs.Told.{listed, numbers_of, Hears, AreDone}
use Rattle.node_turns.specs.Acting.{node_at}
use Rattle.script_lines.specs.Read.{IsRead}
use Rattle.homa_node.specs.Served.{Outside, Whole, AreGiven}

module _ (whole : Whole) (told : Notes → Report → List ℕ) (kept : Notes → Report → Notes) (strange : Notes → Report → Bool)
    (may_tell : List PlainEntry → Type 0) where
  -- Of the bytes that the source had some came. These reports were told, none of which is strange, and these datagrams were sent. `after` says which
  -- entries the boxes allow from then on, and `least` below which no tick may be. Whatever comes (nothing, where the end was seen), and whatever is
  -- answered, read and received later, the run goes on as `rest`.
  pub record IsFar (bytes : List ℕ) (left : Option (List ℕ)) (old new : Outside) (after : List PlainEntry → Type 0) (least : ℕ) (reports : List Report)
      (sent : List Datagram) (rest : Whole) : Type 0 where
    pub ticks : List ℕ
    pub gave : List Receive
    pub told_all : AreDone told kept strange old.taken old.notes new.taken new.notes old.acts new.acts (Hears 64) (Hears 64) reports
    pub took : new.sent ≡ listed old.sent sent
    pub numbers : length sent ≡ length (numbers_of reports)
    pub given : new.gave ≡ listed old.gave gave
    pub received : AreReceived gave
    pub ticked : (on : List ℕ) → AreGiven new.ticks on → AreGiven old.ticks (ticks ++ on)
    pub rises : (on : List ℕ) → AreTicks least on → AreTicks 0 (ticks ++ on)
    pub allowed : (more : List PlainEntry) → after more → may_tell (entries reports ++ more)
    pub read : IsRead {A = List Answer → List ℕ → List Receive → Run} bytes left
        (λ more later on next. whole more (shown (entries reports) ++ later) (ticks ++ on) (gave ++ next)) rest

-- the run goes on with what a node does, from this world and these reports on, with these calls still to be made
abbrev pub going : Setup → World → List Report → (List ℕ → Calls) → (List ℕ → Node → Course) → Whole
going setup w reports calls act more later on next = run_of setup.settings (act on (node_at (answering later w) reports (calls more) next))

-- after n loop turns, of which the last was at this tick, the run has stalled where it may take no more of them
abbrev pub stalls : Setup → ℕ → ℕ → Node → Course
stalls setup n now node = if nat_le setup.turns n then Stops node (Some (StalledAt n now)) else GoesOn node

-- what comes behind n loop turns, of which the last was at this tick
abbrev pub behind_turns : Setup → ℕ → ℕ → List ℕ → Node → Course
behind_turns setup n now on node = stalls setup n now node >>= loop_turns setup (suc n) on

-- what comes in loop turn n, at this tick, when the calls that were due are started
abbrev pub behind_calls : Setup → ℕ → ℕ → List ℕ → Node → Course
behind_calls setup n now on node = (hosts_act setup.settings (locals setup) node >>= ends setup n now) >>= loop_turns setup (suc n) on

module _ (whole : Whole) (told : Notes → Report → List ℕ) (kept : Notes → Report → Notes) (strange : Notes → Report → Bool)
    (may_tell : List PlainEntry → Type 0) where
  -- The run has come to one of the worlds that the hosts may be in, with these calls still to be made where these bytes come, and goes on
  -- with what a node does then.
  pub record IsAt (bytes : List ℕ) (left : Option (List ℕ)) (old new : Outside) (setup : Setup) (stands : World → Type 0) (after : List PlainEntry → Type 0)
      (least : ℕ) (calls : List ℕ → Calls) (act : List ℕ → Node → Course) : Type 0 where
    pub world : World
    pub stood : stands world
    pub reports : List Report
    pub far : IsFar whole told kept strange may_tell bytes left old new after least reports (datagrams setup.settings world)
        (going setup world reports calls act)
