-- What the hosts of a node do, as parts of the plain course, whatever is answered, received and called later.
use Rattle.std.specs.Prelude.{◌≡◌, ℕ, Option, Result, Err, List, [], ◌∷◌, ◌++◌, map, length, if◌then◌else◌, ◌==◌, ◌||◌, nat_lt}
use Rattle.homa_plain.specs.declared.settings.Settings.{Settings}
use Rattle.homa_plain.specs.Entries.{PlainEntry, PlainClock, PlainRecv}
use Rattle.homa_plain.specs.Rules.{Answer}
use Rattle.homa_plain.specs.declared.event.Event.{Event}
use Rattle.homa_plain.specs.declared.fault.WorldFault.{WorldFault}
use Rattle.homa_plain.specs.World.{World, After, Outcome, Refused, Done, outcome}
use Rattle.homa_plain.specs.Answers.{shown, answering}
use Rattle.host_view.specs.declared.outbox.SentFrame.{SentFrame}
use Rattle.node_io.specs.declared.observer.SeenFault.TheVariants.{Stranger}
use Rattle.node_io.specs.declared.observer.SeenFault.TheVariants as seen
use Rattle.node_runs.specs.Script.{Calls}
use Rattle.node_runs.specs.Course.{Report, Tells, Datagram, Receive, AreReceived, Node, Course, GoesOn, Stops, ◌>>=◌, datagrams}
use Rattle.node_runs.specs.Acts.{Act, Sent}
use Rattle.node_runs.specs.Texts.{entries}
use Rattle.node_turns.specs.declared.stop.NodeStop.{NodeStop}
use Rattle.node_turns.specs.declared.stop.NodeStop.TheVariants.{Net, Seen, NoMemory}
use Rattle.node_turns.specs.Told.{listed, numbers_of}

-- a frame as a datagram
abbrev pub frame_datagram : SentFrame → Datagram
frame_datagram f = record { from = f.from; to = f.to; bytes = f.frame }

-- its going
abbrev pub frame_act : SentFrame → Act
frame_act f = Sent (frame_datagram f)

-- a node in this world
abbrev pub node_at : World → List Report → Calls → List Receive → Node
node_at w reports calls receives = record { world = w; reports = reports; calls = calls; receives = receives }

-- the node of a course
abbrev pub node_of : Course → Node
node_of (GoesOn node) = node
node_of (Stops node end) = node

-- the plain world refuses an event, whatever its services answer
abbrev pub IsRefused : Settings → World → Event → List ℕ → WorldFault → Type 0
IsRefused s w e bytes fault = (later : List Answer) → outcome s (answering later w) e bytes ≡ Refused fault

-- A step of a host was done, which the plain world does so, and `told` is told behind what the event itself tells. Its frames are the
-- datagrams of the packets that it sent. `stands` says which plain worlds it may be afterwards; `before` and `after`, which entries
-- the boxes allow.
pub record IsStep (act : World → Outcome) (first : List PlainEntry) (s : Settings) (w : World) (stands : World → Type 0) (told : List PlainEntry)
    (frames : List SentFrame) (before after : List PlainEntry → Type 0) : Type 0 where
  pub next : World
  pub stood : stands next
  pub done : (later : List Answer) → act (answering (shown told ++ later) w) ≡ Done (record { world = answering later next; told = first ++ told })
  pub sent : datagrams s next ≡ datagrams s w ++ map frame_datagram frames
  pub numbers : length frames ≡ length (numbers_of (map Tells told))
  pub allowed : (more : List PlainEntry) → after more → before ((first ++ told) ++ more)

-- an event in which a service is asked, with this answer
pub record Asks (act : World → Outcome) (w : World) (a : Answer) : Type 0 where
  pub after : After
  pub is : act (answering (a ∷ []) w) ≡ Done after
  pub shows : shown after.told ≡ a ∷ []

-- what is told of the event itself, whatever is answered
pub record IsBegun (act : World → Outcome) (first : List PlainEntry) (s : Settings) (w : World) (later : List Answer) : Type 0 where
  pub next : World
  pub more : List PlainEntry
  pub sent : List Datagram
  pub done : act (answering later w) ≡ Done (record { world = next; told = first ++ more })
  pub grown : datagrams s next ≡ datagrams s w ++ sent

-- A part of a course: what is still to be received, and the node, whose own field for that is out of date.
abbrev pub Part : Type 0
Part = List Receive → Node → Course

-- The hosts came from `act` to `rest` of a course: `reports` were told, `sent` was sent, and `gave` was received, whatever was told
-- before and whatever is answered, received and called later.
pub record HasActed (act rest : Part) (s : Settings) (w : World) (stands : World → Type 0) (before after : List PlainEntry → Type 0)
    (tell : List Report → Type 0)
    (sent0 sent1 : Option (List Datagram)) (gave0 gave1 : Option (List Receive)) : Type 0 where
  pub next : World
  pub stood : stands next
  pub reports : List Report
  pub sent : List Datagram
  pub gave : List Receive
  pub told : tell reports
  pub took : sent1 ≡ listed sent0 sent
  pub given : gave1 ≡ listed gave0 gave
  pub received : AreReceived gave
  pub grown : datagrams s next ≡ datagrams s w ++ sent
  pub numbers : length sent ≡ length (numbers_of reports)
  pub allowed : (more : List PlainEntry) → after more → before (entries reports ++ more)
  pub same : (first : List Report) (later : List Answer) (calls : Calls) (left held : List Receive)
      → act (gave ++ left) (node_at (answering (shown (entries reports) ++ later) w) first calls held)
      ≡ rest left (node_at (answering later next) (first ++ reports) calls held)

-- a course that begins with these reports and datagrams
pub record Begins (s : Settings) (c : Course) (reports : List Report) (sent : List Datagram) : Type 0 where
  pub more : List Report
  pub later : List Datagram
  pub told : (node_of c).reports ≡ reports ++ more
  pub grown : datagrams s (node_of c).world ≡ sent ++ later

-- The hosts stopped in this part of a course. What it tells first is `reports`, and what it sends first is `sent`, one datagram for each
-- packet that is told, whatever is answered, received and called later. `tell` says how much of the reports was told, and `take` how much was sent.
pub record IsCut (act : Part) (s : Settings) (w : World) (before : List PlainEntry → Type 0) (tell : List Report → Type 0)
    (take : List Datagram → Type 0) (gave0 gave1 : Option (List Receive)) : Type 0 where
  pub reports : List Report
  pub sent : List Datagram
  pub gave : List Receive
  pub told : tell reports
  pub took : take sent
  pub numbers : length sent ≡ length (numbers_of reports)
  pub given : gave1 ≡ listed gave0 gave
  pub received : AreReceived gave
  pub allowed : before (entries reports)
  pub same : (first : List Report) (later : List Answer) (calls : Calls) (left held : List Receive)
      → Begins s (act (gave ++ left) (node_at (answering (shown (entries reports) ++ later) w) first calls held)) (first ++ reports) (datagrams s w ++ sent)

-- a fact where a report was strange
abbrev pub OnStrange : {A : Type 0} → Result A NodeStop → Type 0 → Type 0
OnStrange (Err (Seen Stranger)) fact = fact
OnStrange answer fact = Unit {0}

-- the hosts stopped in the midst of what they do: a send or a receive failed, a report wasn't taken, or there is no memory
abbrev pub IsMidst : NodeStop → Type 0
IsMidst Net = Unit {0}
IsMidst (Seen Stranger) = ⊥
IsMidst (Seen seen.NoMemory) = ⊥
IsMidst (Seen fault) = Unit {0}
IsMidst NoMemory = Unit {0}
IsMidst stop = ⊥

-- the same, or a datagram that came was strange
abbrev pub IsHeardStop : NodeStop → Type 0
IsHeardStop (Seen Stranger) = Unit {0}
IsHeardStop stop = IsMidst stop

-- an entry of a host's own step, and not that a datagram comes
abbrev pub IsOwn : PlainEntry → Type 0
IsOwn (PlainRecv host from bytes) = ⊥
IsOwn entry = Unit {0}

-- what is received from now on is left to the node
abbrev pub with_left : (Node → Course) → Part
with_left act left node = act (record node { receives = left })

-- nothing more is to be done
abbrev pub goes_on : Part
goes_on left node = GoesOn (record node { receives = left })

-- a part before another one
abbrev pub followed_by : Part → (Node → Course) → Part
followed_by part act left node = part left node >>= act

-- what is told of the clock in loop turn n
abbrev pub clock_reports : ℕ → ℕ → World → List Report
clock_reports n now w = if n == 1 || nat_lt w.clock now then Tells (PlainClock now) ∷ [] else []
