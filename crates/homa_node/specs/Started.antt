-- The calls that were read and started, and those that are still to be made.
use Rattle.std.specs.Prelude.{◌≡◌, ℕ, Bool, Option, Some, List, []}
use Rattle.homa_plain.specs.declared.settings.Settings.{Settings}
use Rattle.homa_plain.specs.declared.fault.LineFault.TheVariants.{Script as ByWords, World as ByWorld}
use Rattle.homa_plain.specs.declared.fault.WorldFault.TheVariants.{NoSuchHost, Start as CantStart}
use Rattle.homa_plain.specs.Entries.{PlainEntry}
use Rattle.homa_plain.specs.World.{World}
use Rattle.node_io.specs.declared.observer.SeenFault.TheVariants.{Stranger, NoMemory as NoRoom}
use Rattle.node_runs.specs.Script.{TimedCall, Calls}
use Rattle.node_runs.specs.Course.{Report, Datagram, Receive, End, Stops, RefusedAt}
use Rattle.node_runs.specs.Acts.{Act}
use Rattle.node_runs.specs.Recorder.{Notes}
use Rattle.node_turns.specs.Told.{ListedFront, Hears, AreDone, AreBroken}
use Rattle.node_turns.specs.Acting.{Part, HasActed, IsCut}
use Rattle.node_turns.specs.declared.stop.NodeStop.{NodeStop}
use Rattle.node_turns.specs.declared.stop.NodeStop.TheVariants.{Script, Start, Host, Seen, Stalled}
use Rattle.script_lines.specs.Read.{IsRead}
use Rattle.node_script.specs.Calls.{refused_at}
use Rattle.homa_node.specs.Starting.{with_calls, starting}

-- the course ends here
abbrev pub stopping : Calls → End → Part
stopping held end left node = Stops (record node { receives = left; calls = held }) (Some end)

-- `due` are the calls that were to be made before, where these bytes still come
module _ (s : Settings) (stands : World → Type 0) (before : List PlainEntry → Type 0) (sent0 sent1 : Option (List Datagram))
    (gave0 gave1 : Option (List Receive))
    (left0 left1 : Option (List ℕ)) (due : List ℕ → Calls) where
  -- the first of them were started, and the others are still to be made
  pub record HasStarted (next : World → Type 0) (after : List PlainEntry → Type 0) (tell : List Report → Type 0) (now : List ℕ → Calls) : Type 0 where
    pub done : List TimedCall
    pub acted : (w : World) → stands w → (held : Calls)
        → HasActed (starting s held done) (starting s held []) s w next before after tell sent0 sent1 gave0 gave1
    pub read : (bytes : List ℕ) → left0 ≡ Some bytes → IsRead bytes left1 due (λ more. with_calls done (now more))

  -- one of them ends the course
  pub record HasEnded (tell : List Report → Type 0) (end : End) : Type 0 where
    pub done : List TimedCall
    pub acted : (w : World) → stands w → (held : Calls)
        → HasActed (starting s held done) (stopping held end) s w (λ v. Unit {0}) before (λ told. told ≡ []) tell sent0 sent1 gave0 gave1
    pub read : (bytes : List ℕ) → left0 ≡ Some bytes → (behind : List ℕ → Calls) × IsRead bytes left1 due (λ more. with_calls done (behind more))

  -- the hosts stopped while the first of them were started
  pub record HasCut (tell : List Report → Type 0) : Type 0 where
    pub done : List TimedCall
    pub cut : (w : World) → stands w → (held : Calls) → IsCut (starting s held done) s w before tell (ListedFront sent0 sent1) gave0 gave1
    pub read : (bytes : List ℕ) → left0 ≡ Some bytes → (behind : List ℕ → Calls) × IsRead bytes left1 due (λ more. with_calls done (behind more))

  module _ (told : Notes → Report → List ℕ) (kept : Notes → Report → Notes) (strange : Notes → Report → Bool) (next : World → Type 0)
      (after : List PlainEntry → Type 0)
      (taken0 : Option (List ℕ)) (notes0 : Notes) (taken1 : Option (List ℕ)) (notes1 : Notes) (acts0 acts1 : Option (List Act)) where
    -- why no further call is started: a line is refused, a call can't start, or something failed; nothing is strange
    abbrev pub HasStopped : NodeStop → Type 0
    HasStopped (Script line fault) =
        HasStarted next after (AreDone told kept strange taken0 notes0 taken1 notes1 acts0 acts1 (Hears 64) (Hears 64))
        (λ more. refused_at line (ByWords fault))
    HasStopped (Host line) = HasStarted next after (AreDone told kept strange taken0 notes0 taken1 notes1 acts0 acts1 (Hears 64) (Hears 64))
        (λ more. refused_at line (ByWorld NoSuchHost))
    HasStopped (Start line fault) =
        HasEnded (AreDone told kept strange taken0 notes0 taken1 notes1 acts0 acts1 (Hears 64) (Hears 64)) (RefusedAt line (ByWorld (CantStart fault)))
    HasStopped (Stalled turns now) = ⊥
    HasStopped (Seen Stranger) = ⊥
    HasStopped (Seen NoRoom) = ⊥
    HasStopped stop = HasCut (AreBroken told kept strange taken0 notes0 taken1 acts0 acts1 (Hears 64))
