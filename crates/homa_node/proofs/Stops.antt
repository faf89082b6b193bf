-- Why no further call is started.
use Rattle.std.proofs.Common.{refl, ◌≡◌, ◌≤◌, ℕ, Bool, Option, Some, Err, List, [], ◌∷◌}
use Rattle.homa_plain.specs.declared.settings.Settings.{Settings}
use Rattle.homa_plain.specs.declared.fault.LineFault.TheVariants.{World as ByWorld}
use Rattle.homa_plain.specs.declared.fault.WorldFault.TheVariants.{Start as CantStart}
use Rattle.homa_plain.specs.Entries.{PlainEntry}
use Rattle.homa_plain.specs.World.{World}
use Rattle.node_io.specs.declared.observer.SeenFault.TheVariants.{Write, Stranger, NoMemory as NoRoom}
use Rattle.node_runs.specs.Script as script
use Rattle.node_runs.specs.Script.{TimedCall, Calls, with_call}
use Rattle.node_runs.specs.Course.{Report, Datagram, Receive, RefusedAt}
use Rattle.node_runs.specs.Acts.{Act}
use Rattle.node_runs.specs.Recorder.{Notes}
use Rattle.node_turns.specs.Told.{ListedFront, Hears, AreDone, AreBroken}
use Rattle.node_turns.specs.Acting.{HasActed, IsCut, OnStrange}
use Rattle.node_turns.specs.declared.stop.NodeStop.{NodeStop}
use Rattle.node_turns.specs.declared.stop.NodeStop.TheVariants.{Script, Start, Host, Read, Net, Seen, Stalled, NoMemory}
use Rattle.node_turns.proofs.Done.{gone_more, broken_more, broken_none}
use Rattle.node_script.specs.Standing.{Standing}
use Rattle.homa_node.specs.declared.ahead.NextCall.{NextCall}
use Rattle.homa_node.specs.Coming.{calls_ahead, HasLooked, IsLookStop}
use Rattle.homa_node.specs.Starting.{starting, OnStart, OnCut, IsCallStop}
use Rattle.homa_node.specs.Started.{stopping, HasStarted, HasStopped}
use Rattle.homa_node.proofs.Started.{started_looked, started_cut, call_cut, call_ended}

module _ (s : Settings) (stands : World → Type 0) (before : List PlainEntry → Type 0) (sent0 : Option (List Datagram))
    (gave0 : Option (List Receive)) (left0 : Option (List ℕ)) (due : List ℕ → Calls)
    (told : Notes → Report → List ℕ) (kept : Notes → Report → Notes) (strange : Notes → Report → Bool) (taken0 : Option (List ℕ)) (notes0 : Notes)
    (acts0 : Option (List Act)) (sent1 : Option (List Datagram)) (gave1 : Option (List Receive)) (left1 : Option (List ℕ)) (next1 : World → Type 0)
    (after1 : List PlainEntry → Type 0) (taken1 : Option (List ℕ)) (notes1 : Notes) (acts1 : Option (List Act)) where
  -- the next line gave no call
  pub look_stopped : (setup : script.Setup) (a b : NextCall) (r t : Standing) (left2 : Option (List ℕ)) (stop : NodeStop)
      → HasStarted s stands before sent0 sent1 gave0 gave1 left0 left1 due next1 after1
      (AreDone told kept strange taken0 notes0 taken1 notes1 acts0 acts1 (Hears 64) (Hears 64))
      (calls_ahead setup a r)
      → IsLookStop stop → ((bytes : List ℕ) → left1 ≡ Some bytes → HasLooked setup a r b t bytes left2 (Err stop)) → after1 []
      → HasStopped s stands before sent0 sent1 gave0 gave1 left0 left2 due told kept strange next1 after1 taken0 notes0 taken1 notes1 acts0 acts1 stop
  look_stopped setup a b r t left2 (Script line fault) h is looked none =
      started_looked s stands before sent0 gave0 left0 due sent1 gave1 left1 next1 after1
      (AreDone told kept strange taken0 notes0 taken1 notes1 acts0 acts1 (Hears 64) (Hears 64)) left2
      (calls_ahead setup a r) _ h looked
  look_stopped setup a b r t left2 (Host line) h is looked none =
      started_looked s stands before sent0 gave0 left0 due sent1 gave1 left1 next1 after1
      (AreDone told kept strange taken0 notes0 taken1 notes1 acts0 acts1 (Hears 64) (Hears 64)) left2
      (calls_ahead setup a r) _ h looked
  look_stopped setup a b r t left2 Read h is looked none =
      started_cut s stands before sent0 gave0 left0 due sent1 gave1 left1 next1 after1
      (AreDone told kept strange taken0 notes0 taken1 notes1 acts0 acts1 (Hears 64) (Hears 64)) left2
      (AreBroken told kept strange taken1 notes1 taken1 acts1 acts1 (Hears 64))
      (AreBroken told kept strange taken0 notes0 taken1 acts0 acts1 (Hears 64)) (calls_ahead setup a r)
      h looked (broken_none told kept strange taken1 notes1 acts1 acts1 64 refl) none
      (λ x y p q. broken_more told kept strange taken0 taken1 taken1 notes0 notes1 acts0 acts1 acts1 (Hears 64) (Hears 64) x y p q)
  look_stopped setup a b r t left2 (Start line fault) h is looked none = absurd is
  look_stopped setup a b r t left2 Net h is looked none = absurd is
  look_stopped setup a b r t left2 (Seen fault) h is looked none = absurd is
  look_stopped setup a b r t left2 (Stalled turns now) h is looked none = absurd is
  look_stopped setup a b r t left2 NoMemory h is looked none = absurd is

  module _ (c : TimedCall) (now : List ℕ → Calls)
      (h : HasStarted s stands before sent0 sent1 gave0 gave1 left0 left1 due next1 after1
      (AreDone told kept strange taken0 notes0 taken1 notes1 acts0 acts1 (Hears 64) (Hears 64))
      (λ more. with_call c (now more)))
      (t : Settings) (e : t ≡ s) (comes : (w : World) → next1 w → c.tick ≤ w.clock) (sent2 : Option (List Datagram))
      (gave2 : Option (List Receive)) (taken2 : Option (List ℕ)) (notes2 : Notes) (acts2 : Option (List Act)) where
    -- the hosts stopped at the next call
    call_front : ((w : World) → next1 w → c.tick ≤ w.clock → (held : Calls)
        → IsCut (starting t held (c ∷ [])) t w after1 (AreBroken told kept strange taken1 notes1 taken2 acts1 acts2 (Hears 64))
        (ListedFront sent1 sent2) gave1 gave2)
        → HasStopped s stands before sent0 sent2 gave0 gave2 left0 left1 due told kept strange next1 after1 taken0 notes0 taken2 notes2 acts0 acts2 NoMemory
    call_front f =
        call_cut s stands before sent0 gave0 left0 due sent1 gave1 left1 next1 after1
        (AreDone told kept strange taken0 notes0 taken1 notes1 acts0 acts1 (Hears 64) (Hears 64)) c now h t e sent2 gave2
        (AreBroken told kept strange taken1 notes1 taken2 acts1 acts2 (Hears 64))
        (AreBroken told kept strange taken0 notes0 taken2 acts0 acts2 (Hears 64)) (λ w st held. f w st (comes w st) held)
        (λ x y p q. broken_more told kept strange taken0 taken1 taken2 notes0 notes1 acts0 acts1 acts2 (Hears 64) (Hears 64) x y p q)

    -- it wasn't started
    pub call_stopped : (next2 : World → Type 0) (after2 : List PlainEntry → Type 0) (stop : NodeStop) → IsCallStop stop
        → OnCut (Err stop) ((w : World) → next1 w → c.tick ≤ w.clock → (held : Calls)
        → IsCut (starting t held (c ∷ [])) t w after1 (AreBroken told kept strange taken1 notes1 taken2 acts1 acts2 (Hears 64))
        (ListedFront sent1 sent2) gave1 gave2)
        → OnStart (Err stop) (λ line fault. (w : World) → next1 w → c.tick ≤ w.clock → (held : Calls)
        → HasActed (starting t held (c ∷ [])) (stopping held (RefusedAt line (ByWorld (CantStart fault)))) t w (λ v. Unit {0}) after1 (λ xs. xs ≡ [])
        (AreDone told kept strange taken1 notes1 taken2 notes2 acts1 acts2 (Hears 64) (Hears 64)) sent1 sent2 gave1 gave2)
        → HasStopped s stands before sent0 sent2 gave0 gave2 left0 left1 due told kept strange next2 after2 taken0 notes0 taken2 notes2 acts0 acts2 stop
    call_stopped next2 after2 (Start line fault) is cut ended =
        call_ended s stands before sent0 gave0 left0 due sent1 gave1 left1 next1 after1
        (AreDone told kept strange taken0 notes0 taken1 notes1 acts0 acts1 (Hears 64) (Hears 64)) c now h t e sent2 gave2
        (AreDone told kept strange taken1 notes1 taken2 notes2 acts1 acts2 (Hears 64) (Hears 64))
        (AreDone told kept strange taken0 notes0 taken2 notes2 acts0 acts2 (Hears 64) (Hears 64))
        (RefusedAt line (ByWorld (CantStart fault))) (λ w st held. ended w st (comes w st) held)
        (λ x y p q. gone_more told kept strange taken0 taken1 taken2 notes0 notes1 notes2 acts0 acts1 acts2 (Hears 64) (Hears 64) (Hears 64) x y p q)
    call_stopped next2 after2 (Seen Stranger) is cut ended = absurd is
    call_stopped next2 after2 (Seen (Write failed)) is cut ended = call_front cut
    call_stopped next2 after2 (Seen NoRoom) is cut ended = absurd is
    call_stopped next2 after2 Net is cut ended = call_front cut
    call_stopped next2 after2 NoMemory is cut ended = call_front cut
    call_stopped next2 after2 (Script line fault) is cut ended = absurd is
    call_stopped next2 after2 (Host line) is cut ended = absurd is
    call_stopped next2 after2 Read is cut ended = absurd is
    call_stopped next2 after2 (Stalled turns now) is cut ended = absurd is

module _ (s : Settings) (stands : World → Type 0) (before : List PlainEntry → Type 0) (sent0 sent1 : Option (List Datagram))
    (gave0 gave1 : Option (List Receive)) (left0 left1 : Option (List ℕ)) (due : List ℕ → Calls)
    (told : Notes → Report → List ℕ) (kept : Notes → Report → Notes) (strange : Notes → Report → Bool) (next : World → Type 0)
    (after : List PlainEntry → Type 0) (taken0 : Option (List ℕ)) (notes0 : Notes) (taken1 : Option (List ℕ)) (notes1 : Notes)
    (acts0 acts1 : Option (List Act)) where
  -- nothing is strange while calls are started
  pub stopped_never : (R X : Type 0) (stop : NodeStop)
      → HasStopped s stands before sent0 sent1 gave0 gave1 left0 left1 due told kept strange next after taken0 notes0 taken1 notes1 acts0 acts1 stop
      → OnStrange {A = R} (Err stop) X
  stopped_never R X (Seen Stranger) h = absurd h
  stopped_never R X (Seen (Write failed)) h = tt
  stopped_never R X (Seen NoRoom) h = absurd h
  stopped_never R X (Script line fault) h = tt
  stopped_never R X (Start line fault) h = tt
  stopped_never R X (Host line) h = tt
  stopped_never R X (Stalled turns now) h = tt
  stopped_never R X Read h = tt
  stopped_never R X Net h = tt
  stopped_never R X NoMemory h = tt
