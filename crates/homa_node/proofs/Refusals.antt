-- The refusals of lines behind `go`.
use Rattle.std.proofs.Common.{◌≡◌, ℕ, ◌+◌, suc, Bool, true, false, Option, None, Some, Result, Ok, Err, List, [], ◌∷◌, length, refl, sym, ap, ◌∙◌, subst}
use Rattle.std.specs.Prelude.{if◌then◌else◌, ◌&&◌, is_some, codes}
use Rattle.std.specs.Str.{bytes_eq}
use Rattle.homa_plain.specs.declared.fault.ScriptFault.{ScriptFault}
use Rattle.homa_plain.specs.declared.fault.ScriptFault.TheVariants.{UnknownWord}
use Rattle.homa_plain.specs.declared.fault.LineFault.{LineFault}
use Rattle.homa_plain.specs.declared.fault.LineFault.TheVariants.{Script as ByWords, World as ByWorld}
use Rattle.homa_plain.specs.declared.fault.WorldFault.{WorldFault}
use Rattle.homa_plain.specs.declared.fault.WorldFault.TheVariants.{NoSuchHost}
use Rattle.node_runs.specs.Script.{Setup, TimedCall, Refusal, Calls, calls_from, timed_of, timed_given, between_hosts, is_local, place_of, words_in, with_call}
use Rattle.node_turns.specs.declared.stop.NodeStop.{NodeStop}
use Rattle.script_lines.specs.Place.{lines_left}
use Rattle.script_lines.specs.Read.{IsRead}
use Rattle.script_lines.proofs.ReadParts.{read_to, read_whole}
use Rattle.node_script.specs.declared.stop.CallStop.{CallStop}
use Rattle.node_script.specs.declared.stop.CallStop.TheVariants.{Read, Fault}
use Rattle.node_script.specs.Standing.{Standing}
use Rattle.node_script.specs.Calls.{calls_left, refused_at, IsNext}
use Rattle.homa_node.specs.declared.ahead.NextCall.{NextCall}
use Rattle.homa_node.specs.declared.ahead.NextCall.TheVariants.{Unread}
use Rattle.homa_node.specs.Coming.{HasLooked, look_stop}

-- by its words, or since a host isn't there
abbrev IsCallFault : LineFault → Type 0
IsCallFault (ByWords fault) = Unit {0}
IsCallFault (ByWorld fault) = fault ≡ NoSuchHost

abbrev IsTimed : Result (Option TimedCall) LineFault → Type 0
IsTimed (Ok timed) = Unit {0}
IsTimed (Err fault) = IsCallFault fault

abbrev IsRefusal : Option Refusal → Type 0
IsRefusal None = Unit {0}
IsRefusal (Some r) = IsCallFault r.fault

by_hosts : (c : TimedCall) (t : Bool) → IsTimed (if t then Ok (Some c) else Err (ByWorld NoSuchHost))
by_hosts c true = tt
by_hosts c false = refl

between_is : (setup : Setup) (r : Result TimedCall ScriptFault) → IsTimed (between_hosts setup r)
between_is setup (Err fault) = tt
between_is setup (Ok c) = by_hosts c (is_local (place_of setup c.client) && is_some (place_of setup c.server))

by_word : (r : Result (Option TimedCall) LineFault) (t : Bool) → IsTimed r → IsTimed (if t then r else Err (ByWords UnknownWord))
by_word r true h = h
by_word r false h = tt

timed_is : (setup : Setup) (least n : ℕ) (r : Result (List (List ℕ)) ScriptFault) → IsTimed (timed_of setup least n r)
timed_is setup least n (Err fault) = tt
timed_is setup least n (Ok []) = tt
timed_is setup least n (Ok (word ∷ words)) = by_word (between_hosts setup (timed_given setup least n words)) (bytes_eq word (codes "at"))
    (between_is setup (timed_given setup least n words))

-- what a line gives, and what stands behind it
abbrev calls_by : ℕ → Calls → (TimedCall → Calls) → Result (Option TimedCall) LineFault → Calls
calls_by n blank behind t = elim t [
  | Err fault ↦ record { calls = []; refused = Some (record { line = n; fault = fault }) }
  | Ok timed ↦ elim timed [
    | None ↦ blank
    | Some c ↦ with_call c (behind c)
  ]
]

by_line : (n : ℕ) (blank : Calls) (behind : TimedCall → Calls) (t : Result (Option TimedCall) LineFault) → IsTimed t → IsRefusal blank.refused
    → ((c : TimedCall) → IsRefusal (behind c).refused)
    → IsRefusal (calls_by n blank behind t).refused
by_line n blank behind (Err fault) h b k = h
by_line n blank behind (Ok None) h b k = b
by_line n blank behind (Ok (Some c)) h b k = k c

calls_refuse : (limit : ℕ) (setup : Setup) (read n least : ℕ) (lines : List (List ℕ)) → IsRefusal (calls_from limit setup read n least lines).refused
unfolding calls_from
calls_refuse limit setup read n least [] = tt
calls_refuse limit setup read n least (line ∷ lines) =
    by_line n (calls_from limit setup (read + length line) (suc n) least lines) (λ c. calls_from limit setup (read + length line) (suc n) c.tick lines)
    (timed_of setup least n (words_in limit read line)) (timed_is setup least n (words_in limit read line))
    (calls_refuse limit setup (read + length line) (suc n) least lines)
    (λ c. calls_refuse limit setup (read + length line) (suc n) c.tick lines)

module _ (setup : Setup) where
  -- a line that is refused by the world names no host
  names_none : (least : ℕ) (r : Standing) (bytes : List ℕ) (left : Option (List ℕ)) (line : ℕ) (fault : WorldFault)
      → IsRead bytes left (calls_left setup least r.place) (λ more. refused_at line (ByWorld fault))
      → IsRead bytes left (calls_left setup least r.place) (λ more. refused_at line (ByWorld NoSuchHost))
  names_none least r bytes left line fault d =
      let is : fault ≡ NoSuchHost = subst (λ (cs : Calls). IsRefusal cs.refused)
      (read_whole bytes left (calls_left setup least r.place) (λ more. refused_at line (ByWorld fault)) d)
      (calls_refuse r.place.limit setup r.place.read (r.place.number + 1) least (lines_left r.place bytes)) in
      read_to bytes left (calls_left setup least r.place) (λ more. refused_at line (ByWorld fault)) (λ more. refused_at line (ByWorld NoSuchHost)) d
      (λ more. ap (λ f. refused_at line (ByWorld f)) is)

  by_stop : (b : NextCall) (r t : Standing) (bytes : List ℕ) (left : Option (List ℕ)) (stop : CallStop)
      → IsNext setup r.least r.place t.place t.operand bytes left (Err stop)
      → HasLooked setup Unread r b t bytes left (Err (look_stop t.place.number stop))
  by_stop b r t bytes left (Read failed) h = h
  by_stop b r t bytes left (Fault (ByWords fault)) h = h
  by_stop b r t bytes left (Fault (ByWorld fault)) h = names_none r.least r bytes left t.place.number fault h

  -- the next line gave no call
  pub looked_err : (a b : NextCall) (r t : Standing) (bytes : List ℕ) (left : Option (List ℕ)) (stop : CallStop) (given : NodeStop) (line : ℕ) → a ≡ Unread
      → line ≡ t.place.number → given ≡ look_stop line stop
      → IsNext setup r.least r.place t.place t.operand bytes left (Err stop) → HasLooked setup a r b t bytes left (Err given)
  looked_err a b r t bytes left stop given line e number is h =
      subst (λ x. HasLooked setup x r b t bytes left (Err given)) (sym e)
      (subst (λ x. HasLooked setup Unread r b t bytes left (Err x)) (sym (is ∙ ap (λ n. look_stop n stop) number)) (by_stop b r t bytes left stop h))
