-- The schedule of a run that is printed, as it is read.
use Rattle.std.proofs.Common.{◌≡◌, ℕ, suc, ◌+◌, ◌^◌, ◌<◌, ◌≤◌, true, None, Ok, List, [], ◌∷◌, ◌++◌, length, refl, sym, ap, ◌∙◌, subst, arith, length-append}
use Rattle.std.specs.Prelude.{codes, nat_le}
use Rattle.std.proofs.lemmas.Bool.Decides.{nat_tests}
use Rattle.std.specs.List.{AllByRecursion, flat_map, join_with_byte}
use Rattle.std.specs.Fmt.{decimal}
use Rattle.std.proofs.lemmas.Fmt.{length-decimal-le}
use Rattle.core.specs.Str.{is_utf8, chars}
use Rattle.core.specs.Fmt.{digits}
use lib.Utf8.{encode}
use Rattle.homa_plain.specs.declared.id.HostId.{HostId}
use Rattle.homa_plain.specs.declared.event.Event.{Event}
use Rattle.homa_plain.specs.declared.event.Event.TheVariants as event
use Rattle.homa_plain.specs.Bytes.{IsBytes}
use Rattle.homa_plain.specs.Entries.{PlainSettings}
use Rattle.homa_plain.specs.Input.{lines_of, ends_in_feed}
use Rattle.homa_plain.specs.Text.{host_word, line_of_words}
use Rattle.homa_plain.specs.Script.{Given, GivenEvent, GivenTicks, Happens, Step, Steps, Opened, counting, most_counted, bytes_operand, bytes_of_word}
use Rattle.homa_plain.specs.Script.{host_operand, phrase_in, phrase_of, steps_from, opening, opening_from, most_bytes, event_words, event_text}
use Rattle.homa_plain.specs.Script.{settings_text}
use Rattle.homa_plain.specs.Rules.{Answer}
use Rattle.homa_plain.specs.Replay.{replay, replay_opened, with_told}
use Rattle.script_lines.proofs.LinesOf.{lines_of-feed}
use Rattle.homa_script.proofs.Printed.{AllWords, IsWord, word-tested, total, line_feed, phrase_words}
use Rattle.homa_script.proofs.Decimals.{word-decimal, number_of-decimal, operand-decimal}
use Rattle.homa_script.proofs.Events.{line_is, words_good}
use Rattle.generated_runs.specs.Generated.{generated, generated_settings, given_text, schedule_text}
use Rattle.generated_laws.specs.Unrefused.{steps_of, IsRunLine, IsReplayed}
use Rattle.generated_laws.proofs.Runs.{generated_sound, unrefused}

-- a line ends in its feed, and stands for what it was printed of
record IsLine (given : Given) : Type 0 where
  ends : ends_in_feed (given_text given) ≡ true
  reads : (limit read : ℕ) → read + length (given_text given) ≤ limit → phrase_in limit true read (given_text given) ≡ Ok (Happens given)

-- ---- a tick, and a delivery

tick_line : IsLine (GivenTicks 1)
tick_line = record {
  ends = refl;
  reads = λ limit read l. phrase_words limit true read (codes "tick" ∷ []) (word-tested (codes "tick") refl, tt) (omega arith) l;
}

no_bytes : IsBytes []
no_bytes i = omega arith

delivery_line : (number : ℕ) → number < 2 ^ 64 → IsLine (GivenEvent (event.Deliver number) [])
unfolding event_text
delivery_line number h = record {
  ends = line_feed (event_words (event.Deliver number) []) (words_good (event.Deliver number) [] h no_bytes);
  reads = λ limit read l. line_is (event.Deliver number) [] limit read h no_bytes (omega arith) l;
}

-- ---- a call

star_is : (n : ℕ) → n ≤ 1000000 → bytes_of_word (codes "*" ++ decimal n) ≡ Ok (counting 0 n)
unfolding bytes_of_word
star_is n l =
    let few : nat_le n most_counted ≡ true = grind (arith, nat_tests) in
    rw (number_of-decimal n (omega (arith, l)), few) refl

star_are : (n : ℕ) (words : List (List ℕ)) → n ≤ 1000000 → bytes_operand ((codes "*" ++ decimal n) ∷ words) ≡ Ok (counting 0 n, words)
star_are n words l = rw (star_is n l) refl

host_is : (host : HostId) (words : List (List ℕ)) → host.0 < 32 → host_operand (host_word host ∷ words) ≡ Ok (host, words)
host_is host words h = rw (operand-decimal 65535 host.0 words (omega (arith, h)) (omega (arith, h))) refl

star_word : (n : ℕ) → n ≤ 1000000 → IsWord (codes "*" ++ decimal n)
star_word n l = record { some = omega arith; seen = (omega arith, omega arith, (word-decimal n (omega (arith, l))).seen) }

short : (n : ℕ) → n ≤ 1000000 → length (decimal n) ≤ 20
short n l = length-decimal-le 20 n (omega arith) (omega (arith, l)) (omega (arith, l))

module _ (client server : HostId) (service n : ℕ) (c : client.0 < 32) (s : server.0 < 32) (v : service < 4) (l : n ≤ 1000000) where
  abbrev call_words : List (List ℕ)
  call_words = codes "call" ∷ host_word client ∷ host_word server ∷ decimal service ∷ (codes "*" ++ decimal n) ∷ []

  call_good : AllWords call_words
  call_good = (
    word-tested (codes "call") refl,
    (word-decimal client.0 (omega (arith, c)), (word-decimal server.0 (omega (arith, s)), (word-decimal service (omega (arith, v)), (star_word n l, tt)))),
  )

  call_short : total call_words ≤ 2100000
  call_short = omega (
    arith,
    short client.0 (omega (arith, c)),
    short server.0 (omega (arith, s)),
    short service (omega (arith, v)),
    short n l,
    length-append (codes "*") (decimal n),
  )

  call_is : phrase_of true call_words ≡ Ok (Happens (GivenEvent (event.Call client server service) (counting 0 n)))
  call_is =
      rw (
        host_is client (host_word server ∷ decimal service ∷ (codes "*" ++ decimal n) ∷ []) c,
        host_is server (decimal service ∷ (codes "*" ++ decimal n) ∷ []) s,
        operand-decimal 255 service ((codes "*" ++ decimal n) ∷ []) (omega (arith, v)) (omega (arith, v)),
        star_are n [] l,
      ) refl

  call_line : (bytes : List ℕ) → length bytes ≡ n → bytes ≡ counting 0 n → IsLine (GivenEvent (event.Call client server service) bytes)
  call_line bytes e is =
      let text : line_of_words call_words ≡ given_text (GivenEvent (event.Call client server service) bytes) =
      ap (λ (m : ℕ). line_of_words (codes "call" ∷ host_word client ∷ host_word server ∷ decimal service ∷ (codes "*" ++ decimal m) ∷ [])) (sym e) in
      record {
        ends = subst (λ (t : List ℕ). ends_in_feed t ≡ true) text (line_feed call_words call_good);
        reads = λ limit read.
            subst (λ (t : List ℕ). read + length t ≤ limit → phrase_in limit true read t ≡ Ok
            (Happens (GivenEvent (event.Call client server service) bytes))) text
            (λ k. phrase_words limit true read call_words call_good call_short k
            ∙ (call_is ∙ ap (λ (bs : List ℕ). Ok (Happens (GivenEvent (event.Call client server service) bs))) (sym is)));
      }

is_line : (packets : ℕ) (given : Given) → packets < 2 ^ 64 → IsRunLine 32 packets given → IsLine given
is_line packets (GivenTicks n) l e = subst (λ (m : ℕ). IsLine (GivenTicks m)) (sym e) tick_line
is_line packets (GivenEvent (event.Deliver number) bytes) l is =
    subst (λ (bs : List ℕ). IsLine (GivenEvent (event.Deliver number) bs)) (sym is.1) (delivery_line number (omega (arith, l, is.0)))
is_line packets (GivenEvent (event.Call client server service) bytes) l is =
    call_line client server service (length bytes) is.0 is.1 is.2 is.3 bytes refl is.4
is_line packets (GivenEvent event.Clock bytes) l is = absurd is
is_line packets (GivenEvent (event.Turn host) bytes) l is = absurd is
is_line packets (GivenEvent (event.Restart host) bytes) l is = absurd is
is_line packets (GivenEvent (event.Inject host) bytes) l is = absurd is
is_line packets (GivenEvent (event.Shift host n) bytes) l is = absurd is

-- ---- the lines

abbrev first : Step → Steps → Steps
first step rest = record { steps = step ∷ rest.steps; refused = rest.refused }

steps-happens : (limit read n : ℕ) (line : List ℕ) (lines : List (List ℕ)) (given : Given) → phrase_in limit true read line ≡ Ok (Happens given)
    → steps_from limit read n (line ∷ lines) ≡ first (record { line = n; given = given }) (steps_from limit (read + length line) (suc n) lines)
unfolding steps_from
steps-happens limit read n line lines given e = rw (e, steps_from) refl

steps-none : (limit read n : ℕ) → steps_from limit read n [] ≡ record { steps = []; refused = None }
unfolding steps_from
steps-none limit read n = refl

steps_read : (packets : ℕ) → packets < 2 ^ 64 → (lines : List Given) (limit read n : ℕ) → AllByRecursion (IsRunLine 32 packets) lines
    → read + length (flat_map given_text lines) ≤ limit
    → steps_from limit read n (lines_of (flat_map given_text lines)) ≡ record { steps = steps_of n lines; refused = None }
steps_read packets few [] limit read n all l = steps-none limit read n
steps_read packets few (given ∷ lines) limit read n all l =
    let text = given_text given in
    let more = flat_map given_text lines in
    let it = is_line packets given few all.0 in
    let long : read + (length text + length more) ≤ limit = omega (arith, l, length-append text more) in
    ap (steps_from limit read n) (lines_of-feed text more it.ends)
    ∙ (steps-happens limit read n text (lines_of more) given (it.reads limit read (omega (arith, long)))
    ∙ ap (first (record { line = n; given = given }))
    (steps_read packets few lines limit (read + length text) (suc n) all.1 (omega (arith, long))))

-- each line has a byte at least
words_some : (words : List (List ℕ)) → 1 ≤ length (line_of_words words)
words_some words = omega (arith, length-append (join_with_byte 32 words) (10 ∷ []))

event_some : (e : Event) (bytes : List ℕ) → 1 ≤ length (event_text e bytes)
unfolding event_text
event_some e bytes = words_some (event_words e bytes)

line_some : (given : Given) → 1 ≤ length (given_text given)
line_some (GivenTicks n) = omega arith
line_some (GivenEvent (event.Call client server service) bytes) =
    words_some (codes "call" ∷ host_word client ∷ host_word server ∷ decimal service ∷ (codes "*" ++ decimal (length bytes)) ∷ [])
line_some (GivenEvent (event.Deliver number) bytes) = event_some (event.Deliver number) bytes
line_some (GivenEvent event.Clock bytes) = event_some event.Clock bytes
line_some (GivenEvent (event.Turn host) bytes) = event_some (event.Turn host) bytes
line_some (GivenEvent (event.Restart host) bytes) = event_some (event.Restart host) bytes
line_some (GivenEvent (event.Inject host) bytes) = event_some (event.Inject host) bytes
line_some (GivenEvent (event.Shift host n) bytes) = event_some (event.Shift host n) bytes

lines_few : (lines : List Given) → length lines ≤ length (flat_map given_text lines)
lines_few [] = omega arith
lines_few (given ∷ lines) =
    omega (arith, line_some given, length-append (given_text given) (flat_map given_text lines), lines_few lines)

-- ---- the schedule

opens : (more : List ℕ) → opening most_bytes (settings_text generated_settings ++ more)
    ≡ Opened generated_settings (steps_from most_bytes (length (settings_text generated_settings)) 15 (lines_of more))
unfolding is_utf8 chars digits encode opening opening_from phrase_in settings_text
opens more = refl

replay_is : (bytes : List ℕ) (answers : List Answer) (boxes : ℕ) → replay bytes answers boxes ≡ replay_opened (opening most_bytes bytes) answers boxes
unfolding replay
replay_is bytes answers boxes = refl

-- what is printed of a run is replayed whole
pub replayed_text : (seed calls boxes : ℕ) (answers : List Answer) → calls ≤ 4294967295
    → length (schedule_text generated_settings (generated seed calls boxes answers)) ≤ most_bytes
    → IsReplayed answers boxes (generated seed calls boxes answers)
replayed_text seed calls boxes answers most l =
    let s = generated_settings in
    let g = generated seed calls boxes answers in
    let sound = generated_sound seed calls boxes answers most in
    let whole = unrefused seed calls boxes answers most in
    let more = flat_map given_text g.lines in
    let split : length (settings_text s) + length more ≤ most_bytes = omega (arith, l, length-append (settings_text s) more) in
    let few : length g.world.packets < 2 ^ 64 = omega (arith, sound.few, lines_few g.lines, split) in
    let steps = steps_read (length g.world.packets) few g.lines most_bytes (length (settings_text s)) 15 sound.lines split in
    record {
      events = whole.events;
      is = replay_is (schedule_text s g) answers boxes
          ∙ (ap (λ o. replay_opened o answers boxes) (opens more ∙ ap (Opened s) steps) ∙ ap (with_told (PlainSettings s ∷ [])) (whole.replays 15));
    }
