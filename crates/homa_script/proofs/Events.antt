-- The lines of events that are printed, as they are read.
use Rattle.std.proofs.Common.{◌≡◌, ◌<◌, ◌≤◌, ℕ, ◌+◌, ◌-◌, ◌^◌, arith, true, Ok, List, [], ◌∷◌, length, refl, ap, ◌∙◌}
use Rattle.std.specs.Prelude.{codes}
use Rattle.std.specs.Fmt.{decimal}
use Rattle.std.proofs.lemmas.Fmt.{length-decimal-le}
use Rattle.homa_plain.specs.declared.id.HostId.{HostId}
use Rattle.homa_plain.specs.declared.event.Event.{Event}
use Rattle.homa_plain.specs.declared.event.Event.TheVariants.{Call, Deliver, Clock, Turn, Restart, Inject, Shift}
use Rattle.homa_plain.specs.Bytes.{IsBytes}
use Rattle.homa_plain.specs.Text.{hex_word, host_word}
use Rattle.homa_plain.specs.Script.{GivenEvent, Happens, phrase_in, phrase_of, event_words, event_text, most_beside, host_operand, bytes_operand}
use Rattle.homa_script.specs.Fitting.{IsFitting}
use Rattle.homa_script.proofs.Printed.{AllWords, IsWord, word-tested, total, phrase_words}
use Rattle.homa_script.proofs.Decimals.{word-decimal, operand-decimal}
use Rattle.homa_script.proofs.Hexes.{word-hex, length-hex, bytes-hex}

host_is : (host : HostId) (words : List (List ℕ)) → host.0 < 2 ^ 16 → host_operand (host_word host ∷ words) ≡ Ok (host, words)
host_is host words h = rw (operand-decimal 65535 host.0 words (omega arith) (omega arith)) refl

bytes_are : (bytes : List ℕ) (words : List (List ℕ)) → IsBytes bytes → bytes_operand (hex_word bytes ∷ words) ≡ Ok (bytes, words)
bytes_are bytes words h = rw (bytes-hex bytes h) refl

none : (bytes : List ℕ) → length bytes ≤ 0 → [] ≡ bytes
none [] h = refl
none (b ∷ bytes) h = absurd (omega arith)

-- what the words stand for
words_are : (event : Event) (bytes : List ℕ) → IsFitting event → IsBytes bytes → length bytes ≤ most_beside event
    → phrase_of true (event_words event bytes) ≡ Ok (Happens (GivenEvent event bytes))
words_are (Call client server number) bytes f h l =
    rw (
      host_is client (host_word server ∷ decimal number ∷ hex_word bytes ∷ []) f.0,
      host_is server (decimal number ∷ hex_word bytes ∷ []) f.1,
      operand-decimal 255 number (hex_word bytes ∷ []) (omega (arith, f.2)) (omega (arith, f.2)),
      bytes_are bytes [] h,
    ) refl
words_are (Deliver packet) bytes f h l =
    rw (operand-decimal (2 ^ 64 - 1) packet [] (omega arith) f) (ap (λ (xs : List ℕ). Ok (Happens (GivenEvent (Deliver packet) xs))) (none bytes l))
words_are Clock bytes f h l = ap (λ (xs : List ℕ). Ok (Happens (GivenEvent Clock xs))) (none bytes l)
words_are (Turn host) bytes f h l = rw (host_is host [] f) (ap (λ (xs : List ℕ). Ok (Happens (GivenEvent (Turn host) xs))) (none bytes l))
words_are (Restart host) bytes f h l = rw (host_is host [] f) (ap (λ (xs : List ℕ). Ok (Happens (GivenEvent (Restart host) xs))) (none bytes l))
words_are (Inject host) bytes f h l = rw (host_is host (hex_word bytes ∷ []) f, bytes_are bytes [] h) refl
words_are (Shift host n) bytes f h l =
    rw (host_is host (decimal n ∷ []) f.0, operand-decimal (2 ^ 32 - 1) n [] (omega (arith, f.1)) (omega (arith, f.1)))
    (ap (λ (xs : List ℕ). Ok (Happens (GivenEvent (Shift host n) xs))) (none bytes l))

word_host : (host : HostId) → host.0 < 2 ^ 16 → IsWord (host_word host)
word_host host h = word-decimal host.0 (omega arith)

-- they are words
pub words_good : (event : Event) (bytes : List ℕ) → IsFitting event → IsBytes bytes → AllWords (event_words event bytes)
words_good (Call client server number) bytes f h =
    (word-tested (codes "call") refl, (word_host client f.0, (word_host server f.1, (word-decimal number (omega (arith, f.2)), (word-hex bytes h, tt)))))
words_good (Deliver packet) bytes f h = (word-tested (codes "deliver") refl, (word-decimal packet f, tt))
words_good Clock bytes f h = (word-tested (codes "clock") refl, tt)
words_good (Turn host) bytes f h = (word-tested (codes "turn") refl, (word_host host f, tt))
words_good (Restart host) bytes f h = (word-tested (codes "restart") refl, (word_host host f, tt))
words_good (Inject host) bytes f h = (word-tested (codes "inject") refl, (word_host host f, (word-hex bytes h, tt)))
words_good (Shift host n) bytes f h = (word-tested (codes "shift") refl, (word_host host f.0, (word-decimal n (omega (arith, f.1)), tt)))

length-host : (host : HostId) → host.0 < 2 ^ 16 → length (host_word host) ≤ 5
length-host host h = length-decimal-le 5 host.0 (omega arith) (omega arith) (omega arith)

-- and make no long line
words_short : (event : Event) (bytes : List ℕ) → IsFitting event → length bytes ≤ most_beside event → total (event_words event bytes) ≤ 2100000
words_short (Call client server number) bytes f l =
    omega (
      arith,
      length-host client f.0,
      length-host server f.1,
      length-decimal-le 3 number (omega arith) (omega (arith, f.2)) (omega (arith, f.2)),
      length-hex bytes,
      l,
    )
words_short (Deliver packet) bytes f l = omega (arith, length-decimal-le 20 packet (omega arith) (omega (arith, f)) f)
words_short Clock bytes f l = omega arith
words_short (Turn host) bytes f l = omega (arith, length-host host f)
words_short (Restart host) bytes f l = omega (arith, length-host host f)
words_short (Inject host) bytes f l = omega (arith, length-host host f, length-hex bytes, l)
words_short (Shift host n) bytes f l = omega (arith, length-host host f.0, length-decimal-le 10 n (omega arith) (omega (arith, f.1)) (omega (arith, f.1)))

-- the line of an event stands for it
pub line_is : (event : Event) (bytes : List ℕ) (limit read : ℕ) → IsFitting event → IsBytes bytes → length bytes ≤ most_beside event
    → read + length (event_text event bytes) ≤ limit → phrase_in limit true read (event_text event bytes) ≡ Ok (Happens (GivenEvent event bytes))
unfolding event_text
line_is event bytes limit read f h l k = phrase_words limit true read (event_words event bytes) (words_good event bytes f h) (words_short event bytes f l) k
    ∙ words_are event bytes f h l
