-- The counts of a trace are those of its summary.
use Rattle.std.proofs.Common.{◌≡◌, ℕ, ◌+◌, Bool, true, false, List, [], ◌∷◌, ◌++◌, length, filter, map, refl, sym, ap, ◌∙◌, append_assoc, length-append}
use Rattle.std.proofs.Common.{add-zero}
use Rattle.std.specs.Prelude.{codes}
use Rattle.std.specs.List.{flat_map}
use Rattle.std.proofs.lemmas.List.{append-nil}
use Rattle.std.proofs.lemmas.List.Elements.{filter-append}
use Rattle.homa_plain.specs.declared.packet.Body.TheVariants as body
use Rattle.homa_plain.specs.declared.entry.Why.TheVariants.{Timeout, Forgotten}
use Rattle.homa_plain.specs.Kinds.{kinds, kind_name}
use Rattle.homa_plain.specs.Entries.{PlainEntry, PlainSettings, PlainCall, PlainDeliver, PlainClock, PlainRestart, PlainInject, PlainShift, PlainJunk}
use Rattle.homa_plain.specs.Entries.{PlainStale, PlainSend, PlainRun, PlainDone, PlainFail, PlainDrop, PlainGaps, PlainBury, PlainFree, PlainFullRows}
use Rattle.homa_plain.specs.Entries.{PlainFullPages, PlainBalance, PlainRecv, PlainFinished, PlainRefused, PlainStalled}
use Rattle.generated_runs.specs.Generated.{count_of, is_run, is_done, is_timeout, is_forgotten, is_deliver, is_clock, is_call, is_kind, summary_line}
use Rattle.generated_runs.specs.Generated.{summary_text}
use Rattle.homa_world.specs.Kinds.{kind_of}
use Rattle.homa_generate.specs.Counts.{one_more, counted, no_counts, counts_text}

-- one more where a test holds
abbrev more_if : Bool → ℕ → ℕ
more_if true n = n + 1
more_if false n = n

one_test : (is : PlainEntry → Bool) (e : PlainEntry) (n : ℕ) (test : Bool) → is e ≡ test → n + length (filter is (e ∷ [])) ≡ more_if test n
one_test is e n true h = rw h refl
one_test is e n false h = rw h (add-zero n)

count_more : (is : PlainEntry → Bool) (a : List PlainEntry) (e : PlainEntry) → count_of is (a ++ e ∷ []) ≡ more_if (is e) (count_of is a)
count_more is a e = ap length (filter-append is a (e ∷ [])) ∙ length-append (filter is a) (filter is (e ∷ [])) ∙ one_test is e (count_of is a) (is e) refl

-- the numbers of a trace
abbrev numbers : List PlainEntry → List ℕ
numbers told =
    count_of is_call told ∷ count_of is_run told ∷ count_of is_done told ∷ count_of is_timeout told ∷ count_of is_forgotten told ∷
    count_of is_deliver told ∷ count_of is_clock told ∷ map (λ kind. count_of (is_kind kind) told) kinds

abbrev numbers_with : List PlainEntry → PlainEntry → List ℕ
numbers_with told e =
    more_if (is_call e) (count_of is_call told) ∷ more_if (is_run e) (count_of is_run told) ∷ more_if (is_done e) (count_of is_done told) ∷ more_if
    (is_timeout e) (count_of is_timeout told) ∷ more_if (is_forgotten e) (count_of is_forgotten told) ∷ more_if (is_deliver e)
    (count_of is_deliver told) ∷ more_if (is_clock e) (count_of is_clock told) ∷
    map (λ kind. more_if (is_kind kind e) (count_of (is_kind kind) told)) kinds

numbers_more : (a : List PlainEntry) (e : PlainEntry) → numbers (a ++ e ∷ []) ≡ numbers_with a e
numbers_more a e = simp count_more refl

placed : (a : List PlainEntry) (e : PlainEntry) → one_more (numbers a) (kind_of e) ≡ numbers_with a e
placed a (PlainCall id server service bytes) = refl
placed a (PlainRun host id service request response hold) = refl
placed a (PlainDone id bytes) = refl
placed a (PlainFail id Timeout) = refl
placed a (PlainFail id Forgotten) = refl
placed a (PlainDeliver packet) = refl
placed a (PlainClock tick) = refl
placed a (PlainSend number from to inc role id level (body.Data size offset version service ack) payload) = refl
placed a (PlainSend number from to inc role id level (body.Grant offset prio) payload) = refl
placed a (PlainSend number from to inc role id level (body.Resend first end prio) payload) = refl
placed a (PlainSend number from to inc role id level body.Busy payload) = refl
placed a (PlainSend number from to inc role id level (body.Cutoffs c) payload) = refl
placed a (PlainSend number from to inc role id level (body.Unknown reason) payload) = refl
placed a (PlainSend number from to inc role id level body.NeedAck payload) = refl
placed a (PlainSend number from to inc role id level (body.Ack more) payload) = refl
placed a (PlainSettings settings) = refl
placed a (PlainRestart host inc) = refl
placed a (PlainInject host bytes) = refl
placed a (PlainShift host n) = refl
placed a (PlainJunk host) = refl
placed a (PlainStale host at now) = refl
placed a (PlainDrop host id) = refl
placed a (PlainGaps host id) = refl
placed a (PlainBury host id until) = refl
placed a (PlainFree host id) = refl
placed a (PlainFullRows host id rows limit) = refl
placed a (PlainFullPages host id need free) = refl
placed a (PlainBalance host cutoffs) = refl
placed a (PlainRecv host from bytes) = refl
placed a (PlainFinished n) = refl
placed a (PlainRefused line fault) = refl
placed a (PlainStalled turns now) = refl

counted_from : (a b : List PlainEntry) → counted (numbers a) b ≡ numbers (a ++ b)
counted_from a [] = ap numbers (sym (append-nil a))
counted_from a (e ∷ b) =
    ap (λ (l : List ℕ). counted l b) (placed a e ∙ sym (numbers_more a e)) ∙ counted_from (a ++ e ∷ []) b ∙ ap numbers (append_assoc a (e ∷ []) b)

-- eight texts one behind the other
eight : (a b c d e f g h : List ℕ) → a ++ (b ++ (c ++ (d ++ (e ++ (f ++ (g ++ h)))))) ≡ a ++ b ++ c ++ d ++ e ++ f ++ g ++ h
eight a b c d e f g h = simp append_assoc

line_of : List ℕ → (PlainEntry → Bool) → List PlainEntry → List ℕ
line_of name is told = summary_line name (count_of is told)

text_of_numbers : (told : List PlainEntry) → counts_text (numbers told) ≡ summary_text told
unfolding line_of
text_of_numbers told =
    eight (line_of (codes "calls") is_call told) (line_of (codes "runs") is_run told) (line_of (codes "done") is_done told)
    (line_of (codes "timeout") is_timeout told) (line_of (codes "forgotten") is_forgotten told) (line_of (codes "deliver") is_deliver told)
    (line_of (codes "clock") is_clock told) (flat_map (λ kind. line_of (kind_name kind) (is_kind kind) told) kinds)

-- what was counted of a trace is its summary
pub summary_counted : (told : List PlainEntry) → counts_text (counted no_counts told) ≡ summary_text told
summary_counted told = ap counts_text (counted_from [] told) ∙ text_of_numbers told
