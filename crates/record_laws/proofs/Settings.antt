-- The lines of settings, as they are read.
use Rattle.std.proofs.Common.{◌≡◌, ◌<◌, ◌≤◌, ℕ, ◌+◌, ◌-◌, ◌^◌, arith, true, false, Ok, List, [], ◌∷◌, length, refl, ◌∙◌}
use Rattle.std.specs.Prelude.{codes}
use Rattle.std.specs.Fmt.{decimal}
use Rattle.std.proofs.lemmas.Fmt.{length-decimal-le}
use Rattle.homa_plain.specs.declared.settings.Name.{Name}
use Rattle.homa_plain.specs.declared.settings.Name.TheVariants.{Hosts, Seg, Window, Unsched, Overcommit, Rate, Resend, Tries, Life, Pages, Calls}
use Rattle.homa_plain.specs.declared.settings.Name.TheVariants.{Served, Rebalance, Skew, Wire}
use Rattle.homa_plain.specs.Input.{ends_in_feed}
use Rattle.homa_plain.specs.Text.{name_word, line_of_words}
use Rattle.homa_plain.specs.Script.{Blank, SettingIs, Go, phrase_in, phrase_of, setting_text, setting_given}
use Rattle.homa_script.proofs.Printed.{AllWords, IsWord, word-tested, line_feed, phrase_words}
use Rattle.homa_script.proofs.Decimals.{word-decimal, operand-decimal}

-- the name of a setting is a word
name_good : (name : Name) → IsWord (name_word name)
name_good Hosts = word-tested (codes "hosts") refl
name_good Seg = word-tested (codes "seg") refl
name_good Window = word-tested (codes "window") refl
name_good Unsched = word-tested (codes "unsched") refl
name_good Overcommit = word-tested (codes "overcommit") refl
name_good Rate = word-tested (codes "rate") refl
name_good Resend = word-tested (codes "resend") refl
name_good Tries = word-tested (codes "tries") refl
name_good Life = word-tested (codes "life") refl
name_good Pages = word-tested (codes "pages") refl
name_good Calls = word-tested (codes "calls") refl
name_good Served = word-tested (codes "served") refl
name_good Rebalance = word-tested (codes "rebalance") refl
name_good Skew = word-tested (codes "skew") refl
name_good Wire = word-tested (codes "wire") refl

name_short : (name : Name) → length (name_word name) ≤ 10
name_short Hosts = omega arith
name_short Seg = omega arith
name_short Window = omega arith
name_short Unsched = omega arith
name_short Overcommit = omega arith
name_short Rate = omega arith
name_short Resend = omega arith
name_short Tries = omega arith
name_short Life = omega arith
name_short Pages = omega arith
name_short Calls = omega arith
name_short Served = omega arith
name_short Rebalance = omega arith
name_short Skew = omega arith
name_short Wire = omega arith

-- it names the setting
name_stands : (name : Name) (words : List (List ℕ)) → phrase_of false (name_word name ∷ words) ≡ setting_given name words
name_stands Hosts words = refl
name_stands Seg words = refl
name_stands Window words = refl
name_stands Unsched words = refl
name_stands Overcommit words = refl
name_stands Rate words = refl
name_stands Resend words = refl
name_stands Tries words = refl
name_stands Life words = refl
name_stands Pages words = refl
name_stands Calls words = refl
name_stands Served words = refl
name_stands Rebalance words = refl
name_stands Skew words = refl
name_stands Wire words = refl

setting_words_good : (name : Name) (n : ℕ) → n < 2 ^ 32 → AllWords (name_word name ∷ decimal n ∷ [])
setting_words_good name n h = (name_good name, (word-decimal n (omega (arith, h)), tt))

-- the line of a setting
pub setting_is : (name : Name) (n limit read : ℕ) → n < 2 ^ 32 → read + length (setting_text (name, n)) ≤ limit
    → phrase_in limit false read (setting_text (name, n)) ≡ Ok (SettingIs name n)
setting_is name n limit read h l =
    phrase_words limit false read (name_word name ∷ decimal n ∷ []) (setting_words_good name n h)
    (omega (arith, name_short name, length-decimal-le 10 n (omega arith) (omega (arith, h)) (omega (arith, h)))) l
    ∙ (name_stands name (decimal n ∷ []) ∙ rw (operand-decimal (2 ^ 32 - 1) n [] (omega (arith, h)) (omega (arith, h))) refl)

pub setting_feed : (name : Name) (n : ℕ) → n < 2 ^ 32 → ends_in_feed (setting_text (name, n)) ≡ true
setting_feed name n h = line_feed (name_word name ∷ decimal n ∷ []) (setting_words_good name n h)

-- the line `go`
pub go_is : (limit read : ℕ) → read + length (codes "go\n") ≤ limit → phrase_in limit false read (codes "go\n") ≡ Ok Go
go_is limit read l = phrase_words limit false read (codes "go" ∷ []) (word-tested (codes "go") refl, tt) (omega arith) l

comment_good : (n : ℕ) → n < 2 ^ 64 → AllWords (codes "#" ∷ codes "ok" ∷ decimal n ∷ [])
comment_good n h = (word-tested (codes "#") refl, (word-tested (codes "ok") refl, (word-decimal n h, tt)))

-- the comment at the end
pub comment_is : (n limit read : ℕ) → n < 2 ^ 64 → read + length (line_of_words (codes "#" ∷ codes "ok" ∷ decimal n ∷ [])) ≤ limit
    → phrase_in limit true read (line_of_words (codes "#" ∷ codes "ok" ∷ decimal n ∷ [])) ≡ Ok Blank
comment_is n limit read h l =
    phrase_words limit true read (codes "#" ∷ codes "ok" ∷ decimal n ∷ []) (comment_good n h)
    (omega (arith, length-decimal-le 20 n (omega arith) (omega (arith, h)) h)) l

pub comment_feed : (n : ℕ) → n < 2 ^ 64 → ends_in_feed (line_of_words (codes "#" ∷ codes "ok" ∷ decimal n ∷ [])) ≡ true
comment_feed n h = line_feed (codes "#" ∷ codes "ok" ∷ decimal n ∷ []) (comment_good n h)
