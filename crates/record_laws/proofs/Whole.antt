-- A schedule that is printed, as it is read.
use Rattle.std.proofs.Common.{◌≡◌, ◌<◌, ◌≤◌, ℕ, ◌+◌, ◌^◌, zero, suc, arith, Bool, true, false, Option, None, Result, Ok, Err, List, [], ◌∷◌, ◌++◌}
use Rattle.std.proofs.Common.{length, take, map, refl, sym, ap, ◌∙◌, subst, append_assoc, append-nil, length-append}
use Rattle.std.specs.Prelude.{codes, ◌==◌, if◌then◌else◌}
use Rattle.std.specs.List.{flat_map, zip, AllByRecursion}
use Rattle.std.proofs.lemmas.Bool.Decides.{nat_tests}
use Rattle.homa_plain.specs.declared.settings.Settings.{Settings}
use Rattle.homa_plain.specs.declared.settings.SettingFault.{SettingFault}
use Rattle.homa_plain.specs.declared.settings.Name.{Name}
use Rattle.homa_plain.specs.declared.fault.ScriptFault.TheVariants.{Setting}
use Rattle.homa_plain.specs.Settings.{IsValid, usual, verdict}
use Rattle.homa_plain.proofs.SettingsLemmas.{ok_is_valid}
use Rattle.homa_plain.specs.Input.{lines_of}
use Rattle.homa_plain.specs.Text.{settings_numbers, told_numbers}
use Rattle.homa_plain.specs.Script.{Given, Blank, SettingIs, Go, Happens, Step, Steps, Refusal, steps_from, Opening, Opened, Unopened, opened_by}
use Rattle.homa_plain.specs.Script.{opening, opening_from, most_bytes, names, phrase_in, setting_text, settings_text, event_text, with_setting}
use Rattle.homa_plain.specs.Replay.{Happening}
use Rattle.script_lines.proofs.LinesOf.{lines_of-feed}
use Rattle.homa_script.proofs.Events.{line_is}
use Rattle.record_laws.specs.Printed.{IsPrinted, texts, comment_text, as_given, SchedulesRead}
use Rattle.record_laws.proofs.Events.{event_feed}
use Rattle.record_laws.proofs.Settings.{setting_is, setting_feed, go_is, comment_is, comment_feed}

-- ---- behind `go`

abbrev pub first : Step → Steps → Steps
first step rest = record { steps = step ∷ rest.steps; refused = rest.refused }

steps-happens : (limit read n : ℕ) (line : List ℕ) (lines : List (List ℕ)) (given : Given) → phrase_in limit true read line ≡ Ok (Happens given)
    → steps_from limit read n (line ∷ lines) ≡ first (record { line = n; given = given }) (steps_from limit (read + length line) (suc n) lines)
unfolding steps_from
steps-happens limit read n line lines given e = rw (e, steps_from) refl

steps-blank : (limit read n : ℕ) (line : List ℕ) (lines : List (List ℕ)) → phrase_in limit true read line ≡ Ok Blank
    → steps_from limit read n (line ∷ lines) ≡ steps_from limit (read + length line) (suc n) lines
unfolding steps_from
steps-blank limit read n line lines e = rw (e, steps_from) refl

steps-none : (limit read n : ℕ) → steps_from limit read n [] ≡ record { steps = []; refused = None }
unfolding steps_from
steps-none limit read n = refl

-- these steps are given by these events, and nothing is refused
pub record AreSteps (hs : List Happening) (found : Steps) : Type 0 where
  pub refused : found.refused ≡ None
  pub given : map (λ (st : Step). st.given) found.steps ≡ map as_given hs

-- the events and the comment
pub events_read : (hs : List Happening) (turns limit read n : ℕ) → AllByRecursion IsPrinted hs → turns < 2 ^ 64
    → read + length (texts hs ++ comment_text turns) ≤ limit → AreSteps hs (steps_from limit read n (lines_of (texts hs ++ comment_text turns)))
events_read [] turns limit read n p t l =
    let text = comment_text turns in
    let lines : lines_of text ≡ text ∷ [] = ap lines_of (sym (append-nil text)) ∙ lines_of-feed text [] (comment_feed turns t) in
    let is : steps_from limit read n (lines_of text) ≡ record { steps = []; refused = None } =
    ap (steps_from limit read n) lines ∙ (steps-blank limit read n text [] (comment_is turns limit read t l) ∙ steps-none limit (read + length text) (suc n)) in
    subst (AreSteps []) (sym is) (record { refused = refl; given = refl })
events_read (h ∷ hs) turns limit read n p t l =
    let line = event_text h.event h.bytes in
    let more = texts hs ++ comment_text turns in
    let split : texts (h ∷ hs) ++ comment_text turns ≡ line ++ more = append_assoc line (texts hs) (comment_text turns) in
    let long : read + (length line + length more) ≤ limit = omega (arith, l, ap length split, length-append line more) in
    let lines : lines_of (texts (h ∷ hs) ++ comment_text turns) ≡ line ∷ lines_of more =
    ap lines_of split ∙ lines_of-feed line more (event_feed h.event h.bytes p.0.fitting p.0.bytes) in
    let is : steps_from limit read n (lines_of (texts (h ∷ hs) ++ comment_text turns)) ≡ first (record { line = n; given = as_given h })
    (steps_from limit (read + length line) (suc n) (lines_of more)) =
    ap (steps_from limit read n) lines ∙ steps-happens limit read n line (lines_of more) (as_given h)
    (line_is h.event h.bytes limit read p.0.fitting p.0.bytes p.0.few (omega (arith, long))) in
    let rest = events_read hs turns limit (read + length line) (suc n) p.1 t (omega (arith, long)) in
    subst (AreSteps (h ∷ hs)) (sym is) (record { refused = rest.refused; given = ap (λ (gs : List Given). as_given h ∷ gs) rest.given })

-- ---- up to `go`

opening-setting : (limit read n : ℕ) (s : Settings) (line : List ℕ) (lines : List (List ℕ)) (name : Name) (m : ℕ)
    → phrase_in limit false read line ≡ Ok (SettingIs name m) → opening_from limit read n s (line ∷ lines) ≡ opening_from limit (read + length line)
    (suc n) (with_setting s name m) lines
unfolding opening_from
opening-setting limit read n s line lines name m e = rw (e, opening_from) refl

opening-go : (limit read n : ℕ) (s : Settings) (line : List ℕ) (lines : List (List ℕ)) → phrase_in limit false read line ≡ Ok Go
    → opening_from limit read n s (line ∷ lines) ≡ opened_by s n (steps_from limit (read + length line) (suc n) lines)
unfolding opening_from
opening-go limit read n s line lines e = rw (e, opening_from) refl

-- settings with these numbers one after the other
abbrev pub set_all : Settings → List (Name × ℕ) → Settings
set_all s [] = s
set_all s (m ∷ ms) = set_all (with_setting s m.0 m.1) ms

abbrev pub IsSmall : Name × ℕ → Type 0
IsSmall m = m.1 < 2 ^ 32

-- the opening behind some settings' lines and `go`
pub record Goes (limit : ℕ) (s : Settings) (more : List ℕ) (o : Opening) : Type 0 where
  pub read : ℕ
  pub line : ℕ
  pub within : read + length more ≤ limit
  pub is : o ≡ opened_by s line (steps_from limit read (suc line) (lines_of more))

pub settings_read : (ms : List (Name × ℕ)) (s : Settings) (more : List ℕ) (limit read n : ℕ) → AllByRecursion IsSmall ms
    → read + length (flat_map setting_text ms ++ (codes "go\n" ++ more)) ≤ limit
    → Goes limit (set_all s ms) more (opening_from limit read n s (lines_of (flat_map setting_text ms ++ (codes "go\n" ++ more))))
settings_read [] s more limit read n k l =
    let go : List ℕ = codes "go\n" in
    let long : read + (length go + length more) ≤ limit = omega (arith, l, length-append go more) in
    record {
      read = read + length go;
      line = n;
      within = omega (arith, long);
      is =
          ap (opening_from limit read n s) (lines_of-feed go more refl) ∙ opening-go limit read n s go (lines_of more) (go_is limit read (omega (arith, long)));
    }
settings_read (m ∷ ms) s more limit read n k l =
    let line = setting_text m in
    let rest = flat_map setting_text ms ++ (codes "go\n" ++ more) in
    let split : flat_map setting_text (m ∷ ms) ++ (codes "go\n" ++ more) ≡ line ++ rest = append_assoc line (flat_map setting_text ms) (codes "go\n" ++ more) in
    let long : read + (length line + length rest) ≤ limit = omega (arith, l, ap length split, length-append line rest) in
    let is : opening_from limit read n s (lines_of (flat_map setting_text (m ∷ ms) ++ (codes "go\n" ++ more))) ≡ opening_from limit
    (read + length line) (suc n) (with_setting s m.0 m.1) (lines_of rest) =
    ap (opening_from limit read n s) (ap lines_of split ∙ lines_of-feed line rest (setting_feed m.0 m.1 k.0))
    ∙ opening-setting limit read n s line (lines_of rest) m.0 m.1 (setting_is m.0 m.1 limit read k.0 (omega (arith, long))) in
    let g = settings_read ms (with_setting s m.0 m.1) more limit (read + length line) (suc n) k.1 (omega (arith, long)) in
    record { read = g.read; line = g.line; within = g.within; is = is ∙ g.is }

-- ---- the settings that are told

numbered : Settings → List (Name × ℕ)
numbered s = zip names (settings_numbers s)

all_take : {A : Type 0} (P : A → Type 0) (n : ℕ) (xs : List A) → AllByRecursion P xs → AllByRecursion P (take n xs)
all_take P zero xs a = tt
all_take P (suc n) [] a = tt
all_take P (suc n) (x ∷ xs) a = (a.0, all_take P n xs a.1)

all_small : (s : Settings) → IsValid s → AllByRecursion IsSmall (numbered s)
unfolding numbered
all_small s v =
    let a = v.in_range in
    let b = a.2 in
    let c = b.2 in
    let d = c.2 in
    let e = d.2 in
    let f = e.2 in
    let g = f.2 in
    let h = g.2 in
    let i = h.2 in
    let j = i.2 in
    let k = j.2 in
    let l = k.2 in
    let m = l.2 in
    let n = m.2 in
    let o = n.2 in (
      omega (arith, a.1),
      (
        omega (arith, b.1),
        (
          omega (arith, c.1),
          (
            omega (arith, d.1),
            (
              omega (arith, e.1),
              (
                omega (arith, f.1),
                (
                  omega (arith, g.1),
                  (
                    omega (arith, h.1),
                    (
                      omega (arith, i.1),
                      (omega (arith, j.1), (omega (arith, k.1), (omega (arith, l.1), (omega (arith, m.1), (omega (arith, n.1), (omega (arith, o.1), tt)))))),
                    ),
                  ),
                ),
              ),
            ),
          ),
        ),
      ),
    )

with_clock : Settings → ℕ → ℕ → Settings
with_clock s skew wire = record s { skew = skew; wire = wire }

number_is : (m n : ℕ) → (m == n) ≡ true → n ≡ m
number_is m n e = grind (arith, nat_tests, e)

-- the numbers that aren't told are the usual ones
all_set : (s : Settings) → set_all usual (take (told_numbers s) (numbered s)) ≡ s
unfolding numbered with_clock
all_set s = by_tests (s.wire == 1) (s.skew == 0) refl refl where
  by_tests : (a b : Bool) → (s.wire == 1) ≡ a → (s.skew == 0) ≡ b
      → set_all usual (take (if a then (if b then 13 else 14) else 15) (zip names (settings_numbers s))) ≡ s
  by_tests true true e f = ap (λ (k : ℕ). with_clock s k 1) (number_is s.skew 0 f) ∙ ap (λ (k : ℕ). with_clock s s.skew k) (number_is s.wire 1 e)
  by_tests true false e f = ap (λ (k : ℕ). with_clock s s.skew k) (number_is s.wire 1 e)
  by_tests false b e f = refl

valid_verdict : (s : Settings) (r : Result (Unit {0}) SettingFault) → r ≡ verdict s → IsValid s → r ≡ Ok tt
valid_verdict s (Ok u) e v = refl
valid_verdict s (Err fault) e v = absurd (let z : false ≡ true = (ok_is_valid s (Err fault) e).1 v in cc)

opened-valid : (s : Settings) (n : ℕ) (steps : Steps) → IsValid s → opened_by s n steps ≡ Opened s steps
opened-valid s n steps v =
    ap (λ (r : Result (Unit {0}) SettingFault). elim r [ Err fault ↦ Unopened (record { line = n; fault = Setting fault }) | Ok u ↦ Opened s steps ])
    (valid_verdict s (verdict s) refl v)

-- the settings' lines, with what follows
settings_split : (s : Settings) (more : List ℕ) → settings_text s ++ more ≡ flat_map setting_text (take (told_numbers s) (numbered s)) ++ (codes "go\n" ++ more)
unfolding settings_text numbered
settings_split s more = append_assoc (flat_map setting_text (take (told_numbers s) (zip names (settings_numbers s)))) (codes "go\n") more

same_steps : (found : Steps) → found.refused ≡ None → found ≡ record { steps = found.steps; refused = None }
same_steps found e = ap (λ (r : Option Refusal). let made : Steps = record { steps = found.steps; refused = r } in made) e

-- what is printed of settings and events is read as just these
pub schedules_read : SchedulesRead
unfolding opening
schedules_read s hs n v p t l =
    let more = texts hs ++ comment_text n in
    let ms = take (told_numbers s) (numbered s) in
    let split = settings_split s more in
    let g = settings_read ms usual more most_bytes 0 1 (all_take IsSmall (told_numbers s) (numbered s) (all_small s v)) (omega (arith, l, ap length split)) in
    let found = steps_from most_bytes g.read (suc g.line) (lines_of more) in
    let r = events_read hs n most_bytes g.read (suc g.line) p t g.within in
    record {
      steps = found.steps;
      whole =
          ap (λ (xs : List ℕ). opening_from most_bytes 0 1 usual (lines_of xs)) split
          ∙ (g.is ∙ (ap (λ (u : Settings). opened_by u g.line found) (all_set s)
          ∙ (opened-valid s g.line found v ∙ ap (Opened s) (same_steps found r.refused))));
      given = r.given;
    }
