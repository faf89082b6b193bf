-- Refusals: what is read is told so, and what is told is read so.
use Rattle.std.proofs.Common.{◌≡◌, ◌<◌, ◌≤◌, ◌^◌, ℕ, cond, Bool, true, false, Option, None, Some, List, [], ◌∷◌, decimal, codes, bytes_eq, refl, sym}
use Rattle.std.proofs.Common.{ap, ◌∙◌, subst}
use Rattle.std.specs.List.{AllByRecursion}
use Rattle.std.proofs.lemmas.Option.{none-some}
use Rattle.std.proofs.lemmas.Slice.Eq.{bytes_eq-Decides}
use Rattle.homa_plain.specs.Bytes.{◌>>=◌}
use Rattle.homa_plain.specs.Script.{names}
use Rattle.homa_plain.specs.Text.{name_word, start_word, setting_words, world_words, fault_words}
use Rattle.homa_plain.specs.declared.fault.LineFault.{LineFault}
use Rattle.homa_plain.specs.declared.fault.LineFault.TheVariants.{Script, World}
use Rattle.homa_plain.specs.declared.fault.ScriptFault.TheVariants.{LongLine, NotUtf8, UnknownWord, BadNumber, BadHex, Extra, Missing, Setting, NoGo}
use Rattle.homa_plain.specs.declared.fault.ScriptFault.TheVariants.{InputTooLong}
use Rattle.homa_plain.specs.declared.fault.StartFault.{StartFault}
use Rattle.homa_plain.specs.declared.fault.StartFault.TheVariants.{Empty, TooLong, SelfCall, CallsFull, SeqSpent}
use Rattle.homa_plain.specs.declared.fault.WorldFault.{WorldFault}
use Rattle.homa_plain.specs.declared.fault.WorldFault.TheVariants.{NoSuchHost, NoSuchPacket, Late, Start, NoSpare, ClockEnd, Decodes, NoMemory, OutOfBand, Back}
use Rattle.homa_plain.specs.declared.settings.Name.{Name}
use Rattle.homa_plain.specs.declared.settings.Name.TheVariants.{Hosts, Seg, Window, Unsched, Overcommit, Rate, Resend, Tries, Life, Pages, Calls}
use Rattle.homa_plain.specs.declared.settings.Name.TheVariants.{Served, Rebalance, Skew, Wire}
use Rattle.homa_plain.specs.declared.settings.SettingFault.{SettingFault}
use Rattle.homa_plain.specs.declared.settings.SettingFault.TheVariants.{OutOfRange, UnschedOverWindow, RateUnderSeg}
use Rattle.homa_plain.proofs.WireFields.{bind_some, some_is}
use Rattle.check_words.specs.Fields.{◌⊗◌, number_at, word_at, ended}
use Rattle.check_reader.specs.Refusals.{fault_name, plain_faults, plain_of, name_of, starts, start_of, out_of_range_in, setting_in, two_in, start_in}
use Rattle.check_reader.specs.Refusals.{world_in, long_in, plain_or_long, fault_in}
use Rattle.check_reader.specs.Told.{FitsWorldFault, FitsFault}
use Rattle.check_words.proofs.NumberWords.{HasNoBlank}
use Rattle.check_words.proofs.Readers.{Reads, ArePlain, reads_word, reads_both, whole_takes, whole_again, one_of-takes}
use Rattle.check_reader.proofs.WordLaws.{reads_numbers, Any, wide32, wide64}

-- ---- words

name_takes : (word : List ℕ) (name : Name) → name_of word ≡ Some name → (name_word name ≡ word) × Any name
unfolding name_of
name_takes word name e =
    one_of-takes name_word Any names word name (tt, (tt, (tt, (tt, (tt, (tt, (tt, (tt, (tt, (tt, (tt, (tt, (tt, (tt, (tt, tt))))))))))))))) e

name_again : (name : Name) → Any name → name_of (name_word name) ≡ Some name
unfolding name_of
name_again Hosts any = refl
name_again Seg any = refl
name_again Window any = refl
name_again Unsched any = refl
name_again Overcommit any = refl
name_again Rate any = refl
name_again Resend any = refl
name_again Tries any = refl
name_again Life any = refl
name_again Pages any = refl
name_again Calls any = refl
name_again Served any = refl
name_again Rebalance any = refl
name_again Skew any = refl
name_again Wire any = refl

name_plain : (name : Name) → Any name → HasNoBlank (name_word name)
name_plain Hosts any = refl
name_plain Seg any = refl
name_plain Window any = refl
name_plain Unsched any = refl
name_plain Overcommit any = refl
name_plain Rate any = refl
name_plain Resend any = refl
name_plain Tries any = refl
name_plain Life any = refl
name_plain Pages any = refl
name_plain Calls any = refl
name_plain Served any = refl
name_plain Rebalance any = refl
name_plain Skew any = refl
name_plain Wire any = refl

reads_name : Reads (word_at name_of) (λ name. name_word name ∷ []) Any
reads_name = reads_word name_of name_word Any (record { takes = name_takes; again = name_again; plain = name_plain })

start_takes : (word : List ℕ) (fault : StartFault) → start_of word ≡ Some fault → (start_word fault ≡ word) × Any fault
unfolding start_of
start_takes word fault e = one_of-takes start_word Any starts word fault (tt, (tt, (tt, (tt, (tt, tt))))) e

start_again : (fault : StartFault) → Any fault → start_of (start_word fault) ≡ Some fault
unfolding start_of
start_again Empty any = refl
start_again TooLong any = refl
start_again SelfCall any = refl
start_again CallsFull any = refl
start_again SeqSpent any = refl

start_plain : (fault : StartFault) → Any fault → HasNoBlank (start_word fault)
start_plain Empty any = refl
start_plain TooLong any = refl
start_plain SelfCall any = refl
start_plain CallsFull any = refl
start_plain SeqSpent any = refl

reads_start : Reads (word_at start_of) (λ fault. start_word fault ∷ []) Any
reads_start = reads_word start_of start_word Any (record { takes = start_takes; again = start_again; plain = start_plain })

-- ---- a first word that is tested

-- where the word is this one, and where it isn't
chosen : {A : Type 0} (word name : List ℕ) (x y : Option A) (z : A) (Q : Type 0) → (word ≡ name → x ≡ Some z → Q) → (y ≡ Some z → Q)
    → cond (bytes_eq word name) x y ≡ Some z → Q
chosen {A} word name x y z Q f g e = by_test (bytes_eq word name) refl e
  where
    by_test : (t : Bool) → bytes_eq word name ≡ t → cond t x y ≡ Some z → Q
    by_test true t e = f ((bytes_eq-Decides word name).0 t) e
    by_test false t e = g e

last_word : {A : Type 0} (x y : A) (rest : List (List ℕ)) → ended x rest ≡ Some y → (rest ≡ []) × (x ≡ y)
last_word x y [] e = (refl, some_is x y e)
last_word x y (word ∷ words) e = absurd (none-some y e)

both_are : (word name : List ℕ) (words rest : List (List ℕ)) → word ≡ name → words ≡ rest → word ∷ words ≡ name ∷ rest
both_are word name words rest e f = ap (λ (w : List ℕ). w ∷ words) e ∙ ap (λ (ws : List (List ℕ)). name ∷ ws) f

-- ---- settings

out_of_range_takes : (word : List ℕ) (words : List (List ℕ)) (fault : SettingFault) → word ≡ codes "OutOfRange" → out_of_range_in words ≡ Some fault
    → word ∷ words ≡ setting_words fault
unfolding out_of_range_in
out_of_range_takes word words fault is e =
    let t = whole_takes (λ name. OutOfRange name) (word_at name_of) _ _ reads_name words fault e in
    both_are word (codes "OutOfRange") words _ is t.words_of ∙ ap setting_words t.made

alone_takes : (word name : List ℕ) (words : List (List ℕ)) (x fault : SettingFault) → name ∷ [] ≡ setting_words x → word ≡ name
    → ended x words ≡ Some fault → word ∷ words ≡ setting_words fault
alone_takes word name words x fault one is e =
    let last = last_word x fault words e in
    both_are word name words [] is last.0 ∙ one ∙ ap setting_words last.1

pub setting_takes : (words : List (List ℕ)) (fault : SettingFault) → setting_in words ≡ Some fault → words ≡ setting_words fault
unfolding setting_in
setting_takes [] fault e = absurd (none-some fault e)
setting_takes (word ∷ words) fault e =
    let Q = word ∷ words ≡ setting_words fault in
    chosen word (codes "OutOfRange") (out_of_range_in words) _ fault Q (λ is h. out_of_range_takes word words fault is h) (λ e.
    chosen word (codes "UnschedOverWindow") (ended UnschedOverWindow words) _ fault Q
    (λ is h. alone_takes word (codes "UnschedOverWindow") words UnschedOverWindow fault refl is h) (λ e.
    chosen word (codes "RateUnderSeg") (ended RateUnderSeg words) None fault Q
    (λ is h. alone_takes word (codes "RateUnderSeg") words RateUnderSeg fault refl is h) (λ e. absurd (none-some fault e)) e) e) e

setting_again : (fault : SettingFault) → setting_in (setting_words fault) ≡ Some fault
unfolding setting_in out_of_range_in
setting_again (OutOfRange name) = whole_again (λ name. OutOfRange name) (word_at name_of) _ _ reads_name name tt
setting_again UnschedOverWindow = refl
setting_again RateUnderSeg = refl

setting_plain : (fault : SettingFault) → ArePlain (setting_words fault)
setting_plain (OutOfRange name) = (refl, (name_plain name tt, tt))
setting_plain UnschedOverWindow = (refl, tt)
setting_plain RateUnderSeg = (refl, tt)

-- ---- two numbers

reads_two : (limit : ℕ) → limit ≤ 2 ^ 64 → Reads (number_at limit ⊗ number_at limit) (λ x. decimal x.0 ∷ decimal x.1 ∷ []) (λ x. (x.0 < limit) × (x.1 < limit))
reads_two limit wide =
    reads_both (number_at limit) (number_at limit) (λ n. decimal n ∷ []) (λ n. decimal n ∷ []) _ _ (reads_numbers limit wide) (reads_numbers limit wide)

two_takes : (limit : ℕ) → limit ≤ 2 ^ 64 → (words : List (List ℕ)) (x : ℕ × ℕ) → two_in limit words ≡ Some x
    → (words ≡ decimal x.0 ∷ decimal x.1 ∷ []) × ((x.0 < limit) × (x.1 < limit))
unfolding two_in
two_takes limit wide words x e =
    let t = whole_takes (λ x. x) (number_at limit ⊗ number_at limit) _ _ (reads_two limit wide) words x e in
    subst (λ (y : ℕ × ℕ). (words ≡ decimal y.0 ∷ decimal y.1 ∷ []) × ((y.0 < limit) × (y.1 < limit))) t.made (t.words_of, t.fits)

two_again : (limit : ℕ) → limit ≤ 2 ^ 64 → (a b : ℕ) → a < limit → b < limit → two_in limit (decimal a ∷ decimal b ∷ []) ≡ Some (a, b)
unfolding two_in
two_again limit wide a b h k = whole_again (λ x. x) (number_at limit ⊗ number_at limit) _ _ (reads_two limit wide) (a, b) (h, k)

-- ---- refusals by the world of more than one word

abbrev TellsWorld : List ℕ → List (List ℕ) → WorldFault → Type 0
TellsWorld word words fault = (word ∷ words ≡ world_words fault) × FitsWorldFault fault

start_told : (word : List ℕ) (words : List (List ℕ)) (fault : WorldFault) → word ≡ codes "Start" → start_in words ≡ Some fault → TellsWorld word words fault
unfolding start_in
start_told word words fault is e =
    let t = whole_takes (λ fault. Start fault) (word_at start_of) _ _ reads_start words fault e in
    let line : word ∷ words ≡ world_words (Start t.value) = both_are word (codes "Start") words _ is t.words_of in
    subst (TellsWorld word words) t.made (line, tt)

two_told : (word name : List ℕ) (words : List (List ℕ)) (make : ℕ × ℕ → WorldFault) (limit : ℕ) (fault : WorldFault) → limit ≤ 2 ^ 64
    → ((x : ℕ × ℕ) → (name ∷ decimal x.0 ∷ decimal x.1 ∷ [] ≡ world_words (make x)) × ((x.0 < limit) × (x.1 < limit) → FitsWorldFault (make x)))
    → word ≡ name → (two_in limit words >>= λ x. Some (make x)) ≡ Some fault → TellsWorld word words fault
two_told word name words make limit fault wide tells is e =
    let a = bind_some (two_in limit words) _ fault e in
    let t = two_takes limit wide words a.0 a.1 in
    let line : word ∷ words ≡ world_words (make a.0) = both_are word name words _ is t.0 ∙ (tells a.0).0 in
    subst (TellsWorld word words) (some_is (make a.0) fault a.2) (line, (tells a.0).1 t.1)

world_takes : (word : List ℕ) (words : List (List ℕ)) (fault : WorldFault) → world_in word words ≡ Some fault → TellsWorld word words fault
unfolding world_in
world_takes word words fault e =
    let Q = TellsWorld word words fault in
    chosen word (codes "Start") (start_in words) _ fault Q (λ is h. start_told word words fault is h) (λ e.
    chosen word (codes "Late") (two_in (2 ^ 64) words >>= λ x. Some (Late x.0 x.1)) _ fault Q
    (λ is h. two_told word (codes "Late") words (λ x. Late x.0 x.1) (2 ^ 64) fault wide64 (λ x. (refl, λ f. f)) is h) (λ e.
    chosen word (codes "OutOfBand") (two_in (2 ^ 32) words >>= λ x. Some (OutOfBand x.0 x.1)) _ fault Q
    (λ is h. two_told word (codes "OutOfBand") words (λ x. OutOfBand x.0 x.1) (2 ^ 32) fault wide32 (λ x. (refl, λ f. f)) is h) (λ e.
    chosen word (codes "Back") (two_in (2 ^ 64) words >>= λ x. Some (Back x.0 x.1)) None fault Q
    (λ is h. two_told word (codes "Back") words (λ x. Back x.0 x.1) (2 ^ 64) fault wide64 (λ x. (refl, λ f. f)) is h)
    (λ e. absurd (none-some fault e)) e) e) e) e

-- ---- refusals

abbrev TellsFault : List (List ℕ) → LineFault → Type 0
TellsFault words fault = (words ≡ fault_words fault) × FitsFault fault

setting_told : (word : List ℕ) (words : List (List ℕ)) (fault : LineFault) → word ≡ codes "Setting"
    → (setting_in words >>= λ f. Some (Script (Setting f))) ≡ Some fault → TellsFault (word ∷ words) fault
setting_told word words fault is e =
    let a = bind_some (setting_in words) _ fault e in
    let line : word ∷ words ≡ fault_words (Script (Setting a.0)) = both_are word (codes "Setting") words (setting_words a.0) is (setting_takes words a.0 a.1) in
    subst (TellsFault (word ∷ words)) (some_is (Script (Setting a.0)) fault a.2) (line, tt)

world_told : (word : List ℕ) (words : List (List ℕ)) (fault : LineFault) → (world_in word words >>= λ f. Some (World f)) ≡ Some fault
    → TellsFault (word ∷ words) fault
world_told word words fault e =
    let a = bind_some (world_in word words) _ fault e in
    subst (TellsFault (word ∷ words)) (some_is (World a.0) fault a.2) (world_takes word words a.0 a.1)

long_takes : (word : List ℕ) (words : List (List ℕ)) (fault : LineFault) → long_in word words ≡ Some fault → TellsFault (word ∷ words) fault
unfolding long_in
long_takes word words fault e =
    chosen word (codes "Setting") (setting_in words >>= λ f. Some (Script (Setting f))) _ fault (TellsFault (word ∷ words) fault)
    (λ is h. setting_told word words fault is h) (λ e. world_told word words fault e) e

-- a refusal that is one word
abbrev IsPlain : LineFault → Type 0
IsPlain fault = (fault_words fault ≡ fault_name fault ∷ []) × FitsFault fault

all_plain : AllByRecursion IsPlain plain_faults
all_plain = (
  (refl, tt),
  (
    (refl, tt),
    (
      (refl, tt),
      (
        (refl, tt),
        (
          (refl, tt),
          ((refl, tt), ((refl, tt), ((refl, tt), ((refl, tt), ((refl, tt), ((refl, tt), ((refl, tt), ((refl, tt), ((refl, tt), tt))))))))),
        ),
      ),
    ),
  ),
)

plain_takes : (word : List ℕ) (fault : LineFault) → plain_of word ≡ Some fault → (fault_name fault ≡ word) × IsPlain fault
unfolding plain_of
plain_takes word fault e = one_of-takes fault_name IsPlain plain_faults word fault all_plain e

pub fault_takes : (words : List (List ℕ)) (fault : LineFault) → fault_in words ≡ Some fault → (words ≡ fault_words fault) × FitsFault fault
unfolding fault_in
fault_takes [] fault e = absurd (none-some fault e)
fault_takes (word ∷ words) fault e = by_plain (plain_of word) refl e
  where
    by_plain : (found : Option LineFault) → plain_of word ≡ found → plain_or_long found word words ≡ Some fault → TellsFault (word ∷ words) fault
    by_plain None f e = long_takes word words fault e
    by_plain (Some plain) f e =
        let last = last_word plain fault words e in
        let t = plain_takes word plain f in
        let line : word ∷ words ≡ fault_words plain = both_are word (fault_name plain) words [] (sym t.0) last.0 ∙ sym t.1.0 in
        subst (TellsFault (word ∷ words)) last.1 (line, t.1.1)

pub fault_again : (fault : LineFault) → FitsFault fault → fault_in (fault_words fault) ≡ Some fault
unfolding fault_in plain_of long_in world_in start_in
fault_again (Script LongLine) fits = refl
fault_again (Script NotUtf8) fits = refl
fault_again (Script UnknownWord) fits = refl
fault_again (Script BadNumber) fits = refl
fault_again (Script BadHex) fits = refl
fault_again (Script Extra) fits = refl
fault_again (Script Missing) fits = refl
fault_again (Script (Setting fault)) fits = rw (setting_again fault) refl
fault_again (Script NoGo) fits = refl
fault_again (Script InputTooLong) fits = refl
fault_again (World NoSuchHost) fits = refl
fault_again (World NoSuchPacket) fits = refl
fault_again (World (Late sent now)) fits = rw (two_again (2 ^ 64) wide64 sent now fits.0 fits.1) refl
fault_again (World (Start fault)) fits =
    ap (λ (o : Option WorldFault). o >>= λ f. Some (World f)) (whole_again (λ fault. Start fault) (word_at start_of) _ _ reads_start fault tt)
fault_again (World NoSpare) fits = refl
fault_again (World ClockEnd) fits = refl
fault_again (World Decodes) fits = refl
fault_again (World NoMemory) fits = absurd fits
fault_again (World (OutOfBand n most)) fits = rw (two_again (2 ^ 32) wide32 n most fits.0 fits.1) refl
fault_again (World (Back last now)) fits = rw (two_again (2 ^ 64) wide64 last now fits.0 fits.1) refl

pub fault_plain : (fault : LineFault) → FitsFault fault → ArePlain (fault_words fault)
fault_plain (Script LongLine) fits = (refl, tt)
fault_plain (Script NotUtf8) fits = (refl, tt)
fault_plain (Script UnknownWord) fits = (refl, tt)
fault_plain (Script BadNumber) fits = (refl, tt)
fault_plain (Script BadHex) fits = (refl, tt)
fault_plain (Script Extra) fits = (refl, tt)
fault_plain (Script Missing) fits = (refl, tt)
fault_plain (Script (Setting fault)) fits = (refl, setting_plain fault)
fault_plain (Script NoGo) fits = (refl, tt)
fault_plain (Script InputTooLong) fits = (refl, tt)
fault_plain (World NoSuchHost) fits = (refl, tt)
fault_plain (World NoSuchPacket) fits = (refl, tt)
fault_plain (World (Late sent now)) fits = (refl, (reads_two (2 ^ 64) wide64).plain (sent, now) fits)
fault_plain (World (Start fault)) fits = (refl, (start_plain fault tt, tt))
fault_plain (World NoSpare) fits = (refl, tt)
fault_plain (World ClockEnd) fits = (refl, tt)
fault_plain (World Decodes) fits = (refl, tt)
fault_plain (World NoMemory) fits = absurd fits
fault_plain (World (OutOfBand n most)) fits = (refl, (reads_two (2 ^ 32) wide32).plain (n, most) fits)
fault_plain (World (Back last now)) fits = (refl, (reads_two (2 ^ 64) wide64).plain (last, now) fits)
