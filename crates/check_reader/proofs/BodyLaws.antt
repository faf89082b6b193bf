-- What the line of a packet tells behind its call: what is read is told so, and what is told is read so.
use Rattle.std.proofs.Common.{◌≡◌, ◌<◌, ◌≤◌, ◌^◌, ℕ, zero, suc, Option, Some, List, [], ◌∷◌, ◌++◌, map, length, decimal, refl, sym, subst, arith}
use Rattle.std.specs.List.{AllByRecursion}
use Rattle.std.proofs.lemmas.Option.{none-some}
use Rattle.homa_plain.specs.Bytes.{IsBytes}
use Rattle.homa_plain.specs.Text.{call_word, hex_word, ack_word, kind_word, cutoffs_words, body_words}
use Rattle.homa_plain.specs.declared.packet.Body.{Body}
use Rattle.homa_plain.specs.declared.packet.Body.TheVariants as body
use Rattle.homa_plain.specs.declared.packet.Cutoffs.{Cutoffs}
use Rattle.homa_plain.proofs.WireFields.{bind_some, some_is}
use Rattle.homa_plain.specs.declared.packet.Kind.{Kind}
use Rattle.homa_plain.specs.declared.packet.Kind.TheVariants.{Data, Grant, Resend, Busy, Cutoffs as CutoffsKind, Unknown, NeedAck, Ack}
use Rattle.check_words.specs.Fields.{◌⊗◌, number_below, number_at, ack_of, ack_at, hex_of, hex_at, cutoffs_at, call_of, times, ended}
use Rattle.homa_plain.specs.Kinds.{body_kind, kind_name, kinds}
use Rattle.check_reader.specs.Bodies.{kind_of, bare, calls_in, piece_at, data_in, grant_in, resend_in, body_in}
use Rattle.check_reader.specs.Told.{FitsCall, FitsCutoffs, FitsBody, IsBareButData}
use Rattle.check_words.proofs.Readers.{ReadsWord, Reads, ArePlain, reads_word, reads_both, reads_value, reads_times, whole_takes, whole_again, one_of-takes}
use Rattle.check_reader.proofs.WordLaws.{reads_number, reads_numbers, reads_call, reads_ack, FitsAck, Any, wide8, wide16, wide32}
use Rattle.check_words.proofs.HexLaws.{reads_hex}

-- ---- cutoffs

abbrev FitsPair : ℕ × List ℕ → Type 0
FitsPair x = (x.0 < 2 ^ 16) × ((length x.1 ≡ 8) × AllByRecursion (λ n. n < 2 ^ 32) x.1)

reads_pair : Reads cutoffs_at (λ c. decimal c.version ∷ map decimal c.upto) (λ c. FitsPair (c.version, c.upto))
unfolding cutoffs_at
reads_pair =
    reads_value (λ x. record { version = x.0; upto = x.1 }) (λ c. (c.version, c.upto)) (number_at (2 ^ 16) ⊗ times (number_at (2 ^ 32)) 8)
    (λ x. decimal x.0 ∷ map decimal x.1) FitsPair (λ x. refl) (λ c. refl)
    (reads_both (number_at (2 ^ 16)) (times (number_at (2 ^ 32)) 8) (λ n. decimal n ∷ []) (λ ns. map decimal ns) (λ n. n < 2 ^ 16)
    (λ ns. (length ns ≡ 8) × AllByRecursion (λ n. n < 2 ^ 32) ns)
    (reads_numbers (2 ^ 16) wide16) (reads_times (number_below (2 ^ 32)) decimal (λ n. n < 2 ^ 32) (reads_number (2 ^ 32) wide32) 8))

cutoffs_take : (words : List (List ℕ)) (c : Cutoffs) (rest : List (List ℕ)) → cutoffs_at words ≡ Some (c, rest)
    → (words ≡ cutoffs_words c ++ rest) × FitsCutoffs c
cutoffs_take words c rest e = let t = reads_pair.takes words c rest e in (t.0, (t.1.0, t.1.1.0, t.1.1.1))

pub reads_cutoffs : Reads cutoffs_at cutoffs_words FitsCutoffs
reads_cutoffs = record {
  takes = cutoffs_take;
  again = λ c rest fits. reads_pair.again c rest (fits.0, (fits.1, fits.2));
  plain = λ c fits. reads_pair.plain c (fits.0, (fits.1, fits.2));
}

-- ---- further calls

pub calls_take : (n : ℕ) (words : List (List ℕ)) (calls : List (ℕ × ℕ)) → calls_in n words ≡ Some calls
    → (words ≡ map call_word calls) × (length calls ≤ n) × AllByRecursion FitsCall calls
unfolding calls_in
calls_take n [] calls e =
    subst (λ (cs : List (ℕ × ℕ)). ([] ≡ map call_word cs) × (length cs ≤ n) × AllByRecursion FitsCall cs) (some_is [] calls e) (refl, omega arith, tt)
calls_take zero (word ∷ words) calls e = absurd (none-some calls e)
calls_take (suc n) (word ∷ words) calls e =
    let a = bind_some (call_of word) _ calls e in
    let b = bind_some (calls_in n words) _ calls a.2 in
    let first = reads_call.takes word a.0 a.1 in
    let others = calls_take n words b.0 b.1 in
    let line : word ∷ words ≡ map call_word (a.0 ∷ b.0) = rw (first.0, ← others.0) refl in
    subst (λ (cs : List (ℕ × ℕ)). (word ∷ words ≡ map call_word cs) × (length cs ≤ suc n) × AllByRecursion FitsCall cs)
    (some_is (a.0 ∷ b.0) calls b.2) (line, omega (arith, others.1), (first.1, others.2))

pub calls_again : (n : ℕ) (calls : List (ℕ × ℕ)) → length calls ≤ n → AllByRecursion FitsCall calls → calls_in n (map call_word calls) ≡ Some calls
unfolding calls_in
calls_again n [] few fits = refl
calls_again zero (call ∷ calls) few fits = absurd (omega arith)
calls_again (suc n) (call ∷ calls) few fits = rw (reads_call.again call fits.0, calls_again n calls (omega arith) fits.1) refl

calls_plain : (calls : List (ℕ × ℕ)) → AllByRecursion FitsCall calls → ArePlain (map call_word calls)
calls_plain [] fits = tt
calls_plain (call ∷ calls) fits = (reads_call.plain call fits.0, calls_plain calls fits.1)

-- ---- pieces

abbrev Piece : Type 0
Piece = ℕ × (ℕ × (ℕ × (ℕ × Option (ℕ × ℕ))))

abbrev piece : Piece → Body
piece x = body.Data x.0 x.1.0 x.1.1.0 x.1.1.1.0 x.1.1.1.1

abbrev piece_words : Piece → List (List ℕ)
piece_words x = decimal x.0 ∷ decimal x.1.0 ∷ decimal x.1.1.0 ∷ decimal x.1.1.1.0 ∷ ack_word x.1.1.1.1 ∷ []

abbrev FitsPiece : Piece → Type 0
FitsPiece x = (x.0 < 2 ^ 32) × ((x.1.0 < 2 ^ 32) × ((x.1.1.0 < 2 ^ 16) × ((x.1.1.1.0 < 2 ^ 8) × FitsAck x.1.1.1.1)))

reads_acks : Reads ack_at (λ ack. ack_word ack ∷ []) FitsAck
reads_acks = reads_word ack_of ack_word FitsAck reads_ack

reads_fields : Reads (number_at (2 ^ 32) ⊗ number_at (2 ^ 32) ⊗ number_at (2 ^ 16) ⊗ number_at (2 ^ 8) ⊗ ack_at) piece_words FitsPiece
reads_fields =
    reads_both (number_at (2 ^ 32)) (number_at (2 ^ 32) ⊗ number_at (2 ^ 16) ⊗ number_at (2 ^ 8) ⊗ ack_at) (λ n. decimal n ∷ [])
    (λ x. decimal x.0 ∷ decimal x.1.0 ∷ decimal x.1.1.0 ∷ ack_word x.1.1.1 ∷ []) _ _ (reads_numbers (2 ^ 32) wide32)
    (reads_both (number_at (2 ^ 32)) (number_at (2 ^ 16) ⊗ number_at (2 ^ 8) ⊗ ack_at) (λ n. decimal n ∷ [])
    (λ x. decimal x.0 ∷ decimal x.1.0 ∷ ack_word x.1.1 ∷ []) _ _ (reads_numbers (2 ^ 32) wide32)
    (reads_both (number_at (2 ^ 16)) (number_at (2 ^ 8) ⊗ ack_at) (λ n. decimal n ∷ []) (λ x. decimal x.0 ∷ ack_word x.1 ∷ []) _ _
    (reads_numbers (2 ^ 16) wide16)
    (reads_both (number_at (2 ^ 8)) ack_at (λ n. decimal n ∷ []) (λ ack. ack_word ack ∷ []) _ _ (reads_numbers (2 ^ 8) wide8) reads_acks)))

-- the words and the numbers of a DATA; no other body is read here
abbrev data_words : Body → List (List ℕ)
data_words (body.Data size offset version service ack) = piece_words (size, (offset, (version, (service, ack))))
data_words what = []

abbrev FitsData : Body → Type 0
FitsData (body.Data size offset version service ack) = FitsPiece (size, (offset, (version, (service, ack))))
FitsData what = ⊥

piece_takes : (words : List (List ℕ)) (what : Body) (rest : List (List ℕ)) → piece_at words ≡ Some (what, rest)
    → (words ≡ data_words what ++ rest) × FitsData what
unfolding piece_at
piece_takes words what rest e =
    let a = bind_some ((number_at (2 ^ 32) ⊗ number_at (2 ^ 32) ⊗ number_at (2 ^ 16) ⊗ number_at (2 ^ 8) ⊗ ack_at) words) _ (what, rest) e in
    subst (λ (p : Body × List (List ℕ)). (words ≡ data_words p.0 ++ p.1) × FitsData p.0) (some_is (piece a.0.0, a.0.1) (what, rest) a.2)
    (reads_fields.takes words a.0.0 a.0.1 a.1)

piece_again : (what : Body) (rest : List (List ℕ)) → FitsData what → piece_at (data_words what ++ rest) ≡ Some (what, rest)
unfolding piece_at
piece_again (body.Data size offset version service ack) rest fits = rw (reads_fields.again (size, (offset, (version, (service, ack)))) rest fits) refl
piece_again (body.Grant offset prio) rest fits = absurd fits
piece_again (body.Resend from to prio) rest fits = absurd fits
piece_again body.Busy rest fits = absurd fits
piece_again (body.Cutoffs cutoffs) rest fits = absurd fits
piece_again (body.Unknown reason) rest fits = absurd fits
piece_again body.NeedAck rest fits = absurd fits
piece_again (body.Ack more) rest fits = absurd fits

piece_plain : (what : Body) → FitsData what → ArePlain (data_words what)
piece_plain (body.Data size offset version service ack) fits = reads_fields.plain (size, (offset, (version, (service, ack)))) fits
piece_plain (body.Grant offset prio) fits = absurd fits
piece_plain (body.Resend from to prio) fits = absurd fits
piece_plain body.Busy fits = absurd fits
piece_plain (body.Cutoffs cutoffs) fits = absurd fits
piece_plain (body.Unknown reason) fits = absurd fits
piece_plain body.NeedAck fits = absurd fits
piece_plain (body.Ack more) fits = absurd fits

-- ---- DATA

-- level, body and payload that were read from words
pub record Tells (kind : Kind) (words : List (List ℕ)) (told : ℕ × Body × List ℕ) : Type 0 where
  pub name : kind_name kind ≡ kind_word told.1
  pub line : words ≡ body_words told.0 told.1 told.2
  pub level : told.0 < 2 ^ 8
  pub fits : FitsBody told.1
  pub bytes : IsBytes told.2
  pub usual : IsBareButData told.0 told.1 told.2

reads_data : Reads (number_at (2 ^ 8) ⊗ piece_at ⊗ hex_at) (λ x. decimal x.0 ∷ (data_words x.1.0 ++ hex_word x.1.1 ∷ []))
    (λ x. (x.0 < 2 ^ 8) × (FitsData x.1.0 × IsBytes x.1.1))
reads_data =
    reads_both (number_at (2 ^ 8)) (piece_at ⊗ hex_at) (λ n. decimal n ∷ []) (λ x. data_words x.0 ++ hex_word x.1 ∷ []) _ _ (reads_numbers (2 ^ 8) wide8)
    (reads_both piece_at hex_at data_words (λ bytes. hex_word bytes ∷ []) FitsData IsBytes
    (record { takes = piece_takes; again = piece_again; plain = piece_plain }) (reads_word hex_of hex_word IsBytes reads_hex))

tells_data : (level : ℕ) (what : Body) (payload : List ℕ) → level < 2 ^ 8 → FitsData what → IsBytes payload
    → Tells Data (decimal level ∷ (data_words what ++ hex_word payload ∷ [])) (level, what, payload)
tells_data level (body.Data size offset version service ack) payload l fits bytes =
    record { name = refl; line = refl; level = l; fits = (fits.0, fits.1.0, fits.1.1.0, fits.1.1.1.0, fits.1.1.1.1); bytes = bytes; usual = tt }
tells_data level (body.Grant offset prio) payload l fits bytes = absurd fits
tells_data level (body.Resend from to prio) payload l fits bytes = absurd fits
tells_data level body.Busy payload l fits bytes = absurd fits
tells_data level (body.Cutoffs cutoffs) payload l fits bytes = absurd fits
tells_data level (body.Unknown reason) payload l fits bytes = absurd fits
tells_data level body.NeedAck payload l fits bytes = absurd fits
tells_data level (body.Ack more) payload l fits bytes = absurd fits

told_by : (kind : Kind) (words others : List (List ℕ)) (x told : ℕ × Body × List ℕ) → words ≡ others → x ≡ told → Tells kind others x → Tells kind words told
told_by kind words others x told line made t = subst (Tells kind words) made (subst (λ (ws : List (List ℕ)). Tells kind ws x) (sym line) t)

data_takes : (words : List (List ℕ)) (told : ℕ × Body × List ℕ) → data_in words ≡ Some told → Tells Data words told
unfolding data_in
data_takes words told e =
    let t = whole_takes (λ x. (x.0, x.1.0, x.1.1)) (number_at (2 ^ 8) ⊗ piece_at ⊗ hex_at) _ _ reads_data words told e in
    told_by Data words _ _ told t.words_of t.made (tells_data t.value.0 t.value.1.0 t.value.1.1 t.fits.0 t.fits.1.0 t.fits.1.1)

last_word : (told body : ℕ × Body × List ℕ) (rest : List (List ℕ)) → ended told rest ≡ Some body → (rest ≡ []) × (told ≡ body)
last_word told body [] e = (refl, some_is told body e)
last_word told body (word ∷ words) e = absurd (none-some body e)

-- ---- the other kinds

no_bytes : IsBytes []
no_bytes k = omega arith

reads_grant : Reads (number_at (2 ^ 32) ⊗ number_at (2 ^ 8)) (λ x. decimal x.0 ∷ decimal x.1 ∷ []) (λ x. (x.0 < 2 ^ 32) × (x.1 < 2 ^ 8))
reads_grant = reads_both (number_at (2 ^ 32)) (number_at (2 ^ 8)) (λ n. decimal n ∷ []) (λ n. decimal n ∷ []) _ _ (reads_numbers (2 ^ 32) wide32)
    (reads_numbers (2 ^ 8) wide8)

reads_resend : Reads (number_at (2 ^ 32) ⊗ number_at (2 ^ 32) ⊗ number_at (2 ^ 8)) (λ x. decimal x.0 ∷ decimal x.1.0 ∷ decimal x.1.1 ∷ [])
    (λ x. (x.0 < 2 ^ 32) × ((x.1.0 < 2 ^ 32) × (x.1.1 < 2 ^ 8)))
reads_resend = reads_both (number_at (2 ^ 32)) (number_at (2 ^ 32) ⊗ number_at (2 ^ 8)) (λ n. decimal n ∷ [])
    (λ x. decimal x.0 ∷ decimal x.1 ∷ []) _ _ (reads_numbers (2 ^ 32) wide32) reads_grant

-- a packet with no payload
tells_bare : (kind : Kind) (words : List (List ℕ)) (what : Body) (told : ℕ × Body × List ℕ) → bare what ≡ told → kind_name kind ≡ kind_word what
    → words ≡ body_words 7 what [] → FitsBody what → IsBareButData 7 what [] → Tells kind words told
tells_bare kind words what told e name line fits usual =
    subst (λ (t : ℕ × Body × List ℕ). Tells kind words t) e
    (record { name = name; line = line; level = omega arith; fits = fits; bytes = no_bytes; usual = usual })

pub body_takes : (kind : Kind) (words : List (List ℕ)) (told : ℕ × Body × List ℕ) → body_in kind words ≡ Some told → Tells kind words told
unfolding body_in grant_in resend_in
body_takes Data words told e = data_takes words told e
body_takes Grant words told e =
    let t = whole_takes (λ x. bare (body.Grant x.0 x.1)) (number_at (2 ^ 32) ⊗ number_at (2 ^ 8)) _ _ reads_grant words told e in
    tells_bare Grant words (body.Grant t.value.0 t.value.1) told t.made refl t.words_of t.fits (refl, refl)
body_takes Resend words told e =
    let t = whole_takes (λ x. bare (body.Resend x.0 x.1.0 x.1.1)) (number_at (2 ^ 32) ⊗ number_at (2 ^ 32) ⊗ number_at (2 ^ 8)) _ _ reads_resend words told e in
    tells_bare Resend words (body.Resend t.value.0 t.value.1.0 t.value.1.1) told t.made refl t.words_of (t.fits.0, t.fits.1.0, t.fits.1.1) (refl, refl)
body_takes Busy words told e =
    let last = last_word (bare body.Busy) told words e in
    tells_bare Busy words body.Busy told last.1 refl last.0 tt (refl, refl)
body_takes CutoffsKind words told e =
    let t = whole_takes (λ x. bare (body.Cutoffs x)) cutoffs_at _ _ reads_cutoffs words told e in
    tells_bare CutoffsKind words (body.Cutoffs t.value) told t.made refl t.words_of t.fits (refl, refl)
body_takes Unknown words told e =
    let t = whole_takes (λ x. bare (body.Unknown x)) (number_at (2 ^ 8)) _ _ (reads_numbers (2 ^ 8) wide8) words told e in
    tells_bare Unknown words (body.Unknown t.value) told t.made refl t.words_of t.fits (refl, refl)
body_takes NeedAck words told e =
    let last = last_word (bare body.NeedAck) told words e in
    tells_bare NeedAck words body.NeedAck told last.1 refl last.0 tt (refl, refl)
body_takes Ack words told e =
    let a = bind_some (calls_in 4 words) _ told e in
    let took = calls_take 4 words a.0 a.1 in
    tells_bare Ack words (body.Ack a.0) told (some_is (bare (body.Ack a.0)) told a.2) refl took.0 (took.1, took.2) (refl, refl)

-- ---- what is told is read

-- level, body and payload, as the line tells them
abbrev pub shown_body : ℕ → Body → List ℕ → ℕ × Body × List ℕ
shown_body level (body.Data size offset version service ack) payload = (level, body.Data size offset version service ack, payload)
shown_body level (body.Grant offset prio) payload = bare (body.Grant offset prio)
shown_body level (body.Resend from to prio) payload = bare (body.Resend from to prio)
shown_body level body.Busy payload = bare body.Busy
shown_body level (body.Cutoffs cutoffs) payload = bare (body.Cutoffs cutoffs)
shown_body level (body.Unknown reason) payload = bare (body.Unknown reason)
shown_body level body.NeedAck payload = bare body.NeedAck
shown_body level (body.Ack more) payload = bare (body.Ack more)

pub body_again : (level : ℕ) (what : Body) (payload : List ℕ) → level < 2 ^ 8 → FitsBody what → IsBytes payload
    → body_in (body_kind what) (body_words level what payload) ≡ Some (shown_body level what payload)
unfolding body_in data_in grant_in resend_in
body_again level (body.Data size offset version service ack) payload l fits bytes =
    whole_again (λ x. (x.0, x.1.0, x.1.1)) (number_at (2 ^ 8) ⊗ piece_at ⊗ hex_at) _ _ reads_data
    (level, (body.Data size offset version service ack, payload)) (l, ((fits.0, (fits.1, (fits.2, (fits.3, fits.4)))), bytes))
body_again level (body.Grant offset prio) payload l fits bytes =
    whole_again (λ x. bare (body.Grant x.0 x.1)) (number_at (2 ^ 32) ⊗ number_at (2 ^ 8)) _ _ reads_grant (offset, prio) fits
body_again level (body.Resend from to prio) payload l fits bytes =
    whole_again (λ x. bare (body.Resend x.0 x.1.0 x.1.1)) (number_at (2 ^ 32) ⊗ number_at (2 ^ 32) ⊗ number_at (2 ^ 8)) _ _ reads_resend
    (from, (to, prio)) (fits.0, (fits.1, fits.2))
body_again level body.Busy payload l fits bytes = refl
body_again level (body.Cutoffs cutoffs) payload l fits bytes = whole_again (λ x. bare (body.Cutoffs x)) cutoffs_at _ _ reads_cutoffs cutoffs fits
body_again level (body.Unknown reason) payload l fits bytes =
    whole_again (λ x. bare (body.Unknown x)) (number_at (2 ^ 8)) _ _ (reads_numbers (2 ^ 8) wide8) reason fits
body_again level body.NeedAck payload l fits bytes = refl
body_again level (body.Ack more) payload l fits bytes = rw (calls_again 4 more fits.0 fits.1) refl

pub body_plain : (level : ℕ) (what : Body) (payload : List ℕ) → level < 2 ^ 8 → FitsBody what → IsBytes payload → ArePlain (body_words level what payload)
body_plain level (body.Data size offset version service ack) payload l fits bytes =
    reads_data.plain (level, (body.Data size offset version service ack, payload)) (l, ((fits.0, (fits.1, (fits.2, (fits.3, fits.4)))), bytes))
body_plain level (body.Grant offset prio) payload l fits bytes = reads_grant.plain (offset, prio) fits
body_plain level (body.Resend from to prio) payload l fits bytes = reads_resend.plain (from, (to, prio)) (fits.0, (fits.1, fits.2))
body_plain level body.Busy payload l fits bytes = tt
body_plain level (body.Cutoffs cutoffs) payload l fits bytes = reads_cutoffs.plain cutoffs fits
body_plain level (body.Unknown reason) payload l fits bytes = (reads_numbers (2 ^ 8) wide8).plain reason fits
body_plain level body.NeedAck payload l fits bytes = tt
body_plain level (body.Ack more) payload l fits bytes = calls_plain more fits.1

-- ---- kinds

kind_takes : (word : List ℕ) (kind : Kind) → kind_of word ≡ Some kind → (kind_name kind ≡ word) × Any kind
unfolding kind_of
kind_takes word kind e = one_of-takes kind_name Any kinds word kind (tt, (tt, (tt, (tt, (tt, (tt, (tt, (tt, tt)))))))) e

kind_again : (kind : Kind) → Any kind → kind_of (kind_name kind) ≡ Some kind
unfolding kind_of
kind_again Data any = refl
kind_again Grant any = refl
kind_again Resend any = refl
kind_again Busy any = refl
kind_again CutoffsKind any = refl
kind_again Unknown any = refl
kind_again NeedAck any = refl
kind_again Ack any = refl

kind_plain : (kind : Kind) → Any kind → ArePlain (kind_name kind ∷ [])
kind_plain Data any = (refl, tt)
kind_plain Grant any = (refl, tt)
kind_plain Resend any = (refl, tt)
kind_plain Busy any = (refl, tt)
kind_plain CutoffsKind any = (refl, tt)
kind_plain Unknown any = (refl, tt)
kind_plain NeedAck any = (refl, tt)
kind_plain Ack any = (refl, tt)

pub reads_kind : ReadsWord kind_of kind_name Any
reads_kind = record { takes = kind_takes; again = kind_again; plain = λ kind any. (kind_plain kind any).0 }

pub kind_name-body : (what : Body) → kind_name (body_kind what) ≡ kind_word what
kind_name-body (body.Data size offset version service ack) = refl
kind_name-body (body.Grant offset prio) = refl
kind_name-body (body.Resend from to prio) = refl
kind_name-body body.Busy = refl
kind_name-body (body.Cutoffs cutoffs) = refl
kind_name-body (body.Unknown reason) = refl
kind_name-body body.NeedAck = refl
kind_name-body (body.Ack more) = refl
