-- Lines: an entry that is read has that line, and the line of an entry is read as it.
use Rattle.std.proofs.Common.{◌≡◌, ◌<◌, ◌^◌, ◌==◌, true, ℕ, Option, None, Some, IfSome, IfNone, option_map, List, [], ◌∷◌, ◌++◌, length, decimal}
use Rattle.std.proofs.Common.{codes, refl, sym, ap, ◌∙◌, subst, arith}
use Rattle.std.specs.List.{AllByRecursion, join_with_byte, list_any}
use Rattle.std.proofs.lemmas.List.{append_cancel_right}
use Rattle.std.proofs.lemmas.List.Splits.{join_with_byte-slice_split}
use Rattle.std.proofs.lemmas.Option.{none-some}
use Rattle.homa_plain.specs.Bytes.{◌>>=◌, IsBytes}
use Rattle.homa_plain.specs.Input.{has_no_feed, ends_in_feed}
use Rattle.homa_plain.specs.Wire.{IsBare}
use Rattle.homa_plain.specs.Text.{host_word, id_word, hex_word, why_word, role_word, body_words, cutoffs_words, fault_words, entry_words, line_text}
use Rattle.homa_plain.specs.Entries.{PlainEntry, PlainSettings, PlainCall, PlainDeliver, PlainClock, PlainRestart, PlainInject, PlainShift, PlainJunk}
use Rattle.homa_plain.specs.Entries.{PlainStale, PlainSend, PlainRun, PlainDone, PlainFail, PlainDrop, PlainGaps, PlainBury, PlainFree, PlainFullRows}
use Rattle.homa_plain.specs.Entries.{PlainFullPages, PlainBalance, PlainRecv, PlainFinished, PlainRefused, PlainStalled}
use Rattle.homa_plain.specs.declared.id.CallId.{CallId}
use Rattle.homa_plain.specs.declared.id.HostId.{HostId}
use Rattle.homa_plain.specs.declared.packet.Body.{Body}
use Rattle.homa_plain.specs.declared.packet.Body.TheVariants as body
use Rattle.homa_plain.specs.declared.packet.Role.{Role}
use Rattle.homa_plain.specs.declared.fault.LineFault.{LineFault}
use Rattle.homa_plain.proofs.WireFields.{bind_some, some_is}
use Rattle.homa_plain.specs.declared.packet.Kind.{Kind}
use Rattle.check_reader.specs.declared.entries.Form.{Form}
use Rattle.check_reader.specs.declared.entries.Form.TheVariants.{Settings, Call, Deliver, Clock, Restart, Inject, Shift, Junk, Stale, Send, Run, Done}
use Rattle.check_reader.specs.declared.entries.Form.TheVariants.{Fail, Drop, Gaps, Bury, Free, Full, Balance, Recv, Finished, Refused, Stalled}
use Rattle.check_reader.specs.declared.entries.Lack.{Lack}
use Rattle.check_reader.specs.declared.entries.Lack.TheVariants.{Rows, Pages}
use Rattle.check_words.specs.Fields.{◌⊗◌, number_at, host_at, id_of, id_at, route_of, route_at, role_of, role_at, why_of, why_at, hex_of, hex_at}
use Rattle.check_words.specs.Fields.{cutoffs_at, word_at, parts, whole}
use Rattle.homa_plain.specs.Kinds.{body_kind, kind_name}
use Rattle.check_reader.specs.Bodies.{kind_of, body_in}
use Rattle.check_reader.specs.Refusals.{fault_in}
use Rattle.check_reader.specs.Forms.{form_name, forms, form_of, settings_in, call_in, deliver_in, clock_in, restart_in, inject_in, shift_in, junk_in}
use Rattle.check_reader.specs.Forms.{stale_in, send_in, run_in, done_in, fail_in, drop_in, gaps_in, free_in, bury_in, lack_name, lack_of, lack_in}
use Rattle.check_reader.specs.Forms.{full_entry, full_in, balance_in, recv_in, finished_in, refused_in, stalled_in, form_in, entry_in, entry_of}
use Rattle.check_reader.specs.Told.{FitsHost, FitsId, FitsCutoffs, FitsFault, Fits, IsUsual}
use Rattle.text_lines.proofs.Feeds.{ends_in_feed-feed}
use Rattle.check_words.proofs.NumberWords.{HasNo, HasNoBlank, or_parts}
use Rattle.check_words.proofs.Readers.{Reads, ArePlain, reads_word, reads_both, whole_takes, whole_again, one_of-takes, parts-joined, ArePlain-no}
use Rattle.check_reader.proofs.WordLaws.{none-append, reads_numbers, reads_hosts, reads_id, reads_route, FitsRoute, route_text, reads_role, reads_why}
use Rattle.check_reader.proofs.WordLaws.{Any, wide8, wide32, wide64}
use Rattle.check_words.proofs.HexLaws.{reads_hex}
use Rattle.check_reader.proofs.BodyLaws.{Tells, body_takes, body_again, body_plain, shown_body, kind_name-body, reads_kind, reads_cutoffs}
use Rattle.check_reader.proofs.FaultLaws.{fault_takes, fault_again, fault_plain}
use Rattle.check_reader.proofs.SettingsLaws.{settings_takes, settings_again, settings_plain}

-- ---- shapes of lines

reads_u8 : Reads (number_at (2 ^ 8)) (λ n. decimal n ∷ []) (λ n. n < 2 ^ 8)
reads_u8 = reads_numbers (2 ^ 8) wide8

reads_u32 : Reads (number_at (2 ^ 32)) (λ n. decimal n ∷ []) (λ n. n < 2 ^ 32)
reads_u32 = reads_numbers (2 ^ 32) wide32

reads_u64 : Reads (number_at (2 ^ 64)) (λ n. decimal n ∷ []) (λ n. n < 2 ^ 64)
reads_u64 = reads_numbers (2 ^ 64) wide64

reads_ids : Reads id_at (λ id. id_word id ∷ []) FitsId
reads_ids = reads_word id_of id_word FitsId reads_id

reads_bytes : Reads hex_at (λ bytes. hex_word bytes ∷ []) IsBytes
reads_bytes = reads_word hex_of hex_word IsBytes reads_hex

two_u64 : Reads (number_at (2 ^ 64) ⊗ number_at (2 ^ 64)) (λ x. decimal x.0 ∷ decimal x.1 ∷ []) (λ x. (x.0 < 2 ^ 64) × (x.1 < 2 ^ 64))
two_u64 = reads_both (number_at (2 ^ 64)) (number_at (2 ^ 64)) (λ n. decimal n ∷ []) (λ n. decimal n ∷ []) _ _ reads_u64 reads_u64

two_u32 : Reads (number_at (2 ^ 32) ⊗ number_at (2 ^ 32)) (λ x. decimal x.0 ∷ decimal x.1 ∷ []) (λ x. (x.0 < 2 ^ 32) × (x.1 < 2 ^ 32))
two_u32 = reads_both (number_at (2 ^ 32)) (number_at (2 ^ 32)) (λ n. decimal n ∷ []) (λ n. decimal n ∷ []) _ _ reads_u32 reads_u32

host_u32 : Reads (host_at ⊗ number_at (2 ^ 32)) (λ x. host_word x.0 ∷ decimal x.1 ∷ []) (λ x. FitsHost x.0 × (x.1 < 2 ^ 32))
host_u32 = reads_both host_at (number_at (2 ^ 32)) (λ host. host_word host ∷ []) (λ n. decimal n ∷ []) _ _ reads_hosts reads_u32

host_bytes : Reads (host_at ⊗ hex_at) (λ x. host_word x.0 ∷ hex_word x.1 ∷ []) (λ x. FitsHost x.0 × IsBytes x.1)
host_bytes = reads_both host_at hex_at (λ host. host_word host ∷ []) (λ bytes. hex_word bytes ∷ []) _ _ reads_hosts reads_bytes

host_two : Reads (host_at ⊗ number_at (2 ^ 64) ⊗ number_at (2 ^ 64)) (λ x. host_word x.0 ∷ decimal x.1.0 ∷ decimal x.1.1 ∷ [])
    (λ x. FitsHost x.0 × ((x.1.0 < 2 ^ 64) × (x.1.1 < 2 ^ 64)))
host_two =
    reads_both host_at (number_at (2 ^ 64) ⊗ number_at (2 ^ 64)) (λ host. host_word host ∷ []) (λ x. decimal x.0 ∷ decimal x.1 ∷ []) _ _ reads_hosts two_u64

id_bytes : Reads (id_at ⊗ hex_at) (λ x. id_word x.0 ∷ hex_word x.1 ∷ []) (λ x. FitsId x.0 × IsBytes x.1)
id_bytes = reads_both id_at hex_at (λ id. id_word id ∷ []) (λ bytes. hex_word bytes ∷ []) _ _ reads_ids reads_bytes

id_why : Reads (id_at ⊗ why_at) (λ x. id_word x.0 ∷ why_word x.1 ∷ []) (λ x. FitsId x.0 × Any x.1)
id_why = reads_both id_at why_at (λ id. id_word id ∷ []) (λ why. why_word why ∷ []) _ _ reads_ids (reads_word why_of why_word Any reads_why)

host_id : Reads (host_at ⊗ id_at) (λ x. host_word x.0 ∷ id_word x.1 ∷ []) (λ x. FitsHost x.0 × FitsId x.1)
host_id = reads_both host_at id_at (λ host. host_word host ∷ []) (λ id. id_word id ∷ []) _ _ reads_hosts reads_ids

host_id_u64 : Reads (host_at ⊗ id_at ⊗ number_at (2 ^ 64)) (λ x. host_word x.0 ∷ id_word x.1.0 ∷ decimal x.1.1 ∷ [])
    (λ x. FitsHost x.0 × (FitsId x.1.0 × (x.1.1 < 2 ^ 64)))
host_id_u64 =
    reads_both host_at (id_at ⊗ number_at (2 ^ 64)) (λ host. host_word host ∷ []) (λ x. id_word x.0 ∷ decimal x.1 ∷ []) _ _ reads_hosts
    (reads_both id_at (number_at (2 ^ 64)) (λ id. id_word id ∷ []) (λ n. decimal n ∷ []) _ _ reads_ids reads_u64)

host_cutoffs : Reads (host_at ⊗ cutoffs_at) (λ x. host_word x.0 ∷ cutoffs_words x.1) (λ x. FitsHost x.0 × FitsCutoffs x.1)
host_cutoffs = reads_both host_at cutoffs_at (λ host. host_word host ∷ []) cutoffs_words _ _ reads_hosts reads_cutoffs

host_host_bytes : Reads (host_at ⊗ host_at ⊗ hex_at) (λ x. host_word x.0 ∷ host_word x.1.0 ∷ hex_word x.1.1 ∷ [])
    (λ x. FitsHost x.0 × (FitsHost x.1.0 × IsBytes x.1.1))
host_host_bytes = reads_both host_at (host_at ⊗ hex_at) (λ host. host_word host ∷ []) (λ x. host_word x.0 ∷ hex_word x.1 ∷ []) _ _ reads_hosts host_bytes

call_fields : Reads (id_at ⊗ host_at ⊗ number_at (2 ^ 8) ⊗ hex_at) (λ x. id_word x.0 ∷ host_word x.1.0 ∷ decimal x.1.1.0 ∷ hex_word x.1.1.1 ∷ [])
    (λ x. FitsId x.0 × (FitsHost x.1.0 × ((x.1.1.0 < 2 ^ 8) × IsBytes x.1.1.1)))
call_fields =
    reads_both id_at (host_at ⊗ number_at (2 ^ 8) ⊗ hex_at) (λ id. id_word id ∷ []) (λ x. host_word x.0 ∷ decimal x.1.0 ∷ hex_word x.1.1 ∷ []) _ _ reads_ids
    (reads_both host_at (number_at (2 ^ 8) ⊗ hex_at) (λ host. host_word host ∷ []) (λ x. decimal x.0 ∷ hex_word x.1 ∷ []) _ _ reads_hosts
    (reads_both (number_at (2 ^ 8)) hex_at (λ n. decimal n ∷ []) (λ bytes. hex_word bytes ∷ []) _ _ reads_u8 reads_bytes))

run_fields : Reads (host_at ⊗ id_at ⊗ number_at (2 ^ 8) ⊗ hex_at ⊗ hex_at ⊗ number_at (2 ^ 32))
    (λ x. host_word x.0 ∷ id_word x.1.0 ∷ decimal x.1.1.0 ∷ hex_word x.1.1.1.0 ∷ hex_word x.1.1.1.1.0 ∷ decimal x.1.1.1.1.1 ∷ [])
    (λ x. FitsHost x.0 × (FitsId x.1.0 × ((x.1.1.0 < 2 ^ 8) × (IsBytes x.1.1.1.0 × (IsBytes x.1.1.1.1.0 × (x.1.1.1.1.1 < 2 ^ 32))))))
run_fields =
    reads_both host_at (id_at ⊗ number_at (2 ^ 8) ⊗ hex_at ⊗ hex_at ⊗ number_at (2 ^ 32)) (λ host. host_word host ∷ [])
    (λ x. id_word x.0 ∷ decimal x.1.0 ∷ hex_word x.1.1.0 ∷ hex_word x.1.1.1.0 ∷ decimal x.1.1.1.1 ∷ []) _ _ reads_hosts
    (reads_both id_at (number_at (2 ^ 8) ⊗ hex_at ⊗ hex_at ⊗ number_at (2 ^ 32)) (λ id. id_word id ∷ [])
    (λ x. decimal x.0 ∷ hex_word x.1.0 ∷ hex_word x.1.1.0 ∷ decimal x.1.1.1 ∷ []) _ _ reads_ids
    (reads_both (number_at (2 ^ 8)) (hex_at ⊗ hex_at ⊗ number_at (2 ^ 32)) (λ n. decimal n ∷ [])
    (λ x. hex_word x.0 ∷ hex_word x.1.0 ∷ decimal x.1.1 ∷ []) _ _ reads_u8
    (reads_both hex_at (hex_at ⊗ number_at (2 ^ 32)) (λ bytes. hex_word bytes ∷ []) (λ x. hex_word x.0 ∷ decimal x.1 ∷ []) _ _ reads_bytes
    (reads_both hex_at (number_at (2 ^ 32)) (λ bytes. hex_word bytes ∷ []) (λ n. decimal n ∷ []) _ _ reads_bytes reads_u32))))

-- ---- a packet that is sent

abbrev Head : Type 0
Head = ℕ × ((HostId × HostId) × (ℕ × (Kind × (Role × CallId))))

abbrev head_words : Head → List (List ℕ)
head_words x = decimal x.0 ∷ route_text x.1.0 ∷ decimal x.1.1.0 ∷ kind_name x.1.1.1.0 ∷ role_word x.1.1.1.1.0 ∷ id_word x.1.1.1.1.1 ∷ []

abbrev FitsHead : Head → Type 0
FitsHead x = (x.0 < 2 ^ 64) × (FitsRoute x.1.0 × ((x.1.1.0 < 2 ^ 32) × (Any x.1.1.1.0 × (Any x.1.1.1.1.0 × FitsId x.1.1.1.1.1))))

reads_head : Reads (number_at (2 ^ 64) ⊗ route_at ⊗ number_at (2 ^ 32) ⊗ word_at kind_of ⊗ role_at ⊗ id_at) head_words FitsHead
reads_head =
    reads_both (number_at (2 ^ 64)) (route_at ⊗ number_at (2 ^ 32) ⊗ word_at kind_of ⊗ role_at ⊗ id_at) (λ n. decimal n ∷ [])
    (λ x. route_text x.0 ∷ decimal x.1.0 ∷ kind_name x.1.1.0 ∷ role_word x.1.1.1.0 ∷ id_word x.1.1.1.1 ∷ []) _ _ reads_u64
    (reads_both route_at (number_at (2 ^ 32) ⊗ word_at kind_of ⊗ role_at ⊗ id_at) (λ route. route_text route ∷ [])
    (λ x. decimal x.0 ∷ kind_name x.1.0 ∷ role_word x.1.1.0 ∷ id_word x.1.1.1 ∷ []) _ _ (reads_word route_of route_text FitsRoute reads_route)
    (reads_both (number_at (2 ^ 32)) (word_at kind_of ⊗ role_at ⊗ id_at) (λ n. decimal n ∷ [])
    (λ x. kind_name x.0 ∷ role_word x.1.0 ∷ id_word x.1.1 ∷ []) _ _ reads_u32
    (reads_both (word_at kind_of) (role_at ⊗ id_at) (λ kind. kind_name kind ∷ []) (λ x. role_word x.0 ∷ id_word x.1 ∷ []) _ _
    (reads_word kind_of kind_name Any reads_kind)
    (reads_both role_at id_at (λ role. role_word role ∷ []) (λ id. id_word id ∷ []) _ _ (reads_word role_of role_word Any reads_role) reads_ids))))

-- ---- what words tell

-- the entry has this line
pub record TellsEntry (words : List (List ℕ)) (e : PlainEntry) : Type 0 where
  pub line : words ≡ entry_words e
  pub fits : Fits e
  pub usual : IsUsual e

tells_by : (name : List ℕ) (words others : List (List ℕ)) (x e : PlainEntry) → words ≡ others → x ≡ e → TellsEntry (name ∷ others) x
    → TellsEntry (name ∷ words) e
tells_by name words others x e line made t = subst (TellsEntry (name ∷ words)) made (subst (λ (ws : List (List ℕ)). TellsEntry (name ∷ ws) x) (sym line) t)

tells_whole : {A : Type 0} (name : List ℕ) (make : A → PlainEntry) (read : List (List ℕ) → Option (A × List (List ℕ))) (s : A → List (List ℕ))
    (P : A → Type 0) → Reads read s P → ((x : A) → P x → TellsEntry (name ∷ s x) (make x)) → (words : List (List ℕ)) (e : PlainEntry)
    → whole make read words ≡ Some e → TellsEntry (name ∷ words) e
tells_whole name make read s P r tells words e h =
    let t = whole_takes make read s P r words e h in
    tells_by name words (s t.value) (make t.value) e t.words_of t.made (tells t.value t.fits)

send_told : (x : Head) (told : ℕ × Body × List ℕ) (rest : List (List ℕ)) → FitsHead x → Tells x.1.1.1.0 rest told
    → TellsEntry (codes "send" ∷ (head_words x ++ rest)) (PlainSend x.0 x.1.0.0 x.1.0.1 x.1.1.0 x.1.1.1.1.0 x.1.1.1.1.1 told.0 told.1 told.2)
send_told x told rest fits t = record {
  line = rw (t.name, t.line) refl;
  fits = (fits.0, fits.1.0, fits.1.1.0, fits.1.1.1.1.1, t.level, t.fits, t.bytes);
  usual = t.usual;
}

send_takes : (words : List (List ℕ)) (e : PlainEntry) → send_in words ≡ Some e → TellsEntry (codes "send" ∷ words) e
unfolding send_in
send_takes words e h =
    let a = bind_some ((number_at (2 ^ 64) ⊗ route_at ⊗ number_at (2 ^ 32) ⊗ word_at kind_of ⊗ role_at ⊗ id_at) words) _ e h in
    let b = bind_some (body_in a.0.0.1.1.1.0 a.0.1) _ e a.2 in
    let took = reads_head.takes words a.0.0 a.0.1 a.1 in
    tells_by (codes "send") words _ _ e took.0 (some_is _ e b.2) (send_told a.0.0 b.0 a.0.1 took.1 (body_takes a.0.0.1.1.1.0 a.0.1 b.0 b.1))

-- ---- a host that has no room

lack_takes : (word : List ℕ) (lack : Lack) → lack_of word ≡ Some lack → (lack_name lack ≡ word) × Any lack
unfolding lack_of
lack_takes word lack e = one_of-takes lack_name Any (Rows ∷ Pages ∷ []) word lack (tt, (tt, tt)) e

lack_again : (lack : Lack) → Any lack → lack_of (lack_name lack) ≡ Some lack
unfolding lack_of
lack_again Rows any = refl
lack_again Pages any = refl

lack_plain : (lack : Lack) → Any lack → HasNoBlank (lack_name lack)
lack_plain Rows any = refl
lack_plain Pages any = refl

lack_fields : Reads (word_at lack_of ⊗ number_at (2 ^ 32) ⊗ number_at (2 ^ 32)) (λ x. lack_name x.0 ∷ decimal x.1.0 ∷ decimal x.1.1 ∷ [])
    (λ x. Any x.0 × ((x.1.0 < 2 ^ 32) × (x.1.1 < 2 ^ 32)))
lack_fields =
    reads_both (word_at lack_of) (number_at (2 ^ 32) ⊗ number_at (2 ^ 32)) (λ lack. lack_name lack ∷ []) (λ x. decimal x.0 ∷ decimal x.1 ∷ []) _ _
    (reads_word lack_of lack_name Any (record { takes = lack_takes; again = lack_again; plain = lack_plain })) two_u32

full_told : (host : HostId) (id : CallId) (lack : Lack) (a b : ℕ) → FitsHost host → FitsId id → a < 2 ^ 32 → b < 2 ^ 32
    → TellsEntry (codes "full" ∷ host_word host ∷ id_word id ∷ lack_name lack ∷ decimal a ∷ decimal b ∷ []) (full_entry host id (lack, a, b))
full_told host id Rows a b h i x y = record { line = refl; fits = (h, i, x, y); usual = tt }
full_told host id Pages a b h i x y = record { line = refl; fits = (h, i, x, y); usual = tt }

full_takes : (words : List (List ℕ)) (e : PlainEntry) → full_in words ≡ Some e → TellsEntry (codes "full" ∷ words) e
unfolding full_in lack_in
full_takes words e h =
    let a = bind_some ((host_at ⊗ id_at) words) _ e h in
    let b = bind_some (lack_in a.0.1) _ e a.2 in
    let first = host_id.takes words a.0.0 a.0.1 a.1 in
    let t = whole_takes (λ x. (x.0, x.1.0, x.1.1)) (word_at lack_of ⊗ number_at (2 ^ 32) ⊗ number_at (2 ^ 32)) _ _ lack_fields a.0.1 b.0 b.1 in
    let line : words ≡ host_word a.0.0.0 ∷ id_word a.0.0.1 ∷ lack_name t.value.0 ∷ decimal t.value.1.0 ∷ decimal t.value.1.1 ∷ [] =
    first.0 ∙ ap (λ (ws : List (List ℕ)). host_word a.0.0.0 ∷ id_word a.0.0.1 ∷ ws) t.words_of in
    tells_by (codes "full") words _ _ e line (ap (full_entry a.0.0.0 a.0.0.1) t.made ∙ some_is _ e b.2)
    (full_told a.0.0.0 a.0.0.1 t.value.0 t.value.1.0 t.value.1.1 first.1.0 first.1.1 t.fits.1.0 t.fits.1.1)

-- ---- refusals and settings

refused_takes : (words : List (List ℕ)) (e : PlainEntry) → refused_in words ≡ Some e → TellsEntry (codes "refused" ∷ words) e
unfolding refused_in
refused_takes words e h =
    let a = bind_some (number_at (2 ^ 64) words) _ e h in
    let b = bind_some (fault_in a.0.1) _ e a.2 in
    let first = reads_u64.takes words a.0.0 a.0.1 a.1 in
    let t = fault_takes a.0.1 b.0 b.1 in
    tells_by (codes "refused") words _ _ e (first.0 ∙ ap (λ (ws : List (List ℕ)). decimal a.0.0 ∷ ws) t.0) (some_is (PlainRefused a.0.0 b.0) e b.2)
    (record { line = refl; fits = (first.1, t.1); usual = tt })

settings_take : (words : List (List ℕ)) (e : PlainEntry) → (settings_in words >>= λ s. Some (PlainSettings s)) ≡ Some e
    → TellsEntry (codes "settings" ∷ words) e
settings_take words e h =
    let a = bind_some (settings_in words) _ e h in
    let t = settings_takes words a.0 a.1 in
    tells_by (codes "settings") words _ _ e t.0 (some_is (PlainSettings a.0) e a.2) (record { line = refl; fits = t.1; usual = tt })

-- ---- every line

form_takes : (form : Form) (words : List (List ℕ)) (e : PlainEntry) → form_in form words ≡ Some e → TellsEntry (form_name form ∷ words) e
unfolding form_in call_in deliver_in clock_in restart_in inject_in shift_in junk_in stale_in run_in done_in fail_in drop_in gaps_in free_in bury_in
    balance_in recv_in finished_in stalled_in
form_takes Settings words e h = settings_take words e h
form_takes Call words e h = tells_whole (codes "call") (λ x. PlainCall x.0 x.1.0 x.1.1.0 x.1.1.1) _ _ _ call_fields
    (λ x f. record { line = refl; fits = (f.0, f.1.0, f.1.1.0, f.1.1.1); usual = tt }) words e h
form_takes Deliver words e h =
    tells_whole (codes "deliver") (λ n. PlainDeliver n) _ _ _ reads_u64 (λ x f. record { line = refl; fits = f; usual = tt }) words e h
form_takes Clock words e h = tells_whole (codes "clock") (λ n. PlainClock n) _ _ _ reads_u64 (λ x f. record { line = refl; fits = f; usual = tt }) words e h
form_takes Restart words e h =
    tells_whole (codes "restart") (λ x. PlainRestart x.0 x.1) _ _ _ host_u32 (λ x f. record { line = refl; fits = f; usual = tt }) words e h
form_takes Inject words e h =
    tells_whole (codes "inject") (λ x. PlainInject x.0 x.1) _ _ _ host_bytes (λ x f. record { line = refl; fits = f; usual = tt }) words e h
form_takes Shift words e h =
    tells_whole (codes "shift") (λ x. PlainShift x.0 x.1) _ _ _ host_u32 (λ x f. record { line = refl; fits = f; usual = tt }) words e h
form_takes Junk words e h =
    tells_whole (codes "junk") (λ host. PlainJunk host) _ _ _ reads_hosts (λ x f. record { line = refl; fits = f; usual = tt }) words e h
form_takes Stale words e h = tells_whole (codes "stale") (λ x. PlainStale x.0 x.1.0 x.1.1) _ _ _ host_two
    (λ x f. record { line = refl; fits = (f.0, f.1.0, f.1.1); usual = tt }) words e h
form_takes Send words e h = send_takes words e h
form_takes Run words e h = tells_whole (codes "run") (λ x. PlainRun x.0 x.1.0 x.1.1.0 x.1.1.1.0 x.1.1.1.1.0 x.1.1.1.1.1) _ _ _ run_fields
    (λ x f. record { line = refl; fits = (f.0, f.1.0, f.1.1.0, f.1.1.1.0, f.1.1.1.1.0, f.1.1.1.1.1); usual = tt }) words e h
form_takes Done words e h = tells_whole (codes "done") (λ x. PlainDone x.0 x.1) _ _ _ id_bytes (λ x f. record { line = refl; fits = f; usual = tt }) words e h
form_takes Fail words e h = tells_whole (codes "fail") (λ x. PlainFail x.0 x.1) _ _ _ id_why (λ x f. record { line = refl; fits = f.0; usual = tt }) words e h
form_takes Drop words e h = tells_whole (codes "drop") (λ x. PlainDrop x.0 x.1) _ _ _ host_id (λ x f. record { line = refl; fits = f; usual = tt }) words e h
form_takes Gaps words e h = tells_whole (codes "gaps") (λ x. PlainGaps x.0 x.1) _ _ _ host_id (λ x f. record { line = refl; fits = f; usual = tt }) words e h
form_takes Bury words e h = tells_whole (codes "bury") (λ x. PlainBury x.0 x.1.0 x.1.1) _ _ _ host_id_u64
    (λ x f. record { line = refl; fits = (f.0, f.1.0, f.1.1); usual = tt }) words e h
form_takes Free words e h = tells_whole (codes "free") (λ x. PlainFree x.0 x.1) _ _ _ host_id (λ x f. record { line = refl; fits = f; usual = tt }) words e h
form_takes Full words e h = full_takes words e h
form_takes Balance words e h =
    tells_whole (codes "balance") (λ x. PlainBalance x.0 x.1) _ _ _ host_cutoffs (λ x f. record { line = refl; fits = f; usual = tt }) words e h
form_takes Recv words e h = tells_whole (codes "recv") (λ x. PlainRecv x.0 x.1.0 x.1.1) _ _ _ host_host_bytes
    (λ x f. record { line = refl; fits = (f.0, f.1.0, f.1.1); usual = tt }) words e h
form_takes Finished words e h = tells_whole (codes "ok") (λ n. PlainFinished n) _ _ _ reads_u64 (λ x f. record { line = refl; fits = f; usual = tt }) words e h
form_takes Refused words e h = refused_takes words e h
form_takes Stalled words e h =
    tells_whole (codes "stalled") (λ x. PlainStalled x.0 x.1) _ _ _ two_u64 (λ x f. record { line = refl; fits = f; usual = tt }) words e h

form_of-takes : (word : List ℕ) (form : Form) → form_of word ≡ Some form → (form_name form ≡ word) × Any form
unfolding form_of
form_of-takes word form e =
    one_of-takes form_name Any forms word form
    (tt, (tt, (tt, (tt, (tt, (tt, (tt, (tt, (tt, (tt, (tt, (tt, (tt, (tt, (tt, (tt, (tt, (tt, (tt, (tt, (tt, (tt, (tt, tt))))))))))))))))))))))) e

entry_takes : (words : List (List ℕ)) (e : PlainEntry) → entry_in words ≡ Some e → TellsEntry words e
unfolding entry_in
entry_takes [] e h = absurd (none-some e h)
entry_takes (word ∷ words) e h =
    let a = bind_some (form_of word) _ e h in
    let name = form_of-takes word a.0 a.1 in
    subst (λ (w : List ℕ). TellsEntry (w ∷ words) e) name.0 (form_takes a.0 words e a.2)

-- ---- what entries tell

-- an entry, as its line tells it
abbrev pub shown : PlainEntry → PlainEntry
shown (PlainSend number from to inc role id level what payload) =
    let told = shown_body level what payload in PlainSend number from to inc role id told.0 told.1 told.2
shown e = e

record Again (e : PlainEntry) : Type 0 where
  read : entry_in (entry_words e) ≡ Some (shown e)
  plain : ArePlain (entry_words e)
  some : 0 < length (entry_words e)

again_whole : {A : Type 0} (make : A → PlainEntry) (read : List (List ℕ) → Option (A × List (List ℕ))) (s : A → List (List ℕ)) (P : A → Type 0)
    → Reads read s P → (x : A) → P x → (whole make read (s x) ≡ Some (make x)) × ArePlain (s x)
again_whole make read s P r x fits = (whole_again make read s P r x fits, r.plain x fits)

send_again : (number : ℕ) (from to : HostId) (inc : ℕ) (role : Role) (id : CallId) (level : ℕ) (what : Body) (payload : List ℕ)
    → Fits (PlainSend number from to inc role id level what payload)
    → (send_in (head_words (number, ((from, to), (inc, (body_kind what, (role, id))))) ++ body_words level what payload) ≡ Some
    (shown (PlainSend number from to inc role id level what payload)))
    × ArePlain (head_words (number, ((from, to), (inc, (body_kind what, (role, id))))) ++ body_words level what payload)
unfolding send_in
send_again number from to inc role id level what payload f =
    let head : Head = (number, ((from, to), (inc, (body_kind what, (role, id))))) in
    let fits : FitsHead head = (f.0, (f.1, (f.2, (tt, (tt, f.3))))) in
    let plain = reads_head.plain head fits in (
      rw (reads_head.again head (body_words level what payload) fits, body_again level what payload f.4 f.5 f.6) refl,
      (plain.0, (plain.1.0, (plain.1.1.0, (plain.1.1.1.0, (plain.1.1.1.1.0, (plain.1.1.1.1.1.0, body_plain level what payload f.4 f.5 f.6)))))),
    )

lack_again_in : (host : HostId) (id : CallId) (lack : Lack) (a b : ℕ) → FitsHost host → FitsId id → a < 2 ^ 32 → b < 2 ^ 32
    → (full_in (host_word host ∷ id_word id ∷ lack_name lack ∷ decimal a ∷ decimal b ∷ []) ≡ Some (full_entry host id (lack, a, b)))
    × ArePlain (host_word host ∷ id_word id ∷ lack_name lack ∷ decimal a ∷ decimal b ∷ [])
unfolding full_in lack_in
lack_again_in host id lack a b h i x y =
    let first = host_id.plain (host, id) (h, i) in (
      rw (
        host_id.again (host, id) (lack_name lack ∷ decimal a ∷ decimal b ∷ []) (h, i),
        whole_again {B = Lack × ℕ × ℕ} (λ x. (x.0, x.1.0, x.1.1)) (word_at lack_of ⊗ number_at (2 ^ 32) ⊗ number_at (2 ^ 32)) _ _ lack_fields
            (lack, (a, b)) (tt, (x, y)),
      ) refl,
      (first.0, (first.1.0, lack_fields.plain (lack, (a, b)) (tt, (x, y)))),
    )

refused_again : (line : ℕ) (fault : LineFault) → line < 2 ^ 64 → FitsFault fault
    → refused_in (decimal line ∷ fault_words fault) ≡ Some (PlainRefused line fault)
unfolding refused_in
refused_again line fault l f = rw (reads_u64.again line (fault_words fault) l, fault_again fault f) refl

again_by : (form : Form) (words : List (List ℕ)) (e x : PlainEntry) → entry_words e ≡ form_name form ∷ words → shown e ≡ x
    → form_of (form_name form) ≡ Some form → HasNoBlank (form_name form) → (form_in form words ≡ Some x) × ArePlain words → Again e
unfolding entry_in
again_by form words e x line is name plain t = record {
  read = ap entry_in line ∙ (rw (name, is) t.0);
  plain = subst ArePlain (sym line) (plain, t.1);
  some = omega (arith, ap (λ (ws : List (List ℕ)). length ws) line);
}

entry_again : (e : PlainEntry) → Fits e → Again e
unfolding form_of form_in call_in deliver_in clock_in restart_in inject_in shift_in junk_in stale_in run_in done_in fail_in drop_in gaps_in free_in
    bury_in balance_in recv_in finished_in stalled_in
entry_again (PlainSettings settings) f =
    again_by Settings _ (PlainSettings settings) _ refl refl refl refl (rw (settings_again settings f) refl, settings_plain settings f)
entry_again (PlainCall id server service bytes) f = again_by Call _ (PlainCall id server service bytes) _ refl refl refl refl
    (again_whole (λ x. PlainCall x.0 x.1.0 x.1.1.0 x.1.1.1) _ _ _ call_fields (id, (server, (service, bytes))) (f.0, (f.1, (f.2, f.3))))
entry_again (PlainDeliver packet) f =
    again_by Deliver _ (PlainDeliver packet) _ refl refl refl refl (again_whole (λ n. PlainDeliver n) _ _ _ reads_u64 packet f)
entry_again (PlainClock tick) f = again_by Clock _ (PlainClock tick) _ refl refl refl refl (again_whole (λ n. PlainClock n) _ _ _ reads_u64 tick f)
entry_again (PlainRestart host inc) f =
    again_by Restart _ (PlainRestart host inc) _ refl refl refl refl (again_whole (λ x. PlainRestart x.0 x.1) _ _ _ host_u32 (host, inc) f)
entry_again (PlainInject host bytes) f =
    again_by Inject _ (PlainInject host bytes) _ refl refl refl refl (again_whole (λ x. PlainInject x.0 x.1) _ _ _ host_bytes (host, bytes) f)
entry_again (PlainShift host n) f =
    again_by Shift _ (PlainShift host n) _ refl refl refl refl (again_whole (λ x. PlainShift x.0 x.1) _ _ _ host_u32 (host, n) f)
entry_again (PlainJunk host) f = again_by Junk _ (PlainJunk host) _ refl refl refl refl (again_whole (λ host. PlainJunk host) _ _ _ reads_hosts host f)
entry_again (PlainStale host at now) f = again_by Stale _ (PlainStale host at now) _ refl refl refl refl
    (again_whole (λ x. PlainStale x.0 x.1.0 x.1.1) _ _ _ host_two (host, (at, now)) (f.0, (f.1, f.2)))
entry_again (PlainSend number from to inc role id level what payload) f =
    again_by Send _ (PlainSend number from to inc role id level what payload) _
    (rw (kind_name-body what) refl) refl refl refl (send_again number from to inc role id level what payload f)
entry_again (PlainRun host id service request response hold) f = again_by Run _ (PlainRun host id service request response hold) _ refl refl refl refl
    (again_whole (λ x. PlainRun x.0 x.1.0 x.1.1.0 x.1.1.1.0 x.1.1.1.1.0 x.1.1.1.1.1) _ _ _ run_fields
    (host, (id, (service, (request, (response, hold))))) (f.0, (f.1, (f.2, (f.3, (f.4, f.5))))))
entry_again (PlainDone id bytes) f =
    again_by Done _ (PlainDone id bytes) _ refl refl refl refl (again_whole (λ x. PlainDone x.0 x.1) _ _ _ id_bytes (id, bytes) f)
entry_again (PlainFail id why) f =
    again_by Fail _ (PlainFail id why) _ refl refl refl refl (again_whole (λ x. PlainFail x.0 x.1) _ _ _ id_why (id, why) (f, tt))
entry_again (PlainDrop host id) f = again_by Drop _ (PlainDrop host id) _ refl refl refl refl (again_whole (λ x. PlainDrop x.0 x.1) _ _ _ host_id (host, id) f)
entry_again (PlainGaps host id) f = again_by Gaps _ (PlainGaps host id) _ refl refl refl refl (again_whole (λ x. PlainGaps x.0 x.1) _ _ _ host_id (host, id) f)
entry_again (PlainBury host id until) f = again_by Bury _ (PlainBury host id until) _ refl refl refl refl
    (again_whole (λ x. PlainBury x.0 x.1.0 x.1.1) _ _ _ host_id_u64 (host, (id, until)) (f.0, (f.1, f.2)))
entry_again (PlainFree host id) f = again_by Free _ (PlainFree host id) _ refl refl refl refl (again_whole (λ x. PlainFree x.0 x.1) _ _ _ host_id (host, id) f)
entry_again (PlainFullRows host id rows limit) f =
    again_by Full _ (PlainFullRows host id rows limit) _ refl refl refl refl (lack_again_in host id Rows rows limit f.0 f.1 f.2 f.3)
entry_again (PlainFullPages host id need free) f =
    again_by Full _ (PlainFullPages host id need free) _ refl refl refl refl (lack_again_in host id Pages need free f.0 f.1 f.2 f.3)
entry_again (PlainBalance host cutoffs) f =
    again_by Balance _ (PlainBalance host cutoffs) _ refl refl refl refl (again_whole (λ x. PlainBalance x.0 x.1) _ _ _ host_cutoffs (host, cutoffs) f)
entry_again (PlainRecv host from bytes) f = again_by Recv _ (PlainRecv host from bytes) _ refl refl refl refl
    (again_whole (λ x. PlainRecv x.0 x.1.0 x.1.1) _ _ _ host_host_bytes (host, (from, bytes)) (f.0, (f.1, f.2)))
entry_again (PlainFinished n) f = again_by Finished _ (PlainFinished n) _ refl refl refl refl (again_whole (λ n. PlainFinished n) _ _ _ reads_u64 n f)
entry_again (PlainRefused line fault) f = again_by Refused _ (PlainRefused line fault) _ refl refl refl refl
    (refused_again line fault f.0 f.1, ((reads_u64.plain line f.0).0, fault_plain fault f.1))
entry_again (PlainStalled turns now) f =
    again_by Stalled _ (PlainStalled turns now) _ refl refl refl refl (again_whole (λ x. PlainStalled x.0 x.1) _ _ _ two_u64 (turns, now) f)

-- ---- lines

-- the entry has this line, without its line feed
pub record HasLine (line : List ℕ) (e : PlainEntry) : Type 0 where
  pub text : line_text e ≡ line ++ 10 ∷ []
  pub fits : Fits e
  pub usual : IsUsual e

pub entry_of-takes : (line : List ℕ) (e : PlainEntry) → entry_of line ≡ Some e → HasLine line e
unfolding entry_of line_text
entry_of-takes line e h =
    let t = entry_takes (parts 32 line) e h in record {
      text = ap (λ (w : List ℕ). w ++ 10 ∷ []) (ap (join_with_byte 32) (sym t.line) ∙ join_with_byte-slice_split 32 line);
      fits = t.fits;
      usual = t.usual;
    }

pub entry_of-again : (line : List ℕ) (e : PlainEntry) → Fits e → line_text e ≡ line ++ 10 ∷ [] → entry_of line ≡ Some (shown e)
unfolding entry_of line_text
entry_of-again line e f h =
    let a = entry_again e f in
    let same : join_with_byte 32 (entry_words e) ≡ line = append_cancel_right (join_with_byte 32 (entry_words e)) line (10 ∷ []) h in
    ap (λ (l : List ℕ). entry_in (parts 32 l)) (sym same)
    ∙ (ap entry_in (parts-joined 32 (entry_words e) a.some (ArePlain-no 32 refl (entry_words e) a.plain)) ∙ a.read)

-- ---- one entry, one line

bare_shown : (number : ℕ) (from to : HostId) (inc : ℕ) (role : Role) (id : CallId) (level : ℕ) (what : Body) (payload : List ℕ) → IsBare level payload
    → PlainSend number from to inc role id 7 what [] ≡ PlainSend number from to inc role id level what payload
bare_shown number from to inc role id level what payload h =
    ap (λ (l : ℕ). PlainSend number from to inc role id l what []) (sym h.0)
    ∙ ap (λ (bytes : List ℕ). PlainSend number from to inc role id level what bytes) (sym h.1)

shown_usual : (e : PlainEntry) → IsUsual e → shown e ≡ e
shown_usual (PlainSend number from to inc role id level (body.Data size offset version service ack) payload) u = refl
shown_usual (PlainSend number from to inc role id level (body.Grant offset prio) payload) u =
    bare_shown number from to inc role id level (body.Grant offset prio) payload u
shown_usual (PlainSend number from to inc role id level (body.Resend a b prio) payload) u =
    bare_shown number from to inc role id level (body.Resend a b prio) payload u
shown_usual (PlainSend number from to inc role id level body.Busy payload) u = bare_shown number from to inc role id level body.Busy payload u
shown_usual (PlainSend number from to inc role id level (body.Cutoffs cutoffs) payload) u =
    bare_shown number from to inc role id level (body.Cutoffs cutoffs) payload u
shown_usual (PlainSend number from to inc role id level (body.Unknown reason) payload) u =
    bare_shown number from to inc role id level (body.Unknown reason) payload u
shown_usual (PlainSend number from to inc role id level body.NeedAck payload) u = bare_shown number from to inc role id level body.NeedAck payload u
shown_usual (PlainSend number from to inc role id level (body.Ack more) payload) u = bare_shown number from to inc role id level (body.Ack more) payload u
shown_usual e u = refl

pub one_entry : (e f : PlainEntry) → Fits e → Fits f → IsUsual e → IsUsual f → line_text e ≡ line_text f → e ≡ f
unfolding line_text
one_entry e f fits fits' u v h =
    let line = join_with_byte 32 (entry_words e) in
    let read = entry_of-again line e fits refl in
    let read' = entry_of-again line f fits' (sym h) in
    let same = some_is (shown e) (shown f) (sym read ∙ read') in
    sym (shown_usual e u) ∙ same ∙ shown_usual f v

feed_none : (bytes : List ℕ) → HasNo 10 bytes → has_no_feed bytes ≡ true
feed_none [] h = refl
feed_none (b ∷ bytes) h =
    let p = or_parts (b == 10) (list_any (λ c. c == 10) bytes) h in
    rw p.0 (feed_none bytes p.1)

joined_none : (words : List (List ℕ)) → AllByRecursion (HasNo 10) words → HasNo 10 (join_with_byte 32 words)
joined_none [] h = refl
joined_none (word ∷ []) h = h.0
joined_none (word ∷ next ∷ words) h = none-append (λ c. c == 10) word (32 ∷ join_with_byte 32 (next ∷ words)) h.0 (joined_none (next ∷ words) h.1)

pub one_line : (e : PlainEntry) → Fits e → ends_in_feed (line_text e) ≡ true
unfolding line_text
one_line e fits =
    let a = entry_again e fits in
    ends_in_feed-feed (join_with_byte 32 (entry_words e))
    (feed_none (join_with_byte 32 (entry_words e)) (joined_none (entry_words e) (ArePlain-no 10 refl (entry_words e) a.plain)))

-- ---- what was read of a line

pub read-text : {A : Type 0} (plain : A → PlainEntry) (read : Option A) (line : List ℕ) → option_map plain read ≡ entry_of line
    → IfSome read (λ e. line_text (plain e) ≡ line ++ 10 ∷ [])
read-text plain None line h = tt
read-text plain (Some e) line h = (entry_of-takes line (plain e) (sym h)).text

pub read-fits : {A : Type 0} (plain : A → PlainEntry) (read : Option A) (line : List ℕ) → option_map plain read ≡ entry_of line
    → IfSome read (λ e. Fits (plain e))
read-fits plain None line h = tt
read-fits plain (Some e) line h = (entry_of-takes line (plain e) (sym h)).fits

pub read-usual : {A : Type 0} (plain : A → PlainEntry) (read : Option A) (line : List ℕ) → option_map plain read ≡ entry_of line
    → IfSome read (λ e. IsUsual (plain e))
read-usual plain None line h = tt
read-usual plain (Some e) line h = (entry_of-takes line (plain e) (sym h)).usual

pub read-none : {A : Type 0} (plain : A → PlainEntry) (read : Option A) (line : List ℕ) → option_map plain read ≡ entry_of line
    → IfNone read ((e : PlainEntry) → Fits e → line_text e ≡ line ++ 10 ∷ [] → ⊥)
read-none plain None line h = λ e fits text. none-some (shown e) (h ∙ entry_of-again line e fits text)
read-none plain (Some e) line h = tt
