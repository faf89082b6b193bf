-- The lines of packets, by the parts that are added one after another.
use Rattle.std.proofs.Common.{◌≡◌, ◌<◌, ℕ, arith, length, List, [], ◌∷◌, ◌++◌, codes, decimal, refl, ap, sym, ◌∙◌, append_assoc}
use Rattle.std.specs.List.{join_with_byte}
use Rattle.homa_plain.specs.Entries.{PlainCall, PlainInject, PlainRun, PlainDone, PlainBury, PlainFree}
use Rattle.homa_plain.specs.Text.{line_text, line_of_words, hex_word, route_word, role_word, id_word, ack_word, kind_word, body_words}
use Rattle.homa_plain.specs.declared.packet.Body.{Body}
use Rattle.homa_plain.specs.declared.id.CallId.{CallId}
use Rattle.homa_plain.specs.declared.id.HostId.{HostId}
use Rattle.homa_text.specs.declared.frequent_lines.Head.{Head}
use Rattle.homa_text.specs.declared.frequent_lines.Piece.{Piece}
use Rattle.hex.specs.Hex.{encode_lower}
use Rattle.written_lines.proofs.Texts.{part_on}
use Rattle.homa_text.specs.FrequentLines.{head_text, piece_text, grant_sent, piece_sent, packet_sent, spaced_text}

-- three parts that were added
pub three_parts : (old i1 i2 i3 x1 x2 x3 all : List ℕ) → i1 ≡ old ++ x1 → i2 ≡ i1 ++ x2 → i3 ≡ i2 ++ x3 → x1 ++ (x2 ++ x3) ≡ all → i3 ≡ old ++ all
three_parts old i1 i2 i3 x1 x2 x3 all e1 e2 e3 same =
    part_on i2 i3 old (x1 ++ x2) x3 all (part_on i1 i2 old x1 x2 (x1 ++ x2) e1 e2 refl) e3 (append_assoc x1 x2 x3 ∙ same)

-- four parts that were added
pub four_parts : (old i1 i2 i3 i4 x1 x2 x3 x4 all : List ℕ) → i1 ≡ old ++ x1 → i2 ≡ i1 ++ x2 → i3 ≡ i2 ++ x3 → i4 ≡ i3 ++ x4
    → x1 ++ (x2 ++ (x3 ++ x4)) ≡ all → i4 ≡ old ++ all
four_parts old i1 i2 i3 i4 x1 x2 x3 x4 all e1 e2 e3 e4 same =
    let front = three_parts old i1 i2 i3 x1 x2 x3 (x1 ++ (x2 ++ x3)) e1 e2 e3 refl in
    let joined : (x1 ++ (x2 ++ x3)) ++ x4 ≡ x1 ++ (x2 ++ (x3 ++ x4)) = simp append_assoc in
    part_on i3 i4 old (x1 ++ (x2 ++ x3)) x4 all front e4 (joined ∙ same)

-- five parts that were added
pub five_parts : (old i1 i2 i3 i4 i5 x1 x2 x3 x4 x5 all : List ℕ) → i1 ≡ old ++ x1 → i2 ≡ i1 ++ x2 → i3 ≡ i2 ++ x3 → i4 ≡ i3 ++ x4 → i5 ≡ i4 ++ x5
    → x1 ++ (x2 ++ (x3 ++ (x4 ++ x5))) ≡ all → i5 ≡ old ++ all
five_parts old i1 i2 i3 i4 i5 x1 x2 x3 x4 x5 all e1 e2 e3 e4 e5 same =
    let front = four_parts old i1 i2 i3 i4 x1 x2 x3 x4 (x1 ++ (x2 ++ (x3 ++ x4))) e1 e2 e3 e4 refl in
    let joined : (x1 ++ (x2 ++ (x3 ++ x4))) ++ x5 ≡ x1 ++ (x2 ++ (x3 ++ (x4 ++ x5))) = simp append_assoc in
    part_on i4 i5 old (x1 ++ (x2 ++ (x3 ++ x4))) x5 all front e5 (joined ∙ same)

-- six parts that were added
pub six_parts : (old i1 i2 i3 i4 i5 i6 x1 x2 x3 x4 x5 x6 all : List ℕ) → i1 ≡ old ++ x1 → i2 ≡ i1 ++ x2 → i3 ≡ i2 ++ x3 → i4 ≡ i3 ++ x4
    → i5 ≡ i4 ++ x5 → i6 ≡ i5 ++ x6
    → x1 ++ (x2 ++ (x3 ++ (x4 ++ (x5 ++ x6)))) ≡ all → i6 ≡ old ++ all
six_parts old i1 i2 i3 i4 i5 i6 x1 x2 x3 x4 x5 x6 all e1 e2 e3 e4 e5 e6 same =
    let front = five_parts old i1 i2 i3 i4 i5 x1 x2 x3 x4 x5 (x1 ++ (x2 ++ (x3 ++ (x4 ++ x5)))) e1 e2 e3 e4 e5 refl in
    let joined : (x1 ++ (x2 ++ (x3 ++ (x4 ++ x5)))) ++ x6 ≡ x1 ++ (x2 ++ (x3 ++ (x4 ++ (x5 ++ x6)))) = simp append_assoc in
    part_on i5 i6 old (x1 ++ (x2 ++ (x3 ++ (x4 ++ x5)))) x6 all front e6 (joined ∙ same)

-- seven parts that were added
pub seven_parts : (old i1 i2 i3 i4 i5 i6 i7 x1 x2 x3 x4 x5 x6 x7 all : List ℕ) → i1 ≡ old ++ x1 → i2 ≡ i1 ++ x2 → i3 ≡ i2 ++ x3 → i4 ≡ i3 ++ x4
    → i5 ≡ i4 ++ x5 → i6 ≡ i5 ++ x6 → i7 ≡ i6 ++ x7
    → x1 ++ (x2 ++ (x3 ++ (x4 ++ (x5 ++ (x6 ++ x7))))) ≡ all → i7 ≡ old ++ all
seven_parts old i1 i2 i3 i4 i5 i6 i7 x1 x2 x3 x4 x5 x6 x7 all e1 e2 e3 e4 e5 e6 e7 same =
    let front = six_parts old i1 i2 i3 i4 i5 i6 x1 x2 x3 x4 x5 x6 (x1 ++ (x2 ++ (x3 ++ (x4 ++ (x5 ++ x6))))) e1 e2 e3 e4 e5 e6 refl in
    let joined : (x1 ++ (x2 ++ (x3 ++ (x4 ++ (x5 ++ x6))))) ++ x7 ≡ x1 ++ (x2 ++ (x3 ++ (x4 ++ (x5 ++ (x6 ++ x7))))) = simp append_assoc in
    part_on i6 i7 old (x1 ++ (x2 ++ (x3 ++ (x4 ++ (x5 ++ x6))))) x7 all front e7 (joined ∙ same)

-- eight parts that were added
pub eight_parts : (old i1 i2 i3 i4 i5 i6 i7 i8 x1 x2 x3 x4 x5 x6 x7 x8 all : List ℕ) → i1 ≡ old ++ x1 → i2 ≡ i1 ++ x2 → i3 ≡ i2 ++ x3 → i4 ≡ i3 ++ x4
    → i5 ≡ i4 ++ x5 → i6 ≡ i5 ++ x6 → i7 ≡ i6 ++ x7 → i8 ≡ i7 ++ x8
    → x1 ++ (x2 ++ (x3 ++ (x4 ++ (x5 ++ (x6 ++ (x7 ++ x8)))))) ≡ all → i8 ≡ old ++ all
eight_parts old i1 i2 i3 i4 i5 i6 i7 i8 x1 x2 x3 x4 x5 x6 x7 x8 all e1 e2 e3 e4 e5 e6 e7 e8 same =
    let front = seven_parts old i1 i2 i3 i4 i5 i6 i7 x1 x2 x3 x4 x5 x6 x7 (x1 ++ (x2 ++ (x3 ++ (x4 ++ (x5 ++ (x6 ++ x7)))))) e1 e2 e3 e4 e5 e6 e7 refl in
    let joined : (x1 ++ (x2 ++ (x3 ++ (x4 ++ (x5 ++ (x6 ++ x7)))))) ++ x8 ≡ x1 ++ (x2 ++ (x3 ++ (x4 ++ (x5 ++ (x6 ++ (x7 ++ x8)))))) = simp append_assoc in
    part_on i7 i8 old (x1 ++ (x2 ++ (x3 ++ (x4 ++ (x5 ++ (x6 ++ x7)))))) x8 all front e8 (joined ∙ same)

-- words with a space before each but the first, and a line feed behind the last, grouped from the right
abbrev spread : List ℕ → List (List ℕ) → List ℕ
spread w [] = w ++ 10 ∷ []
spread w (v ∷ ws) = w ++ (32 ∷ spread v ws)

line_spread : (w : List ℕ) (ws : List (List ℕ)) → line_of_words (w ∷ ws) ≡ spread w ws
line_spread w [] = refl
line_spread w (v ∷ ws) = append_assoc w (32 ∷ join_with_byte 32 (v ∷ ws)) (10 ∷ []) ∙ ap (λ (l : List ℕ). w ++ (32 ∷ l)) (line_spread v ws)

seven : (a b c d e f g x : List ℕ) → (a ++ b ++ c ++ d ++ e ++ f ++ g) ++ x ≡ a ++ (b ++ (c ++ (d ++ (e ++ (f ++ (g ++ x))))))
seven a b c d e f g x = simp append_assoc

eight : (a b c d e f g h x : List ℕ) → (a ++ b ++ c ++ d ++ e ++ f ++ g ++ h) ++ x ≡ a ++ (b ++ (c ++ (d ++ (e ++ (f ++ (g ++ (h ++ x)))))))
eight a b c d e f g h x = simp append_assoc

head_on : (head : Head) (kind x : List ℕ)
    → head_text head kind ++ x ≡ codes "send"
    ++ ((32 ∷ decimal head.number)
    ++ ((32 ∷ route_word head.from head.to) ++ ((32 ∷ decimal head.inc) ++ (kind ++ (role_word head.role ++ ((32 ∷ id_word head.id) ++ x))))))
head_on head kind x = seven (codes "send") (32 ∷ decimal head.number) (32 ∷ route_word head.from head.to) (32 ∷ decimal head.inc) kind
    (role_word head.role) (32 ∷ id_word head.id) x

pub grant_text : (head : Head) (level offset prio : ℕ) (payload : List ℕ)
    → head_text head (codes " GRANT ") ++ ((32 ∷ decimal offset) ++ ((32 ∷ decimal prio) ++ 10 ∷ [])) ≡ line_text (grant_sent head level offset prio payload)
unfolding line_text
grant_text head level offset prio payload =
    head_on head (codes " GRANT ") _
    ∙ sym (line_spread (codes "send")
    (decimal head.number ∷ route_word head.from head.to ∷ decimal head.inc ∷ codes "GRANT" ∷ role_word head.role ∷ id_word head.id ∷ decimal offset
    ∷ decimal prio ∷ []))

spread-spaced : (w : List ℕ) (ws : List (List ℕ)) → spread w ws ≡ w ++ (spaced_text ws ++ 10 ∷ [])
spread-spaced w [] = refl
spread-spaced w (v ∷ ws) = ap (λ (l : List ℕ). w ++ (32 ∷ l)) (spread-spaced v ws ∙ sym (append_assoc v (spaced_text ws) (10 ∷ [])))

-- the line of any packet, by its first words and the others, each behind a space
pub packet_text : (head : Head) (level : ℕ) (body : Body) (payload : List ℕ)
    → head_text head (32 ∷ (kind_word body ++ codes " ")) ++ (spaced_text (body_words level body payload) ++ 10 ∷ []) ≡ line_text
    (packet_sent head level body payload)
unfolding line_text
packet_text head level body payload =
    let words = body_words level body payload in
    let end = spaced_text words ++ 10 ∷ [] in
    let front : List ℕ → List ℕ =
    λ x. codes "send" ++ ((32 ∷ decimal head.number) ++ ((32 ∷ route_word head.from head.to) ++ ((32 ∷ decimal head.inc) ++ (32 ∷ x)))) in
    head_on head (32 ∷ (kind_word body ++ codes " ")) end
    ∙ (ap front (append_assoc (kind_word body) (codes " ") (role_word head.role ++ ((32 ∷ id_word head.id) ++ end)))
    ∙ (ap (λ (x : List ℕ). front (kind_word body ++ (32 ∷ (role_word head.role ++ (32 ∷ x))))) (sym (spread-spaced (id_word head.id) words))
    ∙ sym (line_spread (codes "send")
    (decimal head.number ∷ route_word head.from head.to ∷ decimal head.inc ∷ kind_word body ∷ role_word head.role ∷ id_word head.id ∷ words))))

pub piece_line_text : (head : Head) (piece : Piece) (payload : List ℕ)
    → head_text head (codes " DATA ") ++ (piece_text piece ++ (hex_word payload ++ 10 ∷ [])) ≡ line_text (piece_sent head piece payload)
unfolding line_text
piece_line_text head piece payload =
    ap (λ (l : List ℕ). head_text head (codes " DATA ") ++ l) (eight (32 ∷ decimal piece.level) (32 ∷ decimal piece.size) (32 ∷ decimal piece.offset) (32 ∷ decimal piece.version) (32 ∷ decimal piece.service) (codes " ") (ack_word piece.ack) (codes " ") (hex_word payload ++ 10 ∷ []))
    ∙ (head_on head (codes " DATA ") _
    ∙ sym (line_spread (codes "send")
    (decimal head.number ∷ route_word head.from head.to ∷ decimal head.inc ∷ codes "DATA" ∷ role_word head.role ∷ id_word head.id ∷
    decimal piece.level ∷ decimal piece.size ∷ decimal piece.offset ∷ decimal piece.version ∷ decimal piece.service ∷ ack_word piece.ack ∷
    hex_word payload ∷ [])))

-- the hex of some bytes has no hyphen
hex_word-some : (xs : List ℕ) → 0 < length xs → hex_word xs ≡ encode_lower xs
hex_word-some [] h = absurd (omega arith)
hex_word-some (x ∷ xs) h = refl

-- the line of a piece that has bytes, by its numbers, its digits and the line feed
pub long_line_text : (head : Head) (piece : Piece) (payload : List ℕ) → 0 < length payload
    → ((head_text head (codes " DATA ") ++ piece_text piece) ++ encode_lower payload) ++ 10 ∷ [] ≡ line_text (piece_sent head piece payload)
long_line_text head piece payload some =
    append_assoc (head_text head (codes " DATA ") ++ piece_text piece) (encode_lower payload) (10 ∷ [])
    ∙ (append_assoc (head_text head (codes " DATA ")) (piece_text piece) (encode_lower payload ++ 10 ∷ [])
    ∙ (ap (λ (l : List ℕ). head_text head (codes " DATA ") ++ (piece_text piece ++ (l ++ 10 ∷ []))) (sym (hex_word-some payload some))
    ∙ piece_line_text head piece payload))

pub call_text : (id : CallId) (server : HostId) (service : ℕ) (bytes : List ℕ)
    → codes "call" ++ ((32 ∷ id_word id) ++ ((32 ∷ decimal server.0) ++ ((32 ∷ decimal service) ++ ((32 ∷ hex_word bytes) ++ 10 ∷ []))))
    ≡ line_text (PlainCall id server service bytes)
unfolding line_text
call_text id server service bytes = sym (line_spread (codes "call") (id_word id ∷ decimal server.0 ∷ decimal service ∷ hex_word bytes ∷ []))

pub run_text : (host : HostId) (id : CallId) (service : ℕ) (request response : List ℕ) (hold : ℕ)
    → codes "run" ++ ((32 ∷ decimal host.0) ++ ((32 ∷ id_word id) ++ ((32 ∷ decimal service) ++ ((32 ∷ hex_word request)
    ++ ((32 ∷ hex_word response) ++ ((32 ∷ decimal hold) ++ 10 ∷ [])))))) ≡ line_text (PlainRun host id service request response hold)
unfolding line_text
run_text host id service request response hold =
    sym (line_spread (codes "run") (decimal host.0 ∷ id_word id ∷ decimal service ∷ hex_word request ∷ hex_word response ∷ decimal hold ∷ []))

pub done_text : (id : CallId) (bytes : List ℕ) → codes "done" ++ ((32 ∷ id_word id) ++ ((32 ∷ hex_word bytes) ++ 10 ∷ [])) ≡ line_text (PlainDone id bytes)
unfolding line_text
done_text id bytes = sym (line_spread (codes "done") (id_word id ∷ hex_word bytes ∷ []))

pub inject_text : (host : HostId) (bytes : List ℕ) → codes "inject" ++ ((32 ∷ decimal host.0) ++ ((32 ∷ hex_word bytes) ++ 10 ∷ [])) ≡ line_text
    (PlainInject host bytes)
unfolding line_text
inject_text host bytes = sym (line_spread (codes "inject") (decimal host.0 ∷ hex_word bytes ∷ []))

pub bury_text : (host : HostId) (id : CallId) (until : ℕ)
    → codes "bury" ++ ((32 ∷ decimal host.0) ++ ((32 ∷ id_word id) ++ ((32 ∷ decimal until) ++ 10 ∷ []))) ≡ line_text (PlainBury host id until)
unfolding line_text
bury_text host id until = sym (line_spread (codes "bury") (decimal host.0 ∷ id_word id ∷ decimal until ∷ []))

pub free_text : (host : HostId) (id : CallId) → codes "free" ++ ((32 ∷ decimal host.0) ++ ((32 ∷ id_word id) ++ 10 ∷ [])) ≡ line_text (PlainFree host id)
unfolding line_text
free_text host id = sym (line_spread (codes "free") (decimal host.0 ∷ id_word id ∷ []))
