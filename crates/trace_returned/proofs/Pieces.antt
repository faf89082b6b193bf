-- What a piece of a message does to a row, against what it does to the part that the lines tell: it is refused, it is taken, or it makes the message whole.
use Rattle.std.proofs.Common.{◌≡◌, ℕ, ◌+◌, ◌≤◌, ◌<◌, Bool, true, false, ◌||◌, min, Option, Some, None, List, [], ◌∷◌, length, refl, sym, ap, subst, ◌∙◌, arith}
use Rattle.std.specs.Prelude.{◌==◌, not, nat_lt, nat_le}
use Rattle.std.proofs.lemmas.Bool.{cond_both, eq-eqb, false≢true}
use Rattle.plain_sets.specs.Maps.{len, IsPartOf}
use Rattle.plain_sets.specs.Numbers.{Numbers, with_range}
use Rattle.plain_sets.proofs.WholeLaws.{part-empty}
use Rattle.plain_sets.proofs.KeySets.{len-key_set}
use Rattle.plain_sets.proofs.CountLaws.{len-with_range, len-without_range}
use Rattle.plain_sets.proofs.MoreCounts.{len-grows}
use Rattle.homa_plain.specs.declared.id.CallId.{CallId}
use Rattle.homa_plain.specs.declared.id.HostId.{HostId}
use Rattle.homa_plain.specs.declared.settings.Settings.{Settings}
use Rattle.homa_plain.specs.Entries.{PlainRun, PlainDone, PlainGaps, PlainFullRows, PlainFullPages}
use Rattle.homa_plain.specs.Incoming.{Incoming, arrived, with_bytes, is_whole, leaves_too_many_gaps, message}
use Rattle.homa_plain.specs.Incoming as incoming
use Rattle.trace_rules.specs.Parts.{Part, grown}
use Rattle.trace_rules.specs.Parts as parts
use Rattle.homa_plain.specs.Rows.{ClientRow, ServerRow, State, Receiving}
use Rattle.homa_plain.specs.Host.{pages_for}
use Rattle.homa_plain.specs.Rules.{Moment, Answer, Piece, Tells, Did, leaves, keeps, opening, version_of}
use Rattle.homa_plain.specs.AtServer.{runs, piece_added, piece_comes, opens}
use Rattle.homa_plain.specs.AtClient.{with_part, response_piece}
use Rattle.homa_plain.specs.AtClient as at_client
use Rattle.homa_plain.proofs.ArrivalLaws.{arrived-with_bytes, arrived-opened, sound-opened, sound-with_bytes, part-with_bytes, message-whole, first_taken}
use Rattle.trace_steps.specs.Stands.{state_of}
use Rattle.trace_steps.specs.Contents.{IsSlice, Replies}
use Rattle.trace_steps.specs.Arrived.{IsNearly, IsSamePart}
use Rattle.trace_returned.specs.Tales.{receiving}

-- ---- one message

module _ (s : Settings) (h : HostId) (xs : List ℕ) where
  -- it is whole for its host exactly where it is for the lines
  pub same_whole : (p : Incoming) (q : Part) → IsNearly s h xs p q → is_whole p ≡ parts.is_whole q
  same_whole p q n =
      let e : len p.bytes ≡ len q.arrived = sym (len-key_set p.bytes) ∙ ap len n.there in ap (λ m. m == p.length) e ∙ ap (λ m. len q.arrived == m) n.long

  -- nothing has arrived
  nearly_opened : (peer : HostId) (size order : ℕ) → s.unsched ≤ s.window → size ≡ length xs
      → IsNearly s h xs (incoming.opened peer size order s.unsched) (parts.opened h peer size s.unsched)
  nearly_opened peer size order narrow same = record {
    at = refl;
    peer = refl;
    long = refl;
    size = same;
    there = arrived-opened peer size order s.unsched;
    granted = refl;
    window = omega (arith, narrow);
    sound = sound-opened peer size order s.unsched;
    bytes = part-empty xs;
  }

  -- a piece that doesn't leave too many gaps is taken
  nearly_grown : (p : Incoming) (q : Part) (place offset : ℕ) (payload : List ℕ) → IsNearly s h xs p q → IsSlice xs p.length offset payload
      → leaves_too_many_gaps p offset payload ≡ false
      → IsNearly s h xs (with_bytes p offset payload) (grown place offset (offset + length payload) q)
  nearly_grown p q place offset payload n piece few =
      let cut : min (offset + length payload) q.length ≡ offset + length payload = omega (arith, piece.within, n.long) in
      let same : arrived (with_bytes p offset payload) ≡ with_range q.arrived offset (min (offset + length payload) q.length) =
      arrived-with_bytes p offset payload ∙ ap (λ (x : Numbers). with_range x offset (offset + length payload)) n.there
      ∙ ap (λ m. with_range q.arrived offset m) (sym cut) in
      record {
        at = n.at;
        peer = n.peer;
        long = n.long;
        size = n.size;
        there = same;
        granted = n.granted;
        window = omega (arith, n.window, len-grows q.arrived offset (min (offset + length payload) q.length));
        sound = sound-with_bytes p offset payload n.sound piece.within few;
        bytes =
            subst (λ (b : List ℕ). IsPartOf (with_bytes p offset b).bytes xs) (sym piece.bytes) (part-with_bytes p xs offset (offset + length payload) n.bytes);
      }

  -- then some of it has arrived
  some_grown : (p : Incoming) (q : Part) (place offset : ℕ) (payload : List ℕ) → IsNearly s h xs p q → IsSlice xs p.length offset payload
      → 0 < len (grown place offset (offset + length payload) q).arrived
  some_grown p q place offset payload n piece =
      let end : ℕ = min (offset + length payload) q.length in
      omega (arith, piece.some, piece.within, n.long, len-with_range q.arrived offset end, len-without_range q.arrived offset end)

-- ---- a piece of a request comes to its server

-- the row's part is as it was, and no response is held
pub record StaysPending (o : Option State) (d : Did ServerRow) : Type 0 where
  pub part : receiving (state_of d.row) ≡ receiving o
  pub replies : (xs : List (List ℕ)) → Replies xs (state_of d.row)

pub data RequestTaken (s : Settings) (h : HostId) (id : CallId) (service : ℕ) (request : List ℕ) (answer : Answer) (d : Did ServerRow)
    (o : Option State) (new : Part) : Type 0 where
  Gapped : d.says ≡ Tells (PlainGaps h id) ∷ [] → StaysPending o d → RequestTaken s h id service request answer d o new
  Unheld : (n m : ℕ) → d.says ≡ Tells (PlainFullRows h id n m) ∷ [] → StaysPending o d → RequestTaken s h id service request answer d o new
  Unpaged : (n m : ℕ) → d.says ≡ Tells (PlainFullPages h id n m) ∷ [] → StaysPending o d → RequestTaken s h id service request answer d o new
  Taken : d.says ≡ [] → (part : Incoming) (base count : ℕ) → state_of d.row ≡ Some (Receiving service part base count)
      → IsSamePart s h request part new → RequestTaken s h id service request answer d o new
  Ran : d.says ≡ Tells (PlainRun h id service request answer.bytes answer.hold) ∷ [] → receiving (state_of d.row) ≡ None
      → Replies (answer.bytes ∷ []) (state_of d.row) → parts.is_whole new ≡ true
      → RequestTaken s h id service request answer d o new

module _ (s : Settings) (m : Moment) (id : CallId) (request : List ℕ) (answer : Answer) where
  runs_taken : (service : ℕ) (part : Incoming) (o : Option State) (new : Part) (row : ServerRow) (d : Did ServerRow)
      → IsNearly s m.host request part new → is_whole part ≡ true
      → RequestTaken s m.host id service request answer (runs s m id service (message part) answer row d) o new
  runs_taken service part o new row d n whole =
      let same : message part ≡ request = message-whole part request n.bytes n.size whole in
      let told = ap (λ (xs : List ℕ). Tells (PlainRun m.host id service xs answer.bytes answer.hold) ∷ []) same in
      let done : parts.is_whole new ≡ true = sym (same_whole s m.host request part new n) ∙ whole in
      cond_both (answer.hold == 0) _ _ (λ (d : Did ServerRow). RequestTaken s m.host id service request answer d o new)
      (λ _. Ran told refl (refl, refl) done) (λ _. Ran told refl refl done)

  added_taken : (service : ℕ) (part : Incoming) (o : Option State) (new : Part) (row : ServerRow) (d : Did ServerRow)
      → IsNearly s m.host request part new → 0 < len new.arrived → d.says ≡ []
      → RequestTaken s m.host id service request answer (piece_added s m id service answer row part d) o new
  added_taken service part o new row d n some silent =
      cond_both (is_whole part) _ _ (λ (d : Did ServerRow). RequestTaken s m.host id service request answer d o new)
      (λ e. runs_taken service part o new row d n e)
      (λ e. Taken silent part m.now 0 refl (record { near = n; some = some; missing = sym (same_whole s m.host request part new n) ∙ e }))

  -- a piece comes to a part, of which maybe nothing has arrived
  comes_taken : (service : ℕ) (part : Incoming) (q : Part) (o : Option State) (place : ℕ) (row : ServerRow) (piece : Piece) (d : Did ServerRow)
      → service ≡ piece.service → IsNearly s m.host request part q
      → IsSlice request piece.size piece.offset piece.payload → d.says ≡ []
      → (leaves_too_many_gaps part piece.offset piece.payload ≡ true → Some (service, part) ≡ receiving o)
      → RequestTaken s m.host id service request answer (piece_comes s m id service part row piece answer d) o
      (grown place piece.offset (piece.offset + length piece.payload) q)
  comes_taken service part q o place row piece d of_service n fits silent before =
      let new : Part = grown place piece.offset (piece.offset + length piece.payload) q in
      let same : part.length ≡ piece.size = n.size ∙ sym fits.whole in
      let fits' = subst (λ (x : ℕ). IsSlice request x piece.offset piece.payload) (sym same) fits in
      let goal = (λ (d : Did ServerRow). RequestTaken s m.host id service request answer d o new) in
      cond_both (not (part.length == piece.size) || not (service == piece.service)) _ _ goal
      (λ e. absurd (false≢true
      (sym (differ_false (part.length == piece.size) (service == piece.service) (eq-eqb part.length piece.size same)
      (eq-eqb service piece.service of_service)) ∙ e)))
      (λ _. cond_both (leaves_too_many_gaps part piece.offset piece.payload) _ _ goal
      (λ e. Gapped refl (record { part = before e; replies = λ xs. tt }))
      (λ few. added_taken service (with_bytes part piece.offset piece.payload) o new row (record d { version = version_of piece })
      (nearly_grown s m.host request part q place piece.offset piece.payload n fits' few)
      (some_grown s m.host request part q place piece.offset piece.payload n fits') silent)) where
        differ_false : (a b : Bool) → a ≡ true → b ≡ true → (not a || not b) ≡ false
        differ_false true true e f = refl
        differ_false true false e f = sym f
        differ_false false b e f = absurd (false≢true e)

  -- to a row that is receiving
  pub piece_taken : (service : ℕ) (part : Incoming) (q : Part) (base count place : ℕ) (row : ServerRow) (piece : Piece) → service ≡ piece.service
      → IsSamePart s m.host request part q → IsSlice request piece.size piece.offset piece.payload
      → RequestTaken s m.host id service request answer (piece_comes s m id service part row piece answer (leaves m None))
      (Some (Receiving service part base count)) (grown place piece.offset (piece.offset + length piece.payload) q)
  piece_taken service part q base count place row piece of_service same fits =
      comes_taken service part q (Some (Receiving service part base count)) place row piece (leaves m None) of_service same.near fits refl (λ _. refl)

  -- it opens the request
  pub opens_taken : (place : ℕ) (piece : Piece) → s.unsched ≤ s.window → IsSlice request piece.size piece.offset piece.payload
      → RequestTaken s m.host id piece.service request answer (opens s m id piece answer) None
      (grown place piece.offset (piece.offset + length piece.payload) (parts.opened m.host id.client piece.size s.unsched))
  opens_taken place piece narrow fits =
      let new : Part = grown place piece.offset (piece.offset + length piece.payload) (parts.opened m.host id.client piece.size s.unsched) in
      let goal = (λ (d : Did ServerRow). RequestTaken s m.host id piece.service request answer d None new) in
      cond_both (nat_le s.served m.rows) _ _ goal
      (λ _. Unheld _ _ refl (record { part = refl; replies = λ xs. tt }))
      (λ _. cond_both (nat_lt m.free (pages_for piece.size)) _ _ goal
      (λ _. Unpaged _ _ refl (record { part = refl; replies = λ xs. tt }))
      (λ _. comes_taken piece.service (incoming.opened id.client piece.size m.order s.unsched) (parts.opened m.host id.client piece.size s.unsched)
      None place _ piece (opening piece.size (leaves m None)) refl
      (nearly_opened s m.host request id.client piece.size m.order narrow fits.whole) fits refl
      (λ many. absurd (false≢true (sym (first_taken id.client piece.size m.order s.unsched piece.offset piece.payload) ∙ many)))))

-- ---- a piece of a response comes to its client

-- the row is of the same server, in the same of its lives
pub record StaysLive (r x : ClientRow) : Type 0 where
  pub server : x.server ≡ r.server
  pub seen : x.seen ≡ r.seen

pub data ResponseTaken (s : Settings) (id : CallId) (response : List ℕ) (d : Did ClientRow) (r : ClientRow) (new : Part) : Type 0 where
  Gapped : d.says ≡ Tells (PlainGaps id.client id) ∷ [] → (x : ClientRow) → d.row ≡ Some x → StaysLive r x → x.part ≡ r.part
      → ResponseTaken s id response d r new
  Unpaged : (n m : ℕ) → d.says ≡ Tells (PlainFullPages id.client id n m) ∷ [] → (x : ClientRow) → d.row ≡ Some x → StaysLive r x → x.part ≡ r.part
      → ResponseTaken s id response d r new
  Taken : d.says ≡ [] → (x : ClientRow) (part : Incoming) → d.row ≡ Some x → StaysLive r x → x.part ≡ Some part
      → IsSamePart s id.client response part new → ResponseTaken s id response d r new
  Done : d.says ≡ Tells (PlainDone id response) ∷ [] → d.row ≡ None → parts.is_whole new ≡ true → ResponseTaken s id response d r new

module _ (s : Settings) (m : Moment) (id : CallId) (response : List ℕ) where
  response_added : (part : Incoming) (new : Part) (r : ClientRow) (d : Did ClientRow) → IsNearly s id.client response part new → 0 < len new.arrived
      → d.says ≡ [] → ResponseTaken s id response (at_client.piece_added id r part d) r new
  response_added part new r d n some silent =
      cond_both (is_whole part) _ _ (λ (d : Did ClientRow). ResponseTaken s id response d r new)
      (λ e. Done (ap (λ (xs : List ℕ). Tells (PlainDone id xs) ∷ []) (message-whole part response n.bytes n.size e)) refl
      (sym (same_whole s id.client response part new n) ∙ e))
      (λ e. Taken silent (with_part r part) part refl (record { server = refl; seen = refl }) refl
      (record { near = n; some = some; missing = sym (same_whole s id.client response part new n) ∙ e }))

  response_comes : (part : Incoming) (q : Part) (place : ℕ) (r : ClientRow) (piece : Piece) (d : Did ClientRow) → IsNearly s id.client response part q
      → IsSlice response piece.size piece.offset piece.payload → d.says ≡ []
      → (leaves_too_many_gaps part piece.offset piece.payload ≡ true → r.part ≡ Some part)
      → ResponseTaken s id response (at_client.piece_comes id r part piece d) r (grown place piece.offset (piece.offset + length piece.payload) q)
  response_comes part q place r piece d n fits silent before =
      let new : Part = grown place piece.offset (piece.offset + length piece.payload) q in
      let same : part.length ≡ piece.size = n.size ∙ sym fits.whole in
      let fits' = subst (λ (x : ℕ). IsSlice response x piece.offset piece.payload) (sym same) fits in
      let goal = (λ (d : Did ClientRow). ResponseTaken s id response d r new) in
      cond_both (not (part.length == piece.size)) _ _ goal
      (λ e. absurd (false≢true (sym (ap not (eq-eqb part.length piece.size same)) ∙ e)))
      (λ _. cond_both (leaves_too_many_gaps part piece.offset piece.payload) _ _ goal
      (λ e. Gapped refl (with_part r part) refl (record { server = refl; seen = refl }) (sym (before e)))
      (λ few. response_added (with_bytes part piece.offset piece.payload) new r (record d { version = version_of piece })
      (nearly_grown s id.client response part q place piece.offset piece.payload n fits' few)
      (some_grown s id.client response part q place piece.offset piece.payload n fits') silent))

  -- the first piece opens the response
  pub response_opens : (place : ℕ) (r : ClientRow) (piece : Piece) → r.part ≡ None → s.unsched ≤ s.window
      → IsSlice response piece.size piece.offset piece.payload
      → ResponseTaken s id response (response_piece s m id r None piece) r
      (grown place piece.offset (piece.offset + length piece.payload) (parts.opened id.client r.server piece.size s.unsched))
  response_opens place r piece is narrow fits =
      cond_both (nat_lt m.free (pages_for piece.size)) _ _
      (λ (d : Did ClientRow). ResponseTaken s id response d r
      (grown place piece.offset (piece.offset + length piece.payload) (parts.opened id.client r.server piece.size s.unsched)))
      (λ _. Unpaged _ _ refl r refl (record { server = refl; seen = refl }) refl)
      (λ _. response_comes (incoming.opened r.server piece.size m.order s.unsched) (parts.opened id.client r.server piece.size s.unsched) place r
      piece (opening piece.size (keeps m r))
      (nearly_opened s id.client response r.server piece.size m.order narrow fits.whole) fits refl
      (λ many. absurd (false≢true (sym (first_taken r.server piece.size m.order s.unsched piece.offset piece.payload) ∙ many))))

  -- each further one comes to the part
  pub response_grows : (p : Incoming) (q : Part) (place : ℕ) (r : ClientRow) (piece : Piece) → r.part ≡ Some p → IsSamePart s id.client response p q
      → IsSlice response piece.size piece.offset piece.payload
      → ResponseTaken s id response (response_piece s m id r (Some p) piece) r (grown place piece.offset (piece.offset + length piece.payload) q)
  response_grows p q place r piece is same fits = response_comes p q place r piece (keeps m r) same.near fits refl (λ _. is)
