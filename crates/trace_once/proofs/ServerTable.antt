-- A packet of its client comes to a call's row at its server: each rule keeps the lifetime invariant.
use Rattle.std.proofs.Common.{◌≡◌, ℕ, ◌+◌, ◌-◌, ◌≤◌, ◌<◌, Bool, true, false, ◌||◌, inl, inr, Option, Some, None, List, [], ◌∷◌, length, leb, ltb}
use Rattle.std.proofs.Common.{refl, sym, ap, subst, ◌∙◌, arith}
use Rattle.std.specs.Prelude.{◌==◌, not, nat_lt, nat_le, slice_range}
use Rattle.std.proofs.lemmas.Bool.{cond_both, ltb-true, eqb-true, and_parts, false≢true, or_cases}
use Rattle.plain_sets.specs.Maps.{len, IsPartOf}
use Rattle.plain_sets.specs.Numbers.{Numbers, has}
use Rattle.plain_sets.specs.Ranges.{is_between}
use Rattle.plain_sets.proofs.NumberLaws.{has-with_range, has-empty}
use Rattle.plain_sets.proofs.KeySets.{len-key_set}
use Rattle.plain_sets.proofs.CountLaws.{full-all}
use Rattle.plain_sets.proofs.WholeLaws.{part-empty}
use Rattle.homa_plain.specs.declared.id.CallId.{CallId}
use Rattle.homa_plain.specs.declared.id.HostId.{HostId}
use Rattle.homa_plain.specs.declared.packet.Role.TheVariants.{Client, Server}
use Rattle.homa_plain.specs.declared.packet.Body.{Body}
use Rattle.homa_plain.specs.declared.packet.Body.TheVariants as body
use Rattle.homa_plain.specs.declared.settings.Settings.{Settings}
use Rattle.homa_plain.specs.Entries.{PlainEntry}
use Rattle.homa_plain.specs.Incoming.{Incoming, arrived, with_bytes, is_whole, leaves_too_many_gaps, message}
use Rattle.homa_plain.specs.Incoming as incoming
use Rattle.homa_plain.specs.Outgoing.{Outgoing, grant}
use Rattle.homa_plain.specs.Busy.{Answer as ResendAnswer, Busy, Queued, resend}
use Rattle.homa_plain.specs.Outgoing as outgoing
use Rattle.homa_plain.specs.Packets.{Packet}
use Rattle.homa_plain.specs.Rows.{ServerRow, State, Receiving, Held, Replying, Buried}
use Rattle.homa_plain.specs.Host.{pages_for}
use Rattle.homa_plain.specs.Rules.{Moment, Answer, Piece, Say, Tells, Posts, Did, leaves, opening, says, version_of}
use Rattle.homa_plain.specs.Busy.{busy_for}
use Rattle.homa_plain.specs.AtServer.{with_state, runs, piece_added, piece_comes, opens, piece_of, unknown_gets, receiving_gets, held_gets, touched}
use Rattle.homa_plain.specs.AtServer.{replying_gets, row_gets, server_gets}
use Rattle.homa_plain.specs.Unknown.{buried_gets}
use Rattle.trace_rules.specs.View.{Called}
use Rattle.homa_plain.proofs.ArrivalLaws.{arrived-with_bytes, below-with_bytes, sound-opened, arrived-opened, part-with_bytes, message-whole}
use Rattle.homa_plain.proofs.OutgoingLaws as out_laws
use Rattle.trace_steps.specs.Stands.{Stand, state_of, with_server}
use Rattle.step_laws.proofs.Own.{runs_said}
use Rattle.trace_once.specs.Lifetime.{Times, span, gone_since, expiry, call_to, IsMadeTo, HasSentAll, IsRequestPiece, Fits, has_last, PartFits}
use Rattle.trace_once.specs.Lifetime.{RowFits, Lifetime}
use Rattle.step_moves.proofs.Hosts.{none_some, some_is}
use Rattle.trace_once.proofs.ServerRules.{SaysFit, ServerChange, ServerKeeps, row_is, live_change, same_change, quiet_keeps, same_keeps}
use Rattle.trace_once.proofs.ServerRules.{row_keeps, says_unknown, says_live, part_now}

module _ (s : Times) (h : HostId) (v : Stand) where
  -- ---- what has arrived of the request, through a piece

  -- a part that is whole has its last byte
  whole_last : (service : ℕ) (part : Incoming) → PartFits h v service part → is_whole part ≡ true → has_last part ≡ true
  whole_last service part f whole =
      full-all (arrived part) part.length f.below (len-key_set part.bytes ∙ eqb-true (len part.bytes) part.length whole) (part.length - 1)
      (omega (arith, f.some))

  piece_last : (part : Incoming) (t size offset service : ℕ) (payload : List ℕ) → (has_last part ≡ true → HasSentAll v) → part.length ≡ size
      → IsRequestPiece s h v t size offset service payload
      → has_last (with_bytes part offset payload) ≡ true → HasSentAll v
  piece_last part t size offset service payload before same piece e =
      elim (
      or_cases (is_between offset (offset + length payload) (part.length - 1)) (has (arrived part) (part.length - 1))
      (sym (ap (λ (x : _). has x (part.length - 1)) (arrived-with_bytes part offset payload) ∙ has-with_range (arrived part) offset
      (offset + length payload) (part.length - 1)) ∙ e)
      ) as (λ _. HasSentAll v) [
        | inl a ↦
            let p = and_parts (leb offset (part.length - 1)) (ltb (part.length - 1) (offset + length payload)) a in
            let below : part.length - 1 < offset + length payload = ltb-true (part.length - 1) (offset + length payload) p.1 in
            piece.last (omega arith)
        | inr b ↦ before b
      ]

  -- the piece is of the same request
  one_request : (service size offset t : ℕ) (payload request : List ℕ) (piece : IsRequestPiece s h v t size offset service payload) (service' : ℕ)
      → v.called ≡ Some (call_to h service' request) → piece.request ≡ request
  one_request service size offset t payload request piece service' called =
      ap (λ (c : Called). c.request) (some_is (call_to h service piece.request) (call_to h service' request) (sym piece.called ∙ called))

  piece_fits : (part : Incoming) (t size offset service service' : ℕ) (payload : List ℕ) → PartFits h v service part → part.length ≡ size
      → IsRequestPiece s h v t size offset service' payload → PartFits h v service (with_bytes part offset payload)
  piece_fits part t size offset service service' payload f same piece =
      let is : payload ≡ slice_range f.request offset (offset + length payload) =
      piece.bytes ∙ ap (λ xs. slice_range xs offset (offset + length payload))
      (one_request service' size offset t payload f.request piece service f.called) in
      record {
        request = f.request;
        called = f.called;
        whole = f.whole;
        bytes = subst (λ (b : List ℕ). IsPartOf (with_bytes part offset b).bytes f.request) (sym is)
            (part-with_bytes part f.request offset (offset + length payload) f.bytes);
        below = below-with_bytes part offset payload f.below (omega (arith, same, piece.within));
        some = f.some;
        last = piece_last part t size offset service' payload f.last same piece;
      }

  -- before its first piece nothing has arrived
  opened_fits : (peer : HostId) (t size offset service order unsched : ℕ) (payload : List ℕ) → IsRequestPiece s h v t size offset service payload
      → PartFits h v service (incoming.opened peer size order unsched)
  opened_fits peer t size offset service order unsched payload piece = record {
    request = piece.request;
    called = piece.called;
    whole = piece.whole;
    bytes = part-empty piece.request;
    below = (sound-opened peer size order unsched).below;
    some = omega (arith, piece.some, piece.within);
    last = λ e. absurd (false≢true (sym (ap (λ (x : Numbers). has x (size - 1)) (arrived-opened peer size order unsched) ∙ has-empty (size - 1)) ∙ e));
  }

  -- ---- a request's pieces

  -- the service runs, on the request of the `call` line
  runs_keeps : (c : Settings) (m : Moment) (id : CallId) (service : ℕ) (request : List ℕ) (answer : Answer) (row : ServerRow) (d : Did ServerRow)
      → IsMadeTo h v → v.ran ≡ false → HasSentAll v → v.called ≡ Some (call_to h service request) → ServerKeeps s h v (runs c m id service request answer row d)
  runs_keeps c m id service request answer row d made none sent called =
      cond_both (answer.hold == 0) _ _ (ServerKeeps s h v)
      (λ _.
      let next : State = Replying answer.bytes (outgoing.opened (length answer.bytes) c.unsched) d.order m.now 0 in
      record {
        change = live_change s h v (Some next) (v.ran || true) made (or_true v.ran, out_laws.sound-opened (length answer.bytes) c.unsched) (λ _. sent) refl;
        says = tt;
        cutoffs = λ x e. refl;
        runs = (none, called, refl);
      })
      (λ _. record {
        change = live_change s h v (Some (Held answer.bytes (m.now + answer.hold))) (v.ran || true) made (or_true v.ran) (λ _. sent) refl;
        says = tt;
        cutoffs = λ x e. refl;
        runs = (none, called, refl);
      }) where
        or_true : (b : Bool) → b || true ≡ true
        or_true true = refl
        or_true false = refl

  -- the part as it is now, with no packet sent
  keeps_part : (part : Incoming) (service base count : ℕ) (row : ServerRow) (d : Did ServerRow) → IsMadeTo h v → v.ran ≡ false
      → PartFits h v service part → (v.ran ≡ true → HasSentAll v)
      → d.row ≡ Some (with_state row (Receiving service part base count)) → runs_said d.says ≡ false
      → SaysFit s h (with_server v (state_of d.row) v.ran) v.clock Server d.says → ServerKeeps s h v d
  keeps_part part service base count row d made none f sent is quiet said =
      let state : state_of d.row ≡ Some (Receiving service part base count) = ap state_of is in
      quiet_keeps s h v d quiet
      (subst (λ o. ServerChange s h v o v.ran) (sym state)
      (live_change s h v (Some (Receiving service part base count)) v.ran made (part_now s h v part service base count (none, f)) sent refl))
      said (λ x e. ap (expiry v.ran v.last) state)

  added_keeps : (c : Settings) (m : Moment) (id : CallId) (service : ℕ) (answer : Answer) (row : ServerRow) (part : Incoming) (d : Did ServerRow)
      → IsMadeTo h v → v.ran ≡ false → (v.ran ≡ true → HasSentAll v) → PartFits h v service part → d.says ≡ []
      → ServerKeeps s h v (piece_added c m id service answer row part d)
  added_keeps c m id service answer row part d made none sent f silent =
      cond_both (is_whole part) _ _ (ServerKeeps s h v)
      (λ e. runs_keeps c m id service (message part) answer row d made none (f.last (whole_last service part f e))
      (f.called ∙ ap (λ (xs : List ℕ). Some (call_to h service xs)) (sym (message-whole part f.request f.bytes f.whole e))))
      (λ e. keeps_part part service m.now 0 row _ made none f sent refl (ap runs_said silent)
      (subst (SaysFit s h (with_server v (Some (Receiving service part m.now 0)) v.ran) v.clock Server) (sym silent) tt))

  comes_keeps : (c : Settings) (m : Moment) (id : CallId) (service : ℕ) (part : Incoming) (row : ServerRow) (t : ℕ) (piece : Piece) (answer : Answer)
      (d : Did ServerRow)
      → IsMadeTo h v → v.ran ≡ false → (v.ran ≡ true → HasSentAll v) → PartFits h v service part
      → IsRequestPiece s h v t piece.size piece.offset piece.service piece.payload → d.says ≡ []
      → (base count : ℕ) → row.state ≡ Receiving service part base count → ServerKeeps s h v (piece_comes c m id service part row piece answer d)
  comes_keeps c m id service part row t piece answer d made none sent f fits silent base count state =
      cond_both (not (part.length == piece.size) || not (service == piece.service)) _ _ (ServerKeeps s h v)
      (λ _.
      keeps_part part service base count row (record d { row = Some row }) made none f sent
      (ap (λ (x : State). Some (record { order = row.order; state = x })) state) (ap runs_said silent)
      (subst (SaysFit s h (with_server v (Some row.state) v.ran) v.clock Server) (sym silent) tt))
      (λ e.
      let same : part.length ≡ piece.size =
      eqb-true part.length piece.size
      (not_false (part.length == piece.size) (or_false (not (part.length == piece.size)) (not (service == piece.service)) e)) in
      cond_both (leaves_too_many_gaps part piece.offset piece.payload) _ _ (ServerKeeps s h v)
      (λ _. keeps_part part service m.now 0 row _ made none f sent refl refl tt)
      (λ _.
      added_keeps c m id service answer row (with_bytes part piece.offset piece.payload) (record d { version = version_of piece }) made none sent
      (piece_fits part t piece.size piece.offset service piece.service piece.payload f same fits) silent)) where
        not_false : (b : Bool) → not b ≡ false → b ≡ true
        not_false true e = refl
        not_false false e = sym e

        or_false : (a b : Bool) → (a || b) ≡ false → a ≡ false
        or_false true b e = e
        or_false false b e = refl

  -- a request packet that is taken where no row stands finds a call that has not run
  unrun : (ran : Bool) (t : ℕ) → v.last ≤ v.clock + s.band → v.clock ≤ t + s.life → ((y : ℕ) → gone_since ran v.last ≡ Some y → t + span s < y) → ran ≡ false
  unrun false t last fresh f = refl
  unrun true t last fresh f = absurd (omega (arith, last, fresh, f v.last refl))

  opens_keeps : (c : Settings) (m : Moment) (id : CallId) (t : ℕ) (piece : Piece) (answer : Answer) → IsMadeTo h v → Lifetime s h v → v.server ≡ None
      → v.clock ≤ t + s.life
      → IsRequestPiece s h v t piece.size piece.offset piece.service piece.payload → ServerKeeps s h v (opens c m id piece answer)
  opens_keeps c m id t piece answer made k at fresh fits =
      let none : v.ran ≡ false = unrun v.ran t k.last fresh (λ y is. fits.covered y (ap (expiry v.ran v.last) at ∙ is)) in
      cond_both (nat_le c.served m.rows) _ _ (ServerKeeps s h v) (λ _. full _ refl)
      (λ _. cond_both (nat_lt m.free (pages_for piece.size)) _ _ (ServerKeeps s h v) (λ _. full _ refl)
      (λ _.
      comes_keeps c m id piece.service (incoming.opened id.client piece.size m.order c.unsched) _ t piece answer
      (opening piece.size (leaves m None)) made none k.sent
      (opened_fits id.client t piece.size piece.offset piece.service m.order c.unsched piece.payload fits) fits refl m.now 0 refl)) where
        full : (e : PlainEntry) → runs_said (Tells e ∷ []) ≡ false → ServerKeeps s h v (says m None (Tells e ∷ []))
        full e quiet = quiet_keeps s h v (says m None (Tells e ∷ [])) quiet (same_change s h v None made k at) tt (λ x e. absurd (none_some x e))

  -- ---- packets, by the state of the row

  unknown_keeps : (c : Settings) (m : Moment) (id : CallId) (t : ℕ) (what : Body) (payload : List ℕ) (answer : Answer) → Lifetime s h v
      → v.server ≡ None → v.clock ≤ t + s.life → Fits s h v t Client what payload
      → ServerKeeps s h v (unknown_gets c m id what payload answer)
  unknown_keeps c m id t (body.Data size offset version service ack) payload answer k at fresh f =
      opens_keeps c m id t (piece_of size offset version service payload) answer f.made k at fresh f.fits
  unknown_keeps c m id t (body.Resend from to prio) payload answer k at fresh f =
      quiet_keeps s h v (says m None (Posts (body.Unknown 0) ∷ [])) refl (same_change s h v None f.made k at)
      (says_unknown s h v None v.ran 0 f.made (omega arith)) (λ x e. absurd (none_some x e))
  unknown_keeps c m id t what payload answer k at fresh f = same_keeps s h v m None f.made k at

  receiving_keeps : (c : Settings) (m : Moment) (id : CallId) (t : ℕ) (what : Body) (payload : List ℕ) (answer : Answer) (row : ServerRow)
      (service : ℕ) (part : Incoming) (base count : ℕ) → Lifetime s h v
      → row.state ≡ Receiving service part base count → v.server ≡ Some row.state → Fits s h v t Client what payload
      → ServerKeeps s h v (receiving_gets c m id what payload answer row service part base)
  receiving_keeps c m id t what payload answer row service part base count k is at f = by_body what f where
    now : RowFits h v (Some (Receiving service part base count))
    now = row_is s h v (Some (Receiving service part base count)) k (at ∙ ap (λ (x : State). Some x) is)

    by_body : (what : Body) → Fits s h v t Client what payload → ServerKeeps s h v (receiving_gets c m id what payload answer row service part base)
    by_body (body.Data size offset version service' ack) f =
        comes_keeps c m id service part row t (piece_of size offset version service' payload) answer (leaves m None) f.made now.0 k.sent now.1 f.fits
        refl base count is
    by_body (body.Resend from to prio) f =
        row_keeps s h v m (with_state row (Receiving service part base 0)) (Posts body.Busy ∷ []) f.made (part_now s h v part service base 0 now)
        k.sent refl refl
        (says_live s h v (Some (Receiving service part base 0)) v.ran body.Busy f.made (λ x. x) refl)
    by_body body.Busy f =
        row_keeps s h v m (with_state row (Receiving service part m.now 0)) [] f.made (part_now s h v part service m.now 0 now) k.sent refl refl tt
    by_body other f = same_keeps s h v m (Some row) f.made k at

  held_keeps : (m : Moment) (t : ℕ) (what : Body) (payload : List ℕ) (row : ServerRow) (response : List ℕ) (release : ℕ) → Lifetime s h v
      → row.state ≡ Held response release → v.server ≡ Some row.state → Fits s h v t Client what payload → ServerKeeps s h v (held_gets m what row)
  held_keeps m t (body.Resend from to prio) payload row response release k is at f =
      let live : expiry v.ran v.last (Some row.state) ≡ None = ap (λ (x : State). expiry v.ran v.last (Some x)) is in
      quiet_keeps s h v (says m (Some row) (Posts body.Busy ∷ [])) refl (same_change s h v (Some row.state) f.made k at)
      (says_live s h v (Some row.state) v.ran body.Busy f.made (λ x. x) live) (λ x e. absurd (none_some x e))
  held_keeps m t what payload row response release k is at f = same_keeps s h v m (Some row) f.made k at

  busy_quiet : (a : ResendAnswer) → runs_said (busy_for a) ≡ false
  busy_quiet Busy = refl
  busy_quiet Queued = refl

  says_busy : (o : Option State) (ran : Bool) (a : ResendAnswer) → expiry ran v.last o ≡ None → IsMadeTo h v
      → SaysFit s h (with_server v o ran) v.clock Server (busy_for a)
  says_busy o ran Busy live made = says_live s h v o ran body.Busy made (λ x. x) live
  says_busy o ran Queued live made = tt

  replying_keeps : (m : Moment) (t : ℕ) (what : Body) (payload : List ℕ) (row : ServerRow) (response : List ℕ) (out : Outgoing) (order base count : ℕ)
      → Lifetime s h v
      → row.state ≡ Replying response out order base count → v.server ≡ Some row.state → Fits s h v t Client what payload
      → ServerKeeps s h v (replying_gets m what row response out order)
  replying_keeps m t what payload row response out order base count k is at f = by_body what f where
    now : RowFits h v (Some (Replying response out order base count))
    now = row_is s h v (Some (Replying response out order base count)) k (at ∙ ap (λ (x : State). Some x) is)

    -- the timer begins anew, and the outgoing part may have changed
    touches : (out' : Outgoing) (said : List Say) → outgoing.IsSound out' → runs_said said ≡ false
        → SaysFit s h (with_server v (Some (Replying response out' order m.now 0)) v.ran) v.clock Server said
        → ServerKeeps s h v (says m (Some (touched m row response out' order)) said)
    touches out' said sound quiet fits = row_keeps s h v m (touched m row response out' order) said f.made (now.0, sound) k.sent refl quiet fits

    by_body : (what : Body) → Fits s h v t Client what payload → ServerKeeps s h v (replying_gets m what row response out order)
    by_body (body.Grant offset prio) f = touches (grant out offset prio) [] (out_laws.sound-grant out offset prio now.1) refl tt
    by_body (body.Resend from to prio) f =
        touches (resend out from to prio).part (busy_for (resend out from to prio).answer) (out_laws.sound-resend out from to prio now.1)
        (busy_quiet (resend out from to prio).answer)
        (says_busy (Some (Replying response (resend out from to prio).part order m.now 0)) v.ran (resend out from to prio).answer refl f.made)
    by_body (body.Ack more) f = same_keeps s h v m (Some row) f.made k at
    by_body other f = touches out [] now.1 refl tt

  -- a call that ran is told so, but nothing else
  buried_keeps : (m : Moment) (t : ℕ) (what : Body) (payload : List ℕ) (row : ServerRow) → Lifetime s h v → v.server ≡ Some row.state
      → Fits s h v t Client what payload → ServerKeeps s h v (buried_gets m what row)
  buried_keeps m t what payload row k at f = by_body what where
    unknown : ServerKeeps s h v (says m (Some row) (Posts (body.Unknown 1) ∷ []))
    unknown = quiet_keeps s h v (says m (Some row) (Posts (body.Unknown 1) ∷ [])) refl (same_change s h v (Some row.state) f.made k at)
        (says_unknown s h v (Some row.state) v.ran 1 f.made (omega arith)) (λ x e. absurd (none_some x e))

    by_body : (what : Body) → ServerKeeps s h v (buried_gets m what row)
    by_body (body.Data size offset version service ack) = unknown
    by_body (body.Resend from to prio) = unknown
    by_body other = same_keeps s h v m (Some row) f.made k at

  row_gets_keeps : (c : Settings) (m : Moment) (id : CallId) (t : ℕ) (what : Body) (payload : List ℕ) (answer : Answer) (row : ServerRow)
      (state : State) → Lifetime s h v → row.state ≡ state → v.server ≡ Some row.state
      → Fits s h v t Client what payload → ServerKeeps s h v (row_gets c m id what payload answer row state)
  row_gets_keeps c m id t what payload answer row (Receiving service part base count) k is at f =
      receiving_keeps c m id t what payload answer row service part base count k is at f
  row_gets_keeps c m id t what payload answer row (Held response release) k is at f = held_keeps m t what payload row response release k is at f
  row_gets_keeps c m id t what payload answer row (Replying response out order base count) k is at f =
      replying_keeps m t what payload row response out order base count k is at f
  row_gets_keeps c m id t what payload answer row (Buried until) k is at f = buried_keeps m t what payload row k at f

  -- a packet of the client comes, which may still be taken
  pub server_gets_keeps : (c : Settings) (m : Moment) (p : Packet) (t : ℕ) (answer : Answer) (o : Option ServerRow) → Lifetime s h v
      → v.server ≡ state_of o → v.clock ≤ t + s.life
      → Fits s h v t Client p.body p.payload → ServerKeeps s h v (server_gets c m p answer o)
  unfolding server_gets
  server_gets_keeps c m p t answer None k at fresh f = unknown_keeps c m p.id t p.body p.payload answer k at fresh f
  server_gets_keeps c m p t answer (Some row) k at fresh f = row_gets_keeps c m p.id t p.body p.payload answer row row.state k refl at f
