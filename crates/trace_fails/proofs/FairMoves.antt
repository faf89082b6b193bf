-- Timers, GRANTs and pieces keep what is so of live calls and their RESENDs.
use Rattle.std.proofs.Common.{◌≡◌, ℕ, ◌+◌, ◌-◌, ◌≤◌, ◌<◌, Bool, true, false, not, ◌&&◌, ◌||◌, ◌⊎◌, inl, inr, Option, Some, None, List, [], ◌∷◌}
use Rattle.std.proofs.Common.{length, cond, drop, refl, sym, ap, subst, ◌∙◌, arith}
use Rattle.std.specs.Prelude.{nat_lt, nat_le, max}
use Rattle.std.specs.Option.{MatchOption}
use Rattle.std.proofs.lemmas.Bool.{cond_both, ltb-true, ltb-false, leb-true, lt-ltb, le-leb, and_left, and_right, and_parts, and_from, cases_lt, true≢false}
use Rattle.std.proofs.Math.Bool.{or-false}
use Rattle.std.proofs.lemmas.List.{length-take, length-drop}
use Rattle.plain_sets.specs.Maps.{Map, get}
use Rattle.plain_sets.specs.Ranges.{Range}
use Rattle.homa_plain.specs.declared.id.CallId.{CallId}
use Rattle.homa_plain.specs.declared.id.HostId.{HostId}
use Rattle.homa_plain.specs.declared.packet.Role.TheVariants.{Client}
use Rattle.homa_plain.specs.declared.packet.Body.TheVariants as body
use Rattle.homa_plain.specs.declared.settings.Settings.{Settings}
use Rattle.homa_plain.specs.declared.entry.Why.TheVariants.{Timeout}
use Rattle.homa_plain.specs.Calls.{is_call, call_cmp}
use Rattle.homa_plain.specs.Entries.{PlainFail}
use Rattle.homa_plain.specs.Packets.{Packet, send_line}
use Rattle.homa_plain.specs.Outgoing.{Outgoing, next_range, next, IsFront, IsIdle}
use Rattle.homa_plain.specs.Outgoing as outgoing
use Rattle.homa_plain.specs.Rows.{ClientRow, set_row}
use Rattle.homa_plain.specs.Host.{Says, Sends, peer_cutoffs, finished_at}
use Rattle.homa_plain.specs.Rules.{Tells, Did, says}
use Rattle.homa_plain.specs.Timers.{Place, OfClient, OfServer, resend_of, client_deadline, client_acts, server_acts}
use Rattle.homa_plain.specs.Sending.{client_granted, server_granted, client_sends, state_sends, slice, response_content}
use Rattle.homa_plain.specs.Work.{Work, now_of, bare, packet_from}
use Rattle.homa_plain.specs.Steps.{moment, asked, client_acted, server_acted, acts_at, acts, client_is_granted}
use Rattle.homa_plain.specs.Steps.{server_is_granted, ended}
use Rattle.homa_plain.specs.SentNext.{request_leaves, response_leaves}
use Rattle.homa_plain.specs.FiveAcks.{oldest}
use Rattle.trace_rules.specs.View.{View, Called, own_tick, has_last, sent_last, resends_of}
use Rattle.trace_rules.specs.Seen.{seen}
use Rattle.trace_rules.specs.Laws.{AreSpaced, IsUnanswered}
use Rattle.homa_plain.specs.World.{World}
use Rattle.homa_plain.proofs.CallOrder.{calls_are}
use Rattle.homa_plain.proofs.OutgoingLaws.{sound-next, front-next_range}
use Rattle.trace_steps.specs.Told.{sent_of}
use Rattle.trace_steps.proofs.Lines.{told_same}
use Rattle.step_laws.proofs.Own.{server_acts_served}
use Rattle.step_moves.proofs.AskedMove.{asked-move}
use Rattle.step_moves.proofs.SendMoves.{server_grant, server_granted-move, client_grant, client_granted-move, response_piece, response_leaves-move}
use Rattle.step_moves.proofs.SendMoves.{request_piece, request_leaves-move}
use Rattle.trace_steps.proofs.Progress.{told_live}
use Rattle.trace_steps.proofs.Ticks.{asks, any_last, told_sent_last, resend_ticks, piece_ticks}
use Rattle.trace_steps.specs.Stands.{said_so_far}
use Rattle.trace_steps.specs.Contents.{called_by}
use Rattle.step_moves.proofs.Hosts.{some_is, none_some}
use Rattle.trace_steps.proofs.Frame.{next_number}
use Rattle.step_moves.proofs.Chosen.{IsTimerAt}
use Rattle.step_moves.proofs.Folds.{turn_kept, ended_kept, GrantKeeps, PieceKeeps}
use Rattle.trace_fails.specs.Timeouts.{IsFairRow, IsLiveRow}
use Rattle.trace_fails.proofs.FairRows.{fair_asks, fair_fails, fair_granted, asks_one}
use Rattle.trace_fails.proofs.Silent.{IsSilent, silent_row}
use Rattle.trace_fails.proofs.FairAmid.{none_renewed, IsFairAmid, row_amid, fair_silent, fair_served, fair_client}

-- ---- a piece of a request

slice_length : (xs : List ℕ) (r : Range) → r.from ≤ r.to → r.to ≤ length xs → r.from + length (slice xs r) ≡ r.to
slice_length xs r up within = omega (arith, length-take (r.to - r.from) (drop r.from xs), length-drop r.from xs, up, within)

-- the row, and what the lines say of its RESENDs, when a piece is sent: while the last byte wasn't sent each renews the call
sent_fair : (s : Settings) (now : ℕ) (r : ClientRow) (range : Range) (ticks : List ℕ) (all : Bool) → 0 < s.seg → outgoing.IsSound r.out
    → r.out.length ≡ length r.request → next_range r.out s.seg ≡ Some range → IsFairRow s now r ticks all
    → IsFairRow s now (client_sends s now r) (cond (not all) [] ticks)
    (all || (nat_lt range.from (length r.request) && nat_le (length r.request) (range.from + length (slice r.request range))))
sent_fair s now r range ticks all seg sound size at f = by_new (nat_lt r.out.top r.out.length) refl all refl where
  front : IsFront r.out s.seg range
  front = subst (λ o. MatchOption o (IsIdle r.out) (IsFront r.out s.seg)) at (front-next_range r.out s.seg seg sound)

  end : range.from + length (slice r.request range) ≡ range.to
  end = slice_length r.request range (omega (arith, front.some)) (omega (arith, front.granted, sound.within, size))

  last : Bool
  last = nat_lt range.from (length r.request) && nat_le (length r.request) (range.from + length (slice r.request range))

  out : Outgoing
  out = (next r.out s.seg).part

  top : out.top ≡ max r.out.top range.to
  top = ap (λ o. (outgoing.sent r.out o).top) at

  long : out.length ≡ r.out.length
  long = ap (λ o. (outgoing.sent r.out o).length) at

  last_to : last ≡ true → range.to ≡ r.out.length
  last_to e =
      let p : length r.request ≤ range.from + length (slice r.request range) = leb-true _ _ (and_parts (nat_lt range.from (length r.request)) _ e).1 in
      omega (arith, p, end, size, front.granted, sound.within)

  to_last : range.to ≡ r.out.length → last ≡ true
  to_last e = and_from _ _ (lt-ltb range.from (length r.request) (omega (arith, e, front.some, size)))
      (le-leb (length r.request) (range.from + length (slice r.request range)) (omega (arith, end, e, size)))

  forth : (b : Bool) → all ≡ b → (b || last) ≡ true → out.top ≡ out.length
  forth true a e = omega (arith, top, long, f.sent.0 a, front.granted, sound.within)
  forth false a e = omega (arith, top, long, last_to e, sound.top)

  back : (b : Bool) → all ≡ b → out.top ≡ out.length → (b || last) ≡ true
  back true a e = refl
  back false a e = to_last (omega (arith, e, top, long, sound.top, front.granted, sound.within, unsent)) where
    unsent : r.out.top < r.out.length
    unsent = by_order (cases_lt r.out.top r.out.length) where
      by_order : (r.out.top < r.out.length) ⊎ (r.out.length ≤ r.out.top) → r.out.top < r.out.length
      by_order (inl less) = less
      by_order (inr more) = let whole : r.out.top ≡ r.out.length = omega (arith, more, sound.top) in absurd (true≢false (sym (f.sent.1 whole) ∙ a))

  whole_all : nat_lt r.out.top r.out.length ≡ false → all ≡ true
  whole_all e = f.sent.1 (let l : r.out.length ≤ r.out.top = ltb-false r.out.top r.out.length e in omega (arith, l, sound.top))

  by_new : (n : Bool) → nat_lt r.out.top r.out.length ≡ n → (b : Bool) → all ≡ b
      → IsFairRow s now (record (cond n (record r { heard = now; base = now; count = 0 }) r) { out = out }) (cond (not b) [] ticks) (b || last)
  by_new true e true a = absurd (let l : r.out.top < r.out.length = ltb-true r.out.top r.out.length e in omega (arith, l, f.sent.0 a))
  by_new true e false a =
      record {
        sent = (forth false a, back false a);
        each = refl;
        most = omega arith;
        spaced = tt;
        after = λ t rest g. absurd (nil_cons t rest g);
        base = omega arith;
      } where
        nil_cons : (t : ℕ) (rest : List ℕ) → [] ≡ t ∷ rest → ⊥
        nil_cons t rest e = cc
  by_new false e true a = record { sent = (forth true a, back true a); each = f.each; most = f.most; spaced = f.spaced; after = f.after; base = f.base }
  by_new false e false a = absurd (true≢false (sym (whole_all e) ∙ a))

-- ---- what the lines say behind one packet of a client

module _ (s : Settings) (v : View) (n : ℕ) (p : Packet) where
  -- of the call itself
  one_sent_last : (c : Called) → get v.calls p.id ≡ Some c
      → sent_last (seen v (send_line n p)) p.id ≡ sent_last v p.id || has_last p.id (length c.request) (sent_of p) p.body
  one_sent_last c is = told_sent_last v n (Sends p ∷ []) p.id tt ∙ ap (λ b. sent_last v p.id || b)
      (ap (λ o. any_last p.id o (sent_of p ∷ [])) is ∙ or-false (has_last p.id (length c.request) (sent_of p) p.body))

  one_row : (last : ℕ) (r x : ClientRow) → IsLiveRow s v last p.id r → x.seen ≡ r.seen → called_by x ≡ called_by r → x.request ≡ r.request
      → x.out.length ≡ r.out.length → outgoing.IsSound x.out
      → get (seen v (send_line n p)).now.live p.id ≡ get v.now.live p.id
      → IsFairRow s last x (resends_of (seen v (send_line n p)).now p.id) (sent_last (seen v (send_line n p)) p.id)
      → IsLiveRow s (seen v (send_line n p)) last p.id x
  one_row last r x k seen called request long sound live fair = record {
    live = live ∙ k.live ∙ ap Some (sym seen);
    called = ap (λ (m : Map call_cmp Called). get m p.id) (told_same v n (Sends p ∷ []) tt).calls ∙ k.called ∙ ap Some (sym called);
    size = long ∙ k.size ∙ ap length (sym request);
    sound = sound;
    fair = fair;
  }

module _ (s : Settings) (w : World) (v : View) (host : HostId) (now : ℕ) (stands : host.0 < length w.hosts) where
  abbrev pub Fair : Work → Type 0
  Fair = IsFairAmid s w v host now stands none_renewed

  -- a packet of another call
  other_silent : (p : Packet) (id q : CallId) → p.id ≡ id → is_call q id ≡ false → IsSilent q (Sends p ∷ [])
  other_silent p id q mine e = record { lives = refl; bare = (and_left (is_call q p.id) (asks p.role p.body) (ap (is_call q) mine ∙ e), tt) }

  -- ---- timers

  -- a RESEND of the client
  asks_again : (work : Work) (id : CallId) (r : ClientRow) (at : ℕ) (x : Range) → Fair work → get work.host.clients id ≡ Some r
      → client_deadline s r ≡ Some at → at ≤ now_of work → r.count < s.tries
      → Fair (asked s id r.server (says (moment s id work) (Some (record r { count = r.count + 1; base = now_of work })) (resend_of s (Some x))) work)
  asks_again work id r at x k is deadline over few =
      let did : Did ClientRow = says (moment s id work) (Some (record r { count = r.count + 1; base = now_of work })) (resend_of s (Some x)) in
      let mine : id.client ≡ host = k.own id r is in
      let m = asked-move s id r.server did work (mine ∙ sym k.name) tt in
      let p : Packet = packet_from s work.host Client id r.server (bare (body.Resend x.from x.to (s.overcommit - 1))) in
      let old : IsLiveRow s (said_so_far w v work) now id r = row_amid s w v host now stands none_renewed work k id r is in
      let n : ℕ = next_number w v host work (asked s id r.server did work) (Sends p ∷ []) _ work.host.servers m in
      let u : View = said_so_far w v work in
      let tick : own_tick u id.client ≡ now = ap (own_tick u) mine ∙ k.tick in
      let ticks : resends_of (seen u (send_line n p)).now id ≡ now ∷ resends_of u.now id =
      resend_ticks u n p x.from x.to (s.overcommit - 1) refl refl ∙ ap (λ (t : ℕ). t ∷ resends_of u.now id) tick in
      let last : sent_last (seen u (send_line n p)) id ≡ sent_last u id = one_sent_last s u n p (called_by r) old.called ∙ or-false (sent_last u id) in
      let asked_row : ClientRow = record r { count = r.count + 1; base = now_of work } in
      let fair : IsFairRow s now asked_row (now ∷ resends_of u.now id) (sent_last u id) =
      subst (λ (t : ℕ). IsFairRow s t asked_row (t ∷ resends_of u.now id) (sent_last u id)) k.last
      (fair_asks s now (now_of work) at r (resends_of u.now id) (sent_last u id) old.fair deadline over few) in
      fair_client s w v host now stands none_renewed work (asked s id r.server did work) (Sends p ∷ []) id did.row m mine tt (tt, tt)
      (λ q e. other_silent p id q refl e) (λ q r e. refl)
      (λ y e. subst (IsLiveRow s (seen u (send_line n p)) now id) (some_is asked_row y e)
      (one_row s u n p now r asked_row old refl refl refl refl old.sound (told_live u n (Sends p ∷ []) id tt k.level)
      (subst (λ (ts : List ℕ). IsFairRow s now asked_row ts (sent_last (seen u (send_line n p)) id)) (sym ticks)
      (subst (IsFairRow s now asked_row (now ∷ resends_of u.now id)) (sym last) fair)))) k

  -- or a timeout
  times_out : (work : Work) (id : CallId) (r : ClientRow) (at : ℕ) → Fair work → get work.host.clients id ≡ Some r → client_deadline s r ≡ Some at
      → at ≤ now_of work → nat_lt r.count s.tries ≡ false
      → Fair (asked s id r.server (says (moment s id work) None (Tells (PlainFail id Timeout) ∷ [])) work)
  times_out work id r at k is deadline over many =
      let did : Did ClientRow = says (moment s id work) None (Tells (PlainFail id Timeout) ∷ []) in
      let mine : id.client ≡ host = k.own id r is in
      let m = asked-move s id r.server did work (mine ∙ sym k.name) (refl, tt) in
      let u : View = said_so_far w v work in
      let old : IsLiveRow s u now id r = row_amid s w v host now stands none_renewed work k id r is in
      let f = fair_fails s now (now_of work) at r (resends_of u.now id) (sent_last u id) old.fair deadline over many in
      let tick : now_of work ≡ own_tick u id.client = k.last ∙ sym k.tick ∙ ap (own_tick u) (sym mine) in
      let unanswered : IsUnanswered u id =
      subst (λ (x : Settings). (length (resends_of u.now id) ≡ x.tries) × AreSpaced x.resend (own_tick u id.client ∷ resends_of u.now id)) (sym k.settings)
      (f.0, subst (λ (t : ℕ). AreSpaced s.resend (t ∷ resends_of u.now id)) tick f.1) in
      fair_client s w v host now stands none_renewed work (asked s id r.server did work) (Says (PlainFail id Timeout) ∷ []) id None m mine (tt, tt)
      (unanswered, tt)
      (λ q e. record { lives = or-false (is_call q id) ∙ e; bare = tt }) (λ q r e. refl) (λ y e. absurd (none_some y e)) k

  client_fair : (work : Work) (id : CallId) (r : ClientRow) (at : ℕ) → Fair work → get work.host.clients id ≡ Some r → client_deadline s r ≡ Some at
      → at ≤ now_of work → Fair (asked s id r.server (client_acts s (moment s id work) id r) work)
  client_fair work id r at k is deadline over =
      let x = asks_one s r at deadline in
      cond_both (nat_lt r.count s.tries) _ _ (λ (did : Did ClientRow). Fair (asked s id r.server did work))
      (λ few. subst (λ o. Fair
      (asked s id r.server (says (moment s id work) (Some (record r { count = r.count + 1; base = now_of work })) (resend_of s o)) work)) (sym x.1)
      (asks_again work id r at x.0 k is deadline over (ltb-true r.count s.tries few)))
      (λ many. times_out work id r at k is deadline over many)

  pub acted_fair : (work : Work) (place : Place) (at : ℕ) → Fair work → IsTimerAt s work.host at place → at ≤ now_of work → Fair (acts_at s place work)
  acted_fair work (OfClient id) at k timer past =
      subst (λ o. Fair (client_acted s id o work)) (sym timer.1) (client_fair work id timer.0 at k timer.1 timer.2 past)
  acted_fair work (OfServer id) at k timer past =
      subst (λ o. Fair (server_acted s id o work)) (sym timer.1)
      (fair_served s w v host now stands none_renewed work id (server_acts s (moment s id work) id timer.0)
      (server_acts_served s (moment s id work) id timer.0) k)

  pub acts_fair : 1 ≤ s.resend → (work : Work) → Fair work → Fair (acts s work)
  acts_fair resend work k = turn_kept s Fair acted_fair resend work k

  -- ---- the end of a step

  grants_fair : GrantKeeps s Fair
  grants_fair = record {
    response = λ work id r part offset prio k is has o more.
        let mine : id.client ≡ host = k.own id r is in
        let m = client_granted-move s id work offset prio r (mine ∙ sym k.name) in
        let p : Packet = client_grant s id work offset prio r in
        let u : View = said_so_far w v work in
        let n : ℕ = next_number w v host work _ (Sends p ∷ []) _ work.host.servers m in
        let granted : ClientRow = client_granted (now_of work) offset r in
        let old : IsLiveRow s u now id r = row_amid s w v host now stands none_renewed work k id r is in
        let silent = (λ (q : CallId). let z : IsSilent q (Sends p ∷ []) = record { lives = refl; bare = (and_right (is_call q id) false refl, tt) } in z) in
        let after : IsLiveRow s (seen u (send_line n p)) now id r = silent_row id s u n (Sends p ∷ []) now r tt tt k.level (silent id) old in
        fair_client s w v host now stands none_renewed work (client_is_granted s id (body.Grant offset prio) offset (Some r) work) (Sends p ∷ []) id
        (Some granted) m mine tt (tt, tt) (λ q e. silent q) (λ q r e. refl)
        (λ y e. subst (IsLiveRow s (seen u (send_line n p)) now id) (some_is granted y e)
        (record {
          live = after.live;
          called = after.called;
          size = after.size;
          sound = after.sound;
          fair = subst (λ (t : ℕ). IsFairRow s t granted (resends_of (seen u (send_line n p)).now id) (sent_last (seen u (send_line n p)) id)) k.last
              (fair_granted s now (now_of work) offset r (resends_of (seen u (send_line n p)).now id) (sent_last (seen u (send_line n p)) id)
              (omega (arith, k.last)) after.fair);
        })) k;
    request = λ work id row service part base count offset prio k is state o more.
        fair_silent s w v host now stands none_renewed work (server_is_granted s id (body.Grant offset prio) offset (Some row) work)
        (Sends (server_grant s id work offset prio) ∷ []) (set_row work.host.servers id (Some (server_granted (now_of work) offset row)))
        (server_granted-move s id work offset prio row) tt (λ q. record { lives = refl; bare = (and_right (is_call q id) false refl, tt) }) k;
  }

  -- a piece of a request
  request_fair : (work : Work) (id : CallId) (r : ClientRow) (range : Range) → 0 < s.seg → Fair work → get work.host.clients id ≡ Some r
      → next_range r.out s.seg ≡ Some range → Fair (request_leaves s id r range work)
  request_fair work id r range seg k is at =
      let mine : id.client ≡ host = k.own id r is in
      let m = request_leaves-move s id work r range (mine ∙ sym k.name) in
      let p : Packet = request_piece s id work r range in
      let u : View = said_so_far w v work in
      let n : ℕ = next_number w v host work (request_leaves s id r range work) (Sends p ∷ []) _ work.host.servers m in
      let version : ℕ = (peer_cutoffs s work.host r.server).cutoffs.version in
      let ack : Option (ℕ × ℕ) = oldest (finished_at work.host r.server) in
      let sent : ClientRow = client_sends s (now_of work) r in
      let old : IsLiveRow s u now id r = row_amid s w v host now stands none_renewed work k id r is in
      let whole : Bool = nat_lt range.from (length r.request) && nat_le (length r.request) (range.from + length (slice r.request range)) in
      let ticks : resends_of (seen u (send_line n p)).now id ≡ cond (not (sent_last u id)) [] (resends_of u.now id) =
      piece_ticks u n p r.out.length range.from version r.service ack refl refl in
      let last : sent_last (seen u (send_line n p)) id ≡ sent_last u id || whole =
      one_sent_last s u n p (called_by r) old.called
      ∙ ap (λ b. sent_last u id ||
      (b && nat_lt range.from (length r.request) && nat_le (length r.request) (range.from + length (slice r.request range)))) ((calls_are id id).1 refl) in
      let fair : IsFairRow s now sent (cond (not (sent_last u id)) [] (resends_of u.now id)) (sent_last u id || whole) =
      subst (λ (t : ℕ). IsFairRow s t sent (cond (not (sent_last u id)) [] (resends_of u.now id)) (sent_last u id || whole)) k.last
      (sent_fair s (now_of work) r range (resends_of u.now id) (sent_last u id) seg old.sound old.size at
      (subst (λ (t : ℕ). IsFairRow s t r (resends_of u.now id) (sent_last u id)) (sym k.last) old.fair)) in
      let row = while_row (now_of work) r in
      fair_client s w v host now stands none_renewed work (request_leaves s id r range work) (Sends p ∷ []) id (Some sent) m mine tt (tt, tt)
      (λ q e. other_silent p id q refl e) (λ q r e. refl)
      (λ y e. subst (IsLiveRow s (seen u (send_line n p)) now id) (some_is sent y e)
      (one_row s u n p now r sent old row.0 row.1 row.2 (ap (λ o. (outgoing.sent r.out o).length) at) (sound-next r.out s.seg old.sound)
      (told_live u n (Sends p ∷ []) id tt k.level)
      (subst (λ (ts : List ℕ). IsFairRow s now sent ts (sent_last (seen u (send_line n p)) id)) (sym ticks)
      (subst (IsFairRow s now sent (cond (not (sent_last u id)) [] (resends_of u.now id))) (sym last) fair)))) k where
        while_row : (t : ℕ) (r : ClientRow) → ((client_sends s t r).seen ≡ r.seen) × (called_by (client_sends s t r) ≡ called_by r)
            × ((client_sends s t r).request ≡ r.request)
        while_row t r =
            cond_both (nat_lt r.out.top r.out.length) _ _
            (λ (x : ClientRow). (x.seen ≡ r.seen) × (called_by x ≡ called_by r) × (x.request ≡ r.request)) (λ _. (refl, refl, refl)) (λ _. (refl, refl, refl))

  pieces_fair : 0 < s.seg → PieceKeeps s Fair
  pieces_fair seg = record {
    request = λ work id r range k is may at. request_fair work id r range seg k is at;
    response = λ work id row response out order base count range k is state at.
        let content = response_content s (peer_cutoffs s work.host id.client).cutoffs response out range in
        fair_silent s w v host now stands none_renewed work (response_leaves s id row content range work)
        (Sends (response_piece s id work content) ∷ []) (set_row work.host.servers id (Some (record row { state = state_sends s (now_of work) row.state })))
        (response_leaves-move s id work row content range) tt (λ q. record { lives = refl; bare = (and_right (is_call q id) false refl, tt) }) k;
  }

  pub ended_fair : 0 < s.seg → (work : Work) → Fair work → Fair (ended s work)
  ended_fair seg work k = ended_kept s Fair grants_fair (pieces_fair seg) work k
