-- What a rule for a packet says at a client, and what it leaves of the row: neither a RESEND nor a piece of the request, and the timer as it was renewed.
use Rattle.std.proofs.Common.{◌≡◌, ℕ, Bool, true, false, Option, Some, None, List, [], ◌∷◌, refl, sym, ap, subst, ◌∙◌}
use Rattle.std.specs.Prelude.{◌==◌, not, nat_lt, min}
use Rattle.std.proofs.lemmas.Bool.{cond_both}
use Rattle.homa_plain.specs.declared.id.CallId.{CallId}
use Rattle.homa_plain.specs.declared.packet.Body.{Body}
use Rattle.homa_plain.specs.declared.packet.Body.TheVariants as body
use Rattle.homa_plain.specs.declared.settings.Settings.{Settings}
use Rattle.homa_plain.specs.declared.entry.Why.TheVariants.{Timeout}
use Rattle.homa_plain.specs.Entries.{PlainDone, PlainFail}
use Rattle.homa_plain.specs.Incoming.{Incoming, with_bytes, is_whole, leaves_too_many_gaps}
use Rattle.homa_plain.specs.Incoming as incoming
use Rattle.homa_plain.specs.Outgoing.{Outgoing, grant, restart}
use Rattle.homa_plain.specs.Busy.{Answer, Busy, Queued, Resent, resend}
use Rattle.homa_plain.specs.OutgoingChanges.{Change, changed, Grant, Resend, Restart}
use Rattle.homa_plain.specs.Outgoing as outgoing
use Rattle.homa_plain.specs.Rows.{ClientRow}
use Rattle.homa_plain.specs.Host.{pages_for}
use Rattle.homa_plain.specs.Rules.{Moment, Piece, Say, Tells, Posts, Did, keeps, opening}
use Rattle.homa_plain.specs.Busy.{busy_for}
use Rattle.homa_plain.specs.AtClient.{piece_comes, response_piece, answered, unasked, started_over}
use Rattle.homa_plain.proofs.OutgoingLaws.{sound-grant, sound-resend, sound-restart}
use Rattle.trace_steps.specs.Contents.{called_by}
use Rattle.step_moves.proofs.Hosts.{some_is, none_some}
use Rattle.trace_fails.proofs.FairRows.{SameTimer}
use Rattle.homa_plain.specs.Busy as busy

-- neither a RESEND nor a piece of a message
abbrev pub IsBare : Body → Type 0
IsBare (body.Data size offset version service ack) = ⊥
IsBare (body.Resend from to prio) = ⊥
IsBare what = Unit {0}

abbrev pub AllBare : List Say → Type 0
AllBare [] = Unit {0}
AllBare (Tells entry ∷ says) = AllBare says
AllBare (Posts what ∷ says) = IsBare what × AllBare says

-- no timeout
abbrev pub NoTimeouts : List Say → Type 0
NoTimeouts [] = Unit {0}
NoTimeouts (Tells (PlainFail id Timeout) ∷ says) = ⊥
NoTimeouts (x ∷ says) = NoTimeouts says

-- whether the call ends
abbrev pub ends_said : List Say → Bool
ends_said [] = false
ends_said (Tells (PlainDone id bytes) ∷ says) = true
ends_said (Tells (PlainFail id why) ∷ says) = true
ends_said (x ∷ says) = ends_said says

-- the row is of the same call, with the same timer
pub record IsSameRow (r x : ClientRow) : Type 0 where
  pub timer : SameTimer r x
  pub seen : x.seen ≡ r.seen
  pub called : called_by x ≡ called_by r
  pub request : x.request ≡ r.request
  pub sound : outgoing.IsSound r.out → outgoing.IsSound x.out

pub record IsAnswered (r : ClientRow) (d : Did ClientRow) : Type 0 where
  pub row : (x : ClientRow) → d.row ≡ Some x → IsSameRow r x × (ends_said d.says ≡ false)
  pub bare : AllBare d.says
  pub quiet : NoTimeouts d.says

same_row : (r x : ClientRow) → x.out ≡ r.out → x.count ≡ r.count → x.base ≡ r.base → x.seen ≡ r.seen → x.server ≡ r.server → x.service ≡ r.service
    → x.request ≡ r.request → IsSameRow r x
same_row r x a b c d e f g = record {
  timer = record { top = ap (λ (o : Outgoing). o.top) a; long = ap (λ (o : Outgoing). o.length) a; count = b; base = c };
  seen = d;
  called = λ i. record { server = e i; service = f i; request = g i };
  request = g;
  sound = subst outgoing.IsSound (sym a);
}

-- one row is left
stays : (r x : ClientRow) (d : Did ClientRow) → d.row ≡ Some x → IsSameRow r x → ends_said d.says ≡ false → AllBare d.says → NoTimeouts d.says → IsAnswered r d
stays r x d is same on bare quiet = record { row = λ y e. (subst (IsSameRow r) (some_is x y (sym is ∙ e)) same, on); bare = bare; quiet = quiet }

module _ (s : Settings) (m : Moment) (id : CallId) where
  comes_answered : (r : ClientRow) (part : Incoming) (piece : Piece) (d : Did ClientRow) → d.says ≡ [] → IsAnswered r (piece_comes id r part piece d)
  comes_answered r part piece d e =
      let none : ends_said d.says ≡ false = ap ends_said e in
      let bare : AllBare d.says = subst AllBare (sym e) tt in
      let quiet : NoTimeouts d.says = subst NoTimeouts (sym e) tt in
      let same = (λ (p : Incoming). let y : ClientRow = record r { part = Some p } in same_row r y refl refl refl refl refl refl refl) in
      cond_both (not (part.length == piece.size)) _ _ (IsAnswered r) (λ _. stays r (record r { part = Some part }) _ refl (same part) none bare quiet)
      (λ _. cond_both (leaves_too_many_gaps part piece.offset piece.payload) _ _ (IsAnswered r)
      (λ _. stays r (record r { part = Some part }) _ refl (same part) refl tt tt)
      (λ _. cond_both (is_whole (with_bytes part piece.offset piece.payload)) _ _ (IsAnswered r)
      (λ _. record { row = λ y e. absurd (none_some y e); bare = tt; quiet = tt })
      (λ _. stays r (record r { part = Some (with_bytes part piece.offset piece.payload) }) _ refl (same (with_bytes part piece.offset piece.payload))
      none bare quiet)))

  response_answered : (r : ClientRow) (o : Option Incoming) (piece : Piece) → IsAnswered r (response_piece s m id r o piece)
  response_answered r None piece =
      cond_both (nat_lt m.free (pages_for piece.size)) _ _ (IsAnswered r) (λ _. stays r r _ refl (same_row r r refl refl refl refl refl refl refl) refl tt tt)
      (λ _. comes_answered r (incoming.opened r.server piece.size m.order s.unsched) piece (opening piece.size (keeps m r)) refl)
  response_answered r (Some part) piece = comes_answered r part piece (keeps m r) refl

  -- the request's part changes, but not as far as it was sent
  out_is : (r : ClientRow) (out : Outgoing) → out.top ≡ r.out.top → out.length ≡ r.out.length → (outgoing.IsSound r.out → outgoing.IsSound out)
      → IsSameRow r (record r { out = out })
  out_is r out top long sound =
      record { timer = record { top = top; long = long; count = refl; base = refl }; seen = refl; called = refl; request = refl; sound = sound }

  granted_out : (p : Outgoing) (end prio : ℕ) → ((outgoing.grant_up_to p end prio).top ≡ p.top) × ((outgoing.grant_up_to p end prio).length ≡ p.length)
  granted_out p end prio =
      cond_both (nat_lt p.granted end) _ _ (λ (o : Outgoing). (o.top ≡ p.top) × (o.length ≡ p.length)) (λ _. (refl, refl)) (λ _. (refl, refl))

  resent_out : (p : Outgoing) (a b prio : ℕ) → ((busy.resend_up_to p a b prio).part.top ≡ p.top)
      × ((busy.resend_up_to p a b prio).part.length ≡ p.length)
  resent_out p a b prio =
      cond_both (busy.is_busy p a b) _ _ (λ (o : Resent). (o.part.top ≡ p.top) × (o.part.length ≡ p.length)) (λ _. (refl, refl)) (λ _. (refl, refl))

  busy_bare : (a : Answer) → AllBare (busy_for a) × NoTimeouts (busy_for a) × (ends_said (busy_for a) ≡ false)
  busy_bare Busy = ((tt, tt), tt, refl)
  busy_bare Queued = (tt, tt, refl)

  pub answered_is : (what : Body) (payload : List ℕ) (r : ClientRow) → IsAnswered r (answered s m id what payload r)
  answered_is (body.Data size offset version service ack) payload r =
      response_answered r r.part (record { size = size; offset = offset; version = version; service = service; payload = payload })
  answered_is (body.Grant offset prio) payload r =
      let g = granted_out r.out (min offset r.out.length) prio in
      stays r (record r { out = grant r.out offset prio }) _ refl (out_is r (grant r.out offset prio) g.0 g.1 (sound-grant r.out offset prio)) refl tt tt
  answered_is (body.Resend from to prio) payload r =
      let g = resent_out r.out from (min to r.out.length) prio in
      let b = busy_bare (resend r.out from to prio).answer in
      stays r (record r { out = (resend r.out from to prio).part }) _ refl
      (out_is r (resend r.out from to prio).part g.0 g.1 (sound-resend r.out from to prio)) b.2 b.0 b.1
  answered_is (body.Unknown reason) payload r =
      cond_both (reason == 0) _ _ (IsAnswered r) (λ _. stays r (started_over r r.part) _ refl (over r.part) refl tt tt)
      (λ _. record { row = λ y e. absurd (none_some y e); bare = tt; quiet = tt }) where
        over : (o : Option Incoming) → IsSameRow r (started_over r o)
        over None = out_is r (restart r.out) refl refl (sound-restart r.out)
        over (Some part) = same_row r r refl refl refl refl refl refl refl
  answered_is body.NeedAck payload r = stays r r _ refl (same_row r r refl refl refl refl refl refl refl) refl (tt, tt) tt
  answered_is body.Busy payload r = stays r r _ refl (same_row r r refl refl refl refl refl refl refl) refl tt tt
  answered_is (body.Cutoffs cutoffs) payload r = stays r r _ refl (same_row r r refl refl refl refl refl refl refl) refl tt tt
  answered_is (body.Ack more) payload r = stays r r _ refl (same_row r r refl refl refl refl refl refl refl) refl tt tt

  -- a call that isn't live
  pub unasked_bare : (what : Body) → AllBare (unasked m what).says × NoTimeouts (unasked m what).says × ((unasked m what).row ≡ None)
  unasked_bare body.NeedAck = ((tt, tt), tt, refl)
  unasked_bare what = (tt, tt, refl)

  -- a packet that isn't looked at
  pub kept_is : (r : ClientRow) → IsAnswered r (keeps m r)
  kept_is r = stays r r _ refl (same_row r r refl refl refl refl refl refl refl) refl tt tt
