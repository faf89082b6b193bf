-- Rules that leave what has arrived of a call's messages, and tell of nothing that the laws speak of.
use Rattle.std.proofs.Common.{◌≡◌, ℕ, Bool, true, false, ◌⊎◌, inl, inr, Option, Some, None, List, [], ◌∷◌, refl, sym, ap, subst, ◌∙◌}
use Rattle.std.specs.Prelude.{◌==◌, nat_lt, if◌then◌else◌}
use Rattle.std.proofs.lemmas.Bool.{cond_both}
use Rattle.plain_sets.specs.Ranges.{Range}
use Rattle.homa_plain.specs.declared.id.CallId.{CallId}
use Rattle.homa_plain.specs.declared.id.HostId.{HostId}
use Rattle.homa_plain.specs.declared.entry.Why.TheVariants.{Timeout, Forgotten}
use Rattle.homa_plain.specs.declared.packet.Body.{Body}
use Rattle.homa_plain.specs.declared.packet.Body.TheVariants as body
use Rattle.homa_plain.specs.declared.settings.Settings.{Settings}
use Rattle.homa_plain.specs.Entries.{PlainBury, PlainFree, PlainDrop, PlainFail}
use Rattle.homa_plain.specs.Incoming.{Incoming, first_gap}
use Rattle.homa_plain.specs.Outgoing.{Outgoing, grant}
use Rattle.homa_plain.specs.Busy.{Answer as ResendAnswer, Busy, Queued, resend, is_busy}
use Rattle.homa_plain.specs.Rows.{ClientRow, ServerRow, State, Receiving, Held, Replying, Buried}
use Rattle.homa_plain.specs.Rules.{Moment, Answer, Say, Tells, Posts, Did}
use Rattle.homa_plain.specs.Busy.{busy_for}
use Rattle.homa_plain.specs.AtClient.{unasked, started_over, answered, refreshed}
use Rattle.homa_plain.specs.AtServer.{unknown_gets, receiving_gets, held_gets, replying_gets}
use Rattle.homa_plain.specs.Unknown.{buried_gets}
use Rattle.homa_plain.specs.Tombstones.{state_acked, server_acked}
use Rattle.homa_plain.specs.Timers.{resend_of, wanted, client_acts, state_acts, server_acts}
use Rattle.trace_steps.specs.Stands.{state_of}
use Rattle.trace_steps.specs.Contents.{Replies}
use Rattle.trace_returned.specs.Tales.{receiving}
use Rattle.homa_plain.specs.Busy as busy

-- a packet that is no piece of a message and no GRANT
abbrev pub IsCalmBody : Body → Type 0
IsCalmBody (body.Data size offset version service ack) = ⊥
IsCalmBody (body.Grant offset prio) = ⊥
IsCalmBody other = Unit {0}

-- a rule says nothing but that a call is buried or its tombstone gone, and sends such packets
abbrev pub AllCalm : List Say → Type 0
AllCalm [] = Unit {0}
AllCalm (Tells (PlainBury host id until) ∷ says) = AllCalm says
AllCalm (Tells (PlainFree host id) ∷ says) = AllCalm says
AllCalm (Tells entry ∷ says) = ⊥
AllCalm (Posts what ∷ says) = IsCalmBody what × AllCalm says

-- ---- at a server

pub record StillServed (o : Option State) (d : Did ServerRow) : Type 0 where
  pub calm : AllCalm d.says
  pub part : receiving (state_of d.row) ≡ receiving o
  pub replies : (xs : List (List ℕ)) → Replies xs o → Replies xs (state_of d.row)

-- a packet is no piece of a message
abbrev pub IsOther : Body → Type 0
IsOther (body.Data size offset version service ack) = ⊥
IsOther other = Unit {0}

busy_calm : (a : ResendAnswer) → AllCalm (busy_for a)
busy_calm Busy = (tt, tt)
busy_calm Queued = tt

resend_calm : (s : Settings) (o : Option Range) → AllCalm (resend_of s o)
resend_calm s None = tt
resend_calm s (Some r) = (tt, tt)

grant_long : (p : Outgoing) (offset prio : ℕ) → (grant p offset prio).length ≡ p.length
grant_long p offset prio = cond_both (nat_lt p.granted _) _ _ (λ (o : Outgoing). o.length ≡ p.length) (λ _. refl) (λ _. refl)

resend_long : (p : Outgoing) (a b prio : ℕ) → (resend p a b prio).part.length ≡ p.length
resend_long p a b prio = cond_both (is_busy p a _) _ _ (λ (o : busy.Resent). o.part.length ≡ p.length) (λ _. refl) (λ _. refl)

module _ (s : Settings) (m : Moment) (id : CallId) where
  -- where no row stands
  pub unknown_still : (what : Body) (payload : List ℕ) (answer : Answer) → IsOther what → StillServed None (unknown_gets s m id what payload answer)
  unknown_still (body.Data size offset version service ack) payload answer other = absurd other
  unknown_still (body.Resend from to prio) payload answer other = record { calm = (tt, tt); part = refl; replies = λ xs e. tt }
  unknown_still what payload answer other = record { calm = tt; part = refl; replies = λ xs e. tt }

  pub receiving_still : (what : Body) (payload : List ℕ) (answer : Answer) (row : ServerRow) (service : ℕ) (part : Incoming) (base count : ℕ)
      → row.state ≡ Receiving service part base count → IsOther what
      → StillServed (Some (Receiving service part base count)) (receiving_gets s m id what payload answer row service part base)
  receiving_still what payload answer row service part base count is other = by_body what other where
    same : receiving (Some row.state) ≡ Some (service, part)
    same = ap (λ (x : State). receiving (Some x)) is

    stays : (xs : List (List ℕ)) → Replies xs (Some row.state)
    stays xs = subst (λ (x : State). Replies xs (Some x)) (sym is) tt

    by_body : (what : Body) → IsOther what
        → StillServed (Some (Receiving service part base count)) (receiving_gets s m id what payload answer row service part base)
    by_body (body.Data size offset version service' ack) other = absurd other
    by_body (body.Resend from to prio) other = record { calm = (tt, tt); part = refl; replies = λ xs e. tt }
    by_body body.Busy other = record { calm = tt; part = refl; replies = λ xs e. tt }
    by_body what other = record { calm = tt; part = same; replies = λ xs e. stays xs }

  -- a row that holds a response
  pub held_still : (what : Body) (row : ServerRow) → StillServed (Some row.state) (held_gets m what row)
  held_still (body.Resend from to prio) row = record { calm = (tt, tt); part = refl; replies = λ xs e. e }
  held_still what row = record { calm = tt; part = refl; replies = λ xs e. e }

  pub replying_still : (what : Body) (row : ServerRow) (response : List ℕ) (out : Outgoing) (order base count : ℕ)
      → row.state ≡ Replying response out order base count
      → StillServed (Some (Replying response out order base count)) (replying_gets m what row response out order)
  replying_still what row response out order base count is = by_body what where
    by_body : (what : Body) → StillServed (Some (Replying response out order base count)) (replying_gets m what row response out order)
    by_body (body.Grant offset prio) = record { calm = tt; part = refl; replies = λ xs e. (e.0, grant_long out offset prio ∙ e.1) }
    by_body (body.Resend from to prio) =
        record { calm = busy_calm (resend out from to prio).answer; part = refl; replies = λ xs e. (e.0, resend_long out from to prio ∙ e.1) }
    by_body (body.Ack more) =
        record { calm = tt; part = ap (λ (x : State). receiving (Some x)) is; replies = λ xs e. subst (λ (x : State). Replies xs (Some x)) (sym is) e }
    by_body what = record { calm = tt; part = refl; replies = λ xs e. e }

  pub buried_still : (what : Body) (row : ServerRow) → StillServed (Some row.state) (buried_gets m what row)
  buried_still (body.Data size offset version service ack) row = record { calm = (tt, tt); part = refl; replies = λ xs e. e }
  buried_still (body.Resend from to prio) row = record { calm = (tt, tt); part = refl; replies = λ xs e. e }
  buried_still what row = record { calm = tt; part = refl; replies = λ xs e. e }

  -- ---- acknowledgements and timers

  state_acked_still : (row : ServerRow) (state : State) → row.state ≡ state → StillServed (Some row.state) (state_acked s m id row state)
  state_acked_still row (Receiving service part base count) is = record { calm = tt; part = refl; replies = λ xs e. e }
  state_acked_still row (Held response release) is = record { calm = tt; part = sym (ap (λ (x : State). receiving (Some x)) is); replies = λ xs e. tt }
  state_acked_still row (Replying response out order base count) is =
      record { calm = tt; part = sym (ap (λ (x : State). receiving (Some x)) is); replies = λ xs e. tt }
  state_acked_still row (Buried until) is = record { calm = tt; part = refl; replies = λ xs e. e }

  pub acked_still : (o : Option ServerRow) → StillServed (state_of o) (server_acked s m id o)
  unfolding server_acked
  acked_still None = record { calm = tt; part = refl; replies = λ xs e. e }
  acked_still (Some row) = state_acked_still row row.state refl

  -- a request is given up
  pub record Drops (d : Did ServerRow) : Type 0 where
    pub says : d.says ≡ Tells (PlainDrop m.host id) ∷ []
    pub row : d.row ≡ None

  state_acts_still : (row : ServerRow) (state : State) → row.state ≡ state → StillServed (Some state) (state_acts s m id row state)
      ⊎ Drops (state_acts s m id row state)
  state_acts_still row (Receiving service part base count) is =
      cond_both (nat_lt count s.tries) _ _ (λ (d : Did ServerRow). StillServed (Some (Receiving service part base count)) d ⊎ Drops d)
      (λ _. inl (record { calm = resend_calm s (first_gap part); part = refl; replies = λ xs e. tt })) (λ _. inr (record { says = refl; row = refl }))
  state_acts_still row (Held response release) is = inl (record { calm = tt; part = refl; replies = λ xs e. (e, refl) })
  state_acts_still row (Replying response out order base count) is =
      cond_both (nat_lt count s.tries) _ _ (λ (d : Did ServerRow). StillServed (Some (Replying response out order base count)) d ⊎ Drops d)
      (λ _. inl (record { calm = (tt, tt); part = refl; replies = λ xs e. e })) (λ _. inl (record { calm = tt; part = refl; replies = λ xs e. tt }))
  state_acts_still row (Buried until) is = inl (record { calm = tt; part = refl; replies = λ xs e. tt })

  pub server_acts_still : (row : ServerRow) → StillServed (Some row.state) (server_acts s m id row) ⊎ Drops (server_acts s m id row)
  server_acts_still row = state_acts_still row row.state refl

-- ---- at a client

-- what the lines speak of in a client's row
pub record Awaited : Type 0 where
  pub server : HostId
  pub seen : ℕ
  pub part : Option Incoming

abbrev pub awaited : ClientRow → Awaited
awaited r = record { server = r.server; seen = r.seen; part = r.part }

abbrev pub awaiting : Option ClientRow → Option Awaited
awaiting None = None
awaiting (Some r) = Some (awaited r)

pub record StillAsked (o : Option ClientRow) (d : Did ClientRow) : Type 0 where
  pub calm : AllCalm d.says
  pub row : awaiting d.row ≡ awaiting o

-- a call fails
pub record Forgets (id : CallId) (d : Did ClientRow) : Type 0 where
  pub says : d.says ≡ Tells (PlainFail id Forgotten) ∷ []
  pub row : d.row ≡ None

pub record TimesOut (id : CallId) (d : Did ClientRow) : Type 0 where
  pub says : d.says ≡ Tells (PlainFail id Timeout) ∷ []
  pub row : d.row ≡ None

pub unasked_still : (m : Moment) (what : Body) → StillAsked None (unasked m what)
unasked_still m body.NeedAck = record { calm = (tt, tt); row = refl }
unasked_still m what = record { calm = tt; row = refl }

module _ (s : Settings) (m : Moment) (id : CallId) where
  -- a packet that counts, but a piece and UNKNOWN
  abbrev pub IsPlain : Body → Type 0
  IsPlain (body.Data size offset version service ack) = ⊥
  IsPlain (body.Unknown reason) = ⊥
  IsPlain other = Unit {0}

  pub answered_still : (what : Body) (payload : List ℕ) (r : ClientRow) → IsPlain what → StillAsked (Some r) (answered s m id what payload r)
  answered_still (body.Data size offset version service ack) payload r plain = absurd plain
  answered_still (body.Unknown reason) payload r plain = absurd plain
  answered_still (body.Resend from to prio) payload r plain = record { calm = busy_calm (resend r.out from to prio).answer; row = refl }
  answered_still body.NeedAck payload r plain = record { calm = (tt, tt); row = refl }
  answered_still what payload r plain = record { calm = tt; row = refl }

  started_same : (r : ClientRow) (o : Option Incoming) → awaited (started_over r o) ≡ awaited r
  started_same r None = refl
  started_same r (Some part) = refl

  pub unknown_answered : (reason : ℕ) (payload : List ℕ) (r : ClientRow)
      → ((reason == 0) ≡ true → StillAsked (Some r) (answered s m id (body.Unknown reason) payload r))
      × ((reason == 0) ≡ false → Forgets id (answered s m id (body.Unknown reason) payload r))
  unknown_answered reason payload r = by_test (reason == 0) where
    by_test : (b : Bool)
        → (b ≡ true → StillAsked (Some r)
        (if b then record { row = Some (started_over r r.part); order = m.order; opened = None; version = None; says = []; finished = false }
        else record { row = None; order = m.order; opened = None; version = None; says = Tells (PlainFail id Forgotten) ∷ []; finished = false }))
        × (b ≡ false → Forgets id
        (if b then record { row = Some (started_over r r.part); order = m.order; opened = None; version = None; says = []; finished = false }
        else record { row = None; order = m.order; opened = None; version = None; says = Tells (PlainFail id Forgotten) ∷ []; finished = false }))
    by_test true = (λ _. record { calm = tt; row = ap (λ (x : Awaited). Some x) (started_same r r.part) }, λ e. absurd (differ e)) where
      differ : true ≡ false → ⊥
      differ e = cc
    by_test false = (λ e. absurd (differ e), λ _. record { says = refl; row = refl }) where
      differ : false ≡ true → ⊥
      differ e = cc

  -- it asks again, or gives up
  pub client_acts_still : (r : ClientRow) → StillAsked (Some r) (client_acts s m id r) ⊎ TimesOut id (client_acts s m id r)
  client_acts_still r =
      cond_both (nat_lt r.count s.tries) _ _ (λ (d : Did ClientRow). StillAsked (Some r) d ⊎ TimesOut id d)
      (λ _. inl (record { calm = resend_calm s (wanted s r.part); row = refl })) (λ _. inr (record { says = refl; row = refl }))

  -- what was heard of changes the row's server's life and its part alone
  pub refreshed_same : (now : ℕ) (what : Body) (r : ClientRow) → awaited (refreshed now what r) ≡ awaited r
  refreshed_same now (body.Unknown reason) r = refl
  refreshed_same now body.NeedAck r = refl
  refreshed_same now (body.Cutoffs cutoffs) r = refl
  refreshed_same now what r = refl
