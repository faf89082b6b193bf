-- When a rule for a call's row at its server keeps the lifetime invariant.
use Rattle.std.proofs.Common.{◌≡◌, ℕ, ◌+◌, ◌≤◌, ◌<◌, Bool, true, false, ◌||◌, ◌⊎◌, inl, inr, Option, Some, None, List, [], ◌∷◌, refl, sym, ap, subst}
use Rattle.std.proofs.Common.{◌∙◌, arith}
use Rattle.std.proofs.lemmas.Bool.{false≢true}
use Rattle.homa_plain.specs.declared.id.HostId.{HostId}
use Rattle.homa_plain.specs.declared.packet.Role.{Role}
use Rattle.homa_plain.specs.declared.packet.Role.TheVariants.{Server}
use Rattle.homa_plain.specs.declared.packet.Body.{Body}
use Rattle.homa_plain.specs.declared.packet.Body.TheVariants as body
use Rattle.homa_plain.specs.Entries.{PlainRun}
use Rattle.homa_plain.specs.Incoming.{Incoming}
use Rattle.homa_plain.specs.Rows.{ClientRow, ServerRow, State, Receiving}
use Rattle.homa_plain.specs.Rules.{Moment, Say, Tells, Posts, Did, leaves, says}
use Rattle.trace_steps.specs.Stands.{Stand, state_of, with_server}
use Rattle.step_laws.proofs.Own.{runs_said}
use Rattle.trace_once.specs.Lifetime.{Times, span, expiry, expiry_of, took_part, CoversRequest, CoversReply, call_to, IsMadeTo, HasSentAll}
use Rattle.trace_once.specs.Lifetime.{BodyFits, Fits, PartFits, RowFits, Lifetime, Later}
use Rattle.step_moves.proofs.Hosts.{none_some}
use Rattle.trace_once.proofs.Later.{made_at, client_at, part_at, row_at}

-- the packets that a rule says fit
abbrev pub SaysFit : Times → HostId → Stand → ℕ → Role → List Say → Type 0
SaysFit s h v t role [] = Unit {0}
SaysFit s h v t role (Tells entry ∷ says) = SaysFit s h v t role says
SaysFit s h v t role (Posts what ∷ says) = Fits s h v t role what [] × SaysFit s h v t role says

-- a run that a rule says is the call's first in this life of the host, with the service and the request of its `call` line, and the rule's only one
abbrev pub RunsFit : HostId → Stand → List Say → Type 0
RunsFit h v [] = Unit {0}
RunsFit h v (Tells (PlainRun host id service request response hold) ∷ says) =
    (v.ran ≡ false) × (v.called ≡ Some (call_to h service request)) × (runs_said says ≡ false)
RunsFit h v (x ∷ says) = RunsFit h v says

-- the record expires no earlier than before, or late enough for all that may still come of the call
abbrev pub IsSafeExpiry : Times → Stand → ℕ → Type 0
IsSafeExpiry s v y = ((x : ℕ) × (expiry_of v ≡ Some x) × (x ≤ y))
    ⊎ ((v.clock + span s < y) × ((r : ClientRow) → v.client ≡ Some r → v.clock + span s + s.patience + span s < y))

-- the row may become o, and the call have run or not
pub record ServerChange (s : Times) (h : HostId) (v : Stand) (o : Option State) (ran : Bool) : Type 0 where
  pub made : IsMadeTo h v
  pub row : RowFits h (with_server v o ran) o
  pub sent : ran ≡ true → HasSentAll v
  pub expires : (y : ℕ) → expiry ran v.last o ≡ Some y → IsSafeExpiry s v y

-- what a rule does to the row, what it sends and what it runs; only while a row stands are cutoffs told
pub record ServerKeeps (s : Times) (h : HostId) (v : Stand) (d : Did ServerRow) : Type 0 where
  pub change : ServerChange s h v (state_of d.row) (v.ran || runs_said d.says)
  pub says : SaysFit s h (with_server v (state_of d.row) (v.ran || runs_said d.says)) v.clock Server d.says
  pub cutoffs : (x : ℕ) → d.version ≡ Some x → expiry (v.ran || runs_said d.says) v.last (state_of d.row) ≡ None
  pub runs : RunsFit h v d.says

-- ---- a change keeps the invariant

module _ (s : Times) (h : HostId) (v : Stand) where
  request_covered : (t y : ℕ) → t ≤ v.clock → CoversRequest s v t → IsSafeExpiry s v y → t + span s < y
  request_covered t y past f (inl p) = omega (arith, f p.0 p.1, p.2)
  request_covered t y past f (inr p) = omega (arith, p.0)

  reply_covered : (t y : ℕ) (r : ClientRow) → t ≤ v.clock → CoversReply s v t → v.client ≡ Some r → IsSafeExpiry s v y → t + span s + s.patience + span s < y
  reply_covered t y r past f at (inl p) = omega (arith, f r p.0 at p.1, p.2)
  reply_covered t y r past f at (inr p) = omega (arith, p.1 r at)

  heard_covered : (y : ℕ) (r : ClientRow) → Lifetime s h v → v.client ≡ Some r → IsSafeExpiry s v y → r.heard + s.patience + span s < y
  heard_covered y r k at (inl p) = omega (arith, k.covered r p.0 at p.1, p.2)
  heard_covered y r k at (inr p) = omega (arith, p.1 r at, (k.client r at).heard)

  pub later_server : (o : Option State) (ran : Bool) → ServerChange s h v o ran → Later s v (with_server v o ran)
  later_server o ran d = record {
    clock = omega arith;
    called = λ c e. e;
    client = λ c e r is. (r, is, λ k. k);
    requests = λ t past f y is. request_covered t y past f (d.expires y is);
    replies = λ t past c e f r y at is. reply_covered t y r past f at (d.expires y is);
  }

  pub lifetime_server : (o : Option State) (ran : Bool) → ServerChange s h v o ran → Lifetime s h v → Lifetime s h (with_server v o ran)
  lifetime_server o ran d k = record {
    last = k.last;
    named = k.named;
    client = λ r is. client_at s v (with_server v o ran) r refl (omega arith) (k.client r is);
    made = λ _. made_at h v (with_server v o ran) refl d.made;
    row = d.row;
    sent = d.sent;
    covered = λ r y at is. heard_covered y r k at (d.expires y is);
  }

-- ---- how rules are shown to keep it

no_runs : (h : HostId) (v : Stand) (said : List Say) → runs_said said ≡ false → RunsFit h v said
no_runs h v [] e = tt
no_runs h v (Tells (PlainRun host id service request response hold) ∷ said) e = absurd (false≢true (sym e))
no_runs h v (x ∷ said) e = no_runs h v said e

module _ (s : Times) (h : HostId) (v : Stand) where
  -- what a row that stands tells
  pub row_made : (state : State) → Lifetime s h v → v.server ≡ Some state → IsMadeTo h v
  row_made state k at = k.made (ap (took_part v.ran) at)

  pub row_is : (o : Option State) → Lifetime s h v → v.server ≡ o → RowFits h v o
  row_is o k at = subst (RowFits h v) at k.row

  -- the record doesn't expire
  pub live_change : (o : Option State) (ran : Bool) → IsMadeTo h v → RowFits h (with_server v o ran) o → (ran ≡ true → HasSentAll v)
      → expiry ran v.last o ≡ None → ServerChange s h v o ran
  live_change o ran m f sent live = record { made = m; row = f; sent = sent; expires = λ y is. absurd (none_some y (sym live ∙ is)) }

  -- the row stays as it is
  pub same_change : (o : Option State) → IsMadeTo h v → Lifetime s h v → v.server ≡ o → ServerChange s h v o v.ran
  same_change o m k at = record {
    made = m;
    row = row_at h v (with_server v o v.ran) o refl refl (λ e. e) (row_is o k at);
    sent = k.sent;
    expires = λ y is. inl (y, ap (expiry v.ran v.last) at ∙ is, omega arith);
  }

  ran_same : v.ran || false ≡ v.ran
  ran_same = elim v.ran as (λ b. b || false ≡ b) [ true ↦ refl | false ↦ refl ]

  -- a rule that asks no service
  pub quiet_keeps : (d : Did ServerRow) → runs_said d.says ≡ false → ServerChange s h v (state_of d.row) v.ran
      → SaysFit s h (with_server v (state_of d.row) v.ran) v.clock Server d.says
      → ((x : ℕ) → d.version ≡ Some x → expiry v.ran v.last (state_of d.row) ≡ None) → ServerKeeps s h v d
  quiet_keeps d quiet a b c =
      let same : v.ran || runs_said d.says ≡ v.ran = ap (λ x. v.ran || x) quiet ∙ ran_same in
      record {
        change = subst (ServerChange s h v (state_of d.row)) (sym same) a;
        says = subst (λ x. SaysFit s h (with_server v (state_of d.row) x) v.clock Server d.says) (sym same) b;
        cutoffs = λ x e. subst (λ (ran : Bool). expiry ran v.last (state_of d.row) ≡ None) (sym same) (c x e);
        runs = no_runs h v d.says quiet;
      }

  -- nothing, with a row that was there or none
  pub same_keeps : (m : Moment) (o : Option ServerRow) → IsMadeTo h v → Lifetime s h v → v.server ≡ state_of o → ServerKeeps s h v (leaves m o)
  same_keeps m o made k at = quiet_keeps (leaves m o) refl (same_change (state_of o) made k at) tt (λ x e. absurd (none_some x e))

  -- a row that stands, and something that is said
  pub row_keeps : (m : Moment) (row : ServerRow) (said : List Say) → IsMadeTo h v → RowFits h (with_server v (Some row.state) v.ran) (Some row.state)
      → (v.ran ≡ true → HasSentAll v)
      → expiry v.ran v.last (Some row.state) ≡ None → runs_said said ≡ false → SaysFit s h (with_server v (Some row.state) v.ran) v.clock Server said
      → ServerKeeps s h v (says m (Some row) said)
  row_keeps m row said made f sent live quiet fits =
      quiet_keeps (says m (Some row) said) quiet (live_change (Some row.state) v.ran made f sent live) fits (λ x e. absurd (none_some x e))

  -- ---- what is said

  pub fits_server : (o : Option State) (ran : Bool) (what : Body) → IsMadeTo h v → BodyFits s h (with_server v o ran) v.clock Server what []
      → Fits s h (with_server v o ran) v.clock Server what []
  fits_server o ran what m f = record { past = omega arith; made = made_at h v (with_server v o ran) refl m; fits = f }

  pub live_covers : (o : Option State) (ran : Bool) (t : ℕ) → expiry ran v.last o ≡ None → CoversReply s (with_server v o ran) t
  live_covers o ran t live r y at is = absurd (none_some y (sym live ∙ is))

  pub says_unknown : (o : Option State) (ran : Bool) (reason : ℕ) → IsMadeTo h v → reason ≤ 1
      → SaysFit s h (with_server v o ran) v.clock Server (Posts (body.Unknown reason) ∷ [])
  says_unknown o ran reason m low = (fits_server o ran (body.Unknown reason) m low, tt)

  -- a packet of a row that stands
  pub says_live : (o : Option State) (ran : Bool) (what : Body) → IsMadeTo h v
      → (CoversReply s (with_server v o ran) v.clock → BodyFits s h (with_server v o ran) v.clock Server what [])
      → expiry ran v.last o ≡ None → SaysFit s h (with_server v o ran) v.clock Server (Posts what ∷ [])
  says_live o ran what m f live = (fits_server o ran what m (f (live_covers o ran v.clock live)), tt)

  -- ---- a request that isn't whole yet

  pub part_now : (part : Incoming) (service base count : ℕ) → (v.ran ≡ false) × PartFits h v service part
      → RowFits h (with_server v (Some (Receiving service part base count)) v.ran) (Some (Receiving service part base count))
  part_now part service base count f = (f.0, part_at h v (with_server v (Some (Receiving service part base count)) v.ran) service part refl (λ e. e) f.1)
