-- When a rule for a call's row at its client keeps the lifetime invariant, seen from one host.
use Rattle.std.proofs.Common.{◌≡◌, ℕ, ◌+◌, ◌≤◌, ◌<◌, Bool, true, false, Option, Some, None, List, [], ◌∷◌, length, refl, sym, ap, subst, ◌∙◌, arith}
use Rattle.homa_plain.specs.declared.id.HostId.{HostId}
use Rattle.homa_plain.specs.declared.packet.Role.TheVariants.{Client}
use Rattle.homa_plain.specs.declared.packet.Body.{Body}
use Rattle.homa_plain.specs.declared.packet.Body.TheVariants as body
use Rattle.homa_plain.specs.Outgoing.{Outgoing}
use Rattle.homa_plain.specs.Outgoing as outgoing
use Rattle.homa_plain.specs.Rows.{ClientRow, State, Receiving, Held, Replying, Buried}
use Rattle.homa_plain.specs.Rules.{Say, Tells, Posts, Did}
use Rattle.trace_rules.specs.View.{Called}
use Rattle.trace_steps.specs.Stands.{Stand, with_client}
use Rattle.trace_once.specs.Lifetime.{Times, span, gone_since, expiry, expiry_of, took_part, CoversReply, IsMadeTo, HasSentAll, RequestFits}
use Rattle.trace_once.specs.Lifetime.{RowFits, called_by, Lifetime, Later}
use Rattle.step_moves.proofs.Hosts.{none_some, some_is}
use Rattle.trace_once.proofs.Later.{client_ends, made_at, row_at}
use Rattle.trace_once.proofs.ServerRules.{SaysFit}

-- a packet that is no piece of a message; only of a call that isn't live it is told, to a server that asks, that it is over
abbrev pub IsBare : Option ClientRow → Body → Type 0
IsBare o (body.Data size offset version service ack) = ⊥
IsBare o (body.Ack more) = (o ≡ None) × (more ≡ [])
IsBare o other = Unit {0}

-- so is each packet that is said
abbrev pub AllBare : Option ClientRow → List Say → Type 0
AllBare o [] = Unit {0}
AllBare o (Tells entry ∷ says) = AllBare o says
AllBare o (Posts what ∷ says) = IsBare o what × AllBare o says

-- the row is of the same call, with as much of its request sent at least
pub record IsLike (q r : ClientRow) : Type 0 where
  pub called : called_by q ≡ called_by r
  pub long : r.out.length ≡ q.out.length
  pub sent : q.out.top ≡ q.out.length → r.out.top ≡ r.out.length
  pub out : outgoing.IsSound r.out

-- the row may become o: it is like the one before, and the record of the call outlives what it may still send
pub record ClientChange (s : Times) (v : Stand) (o : Option ClientRow) : Type 0 where
  pub like : (r : ClientRow) → o ≡ Some r → (q : ClientRow) × (v.client ≡ Some q) × IsLike q r
  pub heard : (r : ClientRow) → o ≡ Some r → r.heard ≤ v.clock + s.band
  pub covered : (r : ClientRow) (y : ℕ) → o ≡ Some r → expiry_of v ≡ Some y → r.heard + s.patience + span s < y

-- what a rule does to the row, and what it sends
pub record ClientKeeps (s : Times) (v : Stand) (d : Did ClientRow) : Type 0 where
  pub row : ClientChange s v d.row
  pub bare : AllBare d.row d.says

-- ---- a change keeps the invariant

pub took_expiry : (ran : Bool) (last : ℕ) (o : Option State) (y : ℕ) → expiry ran last o ≡ Some y → took_part ran o ≡ true
took_expiry ran last None y e = by_run ran e where
  by_run : (b : Bool) → gone_since b last ≡ Some y → b ≡ true
  by_run false e = absurd (none_some y e)
  by_run true e = refl
took_expiry ran last (Some state) y e = refl

-- only the record of a call that ran expires
pub ran_expiry : (h : HostId) (v : Stand) (o : Option State) (y : ℕ) → expiry v.ran v.last o ≡ Some y → RowFits h v o → v.ran ≡ true
ran_expiry h v None y e f = took_expiry v.ran v.last None y e
ran_expiry h v (Some (Receiving service part base count)) y e f = absurd (none_some y e)
ran_expiry h v (Some (Held response release)) y e f = f
ran_expiry h v (Some (Replying response out order base count)) y e f = f.0
ran_expiry h v (Some (Buried until)) y e f = f

module _ (s : Times) (h : HostId) (v : Stand) where
  pub later_client : (o : Option ClientRow) → ClientChange s v o → Later s v (with_client v o)
  later_client o n = record {
    clock = omega arith;
    called = λ c e. e;
    client = λ c e r is. let p = n.like r is in (p.0, p.1, p.2.sent);
    requests = λ t past f. f;
    replies = λ t past c e f r y live is. let p = n.like r live in f p.0 y p.1 is;
  }

  has_client : (o : Option ClientRow) → ClientChange s v o → HasSentAll v → HasSentAll (with_client v o)
  has_client o n has r is = let p = n.like r is in p.2.sent (has p.0 p.1)

  pub lifetime_client : (o : Option ClientRow) → ClientChange s v o → Lifetime s h v → Lifetime s h (with_client v o)
  lifetime_client o n k = record {
    last = k.last;
    named = k.named;
    client = λ r is.
        let p = n.like r is in
        let f = k.client p.0 p.1 in
        record {
          called = f.called ∙ ap (λ (c : Called). Some c) p.2.called;
          size = p.2.long ∙ f.size ∙ ap (λ (c : Called). length c.request) p.2.called;
          out = p.2.out;
          heard = n.heard r is;
        };
    made = λ e. made_at h v (with_client v o) refl (k.made e);
    row = row_at h v (with_client v o) v.server refl refl (has_client o n) k.row;
    sent = λ e. has_client o n (k.sent e);
    covered = n.covered;
  }

  -- ---- how rules are shown to keep it

  -- the row goes
  pub gone_change : ClientChange s v None
  gone_change = record { like = λ r e. absurd (none_some r e); heard = λ r e. absurd (none_some r e); covered = λ r y e _. absurd (none_some r e) }

  -- a row like it
  pub like_change : (q r : ClientRow) → v.client ≡ Some q → IsLike q r → r.heard ≤ v.clock + s.band
      → ((y : ℕ) → expiry_of v ≡ Some y → r.heard + s.patience + span s < y) → ClientChange s v (Some r)
  like_change q r at like heard covered = record {
    like = λ x e. (q, at, subst (IsLike q) (some_is r x e) like);
    heard = λ x e. subst (λ (y : ClientRow). y.heard ≤ v.clock + s.band) (some_is r x e) heard;
    covered = λ x y e is. subst (λ (z : ClientRow). z.heard + s.patience + span s < y) (some_is r x e) (covered y is);
  }

  -- the client has heard of no more
  pub as_change : (q r : ClientRow) → Lifetime s h v → v.client ≡ Some q → IsLike q r → r.heard ≡ q.heard → ClientChange s v (Some r)
  as_change q r k at like heard = like_change q r at like (omega (arith, heard, (k.client q at).heard)) (λ y is. omega (arith, heard, k.covered q y at is))

  -- the client hears now of a packet that may be taken
  pub heard_change : (q r : ClientRow) (t : ℕ) → Lifetime s h v → v.client ≡ Some q → IsLike q r → r.heard ≤ v.clock + s.band → v.clock ≤ t + s.life
      → (h ≡ q.server → CoversReply s v t) → ClientChange s v (Some r)
  heard_change q r t k at like within fresh covers =
      like_change q r at like within
      (λ y is.
      let ends : q.server ≡ h = client_ends s h v q (k.made (took_expiry v.ran v.last v.server y is)) (k.client q at) in
      omega (arith, within, fresh, covers (sym ends) q y at is))

  -- a piece of the request is sent, before which the last byte was not
  pub unsent_change : (q r : ClientRow) → Lifetime s h v → v.client ≡ Some q → IsLike q r → (q.out.top ≡ q.out.length → ⊥)
      → r.heard ≤ v.clock + s.band → ClientChange s v (Some r)
  unsent_change q r k at like unsent within = like_change q r at like within (λ y is. absurd (unsent (k.sent (ran_expiry h v v.server y is k.row) q at)))

-- the same call, request as far as it was sent, and moment at which the server was last heard of
pub record IsSame (r x : ClientRow) : Type 0 where
  pub called : called_by r ≡ called_by x
  pub out : r.out ≡ x.out
  pub heard : r.heard ≡ x.heard

pub same_row : (r : ClientRow) → IsSame r r
same_row r = record { called = refl; out = refl; heard = refl }

pub like_same : (q r x : ClientRow) → IsLike q r → IsSame r x → IsLike q x
like_same q r x l e = record {
  called = l.called ∙ e.called;
  long = ap (λ (o : Outgoing). o.length) (sym e.out) ∙ l.long;
  sent = λ full. ap (λ (o : Outgoing). o.top) (sym e.out) ∙ l.sent full ∙ ap (λ (o : Outgoing). o.length) e.out;
  out = subst outgoing.IsSound e.out l.out;
}

-- itself
pub like_itself : (r : ClientRow) → outgoing.IsSound r.out → IsLike r r
like_itself r sound = record { called = refl; long = refl; sent = λ e. e; out = sound }

-- the row goes, or is the same but for its response and its timer
pub change_same : (s : Times) (v : Stand) (r : ClientRow) (o : Option ClientRow) → ClientChange s v (Some r)
    → ((x : ClientRow) → o ≡ Some x → IsSame r x) → ClientChange s v o
change_same s v r o n same = record {
  like = λ x e. let p = n.like r refl in (p.0, p.1, like_same p.0 r x p.2 (same x e));
  heard = λ x e. omega (arith, (same x e).heard, n.heard r refl);
  covered = λ x y e is. omega (arith, (same x e).heard, n.covered r y refl is);
}

-- packets other than pieces fit where the call was made
pub says_bare : (s : Times) (h : HostId) (u : Stand) (o : Option ClientRow) (said : List Say) → IsMadeTo h u → AllBare o said
    → SaysFit s h u u.clock Client said
says_bare s h u o [] m all = tt
says_bare s h u o (Tells entry ∷ said) m all = says_bare s h u o said m all
says_bare s h u o (Posts what ∷ said) m all = (record { past = omega arith; made = m; fits = bare_fits what all.0 }, says_bare s h u o said m all.1) where
  bare_fits : (what : Body) → IsBare o what → RequestFits s h u u.clock what []
  bare_fits (body.Data size offset version service ack) b = absurd b
  bare_fits other b = tt
