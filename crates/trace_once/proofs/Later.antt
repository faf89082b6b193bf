-- What stays of the lifetime invariant while time goes on.
use Rattle.std.proofs.Common.{◌≡◌, ℕ, ◌+◌, ◌≤◌, Bool, true, false, Option, Some, None, List, refl, sym, ap, ◌∙◌, arith}
use Rattle.homa_plain.specs.declared.id.HostId.{HostId}
use Rattle.homa_plain.specs.declared.packet.Role.{Role}
use Rattle.homa_plain.specs.declared.packet.Role.TheVariants.{Client, Server}
use Rattle.homa_plain.specs.declared.packet.Body.{Body}
use Rattle.homa_plain.specs.declared.packet.Body.TheVariants as body
use Rattle.homa_plain.specs.Incoming.{Incoming}
use Rattle.homa_plain.specs.Rows.{ClientRow, State, Receiving, Held, Replying, Buried}
use Rattle.trace_rules.specs.View.{Called}
use Rattle.trace_steps.specs.Stands.{Stand}
use Rattle.step_moves.proofs.Hosts.{none_some, some_is}
use Rattle.trace_once.specs.Lifetime.{Times, gone_since, expiry, call_to, IsMadeTo, IsOver, HasSentAll, RequestFits, ReplyFits, BodyFits, Fits}
use Rattle.trace_once.specs.Lifetime.{PartFits, RowFits, called_by, ClientFits, Lifetime, Later}

pub none_from : {A : Type 0} (o : Option A) → ((x : A) → o ≡ Some x → ⊥) → o ≡ None
none_from None h = refl
none_from (Some x) h = absurd (h x refl)

-- a live call is at the server to which it was made
pub client_ends : (s : Times) (h : HostId) (v : Stand) (r : ClientRow) → IsMadeTo h v → ClientFits s v r → r.server ≡ h
client_ends s h v r m f = ap (λ (c : Called). c.server) (some_is (called_by r) (call_to h m.service m.request) (sym f.called ∙ m.called))

module _ (s : Times) where
  pub made_later : (h : HostId) (v u : Stand) → Later s v u → IsMadeTo h v → IsMadeTo h u
  made_later h v u l m = record { service = m.service; request = m.request; called = l.called (call_to h m.service m.request) m.called }

  pub over_later : (h : HostId) (v u : Stand) → Later s v u → IsOver h v → IsOver h u
  over_later h v u l o = (
    made_later h v u l o.0,
    none_from u.client (λ r is. let p = l.client (call_to h o.0.service o.0.request) o.0.called r is in none_some p.0 (sym o.1 ∙ p.1)),
  )

  sent_later : (v u : Stand) (c : Called) → Later s v u → v.called ≡ Some c → HasSentAll v → HasSentAll u
  sent_later v u c l e has r is = let p = l.client c e r is in p.2 (has p.0 p.1)

  request_later : (h : HostId) (v u : Stand) (t : ℕ) (what : Body) (payload : List ℕ) → Later s v u → t ≤ v.clock → RequestFits s h v t what payload
      → RequestFits s h u t what payload
  request_later h v u t (body.Data size offset version service ack) payload l past f = record {
    request = f.request;
    called = l.called (call_to h service f.request) f.called;
    whole = f.whole;
    bytes = f.bytes;
    some = f.some;
    within = f.within;
    covered = l.requests t past f.covered;
    last = λ e. sent_later v u (call_to h service f.request) l f.called (f.last e);
  }
  request_later h v u t other payload l past f = f

  reply_later : (v u : Stand) (t : ℕ) (what : Body) (c : Called) → Later s v u → t ≤ v.clock → v.called ≡ Some c → ReplyFits s v t what → ReplyFits s u t what
  reply_later v u t (body.Unknown reason) c l past e f = f
  reply_later v u t (body.Ack more) c l past e f = f
  reply_later v u t (body.Data size offset version service (Some call)) c l past e f = f
  reply_later v u t what c l past e f = l.replies t past c e f

  body_later : (h : HostId) (v u : Stand) (t : ℕ) (role : Role) (what : Body) (payload : List ℕ) → Later s v u → t ≤ v.clock → IsMadeTo h v
      → BodyFits s h v t role what payload → BodyFits s h u t role what payload
  body_later h v u t Client what payload l past m f = request_later h v u t what payload l past f
  body_later h v u t Server what payload l past m f = reply_later v u t what (call_to h m.service m.request) l past m.called f

  -- a packet that fits a moment, fits each later one
  pub fits_later : (h : HostId) (v u : Stand) (t : ℕ) (role : Role) (what : Body) (payload : List ℕ) → Later s v u → Fits s h v t role what payload
      → Fits s h u t role what payload
  fits_later h v u t role what payload l f = record {
    past = omega (arith, l.clock, f.past);
    made = made_later h v u l f.made;
    fits = body_later h v u t role what payload l f.past f.made f.fits;
  }

-- ---- the host's last step, and the world's clock

module _ (ran : Bool) (last now : ℕ) (y : ℕ) (le : last ≤ now) where
  -- the record expires no earlier
  pub expiry_later : (o : Option State) → expiry ran now o ≡ Some y → (x : ℕ) × (expiry ran last o ≡ Some x) × (x ≤ y)
  expiry_later None e = by_run ran e where
    by_run : (b : Bool) → gone_since b now ≡ Some y → (x : ℕ) × (gone_since b last ≡ Some x) × (x ≤ y)
    by_run false e = absurd (none_some y e)
    by_run true e = let k : now ≡ y = some_is now y e in (last, refl, omega arith)
  expiry_later (Some (Buried until)) e = (y, e, omega arith)
  expiry_later (Some state) e = absurd (none_some y e)

-- the same call, where the clock and the host's last tick rose
abbrev pub at : Stand → ℕ → ℕ → Bool → Stand
at v clock last old = record v { clock = clock; last = last; old = old }

-- what holds of the call by its `call` line alone
pub made_at : (h : HostId) (v u : Stand) → u.called ≡ v.called → IsMadeTo h v → IsMadeTo h u
made_at h v u c m = record { service = m.service; request = m.request; called = c ∙ m.called }

-- what holds of a client's row speaks of the clock besides
pub client_at : (s : Times) (v u : Stand) (r : ClientRow) → u.called ≡ v.called → v.clock ≤ u.clock → ClientFits s v r → ClientFits s u r
client_at s v u r c from f = record { called = c ∙ f.called; size = f.size; out = f.out; heard = omega (arith, f.heard) }

-- what holds of a part of the request speaks of the `call` line and the client's row
pub part_at : (h : HostId) (v u : Stand) (service : ℕ) (part : Incoming) → u.called ≡ v.called → (HasSentAll v → HasSentAll u)
    → PartFits h v service part → PartFits h u service part
part_at h v u service part c has f = record {
  request = f.request;
  called = c ∙ f.called;
  whole = f.whole;
  bytes = f.bytes;
  below = f.below;
  some = f.some;
  last = λ k. has (f.last k);
}

-- and what holds of a row, of whether it ran besides
pub row_at : (h : HostId) (v u : Stand) (o : Option State) → u.ran ≡ v.ran → u.called ≡ v.called → (HasSentAll v → HasSentAll u) → RowFits h v o → RowFits h u o
row_at h v u None e c has f = tt
row_at h v u (Some (Receiving service part base count)) e c has f = (e ∙ f.0, part_at h v u service part c has f.1)
row_at h v u (Some (Held response release)) e c has f = e ∙ f
row_at h v u (Some (Replying response out order base count)) e c has f = (e ∙ f.0, f.1)
row_at h v u (Some (Buried until)) e c has f = e ∙ f

module _ (s : Times) (v : Stand) (clock last : ℕ) (old : Bool) (from : v.clock ≤ clock) (after : v.last ≤ last) (named : v.old ≡ true → old ≡ true) where
  pub later_at : Later s v (at v clock last old)
  later_at = record {
    clock = from;
    called = λ c e. e;
    client = λ c e r is. (r, is, λ k. k);
    requests = λ t past f y is. let p = expiry_later v.ran v.last last y after v.server is in omega (arith, f p.0 p.1, p.2);
    replies = λ t past c e f r y live is. let p = expiry_later v.ran v.last last y after v.server is in omega (arith, f r p.0 live p.1, p.2);
  }

  pub lifetime_at : (h : HostId) → last ≤ clock + s.band → Lifetime s h v → Lifetime s h (at v clock last old)
  lifetime_at h within k = record {
    last = within;
    named = λ c e. named (k.named c e);
    client = λ r is. client_at s v (at v clock last old) r refl from (k.client r is);
    made = λ e. made_at h v (at v clock last old) refl (k.made e);
    row = row_at h v (at v clock last old) v.server refl refl (λ e. e) k.row;
    sent = k.sent;
    covered = λ r y live is. let p = expiry_later v.ran v.last last y after v.server is in omega (arith, k.covered r p.0 live p.1, p.2);
  }

-- nothing happens to the call
pub same_later : (s : Times) (v : Stand) → Later s v v
same_later s v = later_at s v v.clock v.last v.old (omega arith) (omega arith) (λ e. e)

-- what is left of an earlier moment, is left of each before it
pub later_then : (s : Times) (v u x : Stand) → Later s v u → Later s u x → Later s v x
later_then s v u x a b = record {
  clock = omega (arith, a.clock, b.clock);
  called = λ c e. b.called c (a.called c e);
  client = λ c e r is. let p = b.client c (a.called c e) r is in let q = a.client c e p.0 p.1 in (q.0, q.1, λ k. p.2 (q.2 k));
  requests = λ t past f. b.requests t (omega (arith, past, a.clock)) (a.requests t past f);
  replies = λ t past c e f. b.replies t (omega (arith, past, a.clock)) c (a.called c e) (a.replies t past c e f);
}
