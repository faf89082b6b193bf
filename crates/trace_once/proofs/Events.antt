-- What the start of a call and the restart of a host do to a call at its client and at one host.
use Rattle.std.proofs.Common.{◌≡◌, ℕ, ◌+◌, ◌≤◌, Bool, true, false, Option, Some, None, List, length, refl, sym, subst, ◌∙◌, arith}
use Rattle.std.proofs.lemmas.Bool.{false≢true}
use Rattle.homa_plain.specs.declared.id.HostId.{HostId}
use Rattle.homa_plain.specs.declared.settings.Settings.{Settings}
use Rattle.homa_plain.specs.Rows.{ClientRow, State}
use Rattle.homa_plain.specs.Steps.{new_call}
use Rattle.trace_rules.specs.View.{Called}
use Rattle.homa_plain.proofs.OutgoingLaws as out_laws
use Rattle.trace_steps.specs.Stands.{Stand, with_client, with_server}
use Rattle.trace_once.specs.Lifetime.{Times, times, took_part, called_by, RowFits, ClientFits, Lifetime, Later}
use Rattle.step_moves.proofs.Hosts.{none_some, some_is}
use Rattle.trace_once.proofs.Later.{client_at}
use Rattle.trace_once.proofs.ClientRules.{gone_change, later_client, lifetime_client, took_expiry}

-- ---- a call starts

-- the call with its first row, and its `call` line
abbrev pub with_call : Stand → ClientRow → Stand
with_call v r = record v { old = true; called = Some (called_by r); client = Some r }

module _ (c : Settings) (h : HostId) (v : Stand) (unused : v.old ≡ false) (k : Lifetime (times c) h v) where
  uncalled : (x : Called) → v.called ≡ Some x → ⊥
  uncalled x e = false≢true (sym unused ∙ k.named x e)

  untaken : took_part v.ran v.server ≡ true → ⊥
  untaken e = let m = k.made e in uncalled _ m.called

  untaken_row : (u : Stand) (o : Option State) → (took_part v.ran o ≡ true → ⊥) → RowFits h u o
  untaken_row u None none = tt
  untaken_row u (Some state) none = absurd (none refl)

  ran_took : (ran : Bool) (o : Option State) → ran ≡ true → took_part ran o ≡ true
  ran_took ran None e = e
  ran_took ran (Some state) e = refl

  -- nothing was so of a call that wasn't made
  pub later_call : (r : ClientRow) → Later (times c) v (with_call v r)
  later_call r = record {
    clock = omega arith;
    called = λ x e. absurd (uncalled x e);
    client = λ x e y is. absurd (uncalled x e);
    requests = λ t past f. f;
    replies = λ t past x e f. absurd (uncalled x e);
  }

  pub lifetime_call : (now order : ℕ) (server : HostId) (service : ℕ) (request : List ℕ) → now ≤ v.clock + (times c).band
      → Lifetime (times c) h (with_call v (new_call c now order server service request))
  lifetime_call now order server service request within =
      let r : ClientRow = new_call c now order server service request in
      record {
        last = k.last;
        named = λ x e. refl;
        client = λ y is. subst (ClientFits (times c) (with_call v r)) (some_is r y is)
            (record { called = refl; size = refl; out = out_laws.sound-opened (length request) c.unsched; heard = within });
        made = λ e. absurd (untaken e);
        row = untaken_row (with_call v r) v.server untaken;
        sent = λ e. absurd (untaken (ran_took v.ran v.server e));
        covered = λ y n is e. absurd (untaken (took_expiry v.ran v.last v.server n e));
      }

-- ---- a host restarts

module _ (s : Times) (h : HostId) (v : Stand) where
  -- it was the call's server: no record is left that it ran, and in the new life it has not run
  pub later_forgotten : Later s v (with_server v None false)
  later_forgotten = record {
    clock = omega arith;
    called = λ c e. e;
    client = λ c e r is. (r, is, λ k. k);
    requests = λ t past f y is. absurd (none_some y is);
    replies = λ t past c e f r y live is. absurd (none_some y is);
  }

  pub lifetime_forgotten : Lifetime s h v → Lifetime s h (with_server v None false)
  lifetime_forgotten k = record {
    last = k.last;
    named = k.named;
    client = λ r is. client_at s v (with_server v None false) r refl (omega arith) (k.client r is);
    made = λ e. absurd (false≢true e);
    row = tt;
    sent = λ e. absurd (false≢true e);
    covered = λ r y live is. absurd (none_some y is);
  }

  -- it was the call's client: the call is over
  pub later_ended : Later s v (with_client v None)
  later_ended = later_client s h v None (gone_change s h v)

  pub lifetime_ended : Lifetime s h v → Lifetime s h (with_client v None)
  lifetime_ended k = lifetime_client s h v None (gone_change s h v) k
