-- The pump of a host that sends the message in progress, whatever the host is.
use Rattle.std.proofs.Common.{◌≡◌, ℕ, zero, suc, ◌-◌, ◌<◌, ◌≤◌, ◌⊎◌, inl, inr, Option, Some, None, List, [], ◌∷◌, ◌++◌, refl, sym, ap, ◌∙◌, arith, append_assoc}
use Rattle.std.specs.Prelude.{map}
use Rattle.std.proofs.lemmas.Bool.{cases_lt}
use Rattle.std.proofs.lemmas.List.{append-nil}
use Rattle.homa_plain.specs.declared.packet.Role.{Role}
use Rattle.homa_plain.specs.declared.settings.Settings.{Settings}
use Rattle.homa_plain.specs.Packets.{Packet}
use Rattle.homa_plain.specs.Host.{Told, Sends}
use Rattle.homa_plain.specs.Work.{Work}
use Rattle.homa_plain.specs.SentNext.{pumped_once, pumps}
use Rattle.quiet_laws.specs.Flows.{flows}
use Rattle.quiet_laws.specs.Hosts.{AreOurs}
use Rattle.quiet_laws.proofs.Outs.{end_at}

-- a piece, as the pump sends it
pub record IsPiece (n : ℕ) (role : Role) (end : ℕ) (top : ℕ) (p : Packet) : Type 0 where
  pub flow : (given : ℕ) (ps : List Packet) (last : ℕ) → flows n role end given ps last given → flows n role top given (p ∷ ps) last given

module _ (s : Settings) (n may now : ℕ) (role : Role) (X : Type 0) (F : (credit top base : ℕ) → X → List Told → Work)
    (piece : (credit top base : ℕ) → X → List Told → Packet) (step : X → X) where
  -- what the pump does: it sends pieces in order, up to the granted end at most, and a piece sets the timer anew;
  -- one at least, if bytes wait and the credit is enough for a piece of the greatest length
  pub record Pumped (k have top base : ℕ) (told : List Told) (after : Work) : Type 0 where
    pub end : ℕ
    pub credit : ℕ
    pub timer : ℕ
    pub rest : X
    pub sent : List Packet
    pub is : after ≡ F credit end timer rest (told ++ map Sends sent)
    pub up : top ≤ end
    pub within : end ≤ may
    pub flow : (given : ℕ) → flows n role top given sent end given
    pub ours : AreOurs s now sent
    pub later : (timer ≡ base) ⊎ (timer ≡ now)
    pub anew : top < end → timer ≡ now
    pub goes : 0 < k → s.seg ≤ have → top < may → top < end

  -- what one move of the pump does
  pub record Pumps : Type 0 where
    pub rests : (credit top base : ℕ) (x : X) (told : List Told) → may ≤ top → pumped_once s (F credit top base x told) ≡ None
    pub short : (credit top base : ℕ) (x : X) (told : List Told) → top < may → credit < end_at top may s.seg - top
        → pumped_once s (F credit top base x told) ≡ None
    pub sends : (credit top base : ℕ) (x : X) (told : List Told) → top < may → end_at top may s.seg - top ≤ credit
        → pumped_once s (F credit top base x told) ≡ Some
        (F (credit - (end_at top may s.seg - top)) (end_at top may s.seg) now (step x) (told ++ Sends (piece credit top base x told) ∷ []))
    pub is_piece : (credit top base : ℕ) (x : X) (told : List Told) → top < may → IsPiece n role (end_at top may s.seg) top (piece credit top base x told)
    pub ours : (credit top base : ℕ) (x : X) (told : List Told) → AreOurs s now (piece credit top base x told ∷ [])

  stays : (k credit top base : ℕ) (x : X) (told : List Told) → top ≤ may → (0 < k → s.seg ≤ credit → top < may → ⊥)
      → Pumped k credit top base told (F credit top base x told)
  stays k credit top base x told h stuck = record {
    end = top;
    credit = credit;
    timer = base;
    rest = x;
    sent = [];
    is = ap (λ t. F credit top base x t) (sym (append-nil told));
    up = omega arith;
    within = h;
    flow = λ given. (refl, refl);
    ours = tt;
    later = inl refl;
    anew = λ y. absurd (omega (arith, y));
    goes = λ a b c. absurd (stuck a b c);
  }

  last : {x : ℕ} → (x ≡ now) ⊎ (x ≡ now) → x ≡ now
  last (inl e) = e
  last (inr e) = e

  pub pumped : Pumps → 1 ≤ s.seg → (k credit top base : ℕ) (x : X) (told : List Told) → top ≤ may
      → Pumped k credit top base told (pumps s k (F credit top base x told))
  unfolding pumps
  pumped one some zero credit top base x told h = stays zero credit top base x told h (λ a b c. omega (arith, a))
  pumped one some (suc k) credit top base x told h = elim (cases_lt top may) [
    | inr rests ↦ at None (one.rests credit top base x told rests) (stays (suc k) credit top base x told h (λ a b c. omega (arith, c, rests)))
    | inl waits ↦ elim (cases_lt credit (end_at top may s.seg - top)) [
      | inl short ↦ at None (one.short credit top base x told waits short) (stays (suc k) credit top base x told h (λ a b c. omega (arith, short, b)))
      | inr enough ↦ at
          (Some (F (credit - (end_at top may s.seg - top)) (end_at top may s.seg) now (step x) (told ++ Sends (piece credit top base x told) ∷ [])))
          (one.sends credit top base x told waits enough)
          (more waits (pumped one some k (credit - (end_at top may s.seg - top)) (end_at top may s.seg) now (step x)
          (told ++ Sends (piece credit top base x told) ∷ []) (omega arith)))
    ]
  ] where
    at : (o : Option Work) → pumped_once s (F credit top base x told) ≡ o
        → Pumped (suc k) credit top base told (elim o as (λ _. Work) [ None ↦ F credit top base x told | Some after ↦ pumps s k after ])
        → Pumped (suc k) credit top base told
        (elim (pumped_once s (F credit top base x told)) as (λ _. Work) [ None ↦ F credit top base x told | Some after ↦ pumps s k after ])
    at o e x = rw e x

    more : top < may
        → Pumped k (credit - (end_at top may s.seg - top)) (end_at top may s.seg) now (told ++ Sends (piece credit top base x told) ∷ [])
        (pumps s k (F (credit - (end_at top may s.seg - top)) (end_at top may s.seg) now (step x) (told ++ Sends (piece credit top base x told) ∷ [])))
        → Pumped (suc k) credit top base told
        (pumps s k (F (credit - (end_at top may s.seg - top)) (end_at top may s.seg) now (step x) (told ++ Sends (piece credit top base x told) ∷ [])))
    more waits after =
        let p : Packet = piece credit top base x told in
        record {
          end = after.end;
          credit = after.credit;
          timer = after.timer;
          rest = after.rest;
          sent = p ∷ after.sent;
          is = after.is ∙ ap (λ t. F after.credit after.end after.timer after.rest t) (append_assoc told (Sends p ∷ []) (map Sends after.sent));
          up = omega (arith, waits, after.up, some);
          within = after.within;
          flow = λ given. (one.is_piece credit top base x told waits).flow given after.sent after.end (after.flow given);
          ours = ((one.ours credit top base x told).0, after.ours);
          later = inr (last after.later);
          anew = λ _. last after.later;
          goes = λ a b c. omega (arith, c, after.up, some);
        }
