-- A packet comes to a call's client: which rule is carried out, and whether the packet counts by the lines.
use Rattle.std.proofs.Common.{◌≡◌, ℕ, suc, zero, ◌+◌, ◌<◌, Bool, true, false, ◌&&◌, Some, None, List, [], ◌∷◌, length, cond, refl, sym, ap, subst, ◌∙◌, arith}
use Rattle.std.specs.Prelude.{◌==◌, not, nat_lt, map, filter, slice_get, Contains}
use Rattle.std.specs.Option.{option_map_or}
use Rattle.std.proofs.lemmas.Bool.{and_parts, eqb-true, eq-eqb, ltb-false, false≢true}
use Rattle.plain_sets.proofs.OrderSame.{here, there}
use Rattle.homa_plain.specs.declared.id.CallId.{CallId}
use Rattle.homa_plain.specs.declared.id.HostId.{HostId}
use Rattle.homa_plain.specs.declared.settings.Settings.{Settings}
use Rattle.homa_plain.specs.Calls.{is_host, is_call}
use Rattle.homa_plain.specs.Packets.{Packet, sender}
use Rattle.homa_plain.specs.Rows.{ClientRow}
use Rattle.homa_plain.specs.Host.{Host}
use Rattle.homa_plain.specs.Rules.{Moment, keeps}
use Rattle.homa_plain.specs.AtClient.{client_gets, unasked, answered, refreshed, renewed}
use Rattle.trace_rules.specs.View.{View, Ran, incarnation, is_server_of, life, restarts_of}
use Rattle.trace_rules.specs.Laws.{answers, is_run_in}
use Rattle.homa_plain.proofs.CallOrder.{hosts_are}
use Rattle.trace_steps.specs.Told.{HasLives}
use Rattle.step_moves.proofs.Hosts.{some_is, within}
use Rattle.trace_returned.specs.Tales.{replies_in, IsReplyOf}
use Rattle.trace_returned.proofs.StillRules.{awaited, refreshed_same}

module _ (s : Settings) (m : Moment) (p : Packet) where
  pub gets_unasked : client_gets s m p None ≡ unasked m p.body
  unfolding client_gets
  gets_unasked = refl

  module _ (r : ClientRow) where
    pub gets_elsewhere : is_host (sender p) r.server ≡ false → client_gets s m p (Some r) ≡ keeps m r
    unfolding client_gets
    gets_elsewhere e =
        ap (λ b. cond (not b) (keeps m r)
        (cond (nat_lt p.inc r.seen) (keeps m r) (answered s m p.id p.body p.payload (refreshed m.now p.body (renewed p.inc r))))) e

    pub gets_earlier : nat_lt p.inc r.seen ≡ true → client_gets s m p (Some r) ≡ keeps m r
    unfolding client_gets
    gets_earlier e =
        ap (λ b. cond (not (is_host (sender p) r.server)) (keeps m r)
        (cond b (keeps m r) (answered s m p.id p.body p.payload (refreshed m.now p.body (renewed p.inc r))))) e
        ∙ same (not (is_host (sender p) r.server)) where
          same : (b : Bool) → cond b (keeps m r) (keeps m r) ≡ keeps m r
          same true = refl
          same false = refl

    pub gets_answered : is_host (sender p) r.server ≡ true → nat_lt p.inc r.seen ≡ false
        → client_gets s m p (Some r) ≡ answered s m p.id p.body p.payload (refreshed m.now p.body (renewed p.inc r))
    unfolding client_gets
    gets_answered e f =
        ap (λ b. cond (not b) (keeps m r)
        (cond (nat_lt p.inc r.seen) (keeps m r) (answered s m p.id p.body p.payload (refreshed m.now p.body (renewed p.inc r))))) e
        ∙ ap (λ b. cond b (keeps m r) (answered s m p.id p.body p.payload (refreshed m.now p.body (renewed p.inc r)))) f

    -- what the lines speak of in the row that heard of the packet
    pub heard_row : nat_lt p.inc r.seen ≡ false
        → awaited (refreshed m.now p.body (renewed p.inc r)) ≡ record { server = r.server; seen = p.inc; part = cond (nat_lt r.seen p.inc) None r.part }
    heard_row e = refreshed_same s m p.id m.now p.body (renewed p.inc r) ∙ by_test (nat_lt r.seen p.inc) refl where
      by_test : (b : Bool) → nat_lt r.seen p.inc ≡ b
          → awaited (cond b (record r { seen = p.inc; part = None }) r) ≡ record { server = r.server; seen = p.inc; part = cond b None r.part }
      by_test true f = refl
      by_test false f = let same : r.seen ≡ p.inc =
          omega (arith, ltb-false p.inc r.seen e, ltb-false r.seen p.inc f) in (λ i. record { server = r.server; seen = same i; part = r.part })

-- ---- one response

there_is : {A : Type 0} (xs : List A) (i : ℕ) → i < length xs → (x : A) × (slice_get xs i ≡ Some x)
there_is [] i l = absurd (omega (arith, l))
there_is (x ∷ xs) zero l = (x, refl)
there_is (x ∷ xs) (suc i) l = there_is xs i (omega (arith, l))

pub host_there : (hs : List Host) (i : ℕ) → i < length hs → (h : Host) × (slice_get hs i ≡ Some h)
host_there hs i l = there_is hs i l

-- the life that an incarnation is of
life_of : (v : View) (id : HostId) (h : Host) (l : HasLives v id h) (n inc : ℕ) → incarnation v id n ≡ Some inc → inc ≡ l.first + n
life_of v id h l zero inc e = let same : inc ≡ l.first = l.told inc e in omega (arith, same)
life_of v id h l (suc n) inc e =
    let most : n < life v id = within (restarts_of v id) n inc e in
    let same : inc ≡ l.first + n + 1 = some_is inc (l.first + n + 1) (sym e ∙ l.later n most) in
    omega (arith, same)

-- in the life of an incarnation a call answered once
pub one_reply : (v : View) (q : CallId) (server : HostId) (h : Host) (inc : ℕ) (a b : List ℕ) → HasLives v server h → IsReplyOf v q server inc a
    → IsReplyOf v q server inc b → a ≡ b
one_reply v q server h inc a b l x y =
    let one : inc ≡ l.first + x.life = life_of v server h l x.life inc x.told in
    let two : inc ≡ l.first + y.life = life_of v server h l y.life inc y.told in
    let same : x.life ≡ y.life = omega (arith, one, two) in
    heads (sym x.gave ∙ ap (λ n. replies_in v server n q) same ∙ y.gave) where
      heads : a ∷ [] ≡ b ∷ [] → a ≡ b
      heads e = cc

-- it is among the answers of that incarnation
passes_more : (p q : Ran → Bool) → ((r : Ran) → p r ≡ true → q r ≡ true) → (rs : List Ran) (x : List ℕ)
    → map (λ (r : Ran). r.response) (filter p rs) ≡ x ∷ [] → Contains (map (λ (r : Ran). r.response) (filter q rs)) x
passes_more p q all [] x e = cc
passes_more p q all (r ∷ rs) x e = by_test (λ f. passes_more p q all rs x f) (p r) refl (q r) refl e where
  kept : (b : Bool) → Contains (map (λ (r : Ran). r.response) (filter q rs)) x
      → Contains (map (λ (r : Ran). r.response) (cond b (r ∷ filter q rs) (filter q rs))) x
  kept true c = there r.response x (map (λ (r : Ran). r.response) (filter q rs)) c
  kept false c = c

  heads : (a : List ℕ) (xs : List (List ℕ)) → a ∷ xs ≡ x ∷ [] → a ≡ x
  heads a xs e = cc

  by_test : (map (λ (r : Ran). r.response) (filter p rs) ≡ x ∷ [] → Contains (map (λ (r : Ran). r.response) (filter q rs)) x) → (b : Bool) → p r ≡ b
      → (c : Bool) → q r ≡ c → map (λ (r : Ran). r.response) (cond (p r) (r ∷ filter p rs) (filter p rs)) ≡ x ∷ []
      → Contains (map (λ (r : Ran). r.response) (cond (q r) (r ∷ filter q rs) (filter q rs))) x
  by_test rest true f false g e = absurd (false≢true (sym g ∙ all r f))
  by_test rest true f true g e =
      let first : r.response ≡ x = heads r.response _ (sym (ap (λ b. map (λ (r : Ran). r.response) (cond b (r ∷ filter p rs) (filter p rs))) f) ∙ e) in
      subst (λ b. Contains (map (λ (r : Ran). r.response) (cond b (r ∷ filter q rs) (filter q rs))) x) (sym g)
      (subst (λ (y : List ℕ). Contains (r.response ∷ map (λ (r : Ran). r.response) (filter q rs)) y) first
      (here r.response (map (λ (r : Ran). r.response) (filter q rs))))
  by_test rest false f c g e = kept (q r) (rest (sym (ap (λ b. map (λ (r : Ran). r.response) (cond b (r ∷ filter p rs) (filter p rs))) f) ∙ e))

pub among_answers : (v : View) (q : CallId) (server : HostId) (inc : ℕ) (response : List ℕ) → is_server_of v q server ≡ true
    → IsReplyOf v q server inc response → Contains (answers v q inc) response
among_answers v q server inc response serves k =
    passes_more (λ (r : Ran). is_call r.id q && is_host r.host server && r.life == k.life) (is_run_in v q inc) pass v.runs response k.gave where
      pass : (r : Ran) → (is_call r.id q && is_host r.host server && r.life == k.life) ≡ true → is_run_in v q inc r ≡ true
      pass r e =
          let first = and_parts (is_call r.id q && is_host r.host server) (r.life == k.life) e in
          let both = and_parts (is_call r.id q) (is_host r.host server) first.0 in
          let at : r.host ≡ server = (hosts_are r.host server).0 both.1 in
          let told : incarnation v r.host r.life ≡ Some inc =
          ap (λ (x : HostId). incarnation v x r.life) at ∙ ap (incarnation v server) (eqb-true r.life k.life first.1) ∙ k.told in
          ap (λ b. b && is_server_of v q r.host && option_map_or (λ i. i == inc) (incarnation v r.host r.life) false) both.0
          ∙ ap (λ b. b && option_map_or (λ i. i == inc) (incarnation v r.host r.life) false) (ap (is_server_of v q) at ∙ serves)
          ∙ ap (λ o. option_map_or (λ i. i == inc) o false) told ∙ eq-eqb inc inc refl
