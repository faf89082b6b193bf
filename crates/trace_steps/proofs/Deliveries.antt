-- What the line of a delivery says of live calls and of RESENDs, and what a `stale` line behind it takes back.
use Rattle.std.proofs.Common.{◌≡◌, ℕ, ◌+◌, Bool, true, false, not, ◌&&◌, Option, Some, None, List, [], cond, refl, sym, ap, subst, ◌∙◌}
use Rattle.std.specs.Prelude.{slice_get}
use Rattle.std.specs.Option.{option_map_or}
use Rattle.std.proofs.lemmas.Bool.{cond_both, true≢false, false_from_ne_true}
use Rattle.plain_sets.specs.Maps.{Map, get, insert}
use Rattle.homa_plain.specs.declared.id.CallId.{CallId}
use Rattle.homa_plain.specs.declared.id.HostId.{HostId}
use Rattle.homa_plain.specs.declared.packet.Body.{Body}
use Rattle.homa_plain.specs.declared.packet.Body.TheVariants as body
use Rattle.homa_plain.specs.Wire.{is_client}
use Rattle.homa_plain.specs.Calls.{is_host, is_call, call_cmp}
use Rattle.homa_plain.specs.Entries.{PlainDeliver, PlainStale}
use Rattle.trace_rules.specs.View.{View, Called, Sent, Progress, no_ends, has_run, counts}
use Rattle.trace_rules.specs.Seen.{seen, begun, delivered, delivery, counted, heard, admitted, to_server, to_client, is_unknown}
use Rattle.homa_plain.proofs.CallOrder.{calls_are}
use Rattle.trace_steps.proofs.Progress.{get-set, is_of, AreLevel, IsLevel}

flipped : (a b : CallId) → is_call a b ≡ false → is_call b a ≡ false
flipped a b e = false_from_ne_true (is_call b a) (λ t. true≢false (sym ((calls_are a b).1 (sym ((calls_are b a).0 t))) ∙ e))

-- ---- bytes that are admitted

-- what they leave: all but the parts of the packet's call
record IsAdmitted (p : Sent) (m n : Progress) : Type 0 where
  pub came : n.came ≡ m.came
  pub live : n.live ≡ m.live
  pub resends : n.resends ≡ m.resends
  pub requests : (q : CallId) → is_call p.id q ≡ false → get m.requests q ≡ get n.requests q
  pub responses : (q : CallId) → is_call p.id q ≡ false → get m.responses q ≡ get n.responses q

admitted_itself : (p : Sent) (m : Progress) → IsAdmitted p m m
admitted_itself p m = record { came = refl; live = refl; resends = refl; requests = λ q e. refl; responses = λ q e. refl }

set_aside : {X : Type 0} (m : Map call_cmp X) (id : CallId) (x : X) (q : CallId) → is_call id q ≡ false → get m q ≡ get (insert m id x) q
set_aside m id x q e = sym (get-set m id x q ∙ ap (λ b. cond b (Some x) (get m q)) (flipped id q e))

to_server_is : (v : View) (p : Sent) (offset : ℕ) (m : Progress) (o : Option Called) → IsAdmitted p m (to_server v p offset m o)
to_server_is v p offset m None = admitted_itself p m
to_server_is v p offset m (Some c) =
    cond_both (is_host p.to c.server && not (has_run v c.server p.id)) _ _ (IsAdmitted p m)
    (λ _. record { came = refl; live = refl; resends = refl; requests = λ q e. set_aside m.requests p.id _ q e; responses = λ q e. refl })
    (λ _. admitted_itself p m)

to_client_is : (v : View) (p : Sent) (size offset : ℕ) (m : Progress) → IsAdmitted p m (to_client v p size offset m)
to_client_is v p size offset m =
    cond_both (counts v m p) _ _ (IsAdmitted p m)
    (λ _. record { came = refl; live = refl; resends = refl; requests = λ q e. refl; responses = λ q e. set_aside m.responses p.id _ q e })
    (λ _. admitted_itself p m)

admitted_is : (v : View) (p : Sent) (m : Progress) (what : Body) → IsAdmitted p m (admitted v p m what)
admitted_is v p m (body.Data size offset version service ack) =
    cond_both (is_client p.role) _ _ (IsAdmitted p m) (λ _. to_server_is v p offset m (get v.calls p.id)) (λ _. to_client_is v p size offset m)
admitted_is v p m (body.Grant offset prio) = admitted_itself p m
admitted_is v p m (body.Resend from to prio) = admitted_itself p m
admitted_is v p m body.Busy = admitted_itself p m
admitted_is v p m (body.Cutoffs cutoffs) = admitted_itself p m
admitted_is v p m (body.Unknown reason) = admitted_itself p m
admitted_is v p m body.NeedAck = admitted_itself p m
admitted_is v p m (body.Ack more) = admitted_itself p m

-- ---- the line of a delivery

-- what the lines say before the bytes are looked at
abbrev pub unadmitted : View → Sent → Progress
unadmitted v p = counted (begun v) p (record v.now { came = Some p; due = no_ends })

counted_came : (v : View) (p : Sent) (m : Progress) → (counted v p m).came ≡ m.came
counted_came v p m = cond_both (counts v m p) _ _ (λ (x : Progress). x.came ≡ m.came) (λ _. refl) (λ _. refl)

module _ (v : View) (n : ℕ) (p : Sent) (at : slice_get v.packets n ≡ Some p) where
  deliver_is : seen v (PlainDeliver n) ≡ record (delivered (begun v) (Some p)) { place = v.place + 1; ended = (seen v (PlainDeliver n)).ended }
  unfolding seen
  deliver_is = ap (λ (o : Option Sent). record (delivered (begun v) o) { place = v.place + 1; ended = (seen v (PlainDeliver n)).ended }) at

  now_is : (seen v (PlainDeliver n)).now ≡ admitted (begun v) p (unadmitted v p) p.body
  now_is = ap (λ (u : View). u.now) deliver_is

  refused_is : (seen v (PlainDeliver n)).if_refused ≡ unadmitted v p
  refused_is = ap (λ (u : View). u.if_refused) deliver_is

  pub deliver_live : (seen v (PlainDeliver n)).now.live ≡ (unadmitted v p).live
  deliver_live = ap (λ (m : Progress). m.live) now_is ∙ (admitted_is (begun v) p (unadmitted v p) p.body).live

  pub deliver_resends : (seen v (PlainDeliver n)).now.resends ≡ (unadmitted v p).resends
  deliver_resends = ap (λ (m : Progress). m.resends) now_is ∙ (admitted_is (begun v) p (unadmitted v p) p.body).resends

  pub deliver_came : (seen v (PlainDeliver n)).now.came ≡ Some p
  deliver_came = ap (λ (m : Progress). m.came) now_is ∙ (admitted_is (begun v) p (unadmitted v p) p.body).came
      ∙ counted_came (begun v) p (record v.now { came = Some p; due = no_ends })

  pub deliver_level : IsLevel (seen v (PlainDeliver n))
  deliver_level =
      let a = admitted_is (begun v) p (unadmitted v p) p.body in
      let aside = (λ (q : CallId) (e : is_of (admitted (begun v) p (unadmitted v p) p.body) q ≡ false).
      let same : is_call p.id q ≡ false = ap (λ (o : Option Sent). option_map_or (λ (x : Sent). is_call x.id q) o false)
      (sym (a.came ∙ counted_came (begun v) p (record v.now { came = Some p; due = no_ends }))) ∙ e in same) in
      let level : AreLevel (unadmitted v p) (admitted (begun v) p (unadmitted v p) p.body) = record {
        came = sym a.came;
        live = λ q. ap (λ (m : Map call_cmp ℕ). get m q) (sym a.live);
        resends = λ q. ap (λ (m : Map call_cmp (List ℕ)). get m q) (sym a.resends);
        requests = λ q e. a.requests q (aside q e);
        responses = λ q e. a.responses q (aside q e);
      } in
      subst (λ (m : Progress). AreLevel m (seen v (PlainDeliver n)).now) (sym refused_is) (subst (AreLevel (unadmitted v p)) (sym now_is) level)

  -- ---- a packet that counts, and one that doesn't

  -- whether it does, by the lines before the delivery
  abbrev pub counts_now : Bool
  counts_now = counts (begun v) (record v.now { came = Some p; due = no_ends }) p

  pub uncounted : counts_now ≡ false → ((unadmitted v p).live ≡ v.now.live) × ((unadmitted v p).resends ≡ v.now.resends)
  uncounted e =
      let m : Progress = record v.now { came = Some p; due = no_ends } in
      (ap (λ b. (cond b (heard p m) m).live) e, ap (λ b. (cond b (heard p m) m).resends) e)

  pub counted_live : counts_now ≡ true → (unadmitted v p).live ≡ insert v.now.live p.id p.inc
  counted_live e = let m : Progress = record v.now { came = Some p; due = no_ends } in ap (λ b. (cond b (heard p m) m).live) e

  pub counted_resends : counts_now ≡ true → (unadmitted v p).resends ≡ cond (is_unknown p.body) v.now.resends (insert v.now.resends p.id [])
  counted_resends e = let m : Progress = record v.now { came = Some p; due = no_ends } in ap (λ b. (cond b (heard p m) m).resends) e

  -- another call's are the same
  pub deliver_aside : (q : CallId) → is_call p.id q ≡ false → (get (seen v (PlainDeliver n)).now.live q ≡ get v.now.live q)
      × (get (seen v (PlainDeliver n)).now.resends q ≡ get v.now.resends q)
  deliver_aside q e = by_counts counts_now refl where
    by_counts : (b : Bool) → counts_now ≡ b → (get (seen v (PlainDeliver n)).now.live q ≡ get v.now.live q)
        × (get (seen v (PlainDeliver n)).now.resends q ≡ get v.now.resends q)
    by_counts false c =
        let u = uncounted c in (ap (λ (m : Map call_cmp ℕ). get m q) (deliver_live ∙ u.0), ap (λ (m : Map call_cmp (List ℕ)). get m q) (deliver_resends ∙ u.1))
    by_counts true c = (
      ap (λ (m : Map call_cmp ℕ). get m q) (deliver_live ∙ counted_live c) ∙ sym (set_aside v.now.live p.id p.inc q e),
      ap (λ (m : Map call_cmp (List ℕ)). get m q) (deliver_resends ∙ counted_resends c) ∙ by_body (is_unknown p.body),
    ) where
      by_body : (b : Bool) → get (cond b v.now.resends (insert v.now.resends p.id [])) q ≡ get v.now.resends q
      by_body true = refl
      by_body false = sym (set_aside v.now.resends p.id [] q e)

-- ---- a delivery that is stale

pub stale_now : (v : View) (n : ℕ) (host : HostId) (at now : ℕ)
    → (seen (seen v (PlainDeliver n)) (PlainStale host at now)).now ≡ record v.now { came = None; due = no_ends }
unfolding seen
stale_now v n host at now = by_packet (delivery (begun v) (PlainDeliver n)) where
  by_packet : (o : Option Sent) → (delivered (begun v) o).if_stale ≡ record v.now { came = None; due = no_ends }
  by_packet None = refl
  by_packet (Some p) = refl

pub stale_level : (v : View) (host : HostId) (at now : ℕ) → IsLevel (seen v (PlainStale host at now))
unfolding seen
stale_level v host at now = record { came = refl; live = λ q. refl; resends = λ q. refl; requests = λ q o. refl; responses = λ q o. refl }
