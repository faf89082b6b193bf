-- Lines that leave what the laws speak of: what has arrived, which calls are live, and what the block has and is due.
use Rattle.std.proofs.Common.{◌≡◌, ℕ, suc, Bool, true, false, ◌&&◌, ◌||◌, Option, Some, None, List, [], ◌∷◌, ◌++◌, length, cond, refl, sym, ap, subst, ◌∙◌}
use Rattle.std.specs.Prelude.{◌==◌, not, nat_lt, map, filter, unwrap_or}
use Rattle.std.specs.Ordering.{nat_cmp}
use Rattle.plain_sets.specs.Maps.{Map, get}
use Rattle.homa_plain.proofs.CallOrder.{calls_are, hosts_are}
use Rattle.step_laws.proofs.ToldBy.{packets_in-append}
use Rattle.step_laws.proofs.Places.{all-append}
use Rattle.std.specs.List.{AllByRecursion}
use Rattle.std.proofs.lemmas.Bool.{cond_both, eq-eqb}
use Rattle.std.proofs.Math.Bool.{and-false}
use Rattle.homa_plain.specs.declared.id.CallId.{CallId}
use Rattle.homa_plain.specs.declared.id.HostId.{HostId}
use Rattle.homa_plain.specs.declared.entry.Why.TheVariants.{Timeout}
use Rattle.homa_plain.specs.declared.packet.Role.{Role}
use Rattle.homa_plain.specs.declared.packet.Role.TheVariants.{Client, Server}
use Rattle.homa_plain.specs.declared.packet.Body.{Body}
use Rattle.homa_plain.specs.declared.packet.Body.TheVariants as body
use Rattle.homa_plain.specs.declared.settings.Settings.{Settings}
use Rattle.homa_plain.specs.Calls.{is_host, is_call}
use Rattle.homa_plain.specs.Entries.{PlainEntry, PlainRun, PlainRestart, PlainBury, PlainFree, PlainDrop, PlainFail, PlainBalance, PlainJunk}
use Rattle.homa_plain.specs.Entries.{PlainStale, PlainSend}
use Rattle.homa_plain.specs.Packets.{Packet, send_line}
use Rattle.homa_plain.specs.Host.{Host, Told, Says, Sends, packets_in, entries_from, Tuned, tuned, is_balance_due, counted, finished_at}
use Rattle.homa_plain.specs.Rules.{Say, Tells, Posts}
use Rattle.homa_plain.specs.Work.{Work, said, packet_from, bare}
use Rattle.homa_plain.specs.Wire.{is_client, is_server}
use Rattle.trace_rules.specs.View.{View, Progress, Sent, Ran, Ends, life, sent_last, is_server_of}
use Rattle.trace_rules.specs.Seen.{seen, seen_all, dropped}
use Rattle.trace_rules.specs.Seen as lines
use Rattle.homa_plain.specs.World.{stamped}
use Rattle.trace_steps.specs.Told.{sent_of}
use Rattle.trace_steps.proofs.Lines.{told_same}
use Rattle.step_moves.proofs.Inner.{AllInner, IsSaid}
use Rattle.trace_steps.proofs.Runs.{is_run, runs_told, unrun_same}
use Rattle.step_laws.proofs.Own.{runs_said}
use Rattle.step_moves.proofs.Moves.{notes_told, reply_told, acknowledged_told, finishes_told}
use Rattle.trace_steps.proofs.Progress.{IsLevel, IsUnstale, AllUnstale, unstale-append, ends_told, ends-append, told_level, told_live}
use Rattle.trace_steps.proofs.PartLines.{AllAside, aside-append, is_grant, told_parts}
use Rattle.trace_steps.specs.Contents.{replies}
use Rattle.trace_once.proofs.OnceLines.{or_first, or_second}
use Rattle.trace_returned.specs.Tales.{Tale, tale, RepliesTo, IsTruthful, CarriesReply, IsClosed}
use Rattle.trace_returned.proofs.StillRules.{IsCalmBody, AllCalm}

pub tale_is : (t u : Tale) → t.live ≡ u.live → t.request ≡ u.request → t.response ≡ u.response → t ≡ u
tale_is t u a b c = λ i. record { live = a i; request = b i; response = c i }

-- ---- the block

-- a line leaves what the block has, and what is due in it
abbrev pub IsSteady : PlainEntry → Type 0
IsSteady (PlainBury host id until) = Unit {0}
IsSteady (PlainFree host id) = Unit {0}
IsSteady (PlainDrop host id) = Unit {0}
IsSteady (PlainFail id Timeout) = Unit {0}
IsSteady (PlainBalance host cutoffs) = Unit {0}
IsSteady (PlainJunk host) = Unit {0}
IsSteady line = ⊥

abbrev pub AllSteady : List Told → Type 0
AllSteady [] = Unit {0}
AllSteady (Says entry ∷ told) = IsSteady entry × AllSteady told
AllSteady (Sends packet ∷ told) = AllSteady told

pub record SameBlock (v u : View) : Type 0 where
  pub here : u.here ≡ v.here
  pub due : u.now.due ≡ v.now.due
  pub came : u.now.came ≡ v.now.came

block_itself : (v : View) → SameBlock v v
block_itself v = record { here = refl; due = refl; came = refl }

pub block_then : (v u x : View) → SameBlock v u → SameBlock u x → SameBlock v x
block_then v u x a b = record { here = b.here ∙ a.here; due = b.due ∙ a.due; came = b.came ∙ a.came }

pub closed_same : (v u : View) → SameBlock v u → IsClosed v → IsClosed u
closed_same v u e k = record {
  runs = ap (λ (x : Ends). x.runs) e.here ∙ k.runs ∙ ap (λ (x : Ends). x.runs) (sym e.due);
  dones = ap (λ (x : Ends). x.dones) e.here ∙ k.dones ∙ ap (λ (x : Ends). x.dones) (sym e.due);
  forgotten = ap (λ (x : Ends). x.forgotten) e.here ∙ k.forgotten ∙ ap (λ (x : Ends). x.forgotten) (sym e.due);
}

-- what is due, and what came, is in what rests on the deliveries
record SameDue (m n : Progress) : Type 0 where
  due : n.due ≡ m.due
  came : n.came ≡ m.came

said_due : (v : View) (p : Sent) (what : Body) (m : Progress) → SameDue m (lines.said v p what m)
said_due v p (body.Grant offset prio) m =
    cond_both (is_server p.role) _ _ (SameDue m) (λ _. record { due = refl; came = refl }) (λ _. record { due = refl; came = refl })
said_due v p (body.Resend from to prio) m =
    cond_both (is_client p.role) _ _ (SameDue m) (λ _. record { due = refl; came = refl }) (λ _. record { due = refl; came = refl })
said_due v p (body.Data size offset version service ack) m =
    cond_both (is_client p.role && not (sent_last v p.id)) _ _ (SameDue m) (λ _. record { due = refl; came = refl }) (λ _. record { due = refl; came = refl })
said_due v p what m = record { due = refl; came = refl }

dropped_due : (v : View) (host : HostId) (id : CallId) (m : Progress) → SameDue m (dropped v host id m)
dropped_due v host id m = cond_both (is_server_of v id host) _ _ (SameDue m) (λ _. record { due = refl; came = refl }) (λ _. record { due = refl; came = refl })

steady_line : (v : View) (line : PlainEntry) → IsSteady line → SameBlock v (seen v line)
unfolding seen
steady_line v (PlainBury host id until) e = record { here = refl; due = refl; came = refl }
steady_line v (PlainFree host id) e = record { here = refl; due = refl; came = refl }
steady_line v (PlainDrop host id) e = let d = dropped_due v host id v.now in record { here = refl; due = d.due; came = d.came }
steady_line v (PlainFail id Timeout) e = record { here = refl; due = refl; came = refl }
steady_line v (PlainBalance host cutoffs) e = record { here = refl; due = refl; came = refl }
steady_line v (PlainJunk host) e = record { here = refl; due = refl; came = refl }
steady_line v line e = absurd e

sent_line : (v : View) (n : ℕ) (p : Packet) → SameBlock v (seen v (send_line n p))
unfolding seen
sent_line v n p = let d = said_due v (sent_of p) p.body v.now in record { here = refl; due = d.due; came = d.came }

pub told_block : (v : View) (n : ℕ) (told : List Told) → AllSteady told → SameBlock v (seen_all v (entries_from n told))
told_block v n [] e = block_itself v
told_block v n (Says entry ∷ told) e = block_then v (seen v entry) _ (steady_line v entry e.0) (told_block (seen v entry) n told e.1)
told_block v n (Sends p ∷ told) e = block_then v (seen v (send_line n p)) _ (sent_line v n p) (told_block (seen v (send_line n p)) (suc n) told e)

-- ---- who answered what

abbrev runs_of : View → HostId → CallId → ℕ → List Ran
runs_of v n q k = filter (λ (r : Ran). is_call r.id q && is_host r.host n && r.life == k) v.runs

pub same_replies : (v u : View) (n : HostId) (q : CallId) → u.runs ≡ v.runs → u.restarts ≡ v.restarts → replies u n q ≡ replies v n q
same_replies v u n q runs restarts =
    ap (λ (rs : List Ran). map (λ (r : Ran). r.response) (filter (λ (r : Ran). is_call r.id q && is_host r.host n && r.life == life u n) rs)) runs
    ∙ ap (λ (m : Map nat_cmp (List ℕ)). map (λ (r : Ran). r.response) (runs_of v n q (length (unwrap_or (get m n.0) [])))) restarts

-- the line of a run of another call, or at another host
run_replies : (v : View) (host n : HostId) (id q : CallId) (service : ℕ) (request response : List ℕ) (hold : ℕ)
    → (is_call id q && is_host host n) ≡ false → replies (seen v (PlainRun host id service request response hold)) n q ≡ replies v n q
unfolding seen
run_replies v host n id q service request response hold quiet =
    ap (λ b. map (λ (r : Ran). r.response) (cond b (new ∷ runs_of v n q (life v n)) (runs_of v n q (life v n))))
    (ap (λ b. b && life v host == life v n) quiet) where
      new : Ran
      new = record { host = host; life = life v host; id = id; response = response }

-- of the call itself
pub own_replies : (v : View) (host : HostId) (id : CallId) (service : ℕ) (request response : List ℕ) (hold : ℕ) → replies v host id ≡ []
    → replies (seen v (PlainRun host id service request response hold)) host id ≡ response ∷ []
unfolding seen
own_replies v host id service request response hold none =
    ap (λ b. map (λ (r : Ran). r.response) (cond b (new ∷ runs_of v host id (life v host)) (runs_of v host id (life v host)))) passes
    ∙ ap (λ xs. response ∷ xs) none where
      new : Ran
      new = record { host = host; life = life v host; id = id; response = response }

      passes : (is_call id id && is_host host host && life v host == life v host) ≡ true
      passes = ap (λ b. b && is_host host host && life v host == life v host) ((calls_are id id).1 refl) ∙ ap (λ b. b && life v host == life v host)
          ((hosts_are host host).1 refl) ∙ eq-eqb (life v host) (life v host) refl

-- a line within a step that doesn't say that a call runs leaves what it answered
said_replies : (v : View) (line : PlainEntry) (n : HostId) (q : CallId) → IsSaid line → is_run n q line ≡ false → replies (seen v line) n q ≡ replies v n q
said_replies v (PlainRun host id service request response hold) n q said quiet = run_replies v host n id q service request response hold quiet
said_replies v (PlainRestart host inc) n q said quiet = absurd said
said_replies v line n q said quiet = let e = unrun_same v line tt in same_replies v (seen v line) n q e.runs e.restarts

pub told_replies : (v : View) (k : ℕ) (told : List Told) (n : HostId) (q : CallId) → AllInner told → runs_told n q told ≡ false
    → replies (seen_all v (entries_from k told)) n q ≡ replies v n q
told_replies v k [] n q inner quiet = refl
told_replies v k (Says entry ∷ told) n q inner quiet =
    told_replies (seen v entry) k told n q inner.1 (or_second (is_run n q entry) (runs_told n q told) quiet) ∙ said_replies v entry n q inner.0
    (or_first (is_run n q entry) (runs_told n q told) quiet)
told_replies v k (Sends p ∷ told) n q inner quiet =
    told_replies (seen v (send_line k p)) (suc k) told n q inner quiet
    ∙ (let e = unrun_same v (send_line k p) tt in same_replies v (seen v (send_line k p)) n q e.runs e.restarts)

-- ---- all of it

-- no piece of a message and no GRANT is sent, and no line speaks of what the laws speak of
pub record IsCalmTold (told : List Told) : Type 0 where
  pub steady : AllSteady told
  pub unstale : AllUnstale told
  pub aside : (q : CallId) → AllAside q told
  pub live : (q : CallId) → ends_told q told ≡ false
  pub plain : AllByRecursion (λ (p : Packet). IsCalmBody p.body) (packets_in told)

steady-append : (a b : List Told) → AllSteady a → AllSteady b → AllSteady (a ++ b)
steady-append [] b x y = y
steady-append (Says entry ∷ a) b x y = (x.0, steady-append a b x.1 y)
steady-append (Sends p ∷ a) b x y = steady-append a b x y

pub calm_none : IsCalmTold []
calm_none = record { steady = tt; unstale = tt; aside = λ q. tt; live = λ q. refl; plain = tt }

pub calm_append : (a b : List Told) → IsCalmTold a → IsCalmTold b → IsCalmTold (a ++ b)
calm_append a b x y = record {
  steady = steady-append a b x.steady y.steady;
  unstale = unstale-append a b x.unstale y.unstale;
  aside = λ q. aside-append q a b (x.aside q) (y.aside q);
  live = λ q. ends-append q a b ∙ ap (λ t. t || ends_told q b) (x.live q) ∙ y.live q;
  plain = subst (AllByRecursion (λ (p : Packet). IsCalmBody p.body)) (sym (packets_in-append a b))
      (all-append (λ (p : Packet). IsCalmBody p.body) (packets_in a) (packets_in b) x.plain y.plain);
}

no_grant : (what : Body) → IsCalmBody what → is_grant what ≡ false
no_grant (body.Grant offset prio) c = absurd c
no_grant what c = refl

-- one packet
pub calm_packet : (p : Packet) → IsCalmBody p.body → IsCalmTold (Sends p ∷ [])
calm_packet p c =
    record {
      steady = tt;
      unstale = tt;
      aside = λ q. (ap (λ b. is_call q p.id && b) (no_grant p.body c) ∙ and-false (is_call q p.id), tt);
      live = λ q. refl;
      plain = (c, tt);
    }

module _ (s : Settings) where
  pub calm_notes : (o : Option ℕ) (w : Work) → IsCalmTold (notes_told s o w)
  unfolding tuned
  calm_notes None w = calm_none
  calm_notes (Some n) w = cond_both (is_balance_due s (counted w.host.tuning n)) _ _ (λ (t : Tuned). IsCalmTold t.told)
      (λ _. record { steady = (tt, tt); unstale = (tt, tt); aside = λ q. (tt, tt); live = λ q. refl; plain = tt }) (λ _. calm_none)

  pub calm_reply : (role : Role) (id : CallId) (server : HostId) (o : Option ℕ) (w : Work) → IsCalmTold (reply_told s role id server o w)
  calm_reply role id server None w = calm_none
  calm_reply role id server (Some version) w =
      cond_both (version == w.host.tuning.own.version) _ _ IsCalmTold (λ _. calm_none)
      (λ _. calm_packet (packet_from s w.host role id server (bare (body.Cutoffs w.host.tuning.own))) tt)

  calm_acknowledged : (server : HostId) (calls : List (ℕ × ℕ)) (w : Work) → IsCalmTold (acknowledged_told s server calls w)
  calm_acknowledged server [] w = calm_none
  calm_acknowledged server (call ∷ calls) w =
      cond_both (nat_lt (length calls) 4) _ _ IsCalmTold (λ _. calm_none)
      (λ _. calm_packet (packet_from s w.host Client (record { client = w.host.id; inc = call.0; seq = call.1 }) server (bare (body.Ack calls))) tt)

  pub calm_finishes : (id : CallId) (server : HostId) (done : Bool) (w : Work) → IsCalmTold (finishes_told s id server done w)
  calm_finishes id server false w = calm_none
  calm_finishes id server true w = calm_acknowledged server (finished_at w.host server ++ (id.inc, id.seq) ∷ []) w

  pub calm_said : (h : Host) (role : Role) (id : CallId) (server : HostId) (says : List Say) → AllCalm says → IsCalmTold (said s h role id server says)
  calm_said h role id server [] c = calm_none
  calm_said h role id server (Tells (PlainBury host q until) ∷ says) c =
      let rest = calm_said h role id server says c in
      record { steady = (tt, rest.steady); unstale = (tt, rest.unstale); aside = λ x. (tt, rest.aside x); live = rest.live; plain = rest.plain }
  calm_said h role id server (Tells (PlainFree host q) ∷ says) c =
      let rest = calm_said h role id server says c in
      record { steady = (tt, rest.steady); unstale = (tt, rest.unstale); aside = λ x. (tt, rest.aside x); live = rest.live; plain = rest.plain }
  calm_said h role id server (Tells entry ∷ says) c = absurd c
  calm_said h role id server (Posts what ∷ says) c =
      calm_append (Sends (packet_from s h role id server (bare what)) ∷ []) (said s h role id server says)
      (calm_packet (packet_from s h role id server (bare what)) c.0) (calm_said h role id server says c.1)

-- nor does a rule that is calm ask a service
pub calm_quiet : (says : List Say) → AllCalm says → runs_said says ≡ false
calm_quiet [] c = refl
calm_quiet (Tells (PlainBury host q until) ∷ says) c = calm_quiet says c
calm_quiet (Tells (PlainFree host q) ∷ says) c = calm_quiet says c
calm_quiet (Tells entry ∷ says) c = absurd c
calm_quiet (Posts what ∷ says) c = calm_quiet says c.1

pub unstale_inner : (told : List Told) → AllUnstale told → AllInner told
unstale_inner [] e = tt
unstale_inner (Says entry ∷ told) e = (by_entry entry e.0, unstale_inner told e.1) where
  by_entry : (entry : PlainEntry) → IsUnstale entry → IsSaid entry
  by_entry (PlainStale host at now) e = absurd e
  by_entry (PlainSend number from to inc role id level what payload) e = absurd e
  by_entry entry e = e
unstale_inner (Sends p ∷ told) e = unstale_inner told e

-- what calm lines leave
pub record SameSaid (v u : View) : Type 0 where
  pub calls : u.calls ≡ v.calls
  pub tales : (q : CallId) → tale u.now q ≡ tale v.now q
  pub level : IsLevel u
  pub block : SameBlock v u

pub calm_view : (v : View) (n : ℕ) (told : List Told) → IsCalmTold told → IsLevel v → SameSaid v (seen_all v (entries_from n told))
calm_view v n told c level = record {
  calls = (told_same v n told (unstale_inner told c.unstale)).calls;
  tales = λ q. let p = told_parts v n told q c.unstale level (c.aside q) in
      tale_is _ _ (told_live v n told q c.unstale level ∙ ap (λ b. cond b None (get v.now.live q)) (c.live q)) p.requests p.responses;
  level = told_level v n told c.unstale level;
  block = told_block v n told c.steady;
}

-- packets that are no pieces carry no reply
pub calm_truthful : (v : View) (tick : ℕ) (ps : List Packet) → AllByRecursion (λ (p : Packet). IsCalmBody p.body) ps
    → AllByRecursion (IsTruthful v) (stamped tick ps)
calm_truthful v tick [] all = tt
calm_truthful v tick (p ∷ ps) all = (by_role p.role, calm_truthful v tick ps all.1) where
  by_body : (what : Body) → IsCalmBody what → RepliesTo v p.id p.server p.inc what p.payload
  by_body (body.Data size offset version service ack) c = absurd c
  by_body other c = tt

  by_role : (role : Role) → CarriesReply v role p.id p.server p.inc p.body p.payload
  by_role Client = tt
  by_role Server = by_body p.body all.0
