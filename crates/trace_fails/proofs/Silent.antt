-- What moves tell of a call's RESENDs and of its end: which are silent of it.
use Rattle.std.proofs.Common.{◌≡◌, ℕ, suc, Bool, true, false, ◌&&◌, ◌||◌, Option, Some, None, List, [], ◌∷◌, ◌++◌, length, map, cond, refl, sym, ap, subst, ◌∙◌}
use Rattle.std.specs.Prelude.{◌==◌, ◌+◌, nat_lt, nat_le, unwrap_or}
use Rattle.std.specs.List.{AllByRecursion, list_any}
use Rattle.std.proofs.lemmas.Bool.{cond_both, and_left, and_right, true≢false, false_from_ne_true}
use Rattle.std.proofs.Math.Bool.{or-false}
use Rattle.plain_sets.specs.Maps.{get}
use Rattle.homa_plain.specs.declared.id.CallId.{CallId}
use Rattle.homa_plain.specs.declared.id.HostId.{HostId}
use Rattle.homa_plain.specs.declared.packet.Role.{Role}
use Rattle.homa_plain.specs.declared.packet.Role.TheVariants.{Client, Server}
use Rattle.homa_plain.specs.declared.packet.Body.{Body}
use Rattle.homa_plain.specs.declared.packet.Body.TheVariants as body
use Rattle.homa_plain.specs.declared.settings.Settings.{Settings}
use Rattle.homa_plain.specs.declared.entry.Why.TheVariants.{Timeout, Forgotten}
use Rattle.homa_plain.specs.Calls.{is_call}
use Rattle.homa_plain.specs.Entries.{PlainEntry, PlainRun, PlainDone, PlainFail, PlainDrop, PlainGaps, PlainBury, PlainFree, PlainFullRows, PlainFullPages}
use Rattle.homa_plain.specs.Wire.{is_client}
use Rattle.homa_plain.specs.Packets.{Packet, sender, sender_of, send_line}
use Rattle.homa_plain.specs.Rows.{ClientRow, ServerRow}
use Rattle.homa_plain.specs.Host.{Host, Told, Says, Sends, packets_in, entries_from, Tuned, tuned, is_balance_due, counted, finished_at}
use Rattle.homa_plain.specs.Rules.{Say, Tells, Posts, Did}
use Rattle.homa_plain.specs.Work.{Work, said}
use Rattle.trace_rules.specs.View.{View, Called, Sent, has_last, sent_last, resends_of}
use Rattle.trace_rules.specs.Seen.{seen, seen_all}
use Rattle.trace_rules.specs.Laws.{Holds}
use Rattle.homa_plain.proofs.CallOrder.{calls_are}
use Rattle.step_laws.proofs.Places.{all-append}
use Rattle.trace_steps.specs.Told.{sent_of}
use Rattle.trace_steps.proofs.Lines.{told_same}
use Rattle.step_moves.proofs.Inner.{AllInner}
use Rattle.step_laws.proofs.Own.{IsOwn, AllOwn, IsServed, AllServed}
use Rattle.step_moves.proofs.Moves.{IsFrom, notes_told, reply_told, acknowledged_told, finishes_told, served_put, served_noted, served_told, served_packets}
use Rattle.step_moves.proofs.AskedMove.{asked_put, asked_noted, asked_said, asked_told, asked_packets}
use Rattle.trace_steps.proofs.Progress.{IsLevel, IsUnstale, AllUnstale, is_end, ends_told, ends-append, told_live}
use Rattle.trace_steps.proofs.Ticks.{asks, is_asking, NoneAsks, told_ticks, any_last, told_sent_last}
use Rattle.trace_fails.specs.Timeouts.{TimesOut, IsFairRow, IsLiveRow}
use Rattle.trace_fails.proofs.ClientSays.{IsBare, AllBare, NoTimeouts, ends_said}

-- a move doesn't end the call, and sends none of its RESENDs and of its request's pieces
pub record IsSilent (q : CallId) (told : List Told) : Type 0 where
  pub lives : ends_told q told ≡ false
  pub bare : NoneAsks q (packets_in told)

-- ---- what is silent of a call leaves what the lines say of it

module _ (q : CallId) where
  no_last : (c : Called) (ps : List Packet) → NoneAsks q ps → list_any (λ (p : Sent). has_last q (length c.request) p p.body) (map sent_of ps) ≡ false
  no_last c [] none = refl
  no_last c (p ∷ ps) none = ap (λ b. b || list_any (λ (x : Sent). has_last q (length c.request) x x.body) (map sent_of ps))
      (one p.role p.body refl refl none.0) ∙ no_last c ps none.1 where
        off : (b : Bool) → (b && true) ≡ false → b ≡ false
        off true e = e
        off false e = refl

        turned : is_call q p.id ≡ false → is_call p.id q ≡ false
        turned e = false_from_ne_true (is_call p.id q) (λ t. true≢false (sym ((calls_are q p.id).1 (sym ((calls_are p.id q).0 t))) ∙ e))

        at_role : (role : Role) (size offset version service : ℕ) (ack : Option (ℕ × ℕ)) → p.role ≡ role
            → (is_call q p.id && asks role (body.Data size offset version service ack)) ≡ false
            → has_last q (length c.request) (sent_of p) (body.Data size offset version service ack) ≡ false
        at_role Client size offset version service ack r e =
            and_left (is_client p.role && is_call p.id q && nat_lt offset (length c.request)) _
            (and_left (is_client p.role && is_call p.id q) _ (and_right (is_client p.role) _ (turned (off (is_call q p.id) e))))
        at_role Server size offset version service ack r e =
            ap (λ (x : Role). is_client x && is_call p.id q && nat_lt offset (length c.request) && nat_le (length c.request) (offset + length p.payload)) r

        one : (role : Role) (what : Body) → p.role ≡ role → p.body ≡ what → (is_call q p.id && asks role what) ≡ false
            → has_last q (length c.request) (sent_of p) p.body ≡ false
        one role (body.Data size offset version service ack) r w e =
            ap (has_last q (length c.request) (sent_of p)) w ∙ at_role role size offset version service ack r e
        one role (body.Grant offset prio) r w e = ap (has_last q (length c.request) (sent_of p)) w
        one role (body.Resend from to prio) r w e = ap (has_last q (length c.request) (sent_of p)) w
        one role body.Busy r w e = ap (has_last q (length c.request) (sent_of p)) w
        one role (body.Cutoffs cutoffs) r w e = ap (has_last q (length c.request) (sent_of p)) w
        one role (body.Unknown reason) r w e = ap (has_last q (length c.request) (sent_of p)) w
        one role body.NeedAck r w e = ap (has_last q (length c.request) (sent_of p)) w
        one role (body.Ack more) r w e = ap (has_last q (length c.request) (sent_of p)) w

  none_last : (o : Option Called) (ps : List Packet) → NoneAsks q ps → any_last q o (map sent_of ps) ≡ false
  none_last None ps none = refl
  none_last (Some c) ps none = no_last c ps none

  pub silent_row : (s : Settings) (v : View) (n : ℕ) (told : List Told) (last : ℕ) (r : ClientRow) → AllInner told → AllUnstale told → IsLevel v
      → IsSilent q told → IsLiveRow s v last q r → IsLiveRow s (seen_all v (entries_from n told)) last q r
  silent_row s v n told last r inner fresh level silent k =
      let u : View = seen_all v (entries_from n told) in
      let ticks : resends_of v.now q ≡ resends_of u.now q =
      ap (λ (o : Option (List ℕ)). unwrap_or o []) (sym (told_ticks v n told q fresh level silent.bare)) in
      let sent : sent_last v q ≡ sent_last u q =
      sym (told_sent_last v n told q inner ∙ ap (λ b. sent_last v q || b) (none_last (get v.calls q) (packets_in told) silent.bare)
      ∙ or-false (sent_last v q)) in
      record {
        live = told_live v n told q fresh level ∙ ap (λ b. cond b None (get v.now.live q)) silent.lives ∙ k.live;
        called = ap (λ m. get m q) (told_same v n told inner).calls ∙ k.called;
        size = k.size;
        sound = k.sound;
        fair = subst (λ (ts : List ℕ). IsFairRow s last r ts (sent_last u q)) ticks (subst (IsFairRow s last r (resends_of v.now q)) sent k.fair);
      }

-- ---- a host's packets are of no call of another client

pub others_bare : (h : Host) (q : CallId) (ps : List Packet) → (q.client ≡ h.id → ⊥) → AllByRecursion (IsFrom h) ps → NoneAsks q ps
others_bare h q [] other all = tt
others_bare h q (p ∷ ps) other all = (by_role p.role refl all.0.by, others_bare h q ps other all.1) where
  by_role : (role : Role) → p.role ≡ role → sender p ≡ h.id → (is_call q p.id && asks p.role p.body) ≡ false
  by_role Client r by =
      and_left (is_call q p.id) (asks p.role p.body)
      (false_from_ne_true (is_call q p.id)
      (λ t. other (ap (λ (x : CallId). x.client) ((calls_are q p.id).0 t) ∙ sym (ap (λ (x : Role). sender_of x p.id p.server) r) ∙ by)))
  by_role Server r by = and_right (is_call q p.id) (asks p.role p.body) (ap (λ (x : Role). asks x p.body) r)

-- ---- what is told beside the rules

-- a line that a move may tell, and none of a timeout
abbrev pub IsCalm : PlainEntry → Type 0
IsCalm (PlainFail id Timeout) = ⊥
IsCalm line = IsUnstale line

abbrev pub AllCalm : List Told → Type 0
AllCalm [] = Unit {0}
AllCalm (Says entry ∷ told) = IsCalm entry × AllCalm told
AllCalm (Sends packet ∷ told) = AllCalm told

pub calm-append : (a b : List Told) → AllCalm a → AllCalm b → AllCalm (a ++ b)
calm-append [] b x y = y
calm-append (Says entry ∷ a) b x y = (x.0, calm-append a b x.1 y)
calm-append (Sends packet ∷ a) b x y = calm-append a b x y

pub calm_unstale : (told : List Told) → AllCalm told → AllUnstale told
calm_unstale [] calm = tt
calm_unstale (Says entry ∷ told) calm = (by_entry entry calm.0, calm_unstale told calm.1) where
  by_entry : (entry : PlainEntry) → IsCalm entry → IsUnstale entry
  by_entry (PlainFail id Timeout) calm = absurd calm
  by_entry (PlainFail id Forgotten) calm = tt
  by_entry line calm = calm
calm_unstale (Sends packet ∷ told) calm = calm_unstale told calm

pub calm_holds : (v : View) (n : ℕ) (told : List Told) → AllCalm told → Holds TimesOut v (entries_from n told)
calm_holds v n [] calm = tt
calm_holds v n (Says entry ∷ told) calm = (by_entry entry calm.0, calm_holds (seen v entry) n told calm.1) where
  by_entry : (entry : PlainEntry) → IsCalm entry → TimesOut v entry
  by_entry (PlainFail id Timeout) calm = absurd calm
  by_entry line calm = tt
calm_holds v n (Sends packet ∷ told) calm = (tt, calm_holds (seen v (send_line n packet)) (suc n) told calm)

-- ---- a rule at a server is carried out

module _ (s : Settings) where
  notes_calm : (o : Option ℕ) (w : Work) → AllCalm (notes_told s o w) × ((q : CallId) → ends_told q (notes_told s o w) ≡ false)
  unfolding tuned
  notes_calm None w = (tt, λ q. refl)
  notes_calm (Some n) w =
      cond_both (is_balance_due s (counted w.host.tuning n)) _ _ (λ (t : Tuned). AllCalm t.told × ((q : CallId) → ends_told q t.told ≡ false))
      (λ _. ((tt, tt), λ q. refl)) (λ _. (tt, λ q. refl))

  -- at either side
  reply_calm : (role : Role) (id : CallId) (server : HostId) (o : Option ℕ) (w : Work)
      → AllCalm (reply_told s role id server o w) × ((q : CallId) → ends_told q (reply_told s role id server o w) ≡ false)
      × ((q : CallId) → NoneAsks q (packets_in (reply_told s role id server o w)))
  reply_calm role id server None w = (tt, λ q. refl, λ q. tt)
  reply_calm role id server (Some version) w =
      cond_both (version == w.host.tuning.own.version) _ _
      (λ (t : List Told). AllCalm t × ((q : CallId) → ends_told q t ≡ false) × ((q : CallId) → NoneAsks q (packets_in t))) (λ _. (tt, λ q. refl, λ q. tt))
      (λ _. (tt, λ q. refl, λ q. (and_right (is_call q id) (asks role (body.Cutoffs w.host.tuning.own)) (cutoffs role), tt))) where
        cutoffs : (role : Role) → asks role (body.Cutoffs w.host.tuning.own) ≡ false
        cutoffs Client = refl
        cutoffs Server = refl

  says_served : (h : Host) (id : CallId) (server n : HostId) (says : List Say) → AllServed n id says
      → AllCalm (said s h Server id server says) × ((q : CallId) → ends_told q (said s h Server id server says) ≡ false)
  says_served h id server n [] own = (tt, λ q. refl)
  says_served h id server n (Posts what ∷ says) own = says_served h id server n says own
  says_served h id server n (Tells entry ∷ says) own = by_entry entry own.0 (says_served h id server n says own.1) where
    rest : List Told
    rest = said s h Server id server says

    by_entry : (entry : PlainEntry) → IsServed n id entry → AllCalm rest × ((q : CallId) → ends_told q rest ≡ false)
        → (IsCalm entry × AllCalm rest) × ((q : CallId) → is_end q entry || ends_told q rest ≡ false)
    by_entry (PlainRun host q service request response hold) own e = ((tt, e.0), e.1)
    by_entry (PlainDrop host q) own e = ((tt, e.0), e.1)
    by_entry (PlainGaps host q) own e = ((tt, e.0), e.1)
    by_entry (PlainBury host q until) own e = ((tt, e.0), e.1)
    by_entry (PlainFree host q) own e = ((tt, e.0), e.1)
    by_entry (PlainFullRows host q rows limit) own e = ((tt, e.0), e.1)
    by_entry (PlainFullPages host q need free) own e = ((tt, e.0), e.1)
    by_entry line own e = absurd own

  -- what a server sends is no RESEND of a client
  server_bare : (q : CallId) (id : CallId) (what : Body) → (is_call q id && asks Server what) ≡ false
  server_bare q id what = and_right (is_call q id) (asks Server what) refl

  said_bare : (h : Host) (id : CallId) (server : HostId) (q : CallId) (says : List Say) → NoneAsks q (packets_in (said s h Server id server says))
  said_bare h id server q [] = tt
  said_bare h id server q (Tells entry ∷ says) = said_bare h id server q says
  said_bare h id server q (Posts what ∷ says) = (server_bare q id what, said_bare h id server q says)

  module _ (id : CallId) (did : Did ServerRow) (w : Work) (own : AllServed w.host.id id did.says) where
    pub served_calm : AllCalm (served_told s id did w)
    served_calm =
        let reply = reply_told s Server id w.host.id did.version (served_noted s id did w) in
        let says = said s w.host Server id w.host.id did.says in
        calm-append (notes_told s did.opened (served_put s id did w)) (reply ++ says) (notes_calm did.opened (served_put s id did w)).0
        (calm-append reply says (reply_calm Server id w.host.id did.version (served_noted s id did w)).0
        (says_served w.host id w.host.id w.host.id did.says own).0)

    pub served_silent : (q : CallId) → IsSilent q (served_told s id did w)
    served_silent q =
        let noted = notes_told s did.opened (served_put s id did w) in
        let reply = reply_told s Server id w.host.id did.version (served_noted s id did w) in
        let says = said s w.host Server id w.host.id did.says in
        let r = reply_calm Server id w.host.id did.version (served_noted s id did w) in
        record {
          lives = ends-append q noted (reply ++ says) ∙ ap (λ b. b || ends_told q (reply ++ says)) ((notes_calm did.opened (served_put s id did w)).1 q)
              ∙ ends-append q reply says ∙ ap (λ b. b || ends_told q says) (r.1 q) ∙ (says_served w.host id w.host.id w.host.id did.says own).1 q;
          bare = subst (NoneAsks q) (sym (served_packets s id did w))
              (all-append (λ (p : Packet). is_asking q p ≡ false) (packets_in reply) (packets_in says) (r.2 q) (said_bare w.host id w.host.id q did.says));
        }

  -- ---- a rule at a client

  ack_calm : (server : HostId) (calls : List (ℕ × ℕ)) (w : Work)
      → AllCalm (acknowledged_told s server calls w) × ((q : CallId) → ends_told q (acknowledged_told s server calls w) ≡ false)
      × ((q : CallId) → NoneAsks q (packets_in (acknowledged_told s server calls w)))
  ack_calm server [] w = (tt, λ q. refl, λ q. tt)
  ack_calm server (call ∷ calls) w =
      cond_both (nat_lt (length calls) 4) _ _
      (λ (t : List Told). AllCalm t × ((q : CallId) → ends_told q t ≡ false) × ((q : CallId) → NoneAsks q (packets_in t))) (λ _. (tt, λ q. refl, λ q. tt))
      (λ _. (tt, λ q. refl, λ q. (and_right (is_call q (record { client = w.host.id; inc = call.0; seq = call.1 })) (asks Client (body.Ack calls)) refl, tt)))

  finishes_calm : (id : CallId) (server : HostId) (done : Bool) (w : Work)
      → AllCalm (finishes_told s id server done w) × ((q : CallId) → ends_told q (finishes_told s id server done w) ≡ false)
      × ((q : CallId) → NoneAsks q (packets_in (finishes_told s id server done w)))
  finishes_calm id server false w = (tt, λ q. refl, λ q. tt)
  finishes_calm id server true w = ack_calm server (finished_at w.host server ++ (id.inc, id.seq) ∷ []) w

  says_asked : (h : Host) (id : CallId) (server n : HostId) (says : List Say) → AllOwn n id says → NoTimeouts says → AllCalm (said s h Client id server says)
  says_asked h id server n [] own quiet = tt
  says_asked h id server n (Posts what ∷ says) own quiet = says_asked h id server n says own quiet
  says_asked h id server n (Tells entry ∷ says) own quiet = by_entry entry own.0 quiet (λ k. says_asked h id server n says own.1 k) where
    by_entry : (entry : PlainEntry) → IsOwn n id entry → NoTimeouts (Tells entry ∷ says)
        → (NoTimeouts says → AllCalm (said s h Client id server says)) → IsCalm entry × AllCalm (said s h Client id server says)
    by_entry (PlainRun host q service request response hold) own quiet rest = (tt, rest quiet)
    by_entry (PlainDone q bytes) own quiet rest = (tt, rest quiet)
    by_entry (PlainFail q Timeout) own quiet rest = absurd quiet
    by_entry (PlainFail q Forgotten) own quiet rest = (tt, rest quiet)
    by_entry (PlainDrop host q) own quiet rest = (tt, rest quiet)
    by_entry (PlainGaps host q) own quiet rest = (tt, rest quiet)
    by_entry (PlainBury host q until) own quiet rest = (tt, rest quiet)
    by_entry (PlainFree host q) own quiet rest = (tt, rest quiet)
    by_entry (PlainFullRows host q rows limit) own quiet rest = (tt, rest quiet)
    by_entry (PlainFullPages host q need free) own quiet rest = (tt, rest quiet)
    by_entry line own quiet rest = absurd own

  -- it ends no call but its own
  says_ends : (h : Host) (id : CallId) (server n : HostId) (q : CallId) (says : List Say) → AllOwn n id says
      → ends_told q (said s h Client id server says) ≡ ends_said says && is_call q id
  says_ends h id server n q [] own = refl
  says_ends h id server n q (Posts what ∷ says) own = says_ends h id server n q says own
  says_ends h id server n q (Tells entry ∷ says) own = by_entry entry own.0 (says_ends h id server n q says own.1) where
    rest : Bool
    rest = ends_told q (said s h Client id server says)

    or_and : (a b : Bool) → (b || (a && b)) ≡ b
    or_and true true = refl
    or_and true false = refl
    or_and false true = refl
    or_and false false = refl

    by_entry : (entry : PlainEntry) → IsOwn n id entry → rest ≡ ends_said says && is_call q id
        → is_end q entry || rest ≡ ends_said (Tells entry ∷ says) && is_call q id
    by_entry (PlainDone q' bytes) own e = ap (λ (x : CallId). is_call q x || rest) own ∙ ap (λ b. is_call q id || b) e ∙ or_and (ends_said says) (is_call q id)
    by_entry (PlainFail q' why) own e = ap (λ (x : CallId). is_call q x || rest) own ∙ ap (λ b. is_call q id || b) e ∙ or_and (ends_said says) (is_call q id)
    by_entry (PlainRun host q' service request response hold) own e = e
    by_entry (PlainDrop host q') own e = e
    by_entry (PlainGaps host q') own e = e
    by_entry (PlainBury host q' until) own e = e
    by_entry (PlainFree host q') own e = e
    by_entry (PlainFullRows host q' rows limit) own e = e
    by_entry (PlainFullPages host q' need free) own e = e
    by_entry line own e = absurd own

  says_bare : (h : Host) (id : CallId) (server : HostId) (q : CallId) (says : List Say) → AllBare says
      → NoneAsks q (packets_in (said s h Client id server says))
  says_bare h id server q [] bare = tt
  says_bare h id server q (Tells entry ∷ says) bare = says_bare h id server q says bare
  says_bare h id server q (Posts what ∷ says) bare =
      (and_right (is_call q id) (asks Client what) (by_body what bare.0), says_bare h id server q says bare.1) where
        by_body : (what : Body) → IsBare what → asks Client what ≡ false
        by_body (body.Data size offset version service ack) bare = absurd bare
        by_body (body.Resend from to prio) bare = absurd bare
        by_body what bare = refl

  module _ (id : CallId) (server : HostId) (did : Did ClientRow) (w : Work) (own : AllOwn id.client id did.says) where
    pub asked_calm : NoTimeouts did.says → AllCalm (asked_told s id server did w)
    asked_calm quiet =
        let reply = reply_told s Client id server did.version (asked_noted s id server did w) in
        let says = said s w.host Client id server did.says in
        let ends = finishes_told s id server did.finished (asked_said s id server did w) in
        calm-append (notes_told s did.opened (asked_put s id server did w)) (reply ++ (says ++ ends)) (notes_calm did.opened (asked_put s id server did w)).0
        (calm-append reply (says ++ ends) (reply_calm Client id server did.version (asked_noted s id server did w)).0
        (calm-append says ends (says_asked w.host id server id.client did.says own quiet)
        (finishes_calm id server did.finished (asked_said s id server did w)).0))

    pub asked_ends : (q : CallId) → ends_told q (asked_told s id server did w) ≡ ends_said did.says && is_call q id
    asked_ends q =
        let noted = notes_told s did.opened (asked_put s id server did w) in
        let reply = reply_told s Client id server did.version (asked_noted s id server did w) in
        let says = said s w.host Client id server did.says in
        let ends = finishes_told s id server did.finished (asked_said s id server did w) in
        ends-append q noted (reply ++ (says ++ ends)) ∙ ap (λ b. b || ends_told q (reply ++ (says ++ ends)))
        ((notes_calm did.opened (asked_put s id server did w)).1 q)
        ∙ ends-append q reply (says ++ ends) ∙ ap (λ b. b || ends_told q (says ++ ends))
        ((reply_calm Client id server did.version (asked_noted s id server did w)).1 q)
        ∙ ends-append q says ends ∙ ap (λ b. ends_told q says || b) ((finishes_calm id server did.finished (asked_said s id server did w)).1 q)
        ∙ or-false (ends_told q says) ∙ says_ends w.host id server id.client q did.says own

    pub asked_bare : AllBare did.says → (q : CallId) → NoneAsks q (packets_in (asked_told s id server did w))
    asked_bare bare q =
        let reply = reply_told s Client id server did.version (asked_noted s id server did w) in
        let says = said s w.host Client id server did.says in
        let ends = finishes_told s id server did.finished (asked_said s id server did w) in
        let P = λ (p : Packet). is_asking q p ≡ false in
        subst (NoneAsks q) (sym (asked_packets s id server did w))
        (all-append P (packets_in reply) (packets_in says ++ packets_in ends) ((reply_calm Client id server did.version (asked_noted s id server did w)).2 q)
        (all-append P (packets_in says) (packets_in ends) (says_bare w.host id server q did.says bare)
        ((finishes_calm id server did.finished (asked_said s id server did w)).2 q)))
