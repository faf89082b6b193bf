-- The block of a request's piece: it is refused, it is taken, or the service runs, as the lines say.
use Rattle.std.proofs.Common.{◌≡◌, ℕ, ◌+◌, ◌<◌, Bool, true, false, ◌&&◌, ◌||◌, Option, Some, None, List, [], ◌∷◌, ◌++◌, length, cond, refl, sym, ap, subst, ◌∙◌}
use Rattle.std.specs.Prelude.{◌==◌, not, nat_lt, map, if◌then◌else◌}
use Rattle.std.specs.Option.{option_map_or}
use Rattle.std.specs.List.{AllByRecursion}
use Rattle.std.proofs.lemmas.Bool.{cond_both}
use Rattle.std.proofs.Math.Bool.{and-false}
use Rattle.plain_sets.specs.Maps.{get, len}
use Rattle.homa_plain.specs.declared.id.CallId.{CallId}
use Rattle.homa_plain.specs.declared.id.HostId.{HostId}
use Rattle.homa_plain.specs.declared.packet.Role.{Role}
use Rattle.homa_plain.specs.declared.packet.Role.TheVariants.{Server}
use Rattle.homa_plain.specs.declared.settings.Settings.{Settings}
use Rattle.homa_plain.specs.Calls.{is_host, is_call}
use Rattle.homa_plain.specs.Entries.{PlainEntry, PlainRun, PlainGaps, PlainFullRows, PlainFullPages}
use Rattle.homa_plain.specs.Packets.{Packet}
use Rattle.trace_rules.specs.Parts.{Part, made_whole, is_message}
use Rattle.trace_rules.specs.Parts as parts
use Rattle.homa_plain.specs.Rows.{ServerRow}
use Rattle.homa_plain.specs.Host.{Told, packets_in, entries_from, Tuned, tuned, is_balance_due, counted}
use Rattle.homa_plain.specs.Rules.{Answer, Say, Tells, Did}
use Rattle.homa_plain.specs.Work.{Work, said}
use Rattle.homa_plain.specs.Steps.{served}
use Rattle.trace_rules.specs.View.{View, Progress, Sent, Called, Ends, no_ends, life}
use Rattle.trace_rules.specs.View.{Ran as RanLine}
use Rattle.trace_rules.specs.Laws.{Holds, Once}
use Rattle.trace_rules.specs.Seen.{seen, seen_all, refused, is_delivery_to}
use Rattle.homa_plain.specs.World.{World, stamped}
use Rattle.homa_plain.proofs.CallOrder.{calls_are, hosts_are}
use Rattle.trace_steps.proofs.Lines.{seen-told}
use Rattle.step_moves.proofs.Inner.{inner-append}
use Rattle.trace_steps.proofs.Runs.{runs_told, runs-append}
use Rattle.trace_steps.proofs.OwnRuns.{notes-runs, reply-runs}
use Rattle.step_laws.proofs.Own.{AllOwn, runs_said}
use Rattle.step_moves.proofs.Moves.{notes_told, reply_told, served_put, served_noted, served_told}
use Rattle.trace_steps.proofs.Progress.{IsLevel, AreLevel, level_itself}
use Rattle.trace_steps.specs.Stands.{Stand, state_of, with_server, put, said_so_far, amid}
use Rattle.trace_steps.specs.Contents.{replies, Replies}
use Rattle.trace_steps.specs.Arrived.{IsSamePart}
use Rattle.step_moves.proofs.Hosts.{some_is, none_some}
use Rattle.trace_once.specs.Lifetime.{times}
use Rattle.trace_once.proofs.ServerRules.{ServerKeeps}
use Rattle.trace_once.proofs.Amid.{IsAmid}
use Rattle.trace_returned.specs.Tales.{Tale, tale, IsTruthful, IsSameRequest, IsSameResponse, IsSame, IsTrue, receiving}
use Rattle.trace_returned.proofs.StillRules.{IsCalmBody}
use Rattle.trace_returned.proofs.Pieces.{StaysPending, RequestTaken, Gapped, Unheld, Unpaged, Taken, Ran}
use Rattle.trace_returned.proofs.Deliver.{Begins}
use Rattle.trace_returned.proofs.Calm.{own_replies, told_replies, unstale_inner, calm_notes, calm_reply}
use Rattle.trace_returned.proofs.ReplyLines.{none_pass}
use Rattle.trace_returned.proofs.TrueMoves.{response_later, served_lines, served_once, served_gave, served_other, served_here, served_true}
use Rattle.trace_returned.proofs.TrueMoves.{served_front, before_served, served_before, served_split, served_fits}
use Rattle.trace_returned.proofs.ActMoves.{elsewhere_made}

-- ---- lines before the verdict

-- lines that leave what rests on the deliveries, and what the block has
pub record SameProgress (v u : View) : Type 0 where
  pub now : u.now ≡ v.now
  pub refused : u.if_refused ≡ v.if_refused
  pub here : u.here ≡ v.here

pub then_progress : (v u x : View) → SameProgress v u → SameProgress u x → SameProgress v x
then_progress v u x a b = record { now = b.now ∙ a.now; refused = b.refused ∙ a.refused; here = b.here ∙ a.here }

module _ (s : Settings) where
  pub notes_progress : (v : View) (n : ℕ) (o : Option ℕ) (w : Work) → SameProgress v (seen_all v (entries_from n (notes_told s o w)))
  unfolding tuned seen
  notes_progress v n None w = record { now = refl; refused = refl; here = refl }
  notes_progress v n (Some m) w =
      cond_both (is_balance_due s (counted w.host.tuning m)) _ _ (λ (t : Tuned). SameProgress v (seen_all v (entries_from n t.told)))
      (λ _. record { now = refl; refused = refl; here = refl }) (λ _. record { now = refl; refused = refl; here = refl })

  pub reply_progress : (v : View) (n : ℕ) (role : Role) (id : CallId) (server : HostId) (o : Option ℕ) (w : Work)
      → SameProgress v (seen_all v (entries_from n (reply_told s role id server o w)))
  unfolding seen
  reply_progress v n role id server None w = record { now = refl; refused = refl; here = refl }
  reply_progress v n role id server (Some version) w =
      cond_both (version == w.host.tuning.own.version) _ _ (λ (t : List Told). SameProgress v (seen_all v (entries_from n t)))
      (λ _. record { now = refl; refused = refl; here = refl }) (λ _. record { now = refl; refused = refl; here = refl })

  pub front_progress : (v : View) (n : ℕ) (a b : List Told) → SameProgress v (seen_all v (entries_from n a))
      → ((u : View) (m : ℕ) → SameProgress u (seen_all u (entries_from m b))) → SameProgress v (seen_all v (entries_from n (a ++ b)))
  front_progress v n a b x y =
      subst (SameProgress v) (sym (seen-told v n a b))
      (then_progress v (seen_all v (entries_from n a)) _ x (y (seen_all v (entries_from n a)) (n + length (packets_in a))))

-- ---- a refusal takes the delivery back

-- the block's delivery is of this call, to this host
pub comes_to : (u : View) (p : Sent) (host : HostId) (id : CallId) → u.now.came ≡ Some p → p.id ≡ id → p.to ≡ host → is_delivery_to u host id ≡ true
comes_to u p host id came of to =
    ap (λ o. option_map_or (λ (x : Sent). is_call x.id id && is_host x.to host) o false) came
    ∙ ap (λ t. t && is_host p.to host) ((calls_are p.id id).1 of) ∙ (hosts_are p.to host).1 to

pub record TakenBack (v u : View) : Type 0 where
  pub now : u.now ≡ v.if_refused
  pub refused : u.if_refused ≡ v.if_refused
  pub here : u.here ≡ v.here

taken_by : (v : View) (host : HostId) (id : CallId) → is_delivery_to v host id ≡ true → TakenBack v (refused v host id)
taken_by v host id e = subst (λ b. TakenBack v (cond b (record v { now = v.if_refused }) v)) (sym e) (record { now = refl; refused = refl; here = refl })

pub gaps_back : (v : View) (host : HostId) (id : CallId) → is_delivery_to v host id ≡ true → TakenBack v (seen v (PlainGaps host id))
unfolding seen
gaps_back v host id e = let t = taken_by v host id e in record { now = t.now; refused = t.refused; here = t.here }

pub rows_back : (v : View) (host : HostId) (id : CallId) (n m : ℕ) → is_delivery_to v host id ≡ true → TakenBack v (seen v (PlainFullRows host id n m))
unfolding seen
rows_back v host id n m e = let t = taken_by v host id e in record { now = t.now; refused = t.refused; here = t.here }

pub pages_back : (v : View) (host : HostId) (id : CallId) (n m : ℕ) → is_delivery_to v host id ≡ true → TakenBack v (seen v (PlainFullPages host id n m))
unfolding seen
pages_back v host id n m e = let t = taken_by v host id e in record { now = t.now; refused = t.refused; here = t.here }

-- a run is one more of the block
run_progress : (v : View) (host : HostId) (id : CallId) (service : ℕ) (request response : List ℕ) (hold : ℕ)
    → ((seen v (PlainRun host id service request response hold)).now ≡ v.now)
    × ((seen v (PlainRun host id service request response hold)).if_refused ≡ v.if_refused)
    × ((seen v (PlainRun host id service request response hold)).here ≡ record v.here { runs = id ∷ v.here.runs })
unfolding seen
run_progress v host id service request response hold = (refl, refl, refl)

-- a part that wasn't whole and is so with the piece, or not
pub made_is : (id : CallId) (o : Option Part) (new : Part) (b : Bool) → option_map_or parts.is_whole o false ≡ false → parts.is_whole new ≡ b
    → made_whole id o new ≡ (if b then id ∷ [] else [])
made_is id o new b was is = ap (λ x. if not x && parts.is_whole new then id ∷ [] else []) was ∙ ap (λ x. if x then id ∷ [] else []) is

-- ---- the verdict

module _ (s : Settings) (w : World) (v : View) (host : HostId) (now : ℕ) (stands : host.0 < length w.hosts) (work : Work) (id : CallId) (did : Did ServerRow)
    (k : IsAmid s w v host now work) (own : AllOwn work.host.id id did.says) (d : ServerKeeps (times s) host (amid w v host work id host) did)
    (after : IsAmid s w v host now (served s id did work)) where
  -- the view, and that behind the move
  abbrev u : View
  u = said_so_far w v work

  abbrev lines : List PlainEntry
  lines = served_lines s w v host now stands work id did k own d after

  abbrev front : View
  front = before_served s w v host now stands work id did k own d after

  front_same : SameProgress u front
  front_same =
      front_progress s u (length w.packets + length (packets_in work.told)) (notes_told s did.opened (served_put s id did work))
      (reply_told s Server id work.host.id did.version (served_noted s id did work))
      (notes_progress s u (length w.packets + length (packets_in work.told)) did.opened (served_put s id did work))
      (λ x m. reply_progress s x m Server id work.host.id did.version (served_noted s id did work))

  -- what was so when the piece came: the part that the lines had of the request, and have with the piece
  pub record Comes (p : Sent) (c : Called) (admits refuses : Progress) (old : Option Part) (new : Part) : Type 0 where
    pub begins : Begins u admits refuses
    pub level : IsLevel u
    pub came : (admits.came ≡ Some p) × (p.id ≡ id) × (p.to ≡ host)
    pub due : (refuses.due ≡ no_ends) × (admits.due ≡ record no_ends { runs = made_whole id old new })
    pub before : tale refuses id ≡ record { live = get u.now.live id; request = old; response = get u.now.responses id }
    pub admitted : tale admits id ≡ record { live = get u.now.live id; request = Some new; response = get u.now.responses id }
    pub others : (q : CallId) → is_call id q ≡ false → tale refuses q ≡ tale u.now q
    pub itself : (n : HostId)
        → IsSame s u id n (amid w v host work id n) (record { live = get u.now.live id; request = old; response = get u.now.responses id })
    pub else_same : (q : CallId) (n : HostId) → is_call id q ≡ false → IsSame s u q n (amid w v host work q n) (tale u.now q)
    pub packets : AllByRecursion (IsTruthful u) (put w host work).packets
    pub called : (amid w v host work id host).called ≡ Some c
    pub server : c.server ≡ host
    pub unran : (amid w v host work id host).ran ≡ false
    pub missing : option_map_or parts.is_whole old false ≡ false
    pub peer : new.peer ≡ id.client

  module _ (p : Sent) (c : Called) (admits refuses : Progress) (old : Option Part) (new : Part) (z : Comes p c admits refuses old new) where
    once : Holds Once u lines
    once = served_once s w v host now stands work id did k own d after

    -- the call at another host
    elsewhere : (n : HostId) (t : Tale) → is_host host n ≡ false → t.live ≡ get u.now.live id → t.response ≡ get u.now.responses id
        → IsSame s (seen_all u lines) id n (amid w v host (served s id did work) id n) t
    elsewhere n t e live response =
        let x : Stand = amid w v host work id n in
        let o = z.itself n in
        let off : (is_call id id && is_host host n) ≡ false = ap (λ b. is_call id id && b) e ∙ and-false (is_call id id) in
        let gave = served_gave s w v host now stands work id did k own d after id n (ap (λ b. runs_said did.says && b) off ∙ and-false (runs_said did.says)) in
        subst (λ y. IsSame s (seen_all u lines) id n y t) (sym (served_other s w v host now stands work id did k own d after id n off)) (record {
          live = live ∙ o.live;
          request = λ c' called at. absurd
              (elsewhere_made host n x c' (record { service = d.change.made.service; request = d.change.made.request; called = d.change.made.called })
              called at e);
          unmade = λ f. absurd (none_some c (sym f ∙ z.called));
          response = subst (IsSameResponse s (seen_all u lines) id x.client) (sym response)
              (response_later s u lines id x.client (get u.now.responses id) once o.response);
          replies = subst (λ xs. Replies xs x.server) (sym gave) o.replies;
        })

    by_host : (n : HostId) (t : Tale) (b : Bool) → is_host host n ≡ b → t.live ≡ get u.now.live id → t.response ≡ get u.now.responses id
        → IsSame s (seen_all u lines) id host (amid w v host (served s id did work) id host) t
        → IsSame s (seen_all u lines) id n (amid w v host (served s id did work) id n) t
    by_host n t false e live response here = elsewhere n t e live response
    by_host n t true e live response here =
        subst (λ (x : HostId). IsSame s (seen_all u lines) id x (amid w v host (served s id did work) id x) t) ((hosts_are host n).0 e) here

    quiet_here : runs_said did.says ≡ false → amid w v host (served s id did work) id host ≡ with_server (amid w v host work id host)
        (state_of did.row) (amid w v host work id host).ran
    quiet_here quiet = served_here s w v host now stands work id did k own d after
        ∙ ap (λ b. with_server (amid w v host work id host) (state_of did.row) ((b && true) || (amid w v host work id host).ran)) quiet

    -- the view behind the move, where the verdict's line is this one
    split_at : (says : List Say) → did.says ≡ says
        → seen_all u lines ≡ seen_all front
        (entries_from
        (length w.packets + length (packets_in work.told) + length (packets_in (served_front s w v host now stands work id did k own d after)))
        (said s work.host Server id work.host.id says))
    split_at says e =
        served_split s w v host now stands work id did k own d after
        ∙ ap (λ (x : List Say). seen_all front
        (entries_from
        (length w.packets + length (packets_in work.told) + length (packets_in (served_front s w v host now stands work id did k own d after)))
        (said s work.host Server id work.host.id x))) e

    plain_says : (says : List Say) → did.says ≡ says
        → AllByRecursion (λ (x : Packet). IsCalmBody x.body) (packets_in (said s work.host Server id work.host.id says))
        → AllByRecursion (IsTruthful (seen_all u lines)) (stamped w.clock (packets_in (served_told s id did work)))
    plain_says says e plain =
        served_fits s w v host now stands work id did k own d after
        (subst (λ (x : List Say). AllByRecursion (λ (y : Packet). IsCalmBody y.body) (packets_in (said s work.host Server id work.host.id x))) (sym e) plain)

    -- it is refused
    taken_back : (line : PlainEntry) → did.says ≡ Tells line ∷ [] → runs_said (Tells line ∷ []) ≡ false → TakenBack front (seen front line)
        → StaysPending (amid w v host work id host).server did
        → IsTrue s (put w host (served s id did work)) (said_so_far w v (served s id did work))
    taken_back line says quiet back stays =
        let is : seen_all u lines ≡ seen front line = split_at (Tells line ∷ []) says in
        let progress : (seen_all u lines).now ≡ refuses = ap (λ (x : View). x.now) is ∙ back.now ∙ front_same.refused ∙ z.begins.refused in
        let refusal : (seen_all u lines).if_refused ≡ refuses = ap (λ (x : View). x.if_refused) is ∙ back.refused ∙ front_same.refused ∙ z.begins.refused in
        let here_is : (seen_all u lines).here ≡ no_ends = ap (λ (x : View). x.here) is ∙ back.here ∙ front_same.here ∙ z.begins.here in
        let due_is : (seen_all u lines).now.due ≡ no_ends = ap (λ (m : Progress). m.due) progress ∙ z.due.0 in
        let t0 : Tale = record { live = get u.now.live id; request = old; response = get u.now.responses id } in
        let told : tale (seen_all u lines).now id ≡ t0 = ap (λ (m : Progress). tale m id) progress ∙ z.before in
        let silent : runs_said did.says ≡ false = ap runs_said says ∙ quiet in
        let x : Stand = amid w v host work id host in
        let o = z.itself host in
        let here : IsSame s (seen_all u lines) id host (amid w v host (served s id did work) id host) t0 =
        subst (λ y. IsSame s (seen_all u lines) id host y t0) (sym (quiet_here silent)) (record {
          live = o.live;
          request = λ c' called at. subst (λ r. IsSameRequest s id.client c' x.ran r old) (sym stays.part) (o.request c' called at);
          unmade = o.unmade;
          response = response_later s u lines id x.client (get u.now.responses id) once o.response;
          replies = stays.replies (replies (seen_all u lines) host id);
        }) in
        served_true s w v host now stands work id did k own d after z.packets z.else_same (λ q e. ap (λ (m : Progress). tale m q) progress ∙ z.others q e)
        (λ n. subst (IsSame s (seen_all u lines) id n (amid w v host (served s id did work) id n)) (sym told)
        (by_host n t0 (is_host host n) refl refl refl here))
        (plain_says (Tells line ∷ []) says tt)
        (subst (λ (m : Progress). AreLevel m (seen_all u lines).now) (sym refusal) (subst (AreLevel refuses) (sym progress) (level_itself refuses)))
        (record {
          runs = ap (λ (y : Ends). y.runs) here_is ∙ ap (λ (y : Ends). y.runs) (sym due_is);
          dones = ap (λ (y : Ends). y.dones) here_is ∙ ap (λ (y : Ends). y.dones) (sym due_is);
          forgotten = ap (λ (y : Ends). y.forgotten) here_is ∙ ap (λ (y : Ends). y.forgotten) (sym due_is);
        })

    delivered_here : is_delivery_to front work.host.id id ≡ true
    delivered_here =
        comes_to front p work.host.id id (ap (λ (m : Progress). m.came) (front_same.now ∙ z.begins.now) ∙ z.came.0) z.came.1 (z.came.2 ∙ sym k.name)

    -- it is taken, or makes the request whole
    pub request_comes : (service : ℕ) (answer : Answer) → service ≡ c.service
        → RequestTaken s work.host.id id service c.request answer did (amid w v host work id host).server new
        → IsTrue s (put w host (served s id did work)) (said_so_far w v (served s id did work))
    request_comes service answer of_service (Gapped says stays) =
        taken_back (PlainGaps work.host.id id) says refl (gaps_back front work.host.id id delivered_here) stays
    request_comes service answer of_service (Unheld n m says stays) =
        taken_back (PlainFullRows work.host.id id n m) says refl (rows_back front work.host.id id n m delivered_here) stays
    request_comes service answer of_service (Unpaged n m says stays) =
        taken_back (PlainFullPages work.host.id id n m) says refl (pages_back front work.host.id id n m delivered_here) stays
    request_comes service answer of_service (Taken says part base count state same) =
        let is : seen_all u lines ≡ front = split_at [] says in
        let progress : (seen_all u lines).now ≡ admits = ap (λ (x : View). x.now) is ∙ front_same.now ∙ z.begins.now in
        let here_is : (seen_all u lines).here ≡ no_ends = ap (λ (x : View). x.here) is ∙ front_same.here ∙ z.begins.here in
        let due_is : (seen_all u lines).now.due ≡ no_ends = ap (λ (m : Progress). m.due) progress ∙ z.due.1
        ∙ ap (λ xs. let e : Ends = record no_ends { runs = xs } in e) (made_is id old new false z.missing same.missing) in
        let t1 : Tale = record { live = get u.now.live id; request = Some new; response = get u.now.responses id } in
        let told : tale (seen_all u lines).now id ≡ t1 = ap (λ (m : Progress). tale m id) progress ∙ z.admitted in
        let silent : runs_said did.says ≡ false = ap runs_said says in
        let x : Stand = amid w v host work id host in
        let o = z.itself host in
        let here : IsSame s (seen_all u lines) id host (amid w v host (served s id did work) id host) t1 =
        subst (λ y. IsSame s (seen_all u lines) id host y t1) (sym (quiet_here silent)) (record {
          live = o.live;
          request = λ c' called at.
              let is_c : c ≡ c' = some_is c c' (sym z.called ∙ called) in
              subst (λ (y : Called). IsSameRequest s id.client y x.ran (receiving (state_of did.row)) (Some new)) is_c
              (subst (λ r. IsSameRequest s id.client c x.ran (receiving r) (Some new)) (sym state)
              (of_service, subst (λ (h : HostId). IsSamePart s h c.request part new) (k.name ∙ sym z.server) same, z.peer));
          unmade = λ f. absurd (none_some c (sym f ∙ z.called));
          response = response_later s u lines id x.client (get u.now.responses id) once o.response;
          replies = subst (Replies (replies (seen_all u lines) host id)) (sym state) tt;
        }) in
        let before = served_before s w v host now stands work id did k own d after z.level in
        served_true s w v host now stands work id did k own d after z.packets z.else_same (λ q e. ap (λ (y : View). tale y.now q) is ∙ before.tales q)
        (λ n. subst (IsSame s (seen_all u lines) id n (amid w v host (served s id did work) id n)) (sym told)
        (by_host n t1 (is_host host n) refl refl refl here))
        (plain_says [] says tt) (subst IsLevel (sym is) before.level)
        (record {
          runs = ap (λ (y : Ends). y.runs) here_is ∙ ap (λ (y : Ends). y.runs) (sym due_is);
          dones = ap (λ (y : Ends). y.dones) here_is ∙ ap (λ (y : Ends). y.dones) (sym due_is);
          forgotten = ap (λ (y : Ends). y.forgotten) here_is ∙ ap (λ (y : Ends). y.forgotten) (sym due_is);
        })
    request_comes service answer of_service (Ran says none held whole) =
        let line : PlainEntry = PlainRun work.host.id id service c.request answer.bytes answer.hold in
        let is : seen_all u lines ≡ seen front line = split_at (Tells line ∷ []) says in
        let run = run_progress front work.host.id id service c.request answer.bytes answer.hold in
        let progress : (seen_all u lines).now ≡ admits = ap (λ (y : View). y.now) is ∙ run.0 ∙ front_same.now ∙ z.begins.now in
        let here_is : (seen_all u lines).here ≡ record no_ends { runs = id ∷ [] } =
        ap (λ (y : View). y.here) is ∙ run.2 ∙ ap (λ (e : Ends). let f : Ends = record e { runs = id ∷ e.runs } in f) (front_same.here ∙ z.begins.here) in
        let due_is : (seen_all u lines).now.due ≡ record no_ends { runs = id ∷ [] } =
        ap (λ (m : Progress). m.due) progress ∙ z.due.1 ∙ ap (λ xs. let e : Ends = record no_ends { runs = xs } in e)
        (made_is id old new true z.missing whole) in
        let t1 : Tale = record { live = get u.now.live id; request = Some new; response = get u.now.responses id } in
        let told : tale (seen_all u lines).now id ≡ t1 = ap (λ (m : Progress). tale m id) progress ∙ z.admitted in
        let x : Stand = amid w v host work id host in
        let o = z.itself host in
        let ran : amid w v host (served s id did work) id host ≡ with_server x (state_of did.row) true =
        served_here s w v host now stands work id did k own d after ∙ ap (λ b. with_server x (state_of did.row) ((b && true) || x.ran)) (ap runs_said says) in
        let before = served_before s w v host now stands work id did k own d after z.level in
        let none_yet : replies front host id ≡ [] =
        front_gave ∙ ap (map (λ (r : RanLine). r.response))
        (none_pass (λ (r : RanLine). is_call r.id id && is_host r.host host && r.life == life u host) u.runs z.unran) in
        let gave : replies (seen_all u lines) host id ≡ answer.bytes ∷ [] =
        ap (λ (y : View). replies y host id) is
        ∙ ap (λ (h : HostId). replies (seen front (PlainRun h id service c.request answer.bytes answer.hold)) host id) k.name
        ∙ own_replies front host id service c.request answer.bytes answer.hold none_yet in
        let here : IsSame s (seen_all u lines) id host (amid w v host (served s id did work) id host) t1 =
        subst (λ y. IsSame s (seen_all u lines) id host y t1) (sym ran) (record {
          live = o.live;
          request =
              λ c' called at. subst (λ r. IsSameRequest s id.client c' true r (Some new)) (sym none) ((λ e. absurd (true_false e)), whole_no_message new whole);
          unmade = λ f. absurd (none_some c (sym f ∙ z.called));
          response = response_later s u lines id x.client (get u.now.responses id) once o.response;
          replies = subst (λ xs. Replies xs (state_of did.row)) (sym gave) held;
        }) in
        served_true s w v host now stands work id did k own d after z.packets z.else_same
        (λ q e. ap (λ (y : View). tale y.now q) is ∙ ap (λ (m : Progress). tale m q) run.0 ∙ before.tales q)
        (λ n. subst (IsSame s (seen_all u lines) id n (amid w v host (served s id did work) id n)) (sym told)
        (by_host n t1 (is_host host n) refl refl refl here))
        (plain_says (Tells line ∷ []) says tt)
        (subst (λ (m : Progress). AreLevel m (seen_all u lines).now) (sym (ap (λ (y : View). y.if_refused) is ∙ run.1))
        (subst (AreLevel front.if_refused) (sym (ap (λ (y : View). y.now) is ∙ run.0)) before.level))
        (record {
          runs = ap (λ (y : Ends). y.runs) here_is ∙ ap (λ (y : Ends). y.runs) (sym due_is);
          dones = ap (λ (y : Ends). y.dones) here_is ∙ ap (λ (y : Ends). y.dones) (sym due_is);
          forgotten = ap (λ (y : Ends). y.forgotten) here_is ∙ ap (λ (y : Ends). y.forgotten) (sym due_is);
        }) where
          true_false : true ≡ false → ⊥
          true_false e = cc

          whole_no_message : (q : Part) → parts.is_whole q ≡ true → is_message q ≡ false
          whole_no_message q e = ap (λ b. nat_lt 0 (len q.arrived) && not b) e ∙ and-false (nat_lt 0 (len q.arrived))

          front_gave : replies front host id ≡ replies u host id
          front_gave =
              let f : List Told = served_front s w v host now stands work id did k own d after in
              told_replies u (length w.packets + length (packets_in work.told)) f host id
              (inner-append (notes_told s did.opened (served_put s id did work))
              (reply_told s Server id work.host.id did.version (served_noted s id did work))
              (unstale_inner (notes_told s did.opened (served_put s id did work)) (calm_notes s did.opened (served_put s id did work)).unstale)
              (unstale_inner (reply_told s Server id work.host.id did.version (served_noted s id did work))
              (calm_reply s Server id work.host.id did.version (served_noted s id did work)).unstale))
              (runs-append host id (notes_told s did.opened (served_put s id did work))
              (reply_told s Server id work.host.id did.version (served_noted s id did work))
              ∙ ap (λ b. b || runs_told host id (reply_told s Server id work.host.id did.version (served_noted s id did work)))
              (notes-runs s host id did.opened (served_put s id did work))
              ∙ reply-runs s host id Server id work.host.id did.version (served_noted s id did work))
