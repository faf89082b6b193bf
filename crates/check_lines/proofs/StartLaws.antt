-- A call that starts, and a call that runs.
use Rattle.std.proofs.Common.{◌≡◌, ℕ, suc, ◌≤◌, min, arith, Bool, true, false, cond, not, ◌&&◌, ◌||◌, Option, Some, None, List, [], ◌∷◌, ◌++◌, length}
use Rattle.std.proofs.Common.{map, refl, sym, ap, ◌∙◌, subst}
use Rattle.std.specs.Prelude.{if◌then◌else◌, is_some, nat_le, slice_set}
use Rattle.std.specs.Option.{option_map, option_map_or}
use Rattle.std.specs.List.{list_any, AllByRecursion}
use Rattle.std.proofs.lemmas.Bool.Decides.{nat_tests}
use Rattle.plain_sets.specs.Maps.{get, insert, contains_key}
use Rattle.plain_sets.proofs.MapLaws.{get-insert}
use Rattle.homa_plain.specs.declared.id.CallId.{CallId}
use Rattle.homa_plain.specs.declared.id.HostId.{HostId}
use Rattle.homa_plain.specs.Calls.{is_host, is_call}
use Rattle.homa_plain.specs.Entries.{PlainCall}
use Rattle.trace_rules.specs.Judge.{is_new_call}
use Rattle.trace_rules.specs.View.{Called, View, Sent, Ran, life, sent_last, has_last, is_server_of}
use Rattle.trace_rules.specs.Seen.{seen, begun}
use Rattle.homa_plain.specs.Wire.{is_between}
use Rattle.homa_plain.proofs.CallOrder.{call_total, calls_are, hosts_are}
use Rattle.check_call.specs.LeftOut.{runs_of}
use Rattle.check_call.specs.Spots.{Spot, spot, only, started_spot}
use Rattle.check_call.proofs.Each.{each_started}
use Rattle.check_call.proofs.Lean.{none_sent}
use Rattle.check_call.specs.declared.call.Call.{Call}
use Rattle.check_call.specs.declared.call.Run.{Run}
use Rattle.check_call.specs.declared.call.Lives.{Lives}
use Rattle.check_call.specs.declared.spot.Spot.{Spot as KeptSpot}
use Rattle.check_call.specs.Kept.{StandsFor, no_spot}
use Rattle.check_call.specs.Calls.{spot_in, beside, called_of}
use Rattle.check_lines.specs.declared.trace.Trace.{Trace}
use Rattle.check_lines.specs.Traces.{Keeps, IsCallAt, IsKept, IsAbsent, is_incoming_at, call_in, IsPlace, call_at, lives_in, life_in, run_of, kept_or}
use Rattle.check_lines.specs.Changes.{SameSets}
use Rattle.check_lines.proofs.Places.{call_added, call_replaced}
use Rattle.check_lines.proofs.KeepLaws.{found_call, life_now, lives_now, spot_kept}
use Rattle.check_lines.proofs.Hosts.{call_turned}
use Rattle.std.proofs.Math.ListN.{length-set}
use Rattle.std_alloc.specs.Vec.{with_item}

-- ---- a new call

both : (a b : Bool) → (a && b) ≡ true → (a ≡ true) × (b ≡ true)
both true b h = (refl, h)
both false b h = absurd cc

denied : (b : Bool) → not b ≡ true → b ≡ false
denied true e = absurd cc
denied false e = refl

pub record IsNew (v : View) (id : CallId) (request : List ℕ) : Type 0 where
  pub absent : contains_key v.calls id ≡ false
  pub short : length request ≤ 1000000

pub new_call : (v : View) (id : CallId) (server : HostId) (request : List ℕ) → is_new_call v id server request ≡ true → IsNew v id request
new_call v id server request e =
    let a = both _ _ e in
    let b = both _ _ a.0 in
    let c = both _ _ b.0 in
    let d = both (not (contains_key v.calls id)) (is_between 1 1000000 (length request)) c.0 in
    let h = both (nat_le 1 (length request)) (nat_le (length request) 1000000) d.1 in
    record { absent = denied (contains_key v.calls id) d.0; short = grind (arith, nat_tests, h) }

none_by : (o : Option Called) → is_some o ≡ false → o ≡ None
none_by None e = refl
none_by (Some c) e = absurd cc

not_kept : (v : View) (t : Trace) (id : CallId) → Keeps v t → contains_key v.calls id ≡ false → (o : Option Call) → call_at t id ≡ o → o ≡ None
not_kept v t id keeps h None e = refl
not_kept v t id keeps h (Some c) e = let k = found_call v t id c keeps e in let none : get v.calls id ≡ None =
    none_by (get v.calls id) h in absurd (let both : Some (called_of c) ≡ None = sym k.called ∙ none in cc)

among_rest : (b rest : Bool) (c : Call) (o : Option Call) → cond b (Some c) o ≡ None → (o ≡ None → rest ≡ false) → (b || rest) ≡ false
among_rest true rest c o h more = absurd cc
among_rest false rest c o h more = more h

pub absent_call : (v : View) (t : Trace) (id : CallId) (request : List ℕ) → Keeps v t → IsNew v id request → call_at t id ≡ None
absent_call v t id request keeps new = not_kept v t id keeps new.absent (call_at t id) refl

-- its id is none of those that are kept
pub not_among : (test : CallId → Bool) (ks : List CallId) (cs : List Call) (id : CallId) → ((k : CallId) → test k ≡ is_call id k)
    → length ks ≡ length cs → call_in ks cs id ≡ None → list_any test ks ≡ false
not_among test [] cs id same l e = refl
not_among test (k ∷ ks) [] id same l e = absurd (omega (arith, l))
not_among test (k ∷ ks) (c ∷ cs) id same l e = ap (λ b. b || list_any test ks) (same k) ∙ among_rest (is_call id k) (list_any test ks) c
    (call_in ks cs id) e (not_among test ks cs id same (omega (arith, l)))

parts_still : (b : Bool) (s : Spot) → (cond b (started_spot s) s).request ≡ s.request
parts_still true s = refl
parts_still false s = refl

answers_still : (b : Bool) (s : Spot) → (cond b (started_spot s) s).response ≡ s.response
answers_still true s = refl
answers_still false s = refl

-- what is known of a call that starts
pub record IsStarted (t : Trace) (id : CallId) (server : HostId) (service : ℕ) (request : List ℕ) (d : Call) : Type 0 where
  pub server_is : d.server ≡ server
  pub service_is : d.service ≡ service
  pub request_is : d.request.items ≡ request
  pub size : d.size ≡ min (length request) 4294967295
  pub sent : d.sent_last ≡ false
  pub runs : d.runs.items ≡ []
  pub lives : d.lives ≡ lives_in t id server
  pub spot_is : d.spot
      ≡ record { live = Some 0; request = None; response = None; resends = record { count = 0; latest = record { tick = 0; lead = 0 }; are_spaced = true } }

module _ (v : View) (t : Trace) (id : CallId) (server : HostId) (service : ℕ) (request : List ℕ) (keeps : Keeps v t) (new : IsNew v id request) where
  abbrev called : Called
  called = record { server = server; service = service; request = request }

  got : (q : CallId) → get (insert v.calls id called) q ≡ cond (is_call q id) (Some called) (get v.calls q)
  got q = get-insert call_total v.calls id called q

  spots_are : (q : CallId) → spot (seen v (PlainCall id server service request)).now q ≡ only id started_spot q (spot v.now q)
  unfolding seen
  spots_are q = (each_started id).spots (begun v).now q

  tied : is_call id id ≡ true
  tied = (calls_are id id).1 refl

  absent_id : IsAbsent v id
  absent_id = subst (IsCallAt v id) (not_kept v t id keeps new.absent (call_at t id) refl) (keeps.calls id)

  spot_id : spot (seen v (PlainCall id server service request)).now id ≡ started_spot no_spot
  spot_id = spots_are id ∙ (ap (λ b. cond b (started_spot (spot v.now id)) (spot v.now id)) tied ∙ ap started_spot absent_id.now)

  -- the spot that is kept, in whatever lives
  stands : (c : Call) (l : Lives) → c.lives ≡ l
      → c.spot ≡ record {
        live = Some 0;
        request = None;
        response = None;
        resends = record { count = 0; latest = record { tick = 0; lead = 0 }; are_spaced = true };
      }
      → StandsFor (beside id.client v.settings.resend c) (spot_in c l) (started_spot no_spot)
  stands c l e s = subst (λ (k : KeptSpot). StandsFor (beside id.client v.settings.resend c) k (started_spot no_spot))
      (sym (spot_kept c c.lives l c.spot e ∙ s))
      (record { live = refl; request = refl; response = refl; request_count = tt; response_count = tt; resends = (refl, refl) })

  here : (d : Call) → IsStarted t id server service request d → IsKept (seen v (PlainCall id server service request)) id d
  unfolding seen
  here d is = record {
    called = got id
        ∙ (ap (λ b. cond b (Some called) (get v.calls id)) tied
        ∙ (λ i. Some (record { server = sym is.server_is i; service = sym is.service_is i; request = sym is.request_is i })));
    size = omega (arith, is.size, new.short, ap length is.request_is);
    sent = is.sent ∙ sym
        ((λ i. option_map_or (λ c. list_any (λ p. has_last id (length c.request) p p.body) v.packets)
        ((got id ∙ ap (λ b. cond b (Some called) (get v.calls id)) tied) i) false) ∙ none_sent id (length request) v new.absent keeps.made);
    runs = absent_id.runs ∙ ap (map (run_of id d.server d.request.items)) (sym is.runs);
    client_life = omega (arith, ap (λ l. l.client) is.lives, life_now v t id.client keeps);
    server_life = omega (arith, ap (λ l. l.server) is.lives, life_now v t server keeps, ap (life v) is.server_is);
    now = subst (StandsFor (beside id.client v.settings.resend d) (spot_in d (record { client = life v id.client; server = life v d.server }))) (sym spot_id)
        (stands d (record { client = life v id.client; server = life v d.server })
        (is.lives ∙ (sym (lives_now v t id server keeps) ∙ (λ i. record { client = life v id.client; server = life v (sym is.server_is i) }))) is.spot_is);
  }

  there : (q : CallId) (o : Option Call) → is_call q id ≡ false → IsCallAt v q o → IsCallAt (seen v (PlainCall id server service request)) q o
  unfolding seen
  there q None e k = record {
    called = got q ∙ (ap (λ b. cond b (Some called) (get v.calls q)) e ∙ k.called);
    runs = k.runs;
    now = spots_are q ∙ (ap (λ b. cond b (started_spot (spot v.now q)) (spot v.now q)) e ∙ k.now);
  }
  there q (Some c) e k = record {
    called = got q ∙ (ap (λ b. cond b (Some called) (get v.calls q)) e ∙ k.called);
    size = k.size;
    sent = k.sent ∙ (λ i. option_map_or (λ c. list_any (λ p. has_last q (length c.request) p p.body) v.packets)
        (sym (got q ∙ ap (λ b. cond b (Some called) (get v.calls q)) e) i) false);
    runs = k.runs;
    client_life = k.client_life;
    server_life = k.server_life;
    now = subst (StandsFor (beside q.client v.settings.resend c) (spot_in c (record { client = life v q.client; server = life v c.server })))
        (sym (spots_are q ∙ ap (λ b. cond b (started_spot (spot v.now q)) (spot v.now q)) e)) k.now;
  }

  made_still : (ps : List Sent) → AllByRecursion (λ p. contains_key v.calls p.id ≡ true) ps
      → AllByRecursion (λ p. contains_key (insert v.calls id called) p.id ≡ true) ps
  made_still [] all = tt
  made_still (p ∷ ps) all = (ap is_some (got p.id) ∙ by_test (is_call p.id id) all.0, made_still ps all.1) where
    by_test : (b : Bool) → contains_key v.calls p.id ≡ true → is_some (cond b (Some called) (get v.calls p.id)) ≡ true
    by_test true h = refl
    by_test false h = h

  pub start_keeps : (u : Trace) (d : Call) → IsStarted t id server service request d → u ≡ record t { ids = u.ids; calls = u.calls }
      → u.ids.keys ≡ t.ids.keys ++ id ∷ [] → u.calls.items ≡ t.calls.items ++ d ∷ [] → Keeps (seen v (PlainCall id server service request)) u
  unfolding seen
  start_keeps u d is e ids calls = subst (Keeps (seen v (PlainCall id server service request))) (sym e) (record {
    settings = keeps.settings;
    wire = keeps.wire;
    tick = keeps.tick;
    hosts = λ h. record { lead = (keeps.hosts h).lead; first = (keeps.hosts h).first; restarts = (keeps.hosts h).restarts };
    listed = λ h. record {
      asked = λ q. (keeps.listed h).asked q ∙ ap (is_incoming_at h) (sym (ap (λ s. s.request) (spots_are q) ∙ parts_still (is_call q id) (spot v.now q)));
      awaited =
          λ q. (keeps.listed h).awaited q ∙ ap (is_incoming_at h) (sym (ap (λ s. s.response) (spots_are q) ∙ answers_still (is_call q id) (spot v.now q)));
    };
    aligned = ap length ids ∙ (more t.ids.keys t.calls.items keeps.aligned ∙ sym (ap length calls));
    calls = λ q. subst (IsCallAt (seen v (PlainCall id server service request)) q)
        (sym ((λ i. call_in (ids i) (calls i) q) ∙ call_added t.ids.keys t.calls.items id d q keeps.aligned
        (not_kept v t id keeps new.absent (call_at t id) refl))) (by_test q (is_call id q) refl);
    packets = keeps.packets;
    made = made_still v.packets keeps.made;
  })
    where
      more : (ks : List CallId) (cs : List Call) → length ks ≡ length cs → length (ks ++ id ∷ []) ≡ length (cs ++ d ∷ [])
      more [] [] l = refl
      more [] (c ∷ cs) l = absurd (omega (arith, l))
      more (k ∷ ks) [] l = absurd (omega (arith, l))
      more (k ∷ ks) (c ∷ cs) l = ap suc (more ks cs (omega (arith, l)))

      by_test : (q : CallId) (b : Bool) → is_call id q ≡ b → IsCallAt (seen v (PlainCall id server service request)) q (if b then Some d else call_at t q)
      by_test q true s = subst (λ (x : CallId). IsKept (seen v (PlainCall id server service request)) x d) ((calls_are id q).0 s) (here d is)
      by_test q false s = there q (call_at t q) (call_turned q id ∙ s) (keeps.calls q)

-- ---- a run

module _ (v : View) (t : Trace) (id : CallId) (host : HostId) (response : List ℕ) (keeps : Keeps v t) where
  abbrev ran : Ran
  ran = record { host = host; life = life v host; id = id; response = response }

  abbrev with_run : View
  with_run = record v { runs = ran ∷ v.runs }

  run_there : (q : CallId) (o : Option Call) → is_call id q ≡ false → IsCallAt v q o → IsCallAt with_run q o
  run_there q None e k = record { called = k.called; runs = ap (λ b. cond b (ran ∷ runs_of v q) (runs_of v q)) e ∙ k.runs; now = k.now }
  run_there q (Some c) e k = record {
    called = k.called;
    size = k.size;
    sent = k.sent;
    runs = ap (λ b. cond b (ran ∷ runs_of v q) (runs_of v q)) e ∙ k.runs;
    client_life = k.client_life;
    server_life = k.server_life;
    now = k.now;
  }

  pub run_here : (c d : Call) (r : Run) → call_at t id ≡ Some c → is_server_of v id host ≡ true → r.life ≡ life_in t host
      → kept_or c.request.items r.response ≡ response → d ≡ record c { runs = d.runs } → d.runs.items ≡ r ∷ c.runs.items → IsKept with_run id d
  run_here c d r here server l s e runs =
      let k = found_call v t id c keeps here in
      let is : c.server ≡ host =
      (hosts_are c.server host).0 (sym (ap (λ (o : Option Called). option_map_or (λ x. is_host x.server host) o false) k.called) ∙ server) in
      let said : kept_or d.request.items r.response ≡ response = ap (λ (x : Call). kept_or x.request.items r.response) e ∙ s in
      let same : ran ≡ run_of id d.server d.request.items r =
      λ i. record { host = sym (ap (λ x. x.server) e ∙ is) i; life = sym (l ∙ life_now v t host keeps) i; id = id; response = sym said i } in
      record {
        called = k.called ∙ ap (λ x. Some (called_of x)) (sym e);
        size = subst (λ (x : Call). x.size ≡ length x.request.items) (sym e) k.size;
        sent = subst (λ (x : Call). x.sent_last ≡ sent_last v id) (sym e) k.sent;
        runs = ap (λ b. cond b (ran ∷ runs_of v id) (runs_of v id)) ((calls_are id id).1 refl)
            ∙ ((λ i. same i ∷ (k.runs ∙ ap (λ (x : Call). map (run_of id x.server x.request.items) c.runs.items) (sym e)) i)
            ∙ ap (map (run_of id d.server d.request.items)) (sym runs));
        client_life = subst (λ (x : Call). x.lives.client ≤ life v id.client) (sym e) k.client_life;
        server_life = subst (λ (x : Call). x.lives.server ≤ life v x.server) (sym e) k.server_life;
        now = subst (λ (x : Call). StandsFor (beside id.client v.settings.resend x)
            (spot_in x (record { client = life v id.client; server = life v x.server })) (spot v.now id)) (sym e) k.now;
      }

  pub run_keeps : (u : Trace) (at : ℕ) (d : Call) → IsPlace t id at → IsKept with_run id d → u ≡ record t { calls = u.calls }
      → u.calls.items ≡ slice_set t.calls.items at d → Keeps with_run u
  run_keeps u at d place kept e items = subst (Keeps with_run) (sym e) (record {
    settings = keeps.settings;
    wire = keeps.wire;
    tick = keeps.tick;
    hosts = λ h. record { lead = (keeps.hosts h).lead; first = (keeps.hosts h).first; restarts = (keeps.hosts h).restarts };
    listed = λ h. record { asked = (keeps.listed h).asked; awaited = (keeps.listed h).awaited };
    aligned = keeps.aligned ∙ sym (ap length items ∙ length-set t.calls.items at d);
    calls = λ q. subst (IsCallAt with_run q) (sym (ap (λ cs. call_in t.ids.keys cs q) items ∙ call_replaced t.ids.keys t.calls.items id at d q place))
        (by_test q (is_call id q) refl);
    packets = keeps.packets;
    made = keeps.made;
  })
    where
      by_test : (q : CallId) (b : Bool) → is_call id q ≡ b → IsCallAt with_run q (if b then Some d else call_at t q)
      by_test q true s = subst (λ (x : CallId). IsKept with_run x d) ((calls_are id q).0 s) kept
      by_test q false s = run_there q (call_at t q) s (keeps.calls q)

-- a call that wasn't made ran nowhere
pub no_server : (v : View) (t : Trace) (id : CallId) (host : HostId) → Keeps v t → call_at t id ≡ None → is_server_of v id host ≡ true → ⊥
no_server v t id host keeps here server =
    let a : IsAbsent v id = subst (IsCallAt v id) here (keeps.calls id) in
    let none : is_server_of v id host ≡ false = ap (λ (o : Option Called). option_map_or (λ x. is_host x.server host) o false) a.called in
    let both : true ≡ false = sym server ∙ none in cc

-- what is kept, with another call in the place of one
abbrev pub set_call : Trace → ℕ → Call → Trace
set_call t at d = record t { calls = with_item t.calls at d }

-- the sets beside a call's parts stay
pub run_sets : (t u : Trace) (id : CallId) (at : ℕ) (c d : Call) → IsPlace t id at → call_at t id ≡ Some c
    → ((client : HostId) (gap : ℕ) → beside client gap d ≡ beside client gap c) → u.settings ≡ t.settings → u.ids.keys ≡ t.ids.keys
    → u.calls.items ≡ slice_set t.calls.items at d → SameSets t u
run_sets t u id at c d place here same settings ids calls q =
    (λ i. option_map (beside q.client (settings i).resend) (call_in (ids i) (calls i) q))
    ∙ (ap (option_map (beside q.client t.settings.resend)) (call_replaced t.ids.keys t.calls.items id at d q place) ∙ by_test (is_call id q) refl)
  where
    by_test : (b : Bool) → is_call id q ≡ b → option_map (beside q.client t.settings.resend) (if b then Some d else call_at t q) ≡ option_map
        (beside q.client t.settings.resend) (call_at t q)
    by_test true e = ap (λ b. Some b) (same q.client t.settings.resend) ∙ ap (option_map (beside q.client t.settings.resend))
        (sym here ∙ ap (call_at t) ((calls_are id q).0 e))
    by_test false e = refl
