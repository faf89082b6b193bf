-- What is kept, where the spot of one call is changed.
use Rattle.std.proofs.Common.{◌≡◌, ℕ, arith, Bool, true, false, cond, ◌&&◌, Option, Some, None, length, refl, sym, ap, ◌∙◌, subst}
use Rattle.std.specs.Prelude.{◌==◌, if◌then◌else◌}
use Rattle.std.specs.Option.{option_map}
use Rattle.std.proofs.lemmas.Bool.{eq-eqb}
use Rattle.plain_sets.specs.Numbers.{Numbers}
use Rattle.homa_plain.specs.declared.id.CallId.{CallId}
use Rattle.homa_plain.specs.declared.id.HostId.{HostId}
use Rattle.homa_plain.specs.Calls.{is_host, is_call}
use Rattle.homa_plain.proofs.CallOrder.{calls_are, hosts_are}
use Rattle.trace_rules.specs.Parts.{Part}
use Rattle.trace_rules.specs.View.{View, life}
use Rattle.check_call.specs.Spots as spots
use Rattle.check_call.specs.Spots.{spot}
use Rattle.check_call.specs.declared.part.Part.{Part as KeptPart}
use Rattle.check_call.specs.declared.spot.Spot.{Spot}
use Rattle.check_call.specs.declared.call.Call.{Call}
use Rattle.check_call.specs.declared.call.Lives.{Lives}
use Rattle.check_call.specs.Kept.{StandsFor, part_of, is_incoming, no_spot}
use Rattle.check_call.specs.Calls.{spot_in, beside}
use Rattle.check_lines.specs.declared.trace.Trace.{Trace}
use Rattle.check_lines.specs.Traces.{Keeps, IsCallAt, IsKept, IsAbsent, call_at, host_at, lives_in, life_in, asked_of, awaited_of, is_incoming_at}
use Rattle.check_lines.specs.Changes.{SameHosts, SameRest, SameLines, SameSets, Changes, Notes, call_or, noted}
use Rattle.check_lines.proofs.Places.{same_tests}

-- ---- lines that say the same

-- what one view says, but deliveries and the block of another
abbrev pub with_lines_of : View → View → View
with_lines_of v w =
    record w {
      settings = v.settings;
      tick = v.tick;
      leads = v.leads;
      firsts = v.firsts;
      restarts = v.restarts;
      calls = v.calls;
      packets = v.packets;
      runs = v.runs;
    }

pub same_lines : (v w : View) → SameLines v w → with_lines_of v w ≡ w
same_lines v w s = λ i. record w {
  settings = sym s.settings i;
  tick = sym s.tick i;
  leads = sym s.leads i;
  firsts = sym s.firsts i;
  restarts = sym s.restarts i;
  calls = sym s.calls i;
  packets = sym s.packets i;
  runs = sym s.runs i;
}

-- a call whose spot is the same
pub call_still : (v w : View) (q : CallId) (o : Option Call) → spot w.now q ≡ spot v.now q → IsCallAt v q o → IsCallAt (with_lines_of v w) q o
call_still v w q None e k = record { called = k.called; runs = k.runs; now = e ∙ k.now }
call_still v w q (Some c) e k = record {
  called = k.called;
  size = k.size;
  sent = k.sent;
  runs = k.runs;
  client_life = k.client_life;
  server_life = k.server_life;
  now = subst (StandsFor (beside q.client v.settings.resend c) (spot_in c (record { client = life v q.client; server = life v c.server }))) (sym e) k.now;
}

-- ---- one call

pub found_call : (v : View) (t : Trace) (q : CallId) (c : Call) → Keeps v t → call_at t q ≡ Some c → IsKept v q c
found_call v t q c k e = subst (IsCallAt v q) e (k.calls q)

pub absent_now : (v : View) (t : Trace) (q : CallId) → Keeps v t → call_at t q ≡ None → spot v.now q ≡ no_spot
absent_now v t q k e = let a : IsAbsent v q = subst (IsCallAt v q) e (k.calls q) in a.now

pub life_now : (v : View) (t : Trace) (h : HostId) → Keeps v t → life_in t h ≡ life v h
life_now v t h k = sym (ap length ((k.hosts h).restarts))

pub lives_now : (v : View) (t : Trace) (q : CallId) (server : HostId) → Keeps v t
    → record { client = life v q.client; server = life v server } ≡ lives_in t q server
lives_now v t q server k = λ i. record { client = sym (life_now v t q.client k) i; server = sym (life_now v t server k) i }

-- its spot in the present lives
pub stands_now : (v : View) (t : Trace) (q : CallId) (c : Call) → Keeps v t → call_at t q ≡ Some c
    → StandsFor (beside q.client t.settings.resend c) (spot_in c (lives_in t q c.server)) (spot v.now q)
stands_now v t q c k e =
    subst (λ (l : Lives). StandsFor (beside q.client t.settings.resend c) (spot_in c l) (spot v.now q)) (lives_now v t q c.server k)
    (subst (λ s. StandsFor (beside q.client s.resend c) (spot_in c (record { client = life v q.client; server = life v c.server })) (spot v.now q))
    k.settings (found_call v t q c k e).now)

-- one that is kept in the present lives is what was kept
pub spot_kept : (c : Call) (l m : Lives) (k : Spot) → l ≡ m → spot_in (record c { lives = l; spot = k }) m ≡ k
spot_kept c l m k e =
    let client : (l.client == m.client) ≡ true = eq-eqb l.client m.client (ap (λ x. x.client) e) in
    let server : (l.server == m.server) ≡ true = eq-eqb l.server m.server (ap (λ x. x.server) e) in
    λ i. record {
      live = if client i then k.live else None;
      request = if server i then k.request else None;
      response = if client i then k.response else None;
      resends = k.resends;
    }

-- ---- incoming messages

pub host_turned : (a b : HostId) → is_host a b ≡ is_host b a
host_turned a b = same_tests _ _ (a ≡ b) (hosts_are a b) (λ e. sym ((hosts_are b a).0 e), λ e. (hosts_are b a).1 (sym e))

and_false : (b : Bool) → (b && false) ≡ false
and_false true = refl
and_false false = refl

-- a message of which a part is kept is at its host alone
pub incoming_of : (h host peer : HostId) (set : Numbers) (o : Option Part) (k : Option KeptPart) → o ≡ option_map (part_of host peer set) k
    → is_incoming_at h o ≡ (is_host host h && is_incoming o)
incoming_of h host peer set o None e = ap (is_incoming_at h) e ∙ (sym (and_false (is_host host h)) ∙ ap (λ x. is_host host h && is_incoming x) (sym e))
incoming_of h host peer set o (Some p) e = ap (is_incoming_at h) e ∙ ap (λ x. is_host host h && is_incoming x) (sym e)

pub incoming_here : (host peer : HostId) (set : Numbers) (o : Option Part) (k : Option KeptPart) → o ≡ option_map (part_of host peer set) k
    → is_incoming_at host o ≡ is_incoming o
incoming_here host peer set o k e = incoming_of host host peer set o k e ∙ ap (λ b. b && is_incoming o) ((hosts_are host host).1 refl)

module _ (f g : HostId → CallId → Bool) (host peer : HostId) (id : CallId) (old new : Numbers) (before after : CallId → Option Part)
    (kept now : Option KeptPart)
    (was : (h : HostId) (q : CallId) → f h q ≡ is_incoming_at h (before q)) (there : (q : CallId) → is_call q id ≡ false → after q ≡ before q)
    (at_first : before id ≡ option_map (part_of host peer old) kept) (at_last : after id ≡ option_map (part_of host peer new) now) where
  listed_here : (h : HostId) (b : Bool) → is_host h host ≡ b → (if b && true then is_incoming (after id) else f h id) ≡ is_incoming_at h (after id)
  listed_here h true e = sym (incoming_of h host peer new (after id) now at_last ∙ ap (λ b. b && is_incoming (after id)) (host_turned host h ∙ e))
  listed_here h false e =
      was h id ∙ (incoming_of h host peer old (before id) kept at_first ∙ ap (λ b. b && is_incoming (before id)) (host_turned host h ∙ e))
      ∙ sym (incoming_of h host peer new (after id) now at_last ∙ ap (λ b. b && is_incoming (after id)) (host_turned host h ∙ e))

  listed_at : (h : HostId) (q : CallId) (b : Bool) → is_call q id ≡ b → noted host id (is_incoming (after id)) f h q ≡ is_incoming_at h (after q)
  listed_at h q true e =
      subst (λ (x : CallId). noted host id (is_incoming (after id)) f h x ≡ is_incoming_at h (after x)) (sym ((calls_are q id).0 e))
      (ap (λ b. if is_host h host && b then is_incoming (after id) else f h id) ((calls_are id id).1 refl) ∙ listed_here h (is_host h host) refl)
  listed_at h q false e =
      ap (λ b. if is_host h host && b then is_incoming (after id) else f h q) e
      ∙ (ap (λ b. if b then is_incoming (after id) else f h q) (and_false (is_host h host)) ∙ (was h q ∙ ap (is_incoming_at h) (sym (there q e))))

  -- the lists of incoming messages, with one call's noted anew
  pub listed_with : ((h : HostId) (q : CallId) → g h q ≡ noted host id (is_incoming (after id)) f h q) → (h : HostId) (q : CallId)
      → g h q ≡ is_incoming_at h (after q)
  listed_with is h q = is h q ∙ listed_at h q (is_call q id) refl

-- what is noted of a call before
pub asked_before : (v : View) (t : Trace) (id : CallId) (c : Call) → Keeps v t → call_at t id ≡ Some c
    → asked_of (host_at t c.server) id ≡ is_incoming (spot v.now id).request
asked_before v t id c k e = (k.listed c.server).asked id ∙ incoming_here c.server id.client c.asked (spot v.now id).request _ (stands_now v t id c k e).request

pub awaited_before : (v : View) (t : Trace) (id : CallId) (c : Call) → Keeps v t → call_at t id ≡ Some c
    → awaited_of (host_at t id.client) id ≡ is_incoming (spot v.now id).response
awaited_before v t id c k e =
    (k.listed id.client).awaited id ∙ incoming_here id.client c.server c.answered (spot v.now id).response _ (stands_now v t id c k e).response

-- ---- all of it

-- the spot of the call that is changed, and those of the others
pub spot_here : (v w : View) (id : CallId) (f : spots.Spot → spots.Spot) → Changes v w id f → spot w.now id ≡ f (spot v.now id)
spot_here v w id f ch = ch.spots id ∙ ap (λ b. cond b (f (spot v.now id)) (spot v.now id)) ((calls_are id id).1 refl)

pub spot_there : (v w : View) (id q : CallId) (f : spots.Spot → spots.Spot) → Changes v w id f → is_call q id ≡ false → spot w.now q ≡ spot v.now q
spot_there v w id q f ch e = ch.spots q ∙ ap (λ b. cond b (f (spot v.now q)) (spot v.now q)) e

module _ (v w : View) (t u : Trace) (id : CallId) (c : Call) (k : Spot) (f : spots.Spot → spots.Spot) (keeps : Keeps v t)
    (here : call_at t id ≡ Some c) (ch : Changes v w id f)
    (stands : StandsFor (beside id.client t.settings.resend c) k (f (spot v.now id))) where
  now_stands : StandsFor (beside id.client t.settings.resend c) k (spot w.now id)
  now_stands = subst (StandsFor (beside id.client t.settings.resend c) k) (sym (spot_here v w id f ch)) stands

  put_here : IsKept (with_lines_of v w) id (record c { lives = lives_in t id c.server; spot = k })
  put_here =
      let was = found_call v t id c keeps here in
      record {
        called = was.called;
        size = was.size;
        sent = was.sent;
        runs = was.runs;
        client_life = omega (arith, life_now v t id.client keeps);
        server_life = omega (arith, life_now v t c.server keeps);
        now = subst (λ s. StandsFor (beside id.client s.resend c)
            (spot_in (record c { lives = lives_in t id c.server; spot = k }) (record { client = life v id.client; server = life v c.server }))
            (spot w.now id)) (sym keeps.settings)
            (subst (λ (x : Spot). StandsFor (beside id.client t.settings.resend c) x (spot w.now id))
            (sym (spot_kept c (lives_in t id c.server) (record { client = life v id.client; server = life v c.server }) k
            (sym (lives_now v t id c.server keeps)))) now_stands);
      }

  put_at : (q : CallId) (b : Bool) → is_call id q ≡ b
      → IsCallAt (with_lines_of v w) q (if b then option_map (λ (d : Call). record d { lives = lives_in t id d.server; spot = k }) (call_at t q)
      else call_at t q)
  put_at q true e =
      subst (λ (x : CallId). IsCallAt (with_lines_of v w) x
      (option_map (λ (d : Call). record d { lives = lives_in t id d.server; spot = k }) (call_at t x))) ((calls_are id q).0 e)
      (subst (λ (o : Option Call). IsCallAt (with_lines_of v w) id
      (option_map (λ (d : Call). record d { lives = lives_in t id d.server; spot = k }) o)) (sym here) put_here)
  put_at q false e =
      call_still v w q (call_at t q)
      (spot_there v w id q f ch (same_tests _ _ (q ≡ id) (calls_are q id) (λ p. sym ((calls_are id q).0 p), λ p. (calls_are id q).1 (sym p)) ∙ e))
      (keeps.calls q)

  -- what is kept where a call's spot was put, and noted at its hosts
  pub kept_with : ((q : CallId) → call_at u q ≡ call_or id (λ d. record d { lives = lives_in t id d.server; spot = k }) (call_at t) q)
      → length u.calls.items ≡ length t.calls.items → SameHosts t u
      → Notes t u id c.server (is_incoming (f (spot v.now id)).request) (is_incoming (f (spot v.now id)).response) → SameRest t u → Keeps w u
  kept_with calls len hosts notes rest =
      let was = stands_now v t id c keeps here in
      let is = spot_here v w id f ch in
      subst (λ x. Keeps x u) (same_lines v w ch.same) (record {
        settings = keeps.settings ∙ sym rest.settings;
        wire = keeps.wire;
        tick = keeps.tick ∙ sym rest.tick;
        hosts = λ h. record {
          lead = (keeps.hosts h).lead ∙ sym (hosts.lead h);
          first = (keeps.hosts h).first ∙ sym (hosts.first h);
          restarts = (keeps.hosts h).restarts ∙ sym (hosts.restarts h);
        };
        listed = λ h. record {
          asked = listed_with (λ h q. asked_of (host_at t h) q) (λ h q. asked_of (host_at u h) q) c.server id.client id c.asked c.asked
              (λ q. (spot v.now q).request) (λ q. (spot w.now q).request) _ _ (λ h. (keeps.listed h).asked)
              (λ q e. ap (λ s. s.request) (spot_there v w id q f ch e)) was.request now_stands.request
              (λ h q. notes.asked h q ∙ ap (λ s. noted c.server id (is_incoming s.request) (λ h q. asked_of (host_at t h) q) h q) (sym is)) h;
          awaited = listed_with (λ h q. awaited_of (host_at t h) q) (λ h q. awaited_of (host_at u h) q) id.client c.server id c.answered c.answered
              (λ q. (spot v.now q).response) (λ q. (spot w.now q).response) _ _ (λ h. (keeps.listed h).awaited)
              (λ q e. ap (λ s. s.response) (spot_there v w id q f ch e)) was.response now_stands.response
              (λ h q. notes.awaited h q ∙ ap (λ s. noted id.client id (is_incoming s.response) (λ h q. awaited_of (host_at t h) q) h q) (sym is)) h;
        };
        aligned = ap (λ x. length x.keys) rest.ids ∙ (keeps.aligned ∙ sym len);
        calls = λ q. subst (IsCallAt (with_lines_of v w) q) (sym (calls q)) (put_at q (is_call id q) refl);
        packets = keeps.packets ∙ sym (ap (λ x. x.items) rest.packets);
        made = keeps.made;
      })

-- ---- what spots stand beside

sets_by : (client : HostId) (gap : ℕ) (change : Call → Call) → ((c : Call) → beside client gap (change c) ≡ beside client gap c) → (b : Bool) (o : Option Call)
    → option_map (beside client gap) (if b then option_map change o else o) ≡ option_map (beside client gap) o
sets_by client gap change same true None = refl
sets_by client gap change same true (Some c) = ap (λ b. Some b) (same c)
sets_by client gap change same false o = refl

-- a change of a call that leaves its sets
pub same_sets : (t u : Trace) (id : CallId) (change : Call → Call)
    → ((client : HostId) (gap : ℕ) (c : Call) → beside client gap (change c) ≡ beside client gap c) → u.settings ≡ t.settings
    → ((q : CallId) → call_at u q ≡ call_or id change (call_at t) q) → SameSets t u
same_sets t u id change same settings calls q =
    ap (λ s. option_map (beside q.client s.resend) (call_at u q)) settings
    ∙ (ap (option_map (beside q.client t.settings.resend)) (calls q) ∙ sets_by q.client t.settings.resend change (same q.client t.settings.resend)
    (is_call id q) (call_at t q))
