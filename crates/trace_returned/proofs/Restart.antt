-- A host restarts: what the lines say of messages stays true, since what had arrived at it is gone for them too.
use Rattle.std.proofs.Common.{◌≡◌, ℕ, ◌+◌, Bool, true, false, not, ◌&&◌, Option, Some, None, List, [], ◌∷◌, length, cond, refl, sym, ap, subst, ◌∙◌}
use Rattle.std.specs.Prelude.{◌==◌, map, filter}
use Rattle.std.specs.Option.{option_map_or}
use Rattle.std.specs.Ordering.{nat_cmp, eq_by_cmp, is_eq}
use Rattle.std.proofs.lemmas.Bool.{false≢true, false_from_ne_true}
use Rattle.plain_sets.specs.Maps.{Map, get, retain}
use Rattle.plain_sets.proofs.MapLaws.{get-retain}
use Rattle.homa_plain.specs.declared.id.CallId.{CallId}
use Rattle.homa_plain.specs.declared.id.HostId.{HostId}
use Rattle.homa_plain.specs.declared.settings.Settings.{Settings}
use Rattle.homa_plain.specs.Calls.{is_host, is_call, call_cmp}
use Rattle.homa_plain.specs.Entries.{PlainEntry, PlainRestart}
use Rattle.homa_plain.specs.Host.{Host}
use Rattle.trace_rules.specs.View.{View, Called, Ran, no_ends, life, is_server_of}
use Rattle.trace_rules.specs.Seen.{seen}
use Rattle.homa_plain.specs.World.{World, host_at}
use Rattle.homa_plain.proofs.CallOrder.{call_total, calls_are, hosts_are}
use Rattle.trace_steps.specs.Told.{AllLived}
use Rattle.trace_steps.proofs.Lives.{same_number, restarts_at}
use Rattle.trace_steps.proofs.Progress.{AreLevel, level_itself}
use Rattle.trace_steps.specs.Stands.{Stand, stand}
use Rattle.trace_steps.specs.Contents.{replies, Replies}
use Rattle.step_moves.proofs.Hosts.{apart}
use Rattle.trace_once.specs.Kept.{IsKept}
use Rattle.trace_once.proofs.Restarted.{restarted_world, changed, now_stand}
use Rattle.trace_returned.specs.Tales.{Tale, tale, IsSameRequest, IsSame, IsTrue, receiving}
use Rattle.trace_returned.proofs.Calm.{tale_is}
use Rattle.trace_returned.proofs.ReplyLines.{lines_truthful}
use Rattle.trace_returned.proofs.TrueMoves.{response_later}
use Rattle.trace_returned.proofs.ServerCame.{plain_closed}

-- a map from calls of which some are retained
pub get-kept : {X : Type 0} (m : Map call_cmp X) (p : CallId → Bool) (q : CallId) → get (retain m p) q ≡ cond (p q) (get m q) None
get-kept m p q = get-retain call_total m p q (λ x t. ap p (sym ((calls_are q x).0 (ap is_eq t))))

turned_host : (a b : HostId) (t : Bool) → is_host a b ≡ t → is_host b a ≡ t
turned_host a b true e = (hosts_are b a).1 (sym ((hosts_are a b).0 e))
turned_host a b false e = false_from_ne_true (is_host b a) (λ f. false≢true (sym e ∙ (hosts_are a b).1 (sym ((hosts_are b a).0 f))))

module _ (v : View) (host : HostId) (inc : ℕ) where
  -- what is left of a call's tale, by whether its server and its client restarted
  abbrev left : Bool → Bool → Tale → Tale
  left a b t = record { live = cond b None t.live; request = cond a None t.request; response = cond b None t.response }

  not_cond : {X : Type 0} (b : Bool) (x : Option X) → cond (not b) x None ≡ cond b None x
  not_cond true x = refl
  not_cond false x = refl

  restart_tale : (q : CallId) (b : Bool) → is_host host q.client ≡ b
      → tale (seen v (PlainRestart host inc)).now q ≡ left (is_server_of v q host) b (tale v.now q)
  unfolding seen
  restart_tale q b e =
      let mine : is_host q.client host ≡ b = turned_host host q.client b e in
      tale_is _ _ (get-kept v.now.live (λ id. not (is_host id.client host)) q ∙ not_cond (is_host q.client host) (get v.now.live q)
      ∙ ap (λ t. cond t None (get v.now.live q)) mine)
      (get-kept v.now.requests (λ id. not (is_server_of v id host)) q ∙ not_cond (is_server_of v q host) (get v.now.requests q))
      (get-kept v.now.responses (λ id. not (is_host id.client host)) q ∙ not_cond (is_host q.client host) (get v.now.responses q)
      ∙ ap (λ t. cond t None (get v.now.responses q)) mine)

  restart_block : ((seen v (PlainRestart host inc)).if_refused ≡ (seen v (PlainRestart host inc)).now)
      × ((seen v (PlainRestart host inc)).here ≡ no_ends) × ((seen v (PlainRestart host inc)).now.due ≡ no_ends)
  unfolding seen
  restart_block = (refl, refl, refl)

  restart_runs : (seen v (PlainRestart host inc)).runs ≡ v.runs
  unfolding seen
  restart_runs = refl

  -- another host is in the life in which it was
  restart_replies : (n : HostId) (q : CallId) → is_host host n ≡ false → replies (seen v (PlainRestart host inc)) n q ≡ replies v n q
  restart_replies n q e =
      let other : eq_by_cmp nat_cmp n.0 host.0 ≡ false = false_from_ne_true (eq_by_cmp nat_cmp n.0 host.0) (λ t. apart host n e (same_number n.0 host.0 t)) in
      let same : life (seen v (PlainRestart host inc)) n ≡ life v n = ap length (restarts_at v host inc n false other) in
      ap (λ (rs : List Ran). map (λ (r : Ran). r.response)
      (filter (λ (r : Ran). is_call r.id q && is_host r.host n && r.life == life (seen v (PlainRestart host inc)) n) rs)) restart_runs
      ∙ ap (λ (k : ℕ). map (λ (r : Ran). r.response) (filter (λ (r : Ran). is_call r.id q && is_host r.host n && r.life == k) v.runs)) same

module _ (s : Settings) (w : World) (v : View) (host : HostId) (h : Host) (spares : ℕ) (stands : host_at w host ≡ Some h) (lived : AllLived v)
    (k : IsKept s w v) where
  abbrev line : PlainEntry
  line = PlainRestart host (h.inc + 1)

  abbrev after : View
  after = seen v (PlainRestart host (h.inc + 1))

  module _ (q : CallId) (n : HostId) (old : Bool) (t : IsSame s v q n (stand w v q n) (tale v.now q)) where
    abbrev x : Stand
    x = stand w v q n

    -- the request, by whether the call's server restarted
    serves : (c : Called) → x.called ≡ Some c → c.server ≡ n → is_server_of v q host ≡ is_host n host
    serves c called there = ap (λ o. option_map_or (λ (y : Called). is_host y.server host) o false) called ∙ ap (λ (m : HostId). is_host m host) there

    gone : is_host host n ≡ true → (c : Called) → x.called ≡ Some c → c.server ≡ n
        → IsSameRequest s q.client c false None (cond (is_server_of v q host) None (get v.now.requests q))
    gone e c called there = subst (λ b. IsSameRequest s q.client c false None (cond b None (get v.now.requests q)))
        (sym (serves c called there ∙ turned_host host n true e)) ((λ _. refl), tt)

    stays : is_host host n ≡ false → (c : Called) → x.called ≡ Some c → c.server ≡ n
        → IsSameRequest s q.client c x.ran (receiving x.server) (cond (is_server_of v q host) None (get v.now.requests q))
    stays e c called there = subst (λ b. IsSameRequest s q.client c x.ran (receiving x.server) (cond b None (get v.now.requests q)))
        (sym (serves c called there ∙ turned_host host n false e)) (t.request c called there)

    unmade : x.called ≡ None → cond (is_server_of v q host) None (get v.now.requests q) ≡ None
    unmade e = ap (λ b. cond b None (get v.now.requests q)) (ap (λ o. option_map_or (λ (y : Called). is_host y.server host) o false) e) ∙ t.unmade e

    each : (a : Bool) → is_host host n ≡ a → (b : Bool) → is_host host q.client ≡ b
        → IsSame s after q n (changed s w v host h spares stands lived k a b (stand w v q n) old)
        (left v host (h.inc + 1) (is_server_of v q host) b (tale v.now q))
    each true e true f = record { live = refl; request = gone e; unmade = unmade; response = refl; replies = tt }
    each true e false f =
        record {
          live = t.live;
          request = gone e;
          unmade = unmade;
          response = response_later s v (line ∷ []) q x.client (get v.now.responses q)
              (tt, tt) t.response;
          replies = tt;
        }
    each false e true f =
        record {
          live = refl;
          request = stays e;
          unmade = unmade;
          response = refl;
          replies = subst (λ xs. Replies xs x.server) (sym (restart_replies v host (h.inc + 1) n q e)) t.replies;
        }
    each false e false f = record {
      live = t.live;
      request = stays e;
      unmade = unmade;
      response = response_later s v (line ∷ []) q x.client (get v.now.responses q) (tt, tt) t.response;
      replies = subst (λ xs. Replies xs x.server) (sym (restart_replies v host (h.inc + 1) n q e)) t.replies;
    }

    restart_same : IsSame s after q n (changed s w v host h spares stands lived k (is_host host n) (is_host host q.client) (stand w v q n) old)
        (tale after.now q)
    restart_same = subst
        (IsSame s after q n (changed s w v host h spares stands lived k (is_host host n) (is_host host q.client) (stand w v q n) old))
        (sym (restart_tale v host (h.inc + 1) q (is_host host q.client) refl)) (each (is_host host n) refl (is_host host q.client) refl)

  pub restarted_true : IsTrue s w v → IsTrue s (restarted_world s w v host h spares stands lived k) (seen v (PlainRestart host (h.inc + 1)))
  restarted_true t =
      let block = restart_block v host (h.inc + 1) in
      record {
        same = λ q n. subst (λ y. IsSame s after q n y (tale after.now q)) (sym (now_stand s w v host h spares stands lived k q n))
            (restart_same q n _ (t.same q n));
        packets = lines_truthful v (line ∷ []) (tt, tt) w.packets t.packets;
        level = subst (λ m. AreLevel m after.now) (sym block.0) (level_itself after.now);
        closed = plain_closed after block.1 block.2;
      }
