-- What is kept of the incoming messages of a host.
use Rattle.std.proofs.Common.{◌≡◌, Option, Some, None, List, [], ◌++◌, map, refl, sym, ap, ◌∙◌, subst, ℕ}
use Rattle.std.specs.Prelude.{option_and_then, IfSome}
use Rattle.std.specs.Option.{option_map}
use Rattle.std.specs.List.{filter_map, list_any}
use Rattle.std.specs.List.Sorted.{IsStrictlySortedBy}
use Rattle.plain_sets.specs.Maps.{get}
use Rattle.homa_plain.specs.declared.id.CallId.{CallId}
use Rattle.homa_plain.specs.declared.id.HostId.{HostId}
use Rattle.homa_plain.specs.declared.packet.Role.TheVariants.{Client, Server}
use Rattle.homa_plain.specs.declared.packet.Role.{Role}
use Rattle.plain_sets.specs.Numbers.{Numbers}
use Rattle.homa_plain.specs.Calls.{call_cmp, is_call}
use Rattle.trace_rules.specs.Parts.{Part}
use Rattle.trace_rules.specs.Granting.{arriving, incoming}
use Rattle.trace_rules.specs.View.{View}
use Rattle.check_call.specs.declared.call.Call.{Call}
use Rattle.check_call.specs.declared.part.Part.{Part as KeptPart}
use Rattle.check_call.specs.Kept.{part_of, IsCounted}
use Rattle.check_call.specs.Calls.{spot_in}
use Rattle.check_lines.specs.declared.host.Host.{Host}
use Rattle.check_lines.specs.declared.trace.Trace.{Trace}
use Rattle.check_lines.specs.Traces.{Keeps, IsListed, call_at, host_at, lives_in, asked_of, awaited_of}
use Rattle.homa_check.specs.Grants.{message_of, asked_message, awaited_message}
use Rattle.check_lines.proofs.KeepLaws.{stands_now, absent_now}
use Rattle.homa_check.proofs.GrantLaws.{role_messages, both_roles}

some_is : {A : Type 0} (x y : A) → Some x ≡ Some y → x ≡ y
some_is x y e = cc

-- what the choice sees of a part that is kept
message_kept : (role : Role) (q : CallId) (host peer : HostId) (set : Numbers) (k : Option KeptPart) (p : Part)
    → Some p ≡ option_map (part_of host peer set) k → IfSome k (IsCounted set)
    → option_map (λ (x : KeptPart). record {
      role = role;
      id = q;
      peer = peer;
      length = x.length;
      arrived = x.count;
      granted = x.granted;
      order = x.order;
    }) k ≡ Some (message_of (record { role = role; id = q; part = p }))
message_kept role q host peer set None p e n = absurd cc
message_kept role q host peer set (Some x) p e n =
    ap (λ (c : ℕ). Some (record { role = role; id = q; peer = peer; length = x.length; arrived = c; granted = x.granted; order = x.order })) n
    ∙ ap (λ (y : Part). Some (message_of (record { role = role; id = q; part = y }))) (some_is _ _ (sym e))

module _ (v : View) (t : Trace) (q : CallId) (p : Part) (keeps : Keeps v t) where
  asked_by : (o : Option Call) → call_at t q ≡ o → get v.now.requests q ≡ Some p
      → option_and_then
      (λ (c : Call). option_map
      (λ (x : KeptPart). record {
        role = Server;
        id = q;
        peer = q.client;
        length = x.length;
        arrived = x.count;
        granted = x.granted;
        order = x.order;
      }) (spot_in c (lives_in t q c.server)).request) o ≡ Some (message_of (record { role = Server; id = q; part = p }))
  asked_by None e has = let none : get v.now.requests q ≡ None = ap (λ s. s.request) (absent_now v t q keeps e) in absurd cc
  asked_by (Some c) e has =
      let st = stands_now v t q c keeps e in message_kept Server q c.server q.client c.asked (spot_in c (lives_in t q c.server)).request p
      (sym has ∙ st.request) st.request_count

  pub asked_found : get v.now.requests q ≡ Some p → asked_message t q ≡ Some (message_of (record { role = Server; id = q; part = p }))
  asked_found = asked_by (call_at t q) refl

  awaited_by : (o : Option Call) → call_at t q ≡ o → get v.now.responses q ≡ Some p
      → option_and_then
      (λ (c : Call). option_map
      (λ (x : KeptPart). record {
        role = Client;
        id = q;
        peer = c.server;
        length = x.length;
        arrived = x.count;
        granted = x.granted;
        order = x.order;
      }) (spot_in c (lives_in t q c.server)).response) o ≡ Some (message_of (record { role = Client; id = q; part = p }))
  awaited_by None e has = let none : get v.now.responses q ≡ None = ap (λ s. s.response) (absent_now v t q keeps e) in absurd cc
  awaited_by (Some c) e has =
      let st = stands_now v t q c keeps e in message_kept Client q q.client c.server c.answered (spot_in c (lives_in t q c.server)).response p
      (sym has ∙ st.response) st.response_count

  pub awaited_found : get v.now.responses q ≡ Some p → awaited_message t q ≡ Some (message_of (record { role = Client; id = q; part = p }))
  awaited_found = awaited_by (call_at t q) refl

-- the messages of a host, where these calls are noted
messages_with : (v : View) (t : Trace) (host : HostId) (o : Option Host) (asked awaited : List CallId) → Keeps v t → host_at t host ≡ o
    → IsStrictlySortedBy call_cmp asked → IsStrictlySortedBy call_cmp awaited
    → ((q : CallId) → list_any (is_call q) asked ≡ asked_of o q) → ((q : CallId) → list_any (is_call q) awaited ≡ awaited_of o q)
    → filter_map (asked_message t) asked ++ filter_map (awaited_message t) awaited ≡ map message_of (incoming v.now host)
messages_with v t host o asked awaited keeps e s r a b =
    let is = subst (IsListed v host) e (keeps.listed host) in
    both_roles host (arriving Server v.now.requests) (arriving Client v.now.responses) (filter_map (asked_message t) asked)
    (filter_map (awaited_message t) awaited)
    (role_messages host Server asked v.now.requests (asked_message t) s (λ q. a q ∙ is.asked q) (λ q p. asked_found v t q p keeps))
    (role_messages host Client awaited v.now.responses (awaited_message t) r (λ q. b q ∙ is.awaited q) (λ q p. awaited_found v t q p keeps))

pub known_messages : (v : View) (t : Trace) (host : HostId) (x : Host) → Keeps v t → host_at t host ≡ Some x
    → IsStrictlySortedBy call_cmp x.asked.keys → IsStrictlySortedBy call_cmp x.awaited.keys
    → filter_map (asked_message t) x.asked.keys ++ filter_map (awaited_message t) x.awaited.keys ≡ map message_of (incoming v.now host)
known_messages v t host x keeps e s r = messages_with v t host (Some x) x.asked.keys x.awaited.keys keeps e s r (λ q. refl) (λ q. refl)

pub no_messages : (v : View) (t : Trace) (host : HostId) → Keeps v t → host_at t host ≡ None → [] ≡ map message_of (incoming v.now host)
unfolding IsStrictlySortedBy
no_messages v t host keeps e = messages_with v t host None [] [] keeps e tt tt (λ q. refl) (λ q. refl)
