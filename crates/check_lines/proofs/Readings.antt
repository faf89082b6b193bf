-- What is read of what is kept.
use Rattle.std.proofs.Common.{◌≡◌, Option, Some, None, List, [], ◌∷◌, length, map, refl, sym, ap, ◌∙◌, arith}
use Rattle.std.specs.Prelude.{is_some}
use Rattle.plain_sets.specs.Maps.{contains_key}
use Rattle.homa_plain.specs.declared.id.CallId.{CallId}
use Rattle.trace_rules.specs.View.{Sent, View}
use Rattle.check_call.specs.declared.call.Call.{Call}
use Rattle.check_lines.specs.declared.trace.Trace.{Trace}
use Rattle.check_call.specs.Kept.{packet_of}
use Rattle.check_lines.specs.Traces.{Follows, Keeps, IsCallAt, call_at}

made_at : (v : View) (q : CallId) (o : Option Call) → IsCallAt v q o → is_some o ≡ contains_key v.calls q
made_at v q None is = sym (ap is_some is.called)
made_at v q (Some c) is = sym (ap is_some is.called)

-- a call was made where one is kept
pub made_is : (v : View) (t : Trace) (q : CallId) → Follows v t → is_some (call_at t q) ≡ contains_key v.calls q
made_is v t q f = made_at v q (call_at t q) (f.kept.calls q)

pub made_kept : (v : View) (t : Trace) (q : CallId) → Keeps v t → is_some (call_at t q) ≡ contains_key v.calls q
made_kept v t q k = made_at v q (call_at t q) (k.calls q)

mapped : (ps : List Sent) → length (map packet_of ps) ≡ length ps
mapped [] = refl
mapped (p ∷ ps) = omega (arith, mapped ps)

-- as many packets are kept as were sent
pub sent_is : (v : View) (t : Trace) → Follows v t → length v.packets ≡ length t.packets.items
sent_is v t f = sym (mapped v.packets) ∙ ap length f.kept.packets
