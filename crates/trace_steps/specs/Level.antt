-- What a refusal of a block's delivery would leave of what the lines say.
use Rattle.std.specs.Prelude.{◌≡◌, Bool, false}
use Rattle.std.specs.Option.{option_map_or}
use Rattle.plain_sets.specs.Maps.{get}
use Rattle.homa_plain.specs.declared.id.CallId.{CallId}
use Rattle.homa_plain.specs.Calls.{is_call}
use Rattle.trace_rules.specs.View.{View, Sent, Progress}

-- whether a block begins with a delivery of this call
abbrev pub is_of : Progress → CallId → Bool
is_of m q = option_map_or (λ (p : Sent). is_call p.id q) m.came false

-- what rests on the deliveries, if that of the block is refused, and if it isn't: the same live calls and RESENDs, and the same parts but that of the
-- delivery's call
pub record AreLevel (m n : Progress) : Type 0 where
  pub came : m.came ≡ n.came
  pub live : (q : CallId) → get m.live q ≡ get n.live q
  pub resends : (q : CallId) → get m.resends q ≡ get n.resends q
  pub requests : (q : CallId) → is_of n q ≡ false → get m.requests q ≡ get n.requests q
  pub responses : (q : CallId) → is_of n q ≡ false → get m.responses q ≡ get n.responses q

-- a refusal of the block's delivery would change nothing but what has arrived of that delivery's call
abbrev pub IsLevel : View → Type 0
IsLevel v = AreLevel v.if_refused v.now
