-- Each part of a round adds lines alone.
use Rattle.std.proofs.Common.{ℕ, zero, suc, Bool, true, false, if◌then◌else◌, nat_le, ◌==◌, ◌+◌, ◌-◌, Option, None, Some, [], ◌∷◌, refl}
use Rattle.homa_plain.specs.declared.settings.Settings.{Settings}
use Rattle.homa_plain.specs.declared.event.Event.TheVariants as event
use Rattle.homa_plain.specs.Script.{Given, GivenEvent, GivenTicks, counting}
use Rattle.homa_plain.specs.World.{host_at}
use Rattle.homa_plain.specs.Replay.{carried, events_of}
use Rattle.generated_runs.specs.Draws.{next_traffic}
use Rattle.generated_runs.specs.Rounds.{Generated, with_line, host_round, hosts_round, most_handed, live_at, calls_round, calls_a_round, round_begun}
use Rattle.generated_runs.specs.Rounds.{next_round, is_over, rounds}
use Rattle.generated_runs.proofs.Going.{handed_to, after_handed, by_number, host_step, host_none, hosts_step, hosts_none}
use Rattle.generated_runs.proofs.Going.{by_left, calls_step, calls_none, round_is, by_end, rounds_step, rounds_none}
use Rattle.homa_generate.specs.Steps.{one_call}
use Rattle.homa_generate.proofs.Goings.{IsLonger, Extends, longer_self, longer_on}

pub line_extends : (s : Settings) (line : Given) → Extends (with_line s line)
line_extends s line g = record { more = line ∷ []; has = refl; further = (carried s g.world (events_of s.hosts line)).told; tells = refl }

number_extends : (n : ℕ) (s : Settings) (to : ℕ) (after : Generated) (number : Option ℕ) → Extends (host_round n s to)
    → IsLonger after.lines after.told (by_number n s to after number).lines (by_number n s to after number).told
number_extends n s to after None rest = longer_self after.lines after.told
number_extends n s to after (Some number) rest =
    longer_on after.lines _ _ after.told _ _ (line_extends s (GivenEvent (event.Deliver number) []) after)
    (rest (with_line s (GivenEvent (event.Deliver number) []) after))

pub host_extends : (n : ℕ) (s : Settings) (to : ℕ) → Extends (host_round n s to)
host_extends zero s to g = rw (host_none s to g) (longer_self g.lines g.told)
host_extends (suc n) s to g = rw (host_step n s to g) (number_extends n s to (after_handed s to g) (handed_to s to g).number (host_extends n s to))

pub hosts_extend : (s : Settings) (to n : ℕ) → Extends (hosts_round s to n)
hosts_extend s to zero g = rw (hosts_none s to g) (longer_self g.lines g.told)
hosts_extend s to (suc n) g =
    rw (hosts_step s to n g) (longer_on g.lines (host_round most_handed s to g).lines _ g.told (host_round most_handed s to g).told _
    (host_extends most_handed s to g) (hosts_extend s (suc to) n (host_round most_handed s to g)))

call_by : (s : Settings) (line : Given) (counted : Generated) (skips : Bool)
    → IsLonger counted.lines counted.told (if skips then counted else with_line s line counted).lines
    (if skips then counted else with_line s line counted).told
call_by s line counted true = longer_self counted.lines counted.told
call_by s line counted false = line_extends s line counted

pub call_extends : (s : Settings) → Extends (one_call s)
call_extends s g =
    let t = next_traffic s.hosts g.fabric.random in
    call_by s (GivenEvent (event.Call t.0.client t.0.server t.0.service) (counting 0 t.0.size))
    (record g { fabric = record g.fabric { random = t.1 }; made = g.made + 1; left = g.left - 1 }) (nat_le s.calls (live_at (host_at g.world t.0.client)))

left_extends : (n : ℕ) (s : Settings) (g : Generated) (none : Bool) → Extends (calls_round n s)
    → IsLonger g.lines g.told (by_left n s g none).lines (by_left n s g none).told
left_extends n s g true rest = longer_self g.lines g.told
left_extends n s g false rest = longer_on g.lines (one_call s g).lines _ g.told (one_call s g).told _ (call_extends s g) (rest (one_call s g))

pub calls_extend : (n : ℕ) (s : Settings) → Extends (calls_round n s)
calls_extend zero s g = rw (calls_none s g) (longer_self g.lines g.told)
calls_extend (suc n) s g = rw (calls_step n s g) (left_extends n s g (g.left == 0) (calls_extend n s))

pub round_extends : (s : Settings) → Extends (next_round s)
round_extends s g =
    let ticked = with_line s (GivenTicks 1) g in
    let handed = hosts_round s 0 s.hosts (round_begun ticked) in
    rw (round_is s g)
    (longer_on g.lines ticked.lines _ g.told ticked.told _ (line_extends s (GivenTicks 1) g)
    (longer_on ticked.lines handed.lines _ ticked.told handed.told _ (hosts_extend s 0 s.hosts (round_begun ticked))
    (calls_extend calls_a_round s handed)))

pub end_extends : (n : ℕ) (s : Settings) (after : Generated) (over : Bool) → Extends (rounds n s)
    → IsLonger after.lines after.told (by_end n s after over).lines (by_end n s after over).told
end_extends n s after true rest = longer_self after.lines after.told
end_extends n s after false rest = rest after

pub rounds_extend : (n : ℕ) (s : Settings) → Extends (rounds n s)
rounds_extend zero s g = rw (rounds_none s g) (longer_self g.lines g.told)
rounds_extend (suc n) s g =
    rw (rounds_step n s g) (longer_on g.lines (next_round s g).lines _ g.told (next_round s g).told _ (round_extends s g)
    (end_extends n s (next_round s g) (is_over (next_round s g)) (rounds_extend n s)))

-- what a round does after its tick, and after its budgets
abbrev pub after_begun : Settings → Generated → Generated
after_begun s x = calls_round calls_a_round s (hosts_round s 0 s.hosts x)

abbrev pub after_tick : Settings → Generated → Generated
after_tick s x = after_begun s (round_begun x)

pub begun_extends : (s : Settings) → Extends (after_begun s)
begun_extends s x = let handed =
    hosts_round s 0 s.hosts x in longer_on x.lines handed.lines _ x.told handed.told _ (hosts_extend s 0 s.hosts x) (calls_extend calls_a_round s handed)

pub ticked_extends : (s : Settings) → Extends (after_tick s)
ticked_extends s x = begun_extends s (round_begun x)
