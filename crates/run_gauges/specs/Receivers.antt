-- How a receiver's link is used.
use Rattle.std.specs.Prelude.{ℕ, Bool, true, false, ◌+◌, ◌-◌, ◌^◌, ◌==◌, min, max, nat_lt, List, replicate, slice_index, slice_set, if◌then◌else◌}
use Rattle.run_gauges.specs.declared.spans.Use.{Use}
use Rattle.run_gauges.specs.declared.spans.Use.TheVariants.{Taken, Withheld, Coming, Unsent, Empty}
use Rattle.run_gauges.specs.declared.spans.Spans.{Spans}
use Rattle.run_gauges.specs.declared.receiver.Receiver.{Receiver}
use Rattle.run_gauges.specs.Uses.{part, is_taken, is_withheld, is_coming, is_unsent, is_empty, is_wasted}

-- The use of an idle link at which nothing is withheld: packets are under way to it, or messages are incomplete of which none is.
abbrev pub use_of_idle : (senders under_way : ℕ) → Use
use_of_idle senders under_way = if nat_lt 0 under_way then Coming else (if nat_lt 0 senders then Unsent else Empty)

-- The use of a link. What isn't granted is withheld where messages of more senders are incomplete than are granted to at a time.
abbrev pub use_of : (is_taken : Bool) (ungranted senders overcommit under_way : ℕ) → Use
use_of true ungranted senders overcommit under_way = Taken
use_of false ungranted senders overcommit under_way =
    if nat_lt 0 ungranted then (if nat_lt overcommit senders then Withheld else use_of_idle senders under_way) else use_of_idle senders under_way

-- the spans of each use between two moments
pub record Times : Type 0 where
  pub from : ℕ
  pub since : ℕ
  pub taken : ℕ
  pub withheld : ℕ
  pub coming : ℕ
  pub unsent : ℕ
  pub empty : ℕ
  pub wasted : ℕ

abbrev pub times_of : Spans → Times
times_of s = record {
  from = s.from;
  since = s.since;
  taken = s.taken;
  withheld = s.withheld;
  coming = s.coming;
  unsent = s.unsent;
  empty = s.empty;
  wasted = s.wasted;
}

-- no time, from a moment on
abbrev pub no_time : (from : ℕ) → Times
no_time from = record { from = from; since = from; taken = 0; withheld = 0; coming = 0; unsent = 0; empty = 0; wasted = 0 }

-- the spans up to a moment, if the link was used so since the last one
abbrev pub with_time : (at : ℕ) → Use → (is_short : Bool) → Times → Times
with_time at used is_short t = record {
  from = t.from;
  since = max t.since at;
  taken = t.taken + part (is_taken used) (at - t.since);
  withheld = t.withheld + part (is_withheld used) (at - t.since);
  coming = t.coming + part (is_coming used) (at - t.since);
  unsent = t.unsent + part (is_unsent used) (at - t.since);
  empty = t.empty + part (is_empty used) (at - t.since);
  wasted = t.wasted + part (is_wasted used is_short) (at - t.since);
}

-- what is known of a receiver
pub record Known : Type 0 where
  pub overcommit : ℕ
  pub ungranted : ℕ
  pub incomplete : List ℕ
  pub senders : ℕ
  pub under_way : ℕ
  pub is_taken : Bool
  pub times : Times

abbrev pub known_of : Receiver → Known
known_of r = record {
  overcommit = r.overcommit;
  ungranted = r.ungranted;
  incomplete = r.incomplete;
  senders = r.senders;
  under_way = r.under_way;
  is_taken = r.is_taken;
  times = times_of r.spans;
}

-- nothing was told of it, and its link is idle from moment 0 on
abbrev pub nothing_known : (overcommit : ℕ) → Known
nothing_known overcommit = record {
  overcommit = overcommit;
  ungranted = 0;
  incomplete = replicate 32 0;
  senders = 0;
  under_way = 0;
  is_taken = false;
  times = no_time 0;
}

-- its spans up to a moment
abbrev pub times_to : (at : ℕ) → Known → Times
times_to at k = with_time at (use_of k.is_taken k.ungranted k.senders k.overcommit k.under_way) (nat_lt 0 k.ungranted) k.times

-- the same at a later moment
abbrev pub known_at : (at : ℕ) → Known → Known
known_at at k = record k { times = times_to at k }

-- one more message has bytes that aren't granted
abbrev pub opens : (at : ℕ) → Known → Known
opens at k = record (known_at at k) { ungranted = min (k.ungranted + 1) (2 ^ 32 - 1) }

-- one message less has such bytes
abbrev pub closes : (at : ℕ) → Known → Known
closes at k = record (known_at at k) { ungranted = k.ungranted - 1 }

-- one more message of a sender is incomplete
abbrev pub begins : (at sender : ℕ) → Known → Known
begins at sender k =
    let n = slice_index k.incomplete sender in
    record (known_at at k) {
      incomplete = slice_set k.incomplete sender (min (n + 1) (2 ^ 32 - 1));
      senders = min (k.senders + part (n == 0) 1) (2 ^ 32 - 1);
    }

-- one message less of it is
abbrev pub completes : (at sender : ℕ) → Known → Known
completes at sender k =
    let n = slice_index k.incomplete sender in
    record (known_at at k) { incomplete = slice_set k.incomplete sender (n - 1); senders = k.senders - part (n == 1) 1 }

-- one more packet is under way to it
abbrev pub sends : (at : ℕ) → Known → Known
sends at k = record (known_at at k) { under_way = min (k.under_way + 1) (2 ^ 64 - 1) }

-- one packet less is
abbrev pub arrives : (at : ℕ) → Known → Known
arrives at k = record (known_at at k) { under_way = k.under_way - 1 }

-- its link is taken, or idle, from now on
abbrev pub set_taken : (at : ℕ) → Bool → Known → Known
set_taken at taken k = record (known_at at k) { is_taken = taken }

-- its spans are counted anew
abbrev pub restart : (at : ℕ) → Known → Known
restart at k = record k { times = no_time at }
