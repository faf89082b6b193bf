use Rattle.plain_sets.proofs.Examples.{map_keys, map_values, map_bytes, two_ranges, joined_ranges, parted_range, count, two_gaps, below_three}
use Rattle.plain_sets.proofs.Examples.{from_two, in_no_range, three_in_order, behind_its_own, two_senders}
use Rattle.plain_sets.proofs.worked.Goals as goal

pub returns-clause-map_keys : goal.returns-clause-map_keys
returns-clause-map_keys c = map_keys

pub returns-clause-map_values : goal.returns-clause-map_values
returns-clause-map_values c = map_values

pub returns-clause-map_bytes : goal.returns-clause-map_bytes
returns-clause-map_bytes c = map_bytes

pub returns-clause-two_ranges : goal.returns-clause-two_ranges
returns-clause-two_ranges c = two_ranges

pub returns-clause-joined_ranges : goal.returns-clause-joined_ranges
returns-clause-joined_ranges c = joined_ranges

pub returns-clause-parted_range : goal.returns-clause-parted_range
returns-clause-parted_range c = parted_range

pub returns-clause-count : goal.returns-clause-count
returns-clause-count c = count

pub returns-clause-two_gaps : goal.returns-clause-two_gaps
returns-clause-two_gaps c = two_gaps

pub returns-clause-below_three : goal.returns-clause-below_three
returns-clause-below_three c = below_three

pub returns-clause-from_two : goal.returns-clause-from_two
returns-clause-from_two c = from_two

pub returns-clause-in_no_range : goal.returns-clause-in_no_range
returns-clause-in_no_range c = in_no_range

pub returns-clause-three_in_order : goal.returns-clause-three_in_order
returns-clause-three_in_order c = three_in_order

pub returns-clause-behind_its_own : goal.returns-clause-behind_its_own
returns-clause-behind_its_own c = behind_its_own

pub returns-clause-two_senders : goal.returns-clause-two_senders
returns-clause-two_senders c = two_senders
