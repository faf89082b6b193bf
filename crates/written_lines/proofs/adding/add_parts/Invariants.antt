use Rattle.std.proofs.Common.{length, ◌-◌, ◌≡◌, ◌≤◌, ◌+◌, ◌*◌, ◌++◌, take}
use Rattle.hex.specs.Hex.{encode_lower}
use Rattle.arrayvec.specs.ArrayVec.{array_vec_len}
use Rattle.written_lines.proofs.adding.add_parts.Given as goal

-- the digits of the first bytes were added
abbrev pub invariant-loop-done : goal.invariant-loop-done
invariant-loop-done g l = record {
  so_far : l.text.items ≡ l.fn.text.items ++ encode_lower (take l.done l.bytes);
  within : l.done ≤ length l.bytes;
  len : array_vec_len l.text ≡ array_vec_len l.fn.text + 2 * l.done;
}

abbrev pub decreases-loop-done : goal.decreases-loop-done
decreases-loop-done g l = length l.bytes - l.done
