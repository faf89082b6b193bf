use Rattle.std.proofs.Common.{◌≡◌, ◌*◌, ◌++◌, take, drop}
use Rattle.hex.specs.Hex.{encode_lower}
use Rattle.written_lines.proofs.adding.write_few.Given as goal

-- the digits of the bytes so far, and those of the others
abbrev pub invariant-digits : goal.invariant-digits
invariant-digits l = take (2 * l.i) l.out ++ encode_lower (drop l.i l.bytes) ≡ encode_lower l.bytes
