-- What is kept of a line.
use Rattle.std.specs.Prelude.{ℕ, List}
use Rattle.text_lines.specs.declared.line_room.LineRoom.{LineRoom}

-- the bytes that are kept
abbrev pub kept : LineRoom → List ℕ
kept line = line.bytes.items

-- how many bytes there is room for
abbrev pub room : LineRoom → ℕ
room line = line.size
