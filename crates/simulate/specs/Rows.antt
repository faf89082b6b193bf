-- Lines with columns.
use Rattle.std.specs.Prelude.{ℕ, List, [], ◌∷◌, ◌++◌, map, codes}
use Rattle.std.specs.List.{flat_map}
use Rattle.simulate.specs.declared.rows.Column.{Column}
use Rattle.simulate.specs.declared.rows.LineForm.{LineForm}
use Rattle.simulate.specs.declared.rows.LineForm.TheVariants.{Names, Cells, Fields}
use Rattle.simulate.specs.declared.words.Format.{Format}
use Rattle.simulate.specs.declared.words.Format.TheVariants.{Csv, Json}
use Rattle.simulate.specs.Cells.{cell_text, value_text, quoted}

-- the names of columns
abbrev pub names : List Column → List (List ℕ)
names columns = map (λ (c : Column). c.name.now) columns

-- what a form has of a column
abbrev pub part_text : LineForm → Column → List ℕ
part_text Names column = column.name.now
part_text Cells column = cell_text column.cell
part_text Fields column = quoted column.name.now ++ codes ":" ++ value_text column.cell

-- that behind a comma
abbrev pub next_part : LineForm → Column → List ℕ
next_part form column = codes "," ++ part_text form column

-- what a form has of each column, with commas between them
abbrev pub row_text : LineForm → List Column → List ℕ
row_text form [] = []
row_text form (first ∷ others) = part_text form first ++ flat_map (next_part form) others

-- the line of the names, which JSON doesn't have
abbrev pub head_text : Format → List Column → List ℕ
head_text Csv columns = row_text Names columns ++ codes "\n"
head_text Json columns = []

-- a line
abbrev pub line_text : Format → List Column → List ℕ
line_text Csv columns = row_text Cells columns ++ codes "\n"
line_text Json columns = codes "{" ++ row_text Fields columns ++ codes "}\n"
