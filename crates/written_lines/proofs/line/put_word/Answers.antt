use Rattle.written_lines.proofs.line.put_word.Goals as goal

pub returns-in-Text : goal.returns-in-Text
returns-in-Text g c = rw c.in-Text.is c.append.ensures

pub returns-in-Number : goal.returns-in-Number
returns-in-Number g c =
    rw c.in-Number.is (rw (c.as_slice.ensures.value, c.number_text.ensures) at c.append-in-Number.ensures)

pub returns-in-Id : goal.returns-in-Id
returns-in-Id g c =
    rw c.in-Id.is (rw (c.as_slice-in-Id.ensures.value, c.id_text.ensures) at c.append-in-Id.ensures)

pub returns-in-Route : goal.returns-in-Route
returns-in-Route g c =
    rw c.in-Route.is (rw (c.as_slice-in-Route.ensures.value, c.route_text.ensures) at c.append-in-Route.ensures)

pub returns-in-Call : goal.returns-in-Call
returns-in-Call g c =
    rw c.in-Call.is (rw (c.as_slice-in-Call.ensures.value, c.call_text.ensures) at c.append-in-Call.ensures)
