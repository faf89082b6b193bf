-- What became of the first piece of a request.
use Rattle.std.specs.Prelude.{ℕ, true, Option, Some, None, List, []}
use Rattle.homa_plain.specs.Rows.{ServerRow}
use Rattle.msg_pool.specs.Pool.{Pool}
use Rattle.homa_in.specs.Part.{Part}
use Rattle.homa_server.specs.Held.{seen_server, state_part, response_in}
use Rattle.homa_server.specs.declared.answers.ServerDid.{ServerDid}
use Rattle.homa_server.specs.declared.answers.ServerDid.TheVariants as did
use Rattle.homa_server.specs.declared.opens.FirstPiece.{FirstPiece}
use Rattle.homa_server.specs.declared.opens.FirstPiece.TheVariants.{FullPages, Begun, Ran}

-- the answer, where the row comes to a slot
abbrev pub first_did : ℕ → FirstPiece → ServerDid
first_did slot (FullPages need free) = did.FullPages need free
first_did slot (Begun row) = did.Opened slot
first_did slot (Ran row hold) = did.Ran slot true hold

-- the call's plain row after its first piece, if it has one
abbrev pub first_row : Pool → FirstPiece → Option ServerRow
first_row pool (FullPages need free) = None
first_row pool (Begun row) = Some (seen_server pool row)
first_row pool (Ran row hold) = Some (seen_server pool row)

-- the part of a request in that row, if it has one
abbrev pub first_part : FirstPiece → Option Part
first_part (FullPages need free) = None
first_part (Begun row) = state_part row.state
first_part (Ran row hold) = state_part row.state

-- the response in that row, or nothing
abbrev pub first_response : FirstPiece → List ℕ
first_response (FullPages need free) = []
first_response (Begun row) = response_in row.state
first_response (Ran row hold) = response_in row.state
