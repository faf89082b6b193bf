-- What the answers of the calls say: of a piece that was put into a part, and of a first piece.
use Rattle.std.specs.Prelude.{◌≡◌, ◌<◌, ◌≤◌, ℕ, true, false, Option, Some, None, IsSomeAnd, List}
use Rattle.plain_sets.specs.Maps.{len}
use Rattle.homa_plain.specs.declared.id.HostId.{HostId}
use Rattle.homa_plain.specs.Host.{pages_for}
use Rattle.homa_plain.specs.Incoming.{Incoming, opened, with_bytes, leaves_too_many_gaps, is_whole, message}
use Rattle.msg_pool.specs.Pool.{Pool, free_pages, bytes_of, with_bytes as pool_with}
use Rattle.homa_in.specs.Part.{Part, seen}
use Rattle.homa_in.specs.Pooled.{Moves}
use Rattle.homa_in.specs.declared.putting.Put.{Put}
use Rattle.homa_in.specs.declared.putting.Opening.{Opening}
use Rattle.homa_in.specs.declared.putting.Opening.TheVariants.{Full, Whole, Begun}
use Rattle.homa_in.specs.declared.putting.Put.TheVariants.{TooMany, Last, Taken}

-- with the piece the message p would have too many gaps, and nothing changed
pub record WasRefused (p : Incoming) (offset : ℕ) (piece : List ℕ) (old new : Pool) (part after : Part) : Type 0 where
  pub many : leaves_too_many_gaps p offset piece ≡ true
  pub same_part : after ≡ part
  pub same_pool : new ≡ old

-- with the piece the message p is whole, and these are its bytes; the part and the pool stay
pub record WasLast (p : Incoming) (offset : ℕ) (piece told : List ℕ) (old new : Pool) (part after : Part) : Type 0 where
  pub few : leaves_too_many_gaps p offset piece ≡ false
  pub whole : is_whole (with_bytes p offset piece) ≡ true
  pub message : told ≡ message (with_bytes p offset piece)
  pub same_part : after ≡ part
  pub same_pool : new ≡ old

-- the part is the message p with the piece, and bytes are still missing
pub record WasTaken (p : Incoming) (offset : ℕ) (piece : List ℕ) (old new : Pool) (part after : Part) : Type 0 where
  pub few : leaves_too_many_gaps p offset piece ≡ false
  pub missing : is_whole (with_bytes p offset piece) ≡ false
  pub seen : seen new after ≡ with_bytes p offset piece
  pub short : 0 < len after.missing
  pub length : after.length ≡ part.length
  pub lease : after.lease ≡ part.lease
  pub written : new ≡ pool_with old part.lease (bytes_of new part.lease)
  pub moves : Moves old (Some part) new (Some after)

-- what each answer says of a piece that was put into a part
abbrev pub WasPut : Pool → Part → ℕ → List ℕ → Pool → Part → List ℕ → Put → Type 0
WasPut old part offset piece new after told TooMany = WasRefused (seen old part) offset piece old new part after
WasPut old part offset piece new after told Last = WasLast (seen old part) offset piece told old new part after
WasPut old part offset piece new after told Taken = WasTaken (seen old part) offset piece old new part after

-- a message of so many bytes needs n pages, of which only m are free, and nothing changed: there is no part
pub record HasNoPages (size n m : ℕ) (old new : Pool) (part : Option Part) : Type 0 where
  pub few : free_pages old < pages_for size
  pub need : n ≡ pages_for size
  pub free : m ≡ free_pages old
  pub same_pool : new ≡ old
  pub no_part : part ≡ None

-- the message p, of which nothing had arrived, is whole with the piece, and these are its bytes; the pool stays, and
-- there is no part
pub record IsWholeAtOnce (size : ℕ) (p : Incoming) (offset : ℕ) (piece told : List ℕ) (old new : Pool) (part : Option Part) : Type 0 where
  pub enough : pages_for size ≤ free_pages old
  pub whole : is_whole (with_bytes p offset piece) ≡ true
  pub message : told ≡ message (with_bytes p offset piece)
  pub same_pool : new ≡ old
  pub no_part : part ≡ None

-- the part is the message p, of which nothing had arrived, with the piece, and bytes are still missing
pub record IsBegun (size : ℕ) (p : Incoming) (offset : ℕ) (piece : List ℕ) (old new : Pool) (part : Part) : Type 0 where
  pub enough : pages_for size ≤ free_pages old
  pub missing : is_whole (with_bytes p offset piece) ≡ false
  pub seen : seen new part ≡ with_bytes p offset piece
  pub short : 0 < len part.missing
  pub length : part.length ≡ size
  pub moves : Moves old None new (Some part)

-- what each answer says of the first piece of a message of so many bytes, and of the part after the call
abbrev pub WasOpened : Pool → HostId → ℕ → ℕ → ℕ → ℕ → List ℕ → Pool → Option Part → List ℕ → Opening → Type 0
WasOpened old peer size order unsched offset piece new part told (Full need free) = HasNoPages size need free old new part
WasOpened old peer size order unsched offset piece new part told Whole =
    IsWholeAtOnce size (opened peer size order unsched) offset piece told old new part
WasOpened old peer size order unsched offset piece new part told Begun =
    IsSomeAnd part (λ p. IsBegun size (opened peer size order unsched) offset piece old new p)
