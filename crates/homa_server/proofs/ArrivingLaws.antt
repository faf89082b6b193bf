-- Facts of a request that arrives, where a call succeeds.
use Rattle.std.proofs.Common.{ℕ, Result, Ok, Err}
use Rattle.std.specs.Result.{IfOk}
use Rattle.homa_in.specs.Part.{Part}
use Rattle.homa_server.specs.Held.{HeldState, Arriving, Keeping, Answering, Gone, IfArriving}

-- what follows from a fact of it
pub if_arriving : (state : HeldState) (P Q : ℕ → Part → ℕ → ℕ → Type 0)
    → ((service : ℕ) (part : Part) (base count : ℕ) → P service part base count → Q service part base count) → IfArriving state P → IfArriving state Q
if_arriving (Arriving service part base count) P Q f h = f service part base count h
if_arriving (Keeping response release) P Q f h = tt
if_arriving (Answering response out order base count) P Q f h = tt
if_arriving (Gone until) P Q f h = tt

pub if_ok : {T E : Type 0} (r : Result T E) (P Q : T → Type 0) → ((t : T) → P t → Q t) → IfOk r P → IfOk r Q
if_ok (Ok t) P Q f h = f t h
if_ok (Err e) P Q f h = h
