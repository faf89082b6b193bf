use Rattle.std.proofs.Common.{◌≡◌, ℕ, List, [], ◌∷◌, ◌++◌, ap, ◌∙◌}
use Rattle.circular_buffer.specs.Buffer.{Buffer, keep_last}
use Rattle.homa_plain.specs.Cutoffs.{noted}
use Rattle.homa_cutoffs.proofs.Kept.{kept-noted, some-noted}
use Rattle.homa_cutoffs.proofs.recent.Recent.note.Goals as goal

pub returns : goal.returns
returns c =
    let lengths : c.push_back.new.self.items ≡ noted c.args.self.now c.args.len =
    ap (λ (b : Buffer ℕ). b.items) c.push_back.ensures.items
    ∙ ap (λ (m : ℕ). keep_last m (c.self.inside.lengths.items ++ c.args.len ∷ [])) c.self.invariant.0
    ∙ kept-noted c.self.inside.lengths.items c.args.len
    ∙ ap (λ (ls : List ℕ). noted ls c.args.len) c.self.view_is in
    record { noted = lengths; counted = rw lengths (some-noted c.args.self.now c.args.len) }
