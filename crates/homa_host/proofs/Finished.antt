-- A step that is over.
use Rattle.std.proofs.Common.{◌≡◌, ℕ, List, ap, subst, ◌∙◌}
use Rattle.std.specs.List.{AllByRecursion}
use Rattle.homa_plain.specs.Host.{packets_in}
use Rattle.homa_plain.specs.Work.{Work}
use Rattle.host_view.specs.declared.outbox.SentFrame.{SentFrame}
use Rattle.host_view.specs.Frames.{frames_of, IsFormed}
use Rattle.host_view.specs.Seen.{Seen}
use Rattle.host_view.specs.Marks.{IsShown}
use Rattle.host_view.specs.Done.{IsDone}
use Rattle.host_view.proofs.Told.{shown-told}
use Rattle.homa_host.specs.Parts.{seen_of}
use Rattle.homa_host.specs.Amid.{Amid}
use Rattle.homa_host.specs.declared.parts.HostParts.{HostParts}

-- it is done, as its marks are its entries
pub finished : (old : Seen) (w : Work) (p : HostParts) (out : List SentFrame) (whole : List ℕ) → p.control.settings ≡ old.settings → Amid w p out
    → AllByRecursion (IsShown (seen_of p) whole) w.told
    → IsDone old w (seen_of p) out whole
finished old w p out whole same amid shows =
    let told = shown-told (seen_of p) whole out w.told amid.marked amid.sent amid.formed shows in
    record {
      host = amid.host;
      settings = same;
      entries = told.0;
      posted = amid.sent ∙ ap (λ s. frames_of s (packets_in w.told)) same;
      formed = subst (λ s. AllByRecursion (IsFormed s) (packets_in w.told)) same amid.formed;
      sent = told.1;
    }
