use Rattle.host_books.proofs.PumpOnce.{sends_next, idle_ready}
use Rattle.host_books.proofs.laws.pacer_picks.Goals as goal

pub returns : goal.returns
returns c = record {
  sends = λ h p n book w l slots stands slot. sends_next h slots p n stands slot book w l;
  idles = λ h p n book slots stands slot. idle_ready h slots p n stands slot book;
}
