-- What comes of a handle in which a host is to be opened.
use Rattle.std.specs.Prelude.{◌≡◌, ◌≢◌, ℕ, true}
use Rattle.homa_plain.specs.Settings.{IsValid}
use Rattle.homa_plain.specs.declared.settings.Settings.{Settings}
use Rattle.late_host.specs.Late.{Late}
use Rattle.homa_c.specs.declared.handle.Handle.{Handle}

-- With result 0 it holds this host. Else it is as before, and the result is this code, or 3 where there was no memory.
pub record Opens (settings : Settings) (host : Late) (code result : ℕ) (old new : Handle) : Type 0 where
  pub opened : result ≡ 0 → new.slot.held ≡ host
  pub is_open : result ≡ 0 → new.is_open ≡ true
  pub code_is : result ≢ 3 → result ≡ code
  pub no_memory : result ≡ 3 → code ≡ 0
  pub valid : result ≡ 0 → IsValid settings
  pub same : result ≢ 0 → new ≡ old
