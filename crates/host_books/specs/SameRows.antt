-- Two views of a host with the same rows at the same places.
use Rattle.std.specs.Prelude.{◌≡◌}
use Rattle.host_view.specs.Seen.{Seen}

-- the settings, the clock, the rows and their places are the same in both
pub record SameRows (g h : Seen) : Type 0 where
  pub settings : g.settings ≡ h.settings
  pub last : g.host.last ≡ h.host.last
  pub clients : g.host.clients ≡ h.host.clients
  pub servers : g.host.servers ≡ h.host.servers
  pub client_places : g.client_places ≡ h.client_places
  pub server_places : g.server_places ≡ h.server_places
