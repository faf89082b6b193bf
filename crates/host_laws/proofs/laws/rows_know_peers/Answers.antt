use Rattle.host_laws.proofs.Known.{client_gets-known, client_acts-known, client_granted-known, client_sends-known, known-client, known-server}
use Rattle.host_laws.proofs.laws.rows_know_peers.Goals as goal

pub returns : goal.returns
returns c = record {
  gets = client_gets-known;
  acts = client_acts-known;
  granted = client_granted-known;
  sends = client_sends-known;
  client = λ s h new id row a b k e f i. known-client s h new a b k id row e f i;
  server = λ s h new id row a b k e f i. known-server s h new a b k id row e f i;
}
