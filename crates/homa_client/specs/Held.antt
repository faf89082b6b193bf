-- The rows of a client as its table holds them: the bytes of the responses stand in a pool.
use Rattle.std.specs.Prelude.{◌≡◌, ◌<◌, ◌≤◌, ℕ, Option, None, List, length, IfSome, refl}
use Rattle.std.specs.Coded.{Coded, code_by, coded×, coded_ℕ, coded_list, coded_option}
use Rattle.plain_sets.specs.Maps.{len}
use Rattle.homa_plain.specs.declared.id.HostId.{HostId}
use Rattle.homa_plain.specs.contracts.id.HostId as host_id
use Rattle.homa_plain.specs.declared.settings.Settings.{Settings}
use Rattle.homa_plain.specs.Outgoing.{Outgoing}
use Rattle.homa_plain.specs.Outgoing as outgoing
use Rattle.homa_plain.specs.PartCodes.{outgoing_code}
use Rattle.homa_plain.specs.Rows.{ClientRow}
use Rattle.msg_pool.specs.Pool.{Pool}
use Rattle.homa_in.specs.Part.{Part, part_code}
use Rattle.homa_in.specs.Pooled.{seen_part}
use Rattle.homa_plain.specs.Limits.{last_host_tick}

-- a call at its client; its response is a part, whose bytes stand in the pool
pub record HeldRow : Type 0 where
  pub server : HostId
  pub service : ℕ
  pub request : List ℕ
  pub order : ℕ
  pub out : Outgoing
  pub heard : ℕ
  pub base : ℕ
  pub count : ℕ
  pub seen : ℕ
  pub part : Option Part

-- the plain row that it is with the pool
abbrev pub seen_row : Pool → HeldRow → ClientRow
seen_row pool r = record {
  server = r.server;
  service = r.service;
  request = r.request;
  order = r.order;
  out = r.out;
  heard = r.heard;
  base = r.base;
  count = r.count;
  seen = r.seen;
  part = seen_part pool r.part;
}

-- the row of a new call, of which no response has come
abbrev pub new_row : Settings → ℕ → ℕ → HostId → ℕ → List ℕ → HeldRow
new_row s now order server service request = record {
  server = server;
  service = service;
  request = request;
  order = order;
  out = outgoing.opened (length request) s.unsched;
  heard = now;
  base = now;
  count = 0;
  seen = 0;
  part = None;
}

-- bytes of a response are missing as long as it is here
abbrev pub IsShort : Option Part → Type 0
IsShort part = IfSome part (λ p. 0 < len p.missing)

-- what holds of each row; its times are of a host's own clock
pub record IsRow (r : HeldRow) : Type 0 where
  pub some : 0 < length r.request
  pub long : r.out.length ≡ length r.request
  pub prio : r.out.prio ≤ 7
  pub heard : r.heard ≤ last_host_tick
  pub base : r.base ≤ last_host_tick
  pub short : IsShort r.part

-- a row is stored as the tuple of its fields
abbrev pub row_code : Coded HeldRow
row_code =
    code_by (HostId × (ℕ × (List ℕ × (ℕ × (Outgoing × (ℕ × (ℕ × (ℕ × (ℕ × Option Part)))))))))
    (coded× host_id.the_row.coded
    (coded× coded_ℕ
    (coded× (coded_list coded_ℕ)
    (coded× coded_ℕ (coded× outgoing_code (coded× coded_ℕ (coded× coded_ℕ (coded× coded_ℕ (coded× coded_ℕ (coded_option part_code))))))))))
    (λ r. (r.server, (r.service, (r.request, (r.order, (r.out, (r.heard, (r.base, (r.count, (r.seen, r.part))))))))))
    (λ c. record {
      server = c.0;
      service = c.1.0;
      request = c.1.1.0;
      order = c.1.1.1.0;
      out = c.1.1.1.1.0;
      heard = c.1.1.1.1.1.0;
      base = c.1.1.1.1.1.1.0;
      count = c.1.1.1.1.1.1.1.0;
      seen = c.1.1.1.1.1.1.1.1.0;
      part = c.1.1.1.1.1.1.1.1.1;
    }) (λ _. refl)
