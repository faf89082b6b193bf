-- What is told beside a piece.
use Rattle.std.proofs.Common.{◌≡◌, ℕ, Bool, true, false, Option, Some, None, List, [], ◌∷◌, ◌++◌, refl, sym, ap, ◌∙◌, cond, append_assoc}
use Rattle.std.specs.Prelude.{◌==◌}
use Rattle.std.proofs.lemmas.List.{append-nil}
use Rattle.homa_plain.specs.declared.packet.Role.{Role}
use Rattle.homa_plain.specs.declared.packet.Body.TheVariants as body
use Rattle.homa_plain.specs.declared.settings.Settings.{Settings}
use Rattle.homa_plain.specs.Host.{Host, Tuning, Tuned, tuned, counted, rebalanced, is_balance_due, Told, Says, Sends}
use Rattle.homa_plain.specs.Entries.{PlainBalance}
use Rattle.homa_plain.specs.Work.{Work, posts}
use Rattle.homa_plain.specs.CutoffsPackets.{notes, tells_cutoffs}
use Rattle.quiet_laws.specs.Hosts.{the_call, server_id, AreAside}

-- only the host's tuning changes, and little is told
pub record Aside (role : Role) (s : Settings) (h : Host) (told : List Told) (w : Work) : Type 0 where
  pub tuning : Tuning
  pub more : List Told
  pub is : w ≡ record { host = record h { tuning = tuning }; told = told ++ more }
  pub few : AreAside role s h.last more

pub aside-append : (role : Role) (s : Settings) (now : ℕ) (a b : List Told) → AreAside role s now a → AreAside role s now b → AreAside role s now (a ++ b)
aside-append role s now [] b x y = y
aside-append role s now (Says e ∷ a) b x y = (x.0, aside-append role s now a b x.1 y)
aside-append role s now (Sends p ∷ a) b x y = (x.0, x.1, x.2, aside-append role s now a b x.3 y)

module _ (s : Settings) where
  no_aside : (role : Role) (h : Host) (told : List Told) → Aside role s h told (record { host = h; told = told })
  no_aside role h told = record { tuning = h.tuning; more = []; is = ap (λ t. record { host = h; told = t }) (sym (append-nil told)); few = tt }

  noted : (role : Role) (o : Option ℕ) (h : Host) (told : List Told) → Aside role s h told (notes s o (record { host = h; told = told }))
  unfolding tuned
  noted role None h told = no_aside role h told
  noted role (Some n) h told =
      record {
        tuning = (tuned s h.id h.tuning n).tuning;
        more = (tuned s h.id h.tuning n).told;
        is = refl;
        few = by (is_balance_due s (counted h.tuning n));
      } where
        by : (t : Bool)
            → AreAside role s h.last
            (cond {A = Tuned} t
            (record { tuning = rebalanced s (counted h.tuning n); told = Says (PlainBalance h.id (rebalanced s (counted h.tuning n)).own) ∷ [] })
            (record { tuning = counted h.tuning n; told = [] })).told
        by true = (tt, tt)
        by false = tt

  told_cutoffs : (role : Role) (v : Option ℕ) (h : Host) (told : List Told) → h.inc ≡ 1
      → Aside role s h told (tells_cutoffs s role the_call server_id v (record { host = h; told = told }))
  told_cutoffs role None h told first = no_aside role h told
  told_cutoffs role (Some version) h told first = by (version == h.tuning.own.version) where
    by : (t : Bool)
        → Aside role s h told
        (cond t (record { host = h; told = told }) (posts s role the_call server_id (body.Cutoffs h.tuning.own) (record { host = h; told = told })))
    by true = no_aside role h told
    by false = record { tuning = h.tuning; more = _; is = refl; few = (record { id = refl; server = refl; inc = first; at = refl }, refl, tt, tt) }

  pub beside : (role : Role) (o v : Option ℕ) (h : Host) (told : List Told) → h.inc ≡ 1
      → Aside role s h told (tells_cutoffs s role the_call server_id v (notes s o (record { host = h; told = told })))
  beside role o v h told first =
      let a = noted role o h told in
      let k : Host = record h { tuning = a.tuning } in
      let c = told_cutoffs role v k (told ++ a.more) first in
      record {
        tuning = c.tuning;
        more = a.more ++ c.more;
        is = ap (λ w. tells_cutoffs s role the_call server_id v w) a.is ∙ c.is ∙ ap (λ t. record { host = record h { tuning = c.tuning }; told = t })
            (append_assoc told a.more c.more);
        few = aside-append role s h.last a.more c.more a.few c.few;
      }
