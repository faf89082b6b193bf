-- What stays over one step and then another.
use Rattle.std.proofs.Common.{◌≤◌, ◌+◌, ℕ, refl, sym, ap, ◌∙◌, arith}
use Rattle.homa_plain.specs.declared.settings.Settings.{Settings}
use Rattle.homa_generate.specs.declared.lines.Progress.{Progress}
use Rattle.homa_generate.specs.Progress.{IsReady, IsSteady}

pub steady_none : (s : Settings) (p : Progress) (e m : ℕ) → IsSteady s s p p e e m
steady_none s p e m = record { settings = refl; life = refl; hosts = refl; counted = omega arith }

pub steady_on : (s t u : Settings) (p q r : Progress) (e f k m n o : ℕ) → IsSteady s t p q e f m → IsSteady t u q r f k n → m + n ≤ o → IsSteady s u p r e k o
steady_on s t u p q r e f k m n o a b most =
    record { settings = b.settings ∙ a.settings; life = b.life ∙ a.life; hosts = b.hosts ∙ a.hosts; counted = omega (arith, a.counted, b.counted, most) }

-- a further step may be done
pub ready_on : (own s t : Settings) (p q : Progress) (e f most m n : ℕ) → IsReady own s p e most → IsSteady s t p q e f m → m + n ≤ most → IsReady own t q f n
ready_on own s t p q e f most m n ready steady room = record {
  settings = ready.settings ∙ sym steady.settings;
  life = steady.life ∙ (ready.life ∙ ap (λ (x : Settings). x.life) (sym steady.settings));
  hosts = steady.hosts ∙ (ready.hosts ∙ ap (λ (x : Settings). x.hosts) (sym steady.settings));
  version = ap (λ (x : Settings). x.wire) steady.settings ∙ ready.version;
  few = omega (arith, ready.few, steady.counted, room);
}
