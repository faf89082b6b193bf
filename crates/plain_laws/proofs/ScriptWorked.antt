-- Schedules that are read, computed from their bytes.
use Rattle.std.proofs.Common.{◌≡◌, Some, None, [], ◌∷◌, refl}
use Rattle.std.specs.Prelude.{codes}
use Rattle.core.specs.Str.{is_utf8, chars}
use lib.Utf8.{encode}
use Rattle.hex.specs.Hex.{decode_pairs}
use Rattle.core.specs.Fmt.{digits}
use Rattle.homa_plain.specs.declared.event.Event.TheVariants.{Call, Clock}
use Rattle.homa_plain.specs.declared.fault.ScriptFault.TheVariants as fault
use Rattle.homa_plain.specs.declared.settings.SettingFault.TheVariants.{UnschedOverWindow}
use Rattle.homa_plain.specs.Settings.{usual}
use Rattle.homa_plain.specs.Script.{opening, opening_from, steps_from, phrase_in, bytes_of_word, settings_text, Opened, Unopened, GivenEvent, GivenTicks}

pub comments_and_ticks : opening 1000 (codes "# a call\nlife 7\n\ngo\r\n call 0  1 3 *3\nclock\ntick 5\n")
    ≡ Opened (record usual { life = 7 }) (record {
      steps = record { line = 5; given = GivenEvent (Call (record { 0 = 0 }) (record { 0 = 1 }) 3) (0 ∷ 1 ∷ 2 ∷ []) }
          ∷ record { line = 6; given = GivenEvent Clock [] } ∷ record { line = 7; given = GivenTicks 5 } ∷ [];
      refused = None;
    })
unfolding is_utf8 chars encode opening opening_from steps_from phrase_in bytes_of_word
comments_and_ticks = refl

pub no_number : opening 1000 (codes "go\ndeliver 01") ≡ Opened usual (record { steps = []; refused = Some (record { line = 2; fault = fault.BadNumber }) })
unfolding is_utf8 chars encode opening opening_from steps_from phrase_in bytes_of_word
no_number = refl

pub half_a_byte : opening 1000 (codes "go\ncall 0 1 0 6") ≡ Opened usual (record { steps = []; refused = Some (record { line = 2; fault = fault.BadHex }) })
unfolding is_utf8 chars encode opening opening_from steps_from phrase_in bytes_of_word decode_pairs
half_a_byte = refl

pub no_go : opening 1000 (codes "hosts 2") ≡ Unopened (record { line = 2; fault = fault.NoGo })
unfolding is_utf8 chars encode opening opening_from steps_from phrase_in
no_go = refl

pub over_window : opening 1000 (codes "window 8\ngo") ≡ Unopened (record { line = 2; fault = fault.Setting UnschedOverWindow })
unfolding is_utf8 chars encode opening opening_from steps_from phrase_in
over_window = refl

pub too_long : opening 3 (codes "go\n\n") ≡ Opened usual (record { steps = []; refused = Some (record { line = 2; fault = fault.InputTooLong }) })
unfolding is_utf8 chars encode opening opening_from steps_from phrase_in
too_long = refl

pub printed : settings_text (record usual { skew = 2 }) ≡ codes "hosts 2\nseg 1400\nwindow 10000\nunsched 10000\novercommit 4\nrate 14000\nresend 4\ntries 5\nlife 20\npages 1024\ncalls 256\nserved 1024\nrebalance 0\nskew 2\ngo\n"
unfolding settings_text digits
printed = refl
