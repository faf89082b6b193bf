-- The lines of settings by their names.
use Rattle.std.specs.Prelude.{ℕ, List}
use Rattle.homa_plain.specs.declared.settings.Settings.{Settings}
use Rattle.homa_plain.specs.declared.settings.Name.{Name}
use Rattle.homa_plain.specs.Settings.{setting}
use Rattle.homa_plain.specs.Script.{setting_text}

-- the line of the setting of this name
abbrev pub named_text : Settings → Name → List ℕ
named_text s name = setting_text (name, setting s name)
