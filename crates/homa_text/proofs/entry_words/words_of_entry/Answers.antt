use Rattle.homa_text.proofs.entry_words.words_of_entry.Goals as goal

pub returns-in-Settings : goal.returns-in-Settings
returns-in-Settings c = rw c.in-Settings.is c.words_of_settings.ensures
