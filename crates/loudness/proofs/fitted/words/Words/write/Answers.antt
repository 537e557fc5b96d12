-- `loudness::fitted::words::Words::write` meets its contract: six words over six. Assumes nothing.
use Rattle.std.proofs.Common.{◌∙◌}
use Rattle.loudness.specs.Words.{five_words}
use Rattle.loudness.proofs.Check.{all_set}
use Rattle.loudness.proofs.fitted.words.Words.write.Goals as goal

pub returns : goal.returns
unfolding five_words
returns c = all_set c.args.w.now c.requires _ _ _ _ _ _ ∙ rw (← c.self.view_is, c.check.ensures)
