-- `loudness::fitted::words::Words::rise` meets its contract. Assumes nothing.
use Rattle.loudness.specs.Words.{five_words, rise_to}
use Rattle.loudness.proofs.fitted.words.Words.rise.Goals as goal

pub returns : goal.returns
unfolding five_words rise_to
returns c = rw (← c.self.view_is, c.from.ensures, c.from-2.ensures)
