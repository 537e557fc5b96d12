-- `weights::unlocked` meets its contract. Assumes nothing.
use borrow.Author.Tests.{lt-ltb, le-ltb}
use mathlib.Core.Path.{refl}
use Rattle.weights.specs.Value.{pattern_of}
use Rattle.weights.proofs.unlocked.Goals as goal

pub returns-then-k-lt2147483648 : goal.returns-then-k-lt2147483648
unfolding pattern_of
returns-then-k-lt2147483648 c = rw (lt-ltb c.args.k 2147483648 c.if-k-lt2147483648.true) refl

pub returns-else-k-lt2147483648 : goal.returns-else-k-lt2147483648
unfolding pattern_of
returns-else-k-lt2147483648 c = rw (le-ltb c.args.k 2147483648 c.if-k-lt2147483648.false) refl
