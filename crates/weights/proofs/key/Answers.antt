-- `weights::key` meets its contract. Assumes nothing.
use mathlib.Core.Path.{sym}
use Rattle.weights.proofs.Keys.{key_clear, key_set}
use Rattle.weights.proofs.key.Goals as goal

pub returns-then-b-lt2147483648 : goal.returns-then-b-lt2147483648
returns-then-b-lt2147483648 c = sym (key_clear c.args.b c.if-b-lt2147483648.true)

pub returns-else-b-lt2147483648 : goal.returns-else-b-lt2147483648
returns-else-b-lt2147483648 c = sym (key_set c.args.b c.if-b-lt2147483648.false)
