use Rattle.std.proofs.Common.{rules}
use Rattle.ear.proofs.Patterns.{pattern_is_text, read_as_pattern}
use Rattle.ear.proofs.words.pattern.Goals as goal

pub returns-in_err-ok : goal.returns-in_err-ok
returns-in_err-ok c = search (rules, pattern_is_text)

pub returns : goal.returns
returns c = search (rules, read_as_pattern)
