-- What `earmath::ear_exp2` returns is written, or its refusal's code is the answer. Assumes nothing.
use Rattle.units.proofs.Answers.{ends}
use Rattle.earmath_c.proofs.ear_exp2.Goals as goal

pub returns : goal.returns
returns c = ends _ c.ear_exp2.ensures c.write.ensures.code c.write.ensures.place
