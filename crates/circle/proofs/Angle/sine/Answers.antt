-- `circle::Angle::sine` meets its contract: a turn is 2 ^ 64, so the sum comes round. Assumes nothing.
use Rattle.std.proofs.Common.{◌≡◌, ℕ, Bool, true, false, cond, ◌+◌, ◌*◌, ◌%◌, ◌^◌, refl, ap, ◌∙◌}
use mir.Val.{bool_byte}
use Rattle.circle.specs.Wave.{wave_bits, half_on}
use Rattle.circle.proofs.Angle.sine.Goals as goal

sign : (b : Bool) → bool_byte b ≡ cond b 1 0
sign true = refl
sign false = refl

pub returns : goal.returns
unfolding half_on
returns c =
    let on = λ (sign : ℕ). (c.args.self.phase + sign * 2 ^ 63) % 2 ^ 64 in
    c.wave_bits.ensures ∙ ap wave_bits (ap on (c.from.ensures ∙ sign c.args.self.is_negative))
