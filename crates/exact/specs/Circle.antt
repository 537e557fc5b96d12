-- Sine, cosine and the quarter turn, by the power series; of an angle's plus and minus one is zero. Definitions only.
use Rattle.std.specs.Prelude.{ℕ, ◌+◌, ◌*◌, ◌^◌, ◌≤◌, ◌<◌}
use Rattle.exact.specs.Series.{partial, denominator, fourth, LimitNear, LimitPlus}

-- a fraction of either sign, (plus - minus) / per, as a float is P - N units
pub record Signed : Type 0 where
  pub plus : ℕ
  pub minus : ℕ
  pub per : ℕ

-- a bound on an error, num / den
pub record Bound : Type 0 where
  pub num : ℕ
  pub den : ℕ

-- both by their numbers
abbrev pub signed : ℕ → ℕ → ℕ → Signed
signed p m q = record { plus = p; minus = m; per = q }

abbrev pub bound : ℕ → ℕ → Bound
bound a b = record { num = a; den = b }

-- |cos t - r| ≤ e: cos t is the sum over k = 0, 4, ... less the sum over k = 2, 6, ..., of either sign of t
pub record Cosine (t r : Signed) (e : Bound) : Type 0 where
  pub near : LimitNear (partial (fourth 0) (t.plus + t.minus) t.per) (partial (fourth 2) (t.plus + t.minus) t.per) (denominator t.per)
      r.plus r.minus r.per e.num e.den

-- |sin t - r| ≤ e: sin t is the sum over k = 1, 5, ... less the sum over k = 3, 7, ...; of -t, the same with the roles exchanged
pub record Sine (t r : Signed) (e : Bound) : Type 0 where
  pub near : LimitNear (λ n. partial (fourth 1) t.plus t.per n + partial (fourth 3) t.minus t.per n)
      (λ n. partial (fourth 3) t.plus t.per n + partial (fourth 1) t.minus t.per n) (denominator t.per)
      r.plus r.minus r.per e.num e.den

-- cos (p / q) is not below zero
pub record CosinePlus (p q : ℕ) : Type 0 where
  pub holds : LimitPlus (partial (fourth 0) p q) (partial (fourth 2) p q) (denominator q)

-- cos (p / q) is not above zero
pub record CosineMinus (p q : ℕ) : Type 0 where
  pub holds : LimitPlus (partial (fourth 2) p q) (partial (fourth 0) p q) (denominator q)

-- c / w ≤ pi / 2 ≤ (c + d) / w, where pi / 2 is the first zero of cosine
pub record QuarterTurn (c d w : ℕ) : Type 0 where
  -- up to c / w cosine is nowhere below zero
  pub before : (p q : ℕ) → 0 < q → p * w ≤ c * q → CosinePlus p q
  -- but at some s / t up to (c + d) / w it is not above zero
  pub s : ℕ
  pub t : ℕ
  pub positive : 0 < t
  pub up_to : s * w ≤ (c + d) * t
  pub after : CosineMinus s t

-- pi / 2 cut off after 256 binary places; `quarter_turn` in proofs/Zero.antt shows that it is
unfoldable pub quarter : ℕ
quarter = 0x1921fb54442d18469898cc51701b839a252049c1114cf98e804177d4c76273644

-- and its denominator
unfoldable pub quarter_unit : ℕ
quarter_unit = 2 ^ 256
