-- The map on whole numbers: a quotient to the nearest whole number, and what bounds on three logarithms then say of the exact map.
-- The number of steps k is any number: the constant num / den says how many the errors allow. Assumes nothing.
use Rattle.std.proofs.Common.{◌≡◌, ℕ, ◌+◌, ◌-◌, ◌*◌, ◌^◌, ◌<◌, ◌≤◌, ◌⊎◌, inl, inr, mul-le-mul_right, mul-le-mul_left, le_of_mul-le-mul_right, arith}
use native.Mathlib.Nat.{pow-zero, pow-le-pow_left}
use Rattle.exact.specs.Power.{AtMost, AtLeast}
use Rattle.exact.proofs.Power.{most_of_less, least_of_more, most_shift, least_shift}
use Rattle.exact.proofs.Ratio.{products, exponents_over}
use Rattle.units.proofs.Naturals.{le-or-lt}
use Rattle.loudness.specs.Map.{RatioAtMost, RatioAtLeast}

-- i is the whole number nearest to k n / d, but for k parts in 2 Y
pub record Rounded (k n d Y i : ℕ) : Type 0 where
  pub parts : 0 < Y
  pub floor : 2 * d * i * Y ≤ 2 * n * k * Y + d * Y + k * d
  pub ceiling : 2 * n * k * Y ≤ 2 * d * i * Y + d * Y + k * d
  pub most : i ≤ k

-- the logarithm of A / unit, shifted by m and in parts of q, lies between L and L + w
pub record Enclosed (A unit L w m q : ℕ) : Type 0 where
  pub at_most : AtMost A unit (L + w) m q
  pub at_least : AtLeast A unit L m q

-- what the constant has to allow: the errors of all logarithms and of the rises' words, over all steps, against the span d of the channel
abbrev pub Allows : ℕ → ℕ → ℕ → ℕ → ℕ → ℕ → Type 0
Allows num den w k d Y = 4 * (w * (den * k)) * Y + 2 * (w * num) * Y + den * d * Y + den * (k * d) ≤ 2 * (num * d) * Y

-- the two orders of exponents that the ratios come to, K = den k, J = den i ± num
upper : (n d w k i num den Y : ℕ) → 0 < Y → i ≤ k → 2 * n * k * Y ≤ 2 * d * i * Y + d * Y + k * d → Allows num den w k d Y → (n + w) * (den * k) + w * (den * i + num) ≤ d * (den * i + num)
upper n d w k i num den Y py ik c al =
    let a : den * (2 * n * k * Y) ≤ den * (2 * d * i * Y + d * Y + k * d) = mul-le-mul_left den c in
    let b : w * (den * i) * Y ≤ w * (den * k) * Y = mul-le-mul_right Y (mul-le-mul_left w (mul-le-mul_left den ik)) in
    le_of_mul-le-mul_right {k = 2 * Y} (omega arith) (omega arith)

lower : (n d w k i num den Y : ℕ) → 0 < Y → i ≤ k → 2 * d * i * Y ≤ 2 * n * k * Y + d * Y + k * d → Allows num den w k d Y → (d + w) * (den * i) + w * (den * k) ≤ n * (den * k) + (d + w) * num
lower n d w k i num den Y py ik c al =
    let a : den * (2 * d * i * Y) ≤ den * (2 * n * k * Y + d * Y + k * d) = mul-le-mul_left den c in
    let b : w * (den * i) * Y ≤ w * (den * k) * Y = mul-le-mul_right Y (mul-le-mul_left w (mul-le-mul_left den ik)) in
    le_of_mul-le-mul_right {k = 2 * Y} (omega arith) (omega arith)

-- the step is within num / den of the exact map
module _ (A B M unit Lb n d w m q k Y i num den : ℕ) (ro : Rounded k n d Y i) (al : Allows num den w k d Y)
    (ea : Enclosed A unit (Lb + n) w m q) (eb : Enclosed B unit Lb w m q) (em : Enclosed M unit (Lb + d) w m q) where
  pub not_below : RatioAtMost A B M (den * k) (den * i + num)
  not_below =
      products (den * k) (den * i + num) ea.at_most eb.at_most eb.at_least em.at_least
      (sums Lb n d w (den * k) (den * i + num) (upper n d w k i num den Y ro.parts ro.most ro.ceiling al))
    where
      sums : (L n d w K J : ℕ) → (n + w) * K + w * J ≤ d * J → (L + n + w) * K + (L + w) * J ≤ L * K + (L + d) * J
      sums L n d w K J h = omega arith

  pub not_above : B ≤ A → RatioAtLeast A B M (den * k) (den * i - num)
  not_above ba = go (le-or-lt num (den * i))
    where
      sums : (L n d w K J : ℕ) → (d + w) * J + w * K ≤ n * K → (L + w) * K + (L + d + w) * J ≤ (L + n) * K + L * J
      sums L n d w K J h = omega arith

      less : (d w x y I J : ℕ) → I ≡ J + num → (d + w) * I + y ≤ x + (d + w) * num → (d + w) * J + y ≤ x
      less d w x y I J e h = let g : (d + w) * (J + num) + y ≤ x + (d + w) * num = rw e at h in omega arith

      go : (num ≤ den * i) ⊎ (den * i < num) → RatioAtLeast A B M (den * k) (den * i - num)
      go (inl h) =
          products (den * k) (den * i - num) eb.at_most em.at_most ea.at_least eb.at_least
          (sums Lb n d w (den * k) (den * i - num) (less d w (n * (den * k)) (w * (den * k)) (den * i) (den * i - num) (omega arith) (lower n d w k i num den Y ro.parts ro.most ro.floor al)))
      go (inr h) =
          let z : den * i - num ≡ 0 = omega arith in
          rw (z, pow-zero M, pow-zero B) (mul-le-mul_right 1 (pow-le-pow_left ba (den * k)))

-- ---- how far apart two logarithms are
module _ (B M unit Lb d w m q : ℕ) (eb : Enclosed B unit Lb w m q) (em : Enclosed M unit (Lb + d) w m q) where
  -- of an octave or more: at least 1, less the errors
  pub span_least : 2 * B ≤ M → q ≤ d + w
  span_least octave = in_parts (exponents_over (least_of_more em.at_most.per (doubled octave) (least_shift 1 0 eb.at_least)) em.at_most)
    where
      doubled : 2 * B ≤ M → B * 2 ^ 1 * unit ≤ M * (unit * 2 ^ 0)
      doubled h = omega (arith, mul-le-mul_right unit h)

      in_parts : Lb + 1 * q + m ≤ Lb + d + w + (m + 0 * q) → q ≤ d + w
      in_parts h = omega arith

  -- of 24 octaves at most: that, and the errors
  pub span_most : M ≤ B * 2 ^ 24 → d ≤ 24 * q + w
  span_most few = in_parts (exponents_over em.at_least (most_of_less em.at_most.per (shifted few) (most_shift 24 0 eb.at_most)))
    where
      shifted : M ≤ B * 2 ^ 24 → M * (unit * 2 ^ 0) ≤ B * 2 ^ 24 * unit
      shifted h = omega (arith, mul-le-mul_right unit h)

      in_parts : Lb + d + (m + 0 * q) ≤ Lb + w + 24 * q + m → d ≤ 24 * q + w
      in_parts h = omega arith
