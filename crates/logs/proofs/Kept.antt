-- The fraction v / C of a middle of two results keeps off the floats: of results from 1 / 2 on it is one of 2 ^ 25 fractions, of smaller ones the result itself or what it lacks to 1.
-- Assumes nothing.
use Rattle.std.proofs.Common.{◌≡◌, ℕ, ◌+◌, ◌-◌, ◌*◌, ◌^◌, ◌<◌, ◌≤◌, sym, ap, ◌∙◌, subst, inl, inr, le_of_eq, lt_of_lt_of_le, mul_assoc, mul_comm, mul-lt-mul_of_pos_right, mul-pos, arith, lit<, pow_pos, pow-add}
use Rattle.units.proofs.Naturals.{le-or-lt}
use Rattle.exact.proofs.Power.{most_of_larger, least_of_smaller}
use Rattle.gaps.specs.Apart.{Apart, above, below, OffFloats}
use Rattle.gaps.proofs.Logs.{coarse, rising, falling}
use Rattle.logs.proofs.Placed.{Above, Below}

-- the same fraction written with other numbers
rewritten : (n d p q p' q' : ℕ) → 0 < q' → p * q' ≡ p' * q → Apart n d p q → Apart n d p' q'
rewritten n d p q p' q' pos e (above h) = above (most_of_larger pos (crossed p q p' q' e) h)
  where
    crossed : (p q p' q' : ℕ) → p * q' ≡ p' * q → p * q' + 0 * q ≤ p' * q + 0 * q'
    crossed p q p' q' e = omega arith
rewritten n d p q p' q' pos e (below h) = below (least_of_smaller pos (crossed p q p' q' e) h)
  where
    crossed : (p q p' q' : ℕ) → p * q' ≡ p' * q → p' * q + 0 * q' ≤ p * q' + 0 * q
    crossed p q p' q' e = omega arith

-- half of the half steps that make 1, for digits with z zeros before them
abbrev pub half_of : ℕ → ℕ
half_of z = 2 ^ (14 + z)

wide : (z : ℕ) → 0 < 2 * half_of z
wide z = mul-pos (lit< tt) (pow_pos (14 + z))

-- from 1 / 2 on
kept_large : (z v : ℕ) → z ≤ 10 → 0 < v → v < 2 * half_of z → OffFloats v (2 * half_of z)
kept_large z v few some less m =
    rewritten (m * 2 ^ 30) (2 ^ 53) (v * 2 ^ (10 - z)) (2 ^ 25) v (2 * half_of z) (wide z) (mul_assoc v (2 ^ (10 - z)) (2 * half_of z) ∙ ap (λ (i : ℕ). v * i) whole)
    (coarse (v * 2 ^ (10 - z)) (mul-pos some (pow_pos (10 - z))) (lt_of_lt_of_le (mul-lt-mul_of_pos_right less (pow_pos (10 - z))) (le_of_eq (mul_comm (2 * half_of z) (2 ^ (10 - z)) ∙ whole))) m)
  where
    whole : 2 ^ (10 - z) * (2 * half_of z) ≡ 2 ^ 25
    whole = turned (2 ^ (10 - z)) (half_of z) (sym (pow-add 2 (10 - z) (14 + z)) ∙ ap (λ (i : ℕ). 2 ^ i) (let e : 10 - z + (14 + z) ≡ 24 = omega arith in e))
      where
        turned : (a b : ℕ) → a * b ≡ 2 ^ 24 → a * (2 * b) ≡ 2 ^ 25
        turned a b h = omega arith

-- the unit of a smaller one
unit : (z : ℕ) → 9 ≤ z → 2 ^ (z - 9 + 24) ≡ 2 * half_of z
unit z h = let e : z - 9 + 24 ≡ 1 + (14 + z) = omega arith in ap (λ (i : ℕ). 2 ^ i) e ∙ pow-add 2 1 (14 + z)

module _ (z s e v : ℕ) (least : 2 ^ 23 ≤ s) (most : s < 2 ^ 24) where
  -- above log2 1
  pub kept_above : Above (2 * s + 1) (half_of z) e v → (11 ≤ z → (z ≤ 32) × (e ≡ 127)) → OffFloats v (2 * half_of z)
  kept_above a small = elim (le-or-lt z 10) [
    | inl h ↦ kept_large z v h a.some a.less
    | inr h ↦
        let (k, l) = small h in
        let same : 2 * s + 1 ≡ v = itself (half_of z) (subst (λ (i : ℕ). 127 * (2 * half_of z) + (2 * s + 1) ≡ v + i * (2 * half_of z)) l a.whole) in
        subst (λ (q : ℕ). OffFloats v q) (unit z (omega arith)) (subst (λ (p : ℕ). OffFloats p (2 ^ (z - 9 + 24))) same (rising (z - 9) s (omega arith) (omega arith) least most))
  ]
    where
      itself : (c : ℕ) → 127 * (2 * c) + (2 * s + 1) ≡ v + 127 * (2 * c) → 2 * s + 1 ≡ v
      itself c h = omega arith

  -- below it
  pub kept_below : Below (2 * s + 1) (half_of z) e v → (11 ≤ z → (z ≤ 33) × (e ≡ 126)) → OffFloats v (2 * half_of z)
  kept_below a small = elim (le-or-lt z 10) [
    | inl h ↦ kept_large z v h a.some a.less
    | inr h ↦
        let (k, l) = small h in
        let same : 2 ^ (z - 9 + 24) - (2 * s + 1) ≡ v = ap (λ (i : ℕ). i - (2 * s + 1)) (unit z (omega arith)) ∙ rest (half_of z) (subst (λ (i : ℕ). 127 * (2 * half_of z) ≡ v + i * (2 * half_of z) + (2 * s + 1)) l a.whole) in
        subst (λ (q : ℕ). OffFloats v q) (unit z (omega arith)) (subst (λ (p : ℕ). OffFloats p (2 ^ (z - 9 + 24))) same (falling (z - 9) s (omega arith) (omega arith) least most))
  ]
    where
      rest : (c : ℕ) → 127 * (2 * c) ≡ v + 126 * (2 * c) + (2 * s + 1) → 2 * c - (2 * s + 1) ≡ v
      rest c h = omega arith
