-- The map's law at both ends and beyond them, and for a level that is a little off. Assumes nothing.
use mathlib.Core.Path.{◌≡◌, refl, sym, ap, ◌∙◌, subst}
use mathlib.Core.Logic.{inl, inr, ◌⊎◌}
use Prim.Native.Nat.{ℕ, zero, suc, ◌+◌, ◌-◌, ◌*◌, ◌^◌, ◌≤◌, ◌<◌}
use native.Mathlib.Nat.{le_trans, le_of_eq, le_refl, mul_assoc, mul-one, mul-le-mul, mul-le-mul_left, mul-le-mul_right, le_of_mul-le-mul_left, le_of_mul-le-mul_right, pow-le-pow_left, lt_of_lt_of_le, pow-suc, pow-zero}
use native.Mathlib.Omega.{arith}
use borrow.Author.Tests.{le-leb, lt-leb}
use lib.Dec.{lit≤}
use lib.Pow.{pow-add, pow_pos, pow_mono}
use lib.Ieee.{Float}
use Rattle.units.specs.Units.{P}
use Rattle.units.proofs.Naturals.{le-or-lt}
use Rattle.exact.proofs.Power.{mul-pow, pow-mul}
use Rattle.loudness.specs.Map.{Channel, Envelope, RatioAtMost, RatioAtLeast, map_error_num, Loudness}
use Rattle.loudness.specs.Value.{step_of}
use Rattle.loudness.proofs.Promise.{promised}
use Rattle.path.specs.Path.{between, path_error_num}

-- powers of a number above zero
pub pow_positive : {n : ℕ} → 0 < n → (k : ℕ) → 0 < n ^ k
pow_positive {n} p k = lt_of_lt_of_le (pow_pos 0) (le_trans (le_of_eq (sym (one-pow k))) (pow-le-pow_left p k))
  where
    one-pow : (k : ℕ) → 1 ^ k ≡ 1
    one-pow zero = refl
    one-pow (suc k) = pow-suc 1 k ∙ mul-one (1 ^ k) ∙ one-pow k

-- ---- a number between two others
pub below : (b m a : ℕ) → a ≤ b → between b m a ≡ b
below b m a l = rw (le-leb a b l) refl

pub above : (b m a : ℕ) → b < a → m ≤ a → between b m a ≡ m
above b m a l h = rw (lt-leb a b l, le-leb m a h) refl

pub inside : (b m a : ℕ) → b < a → a < m → between b m a ≡ a
inside b m a l h = rw (lt-leb a b l, lt-leb m a h) refl

module _ (b m : ℕ) (rising : b ≤ m) (a : ℕ) where
  by_place : (Q : ℕ → Type 0) → (a ≤ b → Q b) → (b < a → m ≤ a → Q m) → (b < a → a < m → Q a) → Q (between b m a)
  by_place Q low high mid = elim (le-or-lt a b) [
    | inl l ↦ subst Q (sym (below b m a l)) (low l)
    | inr l ↦ elim (le-or-lt m a) [ inl h ↦ subst Q (sym (above b m a l h)) (high l h) | inr h ↦ subst Q (sym (inside b m a l h)) (mid l h) ]
  ]

  pub between_most : between b m a ≤ m
  between_most = by_place (λ x. x ≤ m) (λ l. rising) (λ l h. le_refl m) (λ l h. less h)
    where
      less : a < m → a ≤ m
      less h = omega arith

  pub between_least : b ≤ between b m a
  between_least = by_place (λ x. b ≤ x) (λ l. le_refl b) (λ l h. rising) (λ l h. less l)
    where
      less : b < a → b ≤ a
      less l = omega arith

  pub between-above : a < m → a ≤ between b m a
  between-above g = by_place (λ x. a ≤ x) (λ l. l) (λ l h. absurd (wrong g h)) (λ l h. le_refl a)
    where
      wrong : a < m → m ≤ a → ⊥
      wrong g h = omega arith

  pub between_either : (between b m a ≤ b) ⊎ (between b m a ≤ a)
  between_either = by_place (λ x. (x ≤ b) ⊎ (x ≤ a)) (λ l. inl (le_refl b)) (λ l h. inr h) (λ l h. inr (le_refl a))

-- ---- the map's law with its level between b and m
module _ (b m K : ℕ) (rising : b ≤ m) where
  at_bottom : (j : ℕ) → RatioAtMost b b m K j
  at_bottom j = mul-le-mul_left (b ^ K) (pow-le-pow_left rising j)

  at_top : (n : ℕ) → RatioAtMost m b m K (K + n)
  at_top n = le_trans (le_of_eq (ap (λ (x : ℕ). m ^ K * x) (pow-add b K n))) (le_trans (le_of_eq (swap (m ^ K) (b ^ K) (b ^ n))) (le_trans (mul-le-mul_left (b ^ K) (mul-le-mul_left (m ^ K) (pow-le-pow_left rising n))) (le_of_eq (ap (λ (x : ℕ). b ^ K * x) (sym (pow-add m K n))))))
    where
      swap : (x y z : ℕ) → x * (y * z) ≡ y * (x * z)
      swap x y z = omega arith

  at_top_least : (x y : ℕ) → K ≡ x + y → RatioAtLeast m b m K x
  at_top_least x y e = rw e (le_trans (le_of_eq (ap (λ (z : ℕ). z * m ^ x) (pow-add b x y))) (le_trans (le_of_eq (swap (b ^ x) (b ^ y) (m ^ x))) (le_trans (mul-le-mul_left (b ^ x * m ^ x) (pow-le-pow_left rising y)) (le_of_eq (swap' (b ^ x) (m ^ x) (m ^ y) ∙ ap (λ (z : ℕ). z * b ^ x) (sym (pow-add m x y)))))))
    where
      swap : (p q r : ℕ) → p * q * r ≡ p * r * q
      swap p q r = omega arith

      swap' : (p q r : ℕ) → p * q * r ≡ q * r * p
      swap' p q r = omega arith

-- what is known of a step, in the map's own units
pub record Starred (top : ℕ) (b m t c p i : ℕ) : Type 0 where
  pub most : RatioAtMost p b m (1000000 * (c - t)) (1000000 * (i - t) + map_error_num top)
  pub least : RatioAtLeast p b m (1000000 * (c - t)) (1000000 * (i - t) - map_error_num top)

module _ (top : ℕ) (b m : Float) (t c : ℕ) (ch : Channel top b m t c) (a : Float) (e : Envelope a) where
  pub law : Loudness top b m t c a 0 (step_of b m t c a)
  law = promised top b m t c ch a e

  pub rising : P b ≤ P m
  rising = let o = ch.levels.octave in omega arith

  pub starred : Starred top (P b) (P m) t c (between (P b) (P m) (P a)) (step_of b m t c a)
  starred = elim (le-or-lt (P a) (P b)) [
    | inl l ↦ rw (below (P b) (P m) (P a) l, law.quiet ch e l) (record { most = at_bottom (P b) (P m) _ rising _; least = rw (nothing t (map_error_num top)) (le_of_eq (ap (λ (x : ℕ). P b ^ (1000000 * (c - t)) * x) (pow-zero (P m) ∙ sym (pow-zero (P b))))) })
    | inr l ↦ elim (le-or-lt (P m) (P a)) [
      | inl h ↦ rw (above (P b) (P m) (P a) l h, law.loud ch e h) (record { most = at_top (P b) (P m) _ rising (map_error_num top); least = at_top_least (P b) (P m) _ rising _ _ (split (1000000 * (c - t)) (map_error_num top)) })
      | inr h ↦ rw (inside (P b) (P m) (P a) l h) (let n = law.near ch e l h in record { most = n.not_below; least = n.not_above })
    ]
  ]
    where
      nothing : (t n : ℕ) → 1000000 * (t - t) - n ≡ 0
      nothing t n = omega arith

      split : (K n : ℕ) → K ≡ (K - n) + (K - (K - n))
      split K n = omega arith

-- ---- in other units
pub scaled_most : (a b m k j f : ℕ) → RatioAtMost a b m k j → RatioAtMost (a * f) (b * f) (m * f) k j
scaled_most a b m k j f h = rw (mul-pow a f k, mul-pow b f j, mul-pow b f k, mul-pow m f j) (le_trans (le_of_eq (regroup (a ^ k) (f ^ k) (b ^ j) (f ^ j))) (le_trans (mul-le-mul_right (f ^ k * f ^ j) h) (le_of_eq (sym (regroup (b ^ k) (f ^ k) (m ^ j) (f ^ j))))))
  where
    regroup : (p q r s : ℕ) → p * q * (r * s) ≡ p * r * (q * s)
    regroup p q r s = omega arith

pub scaled_least : (a b m k j f : ℕ) → RatioAtLeast a b m k j → RatioAtLeast (a * f) (b * f) (m * f) k j
scaled_least a b m k j f h = rw (mul-pow b f k, mul-pow m f j, mul-pow a f k, mul-pow b f j) (le_trans (le_of_eq (regroup (b ^ k) (f ^ k) (m ^ j) (f ^ j))) (le_trans (mul-le-mul_right (f ^ k * f ^ j) h) (le_of_eq (sym (regroup (a ^ k) (f ^ k) (b ^ j) (f ^ j))))))
  where
    regroup : (p q r s : ℕ) → p * q * (r * s) ≡ p * r * (q * s)
    regroup p q r s = omega arith

-- ---- a level that is off by x / y
module _ (x y K e B M : ℕ) (some : 0 < y) (grows : x ^ K ≤ y ^ K * 2 ^ e) (octave : 2 * B ≤ M) where
  -- its power is at most 2 ^ e times as large
  moved : (p q : ℕ) → y * p ≤ x * q → p ^ K ≤ 2 ^ e * q ^ K
  moved p q h = le_of_mul-le-mul_left (le_trans (le_of_eq (sym (mul-pow y p K))) (le_trans (pow-le-pow_left h K) (le_trans (le_of_eq (mul-pow x q K)) (le_trans (mul-le-mul_right (q ^ K) grows) (le_of_eq (mul_assoc (y ^ K) (2 ^ e) (q ^ K))))))) (pow_positive some K)

  doubled : 2 ^ e * B ^ e ≤ M ^ e
  doubled = le_trans (le_of_eq (sym (mul-pow 2 B e))) (pow-le-pow_left octave e)

  pub most_wider : (A a j : ℕ) → y * A ≤ x * a → RatioAtMost a B M K j → RatioAtMost A B M K (j + e)
  most_wider A a j h r =
      rw (pow-add B j e, pow-add M j e)
      (le_trans (mul-le-mul_right (B ^ j * B ^ e) (moved A a h))
      (le_trans (le_of_eq (regroup (2 ^ e) (a ^ K) (B ^ j) (B ^ e)))
      (le_trans (mul-le-mul r doubled) (le_of_eq (mul_assoc (B ^ K) (M ^ j) (M ^ e))))))
    where
      regroup : (t p q s : ℕ) → t * p * (q * s) ≡ p * q * (t * s)
      regroup t p q s = omega arith

  pub least_wider : (A a j : ℕ) → 0 < M → y * a ≤ x * A → RatioAtLeast a B M K (j + e) → RatioAtLeast A B M K j
  least_wider A a j pos h r =
      le_of_mul-le-mul_right
      (le_trans (le_of_eq (mul_assoc (B ^ K) (M ^ j) (M ^ e)))
      (le_trans (rw (pow-add B j e, pow-add M j e) at r)
      (le_trans (mul-le-mul_right (B ^ j * B ^ e) (moved a A h))
      (le_trans (le_of_eq (regroup (2 ^ e) (A ^ K) (B ^ j) (B ^ e))) (mul-le-mul_left (A ^ K * B ^ j) doubled)))))
      (pow_positive pos e)
    where
      regroup : (t p q s : ℕ) → t * p * (q * s) ≡ p * q * (t * s)
      regroup t p q s = omega arith

-- ---- 1 + 42 / 2 ^ 24 to the power of 276,000 is below 2, by two tests
thousand : (2 ^ 24 + 42) ^ 1000 ≤ (2 ^ 24) ^ 999 * (2 ^ 24 + 42053)
thousand = lit≤ tt

rest : (2 ^ 24 + 42053) ^ 276 ≤ (2 ^ 24) ^ 276 * 2
rest = lit≤ tt

once : (2 ^ 24 + 42) ^ 276000 ≤ (2 ^ 24) ^ 276000 * 2
once = go (2 ^ 24 + 42) (2 ^ 24) (2 ^ 24 + 42053) thousand rest
  where
    go : (x y w : ℕ) → x ^ 1000 ≤ y ^ 999 * w → w ^ 276 ≤ y ^ 276 * 2 → x ^ 276000 ≤ y ^ 276000 * 2
    go x y w h g =
        le_trans (le_of_eq (pow-mul x 1000 276))
        (le_trans (pow-le-pow_left h 276)
        (le_trans (le_of_eq (mul-pow (y ^ 999) w 276))
        (le_trans (mul-le-mul_left ((y ^ 999) ^ 276) g)
        (le_of_eq (sym (mul_assoc ((y ^ 999) ^ 276) (y ^ 276) 2) ∙ ap (λ (z : ℕ). z * 2) (ap (λ (z : ℕ). z * y ^ 276) (sym (pow-mul y 999 276)) ∙ sym (pow-add y 275724 276)))))))

grows : (K q : ℕ) → K ≤ 276000 * q → (2 ^ 24 + 42) ^ K ≤ (2 ^ 24) ^ K * 2 ^ q
grows K q l = go (2 ^ 24 + 42) (2 ^ 24) (lit≤ tt) (pow_pos 24) once
  where
    go : (x y : ℕ) → y ≤ x → 0 < y → x ^ 276000 ≤ y ^ 276000 * 2 → x ^ K ≤ y ^ K * 2 ^ q
    go x y less some h =
        le_of_mul-le-mul_right
        (le_trans (mul-le-mul_left (x ^ K) (pow-le-pow_left less (276000 * q - K)))
        (le_trans (le_of_eq (sym (pow-add x K (276000 * q - K)) ∙ ap (λ (n : ℕ). x ^ n) whole ∙ pow-mul x 276000 q))
        (le_trans (pow-le-pow_left h q)
        (le_of_eq (mul-pow (y ^ 276000) 2 q ∙ ap (λ (z : ℕ). z * 2 ^ q) (sym (pow-mul y 276000 q) ∙ ap (λ (n : ℕ). y ^ n) (sym whole) ∙ pow-add y K (276000 * q - K)) ∙ swap (y ^ K) (y ^ (276000 * q - K)) (2 ^ q))))))
        (pow_positive some (276000 * q - K))
      where
        whole : K + (276000 * q - K) ≡ 276000 * q
        whole = omega arith

        swap : (a b c : ℕ) → a * b * c ≡ a * c * b
        swap a b c = omega arith

-- ---- so the constant allows it over all steps
pub record Allows (top k : ℕ) : Type 0 where
  pub e : ℕ
  pub sum : map_error_num top + e ≡ path_error_num top
  pub grown : (2 ^ 24 + 42) ^ (1000000 * k) ≤ (2 ^ 24) ^ (1000000 * k) * 2 ^ e

pub allows : (top k : ℕ) → k ≤ top → top ≤ 1023 → Allows top k
allows top k l h = elim (le-or-lt top 255) [
  | inl s ↦ record { e = 999; sum = rw (le-leb top 255 s) refl; grown = le_trans (grows (1000000 * k) 924 (omega arith)) (mul-le-mul_left ((2 ^ 24) ^ (1000000 * k)) (pow_mono {i = 924} {j = 999} (lit≤ tt))) }
  | inr s ↦ record { e = 3996; sum = rw (lt-leb top 255 s) refl; grown = le_trans (grows (1000000 * k) 3707 (omega arith)) (mul-le-mul_left ((2 ^ 24) ^ (1000000 * k)) (pow_mono {i = 3707} {j = 3996} (lit≤ tt))) }
]
