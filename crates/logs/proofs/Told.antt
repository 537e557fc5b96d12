-- What the first digits tell of a logarithm: where no middle is as near as they may be off, the nearest float.
-- Assumes nothing.
use Rattle.std.proofs.Common.{◌≡◌, ℕ, suc, ◌+◌, ◌-◌, ◌*◌, ◌/◌, ◌%◌, ◌^◌, ◌<◌, ◌≤◌, Bool, true, false, cond, ltb, ◌⊎◌, refl, ap, ◌∙◌, subst, inl, inr, le_of_eq, pow-suc, arith, lit<, pow-add, ltb-false, ltb-true}
use Rattle.units.proofs.Naturals.{le-or-lt}
use Rattle.exact.specs.Power.{AtLeast, LessThan, MoreThan}
use Rattle.exact.proofs.Power.{least_of_smaller}
use Rattle.exact.proofs.Strict.{more_least}
use Rattle.fixed.proofs.Rounding.{Placed}
use Rattle.logs.specs.Value.{width_of, is_left_open}
use Rattle.logs.proofs.Middles.{Q, Rounds, Found}

-- what is known of log2 (n / d) by A steps of 2 ^ -54, with z zeros before their digits: middles that are h of the last of 32 digits away are where they seem to be; they are counted
-- in quarter steps
pub record Known (n d A z h : ℕ) : Type 0 where
  pub over : (M : ℕ) → A * 2 ^ z + h * 2 ^ 32 ≤ M * 2 ^ 38 → LessThan n d (M * 2 ^ (134 - z)) 0 Q
  pub under : (M : ℕ) → M * 2 ^ 38 + h * 2 ^ 32 ≤ A * 2 ^ z → MoreThan n d (M * 2 ^ (134 - z)) 0 Q

-- the 24 digits S, 135 - z places up, are those of the float nearest to log2 (n / d)
pub record Digits (n d S z : ℕ) : Type 0 where
  pub least : 2 ^ 23 ≤ S
  pub most : S ≤ 2 ^ 24
  pub found : Found n d (S * 2 ^ (135 - z))

-- the width is no more than 8
pub width_most : (z : ℕ) → width_of z ≤ 8
unfolding width_of
width_most z = either (ltb z 10)
  where
    either : (s : Bool) → cond s 2 8 ≤ 8
    either true = omega arith
    either false = omega arith

-- ---- digits that are open are not zeros alone: no more than 39 zeros stand before them
near_middle : (u h : ℕ) → is_left_open u h ≡ true → (u % 256 + 128 + h) % 256 < 2 * h
unfolding is_left_open
near_middle u h o = ltb-true ((u % 256 + 128 + h) % 256) (2 * h) o

far_off : (u h : ℕ) → is_left_open u h ≡ false → 2 * h ≤ (u % 256 + 128 + h) % 256
unfolding is_left_open
far_off u h o = ltb-false ((u % 256 + 128 + h) % 256) (2 * h) o

pub few_zeros : (A z h : ℕ) → h ≤ 8 → is_left_open (A * 2 ^ z / 4294967296) h ≡ true → z ≤ 39
few_zeros A z h most o = elim (le-or-lt z 39) [
  | inl l ↦ l
  | inr l ↦
      let e : z ≡ 40 + (z - 40) = omega arith in
      let f : A * 2 ^ z / 4294967296 ≡ A * 2 ^ (z - 40) * 256 = ap (λ (i : ℕ). A * 2 ^ i / 4294967296) e ∙ rw (pow-add 2 40 (z - 40)) (cut A (2 ^ (z - 40))) in
      absurd (omega (arith, near_middle (A * 2 ^ z / 4294967296) h o))
]
  where
    cut : (a U : ℕ) → a * (2 ^ 40 * U) / 4294967296 ≡ a * U * 256
    cut a U = omega arith

module _ (n d A z h : ℕ) (most-h : h ≤ 8) (known : Known n d A z h) (p : Placed A z) where
  abbrev R : ℕ
  R = A * 2 ^ z

  abbrev g : ℕ
  g = 134 - z

  -- half steps are two quarters
  halves : (M : ℕ) → M * 2 ^ (135 - z) ≡ 2 * M * 2 ^ g
  halves M = let e : 135 - z ≡ suc g = omega (arith, p.small) in rw (e, pow-suc 2 g) (turned M (2 ^ g))
    where
      turned : (M G : ℕ) → M * (G * 2) ≡ 2 * M * G
      turned M G = omega arith

  -- below and above M half steps
  half_over : (M : ℕ) → R + h * 2 ^ 32 ≤ M * 2 ^ 39 → LessThan n d (M * 2 ^ (135 - z)) 0 Q
  half_over M l = rw (halves M) (known.over (2 * M) (omega arith))

  half_under : (M : ℕ) → M * 2 ^ 39 + h * 2 ^ 32 ≤ R → MoreThan n d (M * 2 ^ (135 - z)) 0 Q
  half_under M l = rw (halves M) (known.under (2 * M) (omega arith))

  -- no less than S steps
  from_first : (S : ℕ) → S * 2 ^ 40 + h * 2 ^ 32 ≤ R → AtLeast n d (S * 2 ^ (135 - z)) 0 (2 ^ 149)
  from_first S l = least_of_smaller (lit< tt) (le_of_eq (twice S (2 ^ (135 - z)) (2 ^ 149))) (more_least (half_under (2 * S) (omega arith)))
    where
      twice : (S G U : ℕ) → S * G * (2 * U) + 0 * U ≡ 2 * S * G * U + 0 * (2 * U)
      twice S G U = omega arith

  abbrev u : ℕ
  u = R / 4294967296

  first_digits_lem : 2 ^ 31 ≤ u
  first_digits_lem = omega (arith, p.low)

  -- ---- where no middle is near
  module _ (shut : is_left_open u h ≡ false) where
    apart : 2 * h ≤ (u % 256 + 128 + h) % 256
    apart = far_off u h shut

    S : ℕ
    S = (u / 128 + 1) / 2

    S_least : 2 ^ 23 ≤ S
    unfolding S
    S_least = omega (arith, first_digits_lem)

    S_most : S ≤ 2 ^ 24
    unfolding S
    S_most = omega (arith, p.high)

    -- below the middle, or above it
    sides : (128 + h ≤ u % 256) ⊎ (u % 256 + h < 128)
    sides = elim (le-or-lt (128 + h) (u % 256)) [ inl k ↦ inl k | inr k ↦ elim (le-or-lt 128 (u % 256 + h)) [ inl l ↦ absurd (omega (arith, apart)) | inr l ↦ inr l ] ]

    up : R + h * 2 ^ 32 ≤ (2 * S + 1) * 2 ^ 39
    unfolding S
    up = elim sides [ inl k ↦ omega arith | inr k ↦ omega arith ]

    down : (2 * S - 1) * 2 ^ 39 + h * 2 ^ 32 ≤ R
    unfolding S
    down = elim sides [ inl k ↦ omega (arith, first_digits_lem) | inr k ↦ omega (arith, first_digits_lem) ]

    -- S steps; so near to the least significand that the logarithm may be less, they are twice as many steps of half the size
    shut_found : Found n d (S * 2 ^ (135 - z))
    shut_found = elim (le-or-lt (S * 2 ^ 40 + h * 2 ^ 32) R) [
      | inl l ↦ wide (λ e. from_first S l)
      | inr l ↦ elim (le-or-lt S 8388608) [ inl k ↦ fine l k | inr k ↦ wide (λ e. absurd (omega arith)) ]
    ]
      where
        wide : (S ≡ 2 ^ 23 → AtLeast n d (S * 2 ^ (135 - z)) 0 (2 ^ 149)) → Found n d (S * 2 ^ (135 - z))
        wide f = record { S = S; g = 135 - z; same = refl; rounds = record { least = S_least; most = S_most; over = half_over (2 * S + 1) up; under = half_under (2 * S - 1) down; first = f } }

        fine : R < S * 2 ^ 40 + h * 2 ^ 32 → S ≤ 8388608 → Found n d (S * 2 ^ (135 - z))
        fine l k = record {
          S = 2 * S;
          g = g;
          same = halves S;
          rounds = record {
            least = omega (arith, S_least);
            most = omega arith;
            over = known.over (2 * (2 * S) + 1) (omega arith);
            under = known.under (2 * (2 * S) - 1) (omega (arith, S_least, first_digits_lem));
            first = λ e. absurd (omega (arith, S_least));
          };
        }

    pub shut_digits : Digits n d ((u / 128 + 1) / 2) z
    unfolding S
    shut_digits = record { least = S_least; most = S_most; found = shut_found }

  -- ---- where one is: it is the middle above S steps
  module _ (open-u : is_left_open u h ≡ true) where
    near : (128 ≤ u % 256 + h) × (u % 256 < 128 + h)
    near = let o = near_middle u h open-u in (elim (le-or-lt 128 (u % 256 + h)) [ inl l ↦ l | inr l ↦ absurd (omega arith) ], elim (le-or-lt (128 + h) (u % 256)) [ inl l ↦ absurd (omega arith) | inr l ↦ l ])

    pub middle_above : R ≤ (2 * (u / 256) + 1) * 2 ^ 39 + 2 ^ 35
    middle_above = omega (arith, near.0, near.1)

    pub middle_below : (2 * (u / 256) + 1) * 2 ^ 39 ≤ R + 2 ^ 35
    middle_below = omega (arith, near.0, near.1)

    digits : (S : ℕ) → Rounds n d S (135 - z) → Digits n d S z
    digits S r = record { least = r.least; most = r.most; found = record { S = S; g = 135 - z; same = refl; rounds = r } }

    -- the logarithm is below it
    pub open_below : LessThan n d ((2 * (u / 256) + 1) * 2 ^ (135 - z)) 0 Q → Digits n d (u / 256) z
    open_below l = digits (u / 256) (record {
      least = omega (arith, first_digits_lem);
      most = omega (arith, p.high);
      over = l;
      under = half_under (2 * (u / 256) - 1) (omega (arith, near.0, near.1));
      first = λ e. from_first (u / 256) (omega (arith, near.0, near.1));
    })

    -- or above it
    pub open_above : MoreThan n d ((2 * (u / 256) + 1) * 2 ^ (135 - z)) 0 Q → Digits n d (u / 256 + 1) z
    open_above l = digits (u / 256 + 1) (record {
      least = omega (arith, first_digits_lem);
      most = omega (arith, p.high);
      over = half_over (2 * (u / 256 + 1) + 1) (omega (arith, near.0, near.1));
      under = subst (λ (i : ℕ). MoreThan n d (i * 2 ^ (135 - z)) 0 Q) (odd (u / 256)) l;
      first = λ e. absurd (omega (arith, first_digits_lem));
    })
      where
        odd : (s : ℕ) → 2 * s + 1 ≡ 2 * (s + 1) - 1
        odd s = omega arith
