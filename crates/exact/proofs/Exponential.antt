-- e ^ t against powers of two: where e ^ l is at most 2, e ^ (l u / v) is at most 2 ^ (u / v), for every fraction u / v; and where it is at least 2, at least.
-- The addition theorem with all weights 1 gives e ^ s e ^ t = e ^ (s + t) by partial sums, and that every whole power. Assumes nothing.
use mathlib.Core.Path.{◌≡◌, sym, ap, ◌∙◌}
use Prim.Native.Nat.{ℕ, zero, suc, ◌+◌, ◌*◌, ◌^◌, ◌≤◌, ◌<◌, max}
use native.Mathlib.Nat.{le_refl, le_trans, le_of_eq, zero-mul, mul-one, one-mul, mul_comm, pow-zero, pow-suc, mul-le-mul, mul-le-mul_right, le_of_mul-le-mul_right, one-le-mul, one-le-pow, pow-le-pow_left, le-max_left, le-max_right}
use native.Mathlib.Omega.{arith}
use Rattle.exact.specs.Series.{partial, denominator}
use Rattle.exact.specs.Power.{AtMost, AtLeast}
use Rattle.exact.specs.Exponential.{every, powers}
use Rattle.exact.proofs.Power.{mul-pow}
use Rattle.exact.proofs.Series.{over_pos, over_scale, partial_scale, partial-zero, partial_grows}
use Rattle.exact.proofs.Addition.{square, sum_least, square_most}

-- ---- fractions in order: a / b ≤ c / d is a d ≤ c b
through : (a b c d e f : ℕ) → 0 < d → a * d ≤ c * b → c * f ≤ e * d → a * f ≤ e * b
through a b c d e f pos h k = le_of_mul-le-mul_right (omega (arith, mul-le-mul_right f h, mul-le-mul_right b k)) pos

-- products of them
times : (a b c d a' b' c' d' : ℕ) → a * d ≤ c * b → a' * d' ≤ c' * b' → a * a' * (d * d') ≤ c * c' * (b * b')
times a b c d a' b' c' d' h k = le_trans (le_of_eq (turned a a' d d')) (le_trans (mul-le-mul h k) (le_of_eq (turned c b c' b')))
  where
    turned : (x y z w : ℕ) → x * y * (z * w) ≡ x * z * (y * w)
    turned x y z w = omega arith

-- ---- the addition theorem, with all weights 1
-- a constant weight comes out of the sum
constant : (c p q n : ℕ) → partial (λ k. c) p q n ≡ c * powers p q n
unfolding partial every
constant c p q zero = sym (mul-one c)
constant c p q (suc n) = rw (constant c p q n) (joined (powers p q n) (suc n * q) (p ^ suc n))
  where
    joined : (E s P : ℕ) → c * E * s + c * P ≡ c * (E * s + 1 * P)
    joined E s P = omega arith

product : (p r q n : ℕ) → square every p r q n ≡ powers p q n * powers r q n
unfolding square every
product p r q n = constant (powers p q n) r q n

module _ (q : ℕ) (pos : 0 < q) where
  abbrev D : ℕ → ℕ
  D n = denominator q n

  -- e ^ (s + t) ≤ e ^ s e ^ t
  sum_most : (p r n : ℕ) → powers (p + r) q n * D n ≤ powers p q n * powers r q n
  sum_most p r n = rw (product p r q n) at (sum_least every p r q pos n)

  -- e ^ s e ^ t ≤ e ^ (s + t), with twice the order
  product_most : (p r n : ℕ) → powers p q n * powers r q n * D (n + n) ≤ powers (p + r) q (n + n) * (D n * D n)
  product_most p r n = rw (product p r q n) at (square_most every p r q n)

  -- e ^ 0
  at_zero : (n : ℕ) → powers 0 q n ≡ D n
  unfolding every
  at_zero n = partial-zero (λ k. 1) q n ∙ one-mul (D n)

  -- e ^ (u t) ≤ (e ^ t) ^ u
  multiple_most : (p n u : ℕ) → powers (u * p) q n * D n ^ u ≤ powers p q n ^ u * D n
  multiple_most p n zero = rw (zero-mul p, at_zero n, pow-zero, pow-zero) (omega arith)
  multiple_most p n (suc u) = rw (pow-suc, pow-suc, split) (joined (powers (u * p + p) q n) (powers (u * p) q n) (powers p q n) (D n ^ u) (powers p q n ^ u) (D n) (sum_most (u * p) p n) (multiple_most p n u))
    where
      split : suc u * p ≡ u * p + p
      split = omega arith

      joined : (F G E K L d : ℕ) → F * d ≤ G * E → G * K ≤ L * d → F * (K * d) ≤ L * E * d
      joined F G E K L d h k = omega (arith, mul-le-mul_right K h, mul-le-mul_right E k)

  -- (e ^ t) ^ u ≤ e ^ (u t), with some larger order
  record Reaches (p n u : ℕ) : Type 0 where
    order : ℕ
    holds : powers p q n ^ u * D order ≤ powers (u * p) q order * D n ^ u

  multiple_least : (p n u : ℕ) → Reaches p n u
  multiple_least p n zero = record { order = n; holds = rw (zero-mul p, at_zero n, pow-zero, pow-zero) (omega arith) }
  multiple_least p n (suc u) =
      let r = multiple_least p n u in
      let m = max r.order n in
      record {
        order = m + m;
        holds =
            rw (pow-suc, pow-suc, split)
            (through (powers p q n ^ u * powers p q n) (D n ^ u * D n) (powers (u * p) q m * powers p q m) (D m * D m) (powers (u * p + p) q (m + m)) (D (m + m)) (one-le-mul (over_pos q m pos) (over_pos q m pos))
            (times (powers p q n ^ u) (D n ^ u) (powers (u * p) q m) (D m) (powers p q n) (D n) (powers p q m) (D m)
            (through (powers p q n ^ u) (D n ^ u) (powers (u * p) q r.order) (D r.order) (powers (u * p) q m) (D m) (over_pos q r.order pos) r.holds (partial_grows every (u * p) q r.order m (le-max_left r.order n)))
            (partial_grows every p q n m (le-max_right r.order n)))
            (product_most (u * p) p m));
      }
    where
      split : suc u * p ≡ u * p + p
      split = omega arith

-- ---- a larger argument
grown : (a b q n : ℕ) → a ≤ b → powers a q n ≤ powers b q n
unfolding partial every
grown a b q zero h = le_refl 1
grown a b q (suc n) h = more (mul-le-mul_right (suc n * q) (grown a b q n h)) (pow-le-pow_left h (suc n))
  where
    more : {x y z w : ℕ} → x ≤ y → z ≤ w → x + 1 * z ≤ y + 1 * w
    more k l = omega arith

-- p / q ≤ p' / q' gives e ^ (p / q) ≤ e ^ (p' / q')
pub argument_order : (p q p' q' n : ℕ) → 0 < q → 0 < q' → p * q' ≤ p' * q → powers p q n * denominator q' n ≤ powers p' q' n * denominator q n
argument_order p q p' q' n pos pos' h =
    le_of_mul-le-mul_right
    (crossed (powers p q n) (powers p' q' n) (denominator q n) (denominator q' n) (q ^ n) (q' ^ n) (rw (partial_scale every p q q' n, mul_comm q q', partial_scale every p' q' q n) at (grown (p * q') (p' * q) (q * q') n h)) same)
    (one-le-mul (one-le-pow n q pos) (one-le-pow n q' pos'))
  where
    same : denominator q n * q' ^ n ≡ denominator q' n * q ^ n
    same = sym (over_scale q q' n) ∙ ap (λ (x : ℕ). denominator x n) (mul_comm q q') ∙ over_scale q' q n

    crossed : (A B C E K L : ℕ) → A * L ≤ B * K → C * L ≡ E * K → A * E * (K * L) ≤ B * C * (K * L)
    crossed A B C E K L a e = omega (arith, mul-le-mul_right (E * K) a, ap (λ (x : ℕ). B * K * x) e)

-- ---- powers of two
module _ (L W : ℕ) (wpos : 0 < W) (u v : ℕ) (vpos : 0 < v) where
  qpos : 0 < W * v
  qpos = one-le-mul wpos vpos

  -- v times L u / (W v) is u L / W
  whole : (m : ℕ) → powers (v * (L * u)) (W * v) m ≡ powers (u * L) W m * v ^ m
  whole m = ap (λ (x : ℕ). powers x (W * v) m) (turned L u v) ∙ partial_scale every (u * L) W v m
    where
      turned : (x y z : ℕ) → z * (x * y) ≡ y * x * z
      turned x y z = omega arith

  -- where e ^ (L / W) is at most 2, e ^ (L u / (W v)) is at most 2 ^ (u / v)
  pub two_most : ((m : ℕ) → powers L W m ≤ 2 * denominator W m) → (n : ℕ) → AtMost (powers (L * u) (W * v) n) (denominator (W * v) n) u 0 v
  two_most low n = record { per = over_pos (W * v) n qpos; root = vpos; holds = rw (pow-zero 2, mul-one) (le_of_mul-le-mul_right bounded (over_pos (W * v) r.order qpos)) }
    where
      r : Reaches (W * v) qpos (L * u) n v
      r = multiple_least (W * v) qpos (L * u) n v

      multiple : (m : ℕ) → powers (u * L) W m ≤ 2 ^ u * denominator W m
      multiple m =
          le_of_mul-le-mul_right
          (le_trans (multiple_most W wpos L m u) (le_trans (mul-le-mul_right (denominator W m) (pow-le-pow_left (low m) u)) (le_of_eq (rw (mul-pow 2 (denominator W m) u) (turned (2 ^ u) (denominator W m ^ u) (denominator W m))))))
          (one-le-pow u (denominator W m) (over_pos W m wpos))
        where
          turned : (x y z : ℕ) → x * y * z ≡ x * z * y
          turned x y z = omega arith

      bounded : powers (L * u) (W * v) n ^ v * denominator (W * v) r.order ≤ 2 ^ u * denominator (W * v) n ^ v * denominator (W * v) r.order
      bounded =
          le_trans r.holds
          (rw (whole r.order, over_scale W v r.order) (spread (powers (u * L) W r.order) (2 ^ u) (denominator W r.order) (v ^ r.order) (denominator (W * v) n ^ v) (multiple r.order)))
        where
          spread : (A B C K E : ℕ) → A ≤ B * C → A * K * E ≤ B * E * (C * K)
          spread A B C K E h = omega (arith, mul-le-mul_right (K * E) h)

  -- where it is at least 2 by some partial sum, e ^ (L u / (W v)) is at least 2 ^ (u / v), from some partial sum on
  pub record TwoLeast : Type 0 where
    pub from : ℕ
    pub holds : (n : ℕ) → from ≤ n → AtLeast (powers (L * u) (W * v) n) (denominator (W * v) n) u 0 v

  pub two_least : (k : ℕ) → 2 * denominator W k ≤ powers L W k → TwoLeast
  two_least k high = record {
    from = o;
    holds = λ n l. record {
      per = over_pos (W * v) n qpos;
      root = vpos;
      holds = rw (pow-zero 2, mul-one) (le_of_mul-le-mul_right (onward (powers (L * u) (W * v) o) (powers (L * u) (W * v) n) (d o) (d n) (2 ^ u) rooted (partial_grows every (L * u) (W * v) o n l)) (one-le-pow v (d o) (over_pos (W * v) o qpos)));
    };
  }
    where
      r : Reaches W wpos L k u
      r = multiple_least W wpos L k u

      o : ℕ
      o = r.order

      d : ℕ → ℕ
      d = denominator (W * v)

      multiple : 2 ^ u * denominator W o ≤ powers (u * L) W o
      multiple =
          le_of_mul-le-mul_right
          (le_trans (le_of_eq (turned (2 ^ u) (denominator W o) (denominator W k ^ u)))
          (le_trans (mul-le-mul_right (denominator W o) (le_trans (le_of_eq (sym (mul-pow 2 (denominator W k) u))) (pow-le-pow_left high u))) r.holds))
          (one-le-pow u (denominator W k) (over_pos W k wpos))
        where
          turned : (x y z : ℕ) → x * y * z ≡ x * z * y
          turned x y z = omega arith

      rooted : 2 ^ u * d o ^ v ≤ powers (L * u) (W * v) o ^ v
      rooted =
          le_of_mul-le-mul_right
          (le_trans (spread (2 ^ u) (d o ^ v) (d o) (powers (v * (L * u)) (W * v) o) scaled) (multiple_most (W * v) qpos (L * u) o v)) (over_pos (W * v) o qpos)
        where
          scaled : 2 ^ u * d o ≤ powers (v * (L * u)) (W * v) o
          scaled = rw (whole o, over_scale W v o) (longer (2 ^ u) (denominator W o) (powers (u * L) W o) (v ^ o) multiple)
            where
              longer : (A B C K : ℕ) → A * B ≤ C → A * (B * K) ≤ C * K
              longer A B C K h = omega (arith, mul-le-mul_right K h)

          spread : (A B C E : ℕ) → A * C ≤ E → A * B * C ≤ E * B
          spread A B C E h = omega (arith, mul-le-mul_right B h)

      onward : (E F B C A : ℕ) → A * B ^ v ≤ E ^ v → E * C ≤ F * B → A * C ^ v * B ^ v ≤ F ^ v * B ^ v
      onward E F B C A h k = le_trans (le_of_eq (turned A (C ^ v) (B ^ v))) (le_trans (mul-le-mul_right (C ^ v) h) (rw (← mul-pow E C v, ← mul-pow F B v) (pow-le-pow_left k v)))
        where
          turned : (x y z : ℕ) → x * y * z ≡ x * z * y
          turned x y z = omega arith
