-- Where jobs start: at 2 ^ -k, which is a root of two, and at 1 - 2 ^ -k, which is a product of roots; and one step further. Assumes nothing.
use mathlib.Core.Path.{◌≡◌}
use Prim.Native.Nat.{ℕ, zero, suc, ◌+◌, ◌-◌, ◌*◌, ◌/◌, ◌^◌, ◌≤◌, ◌<◌}
use native.Mathlib.Nat.{le_of_eq, le_trans, pow-suc, zero-lt-suc}
use native.Mathlib.Omega.{arith}
use lib.Pow.{pow_pos, pow_mono, pow-add}
use Rattle.exact.proofs.Power.{pow-one}
use Rattle.gaps.proofs.Stretch.{Near}
use Rattle.gaps.proofs.Values.{rewritten, at_most_two, product}
use Rattle.gaps.proofs.Roots.{root, Good}

-- 2 ^ (1 - 2 ^ -k), the product of k roots, and how much it may be too low
unfoldable beneath : ℕ → ℕ → ℕ
unfolding root
beneath O zero = O
beneath O (suc k) = beneath O k * root O (suc k) / O

-- one step of 2 ^ -(k + d) after 2 ^ -k, and after 1 - 2 ^ -k
unfoldable pub after_root : (O k d : ℕ) → ℕ
unfolding root
after_root O k d = root O k * root O (k + d) / O

unfoldable pub after_beneath : (O k d : ℕ) → ℕ
unfolding beneath root
after_beneath O k d = beneath O k * root O (k + d) / O

-- n steps after 1 - 2 ^ -k are at most 1
pub beneath_within : (k d n : ℕ) → n ≤ 2 ^ d → (2 ^ k - 1) * 2 ^ d + n ≤ 2 ^ (k + d)
beneath_within k d n h = rw (pow-add 2 k d) (le_trans (omega arith) (le_of_eq (through (2 ^ k) (2 ^ d) (pow_pos k))))
  where
    through : (x y : ℕ) → 0 < x → (x - 1) * y + y ≡ x * y
    through zero y pos = absurd (omega arith)
    through (suc x) y pos = let e : suc x - 1 ≡ x = omega arith in rw e (omega arith)

module _ (O : ℕ) (opos : 0 < O) (known : ℕ) (good : (i : ℕ) → i ≤ known → Good O i) where
  -- one step more
  step_on : {A e p : ℕ} (q : ℕ) → 0 < q → q ≤ known → p ≤ 2 ^ q → Near A e O p (2 ^ q) → Near (A * root O q / O) (2 * e + 5) O (p + 1) (2 ^ q)
  step_on q pos less low near = product opos (root O q) near (at_most_two opos low near.most) (good q less).near ((good q less).fits pos)

  beneath_near : (k : ℕ) → k ≤ known → Near (beneath O k) (5 * (2 ^ k - 1)) O (2 ^ k - 1) (2 ^ k)
  unfolding beneath
  beneath_near zero less =
      record {
        most = record { per = opos; root = omega arith; holds = le_of_eq (rw (pow-one O) (omega arith)) };
        least = record { per = opos; root = omega arith; holds = le_of_eq (rw (pow-one (O + 0), pow-one O) (omega arith)) };
      }
  beneath_near (suc k) less =
      let doubts : 5 * (2 ^ suc k - 1) ≡ 2 * (5 * (2 ^ k - 1)) + 5 = omega (arith, pow-suc 2 k, pow_pos k) in
      let exponents : 2 ^ suc k - 1 ≡ 2 * (2 ^ k - 1) + 1 = omega (arith, pow-suc 2 k, pow_pos k) in
      rw (doubts, exponents)
      (step_on (suc k) (zero-lt-suc k) less (omega (arith, pow-suc 2 k)) (rewritten (pow_pos (suc k)) (rw (pow-suc 2 k) (through (2 ^ k) (2 ^ k - 1))) (beneath_near k (omega arith))))
    where
      through : (x y : ℕ) → y * (x * 2) ≡ 2 * y * x
      through x y = omega arith

  -- 2 ^ -k, and 1 - 2 ^ -k, over a larger denominator
  pub root_over : (k d : ℕ) → k ≤ known → Near (root O k) 2 O (2 ^ d) (2 ^ (k + d))
  root_over k d less = rewritten (pow_pos (k + d)) (rw (pow-add 2 k d) (omega arith)) (good k less).near

  beneath_over : (k d : ℕ) → k ≤ known → Near (beneath O k) (5 * (2 ^ k - 1)) O ((2 ^ k - 1) * 2 ^ d) (2 ^ (k + d))
  beneath_over k d less = rewritten (pow_pos (k + d)) (rw (pow-add 2 k d) (omega arith)) (beneath_near k less)

  module _ (k d : ℕ) (pos : 0 < k) (less : k + d ≤ known) where
    pub after_root_near : Near (after_root O k d) 9 O (2 ^ d + 1) (2 ^ (k + d))
    unfolding after_root
    after_root_near = step_on (k + d) (omega arith) less (pow_mono (omega arith)) (root_over k d (omega arith))

    pub after_beneath_near : Near (after_beneath O k d) (2 * (5 * (2 ^ k - 1)) + 5) O ((2 ^ k - 1) * 2 ^ d + 1) (2 ^ (k + d))
    unfolding after_beneath
    after_beneath_near = step_on (k + d) (omega arith) less (omega (arith, beneath_within k d 0 (omega arith))) (beneath_over k d (omega arith))
