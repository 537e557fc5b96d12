-- Cosine and sine of a sum, where those of one part are nearly the whole numbers α and β: by sums of the first n terms, cos (s + t) is near α cos s - β sin s and sin (s + t) near β cos s + α sin s.
use mathlib.Core.Path.{◌≡◌}
use Prim.Native.Nat.{ℕ, ◌+◌, ◌*◌, ◌≤◌, ◌<◌}
use native.Mathlib.Nat.{add_comm, mul-add, mul-le-mul_left}
use native.Mathlib.Omega.{arith}
use Rattle.exact.specs.Series.{partial, denominator, fourth}
use Rattle.exact.proofs.Series.{over_pos}
use Rattle.exact.proofs.Addition.{Added}
use Rattle.exact.proofs.Within.{Within, within_sym, within_mul, within_cancel}

-- up to the term n, cos (p / q) is within A / e of α and sin (p / q) within B / e of β
pub record Known (α β A B e p q n : ℕ) : Type 0 where
  pub cosine : Within (e * partial (fourth 0) p q n) (e * (partial (fourth 2) p q n + α * denominator q n)) (A * denominator q n)
  pub sine : Within (e * partial (fourth 1) p q n) (e * (partial (fourth 3) p q n + β * denominator q n)) (B * denominator q n)

-- up to the term n, cos (p / q) and sin (p / q) are at most K / N from zero
pub record Sized (K N p q n : ℕ) : Type 0 where
  pub cosine : Within (N * partial (fourth 0) p q n) (N * partial (fourth 2) p q n) (K * denominator q n)
  pub sine : Within (N * partial (fourth 1) p q n) (N * partial (fourth 3) p q n) (K * denominator q n)

-- up to the term n, cos (p' / q) and sin (p' / q) are within D / e of α cos (p / q) - β sin (p / q) and β cos (p / q) + α sin (p / q)
pub record Rotated (α β D e p p' q n : ℕ) : Type 0 where
  pub cosine :
      Within (e * (partial (fourth 0) p' q n + (α * partial (fourth 2) p q n + β * partial (fourth 1) p q n)))
      (e * (partial (fourth 2) p' q n + (α * partial (fourth 0) p q n + β * partial (fourth 3) p q n))) (D * denominator q n)
  pub sine :
      Within (e * (partial (fourth 1) p' q n + (β * partial (fourth 2) p q n + α * partial (fourth 3) p q n)))
      (e * (partial (fourth 3) p' q n + (β * partial (fourth 0) p q n + α * partial (fourth 1) p q n))) (D * denominator q n)

-- F o is at most a, and a at most e o o more
record Under (F a e o : ℕ) : Type 0 where
  least : F * o ≤ a
  most : a ≤ F * o + e * (o * o)

under : (N e F a c o : ℕ) → F * o ≤ a + c → e * (a + c) ≤ e * (F * o) + o * o → Under (N * e * F) (N * e * a + N * e * c) N o
under N e F a c o l m = record { least = omega (arith, mul-le-mul_left (N * e) l); most = omega (arith, mul-le-mul_left N m) }

-- F - F' is near i - j - (k - l), where F o and F' o are a + c' and a' + c, and a - a' and c - c' are near (i - j) o and (k - l) o
difference : (o N S T i j k l a a' c c' F F' : ℕ) → 0 < o → Within (a + j * o) (a' + i * o) (S * (o * o)) → Within (c + l * o) (c' + k * o) (T * (o * o)) →
    Under F (a + c') N o → Under F' (a' + c) N o → Within (F + (j + k)) (F' + (i + l)) ((N + (S + T)) * o)
difference o N S T i j k l a a' c c' F F' pos first second sum sum' = within_cancel o pos (record { least = omega arith; most = omega arith })

-- (x - x') (u - u') is near (x - x') α o, where u - u' is near α o
product : (o e N K A α x x' u u' : ℕ) → Within (N * x) (N * x') (K * o) → Within (e * u) (e * (u' + α * o)) (A * o) →
    Within (N * e * (x * u + x' * u') + N * e * (α * x') * o) (N * e * (x * u' + x' * u) + N * e * (α * x) * o) (K * A * (o * o))
product o e N K A α x x' u u' hx hu = let c = within_mul hx hu in record { least = omega (arith, c.least); most = omega (arith, c.most) }

-- F - F' is near (x - x') α - (y - y') β, where F o and F' o are the two halves of (x - x') (u - u') - (y - y') (v - v'), with u - u' near α o and v - v' near β o
products : (o e N K A B α β x x' y y' u u' v v' F F' : ℕ) → 0 < o →
    Within (N * x) (N * x') (K * o) → Within (N * y) (N * y') (K * o) → Within (e * u) (e * (u' + α * o)) (A * o) → Within (e * v) (e * (v' + β * o)) (B * o) →
    F * o ≤ x * u + x' * u' + (y * v' + y' * v) → e * (x * u + x' * u' + (y * v' + y' * v)) ≤ e * (F * o) + o * o →
    F' * o ≤ x * u' + x' * u + (y * v + y' * v') → e * (x * u' + x' * u + (y * v + y' * v')) ≤ e * (F' * o) + o * o →
    Within (N * e * (F + (α * x' + β * y))) (N * e * (F' + (α * x + β * y'))) ((N + (K * A + K * B)) * o)
products o e N K A B α β x x' y y' u u' v v' F F' pos hx hy hu hv l m l' m' =
    rw (mul-add, mul-add, mul-add, mul-add)
    (difference o N (K * A) (K * B) (N * e * (α * x)) (N * e * (α * x')) (N * e * (β * y)) (N * e * (β * y')) _ _ _ _ (N * e * F) (N * e * F') pos
    (product o e N K A α x x' u u' hx hu) (product o e N K B β y y' v v' hy hv) (under N e F _ _ o l m) (under N e F' _ _ o l' m'))

-- the sum of s, at which cosine and sine are at most K / N, and t, at which they are near α and β
pub rotated : {α β A B e N K p t q n : ℕ} → 0 < q → Added p t q e n → Sized K N p q n → Known α β A B e t q n → Rotated α β (N + (K * A + K * B)) (N * e) p (p + t) q n
rotated {α} {β} {A} {B} {e} {N} {K} {p} {t} {q} {n} pos h s k =
    record {
      cosine =
          products o e N K A B α β _ _ _ _ _ _ _ _ _ _ (over_pos q n pos) s.cosine s.sine k.cosine k.sine
          (rw plus at h.least0) (rw plus at h.most0) (rw plus at h.least2) (rw plus at h.most2);
      sine =
          rw (add_comm (K * A) (K * B))
          (products o e N K B A β α _ _ _ _ _ _ _ _ _ _ (over_pos q n pos) s.cosine (within_sym s.sine) k.sine k.cosine
          (rw minus at h.least1) (rw minus at h.most1) (rw minus at h.least3) (rw minus at h.most3));
    }
  where
    o : ℕ
    o = denominator q n

    plus : (a b c d : ℕ) → a + b + c + d ≡ a + c + (b + d)
    plus a b c d = omega arith

    minus : (a b c d : ℕ) → a + b + c + d ≡ a + c + (d + b)
    minus a b c d = omega arith
