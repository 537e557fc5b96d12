-- The numbers of a stretch, made from c and the count of its powers, and one test of all that is asked of them. Assumes nothing.
use mathlib.Core.Bool.{Bool, ◌&&◌}
use Prim.Native.Nat.{ℕ, suc, ◌+◌, ◌-◌, ◌*◌, ◌/◌}
use lib.Dec.{T, leb, eqb, leb→le, eqb→eq}
use lib.Ieee.Fits.{and_l, and_r}
use Rattle.gaps.proofs.Stretch.{Numbers}

module _ (O M τ g E C : ℕ) where
  -- all that `Numbers` asks
  unfoldable asked : ℕ → ℕ → ℕ → ℕ → ℕ → ℕ → ℕ → ℕ → Bool
  asked c n d lo u hi k w =
      leb (2 * (O * d) + c * c) (2 * (O * c) + n * (c * c)) && leb (n * n / 4 * (c * c)) (O * lo)
      && leb (2 * (O * (c + 2)) + n * ((c + 2) * (c + 2))) (2 * (O * (d + 8)) + (c + 2) * (c + 2)) && leb (n * n * n * ((c + 2) * (c + 2) * (c + 2))) (5 * (O * O * u))
      && leb (2 * (n * (c + 2))) O && leb (n * d) O && leb (2 * E + 25 * n + 3 * u) hi
      && eqb (k + (g + hi)) (τ + M * C) && leb (2 * O) k && leb (2 * g + lo + hi) w

  asked_numbers : (c N d lo u hi k w : ℕ) → T (asked c (suc N) d lo u hi k w) → Numbers O M τ g E C c N d lo u hi k w
  unfolding asked
  asked_numbers c N d lo u hi k w t =
      record {
        below = record { slope = leb→le _ _ (search (and_l, and_r) depth 10); bow = leb→le _ _ (search (and_l, and_r) depth 10) };
        above = record {
          slope = leb→le _ _ (search (and_l, and_r) depth 10);
          third = leb→le _ _ (search (and_l, and_r) depth 10);
          half = leb→le _ _ (search (and_l, and_r) depth 10);
          rise = leb→le _ _ (search (and_l, and_r) depth 10);
          sum = leb→le _ _ (search (and_l, and_r) depth 10);
        };
        target = eqb→eq _ _ (search (and_l, and_r) depth 10);
        beyond = leb→le _ _ (search (and_l, and_r) depth 10);
        width = leb→le _ _ (search (and_l, and_r) depth 10);
      }

  -- a slope, what the line is off below and above, the first target and the arc, each rounded to the safe side; whether they will do, and the arc is short enough to be worth a try
  module _ (c n : ℕ) where
    unfoldable pub slope_of : ℕ
    slope_of = c + (n - 1) * (c * c) / (2 * O)

    unfoldable pub bow_of : ℕ
    bow_of = n * n / 4 * (c * c) / O + 1

    unfoldable pub third_of : ℕ
    third_of = n * n * n * ((c + 2) * (c + 2) * (c + 2)) / (5 * (O * O)) + 1

    unfoldable pub over_of : ℕ
    unfolding third_of
    over_of = 2 * E + 25 * n + 3 * third_of

    unfoldable pub first_of : ℕ
    unfolding over_of
    first_of = τ + M * C - (g + over_of)

    unfoldable pub width_of : ℕ
    unfolding over_of bow_of
    width_of = 2 * g + bow_of + over_of

    unfoldable pub will_do : Bool
    unfolding asked slope_of bow_of third_of over_of first_of width_of
    will_do = leb (2 * (n * width_of)) M && asked c n slope_of bow_of third_of over_of first_of width_of

  pub numbers_of : (c N : ℕ) → T (will_do c (suc N)) →
      Numbers O M τ g E C c N (slope_of c (suc N)) (bow_of c (suc N)) (third_of c (suc N)) (over_of c (suc N)) (first_of c (suc N)) (width_of c (suc N))
  unfolding will_do
  numbers_of c N t = let n = suc N in asked_numbers c N (slope_of c n) (bow_of c n) (third_of c n) (over_of c n) (first_of c n) (width_of c n) (search (and_l, and_r))
