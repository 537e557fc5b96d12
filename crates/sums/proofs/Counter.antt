-- The counter of blocks of 64 products: what it holds after one block more, and what it adds up to in the end. Assumes nothing.
use mathlib.Core.Path.{◌≡◌, sym, ap, ap₂, ◌∙◌}
use mathlib.Core.Logic.{inl, inr}
use mathlib.Core.List.{List}
use Prim.Native.Nat.{ℕ, suc, ◌+◌, ◌-◌, ◌*◌, ◌/◌, ◌%◌, ◌^◌, ◌≤◌, ◌<◌}
use native.Mathlib.Nat.{sub-add_cancel, mul-le-mul_right, mod-lt, div-add-mod', div-mul-le_self, div-div-eq-div-mul}
use native.Mathlib.Omega.{arith}
use lib.Pow.{pow-add, pow_pos}
use lib.ListN.{length, get_or, drop, set, length-set}
use lib.Seq.{drop-drop, get_or-set_same, get_or-set_other}
use lib.Ieee.{Float, nan, binary32, add}
use Rattle.units.proofs.Naturals.{le-or-lt, pow_back, pow_split}
use Rattle.sums.specs.Dot.{Lengths, dot_of}
use Rattle.sums.specs.Value.{block_of, sum_of, Held}
use Rattle.sums.proofs.Pieces.{sum_some, piece}

-- ---- binary digits
next_power : (l : ℕ) → 2 ^ (l + 1) ≡ 2 ^ l * 2
next_power l = pow-add 2 l 1

larger-power : (l k : ℕ) → l < k → 2 ^ k ≡ 2 ^ (k - (l + 1)) * 2 * 2 ^ l
larger-power l k h = pow_split (l + 1) k (omega arith) ∙ through (2 ^ (l + 1)) (2 ^ l) (2 ^ (k - (l + 1))) (next_power l)
  where
    through : (v w x : ℕ) → v ≡ w * 2 → x * v ≡ x * 2 * w
    through v w x e = rw e (omega arith)

same_part : (x y w r : ℕ) → x * w ≡ y * w + r → r < w → x ≡ y
same_part x y w r e l = elim (le-or-lt x y) [
  | inl h ↦ elim (le-or-lt y x) [ inl g ↦ omega arith | inr g ↦ absurd (let m = mul-le-mul_right w g in omega arith) ]
  | inr h ↦ absurd (let m = mul-le-mul_right w h in omega arith)
]

-- up to 2 ^ 10 blocks have digits up to the tenth
pub in_counter : (n c l : ℕ) → n ≤ 1024 → (c + 1) * 2 ^ l ≤ n → l < 11
in_counter n c l h g = let d : l ≤ 10 = pow_back l 10 (fewer (2 ^ l) g) in omega arith
  where
    fewer : (w : ℕ) → (c + 1) * w ≤ n → w ≤ 1024
    fewer w f = omega arith

-- a number whose last 1 is the digit l has no 1 below it, and at l itself it is known what stands above
record Digits (c l q k r : ℕ) : Type 0 where
  at_least : l ≤ k
  here : k ≡ l → c ≡ 2 * q
  above : l < k → 0 < r

digits : (c l q k r : ℕ) → (c % 2 ≡ 1 → ⊥) → (c + 1) * 2 ^ l ≡ (2 * q + 1) * 2 ^ k + r → r < 2 ^ k → Digits c l q k r
digits c l q k r even e small = record {
  at_least = elim (le-or-lt l k) [ inl h ↦ h | inr h ↦ absurd (lower (2 ^ (l - (k + 1))) (2 ^ k) (larger-power k l h) e small) ];
  here = λ f. let g = same_part (c + 1) (2 * q + 1) (2 ^ l) r (rw f at e) (rw f at small) in omega arith;
  above = λ h. elim (le-or-lt 1 r) [ inl g ↦ g | inr g ↦ absurd (higher (2 ^ (k - (l + 1))) (2 ^ l) (pow_pos l) (larger-power l k h) e (omega arith)) ];
}
  where
    lower : (x w : ℕ) → 2 ^ l ≡ x * 2 * w → (c + 1) * 2 ^ l ≡ (2 * q + 1) * w + r → r < w → ⊥
    lower x w f g h = let s = same_part ((c + 1) * x * 2) (2 * q + 1) w r (omega (arith, rw f at g)) h in omega arith

    higher : (x w : ℕ) → 0 < w → 2 ^ k ≡ x * 2 * w → (c + 1) * w ≡ (2 * q + 1) * 2 ^ k + r → r ≡ 0 → ⊥
    higher x w p f g z = let s = same_part (c + 1) ((2 * q + 1) * x * 2) w 0 (omega (arith, rw f at g)) p in omega arith

module _ (a b : List Float) where
  -- 2 ^ l blocks behind the first p
  abbrev pub block_at : ℕ → ℕ → Float
  block_at l p = block_of (6 + l) (drop (64 * p) a) (drop (64 * p) b)

  neighbours : (l p : ℕ) → add binary32 (block_at l p) (block_at l (p + 2 ^ l)) ≡ block_at (l + 1) p
  unfolding block_of
  neighbours l p = ap (add binary32 (block_at l p)) (ap₂ (block_of (6 + l)) (further a) (further b)) ∙ ap (λ (k : ℕ). block_of k (drop (64 * p) a) (drop (64 * p) b)) one_more
    where
      one_more : suc (6 + l) ≡ 6 + (l + 1)
      one_more = omega arith

      further : (x : List Float) → drop (64 * (p + 2 ^ l)) x ≡ drop (2 ^ (6 + l)) (drop (64 * p) x)
      further x = sym (drop-drop (2 ^ (6 + l)) (64 * p) x ∙ ap (λ (n : ℕ). drop n x) place)
        where
          place : 64 * p + 2 ^ (6 + l) ≡ 64 * (p + 2 ^ l)
          place = omega (arith, pow-add 2 6 l)

  -- no block yet
  pub nothing_held : (held : List Float) → length held ≡ 11 → Held a b 0 held
  nothing_held held e = record { places = e; sums = λ l q r f small. absurd (some (2 ^ l) q r (pow_pos l) f) }
    where
      some : (w q r : ℕ) → 0 < w → 0 ≡ (2 * q + 1) * w + r → ⊥
      some w q r p f = omega arith

  module _ (i l c : ℕ) (held : List Float) {s : Float} (h : Held a b i held) (e : i + 1 ≡ (c + 1) * 2 ^ l) (f : s ≡ block_at l (c * 2 ^ l)) where
    -- a carry: the digit l of i is 1
    pub carry_on : c % 2 ≡ 1 → add binary32 (get_or held l nan) s ≡ block_at (l + 1) (c / 2 * 2 ^ (l + 1))
    carry_on odd =
        let p = pow_pos l in
        let n = next_power l in
        let t : c ≡ 2 * (c / 2) + 1 = omega arith in
        ap₂ (add binary32) (h.sums l (c / 2) (2 ^ l - 1) (first (c / 2) (2 ^ l) t p e) (omega arith)) (f ∙ ap (block_at l) (second (c / 2) (2 ^ l) t))
        ∙ neighbours l (2 * (c / 2) * 2 ^ l)
        ∙ ap (block_at (l + 1)) (third (c / 2) (2 ^ l) (2 ^ (l + 1)) n)
      where
        first : (d w : ℕ) → c ≡ 2 * d + 1 → 0 < w → i + 1 ≡ (c + 1) * w → i ≡ (2 * d + 1) * w + (w - 1)
        first d w t p e = let g = rw t at e in omega arith

        second : (d w : ℕ) → c ≡ 2 * d + 1 → c * w ≡ 2 * d * w + w
        second d w t = rw t (omega arith)

        third : (d w v : ℕ) → v ≡ w * 2 → 2 * d * w ≡ d * v
        third d w v n = rw n (omega arith)

    pub carry_place : c % 2 ≡ 1 → i + 1 ≡ (c / 2 + 1) * 2 ^ (l + 1)
    carry_place odd = e ∙ place (c / 2) (2 ^ l) (2 ^ (l + 1)) (omega arith) (next_power l)
      where
        place : (d w v : ℕ) → c ≡ 2 * d + 1 → v ≡ w * 2 → (c + 1) * w ≡ (d + 1) * v
        place d w v t n = rw (t, n) (omega arith)

    -- the end of carrying: the digit l of i is 0
    pub carry_end : l < 11 → (c % 2 ≡ 1 → ⊥) → Held a b (i + 1) (set held l s)
    carry_end low even = record { places = length-set held l s ∙ h.places; sums = sums }
      where
        sums : (k q r : ℕ) → i + 1 ≡ (2 * q + 1) * 2 ^ k + r → r < 2 ^ k → get_or (set held l s) k nan ≡ block_at k (2 * q * 2 ^ k)
        sums k q r g small =
            let room : l < length held = omega (arith, h.places) in
            let d = digits c l q k r even (sym e ∙ g) small in
            elim (le-or-lt k l) [
              | inl m ↦
                  let k-is : k ≡ l = omega (arith, d.at_least) in
                  rw k-is (get_or-set_same held l s nan room ∙ f ∙ ap (λ (n : ℕ). block_at l (n * 2 ^ l)) (d.here k-is))
              | inr m ↦
                  let p = d.above m in
                  get_or-set_other held l k s nan (λ z. omega arith) ∙ h.sums k q (r - 1) (omega arith) (omega arith)
            ]

  -- ---- what it holds in the end, from the lowest digit up
  -- the sum of what lies behind the first p blocks
  abbrev pub behind_at : ℕ → Float
  behind_at p = sum_of (drop (64 * p) a) (drop (64 * p) b)

  -- all blocks
  abbrev all : ℕ
  all = length a / 64

  module _ (lengths : Lengths a b) (l c : ℕ) {s : Float} (e : c ≡ all / 2 ^ l) (f : s ≡ behind_at (c * 2 ^ l)) where
    pub next_digit : c / 2 ≡ all / 2 ^ (l + 1)
    next_digit = ap (λ (n : ℕ). n / 2) e ∙ div-div-eq-div-mul all (2 ^ l) 2 ∙ ap (λ (n : ℕ). all / n) (sym (next_power l))

    pub held_digit : 0 < c → l < 11
    held_digit p = in_counter all (c - 1) l (omega (arith, lengths.most)) (rw (sub-add_cancel p, e) (div-mul-le_self all (2 ^ l)))

    -- the digit l of their number is 1
    pub collect_on : (held : List Float) → Held a b all held → c % 2 ≡ 1 → add binary32 (get_or held l nan) s ≡ behind_at (c / 2 * 2 ^ (l + 1))
    collect_on held h odd =
        let t : c ≡ 2 * (c / 2) + 1 = omega arith in
        let g : all ≡ c * 2 ^ l + all % 2 ^ l = rw e (sym (div-add-mod' all (2 ^ l))) in
        let p = places all (c / 2) (2 ^ l) (2 ^ (l + 1)) (2 ^ (6 + l)) (all % 2 ^ l) (omega arith) t (next_power l) (pow-add 2 6 l) g (mod-lt all (pow_pos l)) in
        piece a b lengths (6 + l) (64 * (c / 2 * 2 ^ (l + 1))) p.0 p.1
        (h.sums l (c / 2) (all % 2 ^ l) p.2 (mod-lt all (pow_pos l)) ∙ ap (block_at l) p.3)
        (f ∙ ap (λ (n : ℕ). sum_of (drop n a) (drop n b)) p.4)
      where
        places : (m d w v x r : ℕ) → m ≡ length a / 64 → c ≡ 2 * d + 1 → v ≡ w * 2 → x ≡ 64 * w → m ≡ c * w + r → r < w
            → (64 * (d * v) + x ≤ length a) × (length a ≤ 64 * (d * v) + x + x) × (m ≡ (2 * d + 1) * w + r) × (2 * d * w ≡ d * v) × (64 * (c * w) ≡ 64 * (d * v) + x)
        places m d w v x r b t n y g small =
            let g' = rw t at g in
            rw (n, y) (omega arith, omega arith, g', omega arith, rw t (omega arith))

    -- and where it is 0
    pub collect_off : (c % 2 ≡ 1 → ⊥) → s ≡ behind_at (c / 2 * 2 ^ (l + 1))
    collect_off even = f ∙ ap behind_at (place (c / 2) (2 ^ l) (2 ^ (l + 1)) (omega arith) (next_power l))
      where
        place : (d w v : ℕ) → c ≡ 2 * d → v ≡ w * 2 → c * w ≡ d * v
        place d w v t n = rw (t, n) (omega arith)

    -- no digit is left: the sum of all products
    pub collected : 64 ≤ length a → c ≤ 0 → s ≡ dot_of a b
    collected some none = f ∙ ap (λ (n : ℕ). sum_of (drop n a) (drop n b)) (start (2 ^ l)) ∙ sum_some a b (omega arith)
      where
        start : (w : ℕ) → 64 * (c * w) ≡ 0
        start w = let z : c ≡ 0 = omega arith in rw z (omega arith)
