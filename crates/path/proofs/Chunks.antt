-- The words of each band, in the list of all words. Assumes nothing.
use mathlib.Core.Path.{◌≡◌, refl, sym, ap, ◌∙◌}
use mathlib.Core.List.{List}
use Prim.Native.Nat.{ℕ, zero, suc, ◌+◌, ◌*◌, ◌<◌}
use native.Mathlib.Omega.{arith}
use lib.Dec.{lit<}
use lib.ListN.{length, get_or, drop}
use Rattle.std.specs.Simd.{first_chunks}
use Rattle.std.proofs.lemmas.List.{get_or-take, get_or-drop}
use Rattle.path.specs.Path.{lo, Band, Bands}
use Rattle.path.specs.Ready.{words_of, AllBands, current_at, current_of, Stepped, SteppedBy}

-- the word j of the chunk i
in_chunk : (n k : ℕ) (xs : List ℕ) (i j : ℕ) → i < k → j < n → get_or (words_of (first_chunks n k xs) i) j 0 ≡ get_or xs (n * i + j) 0
in_chunk n zero xs i j l h = absurd (omega arith)
in_chunk n (suc k) xs zero j l h = get_or-take n xs j 0 h ∙ ap (λ p. get_or xs p 0) (omega arith)
in_chunk n (suc k) xs (suc i) j l h = in_chunk n k (drop n xs) i j (omega arith) h ∙ get_or-drop n xs (n * i + j) 0 ∙ ap (λ p. get_or xs p 0) (omega arith)

-- six words of one list are those of another
module _ (ws vs : List ℕ) (i k : ℕ) (same : (j : ℕ) → j < 6 → get_or ws (6 * i + j) 0 ≡ get_or vs (6 * k + j) 0) where
  lows : lo ws i ≡ lo vs k
  lows = ap (λ p. get_or ws p 0) (omega arith) ∙ same 0 (lit< tt) ∙ ap (λ p. get_or vs p 0) (omega arith)

  same_band : (top : ℕ) → Band top ws i → Band top vs k
  same_band top b = record {
    order = rw (lows, same 1 (lit< tt)) at b.order;
    bins = rw (same 1 (lit< tt)) at b.bins;
    channel = rw (same 2 (lit< tt), same 3 (lit< tt), same 4 (lit< tt), same 5 (lit< tt)) at b.channel;
  }

  same_step : (ys : List ℕ) → current_at ys ws i ≡ current_at ys vs k
  unfolding current_at
  same_step ys = rw (lows, same 1 (lit< tt), same 2 (lit< tt), same 3 (lit< tt), same 4 (lit< tt), same 5 (lit< tt)) refl

-- a band by its own words, and by its place among all of them
module _ (bs : List ℕ) (k i : ℕ) (l : i < k) where
  words_are : (j : ℕ) → j < 6 → get_or (words_of (first_chunks 6 k bs) i) (6 * 0 + j) 0 ≡ get_or bs (6 * i + j) 0
  words_are j h = ap (λ p. get_or (words_of (first_chunks 6 k bs) i) p 0) (omega arith) ∙ in_chunk 6 k bs i j l h

  band_among : (top : ℕ) → Band top (words_of (first_chunks 6 k bs) i) 0 → Band top bs i
  band_among = same_band (words_of (first_chunks 6 k bs) i) bs 0 i words_are

  band_alone : (top : ℕ) → Band top bs i → Band top (words_of (first_chunks 6 k bs) i) 0
  band_alone = same_band bs (words_of (first_chunks 6 k bs) i) i 0 (λ j h. sym (words_are j h))

  same_current : (ys : List ℕ) → current_of ys (words_of (first_chunks 6 k bs) i) ≡ current_at ys bs i
  same_current = same_step (words_of (first_chunks 6 k bs) i) bs 0 i words_are

-- so all of them are bands by either
module _ (bs : List ℕ) (k : ℕ) (top : ℕ) where
  length_is : length (first_chunks 6 k bs) ≡ k
  length_is = go k bs
    where
      go : (k : ℕ) (xs : List ℕ) → length (first_chunks 6 k xs) ≡ k
      go zero xs = refl
      go (suc k) xs = ap (λ n. suc n) (go k (drop 6 xs))

  pub bands_among : AllBands top (first_chunks 6 k bs) → Bands top bs k
  bands_among h = record { each = λ i l. band_among bs k i l top (h.each i (omega (arith, length_is))) }

  pub bands_alone : Bands top bs k → AllBands top (first_chunks 6 k bs)
  bands_alone h = record { each = λ i l. let below : i < k = omega (arith, length_is) in band_alone bs k i below top (h.each i below) }

-- and so are their currents
pub stepped : (bs : List ℕ) (n : ℕ) (ys is : List ℕ) → SteppedBy ys (first_chunks 6 n bs) n is → Stepped ys bs n is
stepped bs n ys is h = record { as_many = h.as_many; each = λ i l. h.each i l ∙ same_current bs n i l ys }
