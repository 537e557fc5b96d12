-- How a call ends: what is accepted gets a current for each band, anything else a code and nothing else. Assumes nothing.
use mathlib.Core.Path.{◌≡◌, refl, sym, ap, ◌∙◌, subst}
use mathlib.Core.List.{List, []}
use Prim.Native.Nat.{ℕ, suc, ◌+◌, ◌-◌, ◌*◌, ◌%◌, ◌≤◌, ◌<◌, zero-le}
use native.Mathlib.Nat.{le_trans, le_of_eq}
use native.Mathlib.Omega.{arith}
use lib.ListN.{length, get_or}
use lib.Ieee.{Float}
use Rattle.units.specs.Units.{mag}
use Rattle.units.specs.Answers.{Ends}
use Rattle.units.proofs.Answers.{written, untouched}
use Rattle.units.proofs.Signs.{size-sum}
use Rattle.spectrum.specs.Difference.{Difference, times, size}
use Rattle.spectrum.specs.Table.{unit, cosine_below, sine_below}
use Rattle.spectrum.specs.Words.{FilledWith}
use Rattle.spectrum.specs.Transform.{at, units_of, turned_total, Turns}
use Rattle.spectrum.proofs.Differences as D
use Rattle.spectrum.proofs.Differences.{total-length}
use Rattle.spectrum.proofs.Cosines.{own_table}
use Rattle.loudness.specs.Value.{step_of}
use Rattle.path.specs.Path.{lo, hi, quietest, loudest, threshold, comfort, Lengths, Band, Bands, Samples, Accepts, product, power, in_sums, NearPath, path_error_num, path_error_den, as_they_are, Currents}
use Rattle.path.specs.Steps.{Products, modulus_of, real_size, imaginary_size, Moduli, envelope_of, sum_from, IsCurrent}
use Rattle.path.specs.Ready.{Small, current_at, Stepped}
use Rattle.path.proofs.Adding.{sum_same}
use Rattle.path.proofs.Samples.{small_of}
use Rattle.path.proofs.Envelopes.{envelope}
use Rattle.path.proofs.Ratios.{law}
use Rattle.path.proofs.Current.{near, silent}

-- ---- refusals
module _ (top : ℕ) (xs ws : List Float) (bs : List ℕ) (n : ℕ) {before : List ℕ} where
  nobody : (code : ℕ) → ¬ (code ≡ 0) → (¬ Lengths xs ws bs n → code ≡ 2) → (Lengths xs ws bs n → ¬ Bands top bs n → code ≡ 4) → (Lengths xs ws bs n → Bands top bs n → ¬ Samples xs ws → code ≡ 1) → ¬ Accepts top xs ws bs n → Ends as_they_are (Currents top xs ws bs n) code before before
  nobody code other a b c none = untouched code [] other (record {
    bad_length = a;
    bad_channel = b;
    out_of_range = c;
    success = λ h. absurd (none h);
    as_many = λ h. absurd (none h);
    at_least = λ h. absurd (none h);
    at_most = λ h. absurd (none h);
    near = λ h. absurd (none h);
    silence = λ h. absurd (none h);
    alone = λ h. absurd (none h);
  })

  pub refused_length : ¬ Lengths xs ws bs n → Ends as_they_are (Currents top xs ws bs n) 2 before before
  refused_length wrong = nobody 2 (λ e. omega arith) (λ h. refl) (λ l. absurd (wrong l)) (λ l. absurd (wrong l)) (λ a. wrong a.lengths)

  pub refused_band : Lengths xs ws bs n → ¬ Bands top bs n → Ends as_they_are (Currents top xs ws bs n) 4 before before
  refused_band l wrong = nobody 4 (λ e. omega arith) (λ h. absurd (h l)) (λ h g. refl) (λ h b. absurd (wrong b)) (λ a. wrong a.bands)

  pub refused_sample : Lengths xs ws bs n → Bands top bs n → ¬ Samples xs ws → Ends as_they_are (Currents top xs ws bs n) 1 before before
  refused_sample l b wrong = nobody 1 (λ e. omega arith) (λ h. absurd (h l)) (λ h g. absurd (g b)) (λ h g w. refl) (λ a. wrong a.samples)

-- ---- silence
nothing : (a b : Difference) → D.length a ≤ 0 → D.length (times a b) ≤ 0
nothing a b h = let p : a.plus ≡ 0 = omega arith in let m : a.minus ≡ 0 = omega arith in rw (p, m) (omega arith)

silent_total : (xs ws : List Float) → ((j : ℕ) → j < 128 → mag (at xs j) ≡ 0) → (t : ℕ → Difference) (k : ℕ) → size (turned_total (product xs ws) t k) ≡ 0
unfolding turned_total
silent_total xs ws quiet t k = none _ (total-length 0 (λ n. times (product xs ws n) (t (k * n % 128))) 128 (λ n l. nothing (product xs ws n) (t (k * n % 128)) (nothing (units_of (at xs n)) (units_of (at ws n)) (le_of_eq (size-sum (at xs n) ∙ quiet n l)))))
  where
    none : (d : Difference) → D.length d ≤ 128 * 0 → size d ≡ 0
    none d h = omega arith

silent_power : (xs ws : List Float) → ((j : ℕ) → j < 128 → mag (at xs j) ≡ 0) → (c s : ℕ → Difference) (k : ℕ) → power xs ws c s k ≤ 0
silent_power xs ws quiet c s k = rw (silent_total xs ws quiet c k, silent_total xs ws quiet s k) zero-le

-- ---- success
module _ (top : ℕ) (xs ws : List Float) (bs : List ℕ) (n : ℕ) (accepts : Accepts top xs ws bs n) (ys : List ℕ) (products : Products xs ws ys) (r : List ℕ) (count : length r ≡ 128) (fills : FilledWith ys 0 1 r) (gs : List ℕ) (moduli : Moduli r gs) (is : List ℕ)
    (stepped : Stepped gs bs n is) where
  small : (i : ℕ) → i < 128 → Small (at xs i) × Small (at ws i)
  small i l = (small_of (at xs i) (accepts.samples.sound i l), small_of (at ws i) (accepts.samples.window i l))

  module _ (i : ℕ) (l : i < n) where
    band : Band top bs i
    band = accepts.bands.each i l

    abbrev b : Float
    b = quietest bs i

    abbrev m : Float
    m = loudest bs i

    abbrev S : ℕ
    S = sum_from (λ k. get_or gs k 0) (lo bs i) (hi bs i)

    is_step : get_or is i 0 ≡ step_of b m (threshold bs i) (comfort bs i) (envelope_of S)
    unfolding current_at
    is_step = stepped.each i l

    at_least : threshold bs i ≤ get_or is i 0
    at_least = le_trans ((law top b m _ _ band.channel (envelope_of S) (envelope S)).at_least band.channel (envelope S)) (le_of_eq (sym is_step))

    at_most : get_or is i 0 ≤ comfort bs i
    at_most = le_trans (le_of_eq is_step) ((law top b m _ _ band.channel (envelope_of S) (envelope S)).at_most band.channel (envelope S))

    near_path : (c s : ℕ → Difference) (u : ℕ) → Turns c s u → NearPath (path_error_num top) path_error_den (power xs ws c s) (lo bs i) (hi bs i) (in_sums u b) (in_sums u m) (threshold bs i) (comfort bs i) (get_or is i 0)
    near_path c s u turns = subst (NearPath (path_error_num top) path_error_den (power xs ws c s) (lo bs i) (hi bs i) (in_sums u b) (in_sums u m) (threshold bs i) (comfort bs i)) (sym is_step) (near xs ws small ys products r count fills gs moduli c s u turns (lo bs i) (hi bs i) band.order band.bins top b m (threshold bs i) (comfort bs i) band.channel)

    silence : ((j : ℕ) → j < 128 → mag (at xs j) ≡ 0) → get_or is i 0 ≡ threshold bs i
    silence quiet = is_step ∙ silent xs ws small ys products r count fills gs moduli cosine_below sine_below unit own_table (lo bs i) (hi bs i) band.order band.bins top b m (threshold bs i) (comfort bs i) band.channel (λ k x y. silent_power xs ws quiet cosine_below sine_below k)

    alone : IsCurrent xs ws (lo bs i) (hi bs i) b m (threshold bs i) (comfort bs i) (get_or is i 0)
    alone = record {
      ys = ys;
      r = r;
      products = products;
      count = count;
      fills = fills;
      is = is_step ∙ ap (λ (s : ℕ). step_of b m (threshold bs i) (comfort bs i) (envelope_of s)) (sum_same (λ j. get_or gs (lo bs i + j) 0) (λ j. modulus_of (real_size r (lo bs i + j)) (imaginary_size r (lo bs i + j))) (suc (hi bs i) - lo bs i) (λ j h. moduli.each (lo bs i + j) (few (lo bs i) (hi bs i) band.bins h)));
    }
      where
        few : {j : ℕ} (a c : ℕ) → c ≤ 64 → j < suc c - a → a + j ≤ 64
        few a c h g = omega arith

  pub promised : {before : List ℕ} → Ends as_they_are (Currents top xs ws bs n) 0 before is
  promised = written is (record {
    bad_length = λ h. absurd (h accepts.lengths);
    bad_channel = λ h g. absurd (g accepts.bands);
    out_of_range = λ h g w. absurd (w accepts.samples);
    success = λ h. refl;
    as_many = λ h. stepped.as_many;
    at_least = λ h. at_least;
    at_most = λ h. at_most;
    near = λ h c s u turns i l. near_path i l c s u turns;
    silence = λ h quiet i l. silence i l quiet;
    alone = λ h. alone;
  }) refl
