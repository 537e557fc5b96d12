-- `logs::rows::Row::at` meets its contract: four steps are Horner's rule on the row. Assumes nothing.
use Rattle.std.proofs.Common.{◌≡◌, ℕ, ◌+◌, ◌*◌, ◌/◌, List, [], ◌∷◌, length, get_or, sym, ap, ◌∙◌, mul_comm}
use Rattle.std.proofs.Common.{arith, rules}
use Rattle.fixed.specs.Horner.{horner}
use Rattle.fixed.proofs.Horner.{horner-one, horner_step}
use Rattle.logs.proofs.rows.Row.at.Goals as goal

module _ (D v : ℕ) where
  -- a step that multiplies from the left
  next : (c : ℕ) (cs : List ℕ) {p u : ℕ} → p ≡ horner D cs v → u ≡ v * p / D → c + u ≡ horner D (c ∷ cs) v
  next c cs {p} h e = horner_step D v c cs h (ap (λ (x : ℕ). c + x) (e ∙ ap (λ (x : ℕ). x / D) (mul_comm v p)))

  polynomial : (cs : List ℕ) (p q r s : ℕ) → length cs ≡ 5
      → p ≡ v * get_or cs 4 0 / D → q ≡ v * (get_or cs 3 0 + p) / D → r ≡ v * (get_or cs 2 0 + q) / D
      → s ≡ v * (get_or cs 1 0 + r) / D → get_or cs 0 0 + s ≡ horner D cs v
  polynomial (a ∷ b ∷ c ∷ d ∷ e ∷ []) p q r s five h i j k =
      next a _ (next b _ (next c _ (next d _ (sym (horner-one D e v)) h) i) j) k
  polynomial [] p q r s five h i j k = absurd (omega arith)
  polynomial (a ∷ []) p q r s five h i j k = absurd (omega arith)
  polynomial (a ∷ b ∷ []) p q r s five h i j k = absurd (omega arith)
  polynomial (a ∷ b ∷ c ∷ []) p q r s five h i j k = absurd (omega arith)
  polynomial (a ∷ b ∷ c ∷ d ∷ []) p q r s five h i j k = absurd (omega arith)
  polynomial (a ∷ b ∷ c ∷ d ∷ e ∷ f ∷ cs) p q r s five h i j k = absurd (omega arith)

pub returns : goal.returns
returns c =
    polynomial 4294967296 c.args.v c.args.self.coefficients _ _ _ _ (search rules)
    c.upper_product.ensures.value c.upper_product-2.ensures.value
    c.upper_product-3.ensures.value
    c.upper_product-4.ensures.value
