-- `fine::fine` meets its contract: its loops are Horner's rule, and no sum leaves its word. Assumes nothing.
use Rattle.std.proofs.Common.{◌≡◌, ℕ, zero, suc, ◌+◌, ◌-◌, ◌*◌, ◌/◌, ◌^◌, ◌<◌, List, ◌∷◌, drop, get_or}
use Rattle.std.proofs.Common.{refl, sym, ap, ◌∙◌, subst, arith, lit<}
use Rattle.fixed.specs.Horner.{horner}
use Rattle.fixed.proofs.Horner.{horner-one, horner_step}
use Rattle.fixed.proofs.Chains.{altogether, horner_most}
use Rattle.fine.specs.Value.{coefficients, fine_of}
use Rattle.fine.specs.declared.TheConstants.{SHORT, LONG}
use Rattle.fine.proofs.Method.{U}
use Rattle.fine.proofs.fine.Goals as goal

-- the coefficients from the i-th on, counted from 0
abbrev from : ℕ → List ℕ
from i = drop i coefficients

-- c is the coefficient before those that cs has, and all together are below w: then so is what is made of them
record Next (w c : ℕ) (cs ds : List ℕ) : Type 0 where
  same : ds ≡ c ∷ cs
  room : altogether ds < w

short : (i : ℕ) → i < 5 → Next (2 ^ 32) (get_or SHORT i 0) (from (16 - i)) (from (16 - (i + 1)))
unfolding coefficients altogether
short zero h = record { same = refl; room = lit< tt }
short (suc zero) h = record { same = refl; room = lit< tt }
short (suc (suc zero)) h = record { same = refl; room = lit< tt }
short (suc (suc (suc zero))) h = record { same = refl; room = lit< tt }
short (suc (suc (suc (suc zero)))) h = record { same = refl; room = lit< tt }
short (suc (suc (suc (suc (suc i))))) h = absurd (omega arith)

long : (i : ℕ) → i < 11 → Next (2 ^ 64) (get_or LONG i 0) (from (11 - i)) (from (11 - (i + 1)))
unfolding coefficients altogether
long zero h = record { same = refl; room = lit< tt }
long (suc zero) h = record { same = refl; room = lit< tt }
long (suc (suc zero)) h = record { same = refl; room = lit< tt }
long (suc (suc (suc zero))) h = record { same = refl; room = lit< tt }
long (suc (suc (suc (suc zero)))) h = record { same = refl; room = lit< tt }
long (suc (suc (suc (suc (suc zero))))) h = record { same = refl; room = lit< tt }
long (suc (suc (suc (suc (suc (suc zero)))))) h = record { same = refl; room = lit< tt }
long (suc (suc (suc (suc (suc (suc (suc zero))))))) h = record { same = refl; room = lit< tt }
long (suc (suc (suc (suc (suc (suc (suc (suc zero)))))))) h = record { same = refl; room = lit< tt }
long (suc (suc (suc (suc (suc (suc (suc (suc (suc zero))))))))) h = record { same = refl; room = lit< tt }
long (suc (suc (suc (suc (suc (suc (suc (suc (suc (suc zero)))))))))) h = record { same = refl; room = lit< tt }
long (suc (suc (suc (suc (suc (suc (suc (suc (suc (suc (suc i))))))))))) h = absurd (omega arith)

-- one step of a loop, u the product that is cut off
step : {w c p u t : ℕ} {cs ds : List ℕ} → t < 2 ^ 64 → Next w c cs ds → p ≡ horner U cs t → u ≡ p * t / 2 ^ 64
    → (c + u ≡ horner U ds t) × (c + u < w)
step {w} {c} {p} {u} {t} {cs} {ds} few n h e =
    let made : c + u ≡ horner U ds t = rw n.same (horner_step U t c cs h (rw e refl)) in
    (made, omega (arith, made, horner_most U t (lit< tt) (omega arith) ds, n.room))

pub loop-c-init : goal.loop-c-init
unfolding coefficients
loop-c-init c = (sym (horner-one U _ _), omega arith)

pub overflow_add-word : goal.overflow_add-word
overflow_add-word c =
    let n = short c.loop-c.c-index c.loop-c-test.true in
    omega (arith, (step c.ranges.t.fits n c.loop-c.invariant.0 (rw c.from.ensures at c.upper.ensures.value)).1)

pub overflow_cast-word : goal.overflow_cast-word
overflow_cast-word c = omega arith

pub loop-c-preserved : goal.loop-c-preserved
loop-c-preserved c =
    let n = short c.loop-c.c-index c.loop-c-test.true in
    step c.ranges.t.fits n c.loop-c.invariant.0 (rw c.from.ensures at c.upper.ensures.value)

pub overflow_add-words : goal.overflow_add-words
overflow_add-words c =
    let n = long c.loop-c-2.c-index c.loop-c-2-test.true in
    omega (arith, (step c.ranges.t.fits n c.loop-c-2.invariant c.upper-in-loop-c-2.ensures.value).1)

pub loop-c-2-preserved : goal.loop-c-2-preserved
loop-c-2-preserved c =
    let n = long c.loop-c-2.c-index c.loop-c-2-test.true in
    (step c.ranges.t.fits n c.loop-c-2.invariant c.upper-in-loop-c-2.ensures.value).0

pub returns : goal.returns
unfolding fine_of
returns c =
    let last : c.loop-c-2.c-index ≡ 11 = omega arith in
    let made = subst (λ (i : ℕ). c.loop-c-2.words ≡ horner U (from (11 - i)) c.args.t) last c.loop-c-2.invariant in
    c.upper-2.ensures.value ∙ ap (λ (p : ℕ). p * c.args.t / 2 ^ 64) made
