-- `path::currents` meets its contract: lengths, then bands, then samples. Assumes nothing.
use Rattle.std.specs.Prelude.{Err}
use Rattle.std.proofs.Common.{rules}
use mathlib.Core.Path.{◌≡◌, refl, sym, ap, ◌∙◌, subst}
use native.Mathlib.Omega.{arith}
use lib.ListN.{length}
use Rattle.std.specs.Simd.{first_chunks}
use Rattle.units.specs.declared.refusal.Refusal.TheVariants.{BadChannel}
use Rattle.path.specs.Path.{Lengths, Bands, Accepts}
use Rattle.path.specs.Ready.{AllBands, SteppedBy}
use Rattle.path.proofs.Chunks.{bands_among, bands_alone, stepped}
use Rattle.path.proofs.Samples.{samples_of, all_small}
use Rattle.path.proofs.Promise.{refused_length, refused_band, refused_sample, promised}
use Rattle.path.proofs.currents.Goals.{Else-not-is_empty, then-x-ne128-via-then-x-ne128}
use Rattle.path.proofs.currents.Goals.{then-x-ne128-via-else-x-ne128+then-w-ne128}
use Rattle.path.proofs.currents.Goals.{then-x-ne128-via-else-x-ne128+else-w-ne128+then-n-eq0}
use Rattle.path.proofs.currents.Goals.{then-x-ne128-via-else-x-ne128+else-w-ne128+else-n-eq0+then-n-gt65}
use Rattle.path.proofs.currents.Goals.{then-x-ne128-via-else-x-ne128+else-w-ne128+else-n-eq0+else-n-gt65+then-bands-n}
use Rattle.path.proofs.currents.Goals.{then-x-ne128-via-else-x-ne128+else-w-ne128+else-n-eq0+else-n-gt65+else-bands-n+then-not-is_empty}
use Rattle.path.proofs.currents.Goals as goal

pub returns-then-x-ne128 : goal.returns-then-x-ne128
returns-then-x-ne128 c =
    refused_length c.args.top c.args.x.now c.args.w.now c.args.bands.now (length c.args.out.now)
    (λ l. elim c.then-x-ne128.branch [
      | then-x-ne128-via-then-x-ne128 w ↦ w.if-x-ne128.true l.samples
      | then-x-ne128-via-else-x-ne128+then-w-ne128 w ↦ w.if-w-ne128.true l.window
      | then-x-ne128-via-else-x-ne128+else-w-ne128+then-n-eq0 w ↦ omega (arith, l.some, w.if-n-eq0.true)
      | then-x-ne128-via-else-x-ne128+else-w-ne128+else-n-eq0+then-n-gt65 w ↦
          omega (arith, l.few, w.if-n-gt65.true)
      | then-x-ne128-via-else-x-ne128+else-w-ne128+else-n-eq0+else-n-gt65+then-bands-n w ↦
          w.if-bands-n.true (omega (arith, l.words, c.as_chunks.ensures.front_len))
      | then-x-ne128-via-else-x-ne128+else-w-ne128+else-n-eq0+else-n-gt65+else-bands-n+then-not-is_empty w ↦
          search rules
    ])

-- behind the tests of lengths
lengths : (c : Else-not-is_empty) → Lengths c.args.x.now c.args.w.now c.args.bands.now (length c.args.out.now)
lengths c =
    let rest : length c.as_chunks.result.1.now ≡ 0 = search rules in
    record { samples = c.if-x-ne128.false; window = c.if-w-ne128.false; some = omega arith; few = c.if-n-gt65.false; words = omega arith }

-- each six of the words
chunks : (c : Else-not-is_empty) → c.as_chunks.result.0.now ≡ first_chunks 6 (length c.args.out.now) c.args.bands.now
chunks c = c.as_chunks.ensures.front ∙ ap (λ k. first_chunks 6 k c.args.bands.now) (sym c.as_chunks.ensures.front_len ∙ c.if-bands-n.false)

bands : (c : Else-not-is_empty) → AllBands c.args.top c.as_chunks.result.0.now → Bands c.args.top c.args.bands.now (length c.args.out.now)
bands c h = bands_among c.args.bands.now (length c.args.out.now) c.args.top (subst (AllBands c.args.top) (chunks c) h)

pub returns-in_err-bands : goal.returns-in_err-bands
returns-in_err-bands c =
    let at = (goal.at.returns-in_err-bands c).Else-not-is_empty in
    let bs = c.args.bands.now in
    let n = length c.args.out.now in
    let refused : c.from_residual.result ≡ Err BadChannel = search rules in
    rw refused (refused_band c.args.top c.args.x.now c.args.w.now bs n (lengths at) (λ h. c.in_err-bands.ensures.1 (subst (AllBands c.args.top) (sym (chunks at)) (bands_alone bs n c.args.top h))))

pub returns-then-not-accepts : goal.returns-then-not-accepts
returns-then-not-accepts c =
    let at = (goal.at.returns-then-not-accepts c).Else-not-is_empty in
    let xs = c.args.x.now in
    let ws = c.args.w.now in
    refused_sample c.args.top xs ws c.args.bands.now (length c.args.out.now) (lengths at) (bands at c.in_ok-bands.ensures.1) (λ h. c.if-not-accepts.ensures.if_false refl (all_small xs ws h))

pub returns : goal.returns
returns c =
    let at = (goal.at.returns c).Else-not-is_empty in
    let xs = c.args.x.now in
    let ws = c.args.w.now in
    let bs = c.args.bands.now in
    let n = length c.args.out.now in
    let h = c.hear.ensures in
    let accepts : Accepts c.args.top xs ws bs n = record { lengths = lengths at; bands = bands at c.in_ok-bands.ensures.1; samples = samples_of xs ws (c.if-not-accepts.ensures.if_true refl) } in
    promised c.args.top xs ws bs n accepts h.ys h.products h.r h.count h.fills h.gs h.moduli c.hear.new.out
    (stepped bs n h.gs c.hear.new.out (subst (λ cs. SteppedBy h.gs cs n c.hear.new.out) (c.in_ok-bands.ensures.0 ∙ chunks at) h.stepped))
