-- `path::hear` meets its contract: small samples make small words, and those parts that fit. Assumes nothing.
use mathlib.Core.List.{List}
use Prim.Native.Nat.{ℕ, ◌<◌}
use lib.Ieee.{Float}
use Rattle.spectrum.specs.Transform.{at}
use Rattle.path.specs.Ready.{Small, AllSmall}
use Rattle.path.proofs.Frames.{small_words, parts_few}
use Rattle.path.proofs.hear.Goals as goal

both : {xs ws : List Float} → AllSmall xs ws → (i : ℕ) → i < 128 → Small (at xs i) × Small (at ws i)
both s i l = (s.samples i l, s.window i l)

pub transform-requires : goal.transform-requires
transform-requires c = let f = c.args.frame.now in small_words f.x.now f.w.now (both f.small) c.products.new.y c.products.ensures

pub moduli-requires : goal.moduli-requires
moduli-requires c =
    let f = c.args.frame.now in
    record { few = parts_few f.x.now f.w.now (both f.small) c.products.new.y c.products.ensures c.transform.new.r c.transform.array_long c.transform.ensures }
