-- `spectrum::words::Pair::turned` meets its contract: the two parts stay near 2 ^ 62, so that every sum fits.
-- Assumes nothing.
use Rattle.std.proofs.Common.{arith}
use Rattle.spectrum.proofs.Entries.{row}
use Rattle.spectrum.proofs.Room.{two_room, offset_room, enough, turned_back}
use Rattle.spectrum.proofs.words.Pair.turned.Goals as goal

pub overflow_add-result : goal.overflow_add-result
overflow_add-result c =
    let n = row (omega arith) c.row-w.ensures in
    omega (arith, two_room c.args.self.re c.args.self.im (omega arith) n c.requires.2 c.requires.3)

pub overflow_add-result-2 : goal.overflow_add-result-2
overflow_add-result-2 c =
    let n = row (omega arith) c.row-w.ensures in
    omega (arith, (turned_back c.args.self.re c.args.self.im (omega arith) n c.requires.2 c.requires.3).room_real.most)

pub overflow_add-result-3 : goal.overflow_add-result-3
overflow_add-result-3 c =
    let n = row (omega arith) c.row-w.ensures in
    omega (arith, offset_room c.args.self.re c.args.self.im (omega arith) n c.requires.2 c.requires.3)

pub overflow_sub-result : goal.overflow_sub-result
overflow_sub-result c =
    let n = row (omega arith) c.row-w.ensures in
    omega (arith, enough c.args.self.re c.args.self.im (omega arith) n c.requires.2 c.requires.3)

pub returns : goal.returns
returns c =
    let n = row (omega arith) c.row-w.ensures in
    rw (c.part.ensures, c.part-2.ensures, c.part-3.ensures, c.part-4.ensures)
    (turned_back c.args.self.re c.args.self.im (omega arith) n c.requires.2 c.requires.3)
