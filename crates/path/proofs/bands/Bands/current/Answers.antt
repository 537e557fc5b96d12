-- `path::bands::Bands::current` meets its contract. Assumes nothing.
use mathlib.Core.Path.{sym, ap, ◌∙◌, subst}
use Rattle.loudness.specs.Map.{Envelope}
use Rattle.loudness.specs.Value.{step_of}
use Rattle.path.specs.Path.{quietest, loudest, threshold, comfort}
use Rattle.path.specs.Steps.{envelope_of}
use Rattle.path.specs.Ready.{words_of, current_at}
use Rattle.path.proofs.Channels.{readable, loud_bits, quiet_bits}
use Rattle.path.proofs.Envelopes.{envelope}
use Rattle.path.proofs.bands.Bands.current.Goals as goal

pub float_from_bits-channel : goal.float_from_bits-channel
float_from_bits-channel c =
    let a = c.args.self.now.accepted c.args.i c.requires in
    readable _ (quiet_bits _ _ (a.fits 2) (a.fits 3) a.band.channel.levels)

pub float_from_bits-channel-2 : goal.float_from_bits-channel-2
float_from_bits-channel-2 c =
    let a = c.args.self.now.accepted c.args.i c.requires in
    readable _ (loud_bits _ _ (a.fits 2) (a.fits 3) a.band.channel.levels)

pub step-requires : goal.step-requires
step-requires c = subst Envelope (sym c.envelope.ensures) (envelope _)

pub returns : goal.returns
unfolding current_at
returns c =
    let ws = words_of c.args.self.now.words.now c.args.i in
    let map = step_of (quietest ws 0) (loudest ws 0) (threshold ws 0) (comfort ws 0) in
    c.step.ensures ∙ ap map (c.envelope.ensures ∙ ap envelope_of c.sum.ensures)
