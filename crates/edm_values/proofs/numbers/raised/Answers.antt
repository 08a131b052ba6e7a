-- A number of 64 bits at the greatest scale fits in 128 bits.
use Rattle.std.proofs.Common.{◌^◌, ◌∙◌, ap, pos}
use Rattle.edm_values.proofs.NumberLaws.{raised_wide}
use Rattle.edm_values.proofs.numbers.raised.Goals as goal

pub returns-clause-size : goal.returns-clause-size
returns-clause-size c =
    raised_wide c.args.m c.from-2.result c.args.by (c.from-2.ensures ∙ ap pos (c.pow.ensures ∙ ap (λ k. 10 ^ k) c.from.ensures)) c.requires.size c.requires.power
