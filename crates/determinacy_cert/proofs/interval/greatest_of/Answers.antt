use Rattle.std.proofs.Common.{ap, ◌∙◌, ◌-◌, ◌-ℤ◌, ◌^◌, pos}
use Rattle.determinacy_cert.specs.Deciding.{numbered}
use Rattle.determinacy_cert.proofs.Corners.{great_power, power_less, unnumbered_is}
use Rattle.determinacy_cert.proofs.interval.greatest_of.Goals as goal

pub returns-then-bits-gt-MAX_SHIFT : goal.returns-then-bits-gt-MAX_SHIFT
returns-then-bits-gt-MAX_SHIFT c = unnumbered_is (pos (2 ^ c.args.bits) -ℤ pos 1) (great_power c.args.bits c.if-bits-gt-MAX_SHIFT.true)

pub returns : goal.returns
returns c = c.number_of.ensures ∙ ap (λ p. numbered (pos (p - 1))) c.power.ensures ∙ ap numbered (power_less c.args.bits)
