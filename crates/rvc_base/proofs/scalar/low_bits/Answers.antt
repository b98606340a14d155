use Rattle.std.proofs.Common.{◌≡◌, of_z, ap, ◌∙◌}
use Rattle.std.proofs.lemmas.Int.{to_z-of_z}
use Rattle.rvc_base.specs.Width.{num_width}
use Rattle.rvc_base.proofs.LowBits.{masked}
use Rattle.rvc_base.proofs.scalar.low_bits.Goals as goal

pub returns : goal.returns
returns c =
    let bits : c.cast_unsigned.result ≡ of_z num_width c.args.v =
    c.cast_unsigned.ensures ∙ ap (of_z num_width) (to_z-of_z num_width c.args.v c.ranges.v) in
    masked c.args.size c.args.v c.cast_unsigned.result c.requires.small c.ranges.v bits
