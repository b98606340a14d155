use Rattle.std.proofs.Common.{◌≡◌, false, sym}
use Rattle.std.specs.Prelude.{◌&&◌, ◌==◌, slice_index}
use Rattle.std.specs.Char.{is_ascii_hexdigit}
use Rattle.cal_lexer.proofs.Tokens.{read_number, next_decimal}
use Rattle.cal_lexer.proofs.number.number.Goals as goal

pub numeral-requires-clause-read : goal.numeral-requires-clause-read
numeral-requires-clause-read c =
    let text = c.args.text.now in
    let mark : ((slice_index text 0 == 48) && ((slice_index text 1 == 120) && is_ascii_hexdigit (slice_index text 2))) ≡ false = rw (← c.byte_at.ensures, ← c.byte_at-2.ensures, ← c.byte_at-3.ensures) (sym c.if-hex.ensures) in
    read_number _ text _ _ (next_decimal text _ c.requires.begins c.requires.digit c.digits_len-size.ensures mark) c.value.ensures
