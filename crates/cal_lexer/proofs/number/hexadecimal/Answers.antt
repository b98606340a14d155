use Rattle.std.proofs.Common.{◌≡◌, ◌+◌, ◌-◌, take, drop, ap, subst, arith}
use Rattle.std.proofs.lemmas.List.{take_all, length-drop}
use Rattle.std.specs.Char.{is_ascii_hexdigit}
use Rattle.cal_lexer.specs.Pieces.{IsRun}
use Rattle.cal_lexer.proofs.Tokens.{read_number, next_hex}
use Rattle.cal_lexer.proofs.number.hexadecimal.Goals as goal

pub numeral-requires-clause-read : goal.numeral-requires-clause-read
numeral-requires-clause-read c =
    let text = c.args.text.now in
    let h = c.hex_len-size.result in
    let size : h + 2 ≡ 2 + h = omega arith in
    let back : h + 2 - 2 ≡ h = omega arith in
    let run = subst (λ bytes. IsRun is_ascii_hexdigit bytes h) (take_all _ (drop 2 text) (omega (arith, length-drop 2 text))) c.hex_len-size.ensures in
    read_number _ text _ _ (next_hex text _ h c.requires.begins c.requires.zero c.requires.mark c.requires.digit run size _ (ap (λ k. take k (drop 2 text)) back)) c.value.ensures
