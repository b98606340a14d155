use Rattle.std.proofs.Common.{◌≡◌, false, sym, subst}
use Rattle.std.specs.Prelude.{slice_index}
use Rattle.std.specs.Char.{is_ascii_digit}
use Rattle.cal_lexer.specs.Lexis.{begins_name}
use Rattle.cal_lexer.specs.Pieces.{IsToken}
use Rattle.cal_lexer.proofs.Fronts.{some_symbol, token_some}
use Rattle.cal_lexer.proofs.Tokens.{symbol_token}
use Rattle.cal_lexer.proofs.piece.token.Goals as goal

pub returns : goal.returns
returns c =
    let text = c.args.text.now in
    let name : begins_name (slice_index text 0) ≡ false = rw (← c.byte_at-first.ensures) (sym c.if-begins_name.ensures) in
    let digit : is_ascii_digit (slice_index text 0) ≡ false = rw (← c.byte_at-first.ensures) (sym c.if-is_ascii_digit.ensures.value) in
    subst (IsToken text _) (sym c.kind.ensures) (symbol_token text _ _ c.requires.begins name digit c.in-Some.ensures)

pub unreachable-requires : goal.unreachable-requires
unreachable-requires c =
    let text = c.args.text.now in
    let name : begins_name (slice_index text 0) ≡ false = rw (← c.byte_at-first.ensures) (sym c.if-begins_name.ensures) in
    let digit : is_ascii_digit (slice_index text 0) ≡ false = rw (← c.byte_at-first.ensures) (sym c.if-is_ascii_digit.ensures.value) in
    some_symbol text (token_some text c.requires.begins) name digit c.requires.dark c.requires.bare c.requires.known c.in-None.ensures.0 c.in-None.ensures.1
