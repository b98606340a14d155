use Rattle.std.proofs.Common.{sym, ap, ◌∙◌, subst}
use Rattle.std.proofs.lemmas.Str.{IsUtf8-from_ascii}
use Rattle.cal_lexer.proofs.Tokens.{reserved_token, name_token, name_fault, name_ascii}
use Rattle.cal_lexer.specs.Lexis.{reserved}
use Rattle.cal_lexer.specs.Pieces.{IsToken}
use Rattle.cal_lexer.proofs.piece.word.Goals as goal

pub unreachable-requires : goal.unreachable-requires
unreachable-requires c = c.in_default.ensures.cases.0 (IsUtf8-from_ascii _ (name_ascii _ c.name_len-size.ensures.pass))

pub returns-in-Some : goal.returns-in-Some
returns-in-Some c = subst (IsToken c.args.text.now _) (sym c.kind.ensures) (reserved_token c.args.text.now _ _ _ c.requires.begins c.requires.named c.name_len-size.ensures c.in-Ok.ensures.cases.0 c.in-Some.ensures)

pub returns-then-size-gt-MAX_NAME : goal.returns-then-size-gt-MAX_NAME
returns-then-size-gt-MAX_NAME c = λ at. name_fault c.args.text.now _ _ at c.requires.begins c.requires.named c.name_len-size.ensures c.in-Ok.ensures.cases.0 (sym c.in_default-reserved.ensures) c.if-size-gt-MAX_NAME.true

pub returns : goal.returns
returns c =
    name_token c.args.text.now _ _ c.requires.begins c.requires.named c.name_len-size.ensures (c.in_ok-from_str.ensures.ok ∙ c.in-Ok.ensures.cases.0) (ap reserved c.in_ok-from_str.ensures.ok ∙ sym c.in_default-reserved.ensures) c.if-size-gt-MAX_NAME.false
