use Rattle.std.proofs.Common.{◌≡◌, ◌-◌, take, drop, length, ap, ◌∙◌, arith}
use Rattle.std.proofs.lemmas.List.{take_all, length-drop}
use Rattle.cal_lexer.specs.Lexeme.{plain_tokens}
use Rattle.cal_grammar.specs.Refusals.{place_in}
use Rattle.cal_parser.proofs.alone.end_of.Goals as goal

pub returns : goal.returns
returns c =
    let tokens = c.args.tokens.now in
    let to = c.args.to in
    let all : take (length tokens - to) (drop to tokens) ≡ drop to tokens = take_all (length tokens - to) (drop to tokens) (omega (arith, length-drop to tokens)) in
    c.place.ensures ∙ ap (λ l. place_in c.args.end (plain_tokens l)) all
