use Rattle.std.proofs.Common.{sym}
use Rattle.cal_lexer.proofs.Longest.{longest_three, longest_two, longest_one}
use Rattle.cal_lexer.proofs.symbols.longest_symbol.Goals as goal

pub returns-in-Some : goal.returns-in-Some
returns-in-Some c = longest_three _ _ c.in-Some.ensures

pub returns-in-Some-symbol_of_two : goal.returns-in-Some-symbol_of_two
returns-in-Some-symbol_of_two c = longest_two _ _ (sym c.in_default.ensures) c.in-Some-symbol_of_two.ensures

pub returns-in-Some-symbol_of_one : goal.returns-in-Some-symbol_of_one
returns-in-Some-symbol_of_one c = longest_one _ _ (sym c.in_default.ensures) (sym c.in_default-symbol_of_two.ensures) c.in-Some-symbol_of_one.ensures
