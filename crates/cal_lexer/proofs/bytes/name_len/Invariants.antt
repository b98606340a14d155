use Rattle.std.proofs.Common.{◌≡◌, true, take}
use Rattle.std.specs.List.{list_all}
use Rattle.cal_lexer.specs.Lexis.{goes_on_name}
use Rattle.cal_lexer.proofs.bytes.name_len.Given as goal

abbrev pub invariant-loop-i : goal.invariant-loop-i
invariant-loop-i l = list_all goes_on_name (take l.i l.text) ≡ true
