use Rattle.std.proofs.Common.{map, ap, sym}
use Rattle.cal_ast.specs.Tree.{listed}
use Rattle.cal_ast.specs.View.{pattern_tree}
use Rattle.cal_lexer.specs.Lexeme.{Lexeme}
use Rattle.cal_print.specs.Tokens.{joined}
use Rattle.cal_print.specs.Inputs.{input_words}
use Rattle.cal_print.proofs.Texts.{then, reword}
use Rattle.cal_print.proofs.Pieces.{said_of}
use Rattle.cal_print.proofs.action.print_inputs.Goals as goal

pub returns-then-action : goal.returns-then-action
returns-then-action c =
    reword c.put.ensures (ap (λ first. input_words first (listed (map pattern_tree c.args.action.now.patterns.items))) (sym c.if-action.true))

pub returns : goal.returns
returns c =
    reword (then c.put-2.ensures (said_of pattern_tree (joined Lexeme.Comma) c.deref.ensures.value c.print_joined.ensures))
    (ap (λ first. input_words first (listed (map pattern_tree c.args.action.now.patterns.items))) (sym c.if-action.false))
