use Rattle.std.proofs.Common.{◌≡◌, refl, subst, ap, ◌∙◌}
use Rattle.cal_ast.specs.View.{type_tree}
use Rattle.cal_lexer.specs.Lexeme.{plain_tokens}
use Rattle.cal_grammar.specs.Refusals.{place_in}
use Rattle.cal_grammar.specs.Spells.{a_type}
use Rattle.cal_parser.specs.Stretch.{between, end_at, spells_as, IsRightlyAs}
use Rattle.cal_parser.proofs.AloneAnswers.{given_spelled, given_low, given_same, rightly, only_memory}
use Rattle.cal_parser.proofs.alone.parse_type.Goals as goal

pub returns-in-Ok : goal.returns-in-Ok
returns-in-Ok c =
    let ts = plain_tokens c.part-left.result.now in
    let left = plain_tokens c.type_alone.new.tokens.now in
    let found = type_tree c.in-Ok.found in
    let same : ts ≡ between c.args.from c.args.to c.args.tokens.now = c.part-left.ensures in
    record {
      spelled = subst (λ l. spells_as a_type l found) same (given_spelled a_type refl ts left found c.in-Ok.ensures);
      low = given_low a_type refl ts left found c.in-Ok.ensures;
      refused = tt;
      read = λ x h low. given_same a_type refl ts left found x c.in-Ok.ensures (rw same h) low;
    }

pub returns-in-Err : goal.returns-in-Err
returns-in-Err c =
    let ts = c.part-left.result.now in
    let left = c.type_alone.new.tokens.now in
    let same : plain_tokens ts ≡ between c.args.from c.args.to c.args.tokens.now = c.part-left.ensures in
    let at : c.place.result ≡ place_in (end_at c.args.to c.args.end c.args.tokens.now) (plain_tokens left) = c.place.ensures ∙ ap (λ e. place_in e (plain_tokens left)) c.end_of.ensures in
    record {
      spelled = tt;
      low = tt;
      refused = subst (λ l. IsRightlyAs a_type c.args.file (end_at c.args.to c.args.end c.args.tokens.now) l c.answer.result) same (rightly a_type refl c.args.file (end_at c.args.to c.args.end c.args.tokens.now) ts left c.in-Err.fault c.place.result c.answer.result c.in-Err.ensures at c.answer.ensures);
      read = λ x h low. only_memory a_type refl c.args.file (end_at c.args.to c.args.end c.args.tokens.now) ts left c.in-Err.fault c.place.result c.answer.result x c.in-Err.ensures c.answer.ensures (rw same h) low;
    }
