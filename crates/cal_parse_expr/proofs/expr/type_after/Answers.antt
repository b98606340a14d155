use Rattle.std.proofs.Common.{◌≡◌, ◌-◌, Ok, Err, string_bytes, refl, sym, subst, ◌∙◌, rules}
use Rattle.cal_grammar.specs.Program.{Gave}
use Rattle.cal_ast.specs.View.{type_tree}
use Rattle.cal_lexer.specs.Lexeme.{plain_tokens}
use Rattle.cal_grammar.specs.Rules.{part, read, type_tail}
use Rattle.cal_grammar.specs.Spells.{a_type_arg, comma, separated}
use Rattle.cal_parse_expr.specs.Steps.{each_type_arg, tall_type}
use Rattle.cal_parse_base.specs.Tells.{TellsFault}
use Rattle.cal_parse_expr.proofs.Exits.{fault_answers, type_alone, type_ends, type_fault}
use Rattle.cal_parse_expr.proofs.Going.{tells_from}
use Rattle.cal_parse_expr.proofs.expr.type_after.Goals as goal

pub returns-then-not-is_word : goal.returns-then-not-is_word
returns-then-not-is_word c =
    let m = c.args.room in
    let old = c.args.tokens.now.now in
    let s = string_bytes c.args.name.text in
    let q = c.args.name.at in
    type_alone (read m (type_tail s q) (plain_tokens old)) m s q old refl (type_tree c.bare_type-found.result.shape) (sym c.is_word.ensures ∙ c.if-not-is_word.true) c.bare_type-found.ensures.is

pub returns-in_err-args : goal.returns-in_err-args
returns-in_err-args c =
    let m = c.args.room in
    let old = c.args.tokens.now.now in
    let l = c.take_word.new.tokens.now in
    let new = c.type_args.new.tokens.now in
    let s = string_bytes c.args.name.text in
    let q = c.args.name.at in
    let fault = c.in_err-args.field-0.0 in
    let h : TellsFault fault new (read (m - 1) (part (separated comma a_type_arg)) (plain_tokens l)) = subst (λ k. TellsFault fault new (read k (part (separated comma a_type_arg)) (plain_tokens l))) c.saturating_sub.ensures c.in_err-args.ensures.told in
    tells_from type_tree m (type_tail s q) c.from_residual.result old new
    (fault_answers type_tree (read m (type_tail s q) (plain_tokens old)) c.from_residual.result fault new (search rules)
    (type_fault (read m (type_tail s q) (plain_tokens old)) m s q old refl c.take_word.result l c.take_word.ensures fault new h))

pub returns-in_err-found : goal.returns-in_err-found
returns-in_err-found c =
    let m = c.args.room in
    let old = c.args.tokens.now.now in
    let l = c.take_word.new.tokens.now in
    let left = c.type_args.new.tokens.now in
    let new = c.closed_type.new.tokens.now in
    let s = string_bytes c.args.name.text in
    let q = c.args.name.at in
    let fault = c.in_err-found.field-0.0 in
    let xs = each_type_arg c.in_ok-args.args in
    let e : read (m - 1) (part (separated comma a_type_arg)) (plain_tokens l) ≡ Gave xs (plain_tokens left) = subst (λ k. read k (part (separated comma a_type_arg)) (plain_tokens l) ≡ Gave xs (plain_tokens left)) c.saturating_sub.ensures c.in_ok-args.ensures.told in
    tells_from type_tree m (type_tail s q) c.from_residual-in_err-found.result old new
    (fault_answers type_tree (read m (type_tail s q) (plain_tokens old)) c.from_residual-in_err-found.result fault new (search rules)
    (type_ends (read m (type_tail s q) (plain_tokens old)) m s q old refl c.take_word.result l c.take_word.ensures tall_type (Err fault) xs left new e c.in_err-found.ensures.told))

pub returns : goal.returns
returns c =
    let m = c.args.room in
    let old = c.args.tokens.now.now in
    let l = c.take_word.new.tokens.now in
    let left = c.type_args.new.tokens.now in
    let new = c.closed_type.new.tokens.now in
    let s = string_bytes c.args.name.text in
    let q = c.args.name.at in
    let xs = each_type_arg c.in_ok-args.args in
    let e : read (m - 1) (part (separated comma a_type_arg)) (plain_tokens l) ≡ Gave xs (plain_tokens left) = subst (λ k. read k (part (separated comma a_type_arg)) (plain_tokens l) ≡ Gave xs (plain_tokens left)) c.saturating_sub.ensures c.in_ok-args.ensures.told in
    type_ends (read m (type_tail s q) (plain_tokens old)) m s q old refl c.take_word.result l c.take_word.ensures tall_type (Ok c.in_ok-found.found) xs left new e c.in_ok-found.ensures.told
