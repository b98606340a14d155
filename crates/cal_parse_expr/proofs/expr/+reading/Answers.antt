use Rattle.std.proofs.Common.{◌≡◌, None, true, false, ◌+◌, ◌-◌, ◌<◌, ◌≤◌, [], ◌∷◌, ◌++◌, length, map, string_bytes, vec_len, refl, sym, ap, ◌∙◌, subst, arith, rules}
use Rattle.cal_grammar.specs.Program.{Gave, check, take}
use Rattle.cal_ast.specs.Places.{begins}
use Rattle.cal_ast.specs.Tree.{index, listed, prefix}
use Rattle.cal_ast.specs.View.{expr_tree, gen_tree, type_arg_tree}
use Rattle.cal_lexer.specs.Lexeme.{Lexeme, plain_tokens}
use Rattle.cal_grammar.specs.Rules.{if_body, list_body, name_body, part, places, read}
use Rattle.cal_grammar.specs.Spells.{a_gen, a_primary, a_type, a_type_arg, an_expr, any, comma, level, separated}
use Rattle.cal_parse_base.specs.Pairs.{tall_tree}
use Rattle.cal_parse_expr.specs.Steps.{climbs, does, each_expr, each_gen, each_type_arg, number_step, tall_gen, tall_type, tall_type_arg, truth_step}
use Rattle.cal_parse_expr.proofs.Chains.{IsNested, climbed_first, climbed_high, climbed_last, climbed_more, climbed_right, climbed_tighter, indexed_fault, indexed_first, indexed_high, indexed_last, indexed_more, indexed_open, nested_fault, nested_first, nested_inner, nested_last, nested_more, nested_open, nested_place, operand_goes, prefix_goes, prefix_high}
use Rattle.cal_parse_expr.proofs.Exits.{Arg, Bracketed, Choice, Generator, Named, all_popped, arg_neither, arg_shape, arg_shaped, arg_value, arg_valued, bracketed_alone, bracketed_comp, bracketed_first, bracketed_gens, bracketed_led, bracketed_list, bracketed_others, choice_else, choice_ends, choice_led, choice_no, choice_test, choice_then, choice_yes, fault_answers, generator_dots, generator_ends, generator_from, generator_in, generator_name, generator_shape, generator_to, named_called, named_fault, named_led, opens_fault, popped, type_alone, type_ends, type_fault, word_less}
use Rattle.cal_parse_expr.proofs.Going.{answers_same, fault_on, gave_on, read_less}
use Rattle.cal_parse_base.proofs.Taking.{took_less}
use Rattle.cal_parse_expr.proofs.Primaries.{arg_fault, args_none, args_some, gen_fault, listed_fault, listed_first, listed_last, listed_more, named_alone, primary_false, primary_if, primary_list, primary_name, primary_none, primary_number, primary_true, type_goes, type_led, type_none}
use Rattle.cal_parse_expr.proofs.expr.+reading.Goals as goal

pub level_expr-returns-in_err-opens-clause-told : goal.level_expr-returns-in_err-opens-clause-told
level_expr-returns-in_err-opens-clause-told t c =
    fault_answers tall_tree (read c.args.room (part (level c.args.top)) (plain_tokens c.args.tokens.now.now)) c.from_residual.result c.in_err-opens.field-0.0 c.take_opens.new.tokens.now (search rules)
    (opens_fault (read c.args.room (part (level c.args.top)) (plain_tokens c.args.tokens.now.now)) c.in_err-opens.field-0.0 c.args.tokens.now.now c.take_opens.new.tokens.now c.in_err-opens.ensures)

pub level_expr-returns-in_err-found-clause-told : goal.level_expr-returns-in_err-found-clause-told
level_expr-returns-in_err-found-clause-told t c =
    fault_answers tall_tree (read c.args.room (part (level c.args.top)) (plain_tokens c.args.tokens.now.now)) c.from_residual-in_err-found.result c.in_err-found.field-0.0 c.operand.new.tokens.now (search rules)
    (nested_fault c.args.room c.args.top c.args.tokens.now.now c.take_opens.new.tokens.now c.in_ok-opens.opens.items c.in_err-found.field-0.0 c.operand.new.tokens.now c.in_ok-opens.ensures.0 c.in_err-found.ensures.told)

pub level_expr-pairs-init : goal.level_expr-pairs-init
level_expr-pairs-init t c = (nested_first c.args.room c.args.tokens.now.now c.take_opens.new.tokens.now c.operand.new.tokens.now c.in_ok-opens.opens.items (tall_tree c.in_ok-found.found) c.in_ok-opens.ensures.0 c.in_ok-found.ensures.told, c.in_ok-found.ensures.low)

pub level_expr-returns-in_err-inner-clause-told : goal.level_expr-returns-in_err-inner-clause-told
level_expr-returns-in_err-inner-clause-told t c =
    fault_answers tall_tree (read c.args.room (part (level c.args.top)) (plain_tokens c.args.tokens.now.now)) c.from_residual-in_err-inner.result c.in_err-inner.field-0.0 c.operations.new.tokens.now (search rules)
    (nested_inner c.args.room c.args.top c.args.tokens.now.now c.pop.new.self.items c.in-Some.at c.pairs.opens.items (popped c.pairs.opens.items c.pop.new.self.items c.pop.result c.in-Some.at c.pop.ensures.items c.in-Some.is) (tall_tree c.pairs.found) c.pairs.tokens.now c.pairs.invariant.0 c.in_err-inner.field-0.0 c.operations.new.tokens.now c.in_err-inner.ensures.told)

pub level_expr-returns-in_err-pair-clause-told : goal.level_expr-returns-in_err-pair-clause-told
level_expr-returns-in_err-pair-clause-told t c =
    fault_answers tall_tree (read c.args.room (part (level c.args.top)) (plain_tokens c.args.tokens.now.now)) c.from_residual-in_err-pair.result c.in_err-pair.field-0.0 c.close_pair.new.tokens.now (search rules)
    (nested_open c.args.room c.args.top c.args.tokens.now.now c.pop.new.self.items c.in-Some.at c.pairs.opens.items (popped c.pairs.opens.items c.pop.new.self.items c.pop.result c.in-Some.at c.pop.ensures.items c.in-Some.is) (tall_tree c.pairs.found) c.pairs.tokens.now c.pairs.invariant.0 (tall_tree c.in_ok-inner.inner) c.operations.new.tokens.now c.in_ok-inner.ensures.told c.in_err-pair.field-0.0 c.close_pair.new.tokens.now c.in_err-pair.ensures.told)

pub level_expr-returns-in_err-next-clause-told : goal.level_expr-returns-in_err-next-clause-told
level_expr-returns-in_err-next-clause-told t c =
    fault_answers tall_tree (read c.args.room (part (level c.args.top)) (plain_tokens c.args.tokens.now.now)) c.from_residual-in_err-next.result c.in_err-next.field-0.0 c.indexes.new.tokens.now (search rules)
    (nested_place c.args.room c.args.top c.args.tokens.now.now c.pop.new.self.items c.in-Some.at c.pairs.opens.items (popped c.pairs.opens.items c.pop.new.self.items c.pop.result c.in-Some.at c.pop.ensures.items c.in-Some.is) (tall_tree c.pairs.found) c.pairs.tokens.now c.pairs.invariant.0 (tall_tree c.in_ok-inner.inner) c.operations.new.tokens.now c.in_ok-inner.ensures.told (tall_tree c.in_ok-pair.pair) c.close_pair.new.tokens.now c.in_ok-pair.ensures.told c.in_err-next.field-0.0 c.indexes.new.tokens.now c.in_err-next.ensures.told)

pub level_expr-pairs-preserved : goal.level_expr-pairs-preserved
level_expr-pairs-preserved t c = (nested_more c.args.room c.args.top c.args.tokens.now.now c.pop.new.self.items c.in-Some.at c.pairs.opens.items (popped c.pairs.opens.items c.pop.new.self.items c.pop.result c.in-Some.at c.pop.ensures.items c.in-Some.is) (tall_tree c.pairs.found) c.pairs.tokens.now c.pairs.invariant.0 (tall_tree c.in_ok-inner.inner) c.operations.new.tokens.now c.in_ok-inner.ensures.told (tall_tree c.in_ok-pair.pair) c.close_pair.new.tokens.now c.in_ok-pair.ensures.told (tall_tree c.in_ok-next.next) c.indexes.new.tokens.now c.in_ok-next.ensures.told, c.in_ok-next.ensures.low)

pub level_expr-returns-clause-told : goal.level_expr-returns-clause-told
level_expr-returns-clause-told t c =
    let none : c.pairs.opens.items ≡ [] = all_popped c.pairs.opens.items (vec_len c.pairs.opens) None c.in_default.ensures.variant.1 c.pairs.opens.ok.0 refl in
    let i : IsNested c.args.room c.args.tokens.now.now [] (tall_tree c.pairs.found) c.pairs.tokens.now = subst (λ qs. IsNested c.args.room c.args.tokens.now.now qs (tall_tree c.pairs.found) c.pairs.tokens.now) none c.pairs.invariant.0 in
    answers_same tall_tree c.operations-2.result c.operations-2.new.tokens.now (read c.args.room (part (level c.args.top)) (plain_tokens c.args.tokens.now.now)) (climbs c.args.room 0 c.args.top (tall_tree c.pairs.found) (plain_tokens c.pairs.tokens.now)) (nested_last c.args.room c.args.top c.args.tokens.now.now c.pairs.tokens.now (tall_tree c.pairs.found) i) c.operations-2.ensures.told

pub operations-levels-init : goal.operations-levels-init
operations-levels-init t c = (climbed_first c.args.room c.args.top (tall_tree c.args.first) c.args.tokens.now.now, c.requires)

pub operations-levels-preserved-then-not-is_operator : goal.operations-levels-preserved-then-not-is_operator
operations-levels-preserved-then-not-is_operator t c = (climbed_tighter c.args.room c.args.top (tall_tree c.args.first) c.args.tokens.now.now c.levels.n (tall_tree c.levels.left) c.levels.tokens.now c.levels.invariant.0 (c.levels.n + 1) refl c.levels-test.true (sym c.is_operator.ensures ∙ c.if-not-is_operator.true), c.levels.invariant.1)

pub operations-returns-in_err-op-clause-told : goal.operations-returns-in_err-op-clause-told
operations-returns-in_err-op-clause-told t c =
    fault_answers tall_tree (climbs c.args.room 0 c.args.top (tall_tree c.args.first) (plain_tokens c.args.tokens.now.now)) c.from_residual.result c.in_err-op.field-0.0 c.take_operator.new.tokens.now (search rules)
    (climbed_high c.args.room c.args.top (tall_tree c.args.first) c.args.tokens.now.now c.levels.n (tall_tree c.levels.left) c.levels.tokens.now c.levels.invariant.0 c.levels.left.high c.in_err-op.field-0.0 c.take_operator.new.tokens.now c.levels-test.true (sym c.is_operator.ensures ∙ c.if-not-is_operator.false) c.levels.left.is_high c.in_err-op.ensures)

pub operations-returns-in_err-right-clause-told : goal.operations-returns-in_err-right-clause-told
operations-returns-in_err-right-clause-told t c =
    fault_answers tall_tree (climbs c.args.room 0 c.args.top (tall_tree c.args.first) (plain_tokens c.args.tokens.now.now)) c.from_residual-in_err-right.result c.in_err-right.field-0.0 c.level_expr.new.tokens.now (search rules)
    (climbed_right c.args.room c.args.top (tall_tree c.args.first) c.args.tokens.now.now c.levels.n (tall_tree c.levels.left) c.levels.tokens.now c.levels.invariant.0 c.in_ok-op.op c.in_err-right.field-0.0 c.take_operator.new.tokens.now c.level_expr.new.tokens.now c.levels-test.true c.in_ok-op.ensures.0 (omega (arith, c.in_ok-op.ensures.1, c.levels.left.is_high)) c.in_err-right.ensures.told)

pub operations-levels-preserved : goal.operations-levels-preserved
operations-levels-preserved t c = (climbed_more c.args.room c.args.top (tall_tree c.args.first) c.args.tokens.now.now c.levels.n (tall_tree c.levels.left) c.levels.tokens.now c.levels.invariant.0 c.in_ok-op.op c.take_operator.new.tokens.now c.level_expr.new.tokens.now (tall_tree c.in_ok-right.right) (tall_tree c.in_ok-next.next) c.levels-test.true c.in_ok-op.ensures.0 (omega (arith, c.in_ok-op.ensures.1, c.levels.left.is_high)) c.in_ok-right.ensures.told c.in_ok-next.ensures.is, c.in_ok-next.ensures.low)

pub operations-returns-clause-told : goal.operations-returns-clause-told
operations-returns-clause-told t c = climbed_last c.args.room c.args.top (tall_tree c.args.first) c.args.tokens.now.now c.levels.n (tall_tree c.levels.left) c.levels.tokens.now c.levels.invariant.0 c.levels-test.false

pub operations-levels-smaller : goal.operations-levels-smaller
operations-levels-smaller t c =
    let o = c.in_ok-op.ensures.0 in
    let taken : length c.take_operator.new.tokens.now < length c.levels.tokens.now = took_less o.kind o.at c.levels.tokens.now c.take_operator.new.tokens.now o.took in
    let less : length c.level_expr.new.tokens.now < length c.take_operator.new.tokens.now = read_less (c.args.room - 1) (level c.levels.n) c.take_operator.new.tokens.now c.level_expr.new.tokens.now (tall_tree c.in_ok-right.right) c.in_ok-right.ensures.told refl in
    omega arith

pub indexes-places-init : goal.indexes-places-init
indexes-places-init t c = (indexed_first c.args.room (tall_tree c.args.first) c.args.tokens.now.now, c.requires)

pub indexes-returns-then-base-room-clause-told : goal.indexes-returns-then-base-room-clause-told
indexes-returns-then-base-room-clause-told t c = indexed_high c.args.room (tall_tree c.args.first) c.args.tokens.now.now (tall_tree c.places.base) c.places.tokens.now c.places.invariant.0 (sym c.is_word.ensures ∙ c.places-test.true) (omega (arith, c.places.base.is_high))

pub indexes-returns-in_err-place-clause-told : goal.indexes-returns-in_err-place-clause-told
indexes-returns-in_err-place-clause-told t c =
    fault_answers tall_tree (read c.args.room (places (tall_tree c.args.first)) (plain_tokens c.args.tokens.now.now)) c.from_residual.result c.in_err-place.field-0.0 c.level_expr.new.tokens.now (search rules)
    (indexed_fault c.args.room (tall_tree c.args.first) c.args.tokens.now.now (tall_tree c.places.base) c.places.tokens.now c.places.invariant.0 c.take_word.result c.take_word.new.tokens.now c.take_word.ensures (omega (arith, c.places.base.is_high)) c.in_err-place.field-0.0 c.level_expr.new.tokens.now c.in_err-place.ensures.told)

pub indexes-returns-in_err-next-clause-told : goal.indexes-returns-in_err-next-clause-told
indexes-returns-in_err-next-clause-told t c =
    fault_answers tall_tree (read c.args.room (places (tall_tree c.args.first)) (plain_tokens c.args.tokens.now.now)) c.from_residual-in_err-next.result c.in_err-next.field-0.0 c.indexed.new.tokens.now (search rules)
    (indexed_open c.args.room (tall_tree c.args.first) c.args.tokens.now.now (tall_tree c.places.base) c.places.tokens.now c.places.invariant.0 c.take_word.result c.take_word.new.tokens.now c.take_word.ensures (omega (arith, c.places.base.is_high)) (tall_tree c.in_ok-place.place) c.level_expr.new.tokens.now c.in_err-next.field-0.0 c.indexed.new.tokens.now c.in_ok-place.ensures.told c.in_err-next.ensures.told)

pub indexes-places-preserved : goal.indexes-places-preserved
indexes-places-preserved t c = (indexed_more c.args.room (tall_tree c.args.first) c.args.tokens.now.now (tall_tree c.places.base) c.places.tokens.now c.places.invariant.0 c.take_word.result c.take_word.new.tokens.now c.take_word.ensures (omega (arith, c.places.base.is_high)) (tall_tree c.in_ok-place.place) (tall_tree c.in_ok-next.next) c.level_expr.new.tokens.now c.indexed.new.tokens.now c.in_ok-place.ensures.told c.in_ok-next.ensures.told, c.in_ok-next.ensures.low)

pub indexes-returns-clause-told : goal.indexes-returns-clause-told
indexes-returns-clause-told t c = indexed_last c.args.room (tall_tree c.args.first) c.args.tokens.now.now (tall_tree c.places.base) c.places.tokens.now c.places.invariant.0 (sym c.is_word.ensures ∙ c.places-test.false)

pub indexes-places-smaller : goal.indexes-places-smaller
indexes-places-smaller t c =
    let taken : length c.take_word.new.tokens.now < length c.places.tokens.now = took_less Lexeme.LeftBracket c.take_word.result c.places.tokens.now c.take_word.new.tokens.now c.take_word.ensures in
    let less : length c.level_expr.new.tokens.now < length c.take_word.new.tokens.now = read_less (c.args.room - 1) an_expr c.take_word.new.tokens.now c.level_expr.new.tokens.now (tall_tree c.in_ok-place.place) c.in_ok-place.ensures.told refl in
    let closed : length c.indexed.new.tokens.now ≤ length c.level_expr.new.tokens.now = word_less c.args.room Lexeme.RightBracket (index (tall_tree c.places.base) (tall_tree c.in_ok-place.place) (begins (tall_tree c.places.base))) c.level_expr.new.tokens.now (tall_tree c.in_ok-next.next) c.indexed.new.tokens.now c.in_ok-next.ensures.told in
    omega arith

pub operand-returns-in_err-operator-clause-told : goal.operand-returns-in_err-operator-clause-told
operand-returns-in_err-operator-clause-told t c =
    fault_answers tall_tree (read c.args.room (part (level 0)) (plain_tokens c.args.tokens.now.now)) c.from_residual.result c.in_err-operator.field-0.0 c.take_prefix.new.tokens.now (search rules)
    (prefix_high c.args.room c.in_err-operator.field-0.0 c.args.tokens.now.now c.take_prefix.new.tokens.now (sym c.is_prefix.ensures ∙ c.if-is_prefix.true) c.in_err-operator.ensures)

pub operand-returns-in_err-of-clause-told : goal.operand-returns-in_err-of-clause-told
operand-returns-in_err-of-clause-told t c =
    fault_answers tall_tree (read c.args.room (part (level 0)) (plain_tokens c.args.tokens.now.now)) c.from_residual-in_err-of.result c.in_err-of.field-0.0 c.level_expr.new.tokens.now (search rules)
    (fault_on (read c.args.room (part (level 0)) (plain_tokens c.args.tokens.now.now)) (read (c.args.room - 1) (part (level 0)) (plain_tokens c.take_prefix.new.tokens.now)) (λ x left. Gave (prefix c.in_ok-operator.operator.op x c.in_ok-operator.operator.at) left) c.in_err-of.field-0.0 c.level_expr.new.tokens.now (prefix_goes c.args.room c.in_ok-operator.operator c.args.tokens.now.now c.take_prefix.new.tokens.now c.in_ok-operator.ensures.0 c.in_ok-operator.ensures.1) c.in_err-of.ensures.told)

pub operand-returns-then-is_prefix-clause-told : goal.operand-returns-then-is_prefix-clause-told
operand-returns-then-is_prefix-clause-told t c = gave_on (read c.args.room (part (level 0)) (plain_tokens c.args.tokens.now.now)) (read (c.args.room - 1) (part (level 0)) (plain_tokens c.take_prefix.new.tokens.now)) (λ x left. Gave (prefix c.in_ok-operator.operator.op x c.in_ok-operator.operator.at) left) (tall_tree c.in_ok-of.of) (plain_tokens c.level_expr.new.tokens.now) (prefix_goes c.args.room c.in_ok-operator.operator c.args.tokens.now.now c.take_prefix.new.tokens.now c.in_ok-operator.ensures.0 c.in_ok-operator.ensures.1) c.in_ok-of.ensures.told ∙ ap (λ t. Gave t (plain_tokens c.level_expr.new.tokens.now)) (sym c.in_ok-found.ensures.is)

pub operand-returns-in_err-first-clause-told : goal.operand-returns-in_err-first-clause-told
operand-returns-in_err-first-clause-told t c =
    fault_answers tall_tree (read c.args.room (part (level 0)) (plain_tokens c.args.tokens.now.now)) c.from_residual-in_err-first.result c.in_err-first.field-0.0 c.primary.new.tokens.now (search rules)
    (fault_on (read c.args.room (part (level 0)) (plain_tokens c.args.tokens.now.now)) (read c.args.room (part a_primary) (plain_tokens c.args.tokens.now.now)) (λ z left. read c.args.room (places z) left) c.in_err-first.field-0.0 c.primary.new.tokens.now (operand_goes c.args.room c.args.tokens.now.now (sym c.is_prefix.ensures ∙ c.if-is_prefix.false)) c.in_err-first.ensures.told)

pub operand-returns-clause-told : goal.operand-returns-clause-told
operand-returns-clause-told t c = answers_same tall_tree c.indexes.result c.indexes.new.tokens.now (read c.args.room (part (level 0)) (plain_tokens c.args.tokens.now.now)) (read c.args.room (places (tall_tree c.in_ok-first.first)) (plain_tokens c.primary.new.tokens.now)) (gave_on (read c.args.room (part (level 0)) (plain_tokens c.args.tokens.now.now)) (read c.args.room (part a_primary) (plain_tokens c.args.tokens.now.now)) (λ z left. read c.args.room (places z) left) (tall_tree c.in_ok-first.first) (plain_tokens c.primary.new.tokens.now) (operand_goes c.args.room c.args.tokens.now.now (sym c.is_prefix.ensures ∙ c.if-is_prefix.false)) c.in_ok-first.ensures.told) c.indexes.ensures.told

pub primary-returns-then-is_number-clause-told : goal.primary-returns-then-is_number-clause-told
primary-returns-then-is_number-clause-told t c = answers_same tall_tree c.number.result c.number.new.tokens.now (read c.args.room (part a_primary) (plain_tokens c.args.tokens.now.now)) (does c.args.room number_step (plain_tokens c.args.tokens.now.now)) (primary_number c.args.room c.args.tokens.now.now (sym c.is_number.ensures ∙ c.if-is_number.true)) c.number.ensures.told

pub primary-returns-then-is_name-clause-told : goal.primary-returns-then-is_name-clause-told
primary-returns-then-is_name-clause-told t c = answers_same tall_tree c.named.result c.named.new.tokens.now (read c.args.room (part a_primary) (plain_tokens c.args.tokens.now.now)) (does c.args.room (check 1 (take name_body)) (plain_tokens c.args.tokens.now.now)) (primary_name c.args.room c.args.tokens.now.now (sym c.is_number.ensures ∙ c.if-is_number.false) (sym c.is_name.ensures ∙ c.if-is_name.true)) c.named.ensures.told

pub primary-returns-then-is_word-clause-told : goal.primary-returns-then-is_word-clause-told
primary-returns-then-is_word-clause-told t c = answers_same tall_tree c.truth.result c.truth.new.tokens.now (read c.args.room (part a_primary) (plain_tokens c.args.tokens.now.now)) (does c.args.room (truth_step true) (plain_tokens c.args.tokens.now.now)) (primary_true c.args.room c.args.tokens.now.now (sym c.is_number.ensures ∙ c.if-is_number.false) (sym c.is_name.ensures ∙ c.if-is_name.false) (sym c.is_word.ensures ∙ c.if-is_word.true)) c.truth.ensures.told

pub primary-returns-then-is_word-2-clause-told : goal.primary-returns-then-is_word-2-clause-told
primary-returns-then-is_word-2-clause-told t c = answers_same tall_tree c.truth-then-is_word-2.result c.truth-then-is_word-2.new.tokens.now (read c.args.room (part a_primary) (plain_tokens c.args.tokens.now.now)) (does c.args.room (truth_step false) (plain_tokens c.args.tokens.now.now)) (primary_false c.args.room c.args.tokens.now.now (sym c.is_number.ensures ∙ c.if-is_number.false) (sym c.is_name.ensures ∙ c.if-is_name.false) (sym c.is_word.ensures ∙ c.if-is_word.false) (sym c.is_word-2.ensures ∙ c.if-is_word-2.true)) c.truth-then-is_word-2.ensures.told

pub primary-returns-then-is_word-3-clause-told : goal.primary-returns-then-is_word-3-clause-told
primary-returns-then-is_word-3-clause-told t c = answers_same tall_tree c.choice.result c.choice.new.tokens.now (read c.args.room (part a_primary) (plain_tokens c.args.tokens.now.now)) (does c.args.room (check 1 (take if_body)) (plain_tokens c.args.tokens.now.now)) (primary_if c.args.room c.args.tokens.now.now (sym c.is_number.ensures ∙ c.if-is_number.false) (sym c.is_name.ensures ∙ c.if-is_name.false) (sym c.is_word.ensures ∙ c.if-is_word.false) (sym c.is_word-2.ensures ∙ c.if-is_word-2.false) c.requires (sym c.is_word-3.ensures ∙ c.if-is_word-3.true)) c.choice.ensures.told

pub primary-returns-then-is_word-4-clause-told : goal.primary-returns-then-is_word-4-clause-told
primary-returns-then-is_word-4-clause-told t c = answers_same tall_tree c.bracketed.result c.bracketed.new.tokens.now (read c.args.room (part a_primary) (plain_tokens c.args.tokens.now.now)) (does c.args.room (check 1 (take list_body)) (plain_tokens c.args.tokens.now.now)) (primary_list c.args.room c.args.tokens.now.now (sym c.is_number.ensures ∙ c.if-is_number.false) (sym c.is_name.ensures ∙ c.if-is_name.false) (sym c.is_word.ensures ∙ c.if-is_word.false) (sym c.is_word-2.ensures ∙ c.if-is_word-2.false) c.requires (sym c.is_word-3.ensures ∙ c.if-is_word-3.false) (sym c.is_word-4.ensures ∙ c.if-is_word-4.true)) c.bracketed.ensures.told

pub primary-returns-clause-told : goal.primary-returns-clause-told
primary-returns-clause-told t c = primary_none c.args.room c.args.tokens.now.now (sym c.is_number.ensures ∙ c.if-is_number.false) (sym c.is_name.ensures ∙ c.if-is_name.false) (sym c.is_word.ensures ∙ c.if-is_word.false) (sym c.is_word-2.ensures ∙ c.if-is_word-2.false) c.requires (sym c.is_word-3.ensures ∙ c.if-is_word-3.false) (sym c.is_word-4.ensures ∙ c.if-is_word-4.false)

pub named-returns-in_err-name-clause-told : goal.named-returns-in_err-name-clause-told
named-returns-in_err-name-clause-told t c =
    fault_answers tall_tree (Named c.args.room c.args.tokens.now.now) c.from_residual.result c.in_err-name.field-0.0 c.leading_name.new.tokens.now (search rules)
    (named_led c.args.room c.args.tokens.now.now c.in_err-name.field-0.0 c.leading_name.new.tokens.now c.in_err-name.ensures)

pub named-returns-then-not-is_word-clause-told : goal.named-returns-then-not-is_word-clause-told
named-returns-then-not-is_word-clause-told t c = named_alone c.args.room (string_bytes c.in_ok-name.name.text) c.in_ok-name.name.at c.args.tokens.now.now c.leading_name.new.tokens.now c.in_ok-name.ensures.0 c.in_ok-name.ensures.1 (sym c.is_word.ensures ∙ c.if-not-is_word.true) ∙ ap (λ t. Gave t (plain_tokens c.leading_name.new.tokens.now)) (sym c.in_ok-found.ensures.is)

pub named-returns-in_err-args-clause-told : goal.named-returns-in_err-args-clause-told
named-returns-in_err-args-clause-told t c =
    fault_answers tall_tree (Named c.args.room c.args.tokens.now.now) c.from_residual-in_err-args.result c.in_err-args.field-0.0 c.tall_args.new.tokens.now (search rules)
    (named_fault c.args.room (string_bytes c.in_ok-name.name.text) c.in_ok-name.name.at c.take_word.result c.args.tokens.now.now c.leading_name.new.tokens.now c.take_word.new.tokens.now c.in_ok-name.ensures.0 c.in_ok-name.ensures.1 c.take_word.ensures c.in_err-args.field-0.0 c.tall_args.new.tokens.now c.in_err-args.ensures.told)

pub named-returns-clause-told : goal.named-returns-clause-told
named-returns-clause-told t c = named_called c.args.room (string_bytes c.in_ok-name.name.text) c.in_ok-name.name.at c.take_word.result c.args.tokens.now.now c.leading_name.new.tokens.now c.take_word.new.tokens.now c.in_ok-name.ensures.0 c.in_ok-name.ensures.1 c.take_word.ensures tall_tree c.called.result (each_expr c.in_ok-args.args) c.tall_args.new.tokens.now c.called.new.tokens.now c.in_ok-args.ensures.told c.called.ensures.told

pub choice-returns-in_err-at-clause-told : goal.choice-returns-in_err-at-clause-told
choice-returns-in_err-at-clause-told t c =
    fault_answers tall_tree (Choice c.args.room c.args.tokens.now.now) c.from_residual.result c.in_err-at.field-0.0 c.leading_word.new.tokens.now (search rules)
    (choice_led c.args.room c.args.tokens.now.now c.in_err-at.field-0.0 c.leading_word.new.tokens.now c.in_err-at.ensures)

pub choice-returns-in_err-test-clause-told : goal.choice-returns-in_err-test-clause-told
choice-returns-in_err-test-clause-told t c =
    fault_answers tall_tree (Choice c.args.room c.args.tokens.now.now) c.from_residual-in_err-test.result c.in_err-test.field-0.0 c.level_expr.new.tokens.now (search rules)
    (choice_test c.args.room c.in_ok-at.at c.args.tokens.now.now c.leading_word.new.tokens.now c.in_ok-at.ensures.0 c.in_ok-at.ensures.1 c.in_err-test.field-0.0 c.level_expr.new.tokens.now c.in_err-test.ensures.told)

pub choice-returns-in_err-expect-clause-told : goal.choice-returns-in_err-expect-clause-told
choice-returns-in_err-expect-clause-told t c =
    fault_answers tall_tree (Choice c.args.room c.args.tokens.now.now) c.from_residual-in_err-expect.result c.in_err-expect.field-0.0 c.expect.new.tokens.now (search rules)
    (choice_then c.args.room c.in_ok-at.at c.args.tokens.now.now c.leading_word.new.tokens.now c.in_ok-at.ensures.0 c.in_ok-at.ensures.1 (tall_tree c.in_ok-test.test) c.level_expr.new.tokens.now c.in_ok-test.ensures.told c.in_err-expect.field-0.0 c.expect.new.tokens.now c.in_err-expect.ensures)

pub choice-returns-in_err-yes-clause-told : goal.choice-returns-in_err-yes-clause-told
choice-returns-in_err-yes-clause-told t c =
    fault_answers tall_tree (Choice c.args.room c.args.tokens.now.now) c.from_residual-in_err-yes.result c.in_err-yes.field-0.0 c.level_expr-2.new.tokens.now (search rules)
    (choice_yes c.args.room c.in_ok-at.at c.args.tokens.now.now c.leading_word.new.tokens.now c.in_ok-at.ensures.0 c.in_ok-at.ensures.1 (tall_tree c.in_ok-test.test) c.level_expr.new.tokens.now c.in_ok-test.ensures.told c.in_ok-expect.field-0 c.expect.new.tokens.now c.in_ok-expect.ensures c.in_err-yes.field-0.0 c.level_expr-2.new.tokens.now c.in_err-yes.ensures.told)

pub choice-returns-in_err-expect-2-clause-told : goal.choice-returns-in_err-expect-2-clause-told
choice-returns-in_err-expect-2-clause-told t c =
    fault_answers tall_tree (Choice c.args.room c.args.tokens.now.now) c.from_residual-in_err-expect-2.result c.in_err-expect-2.field-0.0 c.expect-2.new.tokens.now (search rules)
    (choice_else c.args.room c.in_ok-at.at c.args.tokens.now.now c.leading_word.new.tokens.now c.in_ok-at.ensures.0 c.in_ok-at.ensures.1 (tall_tree c.in_ok-test.test) c.level_expr.new.tokens.now c.in_ok-test.ensures.told c.in_ok-expect.field-0 c.expect.new.tokens.now c.in_ok-expect.ensures (tall_tree c.in_ok-yes.yes) c.level_expr-2.new.tokens.now c.in_ok-yes.ensures.told c.in_err-expect-2.field-0.0 c.expect-2.new.tokens.now c.in_err-expect-2.ensures)

pub choice-returns-in_err-no-clause-told : goal.choice-returns-in_err-no-clause-told
choice-returns-in_err-no-clause-told t c =
    fault_answers tall_tree (Choice c.args.room c.args.tokens.now.now) c.from_residual-in_err-no.result c.in_err-no.field-0.0 c.level_expr-3.new.tokens.now (search rules)
    (choice_no c.args.room c.in_ok-at.at c.args.tokens.now.now c.leading_word.new.tokens.now c.in_ok-at.ensures.0 c.in_ok-at.ensures.1 (tall_tree c.in_ok-test.test) c.level_expr.new.tokens.now c.in_ok-test.ensures.told c.in_ok-expect.field-0 c.expect.new.tokens.now c.in_ok-expect.ensures (tall_tree c.in_ok-yes.yes) c.level_expr-2.new.tokens.now c.in_ok-yes.ensures.told c.in_ok-expect-2.field-0 c.expect-2.new.tokens.now c.in_ok-expect-2.ensures c.in_err-no.field-0.0 c.level_expr-3.new.tokens.now c.in_err-no.ensures.told)

pub choice-returns-clause-told : goal.choice-returns-clause-told
choice-returns-clause-told t c = choice_ends c.args.room c.in_ok-at.at c.args.tokens.now.now c.leading_word.new.tokens.now c.in_ok-at.ensures.0 c.in_ok-at.ensures.1 (tall_tree c.in_ok-test.test) c.level_expr.new.tokens.now c.in_ok-test.ensures.told c.in_ok-expect.field-0 c.expect.new.tokens.now c.in_ok-expect.ensures (tall_tree c.in_ok-yes.yes) c.level_expr-2.new.tokens.now c.in_ok-yes.ensures.told c.in_ok-expect-2.field-0 c.expect-2.new.tokens.now c.in_ok-expect-2.ensures tall_tree c.conditional.result (tall_tree c.in_ok-no.no) c.level_expr-3.new.tokens.now c.conditional.new.tokens.now c.in_ok-no.ensures.told c.conditional.ensures.told

pub bracketed-returns-in_err-at-clause-told : goal.bracketed-returns-in_err-at-clause-told
bracketed-returns-in_err-at-clause-told t c =
    fault_answers tall_tree (Bracketed c.args.room c.args.tokens.now.now) c.from_residual.result c.in_err-at.field-0.0 c.leading_word.new.tokens.now (search rules)
    (bracketed_led c.args.room c.args.tokens.now.now c.in_err-at.field-0.0 c.leading_word.new.tokens.now c.in_err-at.ensures)

pub bracketed-returns-in_err-first-clause-told : goal.bracketed-returns-in_err-first-clause-told
bracketed-returns-in_err-first-clause-told t c =
    fault_answers tall_tree (Bracketed c.args.room c.args.tokens.now.now) c.from_residual-in_err-first.result c.in_err-first.field-0.0 c.level_expr.new.tokens.now (search rules)
    (bracketed_first c.args.room c.in_ok-at.at c.args.tokens.now.now c.leading_word.new.tokens.now c.in_ok-at.ensures.0 c.in_ok-at.ensures.1 c.in_err-first.field-0.0 c.level_expr.new.tokens.now c.in_err-first.ensures.told)

pub bracketed-returns-in_err-gens-clause-told : goal.bracketed-returns-in_err-gens-clause-told
bracketed-returns-in_err-gens-clause-told t c =
    fault_answers tall_tree (Bracketed c.args.room c.args.tokens.now.now) c.from_residual-in_err-gens.result c.in_err-gens.field-0.0 c.tall_gens.new.tokens.now (search rules)
    (bracketed_gens c.args.room c.in_ok-at.at c.args.tokens.now.now c.leading_word.new.tokens.now c.in_ok-at.ensures.0 c.in_ok-at.ensures.1 (tall_tree c.in_ok-first.first) c.level_expr.new.tokens.now c.in_ok-first.ensures.told c.take_word.result c.take_word.new.tokens.now c.take_word.ensures c.in_err-gens.field-0.0 c.tall_gens.new.tokens.now c.in_err-gens.ensures.told)

pub bracketed-returns-then-is_word-clause-told : goal.bracketed-returns-then-is_word-clause-told
bracketed-returns-then-is_word-clause-told t c = bracketed_comp c.args.room c.in_ok-at.at c.args.tokens.now.now c.leading_word.new.tokens.now c.in_ok-at.ensures.0 c.in_ok-at.ensures.1 (tall_tree c.in_ok-first.first) c.level_expr.new.tokens.now c.in_ok-first.ensures.told c.take_word.result c.take_word.new.tokens.now c.take_word.ensures tall_tree c.comprehension.result (each_gen c.in_ok-gens.gens) c.tall_gens.new.tokens.now c.comprehension.new.tokens.now c.in_ok-gens.ensures.told c.comprehension.ensures.told

pub bracketed-returns-then-not-is_word-clause-told : goal.bracketed-returns-then-not-is_word-clause-told
bracketed-returns-then-not-is_word-clause-told t c = bracketed_alone c.args.room c.in_ok-at.at c.args.tokens.now.now c.leading_word.new.tokens.now c.in_ok-at.ensures.0 c.in_ok-at.ensures.1 (tall_tree c.in_ok-first.first) c.level_expr.new.tokens.now c.in_ok-first.ensures.told tall_tree c.listing.result (each_expr c.in_ok-alone.alone) c.listing.new.tokens.now (sym c.is_word.ensures ∙ c.if-is_word.false) (sym c.is_word-2.ensures ∙ c.if-not-is_word.true) (ap listed c.in_ok-alone.ensures.is ∙ ap (λ l. listed (l ++ tall_tree c.in_ok-first.first ∷ [])) c.no_exprs.ensures.is) c.listing.ensures.told

pub bracketed-returns-in_err-others-clause-told : goal.bracketed-returns-in_err-others-clause-told
bracketed-returns-in_err-others-clause-told t c =
    fault_answers tall_tree (Bracketed c.args.room c.args.tokens.now.now) c.from_residual-in_err-others.result c.in_err-others.field-0.0 c.tall_exprs.new.tokens.now (search rules)
    (bracketed_others c.args.room c.in_ok-at.at c.args.tokens.now.now c.leading_word.new.tokens.now c.in_ok-at.ensures.0 c.in_ok-at.ensures.1 (tall_tree c.in_ok-first.first) c.level_expr.new.tokens.now c.in_ok-first.ensures.told c.take_word-2.result c.take_word-2.new.tokens.now c.take_word-2.ensures c.in_err-others.field-0.0 c.tall_exprs.new.tokens.now c.in_err-others.ensures.told)

pub bracketed-returns-clause-told : goal.bracketed-returns-clause-told
bracketed-returns-clause-told t c = bracketed_list c.args.room c.in_ok-at.at c.args.tokens.now.now c.leading_word.new.tokens.now c.in_ok-at.ensures.0 c.in_ok-at.ensures.1 (tall_tree c.in_ok-first.first) c.level_expr.new.tokens.now c.in_ok-first.ensures.told c.take_word-2.result c.take_word-2.new.tokens.now c.take_word-2.ensures tall_tree c.listing-2.result (each_expr c.in_ok-others.others) (each_expr c.in_ok-items.items) c.tall_exprs.new.tokens.now c.listing-2.new.tokens.now c.in_ok-others.ensures.told (ap listed c.in_ok-items.ensures.is) c.listing-2.ensures.told

pub tall_args-returns-then-not-starts_expr-clause-told : goal.tall_args-returns-then-not-starts_expr-clause-told
tall_args-returns-then-not-starts_expr-clause-told t c = args_none c.args.room c.args.tokens.now.now (sym c.starts_expr.ensures ∙ c.if-not-starts_expr.true) ∙ ap (λ l. Gave (listed l) (plain_tokens c.args.tokens.now.now)) (sym c.no_exprs.ensures.is)

pub tall_args-returns-clause-told : goal.tall_args-returns-clause-told
tall_args-returns-clause-told t c = answers_same each_expr c.tall_exprs.result c.tall_exprs.new.tokens.now (read c.args.room (part (any comma an_expr)) (plain_tokens c.args.tokens.now.now)) (read c.args.room (part (separated comma an_expr)) (plain_tokens c.args.tokens.now.now)) (args_some c.args.room c.args.tokens.now.now (sym c.starts_expr.ensures ∙ c.if-not-starts_expr.false)) c.tall_exprs.ensures.told

pub tall_exprs-exprs-init : goal.tall_exprs-exprs-init
tall_exprs-exprs-init t c = (listed_first c.args.room an_expr c.args.tokens.now.now (map expr_tree c.no_exprs-found.result.exprs.items) c.no_exprs-found.ensures.is, omega (arith, c.no_exprs-found.ensures.low))

pub tall_exprs-returns-in_err-next-clause-told : goal.tall_exprs-returns-in_err-next-clause-told
tall_exprs-returns-in_err-next-clause-told t c =
    fault_answers each_expr (read c.args.room (part (separated comma an_expr)) (plain_tokens c.args.tokens.now.now)) c.from_residual.result c.in_err-next.field-0.0 c.level_expr.new.tokens.now (search rules)
    (listed_fault c.args.room an_expr c.args.tokens.now.now (map expr_tree c.exprs.found.exprs.items) c.exprs.tokens.now c.exprs.invariant.0 c.in_err-next.field-0.0 c.level_expr.new.tokens.now c.in_err-next.ensures.told)

pub tall_exprs-returns-then-not-is_word-clause-told : goal.tall_exprs-returns-then-not-is_word-clause-told
tall_exprs-returns-then-not-is_word-clause-told t c = listed_last c.args.room an_expr c.args.tokens.now.now (map expr_tree c.exprs.found.exprs.items) c.exprs.tokens.now c.exprs.invariant.0 (tall_tree c.in_ok-next.next) c.level_expr.new.tokens.now c.in_ok-next.ensures.told (map expr_tree c.in_ok-more.more.exprs.items) c.in_ok-more.ensures.is (sym c.is_word.ensures ∙ c.if-not-is_word.true)

pub tall_exprs-exprs-preserved : goal.tall_exprs-exprs-preserved
tall_exprs-exprs-preserved t c = (listed_more c.args.room an_expr c.args.tokens.now.now (map expr_tree c.exprs.found.exprs.items) c.exprs.tokens.now c.exprs.invariant.0 (tall_tree c.in_ok-next.next) c.level_expr.new.tokens.now c.in_ok-next.ensures.told (map expr_tree c.in_ok-more.more.exprs.items) c.in_ok-more.ensures.is c.take_word.result c.take_word.new.tokens.now c.take_word.ensures, omega (arith, c.exprs.invariant.1, c.in_ok-next.ensures.low, c.in_ok-more.ensures.high))

pub tall_exprs-exprs-smaller : goal.tall_exprs-exprs-smaller
tall_exprs-exprs-smaller t c =
    let less : length c.level_expr.new.tokens.now < length c.exprs.tokens.now = read_less c.args.room an_expr c.exprs.tokens.now c.level_expr.new.tokens.now (tall_tree c.in_ok-next.next) c.in_ok-next.ensures.told refl in
    let taken : length c.take_word.new.tokens.now < length c.level_expr.new.tokens.now = took_less Lexeme.Comma c.take_word.result c.level_expr.new.tokens.now c.take_word.new.tokens.now c.take_word.ensures in
    omega arith

pub tall_gens-gens-init : goal.tall_gens-gens-init
tall_gens-gens-init t c = (listed_first c.args.room a_gen c.args.tokens.now.now (map gen_tree c.no_gens-found.result.gens.items) c.no_gens-found.ensures.is, omega (arith, c.no_gens-found.ensures.low))

pub tall_gens-returns-in_err-next-clause-told : goal.tall_gens-returns-in_err-next-clause-told
tall_gens-returns-in_err-next-clause-told t c =
    fault_answers each_gen (read c.args.room (part (separated comma a_gen)) (plain_tokens c.args.tokens.now.now)) c.from_residual.result c.in_err-next.field-0.0 c.generator.new.tokens.now (search rules)
    (listed_fault c.args.room a_gen c.args.tokens.now.now (map gen_tree c.gens.found.gens.items) c.gens.tokens.now c.gens.invariant.0 c.in_err-next.field-0.0 c.generator.new.tokens.now c.in_err-next.ensures.told)

pub tall_gens-returns-then-not-is_word-clause-told : goal.tall_gens-returns-then-not-is_word-clause-told
tall_gens-returns-then-not-is_word-clause-told t c = listed_last c.args.room a_gen c.args.tokens.now.now (map gen_tree c.gens.found.gens.items) c.gens.tokens.now c.gens.invariant.0 (tall_gen c.in_ok-next.next) c.generator.new.tokens.now c.in_ok-next.ensures.told (map gen_tree c.in_ok-more.more.gens.items) c.in_ok-more.ensures.is (sym c.is_word.ensures ∙ c.if-not-is_word.true)

pub tall_gens-gens-preserved : goal.tall_gens-gens-preserved
tall_gens-gens-preserved t c = (listed_more c.args.room a_gen c.args.tokens.now.now (map gen_tree c.gens.found.gens.items) c.gens.tokens.now c.gens.invariant.0 (tall_gen c.in_ok-next.next) c.generator.new.tokens.now c.in_ok-next.ensures.told (map gen_tree c.in_ok-more.more.gens.items) c.in_ok-more.ensures.is c.take_word.result c.take_word.new.tokens.now c.take_word.ensures, omega (arith, c.gens.invariant.1, c.in_ok-next.ensures.low, c.in_ok-more.ensures.high))

pub tall_gens-gens-smaller : goal.tall_gens-gens-smaller
tall_gens-gens-smaller t c =
    let less : length c.generator.new.tokens.now < length c.gens.tokens.now = read_less c.args.room a_gen c.gens.tokens.now c.generator.new.tokens.now (tall_gen c.in_ok-next.next) c.in_ok-next.ensures.told refl in
    let taken : length c.take_word.new.tokens.now < length c.generator.new.tokens.now = took_less Lexeme.Comma c.take_word.result c.generator.new.tokens.now c.take_word.new.tokens.now c.take_word.ensures in
    omega arith

pub type_args-items-init : goal.type_args-items-init
type_args-items-init t c = (listed_first c.args.room a_type_arg c.args.tokens.now.now (map type_arg_tree c.no_type_args-found.result.args.items) c.no_type_args-found.ensures.is, omega (arith, c.no_type_args-found.ensures.low))

pub type_args-returns-in_err-next-clause-told : goal.type_args-returns-in_err-next-clause-told
type_args-returns-in_err-next-clause-told t c =
    fault_answers each_type_arg (read c.args.room (part (separated comma a_type_arg)) (plain_tokens c.args.tokens.now.now)) c.from_residual.result c.in_err-next.field-0.0 c.type_arg.new.tokens.now (search rules)
    (listed_fault c.args.room a_type_arg c.args.tokens.now.now (map type_arg_tree c.items.found.args.items) c.items.tokens.now c.items.invariant.0 c.in_err-next.field-0.0 c.type_arg.new.tokens.now c.in_err-next.ensures.told)

pub type_args-returns-then-not-is_word-clause-told : goal.type_args-returns-then-not-is_word-clause-told
type_args-returns-then-not-is_word-clause-told t c = listed_last c.args.room a_type_arg c.args.tokens.now.now (map type_arg_tree c.items.found.args.items) c.items.tokens.now c.items.invariant.0 (tall_type_arg c.in_ok-next.next) c.type_arg.new.tokens.now c.in_ok-next.ensures.told (map type_arg_tree c.in_ok-more.more.args.items) c.in_ok-more.ensures.is (sym c.is_word.ensures ∙ c.if-not-is_word.true)

pub type_args-items-preserved : goal.type_args-items-preserved
type_args-items-preserved t c = (listed_more c.args.room a_type_arg c.args.tokens.now.now (map type_arg_tree c.items.found.args.items) c.items.tokens.now c.items.invariant.0 (tall_type_arg c.in_ok-next.next) c.type_arg.new.tokens.now c.in_ok-next.ensures.told (map type_arg_tree c.in_ok-more.more.args.items) c.in_ok-more.ensures.is c.take_word.result c.take_word.new.tokens.now c.take_word.ensures, omega (arith, c.items.invariant.1, c.in_ok-next.ensures.low, c.in_ok-more.ensures.high))

pub type_args-items-smaller : goal.type_args-items-smaller
type_args-items-smaller t c =
    let less : length c.type_arg.new.tokens.now < length c.items.tokens.now = read_less c.args.room a_type_arg c.items.tokens.now c.type_arg.new.tokens.now (tall_type_arg c.in_ok-next.next) c.in_ok-next.ensures.told refl in
    let taken : length c.take_word.new.tokens.now < length c.type_arg.new.tokens.now = took_less Lexeme.Comma c.take_word.result c.type_arg.new.tokens.now c.take_word.new.tokens.now c.take_word.ensures in
    omega arith

pub generator-returns-in_err-at-clause-told : goal.generator-returns-in_err-at-clause-told
generator-returns-in_err-at-clause-told t c =
    fault_answers tall_gen (Generator c.args.room c.args.tokens.now.now) c.from_residual.result c.in_err-at.field-0.0 c.expect.new.tokens.now (search rules)
    (gen_fault c.args.room c.in_err-at.field-0.0 c.args.tokens.now.now c.expect.new.tokens.now c.in_err-at.ensures)

pub generator-returns-in_err-shape-clause-told : goal.generator-returns-in_err-shape-clause-told
generator-returns-in_err-shape-clause-told t c =
    fault_answers tall_gen (Generator c.args.room c.args.tokens.now.now) c.from_residual-in_err-shape.result c.in_err-shape.field-0.0 c.tall_type.new.tokens.now (search rules)
    (generator_shape c.args.room c.in_ok-at.at c.args.tokens.now.now c.expect.new.tokens.now c.in_ok-at.ensures c.in_err-shape.field-0.0 c.tall_type.new.tokens.now c.in_err-shape.ensures.told)

pub generator-returns-in_err-name-clause-told : goal.generator-returns-in_err-name-clause-told
generator-returns-in_err-name-clause-told t c =
    fault_answers tall_gen (Generator c.args.room c.args.tokens.now.now) c.from_residual-in_err-name.result c.in_err-name.field-0.0 c.name.new.tokens.now (search rules)
    (generator_name c.args.room c.in_ok-at.at c.args.tokens.now.now c.expect.new.tokens.now c.in_ok-at.ensures (tall_type c.in_ok-shape.shape) c.tall_type.new.tokens.now c.in_ok-shape.ensures.told c.in_err-name.field-0.0 c.name.new.tokens.now c.in_err-name.ensures)

pub generator-returns-in_err-expect-clause-told : goal.generator-returns-in_err-expect-clause-told
generator-returns-in_err-expect-clause-told t c =
    fault_answers tall_gen (Generator c.args.room c.args.tokens.now.now) c.from_residual-in_err-expect.result c.in_err-expect.field-0.0 c.expect-2.new.tokens.now (search rules)
    (generator_in c.args.room c.in_ok-at.at c.args.tokens.now.now c.expect.new.tokens.now c.in_ok-at.ensures (tall_type c.in_ok-shape.shape) c.tall_type.new.tokens.now c.in_ok-shape.ensures.told (string_bytes c.in_ok-name.name.text) c.in_ok-name.name.at c.name.new.tokens.now c.in_ok-name.ensures c.in_err-expect.field-0.0 c.expect-2.new.tokens.now c.in_err-expect.ensures)

pub generator-returns-in_err-from-clause-told : goal.generator-returns-in_err-from-clause-told
generator-returns-in_err-from-clause-told t c =
    fault_answers tall_gen (Generator c.args.room c.args.tokens.now.now) c.from_residual-in_err-from.result c.in_err-from.field-0.0 c.level_expr.new.tokens.now (search rules)
    (generator_from c.args.room c.in_ok-at.at c.args.tokens.now.now c.expect.new.tokens.now c.in_ok-at.ensures (tall_type c.in_ok-shape.shape) c.tall_type.new.tokens.now c.in_ok-shape.ensures.told (string_bytes c.in_ok-name.name.text) c.in_ok-name.name.at c.name.new.tokens.now c.in_ok-name.ensures c.in_ok-expect.field-0 c.expect-2.new.tokens.now c.in_ok-expect.ensures c.in_err-from.field-0.0 c.level_expr.new.tokens.now c.in_err-from.ensures.told)

pub generator-returns-in_err-expect-2-clause-told : goal.generator-returns-in_err-expect-2-clause-told
generator-returns-in_err-expect-2-clause-told t c =
    fault_answers tall_gen (Generator c.args.room c.args.tokens.now.now) c.from_residual-in_err-expect-2.result c.in_err-expect-2.field-0.0 c.expect-3.new.tokens.now (search rules)
    (generator_dots c.args.room c.in_ok-at.at c.args.tokens.now.now c.expect.new.tokens.now c.in_ok-at.ensures (tall_type c.in_ok-shape.shape) c.tall_type.new.tokens.now c.in_ok-shape.ensures.told (string_bytes c.in_ok-name.name.text) c.in_ok-name.name.at c.name.new.tokens.now c.in_ok-name.ensures c.in_ok-expect.field-0 c.expect-2.new.tokens.now c.in_ok-expect.ensures (tall_tree c.in_ok-from.from) c.level_expr.new.tokens.now c.in_ok-from.ensures.told c.in_err-expect-2.field-0.0 c.expect-3.new.tokens.now c.in_err-expect-2.ensures)

pub generator-returns-in_err-to-clause-told : goal.generator-returns-in_err-to-clause-told
generator-returns-in_err-to-clause-told t c =
    fault_answers tall_gen (Generator c.args.room c.args.tokens.now.now) c.from_residual-in_err-to.result c.in_err-to.field-0.0 c.level_expr-2.new.tokens.now (search rules)
    (generator_to c.args.room c.in_ok-at.at c.args.tokens.now.now c.expect.new.tokens.now c.in_ok-at.ensures (tall_type c.in_ok-shape.shape) c.tall_type.new.tokens.now c.in_ok-shape.ensures.told (string_bytes c.in_ok-name.name.text) c.in_ok-name.name.at c.name.new.tokens.now c.in_ok-name.ensures c.in_ok-expect.field-0 c.expect-2.new.tokens.now c.in_ok-expect.ensures (tall_tree c.in_ok-from.from) c.level_expr.new.tokens.now c.in_ok-from.ensures.told c.in_ok-expect-2.field-0 c.expect-3.new.tokens.now c.in_ok-expect-2.ensures c.in_err-to.field-0.0 c.level_expr-2.new.tokens.now c.in_err-to.ensures.told)

pub generator-returns-clause-told : goal.generator-returns-clause-told
generator-returns-clause-told t c = generator_ends c.args.room c.in_ok-at.at c.args.tokens.now.now c.expect.new.tokens.now c.in_ok-at.ensures (tall_type c.in_ok-shape.shape) c.tall_type.new.tokens.now c.in_ok-shape.ensures.told (string_bytes c.in_ok-name.name.text) c.in_ok-name.name.at c.name.new.tokens.now c.in_ok-name.ensures c.in_ok-expect.field-0 c.expect-2.new.tokens.now c.in_ok-expect.ensures (tall_tree c.in_ok-from.from) c.level_expr.new.tokens.now c.in_ok-from.ensures.told c.in_ok-expect-2.field-0 c.expect-3.new.tokens.now c.in_ok-expect-2.ensures (tall_tree c.in_ok-to.to) (tall_gen c.in_ok-found.found) c.level_expr-2.new.tokens.now c.in_ok-to.ensures.told c.in_ok-found.ensures.is

pub tall_type-returns-then-not-is_name-clause-told : goal.tall_type-returns-then-not-is_name-clause-told
tall_type-returns-then-not-is_name-clause-told t c = type_none c.args.room c.args.tokens.now.now (sym c.is_name.ensures ∙ c.if-not-is_name.true)

pub tall_type-returns-in_err-name-clause-told : goal.tall_type-returns-in_err-name-clause-told
tall_type-returns-in_err-name-clause-told t c =
    fault_answers tall_type (read c.args.room (part a_type) (plain_tokens c.args.tokens.now.now)) c.from_residual.result c.in_err-name.field-0.0 c.leading_name.new.tokens.now (search rules)
    (type_led c.args.room c.in_err-name.field-0.0 c.args.tokens.now.now c.leading_name.new.tokens.now (sym c.is_name.ensures ∙ c.if-not-is_name.false) c.in_err-name.ensures)

pub tall_type-returns-then-not-is_word-clause-told : goal.tall_type-returns-then-not-is_word-clause-told
tall_type-returns-then-not-is_word-clause-told t c = type_alone (read c.args.room (part a_type) (plain_tokens c.args.tokens.now.now)) c.args.room (string_bytes c.in_ok-name.name.text) c.in_ok-name.name.at c.leading_name.new.tokens.now (type_goes c.args.room (string_bytes c.in_ok-name.name.text) c.in_ok-name.name.at c.args.tokens.now.now c.leading_name.new.tokens.now c.in_ok-name.ensures.0 c.in_ok-name.ensures.1) (tall_type c.bare_type.result) (sym c.is_word.ensures ∙ c.if-not-is_word.true) c.bare_type.ensures.is

pub tall_type-returns-in_err-args-clause-told : goal.tall_type-returns-in_err-args-clause-told
tall_type-returns-in_err-args-clause-told t c =
    fault_answers tall_type (read c.args.room (part a_type) (plain_tokens c.args.tokens.now.now)) c.from_residual-in_err-args.result c.in_err-args.field-0.0 c.type_args.new.tokens.now (search rules)
    (type_fault (read c.args.room (part a_type) (plain_tokens c.args.tokens.now.now)) c.args.room (string_bytes c.in_ok-name.name.text) c.in_ok-name.name.at c.leading_name.new.tokens.now (type_goes c.args.room (string_bytes c.in_ok-name.name.text) c.in_ok-name.name.at c.args.tokens.now.now c.leading_name.new.tokens.now c.in_ok-name.ensures.0 c.in_ok-name.ensures.1) c.take_word.result c.take_word.new.tokens.now c.take_word.ensures c.in_err-args.field-0.0 c.type_args.new.tokens.now c.in_err-args.ensures.told)

pub tall_type-returns-clause-told : goal.tall_type-returns-clause-told
tall_type-returns-clause-told t c = type_ends (read c.args.room (part a_type) (plain_tokens c.args.tokens.now.now)) c.args.room (string_bytes c.in_ok-name.name.text) c.in_ok-name.name.at c.leading_name.new.tokens.now (type_goes c.args.room (string_bytes c.in_ok-name.name.text) c.in_ok-name.name.at c.args.tokens.now.now c.leading_name.new.tokens.now c.in_ok-name.ensures.0 c.in_ok-name.ensures.1) c.take_word.result c.take_word.new.tokens.now c.take_word.ensures tall_type c.closed_type.result (each_type_arg c.in_ok-args.args) c.type_args.new.tokens.now c.closed_type.new.tokens.now c.in_ok-args.ensures.told c.closed_type.ensures.told

pub type_arg-returns-in_err-name-clause-told : goal.type_arg-returns-in_err-name-clause-told
type_arg-returns-in_err-name-clause-told t c =
    fault_answers tall_type_arg (Arg c.args.room c.args.tokens.now.now) c.from_residual.result c.in_err-name.field-0.0 c.name.new.tokens.now (search rules)
    (arg_fault c.args.room c.in_err-name.field-0.0 c.args.tokens.now.now c.name.new.tokens.now c.in_err-name.ensures)

pub type_arg-returns-in_err-shape-clause-told : goal.type_arg-returns-in_err-shape-clause-told
type_arg-returns-in_err-shape-clause-told t c =
    fault_answers tall_type_arg (Arg c.args.room c.args.tokens.now.now) c.from_residual-in_err-shape.result c.in_err-shape.field-0.0 c.tall_type.new.tokens.now (search rules)
    (arg_shape c.args.room (string_bytes c.in_ok-name.name.text) c.in_ok-name.name.at c.args.tokens.now.now c.name.new.tokens.now c.in_ok-name.ensures c.take_word.result c.take_word.new.tokens.now c.take_word.ensures c.in_err-shape.field-0.0 c.tall_type.new.tokens.now c.in_err-shape.ensures.told)

pub type_arg-returns-then-is_word-clause-told : goal.type_arg-returns-then-is_word-clause-told
type_arg-returns-then-is_word-clause-told t c = arg_shaped c.args.room (string_bytes c.in_ok-name.name.text) c.in_ok-name.name.at c.args.tokens.now.now c.name.new.tokens.now c.in_ok-name.ensures c.take_word.result c.take_word.new.tokens.now c.take_word.ensures (tall_type c.in_ok-shape.shape) (tall_type_arg c.in_ok-found.found) c.tall_type.new.tokens.now c.in_ok-shape.ensures.told c.in_ok-found.ensures.is

pub type_arg-returns-in_err-expect-clause-told : goal.type_arg-returns-in_err-expect-clause-told
type_arg-returns-in_err-expect-clause-told t c =
    fault_answers tall_type_arg (Arg c.args.room c.args.tokens.now.now) c.from_residual-in_err-expect.result c.in_err-expect.field-0.0 c.expect.new.tokens.now (search rules)
    (arg_neither c.args.room (string_bytes c.in_ok-name.name.text) c.in_ok-name.name.at c.args.tokens.now.now c.name.new.tokens.now c.in_ok-name.ensures c.in_err-expect.field-0.0 c.expect.new.tokens.now (sym c.is_word.ensures ∙ c.if-is_word.false) c.in_err-expect.ensures)

pub type_arg-returns-in_err-value-clause-told : goal.type_arg-returns-in_err-value-clause-told
type_arg-returns-in_err-value-clause-told t c =
    fault_answers tall_type_arg (Arg c.args.room c.args.tokens.now.now) c.from_residual-in_err-value.result c.in_err-value.field-0.0 c.level_expr.new.tokens.now (search rules)
    (arg_value c.args.room (string_bytes c.in_ok-name.name.text) c.in_ok-name.name.at c.args.tokens.now.now c.name.new.tokens.now c.in_ok-name.ensures c.in_ok-expect.field-0 c.expect.new.tokens.now c.in_ok-expect.ensures c.in_err-value.field-0.0 c.level_expr.new.tokens.now c.in_err-value.ensures.told)

pub type_arg-returns-clause-told : goal.type_arg-returns-clause-told
type_arg-returns-clause-told t c = arg_valued c.args.room (string_bytes c.in_ok-name.name.text) c.in_ok-name.name.at c.args.tokens.now.now c.name.new.tokens.now c.in_ok-name.ensures c.in_ok-expect.field-0 c.expect.new.tokens.now c.in_ok-expect.ensures (tall_tree c.in_ok-value.value) (tall_type_arg c.in_ok-found-2.found) c.level_expr.new.tokens.now c.in_ok-value.ensures.told c.in_ok-found-2.ensures.is
