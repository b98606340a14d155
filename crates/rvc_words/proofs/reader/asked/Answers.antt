use Rattle.std.proofs.Common.{sym, ◌∙◌}
use Rattle.rvc_words.specs.Given.{parts_text}
use Rattle.rvc_words.proofs.Asking.{answered_by, handed_on, named_of, no_budget, no_burst, no_grow, no_port, no_round, no_top, no_trace, no_verb, no_workers, none_of, value_of, whole_job, with_texts}
use Rattle.rvc_words.proofs.reader.asked.Goals as goal

pub returns-in_err-verb-clause-usage : goal.returns-in_err-verb-clause-usage
returns-in_err-verb-clause-usage c = λ cause answered.
    handed_on (parts_text c.args.parts) c.from_residual.result cause c.in_err-verb.field-0.0 _ c.from_residual.ensures answered (named_of c.verb_of.result _ _ c.in_err-verb.ensures.value)
    (no_verb (parts_text c.args.parts) (sym c.verb_of.ensures ∙ none_of c.verb_of.result _ _ c.in_err-verb.ensures.value))

pub returns-then-not-is_top-clause-usage : goal.returns-then-not-is_top-clause-usage
returns-then-not-is_top-clause-usage c = λ cause answered.
    answered_by (parts_text c.args.parts) cause _ answered (no_top (parts_text c.args.parts) c.in_ok-verb.verb (sym c.verb_of.ensures ∙ value_of c.verb_of.result c.in_ok-verb.verb _ c.in_ok-verb.ensures.value) (sym c.is_top.ensures ∙ c.if-not-is_top.true))

pub returns-in_err-workers-clause-usage : goal.returns-in_err-workers-clause-usage
returns-in_err-workers-clause-usage c = λ cause answered.
    handed_on (parts_text c.args.parts) c.from_residual-in_err-workers.result cause c.in_err-workers.field-0.0 _ c.from_residual-in_err-workers.ensures answered (named_of c.number_or.result _ _ c.in_err-workers.ensures.value)
    (no_workers (parts_text c.args.parts) c.in_ok-verb.verb (sym c.verb_of.ensures ∙ value_of c.verb_of.result c.in_ok-verb.verb _ c.in_ok-verb.ensures.value) (sym c.is_top.ensures ∙ c.if-not-is_top.false) (sym c.number_or.ensures.value ∙ none_of c.number_or.result _ _ c.in_err-workers.ensures.value))

pub returns-in_err-burst-clause-usage : goal.returns-in_err-burst-clause-usage
returns-in_err-burst-clause-usage c = λ cause answered.
    handed_on (parts_text c.args.parts) c.from_residual-in_err-burst.result cause c.in_err-burst.field-0.0 _ c.from_residual-in_err-burst.ensures answered (named_of c.number_or-2.result _ _ c.in_err-burst.ensures.value)
    (no_burst (parts_text c.args.parts) c.in_ok-verb.verb (sym c.verb_of.ensures ∙ value_of c.verb_of.result c.in_ok-verb.verb _ c.in_ok-verb.ensures.value) (sym c.is_top.ensures ∙ c.if-not-is_top.false) c.in_ok-workers.workers (sym c.number_or.ensures.value ∙ value_of c.number_or.result c.in_ok-workers.workers _ c.in_ok-workers.ensures.value) (sym c.number_or-2.ensures.value ∙ none_of c.number_or-2.result _ _ c.in_err-burst.ensures.value))

pub returns-in_err-budget-clause-usage : goal.returns-in_err-budget-clause-usage
returns-in_err-budget-clause-usage c = λ cause answered.
    handed_on (parts_text c.args.parts) c.from_residual-in_err-budget.result cause c.in_err-budget.field-0.0 _ c.from_residual-in_err-budget.ensures answered (named_of c.number_or-3.result _ _ c.in_err-budget.ensures.value)
    (no_budget (parts_text c.args.parts) c.in_ok-verb.verb (sym c.verb_of.ensures ∙ value_of c.verb_of.result c.in_ok-verb.verb _ c.in_ok-verb.ensures.value) (sym c.is_top.ensures ∙ c.if-not-is_top.false) c.in_ok-workers.workers (sym c.number_or.ensures.value ∙ value_of c.number_or.result c.in_ok-workers.workers _ c.in_ok-workers.ensures.value) c.in_ok-burst.burst (sym c.number_or-2.ensures.value ∙ value_of c.number_or-2.result c.in_ok-burst.burst _ c.in_ok-burst.ensures.value) (sym c.number_or-3.ensures.value ∙ none_of c.number_or-3.result _ _ c.in_err-budget.ensures.value))

pub returns-in_err-grow-clause-usage : goal.returns-in_err-grow-clause-usage
returns-in_err-grow-clause-usage c = λ cause answered.
    handed_on (parts_text c.args.parts) c.from_residual-in_err-grow.result cause c.in_err-grow.field-0.0 _ c.from_residual-in_err-grow.ensures answered (named_of c.number_or-4.result _ _ c.in_err-grow.ensures.value)
    (no_grow (parts_text c.args.parts) c.in_ok-verb.verb (sym c.verb_of.ensures ∙ value_of c.verb_of.result c.in_ok-verb.verb _ c.in_ok-verb.ensures.value) (sym c.is_top.ensures ∙ c.if-not-is_top.false) c.in_ok-workers.workers (sym c.number_or.ensures.value ∙ value_of c.number_or.result c.in_ok-workers.workers _ c.in_ok-workers.ensures.value) c.in_ok-burst.burst (sym c.number_or-2.ensures.value ∙ value_of c.number_or-2.result c.in_ok-burst.burst _ c.in_ok-burst.ensures.value) c.in_ok-budget.budget (sym c.number_or-3.ensures.value ∙ value_of c.number_or-3.result c.in_ok-budget.budget _ c.in_ok-budget.ensures.value) (sym c.number_or-4.ensures.value ∙ none_of c.number_or-4.result _ _ c.in_err-grow.ensures.value))

pub returns-in_err-round-clause-usage : goal.returns-in_err-round-clause-usage
returns-in_err-round-clause-usage c = λ cause answered.
    handed_on (parts_text c.args.parts) c.from_residual-in_err-round.result cause c.in_err-round.field-0.0 _ c.from_residual-in_err-round.ensures answered (named_of c.round_or_all.result _ _ c.in_err-round.ensures.value)
    (no_round (parts_text c.args.parts) c.in_ok-verb.verb (sym c.verb_of.ensures ∙ value_of c.verb_of.result c.in_ok-verb.verb _ c.in_ok-verb.ensures.value) (sym c.is_top.ensures ∙ c.if-not-is_top.false) c.in_ok-workers.workers (sym c.number_or.ensures.value ∙ value_of c.number_or.result c.in_ok-workers.workers _ c.in_ok-workers.ensures.value) c.in_ok-burst.burst (sym c.number_or-2.ensures.value ∙ value_of c.number_or-2.result c.in_ok-burst.burst _ c.in_ok-burst.ensures.value) c.in_ok-budget.budget (sym c.number_or-3.ensures.value ∙ value_of c.number_or-3.result c.in_ok-budget.budget _ c.in_ok-budget.ensures.value) c.in_ok-grow.grow (sym c.number_or-4.ensures.value ∙ value_of c.number_or-4.result c.in_ok-grow.grow _ c.in_ok-grow.ensures.value) (sym c.round_or_all.ensures ∙ none_of c.round_or_all.result _ _ c.in_err-round.ensures.value))

pub returns-then-not-are_ports-clause-usage : goal.returns-then-not-are_ports-clause-usage
returns-then-not-are_ports-clause-usage c = λ cause answered.
    answered_by (parts_text c.args.parts) cause _ answered (no_port (parts_text c.args.parts) c.in_ok-verb.verb (sym c.verb_of.ensures ∙ value_of c.verb_of.result c.in_ok-verb.verb _ c.in_ok-verb.ensures.value) (sym c.is_top.ensures ∙ c.if-not-is_top.false) c.in_ok-workers.workers (sym c.number_or.ensures.value ∙ value_of c.number_or.result c.in_ok-workers.workers _ c.in_ok-workers.ensures.value) c.in_ok-burst.burst (sym c.number_or-2.ensures.value ∙ value_of c.number_or-2.result c.in_ok-burst.burst _ c.in_ok-burst.ensures.value) c.in_ok-budget.budget (sym c.number_or-3.ensures.value ∙ value_of c.number_or-3.result c.in_ok-budget.budget _ c.in_ok-budget.ensures.value) c.in_ok-grow.grow (sym c.number_or-4.ensures.value ∙ value_of c.number_or-4.result c.in_ok-grow.grow _ c.in_ok-grow.ensures.value) c.in_ok-round.round (sym c.round_or_all.ensures ∙ value_of c.round_or_all.result c.in_ok-round.round _ c.in_ok-round.ensures.value) (sym c.are_ports.ensures ∙ c.if-not-are_ports.true))

pub returns-then-lacks_trace-clause-usage : goal.returns-then-lacks_trace-clause-usage
returns-then-lacks_trace-clause-usage c = λ cause answered.
    answered_by (parts_text c.args.parts) cause _ answered (no_trace (parts_text c.args.parts) c.in_ok-verb.verb (sym c.verb_of.ensures ∙ value_of c.verb_of.result c.in_ok-verb.verb _ c.in_ok-verb.ensures.value) (sym c.is_top.ensures ∙ c.if-not-is_top.false) c.in_ok-workers.workers (sym c.number_or.ensures.value ∙ value_of c.number_or.result c.in_ok-workers.workers _ c.in_ok-workers.ensures.value) c.in_ok-burst.burst (sym c.number_or-2.ensures.value ∙ value_of c.number_or-2.result c.in_ok-burst.burst _ c.in_ok-burst.ensures.value) c.in_ok-budget.budget (sym c.number_or-3.ensures.value ∙ value_of c.number_or-3.result c.in_ok-budget.budget _ c.in_ok-budget.ensures.value) c.in_ok-grow.grow (sym c.number_or-4.ensures.value ∙ value_of c.number_or-4.result c.in_ok-grow.grow _ c.in_ok-grow.ensures.value) c.in_ok-round.round (sym c.round_or_all.ensures ∙ value_of c.round_or_all.result c.in_ok-round.round _ c.in_ok-round.ensures.value) (sym c.are_ports.ensures ∙ c.if-not-are_ports.false) (sym c.lacks_trace.ensures ∙ c.if-lacks_trace.true))

pub returns-clause-read : goal.returns-clause-read
returns-clause-read c =
    with_texts (parts_text c.args.parts) _ _ _ _ _ _ _ _ _ c.in_ok-from_str.ensures.ok c.in_ok-port_words.ensures c.in_ok-from_str-2.ensures.ok
    (whole_job (parts_text c.args.parts) c.in_ok-verb.verb (sym c.verb_of.ensures ∙ value_of c.verb_of.result c.in_ok-verb.verb _ c.in_ok-verb.ensures.value) (sym c.is_top.ensures ∙ c.if-not-is_top.false) c.in_ok-workers.workers (sym c.number_or.ensures.value ∙ value_of c.number_or.result c.in_ok-workers.workers _ c.in_ok-workers.ensures.value) c.in_ok-burst.burst (sym c.number_or-2.ensures.value ∙ value_of c.number_or-2.result c.in_ok-burst.burst _ c.in_ok-burst.ensures.value) c.in_ok-budget.budget (sym c.number_or-3.ensures.value ∙ value_of c.number_or-3.result c.in_ok-budget.budget _ c.in_ok-budget.ensures.value) c.in_ok-grow.grow (sym c.number_or-4.ensures.value ∙ value_of c.number_or-4.result c.in_ok-grow.grow _ c.in_ok-grow.ensures.value) c.in_ok-round.round (sym c.round_or_all.ensures ∙ value_of c.round_or_all.result c.in_ok-round.round _ c.in_ok-round.ensures.value) (sym c.are_ports.ensures ∙ c.if-not-are_ports.false) (sym c.lacks_trace.ensures ∙ c.if-lacks_trace.false))
