use Rattle.std.proofs.Common.{sym, subst, List, []}
use Rattle.std.specs.List.{concat}
use Rattle.trace_text.specs.ReadBack.{AreAnswers, answers_to, answers_to_each}
use Rattle.trace_text.specs.declared.reader.Step2.{Step2}
use Rattle.trace_text.proofs.Telling.{one_answer_each, one_answered, each_answered}
use Rattle.trace_text.proofs.Cutting.{written_are_lines}
use Rattle.trace_text.proofs.laws.lines_are_read_back.Goals as goal

pub returns-clause-line : goal.returns-clause-line
returns-clause-line c line text answers w = (
  λ all. one_answer_each text answers (answers_to line text) all (one_answered line text w),
  λ e. subst (λ (u : List Step2). AreAnswers [] text u) (sym e) (one_answered line text w),
)

pub returns-clause-lines : goal.returns-clause-lines
returns-clause-lines c lines texts answers w = (
  λ all. one_answer_each (concat texts) answers (answers_to_each lines texts) all (each_answered lines texts w),
  λ e. subst (λ (u : List Step2). AreAnswers [] (concat texts) u) (sym e) (each_answered lines texts w),
)

pub returns-clause-one_answer : goal.returns-clause-one_answer
returns-clause-one_answer c = one_answer_each

pub returns-clause-written : goal.returns-clause-written
returns-clause-written c = written_are_lines
