use Rattle.std.proofs.Common.{refl}
use Rattle.law_forms.proofs.Sorts.{fit_count}
use Rattle.law_forms.proofs.Whole.{args_filled, filled, fills}
use Rattle.law_forms.proofs.laws.nothing_is_left_out.Goals as goal

pub returns-clause-whole : goal.returns-clause-whole
returns-clause-whole c = λ known fs names e k t may of like.
    filled known.funs fs (λ text. Unit {0}) e known names k t may.seen refl may.calls of may.plain like

pub returns-clause-each : goal.returns-clause-each
returns-clause-each c = λ known fs names es ks k t may of all like.
    fills known.funs fs (λ text. Unit {0}) es known names ks k t may.seen refl may.calls of all may.plain like

pub returns-clause-arguments : goal.returns-clause-arguments
returns-clause-arguments c = λ known fs names args formals may fit each. (
  args_filled known.funs fs (λ text. Unit {0}) args known names formals may.seen refl may.calls fit each may.plain,
  fit_count args known formals fit,
)
