use Rattle.std.proofs.Common.{refl}
use Rattle.lower_base.specs.declared.sorts.Sort.TheVariants as sort
use Rattle.cal_model.specs.Value.{BoolKind}
use Rattle.law_forms.proofs.Sorts.{sorted}
use Rattle.law_forms.proofs.laws.truths_are_seen.Goals as goal

pub returns : goal.returns
returns c = λ known fs names e may of.
    sorted known.funs fs (λ text. Unit {0}) e known names BoolKind sort.Truths 0 may.seen refl may.calls of may.plain tt
