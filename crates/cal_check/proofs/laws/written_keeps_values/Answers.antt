use Rattle.cal_model.specs.Call.{calls_of}
use Rattle.cal_check.proofs.ValuesKept.{all-values, arguments-values, env-extends, type-values, value-kept}
use Rattle.cal_check.proofs.laws.written_keeps_values.Goals as goal

pub returns : goal.returns
returns c = record {
  of_expressions = λ e names k env left fit is has h. value-kept e names k (calls_of names.funs) env left fit (env-extends names env is has) h;
  of_lists = λ es names ks env left fit is has h. all-values es names ks (calls_of names.funs) env left fit (env-extends names env is has) h;
  of_arguments = λ args formals names b env left fit is has h. arguments-values args formals names b (calls_of names.funs) env left fit (env-extends names env is has) h;
  of_types = λ shape names t env left fit is has h. type-values shape names t (calls_of names.funs) env left fit (env-extends names env is has) h;
}
