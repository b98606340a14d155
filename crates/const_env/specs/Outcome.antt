-- What a call that evaluates answers, beside what evaluation comes to.
-- Trusted for `Stops` alone: part of what a promise means.
use Rattle.std.specs.Prelude.{◌≡◌, ℕ}
use Rattle.std.specs.declared.result.Result.{Result}
use Rattle.std.specs.declared.result.Result.TheVariants.{Ok, Err}
use Rattle.const_env.specs.declared.stop.EvalError.{EvalError}
use Rattle.const_env.specs.declared.stop.EvalError.TheVariants as stop
use Rattle.cal_model.specs.Outcome.{Out, Gives, Traps, Lacks, Clashes}

-- evaluation ends so; running out of memory says nothing
abbrev pub Stops : {B : Type 0} → EvalError → Out B → Type 0
Stops (stop.Trap c) out = out ≡ Traps c
Stops stop.Lacks out = out ≡ Lacks
Stops stop.Clashes out = out ≡ Clashes
Stops stop.Memory out = Unit {0}

-- a call's answer is what evaluation comes to, with so many turns left
abbrev pub Evaluates : {A B : Type 0} → (A → B) → Result A EvalError → ℕ → Out B → Type 0
Evaluates view (Ok a) left out = out ≡ Gives (view a) left
Evaluates view (Err s) left out = Stops s out
