-- Scopes, without where they lie in memory.
-- Trusted: part of what a promise means.
use Rattle.std.specs.Prelude.{◌≡◌, [], ◌∷◌, ◌++◌, map, OnOk, string_bytes}
use Rattle.std.specs.declared.result.Result.{Result}
use Rattle.std.specs.declared.result.Result.TheVariants.{Ok, Err}
use Rattle.rvc_base.specs.declared.memory.Memory.{Memory}
use Rattle.rvc_base.specs.declared.refusal.Front.{Front}
use Rattle.rvc_base.specs.declared.refusal.Front.TheVariants as front
use Rattle.cal_ast.specs.View.{actor_tree, function_tree, var_tree}
use Rattle.cal_imports.specs.Answer.{Answer, Answers, Gives, Refuses}
use Rattle.cal_imports.specs.Whole as whole
use Rattle.cal_imports.specs.declared.fault.ImportFault.{ImportFault}
use Rattle.cal_imports.specs.declared.scope.OuterVar.{OuterVar}
use Rattle.cal_imports.specs.declared.scope.OuterFun.{OuterFun}
use Rattle.cal_imports.specs.declared.scope.Gathered.{Gathered}
use Rattle.cal_imports.specs.declared.scope.Scope.{Scope}

abbrev pub outer_var : OuterVar → whole.Outer
outer_var v = record { name = string_bytes v.name; file = v.file; decl = var_tree v.decl }

abbrev pub outer_fun : OuterFun → whole.Outer
outer_fun f = record { name = string_bytes f.name; file = f.file; decl = function_tree f.decl }

abbrev pub gathered_view : Gathered → whole.Gathered
gathered_view g = record { vars = map outer_var g.vars.items; funs = map outer_fun g.funs.items }

abbrev pub with_var : OuterVar → whole.Gathered → whole.Gathered
with_var v g = record { vars = g.vars ++ outer_var v ∷ []; funs = g.funs }

abbrev pub with_fun : OuterFun → whole.Gathered → whole.Gathered
with_fun f g = record { vars = g.vars; funs = g.funs ++ outer_fun f ∷ [] }

-- what was gathered was extended
abbrev pub Gathers : Result (Unit {0}) Memory → (whole.Gathered → whole.Gathered) → (old new : Gathered)
    → Type 0
Gathers result adding old new = OnOk result (gathered_view new ≡ adding (gathered_view old))

-- a call's answer is this, and what was gathered is what it gives
abbrev pub AnswersGathered : Result (Unit {0}) ImportFault → (whole.Gathered → Answer whole.Gathered)
    → (old new : Gathered) → Type 0
AnswersGathered result gather old new =
    Answers (λ _. gathered_view new) result (gather (gathered_view old))

abbrev pub scope_view : Scope → whole.Scope
scope_view s = record {
  class = string_bytes s.class;
  file = s.file;
  actor = actor_tree s.actor;
  vars = map outer_var s.vars.items;
  funs = map outer_fun s.funs.items;
}

-- what a call answers beside what is found: a rule that is broken, with its file and place; out of memory says nothing
abbrev pub IsRefused : {B : Type 0} → Front → Answer B → Type 0
IsRefused (front.Refused r) answer = answer ≡ Refuses r.rule r.place.file r.place.offset
IsRefused front.Memory answer = Unit {0}

abbrev pub IsResolved : Result Scope Front → Answer whole.Scope → Type 0
IsResolved (Ok s) answer = answer ≡ Gives (scope_view s)
IsResolved (Err f) answer = IsRefused f answer
