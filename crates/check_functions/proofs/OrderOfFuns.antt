-- Names that are alike: types and starts are the same over both.
use Rattle.std.proofs.Common.{◌≡◌, ℕ, zero, suc, true, List, ◌++◌, length, refl, ap, ◌∙◌}
use Rattle.std.specs.Prelude.{Option, None, Some}
use Rattle.std.proofs.Math.Path.{fun_ext}
use Rattle.cal_ast.specs.Tree as tree
use Rattle.cal_model.specs.Actor.{Fun}
use Rattle.cal_model.specs.Call.{answered, calls_of, calls_within, fun_named}
use Rattle.cal_model.specs.Env.{Var}
use Rattle.cal_model.specs.Expression.{Calls}
use Rattle.cal_model.specs.Kinding.{Names, constants, known_as}
use Rattle.cal_model.specs.Outcome.{Out, Lacks}
use Rattle.cal_model.specs.Value.{Value, Values}
use Rattle.cal_check.specs.Constants.{not_yet}
use Rattle.check_functions.specs.Alike.{AlikeStarts, AlikeTypes, SeeAlike}
use Rattle.check_functions.proofs.Bare.{Any, any_says}
use Rattle.check_functions.proofs.Callless.{start_same}
use Rattle.check_functions.proofs.SameKinds.{MeanSame, type-same}

-- what a function gives, if there is one
abbrev given_by : Option Fun → Calls → List Var → Values → ℕ → Out Value
given_by o calls globals args left = elim o [ None ↦ Lacks | Some f ↦ answered f calls globals args left ]

-- functions of which each name finds the same one give the same, if as many may be open
within_alike : (k : ℕ) (fs gs : List Fun) → ((name : List ℕ) → fun_named name fs ≡ fun_named name gs)
    → (globals : List Var) (name : List ℕ) (args : Values) (left : ℕ) → calls_within k fs globals name args left ≡ calls_within k gs globals name args left
within_alike zero fs gs same globals name args left = refl
within_alike (suc k) fs gs same globals name args left =
    let less : calls_within k fs ≡ calls_within k gs = fun_ext (λ hs. fun_ext (λ other. fun_ext (λ vs. fun_ext (λ n. within_alike k fs gs same hs other vs n)))) in
    ap (λ o. given_by o (calls_within k fs) globals args left) (same name) ∙ ap (λ c. given_by (fun_named name gs) c globals args left) less

mean_alike : (n m : Names) → SeeAlike n m → MeanSame Any Any n m
mean_alike n m h = record {
  names = λ name p. ap (λ ls. known_as name (ls ++ n.globals)) h.locals ∙ ap (λ gs. known_as name (m.locals ++ gs)) h.globals;
  funs = λ name c. h.funs name;
  given = λ name c args left.
      ap (λ k. calls_within k n.funs (constants n.globals) name args left) h.count
      ∙ within_alike (length m.funs) n.funs m.funs h.funs (constants n.globals) name args left
      ∙ ap (λ gs. calls_of m.funs (constants gs) name args left) h.globals;
}

pub types_alike : AlikeTypes
types_alike n m shape h = ap (λ j. not_yet j shape) (type-same Any Any shape n m (mean_alike n m h) (any_says true shape))

pub starts_alike : AlikeStarts
starts_alike n m t (tree.present e) h = start_same Any n m t e (mean_alike n m h) (any_says true e)
starts_alike n m t other h = refl
