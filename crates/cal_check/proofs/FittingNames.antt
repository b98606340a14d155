-- What constant expressions give over names whose values fit the language.
use Rattle.std.proofs.Common.{◌≡◌, ℕ, zero, suc, Bool, true, false, ℤ, List, [], ◌∷◌, ◌++◌, refl, sym, subst, Option, None, Some}
use Rattle.std.specs.Prelude.{if◌then◌else◌}
use Rattle.std.specs.Str.{bytes_eq}
use Rattle.rvc_base.specs.Rules.{unknown_name}
use Rattle.rvc_base.specs.Storing.{IsSize}
use Rattle.rvc_base.specs.Turns.{max_turns}
use Rattle.rvc_base.specs.Width.{IsNum}
use Rattle.cal_ast.specs.Tree as tree
use Rattle.cal_ast.specs.Tree.{Tree}
use Rattle.cal_model.specs.Value.{Num, Shape, Value}
use Rattle.cal_model.specs.Outcome.{Out, Gives}
use Rattle.cal_model.specs.Env.{Env, Var}
use Rattle.cal_model.specs.Actor.{Fun, Local}
use Rattle.cal_model.specs.Kinding.{Judged, Fine, Broken, Known, Names, constant, constant_calls, constants, type_judged, without}
use Rattle.cal_model.specs.Sound.{Each, IsFormal, with_locals}
use Rattle.cal_model.proofs.KindLaws.{judged-type}
use Rattle.cal_model.proofs.KindValues.{fine-is, not-fine, split}
use Rattle.cal_check.specs.Laws.{AreBare, ConstantsFit}
use Rattle.cal_check.specs.Routines.{FunDecl, Head, fun_if, fun_judged, funs_after, funs_over, head_judged, local_if, local_of, locals_before, locals_of, shape_of, with_fun}
use Rattle.cal_check.specs.Statements.{type_of_var}
use Rattle.cal_check.specs.Statements.{names_behind}
use Rattle.cal_check.specs.Written.{with_inner}
use Rattle.cal_check.proofs.FittingValues.{FunFits, GivesSuch, Fits, IfSome, IsSized, VarsFit, calls-fit, eval-fits, is-sized}
use Rattle.cal_check.proofs.Lists.{each-append, each-map}
use Rattle.cal_check.proofs.SoundRoutines.{head-is}

-- ---- constants

abbrev pub KnownsFit : List Known → Type 0
KnownsFit xs = Each (λ x. IfSome Fits x.value) xs

without-fit : (name : List ℕ) (vars : List Var) → VarsFit vars → VarsFit (without name vars)
without-fit name [] f = tt
without-fit name (x ∷ xs) f = go (bytes_eq x.name name) (without-fit name xs f.1)
  where
    go : (b : Bool) → VarsFit (without name xs) → VarsFit (if b then without name xs else x ∷ without name xs)
    go true rest = rest
    go false rest = (f.0, rest)

constants-fit : (xs : List Known) → KnownsFit xs → VarsFit (constants xs)
constants-fit [] f = tt
constants-fit (x ∷ xs) f = go x.value f.0 (constants-fit xs f.1)
  where
    go : (o : Option Value) → IfSome Fits o → VarsFit (constants xs)
        → VarsFit (elim o [ None ↦ without x.name (constants xs) | Some v ↦ record { name = x.name; value = v; kept = None } ∷ constants xs ])
    go None g rest = without-fit x.name (constants xs) rest
    go (Some v) g rest = (g, rest)

bare-fit : (xs : List Known) → AreBare xs → KnownsFit xs
bare-fit xs b = each-map (λ x. x.value ≡ None) (λ x. IfSome Fits x.value) xs (λ x e. subst (λ o. IfSome Fits o) (sym e) tt) b

such-number : (o : Out Value) (z : ℤ) (left : ℕ) → GivesSuch Fits o → o ≡ Gives (Num z) left → IsNum z
such-number o z left h e = subst (λ p. GivesSuch Fits p) e h

pub names-fit : (names : Names) → AreBare names.locals → KnownsFit names.globals → Each FunFits names.funs → ConstantsFit names
names-fit names bare known funs = (
  bare,
  λ locals e z left b h.
      let all : VarsFit (constants (locals ++ names.globals)) = constants-fit (locals ++ names.globals) (each-append (λ x. IfSome Fits x.value) locals names.globals (bare-fit locals b) known) in
      let env : Env = record { globals = constants (locals ++ names.globals); locals = [] } in
      such-number (constant e (record names { locals = locals })) z left
      (eval-fits e (constant_calls (record names { locals = locals })) env max_turns
      (record {
        locals = tt;
        globals = all;
        called = λ name args k a. calls-fit _ names.funs (constants names.globals) funs (constants-fit names.globals known) name args k a;
      })) h,
)

-- ---- functions

shape-sized : (j : Judged Shape) → ((t : Shape) → j ≡ Fine t → IsSized t) → IsSized (shape_of j)
shape-sized (Fine t) f = f t refl
shape-sized (Broken rule at) f = tt

local-sized : (v : Tree) (names : Names) → IsSized (local_of v names).shape
local-sized (tree.var shape (tree.ident name place) start changes at) names =
    shape-sized (type_judged shape names) (λ t e. is-sized t (judged-type shape names t e))
local-sized other names = tt

locals-sized : (vars : Tree) (names : Names) → Each (λ x. IsSized x.shape) (locals_of vars names)
locals-sized (tree.cons v vs) names = (local-sized v names, locals-sized vs (with_inner v names))
locals-sized other names = tt

local-if-sized : (j : Judged Shape) (x : Local) (xs : List Local) → IsSized x.shape → Each (λ x. IsSized x.shape) xs → Each (λ x. IsSized x.shape) (local_if j x xs)
local-if-sized (Fine t) x xs h rest = (h, rest)
local-if-sized (Broken rule at) x xs h rest = tt

before-sized : (vars : Tree) (names : Names) → Each (λ x. IsSized x.shape) (locals_before vars names)
before-sized (tree.cons v vs) names =
    local-if-sized (type_of_var v names) (local_of v names) (locals_before vs (with_inner v names)) (local-sized v names) (before-sized vs (with_inner v names))
before-sized other names = tt

formal-sized : (x : Local) → IsFormal x → IsSized x.shape
formal-sized x f = subst (λ t. IsSized t) (sym f.single) f.size

head-fits : (j : Judged Names) (full : List ℕ) (head : Head) (vars body : Tree) (names : Names) → Each IsFormal head.formals → IsSize head.result → FunFits (fun_if j full head vars body names)
head-fits (Fine inner) full head vars body names formals size = record {
  formals = each-map IsFormal (λ x. IsSized x.shape) head.formals formal-sized formals;
  locals = locals-sized vars (with_locals head.formals names);
  result = size;
}
head-fits (Broken rule at) full head vars body names formals size = record {
  formals = each-map IsFormal (λ x. IsSized x.shape) head.formals formal-sized formals;
  locals = before-sized vars (with_locals head.formals names);
  result = size;
}

pub fun-fits : (full : List ℕ) (decl : Tree) (names : Names) (f : Fun) → fun_judged full decl names ≡ Fine f → FunFits f
fun-fits full (tree.function name formals result vars body at) names f h =
    let decl : Tree = tree.function name formals result vars body at in
    let head = split (head_judged decl names) (λ head. Fine (fun_if (names_behind vars (with_locals head.formals names)) full head vars body names)) f h in
    let is = head-is name formals result vars body at names head.0 head.1 in
    subst (λ x. FunFits x) (fine-is _ f head.2) (head-fits (names_behind vars (with_locals head.0.formals names)) full head.0 vars body names is.0 is.1)
fun-fits full other names f h = absurd (not-fine unknown_name 0 f h)

with-fits : (j : Judged Fun) (fs : List Fun) → ((f : Fun) → j ≡ Fine f → FunFits f) → Each FunFits fs → Each FunFits (with_fun j fs)
with-fits (Fine f) fs g rest = (g f refl, rest)
with-fits (Broken rule at) fs g rest = rest

pub over-fit : (fs : List FunDecl) (names : Names) → Each FunFits (funs_over fs names)
over-fit [] names = tt
over-fit (f ∷ fs) names = with-fits (fun_judged f.name f.decl names) (funs_over fs names) (fun-fits f.name f.decl names) (over-fit fs names)

pub after-fit : (n : ℕ) (fs : List FunDecl) (names : Names) → Each FunFits (funs_after n fs names)
after-fit zero fs names = tt
after-fit (suc n) fs names = over-fit fs (record names { funs = funs_after n fs names })
