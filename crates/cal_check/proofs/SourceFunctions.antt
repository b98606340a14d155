-- Functions, procedures and actions of a source that breaks no rule do what they do as they stand there.
use Rattle.std.proofs.Common.{◌≡◌, ℕ, List, [], ◌∷◌, map, length, refl, sym, ap, subst, ◌∙◌, ⊎_elim, Contains, None}
use Rattle.std.specs.Prelude.{if◌then◌else◌}
use Rattle.cal_model.specs.Value.{Values}
use Rattle.cal_model.specs.Outcome.{Lacks}
use Rattle.cal_ast.specs.Tree.{Tree}
use Rattle.cal_model.specs.Env.{Env, Var}
use Rattle.cal_model.specs.Call.{calls_of, fun_named}
use Rattle.cal_model.specs.Statement.{Runs, runs_of}
use Rattle.cal_model.specs.Kinding.{Known, Names, constants}
use Rattle.cal_model.specs.Sound.{Each, FunCallsBelow}
use Rattle.cal_check.specs.Actors.{Conforms, Source, actions_broken, all_funs, all_valued, around_of, at_rest, declared_vars, procs_of}
use Rattle.cal_check.specs.AsWritten.{funs_as_are, procs_as_are}
use Rattle.cal_check.specs.Actions.{Around, action_broken, action_of, with_all_patterns}
use Rattle.cal_check.specs.Formed.{IsActionFormed}
use Rattle.cal_check.specs.Meaning.{AreAtRest}
use Rattle.cal_check.specs.Meaning as meaning
use Rattle.cal_check.specs.Sources.{IsSourceFormed, actions_of_source, procs_of_source}
use Rattle.cal_check.specs.Variables.{Given, Spot}
use Rattle.cal_check.proofs.ActionsKept.{DoesTheSame, action-kept}
use Rattle.cal_check.proofs.Fine.{none-of}
use Rattle.cal_check.proofs.Lists.{head-or-rest, in-none}
use Rattle.cal_check.proofs.FunctionsKept.{calls-kept, pairs-of}
use Rattle.cal_check.proofs.JudgedRoutines.{functions-found, funs-fine, procedures-found, procs-fine}
use Rattle.cal_check.proofs.MeaningKept.{from-less, to-less}
use Rattle.cal_check.proofs.ProceduresKept as ps
use Rattle.cal_check.proofs.ProceduresKept.{runs-same}
use Rattle.cal_check.proofs.SoundActions.{or-none}
use Rattle.cal_check.specs.Violations.{all_fine}
use Rattle.cal_check.proofs.NoneBroken.{nothing-broken}
use Rattle.cal_check.proofs.SettledFuns.{over-call}
use Rattle.cal_check.proofs.SourceNames.{all-are-valued, base_names, rest-names-fit, round-same}
use Rattle.cal_check.proofs.StatementsKept.{HasConstants, Holds, Same, World}
use Rattle.cal_check.proofs.ValuesKept.{calls-below}

-- of what changes only the kind is known
pub are-at-rest : (xs : List Known) → AreAtRest (map at_rest xs)
are-at-rest [] = tt
are-at-rest (x ∷ xs) = (λ e. ap (λ b. if b then None else x.value) e, are-at-rest xs)

abbrev pub no_runs : Runs
no_runs globals name args left = Lacks

-- the world in which bodies are judged, with no procedures
pub source-world : (globals : List Known) (names : Names) → names.globals ≡ map at_rest globals → World (calls_of names.funs) (calls_of names.funs) no_runs no_runs names.globals names.funs
source-world globals names e = record {
  rest = subst (λ xs. AreAtRest xs) (sym e) (are-at-rest globals);
  means = λ vars has name args left. calls-below _ names.funs (constants names.globals) vars has name args left;
  calls = λ vars has name args left. refl;
  performs = λ vars has name args left. (refl, tt);
}

pub functions-same : (s : Source) (gs : List Given) (owner : Spot) (vars : List Var) (name : List ℕ) (args : Values) (left : ℕ) → IsSourceFormed s → Conforms s gs owner
    → meaning.HasConstants (around_of s gs owner).names.globals vars
    → calls_of (around_of s gs owner).names.funs vars name args left ≡ calls_of (funs_as_are (all_funs s) (around_of s gs owner).names) vars name args left
functions-same s gs owner vars name args left formed c has =
    let none = nothing-broken s gs owner c.nothing in
    let names : Names = (around_of s gs owner).names in
    let valued = all-are-valued s gs owner none.useful none.whole in
    let funs = functions-found (all_funs s) names formed.funs none.members.heads in
    let fit = rest-names-fit s gs owner (map (λ x. x.name) (declared_vars s)) valued in
    let world = source-world (all_valued s gs owner).known names refl in
    let pairs = pairs-of (calls_of names.funs) no_runs formed.funs_end.rank (all_funs s) names funs.found formed.funs (funs-fine (all_funs s) names none.members.funs) formed.funs_end.calls refl fit world funs.are in
    let below : Each (FunCallsBelow formed.funs_end.rank) funs.found = subst (λ us. Each (FunCallsBelow formed.funs_end.rank) us) funs.over (over-call formed.funs_end.rank (all_funs s) names formed.funs_end.calls) in
    calls-kept formed.funs_end.rank names.globals funs.found (funs_as_are (all_funs s) names) names.funs below
    (λ other. ap (λ us. fun_named other us) (sym funs.over)
    ∙ sym (round-same (length (all_funs s)) (all_funs s) (base_names (map at_rest (all_valued s gs owner).known)) other formed.funs_end refl formed.funs))
    pairs.0 vars name args left pairs.1 (to-less names.globals vars has)

-- the world of a source, with its procedures
abbrev pub SourceWorld : Source → List Given → Spot → Type 0
SourceWorld s gs owner =
    World (calls_of (around_of s gs owner).names.funs) (calls_of (funs_as_are (all_funs s) (around_of s gs owner).names))
    (runs_of (around_of s gs owner).procs (calls_of (around_of s gs owner).names.funs))
    (runs_of (procs_as_are (procs_of_source s) (around_of s gs owner).names) (calls_of (funs_as_are (all_funs s) (around_of s gs owner).names)))
    (around_of s gs owner).names.globals (around_of s gs owner).names.funs

pub whole-world : (s : Source) (gs : List Given) (owner : Spot) → IsSourceFormed s → Conforms s gs owner → SourceWorld s gs owner
whole-world s gs owner formed c =
    let none = nothing-broken s gs owner c.nothing in
    let names : Names = (around_of s gs owner).names in
    let valued = all-are-valued s gs owner none.useful none.whole in
    let fit = rest-names-fit s gs owner (map (λ x. x.name) (declared_vars s)) valued in
    let procs = procedures-found (procs_of_source s) names formed.procs none.members.formals in
    let same : (around_of s gs owner).procs ≡ procs.found = or-none (all_fine (procs_of (procs_of_source s) names)) procs.found procs.all in
    let own = calls_of names.funs in
    let raw = calls_of (funs_as_are (all_funs s) names) in
    let pairs = ps.pairs-of own raw (procs_of_source s) (around_of s gs owner).procs names procs.found formed.procs (procs-fine (procs_of_source s) (around_of s gs owner).procs names none.members.procs) refl fit procs.are in
    let world : (runs others : Runs) → ((globals : List Var) → HasConstants names.globals globals → (name : List ℕ) (args : Values) (left : ℕ)
    → Same (HasConstants names.globals) (runs globals name args left) (others globals name args left)) → World own raw runs others names.globals names.funs =
    λ runs others performs. record {
      rest = are-at-rest (all_valued s gs owner).known;
      means = λ zs h other vs m. calls-below _ names.funs (constants names.globals) zs h other vs m;
      calls = λ zs h other vs m. functions-same s gs owner zs other vs m formed c (from-less names.globals zs h);
      performs = performs;
    } in
    subst (λ xs. World own raw (runs_of xs own) (runs_of (procs_as_are (procs_of_source s) names) raw) names.globals names.funs) (sym same)
    (world (runs_of procs.found own) (runs_of (procs_as_are (procs_of_source s) names) raw)
    (λ globals has name args left. runs-same own raw names procs.found (procs_as_are (procs_of_source s) names) world pairs.0 pairs.1 globals has name args left))

pub procedures-same : (s : Source) (gs : List Given) (owner : Spot) (vars : List Var) (name : List ℕ) (args : Values) (left : ℕ) → IsSourceFormed s → Conforms s gs owner
    → meaning.HasConstants (around_of s gs owner).names.globals vars
    → runs_of (around_of s gs owner).procs (calls_of (around_of s gs owner).names.funs) vars name args left
    ≡ runs_of (procs_as_are (procs_of_source s) (around_of s gs owner).names) (calls_of (funs_as_are (all_funs s) (around_of s gs owner).names)) vars name args left
procedures-same s gs owner vars name args left formed c has =
    ((whole-world s gs owner formed c).performs vars (to-less (around_of s gs owner).names.globals vars has) name args left).0

-- ---- actions

each-in : {A : Type 0} (P : A → Type 0) (xs : List A) (x : A) → Each P xs → Contains xs x → P x
each-in P [] x h c = absurd (in-none x c)
each-in P (y ∷ ys) x h c = ⊎_elim (λ (e : y ≡ x). subst P e h.0) (λ d. each-in P ys x h.1 d) (head-or-rest x y ys c)

actions-fine : (acts : List Tree) (around : Around) → actions_broken acts around ≡ [] → Each (λ a. action_broken a around ≡ []) acts
actions-fine [] around h = tt
actions-fine (a ∷ acts) around h =
    let two = none-of (action_broken a around) (actions_broken acts around) h in
    (two.0, actions-fine acts around two.1)

pub actions-same : (s : Source) (gs : List Given) (owner : Spot) (a : Tree) (env : Env) (left : ℕ) → IsSourceFormed s → Conforms s gs owner → Contains (actions_of_source s) a
    → meaning.HoldsConstants (with_all_patterns (around_of s gs owner).ins (action_of a (around_of s gs owner)).patterns (around_of s gs owner).names) env
    → DoesTheSame (calls_of (around_of s gs owner).names.funs) (calls_of (funs_as_are (all_funs s) (around_of s gs owner).names))
    (runs_of (around_of s gs owner).procs (calls_of (around_of s gs owner).names.funs))
    (runs_of (procs_as_are (procs_of_source s) (around_of s gs owner).names) (calls_of (funs_as_are (all_funs s) (around_of s gs owner).names)))
    a (around_of s gs owner) (action_of a (around_of s gs owner)) env left
actions-same s gs owner a env left formed c inside has =
    let none = nothing-broken s gs owner c.nothing in
    let names : Names = (around_of s gs owner).names in
    let valued = all-are-valued s gs owner none.useful none.whole in
    let fit = rest-names-fit s gs owner (map (λ x. x.name) (declared_vars s)) valued in
    let seen : Names = with_all_patterns (around_of s gs owner).ins (action_of a (around_of s gs owner)).patterns names in
    let hold : Holds seen env = record { bare = has.bare; named = has.named; constants = to-less seen.globals env.globals has.constants } in
    action-kept (calls_of names.funs) (calls_of (funs_as_are (all_funs s) names)) (runs_of (around_of s gs owner).procs (calls_of names.funs))
    (runs_of (procs_as_are (procs_of_source s) names) (calls_of (funs_as_are (all_funs s) names))) a (around_of s gs owner) env left
    (each-in IsActionFormed (actions_of_source s) a formed.actions inside) fit (whole-world s gs owner formed c)
    (each-in (λ x. action_broken x (around_of s gs owner) ≡ []) (actions_of_source s) a (actions-fine (actions_of_source s) (around_of s gs owner) none.members.actions) inside) hold
