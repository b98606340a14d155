-- An actor with what its imports lead to: the rules that it breaks, and the actor that it is if it breaks none (ISO/IEC
-- 23001-4, RVC-CAL: actors).
--
-- All names are written in full: each use of what another file declares has the text that stands for it.
-- Trusted: part of what a promise means.
use Rattle.std.specs.Prelude.{◌≡◌, ◌⊎◌, ℕ, zero, suc, ◌+◌, Bool, true, false, ◌||◌, ◌&&◌, not, ◌==◌, nat_le, List, [], ◌∷◌, ◌++◌, map, length, Contains, None, Some, if◌then◌else◌}
use Rattle.std.specs.Str.{bytes_eq}
use Rattle.rvc_base.specs.Rules.{wrong_parameter, not_constant, wrong_initialize, too_many_actions, too_many_variables, priority_cycle}
use Rattle.cal_ast.specs.Places.{begins}
use Rattle.cal_ast.specs.Tree as tree
use Rattle.cal_ast.specs.Tree.{Tree}
use Rattle.cal_model.specs.Value.{scalars_of_type}
use Rattle.cal_model.specs.Actor.{Held, Fun, Proc, Action, Actor}
use Rattle.cal_model.specs.Selection.{Above}
use Rattle.cal_model.specs.Kinding.{Judged, Known, Names}
use Rattle.cal_model.specs.Sound.{max_actions, max_states, max_variable_scalars}
use Rattle.cal_check.specs.Violations.{Violation, violation, unless, broken, all_fine}
use Rattle.cal_check.specs.Routines.{FunDecl, head_judged, formals_judged, fun_judged, fun_broken, proc_judged, proc_broken}
use Rattle.cal_check.specs.Variables.{Spot, Found, found_in, Given, VarDecl, Valued, none_yet, seen, valued}
use Rattle.cal_check.specs.Ports.{each_port, header_broken}
use Rattle.cal_check.specs.Actions.{Around, action_broken, action_of, or_none}
use Rattle.cal_check.specs.Schedules.{schedule_in, states_of, moves_in, schedule_broken, priorities_broken, pairs_in, first_priority}

-- ---- the actor as it is declared

-- an actor's tree, and the declarations of other files to which its imports lead
pub record Source : Type 0 where
  pub class : List ℕ
  pub file : ℕ
  pub actor : Tree
  pub vars : List VarDecl
  pub funs : List FunDecl

abbrev pub params_in : ℕ → Tree → List VarDecl
params_in file (tree.cons (tree.param shape (tree.ident name place) start at) ps) =
    record {
      name = name;
      file = file;
      shape = shape;
      start = start;
      changes = false;
      is_param = true;
    } ∷ params_in file ps
params_in file other = []

abbrev pub vars_in : ℕ → Tree → List VarDecl
vars_in file (tree.cons (tree.var shape (tree.ident name place) start changes at) ms) =
    record {
      name = name;
      file = file;
      shape = shape;
      start = start;
      changes = changes;
      is_param = false;
    } ∷ vars_in file ms
vars_in file (tree.cons m ms) = vars_in file ms
vars_in file other = []

abbrev pub funs_in : ℕ → Tree → List FunDecl
funs_in file (tree.cons (tree.function (tree.ident name place) formals result vars body at) ms) =
    record {
      name = name;
      file = file;
      decl = tree.function (tree.ident name place) formals result vars body at;
    } ∷ funs_in file ms
funs_in file (tree.cons m ms) = funs_in file ms
funs_in file other = []

abbrev pub procs_in : Tree → List Tree
procs_in (tree.cons (tree.procedure name formals vars body at) ms) =
    tree.procedure name formals vars body at ∷ procs_in ms
procs_in (tree.cons m ms) = procs_in ms
procs_in other = []

abbrev pub actions_in : Tree → List Tree
actions_in (tree.cons (tree.action tagged initialize ins outs guards vars body at) ms) =
    tree.action tagged initialize ins outs guards vars body at ∷ actions_in ms
actions_in (tree.cons m ms) = actions_in ms
actions_in other = []

-- the parts of an actor's tree
abbrev pub params_of : Tree → Tree
params_of (tree.actor name params ins outs members at) = params
params_of other = tree.nil

abbrev pub ins_of : Tree → Tree
ins_of (tree.actor name params ins outs members at) = ins
ins_of other = tree.nil

abbrev pub outs_of : Tree → Tree
outs_of (tree.actor name params ins outs members at) = outs
outs_of other = tree.nil

abbrev pub members_of : Tree → Tree
members_of (tree.actor name params ins outs members at) = members
members_of other = tree.nil

abbrev pub place_of : Tree → ℕ
place_of (tree.actor name params ins outs members at) = at
place_of other = 0

abbrev pub all_funs : Source → List FunDecl
all_funs s = s.funs ++ funs_in s.file (members_of s.actor)

-- ---- values

-- what other files declare, and the parameters
abbrev pub before_members : Source → List Given → Spot → Valued
before_members s gs owner =
    valued (s.vars ++ params_in s.file (params_of s.actor)) gs owner (all_funs s) none_yet

-- then the actor's own variables
abbrev pub all_valued : Source → List Given → Spot → Valued
all_valued s gs owner =
    valued (vars_in s.file (members_of s.actor)) gs owner (all_funs s) (before_members s gs owner)

-- what is known where bodies are judged: of what changes only the kind
abbrev pub at_rest : Known → Known
at_rest x = record x { value = if x.changes then None else x.value }

abbrev pub names_at_rest : Source → Valued → Names
names_at_rest s vs = seen (all_funs s) (map at_rest vs.known)

-- ---- parameters that are given

abbrev pub is_declared : List ℕ → List VarDecl → Bool
is_declared name [] = false
is_declared name (x ∷ xs) = bytes_eq x.name name || is_declared name xs

abbrev pub is_given : List ℕ → List Given → Bool
is_given name [] = false
is_given name (g ∷ gs) = bytes_eq g.name name || is_given name gs

-- a parameter that isn't declared, or was given before
abbrev pub given_wrongly : List Given → List Given → List VarDecl → List Found
given_wrongly [] before params = []
given_wrongly (g ∷ gs) before params =
    (if not (is_declared g.name params) || is_given g.name before
    then found_in g.place.file (violation wrong_parameter g.place.at) else [])
    ++ given_wrongly gs (g ∷ before) params

-- ---- functions and procedures

abbrev pub heads_broken : List FunDecl → Names → List Found
heads_broken [] names = []
heads_broken (f ∷ fs) names =
    found_in f.file (broken (head_judged f.decl names)) ++ heads_broken fs names

abbrev pub formals_broken : List Tree → Names → List Violation
formals_broken (tree.procedure name formals vars body at ∷ ps) names =
    broken (formals_judged formals names) ++ formals_broken ps names
formals_broken (other ∷ ps) names = formals_broken ps names
formals_broken [] names = []

abbrev pub funs_broken : List FunDecl → Names → List Found
funs_broken [] names = []
funs_broken (f ∷ fs) names = found_in f.file (fun_broken f.decl names) ++ funs_broken fs names

abbrev pub procs_broken : List Tree → List Proc → Names → List Violation
procs_broken [] procs names = []
procs_broken (p ∷ ps) procs names = proc_broken p procs names ++ procs_broken ps procs names

abbrev pub procs_of : List Tree → Names → List (Judged Proc)
procs_of [] names = []
procs_of (p ∷ ps) names = proc_judged p names ∷ procs_of ps names

abbrev pub funs_of : List FunDecl → Names → List (Judged Fun)
funs_of [] names = []
funs_of (f ∷ fs) names = fun_judged f.name f.decl names ∷ funs_of fs names

-- ---- actions

abbrev pub actions_broken : List Tree → Around → List Violation
actions_broken [] around = []
actions_broken (a ∷ acts) around = action_broken a around ++ actions_broken acts around

abbrev pub is_initialize : Tree → Bool
is_initialize (tree.action tagged initialize ins outs guards vars body at) = initialize
is_initialize other = false

abbrev pub place_of_action : Tree → ℕ
place_of_action (tree.action tagged initialize ins outs guards vars body at) = at
place_of_action other = 0

-- a second `initialize`
abbrev pub initialized_twice : Bool → List Tree → List Violation
initialized_twice before [] = []
initialized_twice true (a ∷ acts) =
    (if is_initialize a then violation wrong_initialize (place_of_action a) else [])
    ++ initialized_twice true acts
initialized_twice false (a ∷ acts) = initialized_twice (is_initialize a) acts

abbrev pub around_of : Source → List Given → Spot → Around
around_of s gs owner = record {
  ins = or_none (all_fine (each_port (ins_of s.actor)
      (seen (all_funs s) (before_members s gs owner).known)));
  outs = or_none (all_fine (each_port (outs_of s.actor)
      (seen (all_funs s) (before_members s gs owner).known)));
  procs = or_none (all_fine (procs_of (procs_in (members_of s.actor))
      (names_at_rest s (all_valued s gs owner))));
  names = names_at_rest s (all_valued s gs owner);
}

-- ---- which declarations of other files are used

abbrev mutual
  pub uses : List ℕ → Tree → Bool
  uses name (tree.variable text at) = bytes_eq name text
  uses name (tree.call text args at) = bytes_eq name text || uses name args
  uses name (tree.cons t ts) = uses name t || uses name ts
  uses name (tree.present t) = uses name t
  uses name (tree.paren e at) = uses name e
  uses name (tree.if_expr test first other at) =
      uses name test || (uses name first || uses name other)
  uses name (tree.list items at) = uses name items
  uses name (tree.comp item gens at) = uses name item || uses name gens
  uses name (tree.gen shape x from to at) = uses name shape || (uses name from || uses name to)
  uses name (tree.index base place at) = uses name base || uses name place
  uses name (tree.prefix op e at) = uses name e
  uses name (tree.binary op l r at) = uses name l || uses name r
  uses name (tree.type_of x args at) = uses name args
  uses name (tree.shape_arg x shape) = uses name shape
  uses name (tree.value_arg x value) = uses name value
  uses name (tree.assign (tree.ident x place) places value at) =
      bytes_eq name x || (uses name places || uses name value)
  uses name (tree.call_stmt x args at) = uses name args
  uses name (tree.if_stmt test first other at) =
      uses name test || (uses name first || uses name other)
  uses name (tree.while_stmt test body at) = uses name test || uses name body
  uses name (tree.foreach_stmt shape x from to body at) =
      uses name shape || (uses name from || (uses name to || uses name body))
  uses name (tree.block vars body at) = uses name vars || uses name body
  uses name (tree.param shape x start at) = uses name shape || uses name start
  uses name (tree.port shape x at) = uses name shape
  uses name (tree.var shape x start changes at) = uses name shape || uses name start
  uses name (tree.function x formals result vars body at) =
      uses name formals || (uses name result || (uses name vars || uses name body))
  uses name (tree.procedure x formals vars body at) =
      uses name formals || (uses name vars || uses name body)
  uses name (tree.action tagged initialize ins outs guards vars body at) =
      uses name ins || (uses name outs || (uses name guards || (uses name vars || uses name body)))
  uses name (tree.pattern asked names repeat at) = uses name repeat
  uses name (tree.output asked values repeat at) = uses name values || uses name repeat
  uses name (tree.actor x params ins outs members at) =
      uses name params || (uses name ins || (uses name outs || uses name members))
  uses name other = false

-- a declaration of another file
pub record Outer : Type 0 where
  pub name : List ℕ
  pub decl : Tree

abbrev pub outer_of_var : VarDecl → Outer
outer_of_var x = record { name = x.name; decl = tree.cons x.shape (tree.cons x.start tree.nil) }

abbrev pub outer_of_fun : FunDecl → Outer
outer_of_fun f = record { name = f.name; decl = f.decl }

abbrev pub outers : Source → List Outer
outers s = map outer_of_var s.vars ++ map outer_of_fun s.funs

abbrev pub among : List ℕ → List (List ℕ) → Bool
among name [] = false
among name (x ∷ xs) = bytes_eq name x || among name xs

-- one of those that are used uses it
abbrev pub used_by : List ℕ → List Outer → List (List ℕ) → Bool
used_by name [] used = false
used_by name (d ∷ ds) used =
    (if among d.name used then uses name d.decl else false) || used_by name ds used

abbrev pub used_now : Source → List Outer → List (List ℕ) → List (List ℕ)
used_now s [] used = []
used_now s (d ∷ ds) used =
    (if uses d.name s.actor || used_by d.name (outers s) used then d.name ∷ [] else [])
    ++ used_now s ds used

-- the names of what the actor uses, directly or indirectly, after so many rounds
abbrev pub used_after : ℕ → Source → List (List ℕ)
used_after zero s = []
used_after (suc n) s = used_now s (outers s) (used_after n s)

abbrev pub used : Source → List (List ℕ)
used s = used_after (suc (length (outers s))) s

-- a name of the actor's own file, or one that it uses
abbrev pub is_kept : List ℕ → List Outer → List (List ℕ) → Bool
is_kept name [] used = true
is_kept name (d ∷ ds) used = if bytes_eq d.name name then among name used else is_kept name ds used

abbrev pub kept_vars : List Held → Source → List Held
kept_vars [] s = []
kept_vars (x ∷ xs) s =
    if is_kept x.name (outers s) (used s) then x ∷ kept_vars xs s else kept_vars xs s

abbrev pub kept_funs : List Fun → Source → List Fun
kept_funs [] s = []
kept_funs (f ∷ fs) s =
    if is_kept f.name (outers s) (used s) then f ∷ kept_funs fs s else kept_funs fs s

abbrev pub scalars_of : List Held → ℕ
scalars_of [] = 0
scalars_of (x ∷ xs) = scalars_of_type x.shape + scalars_of xs

-- ---- the actor

abbrev pub actions_of : List Tree → Around → List Action
actions_of [] around = []
actions_of (a ∷ acts) around = action_of a around ∷ actions_of acts around

-- the actor without its moves and pairs, which name its actions
abbrev pub bare_actor : Source → List Given → Spot → Around → Actor
bare_actor s gs owner around = record {
  class = s.class;
  ins = around.ins;
  outs = around.outs;
  vars = kept_vars (all_valued s gs owner).held s;
  funs = kept_funs (or_none (all_fine (funs_of (all_funs s) around.names))) s;
  procs = around.procs;
  actions = actions_of (actions_in (members_of s.actor)) around;
  states = states_of (schedule_in (members_of s.actor));
  moves = [];
  pairs = [];
}

abbrev pub with_order : Source → Actor → Actor
with_order s actor = record actor {
  moves = moves_in (schedule_in (members_of s.actor)) actor;
  pairs = pairs_in (members_of s.actor) actor;
}

-- what the actor is, if it breaks no rule
abbrev pub actor_given : Source → List Given → Spot → Actor
actor_given s gs owner = with_order s (bare_actor s gs owner (around_of s gs owner))

-- ---- what it breaks

abbrev pub header_found : Source → List Given → Spot → List Found
header_found s gs owner = found_in s.file (header_broken (ins_of s.actor) (outs_of s.actor)
    (place_of s.actor) (seen (all_funs s) (before_members s gs owner).known))

abbrev pub heads_found : Source → Names → List Found
heads_found s names = heads_broken (all_funs s) names
    ++ found_in s.file (formals_broken (procs_in (members_of s.actor)) names)

-- what is inside functions, procedures and actions, and the limits
abbrev pub inside_found : Source → Around → Actor → List Found
inside_found s around actor = funs_broken (all_funs s) around.names
    ++ found_in s.file (procs_broken (procs_in (members_of s.actor)) around.procs around.names
    ++ (actions_broken (actions_in (members_of s.actor)) around
    ++ (initialized_twice false (actions_in (members_of s.actor))
    ++ (schedule_broken (schedule_in (members_of s.actor)) actor
    ++ (priorities_broken (members_of s.actor) actor.actions
    ++ (unless (nat_le (length (actions_in (members_of s.actor))) max_actions)
    too_many_actions (place_of s.actor)
    ++ (unless (nat_le (length actor.states) max_states) too_many_actions (place_of s.actor)
    ++ unless (nat_le (scalars_of actor.vars) max_variable_scalars)
    too_many_variables (place_of s.actor))))))))

abbrev pub is_empty : {A : Type 0} → List A → Bool
is_empty [] = true
is_empty (x ∷ xs) = false

-- Heads are judged if all variables have types, and what is inside if all heads and the header break nothing.
abbrev pub members_found : Source → Around → Actor → Bool → List Found
members_found s around actor whole =
    if not whole then []
    else if is_empty (heads_found s around.names) then inside_found s around actor
    else heads_found s around.names

abbrev pub all_said : Bool → List Found → List Found
all_said hides [] = []
all_said hides (f ∷ fs) =
    if hides && (f.violation.rule.0 == not_constant.0) then all_said hides fs
    else f ∷ all_said hides fs

abbrev pub behind_variables : Source → List Given → Spot → Around → List Found
behind_variables s gs owner around =
    given_wrongly gs [] (params_in s.file (params_of s.actor))
    ++ (header_found s gs owner
    ++ (if is_empty (header_found s gs owner)
    then members_found s around (actor_given s gs owner) (all_valued s gs owner).whole else []))

abbrev pub has_heads : Source → Around → Bool
has_heads s around = is_empty (heads_found s around.names)

-- those that are said, or all if none is
abbrev pub said_or_all : List Found → List Found → List Found
said_or_all [] all = all
said_or_all (f ∷ fs) all = f ∷ fs

abbrev pub all_found : Source → List Given → Spot → Around → List Found
all_found s gs owner around = (all_valued s gs owner).breaks ++ behind_variables s gs owner around

abbrev pub declared_vars : Source → List VarDecl
declared_vars s =
    s.vars
    ++ (params_in s.file (params_of s.actor) ++ vars_in s.file (members_of s.actor))

abbrev pub is_held : List ℕ → List Held → Bool
is_held name [] = false
is_held name (x ∷ xs) = bytes_eq x.name name || is_held name xs

-- The first variable without a value isn't constant. An evaluation that comes to nothing of use has met a part that isn't
-- known yet, if no body that it ran breaks a rule.
abbrev pub first_valueless : List VarDecl → List Held → Spot → List Found
first_valueless [] held owner = found_in owner.file (violation not_constant owner.at)
first_valueless (x ∷ xs) held owner =
    if is_held x.name held then first_valueless xs held owner
    else found_in x.file (violation not_constant (begins x.start))

abbrev pub valueless_found : Source → Spot → Valued → List Found
valueless_found s owner vs =
    if vs.useless || not vs.whole then first_valueless (declared_vars s) vs.held owner else []

-- The rules that an actor breaks, over the values that are given to its parameters; `owner` is the place of a parameter
-- without value. Nothing is said of what isn't constant if some head breaks a rule, and nothing behind the variables
-- if one of them has no value that is of use; but all is said if else nothing were, and a variable without a value is
-- never passed over.
abbrev pub violations_over : Source → List Given → Spot → Around → List Found
violations_over s gs owner around =
    said_or_all (all_said (not (has_heads s around)) ((all_valued s gs owner).breaks
    ++ all_said (all_valued s gs owner).useless (behind_variables s gs owner around)))
    (said_or_all (all_found s gs owner around)
    (valueless_found s owner (all_valued s gs owner)))

abbrev pub violations : Source → List Given → Spot → List Found
violations s gs owner = violations_over s gs owner (around_of s gs owner)

-- some action is above itself
pub record IsAboveItself (actor : Actor) : Type 0 where
  pub action : ℕ
  pub above : Above actor action action

-- a rule that the actor breaks, where it does: one of these, or that of an action above itself, at the first `priority`
abbrev pub IsViolated : Source → List Given → Spot → Found → Type 0
IsViolated s gs owner f = Contains (violations s gs owner) f
    ⊎ (IsAboveItself (actor_given s gs owner)
    × (first_priority (members_of s.actor) ≡ Some f.violation.at)
    × (f.violation.rule ≡ priority_cycle) × (f.file ≡ s.file))

-- An actor conforms if it breaks none of these rules, and no action is above itself.
pub record Conforms (s : Source) (gs : List Given) (owner : Spot) : Type 0 where
  pub nothing : violations s gs owner ≡ []
  pub ordered : IsAboveItself (actor_given s gs owner) → ⊥

-- the actor that a source is
pub record IsSource (s : Source) (gs : List Given) (owner : Spot) (actor : Actor) : Type 0 where
  pub conforms : Conforms s gs owner
  pub is : actor ≡ actor_given s gs owner
