-- What functions break of themselves, and what is said of an actor then.
--
-- A start, a size or a bound may call a function that breaks a rule. Whatever its evaluation comes to says nothing then: what
-- the function breaks is said, and what may only follow from it isn't.
-- Trusted: part of what a promise means.
use Rattle.std.specs.Prelude.{◌≡◌, ◌⊎◌, Bool, true, false, not, ◌&&◌, ◌||◌, ◌==◌, List, [], ◌∷◌, ◌++◌, Contains, Some, if◌then◌else◌}
use Rattle.rvc_base.specs.declared.refusal.Rule.{Rule}
use Rattle.rvc_base.specs.Rules.{not_constant, priority_cycle, unknown_name}
use Rattle.cal_model.specs.Kinding.{Names}
use Rattle.cal_check.specs.Violations.{broken}
use Rattle.cal_check.specs.Routines.{FunDecl, fun_broken, head_judged}
use Rattle.cal_check.specs.Variables.{Found, Given, Spot, found_in, seen}
use Rattle.cal_check.specs.Schedules.{first_priority}
use Rattle.cal_check.specs.Actors.{IsAboveItself, Source, actor_given, all_funs, all_said, all_valued, around_of, heads_broken, is_empty, members_of, violations}

-- A rule that may follow from one that is broken elsewhere: something isn't constant, or a name has no kind. All names are
-- declared, so one has none if its type, its head or a type before it breaks a rule.
abbrev pub may_follow : Rule → Bool
may_follow rule = (rule.0 == not_constant.0) || (rule.0 == unknown_name.0)

-- what is broken, without what may follow from other rules
abbrev pub of_themselves : List Found → List Found
of_themselves [] = []
of_themselves (f ∷ fs) =
    if may_follow f.violation.rule then of_themselves fs else f ∷ of_themselves fs

-- some name has no kind, so not all that is broken may be found
abbrev pub lacks_kinds : List Found → Bool
lacks_kinds [] = false
lacks_kinds (f ∷ fs) = (f.violation.rule.0 == unknown_name.0) || lacks_kinds fs

-- ---- functions

-- what a function breaks: its head, and what is inside
abbrev pub fun_found : FunDecl → Names → List Found
fun_found f names =
    found_in f.file (broken (head_judged f.decl names)) ++ found_in f.file (fun_broken f.decl names)

-- what functions break of themselves
abbrev pub functions_found : List FunDecl → Names → List Found
functions_found [] names = []
functions_found (f ∷ fs) names = of_themselves (fun_found f names) ++ functions_found fs names

-- the same of those in which all names have kinds
abbrev pub settled_found : List FunDecl → Names → List Found
settled_found [] names = []
settled_found (f ∷ fs) names =
    (if lacks_kinds (fun_found f names) then [] else of_themselves (fun_found f names))
    ++ settled_found fs names

-- what functions break, and other rules if no function breaks any in which all names have kinds
abbrev pub functions_first : List FunDecl → Names → List Found → List Found
functions_first fs names others =
    functions_found fs names ++ (if is_empty (settled_found fs names) then others else [])

-- ---- heads

-- that something isn't constant
abbrev pub lacking : List Found → List Found
lacking [] = []
lacking (f ∷ fs) =
    if f.violation.rule.0 == not_constant.0 then f ∷ lacking fs else lacking fs

-- without names that have no kinds
abbrev pub named : List Found → List Found
named [] = []
named (f ∷ fs) = if f.violation.rule.0 == unknown_name.0 then named fs else f ∷ named fs

-- A function whose head isn't constant has no kind where it is called. What isn't constant is said then.
abbrev pub heads_first : List Found → List Found → List Found
heads_first heads others =
    if lacks_kinds others && not (is_empty heads) then heads ++ named others else others

-- ---- the actor

-- what an actor breaks whose functions break nothing of themselves
abbrev pub others_found : Source → List Given → Spot → List Found
others_found s gs owner =
    heads_first (lacking (heads_broken (all_funs s) (around_of s gs owner).names))
    (violations s gs owner)

-- what the variables break, without what isn't constant
abbrev pub values_found : Source → List Given → Spot → List Found
values_found s gs owner = all_said true (all_valued s gs owner).breaks

-- The rules that an actor breaks. Its functions come first: over all names, or over no variables if some variable breaks a
-- rule, which may follow from them.
abbrev pub actor_found : Source → List Given → Spot → List Found
actor_found s gs owner =
    if is_empty (values_found s gs owner)
    then functions_first (all_funs s) (around_of s gs owner).names (others_found s gs owner)
    else functions_first (all_funs s) (seen (all_funs s) []) (values_found s gs owner)

-- an action above itself is named at the first `priority`
abbrev pub IsCycleAt : Source → List Given → Spot → Found → Type 0
IsCycleAt s gs owner f = IsAboveItself (actor_given s gs owner)
    × (first_priority (members_of s.actor) ≡ Some f.violation.at)
    × (f.violation.rule ≡ priority_cycle) × (f.file ≡ s.file)

-- a rule that the actor breaks, where it does
abbrev pub IsBroken : Source → List Given → Spot → Found → Type 0
IsBroken s gs owner f = Contains (actor_found s gs owner) f ⊎ IsCycleAt s gs owner f
