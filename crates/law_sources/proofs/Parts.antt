-- The parts of an actor in its scope have the forms of the grammar.
use Rattle.std.proofs.Common.{ℕ, List, [], ◌∷◌, ◌++◌, map}
use Rattle.cal_ast.specs.Tree as tree
use Rattle.cal_ast.specs.Tree.{Tree}
use Rattle.cal_model.specs.Sound.{Each}
use Rattle.cal_check.specs.Actors.{actions_in, funs_in, members_of, procs_in}
use Rattle.cal_check.specs.Formed.{IsActionFormed, IsFunFormed, IsProcFormed, IsScheduleFormed}
use Rattle.cal_check.specs.Schedules.{schedule_in}
use Rattle.cal_imports.specs.Whole.{Outer, Scope}
use Rattle.check_actor.specs.Sources.{fun_of, source_of}
use Rattle.law_sources.specs.Formed.{HasFormedParts, PartsAreFormed}
use Rattle.law_sources.proofs.FormMembers.{AreFormedMembers}
use Rattle.law_sources.proofs.FormScopes.{IsFormedScope, IsOuterFun, spelled_scope}

pub each_append : {A : Type 0} (P : A → Type 0) (xs ys : List A) → Each P xs → Each P ys → Each P (xs ++ ys)
each_append P [] ys h k = k
each_append P (x ∷ xs) ys h k = (h.0, each_append P xs ys h.1 k)

outer_formed : (os : List Outer) → Each IsOuterFun os → Each (λ f. IsFunFormed f.decl) (map fun_of os)
outer_formed [] h = tt
outer_formed (o ∷ os) h = (h.0.formed, outer_formed os h.1)

funs_formed : (file : ℕ) (ms : Tree) → AreFormedMembers ms → Each (λ f. IsFunFormed f.decl) (funs_in file ms)
funs_formed file (tree.cons (tree.function (tree.ident name place) formals result vars body at) ms) h = (h.0, funs_formed file ms h.1)
funs_formed file (tree.cons _ ms) h = funs_formed file ms h.1
funs_formed file _ h = tt

procs_formed : (ms : Tree) → AreFormedMembers ms → Each IsProcFormed (procs_in ms)
procs_formed (tree.cons (tree.procedure (tree.ident name place) formals vars body at) ms) h = (h.0, procs_formed ms h.1)
procs_formed (tree.cons (tree.procedure _ formals vars body at) ms) h = absurd h.0
procs_formed (tree.cons _ ms) h = procs_formed ms h.1
procs_formed _ h = tt

actions_formed : (ms : Tree) → AreFormedMembers ms → Each IsActionFormed (actions_in ms)
actions_formed (tree.cons (tree.action tagged initialize patterns outputs guards vars body at) ms) h = (h.0, actions_formed ms h.1)
actions_formed (tree.cons _ ms) h = actions_formed ms h.1
actions_formed _ h = tt

schedule_formed : (ms : Tree) → AreFormedMembers ms → IsScheduleFormed (schedule_in ms)
schedule_formed (tree.cons (tree.schedule start moves at) ms) h = h.0
schedule_formed (tree.cons _ ms) h = schedule_formed ms h.1
schedule_formed _ h = tt

pub parts_of : (scope : Scope) → IsFormedScope scope → HasFormedParts (source_of scope)
parts_of scope h =
    let ms = members_of scope.actor in
    let formed = h.members.formed in
    record {
      funs = each_append (λ f. IsFunFormed f.decl) (map fun_of scope.funs) (funs_in scope.file ms) (outer_formed scope.funs h.outer_funs) (funs_formed scope.file ms formed);
      procs = procs_formed ms formed;
      actions = actions_formed ms formed;
      schedule = schedule_formed ms formed;
    }

pub parts_are_formed : PartsAreFormed
parts_are_formed files class scope spelled h = parts_of scope (spelled_scope files class scope spelled h).formed
