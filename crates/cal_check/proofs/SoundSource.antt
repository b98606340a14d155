-- An actor that breaks no rule is sound.
use Rattle.std.proofs.Common.{◌≡◌, ℕ, ◌<◌, ◌≤◌, Bool, true, false, List, [], ◌∷◌, ◌++◌, map, length, refl, sym, ap, subst, ◌∙◌, arith, Option, None, Some}
use Rattle.std.specs.Prelude.{if◌then◌else◌, slice_get}
use Rattle.cal_ast.specs.Tree as tree
use Rattle.cal_ast.specs.Tree.{Tree}
use Rattle.cal_model.specs.Actor.{Action, Actor, Fun, Held, Proc}
use Rattle.cal_model.specs.Kinding.{Fine, Names}
use Rattle.cal_model.specs.Rates.{given_on, need, give, taken_on}
use Rattle.cal_model.specs.Selection.{Above}
use Rattle.cal_model.specs.Sound.{AreDistinct, AreTagged, Each, FunCallsBelow, FunHidesNoCall, IsAction, IsFun, IsProc, IsSound, ActionHidesNoCall, ProcCallsBelow, ProcHidesNoCall, max_actions, max_rate, max_states, max_variable_scalars, names_of, scalars_of_vars}
use Rattle.cal_check.specs.Actions.{Around, action_broken, action_of, or_none}
use Rattle.cal_check.specs.Actors.{Conforms, IsSource, Source, actions_broken, actions_in, actions_of, actor_given, all_funs, all_valued, around_of, bare_actor, before_members, declared_vars, funs_in, funs_of, ins_of, is_kept, kept_funs, kept_vars, members_of, outers, outs_of, place_of, procs_broken, procs_in, procs_of, used}
use Rattle.cal_check.specs.Formed.{DeclCallsBelow, IsActionFormed, IsFunFormed, IsProcFormed}
use Rattle.cal_check.specs.Laws.{AreAlike, ConstantsFit, HasDistinctNames, IsHeader, IsSchedule}
use Rattle.cal_check.specs.Ports.{each_port}
use Rattle.cal_check.specs.Routines.{FunDecl, fun_broken, fun_judged, proc_broken, proc_judged}
use Rattle.cal_check.specs.Schedules.{moves_in, pairs_in, schedule_in}
use Rattle.cal_check.specs.Sources.{IsActionScoped, IsFunScoped, IsProcScoped, IsSourceFormed, ProcDeclCallsBelow, proc_name, procs_of_source}
use Rattle.cal_check.specs.Uses.{OnlyUses}
use Rattle.cal_check.specs.Variables.{Given, Spot, seen}
use Rattle.cal_check.specs.Violations.{all_fine}
use Rattle.cal_check.proofs.Fine.{none-of}
use Rattle.cal_check.proofs.JudgedRoutines.{Functions, Procedures, each-fun, each-proc, fun-scoped, functions-found, funs-fine, funs-named, kept-each, proc-calls, proc-named, proc-scoped, procedures-found, procs-counted, procs-fine, procs-named}
use Rattle.cal_check.proofs.Lists.{each-append, each-at}
use Rattle.cal_check.proofs.NoneBroken.{BreaksNothing, NothingBroken, nothing-broken}
use Rattle.cal_check.proofs.RankedFuns.{never-return}
use Rattle.cal_check.proofs.SameOrder.{moves-same, pairs-same}
use Rattle.cal_check.proofs.ScopedActions.{action-scoped}
use Rattle.cal_check.proofs.SettledFuns.{fun-calls, fun-name}
use Rattle.cal_check.proofs.SoundActions.{action-sound, or-none}
use Rattle.cal_check.proofs.SoundCounts.{count-actions, count-scalars, one-initialize}
use Rattle.cal_check.proofs.SoundHeader.{header-sound}
use Rattle.cal_check.proofs.SoundRates.{rates-sound}
use Rattle.cal_check.proofs.SoundRoutines.{fun-sound, proc-sound}
use Rattle.cal_check.proofs.SoundSchedules.{pairs-tagged, schedule-sound}
use Rattle.cal_check.proofs.SoundVariables.{IsTyped}
use Rattle.cal_check.proofs.SourceNames.{all-are-valued, all-distinct, names-alike, rest-names-fit}
use Rattle.cal_check.proofs.UsedNames.{IsKept, actor-uses, outers-use}

-- ---- what an actor's members use

module _ (P : List ℕ → Type 0) where
  params-skip : (t : Tree) → OnlyUses P t → OnlyUses P (members_of t)
  params-skip (tree.actor x params ins outs members at) u = u.3
  params-skip other u = tt

  own-funs-use : (file : ℕ) (members : Tree) → OnlyUses P members → Each (λ f. OnlyUses P f.decl) (funs_in file members)
  own-funs-use file (tree.cons (tree.function (tree.ident name place) formals result vars body at) ms) u = (u.0, own-funs-use file ms u.1)
  own-funs-use file (tree.cons m ms) u = own-funs-use file ms u.1
  own-funs-use file other u = tt

  pub procs-use : (members : Tree) → OnlyUses P members → Each (OnlyUses P) (procs_in members)
  procs-use (tree.cons (tree.procedure name formals vars body at) ms) u = (u.0, procs-use ms u.1)
  procs-use (tree.cons m ms) u = procs-use ms u.1
  procs-use other u = tt

  pub actions-use : (members : Tree) → OnlyUses P members → Each (OnlyUses P) (actions_in members)
  actions-use (tree.cons (tree.action tagged initialize ins outs guards vars body at) ms) u = (u.0, actions-use ms u.1)
  actions-use (tree.cons m ms) u = actions-use ms u.1
  actions-use other u = tt

pub members-use : (s : Source) → OnlyUses (IsKept s) (members_of s.actor)
members-use s = params-skip (IsKept s) s.actor (actor-uses s)

each-const : {A : Type 0} (P Q : A → Type 0) (xs : List A) → ((x : A) → Q x → P x) → Each Q xs → Each P xs
each-const P Q [] f h = tt
each-const P Q (x ∷ xs) f h = (f x h.0, each-const P Q xs f h.1)

pub funs-use : (s : Source) → Each (λ f. IsKept s f.name → OnlyUses (IsKept s) f.decl) (all_funs s)
funs-use s =
    each-append (λ f. IsKept s f.name → OnlyUses (IsKept s) f.decl) s.funs (funs_in s.file (members_of s.actor)) (outers-use s)
    (each-const (λ f. IsKept s f.name → OnlyUses (IsKept s) f.decl) (λ f. OnlyUses (IsKept s) f.decl) (funs_in s.file (members_of s.actor)) (λ f u k. u)
    (own-funs-use (IsKept s) s.file (members_of s.actor) (members-use s)))

-- ---- functions

-- all that is known of the declaration of a function
record FunGood (s : Source) (names : Names) (rank : List ℕ → ℕ) (f : FunDecl) : Type 0 where
  formed : IsFunFormed f.decl
  scoped : IsFunScoped f.decl
  fine : fun_broken f.decl names ≡ []
  calls : DeclCallsBelow rank f.name f.decl
  uses : IsKept s f.name → OnlyUses (IsKept s) f.decl

funs-good : (s : Source) (names : Names) (rank : List ℕ → ℕ) (fs : List FunDecl) → Each (λ f. IsFunFormed f.decl) fs → Each (λ f. IsFunScoped f.decl) fs → Each (λ f. fun_broken f.decl names ≡ []) fs
    → Each (λ f. DeclCallsBelow rank f.name f.decl) fs → Each (λ f. IsKept s f.name → OnlyUses (IsKept s) f.decl) fs → Each (FunGood s names rank) fs
funs-good s names rank [] a b c d e = tt
funs-good s names rank (f ∷ fs) a b c d e =
    (record { formed = a.0; scoped = b.0; fine = c.0; calls = d.0; uses = e.0 }, funs-good s names rank fs a.1 b.1 c.1 d.1 e.1)

-- .. and what follows for the function that it is
record FunSound (others : Names) (rank : List ℕ → ℕ) (g : Fun) : Type 0 where
  is : IsFun others g
  calls : FunCallsBelow rank g
  hides : FunHidesNoCall others g

fun-follows : (s : Source) (names others : Names) (rank : List ℕ → ℕ) → ConstantsFit names → AreAlike (IsKept s) names others → others.locals ≡ [] → (f : FunDecl) (g : Fun) → FunGood s names rank f
    → fun_judged f.name f.decl names ≡ Fine g → IsKept s g.name → FunSound others rank g
fun-follows s names others rank fit alike bare f g good e k =
    let scoped = fun-scoped f.name f.decl names others g good.formed good.scoped bare e good.fine in
    record {
      is = fun-sound (IsKept s) f.name f.decl names others g good.formed (good.uses (subst (IsKept s) (fun-name f.name f.decl names g e) k)) fit alike e good.fine scoped.distinct;
      calls = fun-calls rank f.name f.decl names g good.calls e;
      hides = scoped.hides;
    }

-- ---- procedures

record ProcGood (s : Source) (procs : List Proc) (names : Names) (rank : List ℕ → ℕ) (n : ℕ) (p : Tree) : Type 0 where
  formed : IsProcFormed p
  scoped : IsProcScoped p
  fine : proc_broken p procs names ≡ []
  calls : ProcDeclCallsBelow rank p
  below : rank (proc_name p) < n
  uses : OnlyUses (IsKept s) p

procs-good : (s : Source) (procs : List Proc) (names : Names) (rank : List ℕ → ℕ) (n : ℕ) (ps : List Tree) → Each IsProcFormed ps → Each IsProcScoped ps → Each (λ p. proc_broken p procs names ≡ []) ps
    → Each (ProcDeclCallsBelow rank) ps → Each (λ p. rank (proc_name p) < n) ps → Each (OnlyUses (IsKept s)) ps → Each (ProcGood s procs names rank n) ps
procs-good s procs names rank n [] a b c d e f = tt
procs-good s procs names rank n (p ∷ ps) a b c d e f =
    (record { formed = a.0; scoped = b.0; fine = c.0; calls = d.0; below = e.0; uses = f.0 }, procs-good s procs names rank n ps a.1 b.1 c.1 d.1 e.1 f.1)

record ProcSound (procs : List Proc) (others : Names) (rank : List ℕ → ℕ) (n : ℕ) (q : Proc) : Type 0 where
  is : IsProc procs others q
  calls : ProcCallsBelow rank q
  below : rank q.name < n
  hides : ProcHidesNoCall others q

proc-follows : (s : Source) (procs : List Proc) (names others : Names) (rank : List ℕ → ℕ) (n : ℕ) → ConstantsFit names → AreAlike (IsKept s) names others → others.locals ≡ [] → (p : Tree) (q : Proc)
    → ProcGood s procs names rank n p → proc_judged p names ≡ Fine q → ProcSound procs others rank n q
proc-follows s procs names others rank n fit alike bare p q good e =
    let scoped = proc-scoped p names others q good.formed good.scoped bare e in
    record {
      is = proc-sound (IsKept s) p procs names others q good.formed good.uses fit alike e good.fine scoped.distinct;
      calls = proc-calls rank p names q good.calls e;
      below = subst (λ t. rank t < n) (sym (proc-named p names q e)) good.below;
      hides = scoped.hides;
    }

-- ---- actions

-- an action with all that soundness asks of it
record ActionSound (actor : Actor) (act : Action) : Type 0 where
  is : IsAction actor act
  hides : ActionHidesNoCall actor act
  takes : (port : ℕ) → taken_on port act.patterns ≤ max_rate
  gives : (port : ℕ) → given_on port act.outputs ≤ max_rate

actions-follow : (s : Source) (actor : Actor) (around : Around) (acts : List Tree) → around ≡ record { ins = actor.ins; outs = actor.outs; procs = actor.procs; names = around.names }
    → Each IsActionFormed acts → Each IsActionScoped acts → Each (OnlyUses (IsKept s)) acts → ConstantsFit around.names → AreAlike (IsKept s) around.names (names_of actor)
    → actions_broken acts around ≡ [] → Each (ActionSound actor) (actions_of acts around)
actions-follow s actor around [] same f d u fit alike h = tt
actions-follow s actor around (a ∷ acts) same f d u fit alike h =
    let two = none-of (action_broken a around) (actions_broken acts around) h in
    let scoped = action-scoped a around actor f.0 d.0 two.0 in
    let is : IsAction actor (action_of a around) =
    subst (λ x. IsAction actor (action_of a x)) (sym same)
    (action-sound (IsKept s) a actor around.names f.0 u.0 fit alike (subst (λ x. action_broken a x ≡ []) same two.0) (subst (λ x. HasDistinctNames (action_of a x)) same scoped.distinct)) in (
      record {
        is = is;
        hides = scoped.hides;
        takes = λ port. (rates-sound a around port f.0 fit two.0).0;
        gives = λ port. (rates-sound a around port f.0 fit two.0).1;
      },
      actions-follow s actor around acts same f.1 d.1 u.1 fit alike two.1,
    )

-- ---- the header

header-is : (s : Source) (gs : List Given) (owner : Spot) → NothingBroken s gs owner → IsHeader (actor_given s gs owner).ins (actor_given s gs owner).outs
header-is s gs owner none =
    let names : Names = seen (all_funs s) (before_members s gs owner).known in
    let h = header-sound (ins_of s.actor) (outs_of s.actor) (place_of s.actor) names none.header in
    let i : or_none (all_fine (each_port (ins_of s.actor) names)) ≡ h.0 = or-none (all_fine (each_port (ins_of s.actor) names)) h.0 h.2 in
    let o : or_none (all_fine (each_port (outs_of s.actor) names)) ≡ h.1 = or-none (all_fine (each_port (outs_of s.actor) names)) h.1 h.3 in
    subst (λ xs. IsHeader xs (or_none (all_fine (each_port (outs_of s.actor) names)))) (sym i) (subst (λ ys. IsHeader h.0 ys) (sym o) h.4)

-- ---- the whole

-- the functions of an actor that breaks nothing
funs-sound : (s : Source) (around : Around) (actor : Actor) → IsSourceFormed s → BreaksNothing s around actor → (fs : Functions (all_funs s) around.names) → actor.funs ≡ kept_funs fs.found s → (rank : List ℕ → ℕ)
    → Each (λ f. DeclCallsBelow rank f.name f.decl) (all_funs s) → ConstantsFit around.names → AreAlike (IsKept s) around.names (names_of actor) → Each (FunSound (names_of actor) rank) actor.funs
funs-sound s around actor formed none fs same rank calls fit alike =
    let good = funs-good s around.names rank (all_funs s) formed.funs formed.fun_scopes (funs-fine (all_funs s) around.names none.funs) calls (funs-use s) in
    subst (λ gs. Each (FunSound (names_of actor) rank) gs) (sym same)
    (kept-each s (FunSound (names_of actor) rank) fs.found
    (each-fun (FunGood s around.names rank) (λ g. IsKept s g.name → FunSound (names_of actor) rank g) (all_funs s) around.names fs.found
    (λ f g is e k. fun-follows s around.names (names_of actor) rank fit alike refl f g is e k) good fs.are))

procs-sound : (s : Source) (around : Around) (actor : Actor) → IsSourceFormed s → BreaksNothing s around actor → (ps : Procedures (procs_of_source s) around.names) → actor.procs ≡ ps.found → around.procs ≡ actor.procs
    → (rank : List ℕ → ℕ) → Each (ProcDeclCallsBelow rank) (procs_of_source s) → Each (λ p. rank (proc_name p) < length (procs_of_source s)) (procs_of_source s)
    → ConstantsFit around.names → AreAlike (IsKept s) around.names (names_of actor) → Each (ProcSound actor.procs (names_of actor) rank (length actor.procs)) actor.procs
procs-sound s around actor formed none ps same seen rank calls below fit alike =
    let n : length actor.procs ≡ length (procs_of_source s) = ap length same ∙ procs-counted (procs_of_source s) around.names ps.found ps.are in
    let fine = procs-fine (procs_of_source s) actor.procs around.names (subst (λ qs. procs_broken (procs_of_source s) qs around.names ≡ []) seen none.procs) in
    let good = procs-good s actor.procs around.names rank (length actor.procs) (procs_of_source s) formed.procs formed.proc_scopes fine calls
    (subst (λ k. Each (λ p. rank (proc_name p) < k) (procs_of_source s)) (sym n) below) (procs-use (IsKept s) (members_of s.actor) (members-use s)) in
    subst (λ qs. Each (ProcSound actor.procs (names_of actor) rank (length actor.procs)) qs) (sym same)
    (each-proc (ProcGood s actor.procs around.names rank (length actor.procs)) (ProcSound actor.procs (names_of actor) rank (length actor.procs)) (procs_of_source s) around.names ps.found
    (λ p q is e. proc-follows s actor.procs around.names (names_of actor) rank (length actor.procs) fit alike refl p q is e) good ps.are)

need-few : (actor : Actor) → Each (ActionSound actor) actor.actions → (a port : ℕ) → need actor a port ≤ max_rate
need-few actor h a port = go (slice_get actor.actions a) refl
  where
    go : (o : Option Action) → slice_get actor.actions a ≡ o → elim o [ None ↦ 0 | Some act ↦ taken_on port act.patterns ] ≤ max_rate
    go None e = omega arith
    go (Some act) e = (each-at (ActionSound actor) actor.actions a act h e).takes port

give-few : (actor : Actor) → Each (ActionSound actor) actor.actions → (a port : ℕ) → give actor a port ≤ max_rate
give-few actor h a port = go (slice_get actor.actions a) refl
  where
    go : (o : Option Action) → slice_get actor.actions a ≡ o → elim o [ None ↦ 0 | Some act ↦ given_on port act.outputs ] ≤ max_rate
    go None e = omega arith
    go (Some act) e = (each-at (ActionSound actor) actor.actions a act h e).gives port

-- an actor all of whose parts are sound
whole-sound : (actor : Actor) (rank ranks : List ℕ → ℕ) → IsHeader actor.ins actor.outs
    → AreDistinct (map (λ x. x.name) actor.vars ++ map (λ f. f.name) actor.funs ++ map (λ p. p.name) actor.procs) → Each IsTyped actor.vars
    → Each (FunSound (names_of actor) rank) actor.funs → Each (ProcSound actor.procs (names_of actor) ranks (length actor.procs)) actor.procs → Each (ActionSound actor) actor.actions
    → ((i j : ℕ) (act other : Action) → slice_get actor.actions i ≡ Some act → slice_get actor.actions j ≡ Some other → act.initialize ≡ true → other.initialize ≡ true → i ≡ j)
    → IsSchedule actor actor.moves → Each (AreTagged actor) actor.pairs → ((a : ℕ) → ¬ Above actor a a)
    → length actor.actions ≤ max_actions → length actor.states ≤ max_states → scalars_of_vars actor.vars ≤ max_variable_scalars → IsSound actor
whole-sound actor rank ranks header distinct typed funs procs acts one schedule pairs order few_actions few_states few_scalars =
    let are_funs : Each (IsFun (names_of actor)) actor.funs = each-const (IsFun (names_of actor)) (FunSound (names_of actor) rank) actor.funs (λ g f. f.is) funs in
    record {
      ports = header.distinct;
      port_sizes = header.sizes;
      distinct = distinct;
      vars = typed;
      funs = are_funs;
      procs = each-const (IsProc actor.procs (names_of actor)) (ProcSound actor.procs (names_of actor) ranks (length actor.procs)) actor.procs (λ q p. p.is) procs;
      funs_end = never-return rank (names_of actor) (each-const (FunCallsBelow rank) (FunSound (names_of actor) rank) actor.funs (λ g f. f.calls) funs) are_funs;
      procs_end = record {
        rank = ranks;
        in_range = each-const (λ q. ranks q.name < length actor.procs) (ProcSound actor.procs (names_of actor) ranks (length actor.procs)) actor.procs (λ q p. p.below) procs;
        calls = each-const (ProcCallsBelow ranks) (ProcSound actor.procs (names_of actor) ranks (length actor.procs)) actor.procs (λ q p. p.calls) procs;
      };
      calls = record {
        funs = each-const (FunHidesNoCall (names_of actor)) (FunSound (names_of actor) rank) actor.funs (λ g f. f.hides) funs;
        procs = each-const (ProcHidesNoCall (names_of actor)) (ProcSound actor.procs (names_of actor) ranks (length actor.procs)) actor.procs (λ q p. p.hides) procs;
        actions = each-const (ActionHidesNoCall actor) (ActionSound actor) actor.actions (λ act a. a.hides) acts;
      };
      actions = each-const (IsAction actor) (ActionSound actor) actor.actions (λ act a. a.is) acts;
      one_initialize = one;
      takes = need-few actor acts;
      gives = give-few actor acts;
      states = schedule.states;
      moves = schedule.each;
      one_target = schedule.one_target;
      pairs = pairs;
      no_cycle = order;
      few_actions = few_actions;
      few_states = few_states;
      few_ins = header.few_ins;
      few_outs = header.few_outs;
      few_scalars = few_scalars;
    }

kept-typed : (s : Source) (xs : List Held) → Each IsTyped xs → Each IsTyped (kept_vars xs s)
kept-typed s [] t = tt
kept-typed s (x ∷ xs) t = go (is_kept x.name (outers s) (used s)) (kept-typed s xs t.1)
  where
    go : (b : Bool) → Each IsTyped (kept_vars xs s) → Each IsTyped (if b then x ∷ kept_vars xs s else kept_vars xs s)
    go true rest = (t.0, rest)
    go false rest = rest

conforming-sound : (s : Source) (gs : List Given) (owner : Spot) → IsSourceFormed s → Conforms s gs owner → IsSound (actor_given s gs owner)
conforming-sound s gs owner formed c =
    let none = nothing-broken s gs owner c.nothing in
    let around : Around = around_of s gs owner in
    let actor : Actor = actor_given s gs owner in
    let bare : Actor = bare_actor s gs owner around in
    let valued = all-are-valued s gs owner none.useful none.whole in
    let funs = functions-found (all_funs s) around.names formed.funs none.members.heads in
    let procs = procedures-found (procs_of_source s) around.names formed.procs none.members.formals in
    let ef : actor.funs ≡ kept_funs funs.found s = ap (λ xs. kept_funs xs s) (or-none (all_fine (funs_of (all_funs s) around.names)) funs.found funs.all) in
    let ep : actor.procs ≡ procs.found = or-none (all_fine (procs_of (procs_of_source s) around.names)) procs.found procs.all in
    let fit = rest-names-fit s gs owner (map (λ x. x.name) (declared_vars s)) valued in
    let alike = names-alike s gs owner funs.found formed valued funs.over actor refl ef in
    let acts = actions-follow s actor around (actions_in (members_of s.actor)) refl formed.actions formed.action_scopes (actions-use (IsKept s) (members_of s.actor) (members-use s)) fit alike none.members.actions in
    let distinct = all-distinct s (all_valued s gs owner).held funs.found procs.found valued.named (funs-named (all_funs s) around.names funs.found funs.are)
    (procs-named (procs_of_source s) around.names procs.found procs.are) formed.distinct in
    let moves : actor.moves ≡ moves_in (schedule_in (members_of s.actor)) actor = sym (moves-same bare actor.moves actor.pairs (schedule_in (members_of s.actor))) in
    let pairs : actor.pairs ≡ pairs_in (members_of s.actor) actor = sym (pairs-same bare actor.moves actor.pairs (members_of s.actor)) in
    whole-sound actor formed.funs_end.rank formed.procs_end.rank (header-is s gs owner none)
    (subst (λ fs. AreDistinct (map (λ x. x.name) actor.vars ++ map (λ f. f.name) fs ++ map (λ p. p.name) actor.procs)) (sym ef)
    (subst (λ qs. AreDistinct (map (λ x. x.name) actor.vars ++ map (λ f. f.name) (kept_funs funs.found s) ++ map (λ p. p.name) qs)) (sym ep) distinct))
    (kept-typed s (all_valued s gs owner).held valued.typed)
    (funs-sound s around actor formed none.members funs ef formed.funs_end.rank formed.funs_end.calls fit alike)
    (procs-sound s around actor formed none.members procs ep refl formed.procs_end.rank formed.procs_end.calls formed.procs_end.in_range fit alike)
    acts
    (λ i j act other e f. one-initialize (actions_in (members_of s.actor)) around i j act other none.members.initialize e f)
    (subst (λ ms. IsSchedule actor ms) (sym moves) (schedule-sound (schedule_in (members_of s.actor)) actor formed.schedule refl none.members.schedule))
    (subst (λ ps. Each (AreTagged actor) ps) (sym pairs) (pairs-tagged (members_of s.actor) actor))
    (λ a above. c.ordered (record { action = a; above = above }))
    (subst (λ n. n ≤ max_actions) (sym (count-actions (actions_in (members_of s.actor)) around)) none.members.few_actions)
    none.members.few_states
    (subst (λ n. n ≤ max_variable_scalars) (count-scalars actor.vars) none.members.few_scalars)

pub source-sound : (s : Source) (gs : List Given) (owner : Spot) (actor : Actor) → IsSourceFormed s → IsSource s gs owner actor → IsSound actor
source-sound s gs owner actor formed is = subst IsSound (sym is.is) (conforming-sound s gs owner formed is.conforms)
