-- The actor of a source is a part of the whole that uses nothing else.
use Rattle.std.proofs.Common.{◌≡◌, ℕ, Bool, true, false, List, [], ◌∷◌, refl, sym, ap, subst, ◌∙◌, Option, None, Some}
use Rattle.std.specs.Prelude.{if◌then◌else◌}
use Rattle.cal_ast.specs.Tree as tree
use Rattle.cal_ast.specs.Tree.{Tree}
use Rattle.cal_model.specs.Actor.{Actor, Fun, Held, Local, Output, Proc}
use Rattle.cal_model.specs.Kinding.{Broken, Fine, Judged, Names}
use Rattle.cal_model.specs.Sound.{Each, FunsNeverReturn, IsSound, with_locals}
use Rattle.cal_model.specs.Selection.{Priorities, State}
use Rattle.rvc_base.specs.Behaviour.{Behaviour}
use Rattle.cal_model.specs.Firing.{behaviour}
use Rattle.cal_model.proofs.KindValues.{fine-is, not-fine, split}
use Rattle.rvc_base.specs.Rules.{unknown_name}
use Rattle.cal_check.specs.Actions.{Around, action_of, or_none, outputs_fine, patterns_of, with_all_patterns}
use Rattle.cal_check.specs.Actors.{Conforms, IsSource, Source, actions_in, actions_of, actor_given, all_funs, around_of, funs_of, kept_funs, kept_vars, members_of, procs_of}
use Rattle.cal_check.specs.Routines.{FunDecl, Head, formals_judged, fun_if, fun_judged, head_judged, locals_before, locals_of, proc_judged, proc_of}
use Rattle.cal_check.specs.Statements.{names_behind}
use Rattle.cal_check.specs.Sources.{IsSourceFormed, SourcesAreSound, procs_of_source}
use Rattle.cal_check.specs.Variables.{Given, Spot}
use Rattle.cal_check.specs.Violations.{all_fine, fine}
use Rattle.cal_check.specs.Written.{behind_vars}
use Rattle.cal_check.proofs.SettledFuns.{fun-name}
use Rattle.cal_check.proofs.SoundSource.{actions-use, funs-use, members-use, procs-use}
use Rattle.cal_check.proofs.WrittenUses.{EachStart, OfStart, before-use, body-uses, fine-some, guards-use, locals-use, met-use, outputs-use, some-parts, statement-uses, written-uses}
use Rattle.law_unused.specs.Behaving.{IsStateOf, ShowsTheSame}
use Rattle.law_unused.specs.Closed.{ActionWithin, FunWithin, FunsWithin, IsClosed, ProcWithin, StartWithin, Within}
use Rattle.law_unused.specs.Keeping.{IsKept, Keep, narrowed_actor, only_funs, only_held}
use Rattle.law_unused.specs.WholeActor.{kept_by, whole_actor, whole_order}
use Rattle.law_unused.proofs.Firings.{shows-the-same}
use Rattle.law_unused.proofs.Routines.{StartIn}

abbrev UsesIfKept : Source → FunDecl → Type 0
UsesIfKept s f = IsKept (kept_by s) f.name → Within (kept_by s) f.decl

-- ---- what is written out

start-within : (keep : Keep) (o : Option Tree) → OfStart (Within keep) o → StartIn keep o
start-within keep None u = u
start-within keep (Some e) u = u

starts-within : (keep : Keep) (xs : List Local) → EachStart (Within keep) xs → Each (StartWithin keep) xs
starts-within keep [] u = tt
starts-within keep (x ∷ xs) u = (start-within keep x.start u.0, starts-within keep xs u.1)

-- a function of a head is of these names, also if a local's type breaks a rule
fun-if-within : (keep : Keep) (j : Judged Names) (full : List ℕ) (head : Head) (vars body : Tree) (names : Names) → Within keep vars → Within keep body → FunWithin keep (fun_if j full head vars body names)
fun-if-within keep (Fine inner) full head vars body names u w = record {
  locals = starts-within keep (locals_of vars (with_locals head.formals names)) (locals-use (IsKept keep) vars (with_locals head.formals names) u);
  body = written-uses (IsKept keep) body (behind_vars vars (with_locals head.formals names)) w;
}
fun-if-within keep (Broken rule at) full head vars body names u w = record {
  locals = starts-within keep (locals_before vars (with_locals head.formals names)) (before-use (IsKept keep) vars (with_locals head.formals names) u);
  body = met-use (IsKept keep) vars (with_locals head.formals names) u;
}

fun-within : (keep : Keep) (full : List ℕ) (decl : Tree) (names : Names) (g : Fun) → Within keep decl → fun_judged full decl names ≡ Fine g → FunWithin keep g
fun-within keep full (tree.function name formals result vars body at) names g u e =
    let head = split (head_judged (tree.function name formals result vars body at) names) (λ head. Fine (fun_if (names_behind vars (with_locals head.formals names)) full head vars body names)) g e in
    subst (λ x. FunWithin keep x) (fine-is _ g head.2) (fun-if-within keep (names_behind vars (with_locals head.0.formals names)) full head.0 vars body names u.2 u.3)
fun-within keep full other names g u e = absurd (not-fine unknown_name 0 g e)

proc-within : (keep : Keep) (p : Tree) (names : Names) (q : Proc) → Within keep p → proc_judged p names ≡ Fine q → ProcWithin keep q
proc-within keep (tree.procedure (tree.ident name place) formals vars body at) names q u e =
    let fs = split (formals_judged formals names) (λ fs. Fine (proc_of name fs vars body names)) q e in
    subst (λ x. ProcWithin keep x) (fine-is _ q fs.2) (record {
      locals = starts-within keep (locals_of vars (with_locals fs.0 names)) (locals-use (IsKept keep) vars (with_locals fs.0 names) u.1);
      body = statement-uses (IsKept keep) body (behind_vars vars (with_locals fs.0 names)) u.2;
    })
proc-within keep other names q u e = absurd (not-fine unknown_name 0 q e)

-- what all functions are, if their heads break no rule
funs-within : (s : Source) (names : Names) (fs : List FunDecl) (gs : List Fun) → Each (UsesIfKept s) fs → all_fine (funs_of fs names) ≡ Some gs → FunsWithin (kept_by s) gs
funs-within s names [] gs u e = subst (FunsWithin (kept_by s)) (let i : [] ≡ gs = cc in i) tt
funs-within s names (f ∷ fs) gs u e =
    let p = some-parts (fine (fun_judged f.name f.decl names)) (all_fine (funs_of fs names)) gs e in
    let is : fun_judged f.name f.decl names ≡ Fine p.0 = fine-some (fun_judged f.name f.decl names) p.0 p.2 in
    subst (FunsWithin (kept_by s)) p.4 (
      (λ k. fun-within (kept_by s) f.name f.decl names p.0 (u.0 (subst (IsKept (kept_by s)) (fun-name f.name f.decl names p.0 is) k)) is),
      funs-within s names fs p.1 u.1 p.3,
    )

procs-within : (keep : Keep) (names : Names) (ps : List Tree) (qs : List Proc) → Each (Within keep) ps → all_fine (procs_of ps names) ≡ Some qs → Each (ProcWithin keep) qs
procs-within keep names [] qs u e = subst (Each (ProcWithin keep)) (let i : [] ≡ qs = cc in i) tt
procs-within keep names (p ∷ ps) qs u e =
    let t = some-parts (fine (proc_judged p names)) (all_fine (procs_of ps names)) qs e in
    subst (Each (ProcWithin keep)) t.4 (proc-within keep p names t.0 u.0 (fine-some (proc_judged p names) t.0 t.2), procs-within keep names ps t.1 u.1 t.3)

-- of nothing each is anything
or-none-has : {A : Type 0} (P : A → Type 0) (o : Option (List A)) → ((xs : List A) → o ≡ Some xs → Each P xs) → Each P (or_none o)
or-none-has P None h = tt
or-none-has P (Some xs) h = h xs refl

action-within : (keep : Keep) (a : Tree) (around : Around) → Within keep a → ActionWithin keep (action_of a around)
action-within keep (tree.action tagged initialize patterns outputs guards vars body at) around u =
    let inner : Names = with_all_patterns around.ins (patterns_of (tree.action tagged initialize patterns outputs guards vars body at) around) around.names in
    record {
      guards = guards-use (IsKept keep) guards inner u.2;
      locals = starts-within keep (locals_of vars inner) (locals-use (IsKept keep) vars inner u.3);
      body = body-uses (IsKept keep) body (behind_vars vars inner) u.4;
      outputs = sent (outputs_fine outputs around.outs (behind_vars vars inner)) (λ outs e. outputs-use (IsKept keep) outputs around.outs (behind_vars vars inner) outs u.1 e);
    }
  where
    sent : (o : Option (List Output)) → ((outs : List Output) → o ≡ Some outs → Each (λ x. Within keep x.values) outs) → Each (λ x. Within keep x.values) (or_none o)
    sent None h = tt
    sent (Some outs) h = h outs refl
action-within keep other around u = record { guards = tt; locals = tt; body = tt; outputs = tt }

actions-within : (keep : Keep) (acts : List Tree) (around : Around) → Each (Within keep) acts → Each (ActionWithin keep) (actions_of acts around)
actions-within keep [] around u = tt
actions-within keep (a ∷ acts) around u = (action-within keep a around u.0, actions-within keep acts around u.1)

-- ---- the part that is kept

funs-are : (s : Source) (fs : List Fun) → kept_funs fs s ≡ only_funs (kept_by s) fs
funs-are s [] = refl
funs-are s (f ∷ fs) = go (kept_by s f.name) (funs-are s fs)
  where
    go : (b : Bool) → kept_funs fs s ≡ only_funs (kept_by s) fs → (if b then f ∷ kept_funs fs s else kept_funs fs s) ≡ (if b then f ∷ only_funs (kept_by s) fs else only_funs (kept_by s) fs)
    go true e = ap (λ xs. f ∷ xs) e
    go false e = e

vars-are : (s : Source) (hs : List Held) → kept_vars hs s ≡ only_held (kept_by s) hs
vars-are s [] = refl
vars-are s (h ∷ hs) = go (kept_by s h.name) (vars-are s hs)
  where
    go : (b : Bool) → kept_vars hs s ≡ only_held (kept_by s) hs → (if b then h ∷ kept_vars hs s else kept_vars hs s) ≡ (if b then h ∷ only_held (kept_by s) hs else only_held (kept_by s) hs)
    go true e = ap (λ xs. h ∷ xs) e
    go false e = e

-- the actor that is given, with all that is declared
abbrev given_whole : Source → List Given → Spot → Actor
given_whole s gs owner = whole_actor s gs owner (actor_given s gs owner)

part-is : (s : Source) (gs : List Given) (owner : Spot) → actor_given s gs owner ≡ narrowed_actor (kept_by s) (given_whole s gs owner)
part-is s gs owner =
    let whole : Actor = given_whole s gs owner in
    ap (λ hs. record (actor_given s gs owner) { vars = hs; funs = kept_funs whole.funs s }) (vars-are s whole.vars)
    ∙ ap (λ fs. record (actor_given s gs owner) { vars = only_held (kept_by s) whole.vars; funs = fs }) (funs-are s whole.funs)

pub source-is-part : (s : Source) (gs : List Given) (owner : Spot) (actor : Actor) → IsSource s gs owner actor → actor ≡ narrowed_actor (kept_by s) (whole_actor s gs owner actor)
source-is-part s gs owner actor is = subst (λ a. a ≡ narrowed_actor (kept_by s) (whole_actor s gs owner a)) (sym is.is) (part-is s gs owner)

-- none of the functions that are kept calls itself, since the actor is sound
given-is-closed : SourcesAreSound → (s : Source) (gs : List Given) (owner : Spot) → IsSourceFormed s → Conforms s gs owner → IsClosed (kept_by s) (given_whole s gs owner)
given-is-closed sound s gs owner formed c =
    let keep : Keep = kept_by s in
    let names : Names = (around_of s gs owner).names in
    let good : IsSound (actor_given s gs owner) = sound s gs owner (actor_given s gs owner) formed (record { conforms = c; is = refl }) in
    record {
      funs = or-none-has (λ f. IsKept keep f.name → FunWithin keep f) (all_fine (funs_of (all_funs s) names)) (λ found e. funs-within s names (all_funs s) found (funs-use s) e);
      funs_end = subst (λ a. FunsNeverReturn a) (funs-are s (given_whole s gs owner).funs) good.funs_end;
      procs = or-none-has (ProcWithin keep) (all_fine (procs_of (procs_of_source s) names))
          (λ found e. procs-within keep names (procs_of_source s) found (procs-use (IsKept keep) (members_of s.actor) (members-use s)) e);
      actions = actions-within keep (actions_in (members_of s.actor)) (around_of s gs owner) (actions-use (IsKept keep) (members_of s.actor) (members-use s));
    }

pub source-is-closed : SourcesAreSound → (s : Source) (gs : List Given) (owner : Spot) (actor : Actor) → IsSourceFormed s → IsSource s gs owner actor → IsClosed (kept_by s) (whole_actor s gs owner actor)
source-is-closed sound s gs owner actor formed is =
    subst (λ a. IsClosed (kept_by s) (whole_actor s gs owner a)) (sym is.is) (given-is-closed sound s gs owner formed is.conforms)

-- ---- its behaviour

-- an actor with other variables and functions, in the order that it has
abbrev with_parts : (actor : Actor) → Priorities actor → List Held → List Fun → Behaviour State
with_parts actor p hs fs = behaviour (record actor { vars = hs; funs = fs }) (record { above = p.above; line = p.line; is_above = p.is_above; is_line = p.is_line })

abbrev Shows : Source → (actor whole : Actor) → Priorities actor → Priorities whole → List Held → List Fun → Type 0
Shows s actor whole p q hs fs = ShowsTheSame (kept_by s) (IsStateOf whole) (with_parts actor p hs fs) (behaviour whole q)

given-behaves : SourcesAreSound → (s : Source) (gs : List Given) (owner : Spot) (p : Priorities (actor_given s gs owner)) → IsSourceFormed s → Conforms s gs owner
    → ShowsTheSame (kept_by s) (IsStateOf (given_whole s gs owner)) (behaviour (actor_given s gs owner) p) (behaviour (given_whole s gs owner) (whole_order s gs owner (actor_given s gs owner) p))
given-behaves sound s gs owner p formed c =
    let keep : Keep = kept_by s in
    let given : Actor = actor_given s gs owner in
    let whole : Actor = given_whole s gs owner in
    let q : Priorities whole = whole_order s gs owner given p in
    let narrow : Shows s given whole p q (only_held keep whole.vars) (only_funs keep whole.funs) = shows-the-same keep whole (given-is-closed sound s gs owner formed c) q in
    let funs : Shows s given whole p q (only_held keep whole.vars) (kept_funs whole.funs s) =
    subst (λ fs. Shows s given whole p q (only_held keep whole.vars) fs) (sym (funs-are s whole.funs)) narrow in
    subst (λ hs. Shows s given whole p q hs (kept_funs whole.funs s)) (sym (vars-are s whole.vars)) funs

abbrev ShowsWhole : Source → List Given → Spot → Actor → Type 0
ShowsWhole s gs owner actor = (p : Priorities actor)
    → ShowsTheSame (kept_by s) (IsStateOf (whole_actor s gs owner actor)) (behaviour actor p) (behaviour (whole_actor s gs owner actor) (whole_order s gs owner actor p))

pub source-behaves : SourcesAreSound → (s : Source) (gs : List Given) (owner : Spot) (actor : Actor) (p : Priorities actor) → IsSourceFormed s → IsSource s gs owner actor
    → ShowsTheSame (kept_by s) (IsStateOf (whole_actor s gs owner actor)) (behaviour actor p) (behaviour (whole_actor s gs owner actor) (whole_order s gs owner actor p))
source-behaves sound s gs owner actor p formed is =
    let all : ShowsWhole s gs owner actor = subst (ShowsWhole s gs owner) (sym is.is) (λ q. given-behaves sound s gs owner q formed is.conforms) in
    all p
