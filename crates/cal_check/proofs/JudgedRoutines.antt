-- Functions and procedures whose heads break nothing, one for each declaration.
use Rattle.std.proofs.Common.{◌≡◌, ℕ, Bool, true, false, List, [], ◌∷◌, ◌++◌, map, length, refl, sym, ap, subst, ◌∙◌, suc, ◌<◌, Some}
use Rattle.std.specs.Prelude.{if◌then◌else◌}
use Rattle.std.specs.Str.{bytes_eq}
use Rattle.rvc_base.specs.Rules.{unknown_name}
use Rattle.cal_ast.specs.Tree as tree
use Rattle.cal_ast.specs.Tree.{Tree}
use Rattle.cal_model.specs.Value.{kind_of_scalar}
use Rattle.cal_model.specs.Actor.{Fun, Local, Proc}
use Rattle.cal_model.specs.Call.{fun_named}
use Rattle.cal_model.specs.Kinding.{Judged, Fine, Names, and_so, with_known}
use Rattle.cal_model.specs.Sound.{AreDistinct, Each, FunHidesNoCall, ProcCallsBelow, ProcHidesNoCall, known_local, names_of_vars, with_locals}
use Rattle.cal_model.proofs.KindNames.{same-text}
use Rattle.cal_model.proofs.KindValues.{fine-is, not-fine, split}
use Rattle.cal_check.specs.Actors.{Source, formals_broken, funs_broken, funs_of, heads_broken, is_kept, kept_funs, outers, procs_broken, procs_of, used}
use Rattle.cal_check.specs.Constants.{stored_kind}
use Rattle.cal_check.specs.Formed.{AreDeclared, IsFunFormed, IsProcFormed}
use Rattle.cal_check.specs.Routines.{FunDecl, Head, formal_judged, formal_of, formals_judged, fun_broken, fun_if, fun_inside, fun_judged, fun_of, funs_over, head_judged, locals_of, proc_broken, proc_judged, proc_of, result_judged, single_type, with_fun}
use Rattle.cal_check.specs.Sources.{IsFunScoped, IsProcScoped, ProcDeclCallsBelow, names_of_formals, nothing_inside, proc_name, with_names}
use Rattle.cal_check.specs.Statements.{names_behind, starts_broken}
use Rattle.cal_check.specs.Variables.{found_in}
use Rattle.cal_check.specs.Violations.{all_fine, and_all, broken, fine}
use Rattle.cal_check.specs.Written.{behind_vars}
use Rattle.cal_check.proofs.CallsBelow.{statement-calls}
use Rattle.cal_check.proofs.Fine.{broken-none, if-none, none-of}
use Rattle.cal_check.proofs.HiddenCalls.{SameInside, locals-hide, locals-inside, locals-named, statement-hides, written-hides}
use Rattle.cal_check.proofs.NoneBroken.{found-none}
use Rattle.cal_check.proofs.SettledFuns.{fun-name}
use Rattle.cal_check.proofs.SoundHeader.{map-append}
use Rattle.cal_check.proofs.SoundRoutines.{while-none}
use Rattle.cal_check.proofs.SubLists.{IsPart, part-both, part-more}
use Rattle.cal_check.proofs.UsedNames.{IsKept}

-- ---- functions

-- the functions that these declarations are
abbrev pub AreFuns : List FunDecl → Names → List Fun → Type 0
AreFuns [] names [] = Unit {0}
AreFuns (f ∷ fs) names (g ∷ gs) = (fun_judged f.name f.decl names ≡ Fine g) × AreFuns fs names gs
AreFuns fs names gs = ⊥

abbrev and_head : List ℕ → Tree → Tree → Names → Judged Head → Judged Fun
and_head full vars body names j = and_so j (λ head. Fine (fun_if (names_behind vars (with_locals head.formals names)) full head vars body names))

abbrev and_proc : List ℕ → Tree → Tree → Names → Judged (List Local) → Judged Proc
and_proc name vars body names j = and_so j (λ fs. Fine (proc_of name fs vars body names))

fun-found : (full : List ℕ) (decl : Tree) (names : Names) → IsFunFormed decl → broken (head_judged decl names) ≡ [] → (g : Fun) × (fun_judged full decl names ≡ Fine g)
fun-found full (tree.function name formals result vars body at) names formed h =
    let head = broken-none (head_judged (tree.function name formals result vars body at) names) h in
    (fun_if (names_behind vars (with_locals head.0.formals names)) full head.0 vars body names, ap (λ j. and_head full vars body names j) head.1)
fun-found full other names formed h = absurd formed

pub record Functions (fs : List FunDecl) (names : Names) : Type 0 where
  pub found : List Fun
  pub are : AreFuns fs names found
  pub all : all_fine (funs_of fs names) ≡ Some found
  pub over : funs_over fs names ≡ found

pub functions-found : (fs : List FunDecl) (names : Names) → Each (λ f. IsFunFormed f.decl) fs → heads_broken fs names ≡ [] → Functions fs names
functions-found [] names formed h = record { found = []; are = tt; all = refl; over = refl }
functions-found (f ∷ fs) names formed h =
    let p = none-of (found_in f.file (broken (head_judged f.decl names))) (heads_broken fs names) h in
    let g = fun-found f.name f.decl names formed.0 (found-none f.file (broken (head_judged f.decl names)) p.0) in
    let rest = functions-found fs names formed.1 p.1 in
    record {
      found = g.0 ∷ rest.found;
      are = (g.1, rest.are);
      all = ap (λ j. and_all (fine j) (all_fine (funs_of fs names))) g.1 ∙ ap (λ o. and_all (Some g.0) o) rest.all;
      over = ap (λ j. with_fun j (funs_over fs names)) g.1 ∙ ap (λ gs. g.0 ∷ gs) rest.over;
    }

pub funs-named : (fs : List FunDecl) (names : Names) (gs : List Fun) → AreFuns fs names gs → map (λ g. g.name) gs ≡ map (λ f. f.name) fs
funs-named [] names [] a = refl
funs-named [] names (g ∷ gs) a = absurd a
funs-named (f ∷ fs) names [] a = absurd a
funs-named (f ∷ fs) names (g ∷ gs) a = ap (λ n. n ∷ map (λ g. g.name) gs) (fun-name f.name f.decl names g a.0) ∙ ap (λ ns. f.name ∷ ns) (funs-named fs names gs a.1)

-- what follows for each function from its declaration
pub each-fun : (S : FunDecl → Type 0) (R : Fun → Type 0) (fs : List FunDecl) (names : Names) (gs : List Fun)
    → ((f : FunDecl) (g : Fun) → S f → fun_judged f.name f.decl names ≡ Fine g → R g) → Each S fs → AreFuns fs names gs → Each R gs
each-fun S R [] names [] k s a = tt
each-fun S R [] names (g ∷ gs) k s a = absurd a
each-fun S R (f ∷ fs) names [] k s a = absurd a
each-fun S R (f ∷ fs) names (g ∷ gs) k s a = (k f g s.0 a.0, each-fun S R fs names gs k s.1 a.1)

-- ---- those that are kept

pub kept-each : (s : Source) (R : Fun → Type 0) (gs : List Fun) → Each (λ g. IsKept s g.name → R g) gs → Each R (kept_funs gs s)
kept-each s R [] h = tt
kept-each s R (g ∷ gs) h = go (is_kept g.name (outers s) (used s)) refl (kept-each s R gs h.1)
  where
    go : (b : Bool) → is_kept g.name (outers s) (used s) ≡ b → Each R (kept_funs gs s) → Each R (if b then g ∷ kept_funs gs s else kept_funs gs s)
    go true e rest = (h.0 e, rest)
    go false e rest = rest

pub kept-part : (s : Source) (gs : List Fun) → IsPart (map (λ g. g.name) (kept_funs gs s)) (map (λ g. g.name) gs)
kept-part s [] = tt
kept-part s (g ∷ gs) = go (is_kept g.name (outers s) (used s)) (kept-part s gs)
  where
    go : (b : Bool) → IsPart (map (λ g. g.name) (kept_funs gs s)) (map (λ g. g.name) gs)
        → IsPart (map (λ g. g.name) (if b then g ∷ kept_funs gs s else kept_funs gs s)) (g.name ∷ map (λ g. g.name) gs)
    go true p = part-both g.name (map (λ g. g.name) (kept_funs gs s)) (map (λ g. g.name) gs) p
    go false p = part-more (map (λ g. g.name) (kept_funs gs s)) g.name (map (λ g. g.name) gs) p

pub kept-named : (s : Source) (name : List ℕ) (gs : List Fun) → IsKept s name → fun_named name (kept_funs gs s) ≡ fun_named name gs
kept-named s name [] k = refl
kept-named s name (g ∷ gs) k = go (is_kept g.name (outers s) (used s)) refl (bytes_eq g.name name) refl (kept-named s name gs k)
  where
    go : (kept : Bool) → is_kept g.name (outers s) (used s) ≡ kept → (b : Bool) → bytes_eq g.name name ≡ b → fun_named name (kept_funs gs s) ≡ fun_named name gs
        → fun_named name (if kept then g ∷ kept_funs gs s else kept_funs gs s) ≡ (if b then Some g else fun_named name gs)
    go true e true f rest = ap (λ b. if b then Some g else fun_named name (kept_funs gs s)) f
    go true e false f rest = ap (λ b. if b then Some g else fun_named name (kept_funs gs s)) f ∙ rest
    go false e true f rest =
        let same : g.name ≡ name = same-text g.name name f in
        absurd (let w : true ≡ false = sym (subst (λ n. is_kept n (outers s) (used s) ≡ true) (sym same) k) ∙ e in cc)
    go false e false f rest = rest

-- ---- scopes

formal-named : (f : Tree) (fs : Tree) (names : Names) (x : Local) → formal_judged f names ≡ Fine x → names_of_formals (tree.cons f fs) ≡ x.name ∷ names_of_formals fs
formal-named (tree.port shape (tree.ident name place) at) fs names x h =
    let t = split (single_type shape names) (λ t. Fine (formal_of name t)) x h in
    ap (λ y. y.name ∷ names_of_formals fs) (fine-is (formal_of name t.0) x t.2)
formal-named other fs names x h = absurd (not-fine unknown_name 0 x h)

formals-named : (fs : Tree) (names : Names) (xs : List Local) → formals_judged fs names ≡ Fine xs → map (λ x. x.name) xs ≡ names_of_formals fs
formals-named tree.nil names xs h = ap (λ ys. map (λ y. y.name) ys) (sym (fine-is [] xs h))
formals-named (tree.cons f fs) names xs h =
    let x = split (formal_judged f names) _ xs h in
    let rest = split (formals_judged fs (with_known (known_local x.0) names)) (λ ys. Fine (x.0 ∷ ys)) xs x.2 in
    ap (λ ys. map (λ y. y.name) ys) (sym (fine-is (x.0 ∷ rest.0) xs rest.2))
    ∙ ap (λ ns. x.0.name ∷ ns) (formals-named fs (with_known (known_local x.0) names) rest.0 rest.1)
    ∙ sym (formal-named f fs names x.0 x.1)
formals-named other names xs h = absurd (not-fine unknown_name 0 xs h)

head-named : (name formals result vars body : Tree) (at : ℕ) (names : Names) (head : Head) → head_judged (tree.function name formals result vars body at) names ≡ Fine head
    → map (λ x. x.name) head.formals ≡ names_of_formals formals
head-named name formals result vars body at names head h =
    let fs = split (formals_judged formals names) (λ fs. result_judged result fs names) head h in
    let t = split (single_type result (with_locals fs.0 names)) (λ t. Fine (record { formals = fs.0; result = t })) head fs.2 in
    ap (λ x. map (λ y. y.name) x.formals) (sym (fine-is (record { formals = fs.0; result = t.0 }) head t.2)) ∙ formals-named formals names fs.0 fs.1

-- formals and locals of different names, inside which no call is hidden
record IsInside (xs ys : List Local) (formals vars : Tree) (names others : Names) : Type 0 where
  distinct : AreDistinct (map (λ x. x.name) (xs ++ ys))
  first : SameInside (with_names (names_of_formals formals) nothing_inside) (with_locals xs others)
  both : SameInside (with_names (names_of_vars vars) (with_names (names_of_formals formals) nothing_inside)) (with_locals ys (with_locals xs others))

routine-inside : (xs : List Local) (formals vars : Tree) (names others : Names) → AreDeclared vars → others.locals ≡ [] → map (λ x. x.name) xs ≡ names_of_formals formals
    → AreDistinct (names_of_formals formals ++ names_of_vars vars) → IsInside xs (locals_of vars (with_locals xs names)) formals vars names others
routine-inside xs formals vars names others declared bare e d =
    let k : Names = with_locals xs names in
    let first = locals-inside (names_of_formals formals) xs nothing_inside others e (ap (λ ls. map (λ x. x.name) ls) (sym bare)) in
    record {
      distinct = subst AreDistinct (sym (map-append (λ x. x.name) xs (locals_of vars k) ∙ ap (λ ns. ns ++ map (λ x. x.name) (locals_of vars k)) e ∙ ap (λ ns. names_of_formals formals ++ ns) (locals-named vars k declared))) d;
      first = first;
      both = locals-inside (names_of_vars vars) (locals_of vars k) (with_names (names_of_formals formals) nothing_inside) (with_locals xs others) (locals-named vars k declared) first;
    }

-- a function that breaks nothing, by its head
pub fun-made : (full : List ℕ) (name formals result vars body : Tree) (at : ℕ) (names : Names) (g : Fun) → fun_judged full (tree.function name formals result vars body at) names ≡ Fine g
    → fun_broken (tree.function name formals result vars body at) names ≡ [] → (head : Head) × (head_judged (tree.function name formals result vars body at) names ≡ Fine head) × (fun_of full head vars body names ≡ g)
fun-made full name formals result vars body at names g e h =
    let decl : Tree = tree.function name formals result vars body at in
    let head = split (head_judged decl names) (λ head. Fine (fun_if (names_behind vars (with_locals head.formals names)) full head vars body names)) g e in
    let inside = while-none (head_judged decl names) head.0 (λ head. fun_inside decl names head) head.1 h in
    let two = none-of (starts_broken vars (with_locals head.0.formals names)) _ inside in
    let i = if-none (names_behind vars (with_locals head.0.formals names)) (λ inner. broken (stored_kind (kind_of_scalar head.0.result) body inner)) two.1 in
    (head.0, head.1, sym (ap (λ j. fun_if j full head.0 vars body names) i.1) ∙ fine-is _ g head.2)

-- what the scopes give of a function
pub record FunScoped (others : Names) (g : Fun) : Type 0 where
  pub distinct : AreDistinct (map (λ x. x.name) (g.formals ++ g.locals))
  pub hides : FunHidesNoCall others g

pub fun-scoped : (full : List ℕ) (decl : Tree) (names others : Names) (g : Fun) → IsFunFormed decl → IsFunScoped decl → others.locals ≡ [] → fun_judged full decl names ≡ Fine g
    → fun_broken decl names ≡ [] → FunScoped others g
fun-scoped full (tree.function name formals result vars body at) names others g formed scoped bare e h =
    let made = fun-made full name formals result vars body at names g e h in
    let k : Names = with_locals made.0.formals names in
    let i = routine-inside made.0.formals formals vars names others formed bare (head-named name formals result vars body at names made.0 made.1) scoped.0 in
    subst (λ x. FunScoped others x) made.2 (record {
      distinct = i.distinct;
      hides = record {
        locals = locals-hide vars k (with_names (names_of_formals formals) nothing_inside) (with_locals made.0.formals others) formed i.first scoped.1;
        body = written-hides body (behind_vars vars k) (with_names (names_of_vars vars) (with_names (names_of_formals formals) nothing_inside))
            (with_locals (locals_of vars k) (with_locals made.0.formals others)) i.both scoped.2;
      };
    })
fun-scoped full other names others g formed scoped bare e h = absurd formed

-- each declaration breaks nothing
pub funs-fine : (fs : List FunDecl) (names : Names) → funs_broken fs names ≡ [] → Each (λ f. fun_broken f.decl names ≡ []) fs
funs-fine [] names h = tt
funs-fine (f ∷ fs) names h =
    let p = none-of (found_in f.file (fun_broken f.decl names)) (funs_broken fs names) h in
    (found-none f.file (fun_broken f.decl names) p.0, funs-fine fs names p.1)

-- ---- procedures

abbrev pub AreProcs : List Tree → Names → List Proc → Type 0
AreProcs [] names [] = Unit {0}
AreProcs (p ∷ ps) names (q ∷ qs) = (proc_judged p names ≡ Fine q) × AreProcs ps names qs
AreProcs ps names qs = ⊥

pub record Procedures (ps : List Tree) (names : Names) : Type 0 where
  pub found : List Proc
  pub are : AreProcs ps names found
  pub all : all_fine (procs_of ps names) ≡ Some found

-- the formals of the first of these
proc-found : (p : Tree) (ps : List Tree) (names : Names) → IsProcFormed p → formals_broken (p ∷ ps) names ≡ [] → (q : Proc) × (proc_judged p names ≡ Fine q) × (formals_broken ps names ≡ [])
proc-found (tree.procedure (tree.ident name place) formals vars body at) ps names formed h =
    let p = none-of (broken (formals_judged formals names)) (formals_broken ps names) h in
    let fs = broken-none (formals_judged formals names) p.0 in
    (proc_of name fs.0 vars body names, ap (λ j. and_proc name vars body names j) fs.1, p.1)
proc-found other ps names formed h = absurd formed

pub procedures-found : (ps : List Tree) (names : Names) → Each IsProcFormed ps → formals_broken ps names ≡ [] → Procedures ps names
procedures-found [] names formed h = record { found = []; are = tt; all = refl }
procedures-found (p ∷ ps) names formed h =
    let q = proc-found p ps names formed.0 h in
    let rest = procedures-found ps names formed.1 q.2 in
    record {
      found = q.0 ∷ rest.found;
      are = (q.1, rest.are);
      all = ap (λ j. and_all (fine j) (all_fine (procs_of ps names))) q.1 ∙ ap (λ o. and_all (Some q.0) o) rest.all;
    }

pub each-proc : (S : Tree → Type 0) (R : Proc → Type 0) (ps : List Tree) (names : Names) (qs : List Proc)
    → ((p : Tree) (q : Proc) → S p → proc_judged p names ≡ Fine q → R q) → Each S ps → AreProcs ps names qs → Each R qs
each-proc S R [] names [] k s a = tt
each-proc S R [] names (q ∷ qs) k s a = absurd a
each-proc S R (p ∷ ps) names [] k s a = absurd a
each-proc S R (p ∷ ps) names (q ∷ qs) k s a = (k p q s.0 a.0, each-proc S R ps names qs k s.1 a.1)

-- a procedure by its formals
pub proc-made : (name : List ℕ) (place : ℕ) (formals vars body : Tree) (at : ℕ) (names : Names) (q : Proc) → proc_judged (tree.procedure (tree.ident name place) formals vars body at) names ≡ Fine q
    → (fs : List Local) × (formals_judged formals names ≡ Fine fs) × (proc_of name fs vars body names ≡ q)
proc-made name place formals vars body at names q e =
    let fs = split (formals_judged formals names) (λ fs. Fine (proc_of name fs vars body names)) q e in
    (fs.0, fs.1, fine-is (proc_of name fs.0 vars body names) q fs.2)

pub proc-named : (p : Tree) (names : Names) (q : Proc) → proc_judged p names ≡ Fine q → q.name ≡ proc_name p
proc-named (tree.procedure (tree.ident name place) formals vars body at) names q e = ap (λ x. x.name) (sym (proc-made name place formals vars body at names q e).2)
proc-named other names q e = absurd (not-fine unknown_name 0 q e)

pub procs-named : (ps : List Tree) (names : Names) (qs : List Proc) → AreProcs ps names qs → map (λ q. q.name) qs ≡ map proc_name ps
procs-named [] names [] a = refl
procs-named [] names (q ∷ qs) a = absurd a
procs-named (p ∷ ps) names [] a = absurd a
procs-named (p ∷ ps) names (q ∷ qs) a = ap (λ n. n ∷ map (λ q. q.name) qs) (proc-named p names q a.0) ∙ ap (λ ns. proc_name p ∷ ns) (procs-named ps names qs a.1)

pub procs-counted : (ps : List Tree) (names : Names) (qs : List Proc) → AreProcs ps names qs → length qs ≡ length ps
procs-counted [] names [] a = refl
procs-counted [] names (q ∷ qs) a = absurd a
procs-counted (p ∷ ps) names [] a = absurd a
procs-counted (p ∷ ps) names (q ∷ qs) a = ap suc (procs-counted ps names qs a.1)

pub record ProcScoped (others : Names) (q : Proc) : Type 0 where
  pub distinct : AreDistinct (map (λ x. x.name) (q.formals ++ q.locals))
  pub hides : ProcHidesNoCall others q

pub proc-scoped : (p : Tree) (names others : Names) (q : Proc) → IsProcFormed p → IsProcScoped p → others.locals ≡ [] → proc_judged p names ≡ Fine q → ProcScoped others q
proc-scoped (tree.procedure (tree.ident name place) formals vars body at) names others q formed scoped bare e =
    let made = proc-made name place formals vars body at names q e in
    let k : Names = with_locals made.0 names in
    let i = routine-inside made.0 formals vars names others formed.0 bare (formals-named formals names made.0 made.1) scoped.0 in
    subst (λ x. ProcScoped others x) made.2 (record {
      distinct = i.distinct;
      hides = record {
        locals = locals-hide vars k (with_names (names_of_formals formals) nothing_inside) (with_locals made.0 others) formed.0 i.first scoped.1;
        body = statement-hides body (behind_vars vars k) (with_names (names_of_vars vars) (with_names (names_of_formals formals) nothing_inside))
            (with_locals (locals_of vars k) (with_locals made.0 others)) i.both scoped.2;
      };
    })
proc-scoped other names others q formed scoped bare e = absurd formed

pub proc-calls : (rank : List ℕ → ℕ) (p : Tree) (names : Names) (q : Proc) → ProcDeclCallsBelow rank p → proc_judged p names ≡ Fine q → ProcCallsBelow rank q
proc-calls rank (tree.procedure (tree.ident name place) formals vars body at) names q h e =
    let made = proc-made name place formals vars body at names q e in
    subst (λ x. ProcCallsBelow rank x) made.2
    (record { body = statement-calls (λ other. Unit {0}) (λ other. rank other < rank name) body (behind_vars vars (with_locals made.0 names)) h })
proc-calls rank other names q h e = absurd (not-fine unknown_name 0 q e)

pub procs-fine : (ps : List Tree) (procs : List Proc) (names : Names) → procs_broken ps procs names ≡ [] → Each (λ p. proc_broken p procs names ≡ []) ps
procs-fine [] procs names h = tt
procs-fine (p ∷ ps) procs names h =
    let two = none-of (proc_broken p procs names) (procs_broken ps procs names) h in
    (two.0, procs-fine ps procs names two.1)
