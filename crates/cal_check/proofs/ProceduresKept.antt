-- Procedures do what they do as they stand in the source.
use Rattle.std.proofs.Common.{◌≡◌, ℕ, zero, suc, Bool, true, false, List, [], ◌∷◌, ◌++◌, length, refl, sym, ap, subst, ◌∙◌, Option, None, Some}
use Rattle.std.specs.Prelude.{if◌then◌else◌}
use Rattle.std.specs.Str.{bytes_eq}
use Rattle.cal_ast.specs.Tree as tree
use Rattle.cal_ast.specs.Tree.{Tree}
use Rattle.cal_model.specs.Value.{Values}
use Rattle.cal_model.specs.Outcome.{Lacks}
use Rattle.cal_model.specs.Env.{Var}
use Rattle.cal_model.specs.Expression.{Calls}
use Rattle.cal_model.specs.Actor.{Local, Proc}
use Rattle.cal_model.specs.Call.{declared, on_call}
use Rattle.cal_model.specs.Statement.{Runs, exec_all, performed, proc_named, runs_of, runs_within}
use Rattle.cal_model.specs.Kinding.{Fine, Names, and_so}
use Rattle.cal_model.specs.Sound.{Each, with_locals}
use Rattle.cal_check.specs.AsWritten.{locals_as_are, proc_as_is, proc_judged_as_is, procs_as_are, with_proc}
use Rattle.cal_check.specs.Formed.{AreDeclared, AreFormed, IsProcFormed}
use Rattle.cal_check.specs.Laws.{ConstantsFit}
use Rattle.cal_check.specs.Routines.{formals_judged, locals_of, proc_broken, proc_inside, proc_judged, proc_of}
use Rattle.cal_check.specs.Statements.{names_behind, starts_broken, statement_broken}
use Rattle.cal_check.specs.Violations.{if_fine}
use Rattle.cal_check.specs.Written.{behind_vars, statement_written}
use Rattle.cal_check.proofs.Fine.{if-none, none-of}
use Rattle.cal_check.proofs.FunctionsKept.{entry-holds, locals-outside, locals-same}
use Rattle.cal_check.proofs.JudgedRoutines.{AreProcs, proc-made}
use Rattle.cal_check.proofs.SoundLocals.{are-sound}
use Rattle.cal_check.proofs.SoundRoutines.{fit-locals, while-none}
use Rattle.cal_check.proofs.StatementsKept.{HasConstants, Holds, Same, World, behind-deeper, same-then, statements-same}

-- ---- one procedure

performed-kept : (c d : Calls) (runs others : Runs) (name : List ℕ) (formals : List Local) (vars body : Tree) (procs : List Proc) (n : Names) (globals : List Var) (args : Values) (left : ℕ)
    → AreDeclared vars → AreFormed body → n.locals ≡ [] → ConstantsFit n → World c d runs others n.globals n.funs
    → starts_broken vars (with_locals formals n) ++ if_fine (names_behind vars (with_locals formals n)) (λ inner. statement_broken body procs inner) ≡ []
    → HasConstants n.globals globals
    → Same (HasConstants n.globals) (performed (proc_of name formals vars body n) c runs globals args left) (performed (proc_as_is name formals vars body n) d others globals args left)
performed-kept c d runs others name formals vars body procs n globals args left f g bare fit w b has =
    let k : Names = with_locals formals n in
    let out = locals-outside formals n in
    let w_inside : World c d runs others k.globals k.funs =
    subst (λ gs. World c d runs others gs k.funs) (sym out.0) (subst (λ fs. World c d runs others n.globals fs) (sym out.1) w) in
    let fit_k = fit-locals formals n fit in
    let two = none-of (starts_broken vars k) (if_fine (names_behind vars k) (λ inner. statement_broken body procs inner)) b in
    let i = if-none (names_behind vars k) (λ inner. statement_broken body procs inner) two.1 in
    let s = are-sound vars k i.0 f fit_k i.1 two.0 in
    let deep = behind-deeper vars k i.0 f i.1 in
    let w_behind : World c d runs others i.0.globals i.0.funs =
    subst (λ gs. World c d runs others gs i.0.funs) (sym deep.globals) (subst (λ fs. World c d runs others k.globals fs) (sym deep.funs) w_inside) in
    same-then (Holds k) (HasConstants n.globals) (on_call globals formals args left) (on_call globals formals args left) _ _ (refl, entry-holds formals n globals args left bare has) (λ entry h hn.
    same-then (Holds i.0) (HasConstants n.globals) (declared (locals_of vars k) c entry h) (declared (locals_as_are vars k) d entry h) _ _
    (locals-same c d runs others vars k i.0 entry h f fit_k w_inside hn i.1 two.0) (λ env m hi.
    same-then (Holds i.0) (HasConstants n.globals) (exec_all (statement_written body (behind_vars vars k)) c runs env m) (exec_all body d others env m) _ _
    (subst (λ x. Same (Holds i.0) (exec_all (statement_written body x) c runs env m) (exec_all body d others env m)) (sym s.is_behind)
    (statements-same c d runs others body procs i.0 env m g s.fit w_behind hi i.2))
    (λ last j hl. (refl, subst (λ xs. HasConstants xs last.globals) (deep.globals ∙ out.0) hl.constants))))

-- ---- both lists of procedures

-- a procedure as it is written out and as it stands, over any calls of others that do the same
abbrev IsPair : (c d : Calls) → Names → Proc → Proc → Type 0
IsPair c d n p q = (runs others : Runs) (globals : List Var) (args : Values) (left : ℕ) → World c d runs others n.globals n.funs → HasConstants n.globals globals
    → Same (HasConstants n.globals) (performed p c runs globals args left) (performed q d others globals args left)

abbrev AreBoth : (c d : Calls) → Names → Option Proc → Option Proc → Type 0
AreBoth c d n None None = Unit {0}
AreBoth c d n (Some p) (Some q) = IsPair c d n p q
AreBoth c d n o p = ⊥

pair-of : (c d : Calls) (t : Tree) (procs : List Proc) (n : Names) (p : Proc) → IsProcFormed t → proc_broken t procs n ≡ [] → n.locals ≡ [] → ConstantsFit n → proc_judged t n ≡ Fine p
    → (q : Proc) × (proc_judged_as_is t n ≡ Fine q) × (q.name ≡ p.name) × IsPair c d n p q
pair-of c d (tree.procedure (tree.ident name place) formals vars body at) procs n p formed b bare fit e =
    let made = proc-made name place formals vars body at n p e in
    let inside = while-none (formals_judged formals n) made.0 (λ fs. proc_inside (tree.procedure (tree.ident name place) formals vars body at) procs n fs) made.1 b in (
      proc_as_is name made.0 vars body n,
      ap (λ j. and_so j (λ fs. Fine (proc_as_is name fs vars body n))) made.1,
      ap (λ x. x.name) made.2,
      subst (λ x. IsPair c d n x (proc_as_is name made.0 vars body n)) made.2
          (λ runs others globals args left w has. performed-kept c d runs others name made.0 vars body procs n globals args left formed.0 formed.1 bare fit w inside has),
    )
pair-of c d other procs n p formed b bare fit e = absurd formed

pub pairs-of : (c d : Calls) (ts : List Tree) (procs : List Proc) (n : Names) (ps : List Proc) → Each IsProcFormed ts → Each (λ t. proc_broken t procs n ≡ []) ts → n.locals ≡ [] → ConstantsFit n → AreProcs ts n ps
    → ((name : List ℕ) → AreBoth c d n (proc_named name ps) (proc_named name (procs_as_are ts n))) × (length ps ≡ length (procs_as_are ts n))
pairs-of c d [] procs n [] formed b bare fit a = (λ name. tt, refl)
pairs-of c d [] procs n (p ∷ ps) formed b bare fit a = absurd a
pairs-of c d (t ∷ ts) procs n [] formed b bare fit a = absurd a
pairs-of c d (t ∷ ts) procs n (p ∷ ps) formed b bare fit a =
    let q = pair-of c d t procs n p formed.0 b.0 bare fit a.0 in
    let rest = pairs-of c d ts procs n ps formed.1 b.1 bare fit a.1 in
    let list : procs_as_are (t ∷ ts) n ≡ q.0 ∷ procs_as_are ts n = ap (λ j. with_proc j (procs_as_are ts n)) q.1 in (
      λ name. subst (λ qs. AreBoth c d n (if bytes_eq p.name name then Some p else proc_named name ps) (proc_named name qs)) (sym list)
          (subst (λ x. AreBoth c d n (if bytes_eq p.name name then Some p else proc_named name ps) (if bytes_eq x name then Some q.0 else proc_named name (procs_as_are ts n))) (sym q.2)
          (both name (bytes_eq p.name name) q.0 q.3 (rest.0 name))),
      ap suc rest.1 ∙ sym (ap length list),
    )
  where
    both : (name : List ℕ) (b : Bool) (q : Proc) → IsPair c d n p q → AreBoth c d n (proc_named name ps) (proc_named name (procs_as_are ts n))
        → AreBoth c d n (if b then Some p else proc_named name ps) (if b then Some q else proc_named name (procs_as_are ts n))
    both name true q i rest = i
    both name false q i rest = rest

-- ---- calls of them

within-kept : (k : ℕ) (c d : Calls) (n : Names) (ps qs : List Proc) → ((runs others : Runs)
    → ((globals : List Var) → HasConstants n.globals globals → (name : List ℕ) (args : Values) (left : ℕ) → Same (HasConstants n.globals) (runs globals name args left) (others globals name args left))
    → World c d runs others n.globals n.funs)
    → ((name : List ℕ) → AreBoth c d n (proc_named name ps) (proc_named name qs)) → (globals : List Var) → HasConstants n.globals globals → (name : List ℕ) (args : Values) (left : ℕ)
    → Same (HasConstants n.globals) (runs_within k ps c globals name args left) (runs_within k qs d globals name args left)
within-kept zero c d n ps qs world pairs globals has name args left = (refl, tt)
within-kept (suc k) c d n ps qs world pairs globals has name args left =
    go (proc_named name ps) (proc_named name qs) (pairs name) (world (runs_within k ps c) (runs_within k qs d) (λ gs h other vs j. within-kept k c d n ps qs world pairs gs h other vs j))
  where
    go : (o p : Option Proc) → AreBoth c d n o p → World c d (runs_within k ps c) (runs_within k qs d) n.globals n.funs
        → Same (HasConstants n.globals) (elim o [ None ↦ Lacks | Some x ↦ performed x c (runs_within k ps c) globals args left ]) (elim p [ None ↦ Lacks | Some x ↦ performed x d (runs_within k qs d) globals args left ])
    go None None i w = (refl, tt)
    go None (Some q) i w = absurd i
    go (Some p) None i w = absurd i
    go (Some p) (Some q) i w = i (runs_within k ps c) (runs_within k qs d) globals args left w has

pub runs-same : (c d : Calls) (n : Names) (ps qs : List Proc) → ((runs others : Runs)
    → ((globals : List Var) → HasConstants n.globals globals → (name : List ℕ) (args : Values) (left : ℕ) → Same (HasConstants n.globals) (runs globals name args left) (others globals name args left))
    → World c d runs others n.globals n.funs)
    → ((name : List ℕ) → AreBoth c d n (proc_named name ps) (proc_named name qs)) → length ps ≡ length qs → (globals : List Var) → HasConstants n.globals globals → (name : List ℕ) (args : Values) (left : ℕ)
    → Same (HasConstants n.globals) (runs_of ps c globals name args left) (runs_of qs d globals name args left)
runs-same c d n ps qs world pairs e globals has name args left =
    subst (λ k. Same (HasConstants n.globals) (runs_of ps c globals name args left) (runs_within k qs d globals name args left)) e
    (within-kept (length ps) c d n ps qs world pairs globals has name args left)
