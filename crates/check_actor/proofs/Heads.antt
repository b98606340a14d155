-- Functions and procedures that are built one by one, while their heads break no rule.
use Rattle.std.proofs.Math.Seq.{drop-cons}
use Rattle.std.proofs.Common.{◌≡◌, ℕ, suc, ◌+◌, ◌<◌, length, drop, get_or, arith, Ok, Err, Result, map, List, [], ◌∷◌, ◌++◌, refl, sym, ap, subst, ◌∙◌, append-nil, append_assoc}
use Rattle.std.specs.Prelude.{Option, None, Some}
use Rattle.rvc_base.specs.declared.refusal.Front.{Front}
use Rattle.cal_ast.specs.Tree as tree
use Rattle.cal_ast.specs.Tree.{Tree, listed}
use Rattle.cal_ast.specs.View.{function_tree, port_tree, procedure_tree}
use Rattle.cal_ast.specs.declared.member.Function.{Function}
use Rattle.cal_ast.specs.declared.member.Procedure.{Procedure}
use Rattle.cal_model.specs.Actor.{Fun, Proc}
use Rattle.cal_model.specs.Kinding.{Judged, Fine, Broken, Names, and_so}
use Rattle.const_env.specs.Judging.{Breaks}
use Rattle.const_env.specs.declared.fault.KindFault.{KindFault}
use Rattle.cal_check.specs.Actors.{formals_broken, funs_of, heads_broken, procs_in, procs_of}
use Rattle.cal_check.specs.Routines.{FunDecl, formals_judged, fun_judged, head_judged, proc_judged}
use Rattle.cal_check.specs.Variables.{found_in}
use Rattle.cal_check.specs.Violations.{all_fine, and_all, broken, fine}
use Rattle.check_stmt.specs.Judging.{Refuses}
use Rattle.check_stmt.proofs.Checked.{refuses_alone, refuses_broken, refuses_on}
use Rattle.check_given.specs.Causes.{IsCause}
use Rattle.check_variable.specs.Faults.{behind}
use Rattle.check_actor.specs.Checking.{AddsFun, IsProcAdded, KeepsFun}
use Rattle.check_actor.proofs.Causes.{cause_in_first}

-- ---- a judgement that goes on

pub first_is_fine : {A B : Type 0} (j : Judged A) (g : A → B) (b : B) → and_so j (λ a. Fine (g a)) ≡ Fine b → broken j ≡ []
first_is_fine (Fine a) g b h = refl
first_is_fine (Broken rule at) g b h = absurd (cc)

pub same_broken : {A B : Type 0} (j : Judged A) (g : A → B) → broken (and_so j (λ a. Fine (g a))) ≡ broken j
same_broken (Fine a) g = refl
same_broken (Broken rule at) g = refl

-- ---- what was found, and what is left

pub behind_none : {A : Type 0} (o : Option (List A)) → behind [] o ≡ o
behind_none None = refl
behind_none (Some xs) = refl

pub behind_more : {A : Type 0} (xs : List A) (x : A) (o : Option (List A)) → behind (xs ++ x ∷ []) o ≡ behind xs (and_all (Some x) o)
behind_more xs x None = refl
behind_more xs x (Some ys) = ap Some (append_assoc xs (x ∷ []) ys)

pub behind_all : {A : Type 0} (xs : List A) → behind xs (Some []) ≡ Some xs
behind_all xs = ap Some (append-nil xs)

pub found_first : {A : Type 0} (a : A) (j : Judged A) (js : List (Judged A)) → j ≡ Fine a → all_fine (j ∷ js) ≡ and_all (Some a) (all_fine js)
found_first a j js h = ap (λ i. and_all (fine i) (all_fine js)) h

-- ---- functions

pub record AreBuilt (found : List Fun) (left all : List FunDecl) (names : Names) : Type 0 where
  pub heads : heads_broken left names ≡ heads_broken all names
  pub funs : behind found (all_fine (funs_of left names)) ≡ all_fine (funs_of all names)

pub built_none : (found : List Fun) (all : List FunDecl) (names : Names) → found ≡ [] → AreBuilt found all all names
built_none found all names e =
    record { heads = refl; funs = ap (λ bs. behind bs (all_fine (funs_of all names))) e ∙ behind_none (all_fine (funs_of all names)) }

pub built_more : (f : FunDecl) (b : Fun) (old new : List Fun) (left all : List FunDecl) (names : Names)
    → broken (head_judged f.decl names) ≡ [] → fun_judged f.name f.decl names ≡ Fine b → new ≡ old ++ b ∷ []
    → AreBuilt old (f ∷ left) all names → AreBuilt new left all names
built_more f b old new left all names fine_head judged added h = record {
  heads = sym (ap (λ vs. found_in f.file vs ++ heads_broken left names) fine_head) ∙ h.heads;
  funs = ap (λ bs. behind bs (all_fine (funs_of left names))) added
      ∙ behind_more old b (all_fine (funs_of left names))
      ∙ ap (behind old) (sym (found_first b (fun_judged f.name f.decl names) (funs_of left names) judged))
      ∙ h.funs;
}

pub built_refused : (front : Front) (f : FunDecl) (found : List Fun) (left all : List FunDecl) (names : Names)
    → IsCause front (found_in f.file (broken (head_judged f.decl names))) → AreBuilt found (f ∷ left) all names → IsCause front (heads_broken all names)
built_refused front f found left all names h a =
    subst (IsCause front) a.heads (cause_in_first front (found_in f.file (broken (head_judged f.decl names))) (heads_broken left names) h)

pub built_all : (found : List Fun) (all : List FunDecl) (names : Names) → AreBuilt found [] all names
    → (heads_broken all names ≡ []) × (all_fine (funs_of all names) ≡ Some found)
built_all found all names h = (sym h.heads, sym h.funs ∙ behind_all found)

-- ---- one function

pub adds_fun : (r : Result (Unit {0}) Front) (full : List ℕ) (file : ℕ) (d : Function) (names : Names) (b : Fun) (old new : List Fun)
    → fun_judged full (function_tree d) names ≡ Fine b → KeepsFun r b old new
    → AddsFun r (record { name = full; file = file; decl = function_tree d }) names old new
adds_fun (Ok u) full file d names b old new judged h = record {
  head = first_is_fine (head_judged (function_tree d) names) _ b judged;
  fun = b;
  judged = judged;
  added = h;
}
adds_fun (Err e) full file d names b old new judged h =
    subst (λ f. IsCause f (found_in file (broken (head_judged (function_tree d) names)))) (sym h) tt

pub head_breaks : (fault : KindFault) (full : List ℕ) (d : Function) (names : Names) → Breaks fault (fun_judged full (function_tree d) names)
    → Refuses fault (broken (head_judged (function_tree d) names))
head_breaks fault full d names h =
    subst (Refuses fault) (same_broken (head_judged (function_tree d) names) _) (refuses_broken fault (fun_judged full (function_tree d) names) h)

-- ---- one procedure

pub adds_proc : (p : Procedure) (names : Names) (b : Proc) (old new : List Proc) → proc_judged (procedure_tree p) names ≡ Fine b → new ≡ old ++ b ∷ []
    → IsProcAdded (procedure_tree p) names old new
adds_proc p names b old new judged h = record {
  formals = ap (λ vs. vs ++ []) (first_is_fine (formals_judged (listed (map port_tree p.formals.items)) names) _ b judged);
  proc = b;
  judged = judged;
  added = h;
}

pub formals_break : (fault : KindFault) (p : Procedure) (names : Names) → Breaks fault (proc_judged (procedure_tree p) names)
    → Refuses fault (formals_broken (procedure_tree p ∷ []) names)
formals_break fault p names h =
    refuses_on fault (broken (formals_judged (listed (map port_tree p.formals.items)) names)) []
    (subst (Refuses fault) (same_broken (formals_judged (listed (map port_tree p.formals.items)) names) _) (refuses_broken fault (proc_judged (procedure_tree p) names) h))

pub proc_more : (p : Procedure) (more : Tree) (names : Names) (old new : List Proc) → IsProcAdded (procedure_tree p) names old new
    → behind new (all_fine (procs_of (procs_in more) names)) ≡ behind old (all_fine (procs_of (procs_in (tree.cons (procedure_tree p) more)) names))
proc_more p more names old new h =
    ap (λ bs. behind bs (all_fine (procs_of (procs_in more) names))) h.added
    ∙ behind_more old h.proc (all_fine (procs_of (procs_in more) names))
    ∙ ap (behind old) (sym (found_first h.proc (proc_judged (procedure_tree p) names) (procs_of (procs_in more) names) h.judged))

pub proc_fine : (p : Procedure) (more : Tree) (names : Names) (old new : List Proc) → IsProcAdded (procedure_tree p) names old new
    → formals_broken (procs_in more) names ≡ formals_broken (procs_in (tree.cons (procedure_tree p) more)) names
proc_fine p more names old new h =
    ap (λ vs. vs ++ formals_broken (procs_in more) names)
    (sym (sym (append-nil (broken (formals_judged (listed (map port_tree p.formals.items)) names))) ∙ h.formals))

pub proc_refused : (fault : KindFault) (p : Procedure) (more : Tree) (names : Names) → Refuses fault (formals_broken (procedure_tree p ∷ []) names)
    → Refuses fault (formals_broken (procs_in (tree.cons (procedure_tree p) more)) names)
proc_refused fault p more names h =
    refuses_on fault (broken (formals_judged (listed (map port_tree p.formals.items)) names)) (formals_broken (procs_in more) names)
    (refuses_alone fault (broken (formals_judged (listed (map port_tree p.formals.items)) names)) h)

-- ---- a slice from a place on

pub opened : {A : Type 0} (xs : List A) (x : A) (i : ℕ) → i < length xs → x ≡ get_or xs i x → drop i xs ≡ x ∷ drop (i + 1) xs
opened xs x i l e =
    let more : suc i ≡ i + 1 = omega arith in
    drop-cons xs i x l ∙ ap (λ y. y ∷ drop (suc i) xs) (sym e) ∙ ap (λ k. x ∷ drop k xs) more
