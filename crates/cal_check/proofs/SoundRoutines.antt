-- Functions and procedures of which none breaks a rule.
use Rattle.std.proofs.Common.{◌≡◌, ℕ, List, [], ◌∷◌, ◌++◌, map, refl, sym, ap, subst, ◌∙◌}
use Rattle.rvc_base.specs.Rules.{unknown_name}
use Rattle.rvc_base.specs.declared.scalar.Scalar.{Scalar}
use Rattle.rvc_base.specs.Storing.{IsSize}
use Rattle.cal_ast.specs.Places.{begins}
use Rattle.cal_ast.specs.Tree as tree
use Rattle.cal_ast.specs.Tree.{Tree}
use Rattle.cal_model.specs.Value.{Single, kind_of_scalar}
use Rattle.cal_model.specs.Actor.{Fun, Local, Proc}
use Rattle.cal_model.specs.Kinding.{Judged, Fine, Names, kind, type_judged, with_known}
use Rattle.cal_model.specs.Sound.{AreDistinct, AreStatements, Each, IsFormal, IsFun, IsPlain, IsProc, known_local, with_locals}
use Rattle.cal_model.proofs.KindValues.{not-fine, fine-is, split}
use Rattle.cal_model.proofs.KindLaws.{judged-type}
use Rattle.cal_check.specs.Violations.{broken, if_fine, while_fine}
use Rattle.cal_check.specs.Constants.{stored_kind}
use Rattle.cal_check.specs.Written.{statement_written, written}
use Rattle.cal_check.specs.Statements.{names_behind, starts_broken, statement_broken}
use Rattle.cal_check.specs.Routines.{Head, formal_judged, formal_of, formals_judged, fun_broken, fun_if, fun_inside, fun_judged, fun_of, head_judged, locals_of, proc_broken, proc_inside, proc_judged, proc_of, result_judged, single_type}
use Rattle.cal_check.specs.Formed.{AreDeclared, IsFunFormed, IsProcFormed}
use Rattle.cal_check.specs.Laws.{AreAlike, ConstantsFit}
use Rattle.cal_check.specs.Uses.{OnlyUses}
use Rattle.cal_check.proofs.WrittenUses.{locals-use, statement-uses, written-uses}
use Rattle.cal_check.proofs.Fine.{if-none, none-of}
use Rattle.cal_check.proofs.KeptKinds.{fit-more}
use Rattle.cal_check.proofs.SameNames.{same}
use Rattle.cal_check.proofs.SameParts.{locals-same, statements-same, with-locals-alike}
use Rattle.cal_check.proofs.SoundHeader.{single-is}
use Rattle.cal_check.proofs.SoundLocals.{are-sound}
use Rattle.cal_check.proofs.SoundStatements.{are-right, of-kind}

-- ---- heads

single-size : (shape : Tree) (names : Names) (t : Scalar) → single_type shape names ≡ Fine t → IsSize t
single-size shape names t h = judged-type shape names (Single t) (single-is (type_judged shape names) (begins shape) t h)

is-formal : (f : Tree) (names : Names) (x : Local) → formal_judged f names ≡ Fine x → IsFormal x
is-formal (tree.port shape (tree.ident name place) at) names x h =
    let t = split (single_type shape names) (λ t. Fine (formal_of name t)) x h in
    subst (λ y. IsFormal y) (fine-is (formal_of name t.0) x t.2)
    (record { scalar = t.0; single = refl; size = single-size shape names t.0 t.1; bare = refl })
is-formal other names x h = absurd (not-fine unknown_name 0 x h)

are-formals : (fs : Tree) (names : Names) (xs : List Local) → formals_judged fs names ≡ Fine xs → Each IsFormal xs
are-formals tree.nil names xs h = subst (λ ys. Each IsFormal ys) (fine-is [] xs h) tt
are-formals (tree.cons f fs) names xs h =
    let x = split (formal_judged f names) _ xs h in
    let rest = split (formals_judged fs (with_known (known_local x.0) names)) (λ ys. Fine (x.0 ∷ ys)) xs x.2 in
    subst (λ ys. Each IsFormal ys) (fine-is (x.0 ∷ rest.0) xs rest.2)
    (is-formal f names x.0 x.1, are-formals fs (with_known (known_local x.0) names) rest.0 rest.1)
are-formals other names xs h = absurd (not-fine unknown_name 0 xs h)

pub fit-locals : (xs : List Local) (names : Names) → ConstantsFit names → ConstantsFit (with_locals xs names)
fit-locals [] names fit = fit
fit-locals (x ∷ xs) names fit = fit-locals xs (with_known (known_local x) names) (fit-more (known_local x) names refl fit)

-- ---- procedures

pub while-none : {A : Type 0} (j : Judged A) (a : A) (f : A → List _) → j ≡ Fine a → while_fine j f ≡ [] → f a ≡ []
while-none j a f e h = ap (λ k. while_fine k f) (sym e) ∙ h

proc-made : (P : List ℕ → Type 0) (name : List ℕ) (fs : List Local) (vars body : Tree) (procs : List Proc) (names m : Names) → Each IsFormal fs → IsProcFormed (tree.procedure (tree.ident name 0) tree.nil vars body 0)
    → OnlyUses P vars → OnlyUses P body → ConstantsFit names → AreAlike P names m
    → starts_broken vars (with_locals fs names) ++ if_fine (names_behind vars (with_locals fs names)) (λ inner. statement_broken body procs inner) ≡ []
    → AreDistinct (map (λ x. x.name) (fs ++ locals_of vars (with_locals fs names))) → IsProc procs m (proc_of name fs vars body names)
proc-made P name fs vars body procs names m formals f uv ub fit alike h d =
    let n : Names = with_locals fs names in
    let fit_n : ConstantsFit n = fit-locals fs names fit in
    let alike_n : AreAlike P n (with_locals fs m) = with-locals-alike P fs names m alike in
    let two = none-of (starts_broken vars n) (if_fine (names_behind vars n) (λ inner. statement_broken body procs inner)) h in
    let i = if-none (names_behind vars n) (λ inner. statement_broken body procs inner) two.1 in
    let s = are-sound vars n i.0 f.0 fit_n i.1 two.0 in
    let r = are-right body procs i.0 f.1 s.fit i.2 in
    let inner_alike : AreAlike P i.0 (with_locals (locals_of vars n) (with_locals fs m)) =
    subst (λ x. AreAlike P x (with_locals (locals_of vars n) (with_locals fs m))) s.is_with (with-locals-alike P (locals_of vars n) n (with_locals fs m) alike_n) in
    record {
      formals = formals;
      locals = locals-same P (locals_of vars n) n (with_locals fs m) alike_n (locals-use P vars n uv) s.are_locals;
      distinct = d;
      body = subst (λ x. AreStatements (statement_written body x) procs (with_locals (locals_of vars n) (with_locals fs m))) (sym s.is_behind)
          (statements-same P (statement_written body i.0) procs i.0 (with_locals (locals_of vars n) (with_locals fs m)) inner_alike r.bare (statement-uses P body i.0 ub) r.are);
      plain = subst (λ x. IsPlain (statement_written body x)) (sym s.is_behind) r.bare;
    }

pub proc-sound : (P : List ℕ → Type 0) (p : Tree) (procs : List Proc) (names m : Names) (q : Proc) → IsProcFormed p → OnlyUses P p → ConstantsFit names → AreAlike P names m → proc_judged p names ≡ Fine q
    → proc_broken p procs names ≡ [] → AreDistinct (map (λ x. x.name) (q.formals ++ q.locals)) → IsProc procs m q
proc-sound P (tree.procedure (tree.ident name place) formals vars body at) procs names m q f u fit alike e h d =
    let fs = split (formals_judged formals names) (λ fs. Fine (proc_of name fs vars body names)) q e in
    let same : proc_of name fs.0 vars body names ≡ q = fine-is (proc_of name fs.0 vars body names) q fs.2 in
    let inside = while-none (formals_judged formals names) fs.0 (λ fs. proc_inside (tree.procedure (tree.ident name place) formals vars body at) procs names fs) fs.1 h in
    subst (λ x. IsProc procs m x) same
    (proc-made P name fs.0 vars body procs names m (are-formals formals names fs.0 fs.1) f u.1 u.2 fit alike inside
    (subst (λ x. AreDistinct (map (λ y. y.name) (x.formals ++ x.locals))) (sym same) d))
proc-sound P other procs names m q f u fit alike e h d = absurd f

-- ---- functions

-- a head, and the size of its result
pub head-is : (name formals result vars body : Tree) (at : ℕ) (names : Names) (head : Head) → head_judged (tree.function name formals result vars body at) names ≡ Fine head
    → Each IsFormal head.formals × IsSize head.result
head-is name formals result vars body at names head h =
    let fs = split (formals_judged formals names) (λ fs. result_judged result fs names) head h in
    let t = split (single_type result (with_locals fs.0 names)) (λ t. Fine (record { formals = fs.0; result = t })) head fs.2 in
    subst (λ x. Each IsFormal x.formals × IsSize x.result) (fine-is (record { formals = fs.0; result = t.0 }) head t.2)
    (are-formals formals names fs.0 fs.1, single-size result (with_locals fs.0 names) t.0 t.1)

fun-made : (P : List ℕ → Type 0) (full : List ℕ) (head : Head) (vars body : Tree) (names m : Names) → Each IsFormal head.formals → IsSize head.result → AreDeclared vars → OnlyUses P vars → OnlyUses P body → ConstantsFit names → AreAlike P names m
    → starts_broken vars (with_locals head.formals names)
    ++ if_fine (names_behind vars (with_locals head.formals names)) (λ inner. broken (stored_kind (kind_of_scalar head.result) body inner)) ≡ []
    → AreDistinct (map (λ x. x.name) (head.formals ++ locals_of vars (with_locals head.formals names)))
    → IsFun m (fun_of full head vars body names) × (fun_if (names_behind vars (with_locals head.formals names)) full head vars body names ≡ fun_of full head vars body names)
fun-made P full head vars body names m formals size f uv ub fit alike h d =
    let n : Names = with_locals head.formals names in
    let fit_n : ConstantsFit n = fit-locals head.formals names fit in
    let alike_n : AreAlike P n (with_locals head.formals m) = with-locals-alike P head.formals names m alike in
    let two = none-of (starts_broken vars n) (if_fine (names_behind vars n) (λ inner. broken (stored_kind (kind_of_scalar head.result) body inner))) h in
    let i = if-none (names_behind vars n) (λ inner. broken (stored_kind (kind_of_scalar head.result) body inner)) two.1 in
    let s = are-sound vars n i.0 f fit_n i.1 two.0 in
    let w = of-kind (kind_of_scalar head.result) body i.0 s.fit i.2 in
    let m_inner : Names = with_locals (locals_of vars n) (with_locals head.formals m) in
    let inner_alike : AreAlike P i.0 m_inner =
    subst (λ x. AreAlike P x m_inner) s.is_with (with-locals-alike P (locals_of vars n) n (with_locals head.formals m) alike_n) in (
      record {
        formals = formals;
        locals = locals-same P (locals_of vars n) n (with_locals head.formals m) alike_n (locals-use P vars n uv) s.are_locals;
        distinct = d;
        result = size;
        body = subst (λ x. kind (written body x) m_inner ≡ Fine (kind_of_scalar head.result)) (sym s.is_behind)
            (sym (same P (written body i.0) i.0 m_inner inner_alike w.bare (written-uses P body i.0 ub)) ∙ w.same);
        plain = subst (λ x. IsPlain (written body x)) (sym s.is_behind) w.bare;
      },
      ap (λ j. fun_if j full head vars body names) i.1,
    )

pub fun-sound : (P : List ℕ → Type 0) (full : List ℕ) (decl : Tree) (names m : Names) (g : Fun) → IsFunFormed decl → OnlyUses P decl → ConstantsFit names → AreAlike P names m → fun_judged full decl names ≡ Fine g
    → fun_broken decl names ≡ [] → AreDistinct (map (λ x. x.name) (g.formals ++ g.locals)) → IsFun m g
fun-sound P full (tree.function name formals result vars body at) names m g f u fit alike e h d =
    let decl : Tree = tree.function name formals result vars body at in
    let head = split (head_judged decl names) (λ head. Fine (fun_if (names_behind vars (with_locals head.formals names)) full head vars body names)) g e in
    let is = head-is name formals result vars body at names head.0 head.1 in
    let inside = while-none (head_judged decl names) head.0 (λ head. fun_inside decl names head) head.1 h in
    let found : fun_if (names_behind vars (with_locals head.0.formals names)) full head.0 vars body names ≡ g = fine-is _ g head.2 in
    let two = none-of (starts_broken vars (with_locals head.0.formals names)) _ inside in
    let i = if-none (names_behind vars (with_locals head.0.formals names)) (λ inner. broken (stored_kind (kind_of_scalar head.0.result) body inner)) two.1 in
    let made : fun_of full head.0 vars body names ≡ g = sym (ap (λ j. fun_if j full head.0 vars body names) i.1) ∙ found in
    let d_made = subst (λ x. AreDistinct (map (λ y. y.name) (x.formals ++ x.locals))) (sym made) d in
    subst (λ x. IsFun m x) made (fun-made P full head.0 vars body names m is.0 is.1 f u.2 u.3 fit alike inside d_made).0
fun-sound P full other names m g f u fit alike e h d = absurd f
