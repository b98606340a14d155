-- Functions that have ranks are settled after as many rounds as their ranks: one round more finds the same.
use Rattle.std.proofs.Common.{◌≡◌, ℕ, zero, suc, ◌+◌, ◌<◌, ◌≤◌, Bool, true, false, List, [], ◌∷◌, length, refl, sym, ap, subst, ◌∙◌, arith, Option, None, Some}
use Rattle.std.specs.Prelude.{if◌then◌else◌, nat_lt}
use Rattle.std.specs.Str.{bytes_eq}
use Rattle.std.proofs.lemmas.Bool.{lt-ltb, ltb-true}
use Rattle.rvc_base.specs.Rules.{unknown_name}
use Rattle.cal_ast.specs.Tree as tree
use Rattle.cal_ast.specs.Tree.{Tree}
use Rattle.cal_model.specs.Value.{Values}
use Rattle.cal_model.specs.Outcome.{Lacks}
use Rattle.cal_model.specs.Env.{Var}
use Rattle.cal_model.specs.Actor.{Fun}
use Rattle.cal_model.specs.Call.{answered, calls_within, fun_named}
use Rattle.cal_model.specs.Kinding.{Judged, Fine, Broken, Names}
use Rattle.cal_model.specs.Sound.{Each, FunCallsBelow, with_locals}
use Rattle.cal_model.proofs.KindNames.{same-text}
use Rattle.cal_model.proofs.KindValues.{fine-is, not-fine, split}
use Rattle.cal_check.specs.Formed.{DeclCallsBelow, IsFunFormed}
use Rattle.cal_check.specs.Routines.{FunDecl, Head, fun_if, fun_judged, funs_after, funs_over, head_judged, with_fun}
use Rattle.cal_check.specs.Statements.{names_behind}
use Rattle.cal_check.specs.Written.{behind_vars}
use Rattle.cal_check.proofs.CallsBelow.{before-call, locals-call, met-call, written-calls}
use Rattle.cal_check.proofs.FittingValues.{named-one}
use Rattle.cal_check.proofs.SameCalls.{answered-same}
use Rattle.cal_check.proofs.SameFuns.{FunsSame, fun-same, on}

-- ---- how many functions there are of lower ranks

abbrev pub one_if : Bool → ℕ
one_if true = 1
one_if false = 0

abbrev pub below : (List ℕ → ℕ) → List Fun → ℕ → ℕ
below rank [] k = 0
below rank (f ∷ fs) k = one_if (nat_lt (rank f.name) k) + below rank fs k

pub below-length : (rank : List ℕ → ℕ) (fs : List Fun) (k : ℕ) → below rank fs k ≤ length fs
below-length rank [] k = omega arith
below-length rank (f ∷ fs) k = go (nat_lt (rank f.name) k) (below-length rank fs k)
  where
    go : (b : Bool) → below rank fs k ≤ length fs → one_if b + below rank fs k ≤ suc (length fs)
    go true h = omega arith
    go false h = omega arith

one-more : (b c : Bool) → (b ≡ true → c ≡ true) → one_if b ≤ one_if c
one-more true true f = omega arith
one-more true false f = absurd (let e : false ≡ true = f refl in cc)
one-more false c f = omega arith

wider : (a k m : ℕ) → k ≤ m → nat_lt a k ≡ true → nat_lt a m ≡ true
wider a k m h e = let less : a < k = ltb-true a k e in lt-ltb a m (omega arith)

pub below-more : (rank : List ℕ → ℕ) (fs : List Fun) (k m : ℕ) → k ≤ m → below rank fs k ≤ below rank fs m
below-more rank [] k m h = omega arith
below-more rank (f ∷ fs) k m h =
    let one = one-more (nat_lt (rank f.name) k) (nat_lt (rank f.name) m) (wider (rank f.name) k m h) in
    let rest = below-more rank fs k m h in
    omega arith

not-below : (a : ℕ) → nat_lt a a ≡ false
not-below a = go (nat_lt a a) refl
  where
    go : (b : Bool) → nat_lt a a ≡ b → b ≡ false
    go true e = absurd (let less : a < a = ltb-true a a e in omega arith)
    go false e = refl

-- the one that is named isn't below itself ..
pub below-all : (rank : List ℕ → ℕ) (name : List ℕ) (fs : List Fun) (f : Fun) → fun_named name fs ≡ Some f → below rank fs (rank name) < length fs
below-all rank name [] f h = absurd (let e : None ≡ Some f = h in cc)
below-all rank name (g ∷ gs) f h = go (bytes_eq g.name name) refl h (λ e. below-all rank name gs f e)
  where
    within : (b : Bool) → below rank gs (rank name) < length gs → one_if b + below rank gs (rank name) < suc (length gs)
    within true l = omega arith
    within false l = omega arith

    go : (b : Bool) → bytes_eq g.name name ≡ b → (if b then Some g else fun_named name gs) ≡ Some f → (fun_named name gs ≡ Some f → below rank gs (rank name) < length gs)
        → one_if (nat_lt (rank g.name) (rank name)) + below rank gs (rank name) < suc (length gs)
    go true e i rest =
        let none : one_if (nat_lt (rank g.name) (rank name)) ≡ 0 =
        ap (λ n. one_if (nat_lt (rank n) (rank name))) (same-text g.name name e) ∙ ap one_if (not-below (rank name)) in
        let all = below-length rank gs (rank name) in
        omega arith
    go false e i rest = within (nat_lt (rank g.name) (rank name)) (rest i)

-- .. and is below all of higher ranks
pub below-less : (rank : List ℕ → ℕ) (name : List ℕ) (fs : List Fun) (f : Fun) (m : ℕ) → fun_named name fs ≡ Some f → rank name < m → below rank fs (rank name) < below rank fs m
below-less rank name [] f m h l = absurd (let e : None ≡ Some f = h in cc)
below-less rank name (g ∷ gs) f m h l = go (bytes_eq g.name name) refl h (λ e. below-less rank name gs f m e l)
  where
    go : (b : Bool) → bytes_eq g.name name ≡ b → (if b then Some g else fun_named name gs) ≡ Some f → (fun_named name gs ≡ Some f → below rank gs (rank name) < below rank gs m)
        → one_if (nat_lt (rank g.name) (rank name)) + below rank gs (rank name) < one_if (nat_lt (rank g.name) m) + below rank gs m
    go true e i rest =
        let same : g.name ≡ name = same-text g.name name e in
        let none : one_if (nat_lt (rank g.name) (rank name)) ≡ 0 = ap (λ n. one_if (nat_lt (rank n) (rank name))) same ∙ ap one_if (not-below (rank name)) in
        let some : one_if (nat_lt (rank g.name) m) ≡ 1 = ap (λ n. one_if (nat_lt (rank n) m)) same ∙ ap one_if (lt-ltb (rank name) m l) in
        let more = below-more rank gs (rank name) m (omega arith) in
        omega arith
    go false e i rest =
        let less = rest i in
        let one = one-more (nat_lt (rank g.name) (rank name)) (nat_lt (rank g.name) m) (wider (rank g.name) (rank name) m (omega arith)) in
        omega arith

-- ---- what functions give

-- so many calls may be open at the function of a name, if there is one
abbrev pub MayBeOpen : (List ℕ → ℕ) → List Fun → ℕ → List ℕ → Type 0
MayBeOpen rank fs n name = (f : Fun) → fun_named name fs ≡ Some f → below rank fs (rank name) < n

none-some : {A : Type 0} (x : A) → None ≡ Some x → ⊥
none-some x h = cc

-- functions of which those of ranks below k are the same give the same by their names
pub calls-settled : (rank : List ℕ → ℕ) (k n m : ℕ) (a b : List Fun) (globals : List Var) → Each (FunCallsBelow rank) a → ((name : List ℕ) → rank name < k → fun_named name a ≡ fun_named name b)
    → (name : List ℕ) → rank name < k → MayBeOpen rank a n name → MayBeOpen rank b m name → (args : Values) (left : ℕ) → calls_within n a globals name args left ≡ calls_within m b globals name args left
calls-settled rank k zero m a b globals calls same name l p q args left = go (fun_named name a) refl
  where
    none : (m : ℕ) → fun_named name b ≡ None → Lacks ≡ calls_within m b globals name args left
    none zero e = refl
    none (suc m) e = ap (λ o. elim o [ None ↦ Lacks | Some f ↦ answered f (calls_within m b) globals args left ]) (sym e)

    go : (o : Option Fun) → fun_named name a ≡ o → Lacks ≡ calls_within m b globals name args left
    go None e = none m (sym (same name l) ∙ e)
    go (Some f) e = absurd (let i = p f e in omega arith)
calls-settled rank k (suc n) zero a b globals calls same name l p q args left = go (fun_named name a) refl
  where
    go : (o : Option Fun) → fun_named name a ≡ o → calls_within (suc n) a globals name args left ≡ Lacks
    go None e = ap (λ o. elim o [ None ↦ Lacks | Some f ↦ answered f (calls_within n a) globals args left ]) e
    go (Some f) e = absurd (let i = q f (sym (same name l) ∙ e) in omega arith)
calls-settled rank k (suc n) (suc m) a b globals calls same name l p q args left =
    go (fun_named name a) refl (λ other i r s vs j. calls-settled rank k n m a b globals calls same other i r s vs j)
  where
    go : (o : Option Fun) → fun_named name a ≡ o
        → ((other : List ℕ) → rank other < k → MayBeOpen rank a n other → MayBeOpen rank b m other → (vs : Values) (j : ℕ) → calls_within n a globals other vs j ≡ calls_within m b globals other vs j)
        → calls_within (suc n) a globals name args left ≡ calls_within (suc m) b globals name args left
    go None e less =
        ap (λ o. elim o [ None ↦ Lacks | Some f ↦ answered f (calls_within n a) globals args left ]) e
        ∙ sym (ap (λ o. elim o [ None ↦ Lacks | Some f ↦ answered f (calls_within m b) globals args left ]) (sym (same name l) ∙ e))
    go (Some f) e less =
        let is = named-one (FunCallsBelow rank) name a f calls e in
        let lower : rank f.name ≡ rank name = ap rank is.1 in
        let there : fun_named name b ≡ Some f = sym (same name l) ∙ e in
        ap (λ o. elim o [ None ↦ Lacks | Some f ↦ answered f (calls_within n a) globals args left ]) e
        ∙ answered-same (λ other. rank other < rank f.name) (λ other. ⊥) (calls_within n a) (calls_within m b) f globals args left is.0.locals is.0.body
        (λ other i vs j. less other (omega arith)
        (λ g h. let x = below-less rank other a g (rank name) h (omega arith) in let y = p f e in omega arith)
        (λ g h. let x = below-less rank other b g (rank name) h (omega arith) in let y = q f there in omega arith) vs j)
        ∙ sym (ap (λ o. elim o [ None ↦ Lacks | Some f ↦ answered f (calls_within m b) globals args left ]) there)

funs-settled : (rank : List ℕ → ℕ) (k : ℕ) (a b : List Fun) → Each (FunCallsBelow rank) a → ((name : List ℕ) → rank name < k → fun_named name a ≡ fun_named name b)
    → FunsSame (λ name. rank name < k) a b
funs-settled rank k a b calls same = record {
  named = same;
  given = λ globals name l args left. calls-settled rank k (length a) (length b) a b globals calls same name l
      (λ f e. below-all rank name a f e) (λ f e. below-all rank name b f e) args left;
}

-- ---- what functions that are judged call

if-calls : (rank : List ℕ → ℕ) (j : Judged Names) (full : List ℕ) (head : Head) (vars body : Tree) (names : Names) (name formals result : Tree) (at : ℕ)
    → DeclCallsBelow rank full (tree.function name formals result vars body at) → FunCallsBelow rank (fun_if j full head vars body names)
if-calls rank (Fine inner) full head vars body names name formals result at h = record {
  locals = locals-call (λ other. rank other < rank full) (λ other. ⊥) vars (with_locals head.formals names) h.2;
  body = written-calls (λ other. rank other < rank full) (λ other. ⊥) body (behind_vars vars (with_locals head.formals names)) h.3;
}
if-calls rank (Broken rule p) full head vars body names name formals result at h = record {
  locals = before-call (λ other. rank other < rank full) (λ other. ⊥) vars (with_locals head.formals names) h.2;
  body = met-call (λ other. rank other < rank full) (λ other. ⊥) vars (with_locals head.formals names) h.2;
}

pub fun-calls : (rank : List ℕ → ℕ) (full : List ℕ) (decl : Tree) (names : Names) (f : Fun) → DeclCallsBelow rank full decl → fun_judged full decl names ≡ Fine f → FunCallsBelow rank f
fun-calls rank full (tree.function name formals result vars body at) names f h e =
    let head = split (head_judged (tree.function name formals result vars body at) names) (λ head. Fine (fun_if (names_behind vars (with_locals head.formals names)) full head vars body names)) f e in
    subst (λ x. FunCallsBelow rank x) (fine-is _ f head.2) (if-calls rank (names_behind vars (with_locals head.0.formals names)) full head.0 vars body names name formals result at h)
fun-calls rank full other names f h e = absurd (not-fine unknown_name 0 f e)

abbrev pub DeclsCallBelow : (List ℕ → ℕ) → List FunDecl → Type 0
DeclsCallBelow rank fs = Each (λ f. DeclCallsBelow rank f.name f.decl) fs

with-calls : (rank : List ℕ → ℕ) (j : Judged Fun) (fs : List Fun) → ((f : Fun) → j ≡ Fine f → FunCallsBelow rank f) → Each (FunCallsBelow rank) fs → Each (FunCallsBelow rank) (with_fun j fs)
with-calls rank (Fine f) fs g rest = (g f refl, rest)
with-calls rank (Broken rule at) fs g rest = rest

pub over-call : (rank : List ℕ → ℕ) (fs : List FunDecl) (names : Names) → DeclsCallBelow rank fs → Each (FunCallsBelow rank) (funs_over fs names)
over-call rank [] names d = tt
over-call rank (f ∷ fs) names d = with-calls rank (fun_judged f.name f.decl names) (funs_over fs names) (λ g e. fun-calls rank f.name f.decl names g d.0 e) (over-call rank fs names d.1)

after-call : (rank : List ℕ → ℕ) (n : ℕ) (fs : List FunDecl) (names : Names) → DeclsCallBelow rank fs → Each (FunCallsBelow rank) (funs_after n fs names)
after-call rank zero fs names d = tt
after-call rank (suc n) fs names d = over-call rank fs (record names { funs = funs_after n fs names }) d

-- ---- rounds

if-name : (j : Judged Names) (full : List ℕ) (head : Head) (vars body : Tree) (names : Names) → (fun_if j full head vars body names).name ≡ full
if-name (Fine inner) full head vars body names = refl
if-name (Broken rule at) full head vars body names = refl

pub fun-name : (full : List ℕ) (decl : Tree) (names : Names) (f : Fun) → fun_judged full decl names ≡ Fine f → f.name ≡ full
fun-name full (tree.function name formals result vars body at) names f e =
    let head = split (head_judged (tree.function name formals result vars body at) names) (λ head. Fine (fun_if (names_behind vars (with_locals head.formals names)) full head vars body names)) f e in
    sym (ap (λ x. x.name) (fine-is _ f head.2)) ∙ if-name (names_behind vars (with_locals head.0.formals names)) full head.0 vars body names
fun-name full other names f e = absurd (not-fine unknown_name 0 f e)

-- another name is passed over, found or not
passed : (j : Judged Fun) (fs : List Fun) (full name : List ℕ) → ((f : Fun) → j ≡ Fine f → f.name ≡ full) → bytes_eq full name ≡ false → fun_named name (with_fun j fs) ≡ fun_named name fs
passed (Fine f) fs full name is e = ap (λ b. if b then Some f else fun_named name fs) (ap (λ n. bytes_eq n name) (is f refl) ∙ e)
passed (Broken rule at) fs full name is e = refl

with-same : (j k : Judged Fun) (fs gs : List Fun) (name : List ℕ) → j ≡ k → fun_named name fs ≡ fun_named name gs → fun_named name (with_fun j fs) ≡ fun_named name (with_fun k gs)
with-same j k fs gs name e h = ap (λ i. fun_named name (with_fun i fs)) e ∙ go k
  where
    go : (k : Judged Fun) → fun_named name (with_fun k fs) ≡ fun_named name (with_fun k gs)
    go (Fine f) = ap (λ o. if bytes_eq f.name name then Some f else o) h
    go (Broken rule at) = h

-- what is judged under a name is the same over both names
abbrev JudgedSame : List ℕ → Names → Names → FunDecl → Type 0
JudgedSame name n m f = f.name ≡ name → fun_judged f.name f.decl n ≡ fun_judged f.name f.decl m

over-same : (fs : List FunDecl) (n m : Names) (name : List ℕ) → Each (JudgedSame name n m) fs → fun_named name (funs_over fs n) ≡ fun_named name (funs_over fs m)
over-same [] n m name h = refl
over-same (f ∷ fs) n m name h = go (bytes_eq f.name name) refl (over-same fs n m name h.1)
  where
    go : (b : Bool) → bytes_eq f.name name ≡ b → fun_named name (funs_over fs n) ≡ fun_named name (funs_over fs m)
        → fun_named name (with_fun (fun_judged f.name f.decl n) (funs_over fs n)) ≡ fun_named name (with_fun (fun_judged f.name f.decl m) (funs_over fs m))
    go true e rest = with-same (fun_judged f.name f.decl n) (fun_judged f.name f.decl m) (funs_over fs n) (funs_over fs m) name (h.0 (same-text f.name name e)) rest
    go false e rest =
        passed (fun_judged f.name f.decl n) (funs_over fs n) f.name name (λ g i. fun-name f.name f.decl n g i) e
        ∙ rest
        ∙ sym (passed (fun_judged f.name f.decl m) (funs_over fs m) f.name name (λ g i. fun-name f.name f.decl m g i) e)

abbrev pub FunsFormed : List FunDecl → Type 0
FunsFormed fs = Each (λ f. IsFunFormed f.decl) fs

-- a declaration whose calls are of ranks below k
judged-same : (rank : List ℕ → ℕ) (k : ℕ) (a b : List Fun) (names : Names) (full : List ℕ) (decl : Tree) → IsFunFormed decl → DeclCallsBelow rank full decl → rank full ≤ k
    → FunsSame (λ name. rank name < k) a b → fun_judged full decl (on a names) ≡ fun_judged full decl (on b names)
judged-same rank k a b names full (tree.function name formals result vars body at) formed calls l same =
    fun-same (λ other. rank other < rank full) (λ other. ⊥) a b
    (record { named = λ other i. same.named other (omega arith); given = λ globals other i args left. same.given globals other (omega arith) args left })
    full name formals result vars body at names formed calls.0 calls.1 calls.2 calls.3
judged-same rank k a b names full other formed calls l same = absurd formed

each-judged : (rank : List ℕ → ℕ) (k : ℕ) (a b : List Fun) (names : Names) (fs : List FunDecl) (name : List ℕ) → FunsFormed fs → DeclsCallBelow rank fs → rank name ≤ k
    → FunsSame (λ other. rank other < k) a b → Each (JudgedSame name (on a names) (on b names)) fs
each-judged rank k a b names [] name formed calls l same = tt
each-judged rank k a b names (f ∷ fs) name formed calls l same =
    (λ e. judged-same rank k a b names f.name f.decl formed.0 calls.0 (let i : rank f.name ≡ rank name = ap rank e in omega arith) same, each-judged rank k a b names fs name formed.1 calls.1 l same)

-- after k rounds those of ranks below k are settled
pub settled : (rank : List ℕ → ℕ) (k : ℕ) (fs : List FunDecl) (names : Names) → FunsFormed fs → DeclsCallBelow rank fs → (name : List ℕ) → rank name < k
    → fun_named name (funs_after k fs names) ≡ fun_named name (funs_after (suc k) fs names)
settled rank zero fs names formed calls name l = absurd (omega arith)
settled rank (suc k) fs names formed calls name l =
    let a = funs_after k fs names in
    let b = funs_after (suc k) fs names in
    over-same fs (on a names) (on b names) name
    (each-judged rank k a b names fs name formed calls (omega arith)
    (funs-settled rank k a b (after-call rank k fs names calls) (λ other i. settled rank k fs names formed calls other i)))

-- ---- all functions

all-same : (rank : List ℕ → ℕ) (k : ℕ) (a b : List Fun) (names : Names) (fs : List FunDecl) → FunsFormed fs → DeclsCallBelow rank fs → Each (λ f. rank f.name < suc k) fs
    → FunsSame (λ other. rank other < k) a b → funs_over fs (on a names) ≡ funs_over fs (on b names)
all-same rank k a b names [] formed calls l same = refl
all-same rank k a b names (f ∷ fs) formed calls l same =
    let low : rank f.name < suc k = l.0 in
    ap (λ j. with_fun j (funs_over fs (on a names))) (judged-same rank k a b names f.name f.decl formed.0 calls.0 (omega arith) same)
    ∙ ap (λ gs. with_fun (fun_judged f.name f.decl (on b names)) gs) (all-same rank k a b names fs formed.1 calls.1 l.1 same)

-- as many rounds as there are ranks find all functions as they stay
pub rounds-same : (rank : List ℕ → ℕ) (k : ℕ) (fs : List FunDecl) (names : Names) → FunsFormed fs → DeclsCallBelow rank fs → Each (λ f. rank f.name < k) fs
    → funs_after k fs names ≡ funs_after (suc k) fs names
rounds-same rank zero [] names formed calls l = refl
rounds-same rank zero (f ∷ fs) names formed calls l = absurd (let no : rank f.name < 0 = l.0 in omega arith)
rounds-same rank (suc k) fs names formed calls l =
    let a = funs_after k fs names in
    let b = funs_after (suc k) fs names in
    all-same rank k a b names fs formed calls l
    (funs-settled rank k a b (after-call rank k fs names calls) (λ other i. settled rank k fs names formed calls other i))
