-- Procedures: the bound on open calls never shows if none returns to itself.
use Rattle.std.proofs.Common.{◌≡◌, ℕ, zero, suc, ◌<◌, ℤ, pos, ◌+ℤ◌, Bool, true, false, List, [], ◌∷◌, length, refl, sym, ap, subst, ◌∙◌, arith, Option, None, Some}
use Rattle.std.specs.Prelude.{if◌then◌else◌}
use Rattle.std.specs.Str.{bytes_eq}
use Rattle.std.proofs.lemmas.Slice.Eq.{bytes_eq-Decides}
use Rattle.cal_ast.specs.Tree as tree
use Rattle.cal_ast.specs.Tree.{Tree}
use Rattle.cal_model.specs.Value.{Value, Num, Truth, Items, Values, stored}
use Rattle.cal_model.specs.Outcome.{Out, Gives, Traps, Lacks, Clashes, and_then, turn}
use Rattle.cal_model.specs.Env.{Var, Env, variable, with_local}
use Rattle.cal_model.specs.Expression.{Calls, eval, eval_all, chosen, span, range_of, type_meant}
use Rattle.cal_model.specs.Actor.{Proc}
use Rattle.cal_model.specs.Call.{declared, on_call}
use Rattle.cal_model.specs.Statement.{Runs, while_loop, for_loop, inside, with_vars, exec, exec_all, performed, proc_named, runs_within, runs_of}
use Rattle.cal_model.specs.Sound.{Each, EachCall, ProcCallsBelow, ProcsNeverReturn}
use Rattle.cal_model.specs.Keeping.{made}

-- ---- outcomes

then-same : {A B : Type 0} (o : Out A) (f g : A → ℕ → Out B) → ((a : A) (k : ℕ) → f a k ≡ g a k) → and_then o f ≡ and_then o g
then-same (Gives a k) f g h = h a k
then-same (Traps c) f g h = refl
then-same Lacks f g h = refl
then-same Clashes f g h = refl

both-same : {A B : Type 0} (o p : Out A) (f g : A → ℕ → Out B) → o ≡ p → ((a : A) (k : ℕ) → f a k ≡ g a k) → and_then o f ≡ and_then p g
both-same o p f g e h = ap (λ q. and_then q f) e ∙ then-same p f g h

turn-same : {A : Type 0} (left : ℕ) (f g : ℕ → Out A) → ((k : ℕ) → f k ≡ g k) → turn left f ≡ turn left g
turn-same zero f g h = refl
turn-same (suc left) f g h = h left

chosen-same : {A : Type 0} (v : Value) (f g f' g' : ℕ → Out A) (left : ℕ) → ((k : ℕ) → f k ≡ f' k) → ((k : ℕ) → g k ≡ g' k) → chosen v f g left ≡ chosen v f' g' left
chosen-same (Truth true) f g f' g' left h i = h left
chosen-same (Truth false) f g f' g' left h i = i left
chosen-same (Num z) f g f' g' left h i = refl
chosen-same (Items vs) f g f' g' left h i = refl

range-same : {A : Type 0} (v w : Value) (f g : ℤ → ℤ → Out A) → ((low high : ℤ) → f low high ≡ g low high) → range_of v w f ≡ range_of v w g
range-same (Num a) (Num b) f g h = h a b
range-same v w f g h = refl

while-same : (most : ℕ) (test : Env → ℕ → Out Value) (f g : Env → ℕ → Out Env) (env : Env) (left : ℕ) → ((now : Env) (k : ℕ) → f now k ≡ g now k)
    → while_loop most test f env left ≡ while_loop most test g env left
while-same zero test f g env left h = refl
while-same (suc most) test f g env left h =
    then-same (test env left) _ _ (λ v m. chosen-same v _ _ _ _ m
    (λ k. turn-same k _ _ (λ j. both-same (f env j) (g env j) _ _ (h env j) (λ next i. while-same most test f g next i h)))
    (λ k. refl))

for-same : (n : ℕ) (i : ℤ) (f g : ℤ → Env → ℕ → Out Env) (env : Env) (left : ℕ) → ((j : ℤ) (now : Env) (k : ℕ) → f j now k ≡ g j now k)
    → for_loop n i f env left ≡ for_loop n i g env left
for-same zero i f g env left h = refl
for-same (suc n) i f g env left h =
    turn-same left _ _ (λ m. both-same (f i env m) (g i env m) _ _ (h i env m) (λ next k. for-same n (i +ℤ pos 1) f g next k h))

inside-same : (env inner : Env) (f g : Env → ℕ → Out Env) (left : ℕ) → ((now : Env) (k : ℕ) → f now k ≡ g now k) → inside env inner f left ≡ inside env inner g left
inside-same env inner f g left h = both-same (f inner left) (g inner left) _ _ (h inner left) (λ next k. refl)

-- ---- statements

-- over procedures that do the same where they are called, statements do the same
module _ (P Q : List ℕ → Type 0) (calls : Calls) (r s : Runs) (same : (globals : List Var) (name : List ℕ) → Q name → (args : Values) (left : ℕ) → r globals name args left ≡ s globals name args left) where
  mutual
    exec-same : (t : Tree) (env : Env) (left : ℕ) → EachCall P Q t → exec t calls r env left ≡ exec t calls s env left
    exec-same (tree.assign (tree.ident name place) places value at) env left c = refl
    exec-same (tree.call_stmt (tree.ident name place) args at) env left c =
        then-same (eval_all args calls env left) _ _ (λ vs m. turn-same m _ _ (λ k. both-same (r env.globals name vs k) (s env.globals name vs k) _ _ (same env.globals name c.0 vs k) (λ globals j. refl)))
    exec-same (tree.if_stmt test first other at) env left c =
        then-same (eval test calls env left) _ _ (λ v m. chosen-same v _ _ _ _ m (λ k. all-same first env k c.1) (λ k. all-same other env k c.2))
    exec-same (tree.while_stmt test body at) env left c =
        while-same (suc left) (λ now k. eval test calls now k) (λ now k. exec_all body calls r now k) (λ now k. exec_all body calls s now k) env left (λ now k. all-same body now k c.1)
    exec-same (tree.foreach_stmt shape (tree.ident name place) from to body at) env left c =
        then-same (type_meant shape calls env left) _ _ (λ t h.
        then-same (eval from calls env h) _ _ (λ a j.
        then-same (eval to calls env j) _ _ (λ b k.
        range-same a b _ _ (λ low high.
        for-same (span low high) low _ _ env k (λ i now m.
        inside-same now (with_local (variable name t false (stored t (Num i))) now) (λ inner n. exec_all body calls r inner n) (λ inner n. exec_all body calls s inner n) m (λ inner n. all-same body inner n c.3))))))
    exec-same (tree.block vars body at) env left c =
        then-same (with_vars vars calls env left) _ _ (λ inner m.
        inside-same env inner (λ now k. exec_all body calls r now k) (λ now k. exec_all body calls s now k) m (λ now k. all-same body now k c.1))
    exec-same other env left c = refl

    all-same : (t : Tree) (env : Env) (left : ℕ) → EachCall P Q t → exec_all t calls r env left ≡ exec_all t calls s env left
    all-same tree.nil env left c = refl
    all-same (tree.cons t rest) env left c =
        both-same (exec t calls r env left) (exec t calls s env left) _ _ (exec-same t env left c.0) (λ next m. all-same rest next m c.1)
    all-same tree.absent env left c = refl
    all-same (tree.present body) env left c = all-same body env left c
    all-same other env left c = refl

  performed-same : (p : Proc) (globals : List Var) (args : Values) (left : ℕ) → EachCall P Q p.body → performed p calls r globals args left ≡ performed p calls s globals args left
  performed-same p globals args left c =
      then-same (on_call globals p.formals args left) _ _ (λ entry h.
      then-same (declared p.locals calls entry h) _ _ (λ env m.
      both-same (exec_all p.body calls r env m) (exec_all p.body calls s env m) _ _ (all-same p.body env m c) (λ last k. refl)))

-- ---- the bound on open calls

abbrev any_name : List ℕ → Type 0
any_name name = Unit {0}

-- what holds of each procedure holds of the one that is named, which has the name
pub named-proc : (F : Proc → Type 0) (name : List ℕ) (ps : List Proc) (p : Proc) → Each F ps → proc_named name ps ≡ Some p → F p × (p.name ≡ name)
named-proc F name [] p h e = let no : None ≡ Some p = e in absurd (grind arith)
named-proc F name (q ∷ qs) p h e = go (bytes_eq q.name name) refl e (named-proc F name qs p h.1)
  where
    go : (b : Bool) → bytes_eq q.name name ≡ b → (if b then Some q else proc_named name qs) ≡ Some p → (proc_named name qs ≡ Some p → F p × (p.name ≡ name)) → F p × (p.name ≡ name)
    go true s i rest = let same : q ≡ p = cc in subst (λ k. F k × (k.name ≡ name)) same (h.0, (bytes_eq-Decides q.name name).0 s)
    go false s i rest = rest i

abbrev made_by : Calls → Runs → List Var → Values → ℕ → Option Proc → Out (List Var)
made_by calls runs globals args left None = Lacks
made_by calls runs globals args left (Some p) = performed p calls runs globals args left

-- if procedures have ranks, it doesn't count how many more calls than its rank may be open at a procedure
runs-same : (n m : ℕ) (procs : List Proc) (calls : Calls) (rank : List ℕ → ℕ) → Each (ProcCallsBelow rank) procs
    → (globals : List Var) (name : List ℕ) → rank name < n → rank name < m → (args : Values) (left : ℕ) → runs_within n procs calls globals name args left ≡ runs_within m procs calls globals name args left
runs-same zero m procs calls rank below globals name h i args left = absurd (omega arith)
runs-same (suc n) zero procs calls rank below globals name h i args left = absurd (omega arith)
runs-same (suc n) (suc m) procs calls rank below globals name h i args left =
    go (proc_named name procs) refl (λ inner other p q vs k. runs-same n m procs calls rank below inner other p q vs k)
  where
    go : (o : Option Proc) → proc_named name procs ≡ o
        → ((inner : List Var) (other : List ℕ) → rank other < n → rank other < m → (vs : Values) (k : ℕ) → runs_within n procs calls inner other vs k ≡ runs_within m procs calls inner other vs k)
        → made_by calls (runs_within n procs calls) globals args left o ≡ made_by calls (runs_within m procs calls) globals args left o
    go None e less = refl
    go (Some p) e less =
        let is = named-proc (ProcCallsBelow rank) name procs p below e in
        let same : rank p.name ≡ rank name = ap rank is.1 in
        performed-same any_name (λ other. rank other < rank p.name) calls (runs_within n procs calls) (runs_within m procs calls)
        (λ inner other q vs k. less inner other (omega arith) (omega arith) vs k) p globals args left is.0.body

one-less : (n : ℕ) (procs : List Proc) (calls : Calls) (globals : List Var) (name : List ℕ) (args : Values) (left : ℕ) (never : ProcsNeverReturn procs) → length procs ≡ suc n
    → (o : Option Proc) → proc_named name procs ≡ o → made_by calls (runs_within n procs calls) globals args left o ≡ made_by calls (runs_within (suc n) procs calls) globals args left o
one-less n procs calls globals name args left never h None e = refl
one-less n procs calls globals name args left never h (Some p) e =
    let is = named-proc (ProcCallsBelow never.rank) name procs p never.calls e in
    let within = named-proc (λ q. never.rank q.name < length procs) name procs p never.in_range e in
    let less : never.rank p.name < suc n = subst (λ k. never.rank p.name < k) h within.0 in
    performed-same any_name (λ other. never.rank other < never.rank p.name) calls (runs_within n procs calls) (runs_within (suc n) procs calls)
    (λ inner other q vs k. runs-same n (suc n) procs calls never.rank never.calls inner other (omega arith) (omega arith) vs k) p globals args left is.0.body

none-named : (name : List ℕ) (ps : List Proc) → length ps ≡ zero → proc_named name ps ≡ None
none-named name [] h = refl
none-named name (q ∷ qs) h = absurd (omega arith)

-- what a procedure makes of the globals is what its body makes of them over all procedures
pub runs-are-performed : (procs : List Proc) (calls : Calls) (globals : List Var) (name : List ℕ) (args : Values) (left : ℕ) → ProcsNeverReturn procs
    → runs_of procs calls globals name args left ≡ made procs calls globals args left (proc_named name procs)
runs-are-performed procs calls globals name args left never = go (length procs) refl
  where
    go : (n : ℕ) → length procs ≡ n → runs_within n procs calls globals name args left ≡ made_by calls (runs_within n procs calls) globals args left (proc_named name procs)
    go zero h = ap (λ o. made_by calls (runs_within zero procs calls) globals args left o) (sym (none-named name procs h))
    go (suc n) h = one-less n procs calls globals name args left never h (proc_named name procs) refl
