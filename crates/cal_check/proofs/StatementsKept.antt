-- Statements do the same once they are written out, wherever the constants mean what they mean in the source.
use Rattle.std.proofs.Common.{◌≡◌, ℕ, zero, suc, ◌-◌, ◌≤◌, ◌+ℤ◌, ℤ, pos, Bool, true, false, ◌||◌, List, [], ◌∷◌, ◌++◌, map, length, drop, refl, sym, ap, subst, ◌∙◌, arith, Option, None, Some}
use Rattle.std.specs.Prelude.{if◌then◌else◌}
use Rattle.std.specs.Str.{bytes_eq}
use Rattle.rvc_base.specs.Rules.{constant_assigned}
use Rattle.cal_ast.specs.Places.{begins}
use Rattle.cal_ast.specs.Tree as tree
use Rattle.cal_ast.specs.Tree.{Tree}
use Rattle.cal_model.specs.Value.{Kind, NumKind, BoolKind, Shape, Value, Num, Truth, Items, Values, kind_of_type, stored}
use Rattle.cal_model.specs.Outcome.{Out, Gives, Traps, Lacks, Clashes, and_then, turn}
use Rattle.cal_model.specs.Env.{Env, Var, assign, assigned, assigned_to, back_to, find, is_among, put, variable, with_local}
use Rattle.cal_model.specs.Expression.{Calls, chosen, eval, eval_all, range_of, span, type_meant}
use Rattle.cal_model.specs.Actor.{Fun, Local, Proc}
use Rattle.cal_model.specs.Call.{calls_of}
use Rattle.cal_model.specs.Statement.{Runs, exec, exec_all, first_of, for_loop, proc_named, while_loop, with_vars}
use Rattle.cal_model.specs.Kinding.{Fine, Known, Names, and_so, arguments_fit, constants, counter, counts, kind, kinds, known_as, meant_by, type_judged, with_known, without}
use Rattle.cal_model.specs.Sound.{Each, EachCall, kind_of_judged}
use Rattle.cal_model.proofs.KindNames.{same-text}
use Rattle.cal_model.proofs.KindValues.{fine-is, split}
use Rattle.cal_check.specs.Constants.{stored_kind}
use Rattle.cal_check.specs.Formed.{AreDeclared, AreFormed, IsFormed, IsOptional}
use Rattle.cal_check.specs.Laws.{AreBare, ConstantsFit}
use Rattle.cal_check.specs.Statements.{assigned_kind, assignment_judged, behind, call_judged, counter_judged, may_be_assigned, names_behind, start_broken, starts_broken, statement_broken, test_judged, var_broken}
use Rattle.cal_check.specs.Violations.{broken, if_fine, unless, while_fine}
use Rattle.cal_check.specs.Written.{behind_vars, statement_written, vars_written, with_inner, written}
use Rattle.cal_check.proofs.Fine.{broken-none, if-none, none-of, stored-is, unless-true}
use Rattle.cal_check.proofs.FittingValues.{GivesSuch}
use Rattle.cal_check.proofs.KeptKinds.{fit-more}
use Rattle.cal_check.proofs.SameCalls.{eval-same, type-same, all-same as evals-same}
use Rattle.cal_check.proofs.SoundLocals.{are-sound, behind-fine}
use Rattle.cal_check.proofs.SoundStatements.{assigned-is, called-is}
use Rattle.cal_check.proofs.ValuesKept.{Below, Extends, MeansNoLess, all-values, arguments-values, const-known, hidden-more, type-values, value-kept}

-- ---- any call

any-call : (t : Tree) → EachCall (λ name. Unit {0}) (λ name. Unit {0}) t
any-call (tree.cons t ts) = (any-call t, any-call ts)
any-call (tree.present t) = any-call t
any-call (tree.call name args at) = (tt, any-call args)
any-call (tree.paren e at) = any-call e
any-call (tree.if_expr test first other at) = (any-call test, any-call first, any-call other)
any-call (tree.list items at) = any-call items
any-call (tree.comp item gens at) = (any-call item, any-call gens)
any-call (tree.gen shape name from to at) = (any-call shape, any-call from, any-call to)
any-call (tree.index base place at) = (any-call base, any-call place)
any-call (tree.prefix op e at) = any-call e
any-call (tree.binary op l r at) = (any-call l, any-call r)
any-call (tree.type_of name args at) = any-call args
any-call (tree.shape_arg name shape) = any-call shape
any-call (tree.value_arg name value) = any-call value
any-call (tree.assign name places value at) = (any-call places, any-call value)
any-call (tree.call_stmt (tree.ident name place) args at) = (tt, any-call args)
any-call (tree.if_stmt test first other at) = (any-call test, any-call first, any-call other)
any-call (tree.while_stmt test body at) = (any-call test, any-call body)
any-call (tree.foreach_stmt shape name from to body at) = (any-call shape, any-call from, any-call to, any-call body)
any-call (tree.block vars body at) = (any-call vars, any-call body)
any-call (tree.var shape name start changes at) = (any-call shape, any-call start)
any-call other = tt

-- ---- outcomes: the same, and what they give is such

abbrev pub Same : {A : Type 0} → (A → Type 0) → Out A → Out A → Type 0
Same P o p = (o ≡ p) × GivesSuch P p

pub same-then : {A B : Type 0} (P : A → Type 0) (Q : B → Type 0) (o p : Out A) (f g : A → ℕ → Out B) → Same P o p → ((a : A) (k : ℕ) → P a → Same Q (f a k) (g a k)) → Same Q (and_then o f) (and_then p g)
same-then {A} {B} P Q o p f g h i = let r = go p h.1 in (ap (λ q. and_then q f) h.0 ∙ r.0, r.1)
  where
    go : (p : Out A) → GivesSuch P p → Same Q (and_then p f) (and_then p g)
    go (Gives a k) x = i a k x
    go (Traps c) x = (refl, tt)
    go Lacks x = (refl, tt)
    go Clashes x = (refl, tt)

-- .. with nothing to say of what they give
such-any : {A : Type 0} (o : Out A) → GivesSuch (λ a. Unit {0}) o
such-any (Gives a k) = tt
such-any (Traps c) = tt
such-any Lacks = tt
such-any Clashes = tt

pub plainly : {A : Type 0} (o p : Out A) → o ≡ p → Same (λ a. Unit {0}) o p
plainly o p e = (e, such-any p)

same-turn : {A : Type 0} (P : A → Type 0) (left : ℕ) (f g : ℕ → Out A) → ((k : ℕ) → Same P (f k) (g k)) → Same P (turn left f) (turn left g)
same-turn P zero f g h = (refl, tt)
same-turn P (suc left) f g h = h left

same-chosen : {A : Type 0} (P : A → Type 0) (v : Value) (f g f' g' : ℕ → Out A) (left : ℕ) → ((k : ℕ) → Same P (f k) (f' k)) → ((k : ℕ) → Same P (g k) (g' k)) → Same P (chosen v f g left) (chosen v f' g' left)
same-chosen P (Truth true) f g f' g' left h i = h left
same-chosen P (Truth false) f g f' g' left h i = i left
same-chosen P (Num z) f g f' g' left h i = (refl, tt)
same-chosen P (Items vs) f g f' g' left h i = (refl, tt)

same-range : {A : Type 0} (P : A → Type 0) (a b : Value) (f g : ℤ → ℤ → Out A) → ((low high : ℤ) → Same P (f low high) (g low high)) → Same P (range_of a b f) (range_of a b g)
same-range P (Num a) (Num b) f g h = h a b
same-range P v w f g h = (refl, tt)

-- ---- environments in which the constants mean what they do in the source

abbrev pub HasConstants : List Known → List Var → Type 0
HasConstants known vars = (name : List ℕ) → MeansNoLess (find name (constants known)) (find name vars)

pub record Holds (names : Names) (env : Env) : Type 0 where
  pub bare : AreBare names.locals
  pub named : map (λ x. x.name) names.locals ≡ map (λ x. x.name) env.locals
  pub constants : HasConstants names.globals env.globals

-- what changes is no constant; functions mean what they do in the source, and what procedures leave has the constants
pub record World (c d : Calls) (runs others : Runs) (globals : List Known) (funs : List Fun) : Type 0 where
  pub rest : Each (λ x. x.changes ≡ true → x.value ≡ None) globals
  pub means : (vars : List Var) → HasConstants globals vars → (name : List ℕ) (args : Values) (left : ℕ) → Below (calls_of funs (constants globals) name args left) (c vars name args left)
  pub calls : (vars : List Var) → HasConstants globals vars → (name : List ℕ) (args : Values) (left : ℕ) → c vars name args left ≡ d vars name args left
  pub performs : (vars : List Var) → HasConstants globals vars → (name : List ℕ) (args : Values) (left : ℕ) → Same (HasConstants globals) (runs vars name args left) (others vars name args left)

heads-are : (a b : List ℕ) (xs ys : List (List ℕ)) → a ∷ xs ≡ b ∷ ys → (a ≡ b) × (xs ≡ ys)
heads-are a b xs ys h = (let e : a ≡ b = cc in e, let f : xs ≡ ys = cc in f)

locals-hide : (xs known : List Known) (zs vars : List Var) → AreBare xs → map (λ x. x.name) xs ≡ map (λ x. x.name) zs → HasConstants known vars → HasConstants (xs ++ known) (zs ++ vars)
locals-hide [] known [] vars b e h name = h name
locals-hide [] known (z ∷ zs) vars b e h name = absurd (cc)
locals-hide (x ∷ xs) known [] vars b e h name = absurd (cc)
locals-hide (x ∷ xs) known (z ∷ zs) vars b e h name =
    let p = heads-are x.name z.name (map (λ y. y.name) xs) (map (λ y. y.name) zs) e in
    let rest = locals-hide xs known zs vars b.1 p.1 h name in
    subst (λ o. MeansNoLess (find name (elim o [ None ↦ without x.name (constants (xs ++ known)) | Some v ↦ record { name = x.name; value = v; kept = None } ∷ constants (xs ++ known) ])) (find name (z ∷ zs ++ vars)))
    (sym b.0)
    (subst (λ t. MeansNoLess (find name (without x.name (constants (xs ++ known)))) (if bytes_eq t name then Some z.value else find name (zs ++ vars))) p.0
    (hidden-more name x.name (constants (xs ++ known)) z.value (find name (zs ++ vars)) rest))

module _ (c d : Calls) (runs others : Runs) where
  extends : (n : Names) (env : Env) → World c d runs others n.globals n.funs → Holds n env → Extends n c env
  extends n env w h = record {
    names = locals-hide n.locals n.globals env.locals env.globals h.bare h.named h.constants;
    calls = λ name args left. w.means env.globals h.constants name args left;
  }

  -- ---- expressions

  pub value-same : (e : Tree) (n : Names) (k : Kind) (env : Env) (left : ℕ) → ConstantsFit n → World c d runs others n.globals n.funs → Holds n env → kind e n ≡ Fine k
      → eval (written e n) c env left ≡ eval e d env left
  value-same e n k env left fit w h f =
      value-kept e n k c env left fit (extends n env w h) f
      ∙ eval-same (λ name. Unit {0}) (λ name. Unit {0}) c d e env left (λ name u args m. w.calls env.globals h.constants name args m) (any-call e)

  pub all-same : (es : Tree) (n : Names) (ks : List Kind) (env : Env) (left : ℕ) → ConstantsFit n → World c d runs others n.globals n.funs → Holds n env → kinds es n ≡ Fine ks
      → eval_all (written es n) c env left ≡ eval_all es d env left
  all-same es n ks env left fit w h f =
      all-values es n ks c env left fit (extends n env w h) f
      ∙ evals-same (λ name. Unit {0}) (λ name. Unit {0}) c d es env left (λ name u args m. w.calls env.globals h.constants name args m) (any-call es)

  arguments-same : (args : Tree) (fs : List Local) (n : Names) (b : Bool) (env : Env) (left : ℕ) → ConstantsFit n → World c d runs others n.globals n.funs → Holds n env → arguments_fit args fs n ≡ Fine b
      → eval_all (written args n) c env left ≡ eval_all args d env left
  arguments-same args fs n b env left fit w h f =
      arguments-values args fs n b c env left fit (extends n env w h) f
      ∙ evals-same (λ name. Unit {0}) (λ name. Unit {0}) c d args env left (λ name u vs m. w.calls env.globals h.constants name vs m) (any-call args)

  shape-same : (shape : Tree) (n : Names) (t : Shape) (env : Env) (left : ℕ) → ConstantsFit n → World c d runs others n.globals n.funs → Holds n env → type_judged shape n ≡ Fine t
      → type_meant (written shape n) c env left ≡ type_meant shape d env left
  shape-same shape n t env left fit w h f =
      type-values shape n t c env left fit (extends n env w h) f
      ∙ type-same (λ name. Unit {0}) (λ name. Unit {0}) c d shape env left (λ name u args m. w.calls env.globals h.constants name args m) (any-call shape)

  pub stored-same : (k : Kind) (e : Tree) (n : Names) (env : Env) (left : ℕ) → ConstantsFit n → World c d runs others n.globals n.funs → Holds n env → broken (stored_kind k e n) ≡ []
      → eval (written e n) c env left ≡ eval e d env left
  stored-same k e n env left fit w h b =
      let l = broken-none (stored_kind k e n) b in
      value-same e n k env left fit w h (stored-is k l.0 e n l.1)

-- ---- assignments

assigned-named : (xs : List Var) (name : List ℕ) (places : Values) (v : Value) (left : ℕ) → GivesSuch (λ ys. map (λ x. x.name) xs ≡ map (λ x. x.name) ys) (assigned xs name places v left)
assigned-named [] name places v left = tt
assigned-named (x ∷ xs) name places v left = go (bytes_eq x.name name) (assigned-named xs name places v left)
  where
    here : (o : Out Var) → GivesSuch (λ y. x.name ≡ y.name) o → GivesSuch (λ ys. map (λ z. z.name) (x ∷ xs) ≡ map (λ z. z.name) ys) (and_then o (λ y k. Gives (y ∷ xs) k))
    here (Gives y k) e = ap (λ n. n ∷ map (λ z. z.name) xs) e
    here (Traps t) e = tt
    here Lacks e = tt
    here Clashes e = tt

    to : (o : Option Shape) → GivesSuch (λ y. x.name ≡ y.name) (elim o [ None ↦ Clashes | Some t ↦ and_then (put t x.value places v left) (λ w k. Gives (record x { value = w }) k) ])
    to None = tt
    to (Some t) = after (put t x.value places v left)
      where
        after : (o : Out Value) → GivesSuch (λ y. x.name ≡ y.name) (and_then o (λ w k. Gives (record x { value = w }) k))
        after (Gives w k) = refl
        after (Traps t) = tt
        after Lacks = tt
        after Clashes = tt

    later : (o : Out (List Var)) → GivesSuch (λ ys. map (λ z. z.name) xs ≡ map (λ z. z.name) ys) o → GivesSuch (λ ys. map (λ z. z.name) (x ∷ xs) ≡ map (λ z. z.name) ys) (and_then o (λ ys k. Gives (x ∷ ys) k))
    later (Gives ys k) e = ap (λ ns. x.name ∷ ns) e
    later (Traps t) e = tt
    later Lacks e = tt
    later Clashes e = tt

    go : (b : Bool) → GivesSuch (λ ys. map (λ z. z.name) xs ≡ map (λ z. z.name) ys) (assigned xs name places v left)
        → GivesSuch (λ ys. map (λ z. z.name) (x ∷ xs) ≡ map (λ z. z.name) ys)
        (if b then and_then (assigned_to x places v left) (λ y k. Gives (y ∷ xs) k) else and_then (assigned xs name places v left) (λ ys k. Gives (x ∷ ys) k))
    go true rest = here (assigned_to x places v left) (to x.kept)
    go false rest = later (assigned xs name places v left) rest

-- other names keep what they mean
others-stay : (xs ys : List Var) (name : List ℕ) (places : Values) (v : Value) (left k : ℕ) → assigned xs name places v left ≡ Gives ys k → (n : List ℕ) → bytes_eq name n ≡ false → find n ys ≡ find n xs
others-stay [] ys name places v left k e n f = absurd (cc)
others-stay (x ∷ xs) ys name places v left k e n f = go (bytes_eq x.name name) refl e (λ zs j h. others-stay xs zs name places v left j h n f)
  where
    to : (o : Option Shape) (y : Var) (m : ℕ) → elim o [ None ↦ Clashes | Some t ↦ and_then (put t x.value places v left) (λ w j. Gives (record x { value = w }) j) ] ≡ Gives y m → x.name ≡ y.name
    to None y m h = absurd (cc)
    to (Some t) y m h = after (put t x.value places v left) h
      where
        after : (o : Out Value) → and_then o (λ w j. Gives (record x { value = w }) j) ≡ Gives y m → x.name ≡ y.name
        after (Gives w j) i = let s : record x { value = w } ≡ y = cc in ap (λ z. z.name) s
        after (Traps t) i = absurd (cc)
        after Lacks i = absurd (cc)
        after Clashes i = absurd (cc)

    here : bytes_eq x.name name ≡ true → (o : Out Var) → assigned_to x places v left ≡ o → and_then o (λ y j. Gives (y ∷ xs) j) ≡ Gives ys k → find n ys ≡ (if bytes_eq x.name n then Some x.value else find n xs)
    here t (Gives y j) h i =
        let s : y ∷ xs ≡ ys = cc in
        let same : x.name ≡ y.name = to x.kept y j h in
        let no : bytes_eq x.name n ≡ false = ap (λ m. bytes_eq m n) (same-text x.name name t) ∙ f in
        ap (λ zs. find n zs) (sym s) ∙ ap (λ b. if b then Some y.value else find n xs) (ap (λ m. bytes_eq m n) (sym same) ∙ no)
        ∙ sym (ap (λ b. if b then Some x.value else find n xs) no)
    here t (Traps g) h i = absurd (cc)
    here t Lacks h i = absurd (cc)
    here t Clashes h i = absurd (cc)

    later : (o : Out (List Var)) → assigned xs name places v left ≡ o → and_then o (λ zs j. Gives (x ∷ zs) j) ≡ Gives ys k
        → ((zs : List Var) (j : ℕ) → assigned xs name places v left ≡ Gives zs j → find n zs ≡ find n xs) → find n ys ≡ (if bytes_eq x.name n then Some x.value else find n xs)
    later (Gives zs j) h i rest =
        let s : x ∷ zs ≡ ys = cc in
        ap (λ us. find n us) (sym s) ∙ ap (λ o. if bytes_eq x.name n then Some x.value else o) (rest zs j h)
    later (Traps g) h i rest = absurd (cc)
    later Lacks h i rest = absurd (cc)
    later Clashes h i rest = absurd (cc)

    go : (b : Bool) → bytes_eq x.name name ≡ b
        → (if b then and_then (assigned_to x places v left) (λ y j. Gives (y ∷ xs) j) else and_then (assigned xs name places v left) (λ zs j. Gives (x ∷ zs) j)) ≡ Gives ys k
        → ((zs : List Var) (j : ℕ) → assigned xs name places v left ≡ Gives zs j → find n zs ≡ find n xs) → find n ys ≡ (if bytes_eq x.name n then Some x.value else find n xs)
    go true t h rest = here t (assigned_to x places v left) refl h
    go false t h rest = later (assigned xs name places v left) refl h rest

-- ---- the name that is assigned is no constant

not-hidden : (name : List ℕ) (xs known : List Known) (zs : List Var) → map (λ x. x.name) xs ≡ map (λ x. x.name) zs → is_among name zs ≡ false → known_as name (xs ++ known) ≡ known_as name known
not-hidden name [] known zs e h = refl
not-hidden name (x ∷ xs) known [] e h = absurd (cc)
not-hidden name (x ∷ xs) known (z ∷ zs) e h =
    let p = heads-are x.name z.name (map (λ y. y.name) xs) (map (λ y. y.name) zs) e in
    go (bytes_eq z.name name) refl h (λ i. not-hidden name xs known zs p.1 i) p.0
  where
    go : (b : Bool) → bytes_eq z.name name ≡ b → (b || is_among name zs) ≡ false → (is_among name zs ≡ false → known_as name (xs ++ known) ≡ known_as name known) → x.name ≡ z.name
        → (if bytes_eq x.name name then Some x else known_as name (xs ++ known)) ≡ known_as name known
    go true f i rest s = absurd (cc)
    go false f i rest s = ap (λ b. if b then Some x else known_as name (xs ++ known)) (ap (λ t. bytes_eq t name) s ∙ f) ∙ rest i

at-rest : (name : List ℕ) (known : List Known) (x : Known) → Each (λ y. y.changes ≡ true → y.value ≡ None) known → known_as name known ≡ Some x → x.changes ≡ true → x.value ≡ None
at-rest name [] x r e t = absurd (cc)
at-rest name (y ∷ ys) x r e t = go (bytes_eq y.name name) e (λ i. at-rest name ys x r.1 i t)
  where
    go : (b : Bool) → (if b then Some y else known_as name ys) ≡ Some x → (known_as name ys ≡ Some x → x.value ≡ None) → x.value ≡ None
    go true i rest = let s : y ≡ x = cc in subst (λ z. z.value ≡ None) s (r.0 (ap (λ z. z.changes) s ∙ t))
    go false i rest = rest i

no-constant : (name : List ℕ) (known : List Known) (x : Known) → Each (λ y. y.changes ≡ true → y.value ≡ None) known → known_as name known ≡ Some x → x.changes ≡ true → find name (constants known) ≡ None
no-constant name known x r e t = go (find name (constants known)) refl
  where
    go : (o : Option Value) → find name (constants known) ≡ o → find name (constants known) ≡ None
    go None f = f
    go (Some v) f =
        let y = const-known name known v f in
        let s : y.0 ≡ x = (let i : Some y.0 ≡ Some x = sym y.1 ∙ e in cc) in
        absurd (let w : None ≡ Some v = sym (ap (λ z. z.value) s ∙ at-rest name known x r e t) ∙ y.2 in cc)

assigned-keeps : (known : List Known) (xs : List Var) (name : List ℕ) (places : Values) (v : Value) (left : ℕ) → find name (constants known) ≡ None → HasConstants known xs → GivesSuch (HasConstants known) (assigned xs name places v left)
assigned-keeps known xs name places v left none has = go (assigned xs name places v left) refl
  where
    go : (o : Out (List Var)) → assigned xs name places v left ≡ o → GivesSuch (HasConstants known) o
    go (Gives ys k) e = λ n. at n (bytes_eq name n) refl
      where
        at : (n : List ℕ) (b : Bool) → bytes_eq name n ≡ b → MeansNoLess (find n (constants known)) (find n ys)
        at n true f = subst (λ o. MeansNoLess o (find n ys)) (sym (ap (λ t. find t (constants known)) (sym (same-text name n f)) ∙ none)) tt
        at n false f = subst (λ o. MeansNoLess (find n (constants known)) o) (sym (others-stay xs ys name places v left k e n f)) (has n)
    go (Traps t) e = tt
    go Lacks e = tt
    go Clashes e = tt

-- an assignment keeps the constants
assign-holds : (n : Names) (env : Env) (name : List ℕ) (places : Values) (v : Value) (left : ℕ) (x : Known) → Each (λ y. y.changes ≡ true → y.value ≡ None) n.globals → Holds n env
    → meant_by name n ≡ Some x → x.changes ≡ true → GivesSuch (Holds n) (assign env name places v left)
assign-holds n env name places v left x r h m t = go (is_among name env.locals) refl
  where
    local : (o : Out (List Var)) → GivesSuch (λ ys. map (λ z. z.name) env.locals ≡ map (λ z. z.name) ys) o → GivesSuch (Holds n) (and_then o (λ xs k. Gives (record env { locals = xs }) k))
    local (Gives ys k) e = record { bare = h.bare; named = h.named ∙ e; constants = h.constants }
    local (Traps t) e = tt
    local Lacks e = tt
    local Clashes e = tt

    global : (o : Out (List Var)) → GivesSuch (HasConstants n.globals) o → GivesSuch (Holds n) (and_then o (λ xs k. Gives (record env { globals = xs }) k))
    global (Gives ys k) e = record { bare = h.bare; named = h.named; constants = e }
    global (Traps t) e = tt
    global Lacks e = tt
    global Clashes e = tt

    go : (b : Bool) → is_among name env.locals ≡ b
        → GivesSuch (Holds n) (if b then and_then (assigned env.locals name places v left) (λ xs k. Gives (record env { locals = xs }) k)
        else and_then (assigned env.globals name places v left) (λ xs k. Gives (record env { globals = xs }) k))
    go true e = local (assigned env.locals name places v left) (assigned-named env.locals name places v left)
    go false e =
        let known : known_as name n.globals ≡ Some x = sym (not-hidden name n.locals n.globals env.locals h.named e) ∙ m in
        global (assigned env.globals name places v left) (assigned-keeps n.globals env.globals name places v left (no-constant name n.globals x r known t) h.constants)

-- ---- parts inside which there are more locals

pub local-holds : (n : Names) (env : Env) (x : Known) (z : Var) → x.value ≡ None → x.name ≡ z.name → Holds n env → Holds (with_known x n) (with_local z env)
local-holds n env x z e f h = record { bare = (e, h.bare); named = ap (λ t. t ∷ map (λ y. y.name) n.locals) f ∙ ap (λ ts. z.name ∷ ts) h.named; constants = h.constants }

counted : (xs : List Known) (zs : List Var) → map (λ x. x.name) xs ≡ map (λ x. x.name) zs → length xs ≡ length zs
counted [] [] e = refl
counted [] (z ∷ zs) e = absurd (cc)
counted (x ∷ xs) [] e = absurd (cc)
counted (x ∷ xs) (z ∷ zs) e = ap suc (counted xs zs (heads-are x.name z.name (map (λ y. y.name) xs) (map (λ y. y.name) zs) e).1)

append-counted : (ms ns : List Known) → length ns ≤ length (ms ++ ns)
append-counted [] ns = omega arith
append-counted (m ∷ ms) ns = let h = append-counted ms ns in omega arith

back-named : (ms ns : List Known) (zs : List Var) (k : ℕ) → length ns ≡ k → map (λ x. x.name) (ms ++ ns) ≡ map (λ x. x.name) zs → map (λ x. x.name) ns ≡ map (λ x. x.name) (drop (length zs - k) zs)
back-named [] ns zs k c e =
    let l : length ns ≡ length zs = counted ns zs e in
    let none : length zs - k ≡ 0 = omega arith in
    e ∙ ap (λ i. map (λ x. x.name) (drop i zs)) (sym none)
back-named (m ∷ ms) ns [] k c e = absurd (cc)
back-named (m ∷ ms) ns (z ∷ zs) k c e =
    let p = heads-are m.name z.name (map (λ y. y.name) (ms ++ ns)) (map (λ y. y.name) zs) e in
    let l : length (ms ++ ns) ≡ length zs = counted (ms ++ ns) zs p.1 in
    let more = append-counted ms ns in
    let one : suc (length zs) - k ≡ suc (length zs - k) = omega arith in
    back-named ms ns zs k c p.1 ∙ ap (λ i. map (λ x. x.name) (drop i (z ∷ zs))) (sym one)

-- names inside are those outside with more locals
pub record IsDeeper (inner n : Names) : Type 0 where
  pub more : List Known
  pub locals : inner.locals ≡ more ++ n.locals
  pub globals : inner.globals ≡ n.globals
  pub funs : inner.funs ≡ n.funs

back-holds : (inner n : Names) (env next : Env) → IsDeeper inner n → Holds n env → Holds inner next → Holds n (back_to env next)
back-holds inner n env next deep h i = record {
  bare = h.bare;
  named = back-named deep.more n.locals next.locals (length env.locals) (counted n.locals env.locals h.named) (ap (λ xs. map (λ x. x.name) xs) (sym deep.locals) ∙ i.named);
  constants = subst (λ known. HasConstants known next.globals) deep.globals i.constants;
}

-- ---- statements

pub behind-deeper : (vars : Tree) (n inner : Names) → AreDeclared vars → names_behind vars n ≡ Fine inner → IsDeeper inner n
behind-deeper tree.nil n inner f h = subst (λ x. IsDeeper x n) (fine-is n inner h) (record { more = []; locals = refl; globals = refl; funs = refl })
behind-deeper (tree.cons (tree.var shape (tree.ident name place) start changes at) vs) n inner f h =
    let v : Tree = tree.var shape (tree.ident name place) start changes at in
    let b = split (behind (type_judged shape n) v n) (λ m. names_behind vs m) inner h in
    let t = behind-fine (type_judged shape n) v n b.0 b.1 in
    let next : Names = with_inner v n in
    let rest = behind-deeper vs next inner f.1 (subst (λ m. names_behind vs m ≡ Fine inner) (sym t.2) b.2) in
    record {
      more = rest.more ++ record { name = name; kind = kind_of_judged (type_judged shape n); value = None; changes = changes } ∷ [];
      locals = rest.locals ∙ moved rest.more (record { name = name; kind = kind_of_judged (type_judged shape n); value = None; changes = changes }) n.locals;
      globals = rest.globals;
      funs = rest.funs;
    }
  where
    moved : (xs : List Known) (y : Known) (ys : List Known) → xs ++ y ∷ ys ≡ (xs ++ y ∷ []) ++ ys
    moved [] y ys = refl
    moved (x ∷ xs) y ys = ap (λ zs. x ∷ zs) (moved xs y ys)
behind-deeper other n inner f h = absurd f

module _ (c d : Calls) (runs others : Runs) where
  first-same : (start : Tree) (t s : Shape) (n : Names) (env : Env) (left : ℕ) → IsOptional start → ConstantsFit n → World c d runs others n.globals n.funs → Holds n env → start_broken (Fine t) start n ≡ []
      → first_of s (written start n) c env left ≡ first_of s start d env left
  first-same tree.absent t s n env left o fit w h b = refl
  first-same (tree.present e) t s n env left o fit w h b = ap (λ x. and_then x (λ v k. Gives (stored s v) k)) (stored-same c d runs others (kind_of_type t) e n env left fit w h b)
  first-same other t s n env left o fit w h b = absurd o

  vars-same : (vars : Tree) (n inner : Names) (env : Env) (left : ℕ) → AreDeclared vars → ConstantsFit n → World c d runs others n.globals n.funs → Holds n env → names_behind vars n ≡ Fine inner
      → starts_broken vars n ≡ [] → Same (Holds inner) (with_vars (vars_written vars n) c env left) (with_vars vars d env left)
  vars-same tree.nil n inner env left f fit w h e b = (refl, subst (λ m. Holds m env) (fine-is n inner e) h)
  vars-same (tree.cons (tree.var shape (tree.ident name place) start changes at) vs) n inner env left f fit w h e b =
      let v : Tree = tree.var shape (tree.ident name place) start changes at in
      let i = split (behind (type_judged shape n) v n) (λ m. names_behind vs m) inner e in
      let t = behind-fine (type_judged shape n) v n i.0 i.1 in
      let x : Known = record { name = name; kind = kind_of_judged (type_judged shape n); value = None; changes = changes } in
      let parts = none-of (var_broken v n) (while_fine (behind (type_judged shape n) v n) (λ m. starts_broken vs m)) b in
      let mine : start_broken (Fine t.0) start n ≡ [] = ap (λ j. start_broken j start n) (sym t.1) ∙ parts.0 in
      let rest : starts_broken vs i.0 ≡ [] = ap (λ j. while_fine j (λ m. starts_broken vs m)) (sym i.1) ∙ parts.1 in
      same-then (λ s. Unit {0}) (Holds inner) (type_meant (written shape n) c env left) (type_meant shape d env left) _ _ (plainly _ _ (shape-same c d runs others shape n t.0 env left fit w h t.1)) (λ s m u.
      same-then (λ y. Unit {0}) (Holds inner) (first_of s (written start n) c env m) (first_of s start d env m) _ _ (plainly _ _ (first-same start t.0 s n env m f.0 fit w h mine)) (λ y k u.
      vars-same vs (with_known x n) inner (with_local (variable name s changes y) env) k f.1 (fit-more x n refl fit) w (local-holds n env x (variable name s changes y) refl refl h)
      (subst (λ m. names_behind vs m ≡ Fine inner) (sym t.2) i.2) (subst (λ m. starts_broken vs m ≡ []) (sym t.2) rest)))
  vars-same other n inner env left f fit w h e b = absurd f

  while-same : (n : Names) (most : ℕ) (test tested : Env → ℕ → Out Value) (body done : Env → ℕ → Out Env) (env : Env) (left : ℕ)
      → ((now : Env) (k : ℕ) → Holds n now → test now k ≡ tested now k) → ((now : Env) (k : ℕ) → Holds n now → Same (Holds n) (body now k) (done now k))
      → Holds n env → Same (Holds n) (while_loop most test body env left) (while_loop most tested done env left)
  while-same n zero test tested body done env left t b h = (refl, tt)
  while-same n (suc most) test tested body done env left t b h =
      same-then (λ v. Unit {0}) (Holds n) (test env left) (tested env left) _ _ (plainly _ _ (t env left h)) (λ v m u.
      same-chosen (Holds n) v _ _ _ _ m
      (λ k. same-turn (Holds n) k _ _ (λ j. same-then (Holds n) (Holds n) (body env j) (done env j) _ _ (b env j h) (λ next i hn. while-same n most test tested body done next i t b hn)))
      (λ k. (refl, h)))

  for-same : (n : Names) (count : ℕ) (i : ℤ) (body done : ℤ → Env → ℕ → Out Env) (env : Env) (left : ℕ) → ((at : ℤ) (now : Env) (k : ℕ) → Holds n now → Same (Holds n) (body at now k) (done at now k))
      → Holds n env → Same (Holds n) (for_loop count i body env left) (for_loop count i done env left)
  for-same n zero i body done env left b h = (refl, h)
  for-same n (suc count) i body done env left b h =
      same-turn (Holds n) left _ _ (λ m. same-then (Holds n) (Holds n) (body i env m) (done i env m) _ _ (b i env m h) (λ next k hn. for-same n count (i +ℤ pos 1) body done next k b hn))

  mutual
    pub statement-same : (s : Tree) (procs : List Proc) (n : Names) (env : Env) (left : ℕ) → IsFormed s → ConstantsFit n → World c d runs others n.globals n.funs → Holds n env → statement_broken s procs n ≡ []
        → Same (Holds n) (exec (statement_written s n) c runs env left) (exec s d others env left)
    statement-same (tree.assign (tree.ident name place) places value at) procs n env left f fit w h b =
        let parts = none-of (broken (assignment_judged name place places value n)) (may_be_assigned (meant_by name n) at) b in
        let j = broken-none (assignment_judged name place places value n) parts.0 in
        let ks = split (kinds places n) (λ ks. and_so (assigned_kind (meant_by name n) ks place) (λ k. stored_kind k value n)) j.0 j.1 in
        let k = split (assigned_kind (meant_by name n) ks.0 place) (λ k. stored_kind k value n) j.0 ks.2 in
        let x = assigned-is (meant_by name n) ks.0 place k.0 k.1 in
        let changes : unless x.0.changes constant_assigned at ≡ [] = ap (λ o. may_be_assigned o at) (sym x.1) ∙ parts.1 in
        same-then (λ is. Unit {0}) (Holds n) (eval_all (written places n) c env left) (eval_all places d env left) _ _ (plainly _ _ (all-same c d runs others places n ks.0 env left fit w h ks.1)) (λ is m u.
        same-then (λ v. Unit {0}) (Holds n) (eval (written value n) c env m) (eval value d env m) _ _
        (plainly _ _ (value-same c d runs others value n k.0 env m fit w h (stored-is k.0 j.0 value n k.2))) (λ v i u.
        (refl, assign-holds n env name is v i x.0 w.rest h x.1 (unless-true x.0.changes constant_assigned at changes))))
    statement-same (tree.call_stmt (tree.ident name place) args at) procs n env left f fit w h b =
        let j = broken-none (call_judged (proc_named name procs) args at n) b in
        let p = called-is (proc_named name procs) args at n j.0 j.1 in
        same-then (λ vs. Unit {0}) (Holds n) (eval_all (written args n) c env left) (eval_all args d env left) _ _ (plainly _ _ (arguments-same c d runs others args p.0.formals n true env left fit w h p.2)) (λ vs m u.
        same-turn (Holds n) m _ _ (λ k.
        same-then (HasConstants n.globals) (Holds n) (runs env.globals name vs k) (others env.globals name vs k) _ _ (w.performs env.globals h.constants name vs k) (λ gs i has.
        (refl, record { bare = h.bare; named = h.named; constants = has }))))
    statement-same (tree.if_stmt test first other at) procs n env left f fit w h b =
        let parts = none-of (broken (test_judged test n)) (statement_broken first procs n ++ statement_broken other procs n) b in
        let two = none-of (statement_broken first procs n) (statement_broken other procs n) parts.1 in
        same-then (λ v. Unit {0}) (Holds n) (eval (written test n) c env left) (eval test d env left) _ _ (plainly _ _ (stored-same c d runs others BoolKind test n env left fit w h parts.0)) (λ v m u.
        same-chosen (Holds n) v _ _ _ _ m (λ k. statements-same first procs n env k f.0 fit w h two.0) (λ k. statements-same other procs n env k f.1 fit w h two.1))
    statement-same (tree.while_stmt test body at) procs n env left f fit w h b =
        let parts = none-of (broken (test_judged test n)) (statement_broken body procs n) b in
        while-same n (suc left) (λ now k. eval (written test n) c now k) (λ now k. eval test d now k) (λ now k. exec_all (statement_written body n) c runs now k) (λ now k. exec_all body d others now k) env left
        (λ now k hn. stored-same c d runs others BoolKind test n now k fit w hn parts.0) (λ now k hn. statements-same body procs n now k f fit w hn parts.1) h
    statement-same (tree.foreach_stmt shape (tree.ident name place) from to body at) procs n env left f fit w h b =
        let p = none-of (broken (counter_judged shape n)) _ b in
        let q = none-of (broken (stored_kind NumKind from n)) _ p.1 in
        let r = none-of (broken (stored_kind NumKind to n)) _ q.1 in
        let j = broken-none (counter_judged shape n) p.0 in
        let t = split (type_judged shape n) (λ t. counts t (begins shape)) j.0 j.1 in
        let inner : Names = with_known (counter name) n in
        let deep : IsDeeper inner n = record { more = counter name ∷ []; locals = refl; globals = refl; funs = refl } in
        same-then (λ s. Unit {0}) (Holds n) (type_meant (written shape n) c env left) (type_meant shape d env left) _ _ (plainly _ _ (shape-same c d runs others shape n t.0 env left fit w h t.1)) (λ s o u.
        same-then (λ v. Unit {0}) (Holds n) (eval (written from n) c env o) (eval from d env o) _ _ (plainly _ _ (stored-same c d runs others NumKind from n env o fit w h q.0)) (λ x j u.
        same-then (λ v. Unit {0}) (Holds n) (eval (written to n) c env j) (eval to d env j) _ _ (plainly _ _ (stored-same c d runs others NumKind to n env j fit w h r.0)) (λ y k u.
        same-range (Holds n) x y _ _ (λ low high.
        for-same n (span low high) low _ _ env k (λ i now m hn.
        same-then (Holds inner) (Holds n) (exec_all (statement_written body inner) c runs (with_local (variable name s false (stored s (Num i))) now) m)
        (exec_all body d others (with_local (variable name s false (stored s (Num i))) now) m) _ _
        (statements-same body procs inner (with_local (variable name s false (stored s (Num i))) now) m f (fit-more (counter name) n refl fit) w
        (local-holds n now (counter name) (variable name s false (stored s (Num i))) refl refl hn) r.1)
        (λ next z hi. (refl, back-holds inner n now next deep hn hi))) h))))
    statement-same (tree.block vars body at) procs n env left f fit w h b =
        let p = none-of (starts_broken vars n) (if_fine (names_behind vars n) (λ inner. statement_broken body procs inner)) b in
        let i = if-none (names_behind vars n) (λ inner. statement_broken body procs inner) p.1 in
        let s = are-sound vars n i.0 f.0 fit i.1 p.0 in
        let deep = behind-deeper vars n i.0 f.0 i.1 in
        let w_inner : World c d runs others i.0.globals i.0.funs =
        subst (λ gs. World c d runs others gs i.0.funs) (sym deep.globals) (subst (λ fs. World c d runs others n.globals fs) (sym deep.funs) w) in
        same-then (Holds i.0) (Holds n) (with_vars (vars_written vars n) c env left) (with_vars vars d env left) _ _ (vars-same vars n i.0 env left f.0 fit w h i.1 p.0) (λ now m hi.
        same-then (Holds i.0) (Holds n) (exec_all (statement_written body (behind_vars vars n)) c runs now m) (exec_all body d others now m) _ _
        (subst (λ x. Same (Holds i.0) (exec_all (statement_written body x) c runs now m) (exec_all body d others now m)) (sym s.is_behind)
        (statements-same body procs i.0 now m f.2 s.fit w_inner hi i.2))
        (λ next k hn. (refl, back-holds i.0 n env next deep h hn)))
    statement-same other procs n env left f fit w h b = absurd f

    pub statements-same : (ss : Tree) (procs : List Proc) (n : Names) (env : Env) (left : ℕ) → AreFormed ss → ConstantsFit n → World c d runs others n.globals n.funs → Holds n env → statement_broken ss procs n ≡ []
        → Same (Holds n) (exec_all (statement_written ss n) c runs env left) (exec_all ss d others env left)
    statements-same tree.nil procs n env left f fit w h b = (refl, h)
    statements-same (tree.cons s rest) procs n env left f fit w h b =
        let p = none-of (statement_broken s procs n) (statement_broken rest procs n) b in
        same-then (Holds n) (Holds n) (exec (statement_written s n) c runs env left) (exec s d others env left) _ _ (statement-same s procs n env left f.0 fit w h p.0) (λ next m hn.
        statements-same rest procs n next m f.1 fit w hn p.1)
    statements-same tree.absent procs n env left f fit w h b = (refl, h)
    statements-same (tree.present body) procs n env left f fit w h b = statements-same body procs n env left f fit w h b
    statements-same other procs n env left f fit w h b = absurd f
