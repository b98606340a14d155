-- Functions give what they give as they stand in the source.
use Rattle.std.proofs.Common.{◌≡◌, ℕ, zero, suc, ◌<◌, Bool, true, false, List, [], ◌∷◌, ◌++◌, map, length, refl, sym, ap, subst, ◌∙◌, arith, Option, None, Some, append_assoc}
use Rattle.std.specs.Prelude.{if◌then◌else◌, option_map}
use Rattle.std.specs.Str.{bytes_eq}
use Rattle.std.proofs.lemmas.List.{append-nil}
use Rattle.cal_ast.specs.Tree as tree
use Rattle.cal_ast.specs.Tree.{Tree}
use Rattle.cal_model.specs.Value.{Shape, Single, Value, Values, Nil, Cons, kind_of_scalar, kind_of_type, stored}
use Rattle.cal_model.specs.Outcome.{Out, Gives, Lacks, and_then, needed}
use Rattle.cal_model.specs.Env.{Env, Var, variable, with_local}
use Rattle.cal_model.specs.Expression.{Calls, eval}
use Rattle.cal_model.specs.Actor.{Fun, Local}
use Rattle.cal_model.specs.Call.{answered, arguments, calls_of, calls_within, declared, first_value, fun_named, on_call}
use Rattle.cal_model.specs.Statement.{Runs}
use Rattle.cal_model.specs.Kinding.{Fine, Known, Names, and_so, type_judged, with_known}
use Rattle.cal_model.specs.Sound.{Each, EachCall, FunCallsBelow, StartCalls, known_local, kind_of_judged, with_locals}
use Rattle.cal_model.proofs.KindValues.{fine-is, split}
use Rattle.cal_check.specs.AsWritten.{fun_as_is, fun_judged_as_is, funs_as_are, local_as_is, locals_as_are, start_as_is}
use Rattle.cal_check.specs.Constants.{stored_kind}
use Rattle.cal_check.specs.Formed.{AreDeclared, DeclCallsBelow, IsFunFormed, IsOptional}
use Rattle.cal_check.specs.Laws.{ConstantsFit}
use Rattle.cal_check.specs.Routines.{FunDecl, Head, fun_broken, fun_inside, fun_judged, fun_of, head_judged, locals_of, shape_of, start_of, with_fun}
use Rattle.cal_check.specs.Statements.{behind, names_behind, start_broken, starts_broken, var_broken}
use Rattle.cal_check.specs.Violations.{broken, if_fine, while_fine}
use Rattle.cal_check.specs.Written.{with_inner, written}
use Rattle.cal_check.proofs.CallsKnown.{StartIs}
use Rattle.cal_check.proofs.Fine.{if-none, none-of}
use Rattle.cal_check.proofs.FittingValues.{GivesSuch, named-one}
use Rattle.cal_check.proofs.JudgedRoutines.{AreFuns, fun-made}
use Rattle.cal_check.proofs.KeptKinds.{fit-more}
use Rattle.cal_check.proofs.SameCalls.{answered-same}
use Rattle.cal_check.proofs.SettledFuns.{MayBeOpen, below-all, below-less, calls-settled}
use Rattle.cal_check.proofs.SoundLocals.{are-sound, behind-fine}
use Rattle.cal_check.proofs.SoundRoutines.{fit-locals, while-none}
use Rattle.cal_check.proofs.StatementsKept.{HasConstants, Holds, Same, World, behind-deeper, local-holds, plainly, same-then, stored-same}

-- ---- locals

pub locals-same : (c d : Calls) (runs others : Runs) (vars : Tree) (n inner : Names) (env : Env) (left : ℕ) → AreDeclared vars → ConstantsFit n → World c d runs others n.globals n.funs → Holds n env
    → names_behind vars n ≡ Fine inner → starts_broken vars n ≡ [] → Same (Holds inner) (declared (locals_of vars n) c env left) (declared (locals_as_are vars n) d env left)
locals-same c d runs others tree.nil n inner env left f fit w h e b = (refl, subst (λ m. Holds m env) (fine-is n inner e) h)
locals-same c d runs others (tree.cons (tree.var shape (tree.ident name place) start changes at) vs) n inner env left f fit w h e b =
    let v : Tree = tree.var shape (tree.ident name place) start changes at in
    let i = split (behind (type_judged shape n) v n) (λ m. names_behind vs m) inner e in
    let t = behind-fine (type_judged shape n) v n i.0 i.1 in
    let x : Known = record { name = name; kind = kind_of_judged (type_judged shape n); value = None; changes = changes } in
    let s : Shape = shape_of (type_judged shape n) in
    let parts = none-of (var_broken v n) (while_fine (behind (type_judged shape n) v n) (λ m. starts_broken vs m)) b in
    let mine : start_broken (Fine t.0) start n ≡ [] = ap (λ j. start_broken j start n) (sym t.1) ∙ parts.0 in
    let rest : starts_broken vs i.0 ≡ [] = ap (λ j. while_fine j (λ m. starts_broken vs m)) (sym i.1) ∙ parts.1 in
    same-then (λ y. Unit {0}) (Holds inner) (first_value s (start_of start n) c env left) (first_value s (start_as_is start) d env left) _ _ (plainly _ _ (first start t.0 s f.0 mine)) (λ y m u.
    locals-same c d runs others vs (with_known x n) inner (with_local (variable name s changes y) env) m f.1 (fit-more x n refl fit) w (local-holds n env x (variable name s changes y) refl refl h)
    (subst (λ m. names_behind vs m ≡ Fine inner) (sym t.2) i.2) (subst (λ m. starts_broken vs m ≡ []) (sym t.2) rest))
  where
    first : (start : Tree) (t s : Shape) → IsOptional start → start_broken (Fine t) start n ≡ [] → first_value s (start_of start n) c env left ≡ first_value s (start_as_is start) d env left
    first tree.absent t s o h = refl
    first (tree.present e) t s o i = ap (λ x. and_then x (λ v k. Gives (stored s v) k)) (stored-same c d runs others (kind_of_type t) e n env left fit w h i)
    first other t s o i = absurd o
locals-same c d runs others other n inner env left f fit w h e b = absurd f

-- ---- arguments

formals-bare : (xs : List Local) (n : Names) (env : Env) (vs : Values) (vars : List Var) → arguments xs vs ≡ Some vars → Holds n env
    → Holds (with_locals xs n) (record { globals = env.globals; locals = vars ++ env.locals })
formals-bare [] n env Nil vars e h = let s : vars ≡ [] = cc in subst (λ zs. Holds n (record { globals = env.globals; locals = zs ++ env.locals })) (sym s) (record { bare = h.bare; named = h.named; constants = h.constants })
formals-bare [] n env (Cons v vs) vars e h = absurd (cc)
formals-bare (x ∷ xs) n env Nil vars e h = absurd (cc)
formals-bare (x ∷ xs) n env (Cons v vs) vars e h =
    go (arguments xs vs) refl e (λ zs y f. formals-bare xs (with_known (known_local x) n) (with_local y env) vs zs f)
  where
    go : (o : Option (List Var)) → arguments xs vs ≡ o → option_map (λ zs. zs ++ variable x.name x.shape x.changes (stored x.shape v) ∷ []) o ≡ Some vars
        → ((zs : List Var) (y : Var) → arguments xs vs ≡ Some zs → Holds (with_known (known_local x) n) (with_local y env)
        → Holds (with_locals xs (with_known (known_local x) n)) (record { globals = env.globals; locals = zs ++ y ∷ env.locals }))
        → Holds (with_locals xs (with_known (known_local x) n)) (record { globals = env.globals; locals = vars ++ env.locals })
    go None f g rest = absurd (cc)
    go (Some zs) f g rest =
        let y : Var = variable x.name x.shape x.changes (stored x.shape v) in
        let s : zs ++ y ∷ [] ≡ vars = cc in
        subst (λ us. Holds (with_locals xs (with_known (known_local x) n)) (record { globals = env.globals; locals = us ++ env.locals })) s
        (subst (λ us. Holds (with_locals xs (with_known (known_local x) n)) (record { globals = env.globals; locals = us })) (sym (append_assoc zs (y ∷ []) env.locals))
        (rest zs y f (local-holds n env (known_local x) y refl refl h)))

pub locals-outside : (xs : List Local) (n : Names) → ((with_locals xs n).globals ≡ n.globals) × ((with_locals xs n).funs ≡ n.funs)
locals-outside [] n = (refl, refl)
locals-outside (x ∷ xs) n = locals-outside xs (with_known (known_local x) n)

-- ---- one function

pub entry-holds : (xs : List Local) (n : Names) (globals : List Var) (args : Values) (left : ℕ) → n.locals ≡ [] → HasConstants n.globals globals → GivesSuch (Holds (with_locals xs n)) (on_call globals xs args left)
entry-holds xs n globals args left bare has = go (arguments xs args) refl
  where
    outer : Holds n (record { globals = globals; locals = [] })
    outer = record {
      bare = subst (λ ks. Each (λ x. x.value ≡ None) ks) (sym bare) tt;
      named = ap (λ ks. map (λ x. x.name) ks) bare;
      constants = has;
    }

    go : (o : Option (List Var)) → arguments xs args ≡ o → GivesSuch (Holds (with_locals xs n)) (and_then (needed o left) (λ vars k. Gives (record { globals = globals; locals = vars }) k))
    go None e = tt
    go (Some vars) e =
        subst (λ zs. Holds (with_locals xs n) (record { globals = globals; locals = zs })) (append-nil vars)
        (formals-bare xs n (record { globals = globals; locals = [] }) args vars e outer)

answered-kept : (c : Calls) (runs : Runs) (full : List ℕ) (head : Head) (vars body : Tree) (n : Names) (globals : List Var) (args : Values) (left : ℕ) → AreDeclared vars → n.locals ≡ [] → ConstantsFit n
    → World c c runs runs n.globals n.funs
    → starts_broken vars (with_locals head.formals n) ++ if_fine (names_behind vars (with_locals head.formals n)) (λ inner. broken (stored_kind (kind_of_scalar head.result) body inner)) ≡ []
    → HasConstants n.globals globals → answered (fun_of full head vars body n) c globals args left ≡ answered (fun_as_is full head vars body n) c globals args left
answered-kept c runs full head vars body n globals args left f bare fit w b has =
    let k : Names = with_locals head.formals n in
    let out = locals-outside head.formals n in
    let w_inside : World c c runs runs k.globals k.funs =
    subst (λ gs. World c c runs runs gs k.funs) (sym out.0) (subst (λ fs. World c c runs runs n.globals fs) (sym out.1) w) in
    let fit_k = fit-locals head.formals n fit in
    let two = none-of (starts_broken vars k) _ b in
    let i = if-none (names_behind vars k) (λ inner. broken (stored_kind (kind_of_scalar head.result) body inner)) two.1 in
    let s = are-sound vars k i.0 f fit_k i.1 two.0 in
    let deep = behind-deeper vars k i.0 f i.1 in
    let w_behind : World c c runs runs i.0.globals i.0.funs =
    subst (λ gs. World c c runs runs gs i.0.funs) (sym deep.globals) (subst (λ fs. World c c runs runs k.globals fs) (sym deep.funs) w_inside) in
    (same-then (Holds k) (λ v. Unit {0}) (on_call globals head.formals args left) (on_call globals head.formals args left) _ _ (refl, entry-holds head.formals n globals args left bare has) (λ entry h hn.
    same-then (Holds i.0) (λ v. Unit {0}) (declared (locals_of vars k) c entry h) (declared (locals_as_are vars k) c entry h) _ _
    (locals-same c c runs runs vars k i.0 entry h f fit_k w_inside hn i.1 two.0) (λ env m hi.
    plainly _ _ (ap (λ o. and_then o (λ v j. Gives (stored (Single head.result) v) j))
    (ap (λ x. eval (written body x) c env m) s.is_behind
    ∙ stored-same c c runs runs (kind_of_scalar head.result) body i.0 env m s.fit w_behind hi i.2))))).0

-- ---- both lists of functions

-- what a function gives as it is written out and as it stands, over the same calls
pub record Pair (c : Calls) (rank : List ℕ → ℕ) (known : List Known) (u r : Fun) : Type 0 where
  pub answers : (globals : List Var) (args : Values) (left : ℕ) → HasConstants known globals → answered u c globals args left ≡ answered r c globals args left
  pub calls : FunCallsBelow rank r
  pub named : r.name ≡ u.name

abbrev pub Paired : Calls → (List ℕ → ℕ) → List Known → Option Fun → Option Fun → Type 0
Paired c rank known None None = Unit {0}
Paired c rank known (Some u) (Some r) = Pair c rank known u r
Paired c rank known o p = ⊥

start-calls : (P Q : List ℕ → Type 0) (start : Tree) → EachCall P Q start → StartIs P Q (start_as_is start)
start-calls P Q (tree.present e) h = h
start-calls P Q other h = tt

locals-call : (P Q : List ℕ → Type 0) (vars : Tree) (n : Names) → EachCall P Q vars → Each (StartCalls P Q) (locals_as_are vars n)
locals-call P Q (tree.cons v vs) n h = (one v h.0, locals-call P Q vs (with_inner v n) h.1)
  where
    one : (v : Tree) → EachCall P Q v → StartCalls P Q (local_as_is v n)
    one (tree.var shape (tree.ident name place) start changes at) i = start-calls P Q start i.1
    one other i = tt
locals-call P Q other n h = tt

pair-of : (c : Calls) (runs : Runs) (rank : List ℕ → ℕ) (full : List ℕ) (decl : Tree) (n : Names) (g : Fun) → IsFunFormed decl → fun_broken decl n ≡ [] → DeclCallsBelow rank full decl → n.locals ≡ [] → ConstantsFit n
    → World c c runs runs n.globals n.funs → fun_judged full decl n ≡ Fine g → (r : Fun) × (fun_judged_as_is full decl n ≡ Fine r) × Pair c rank n.globals g r
pair-of c runs rank full (tree.function name formals result vars body at) n g formed b calls bare fit w e =
    let decl : Tree = tree.function name formals result vars body at in
    let made = fun-made full name formals result vars body at n g e b in
    let inside = while-none (head_judged decl n) made.0 (λ head. fun_inside decl n head) made.1 b in
    let r : Fun = fun_as_is full made.0 vars body n in
    let pair : Pair c rank n.globals (fun_of full made.0 vars body n) r = record {
      answers = λ globals args left has. answered-kept c runs full made.0 vars body n globals args left formed bare fit w inside has;
      calls = record { locals = locals-call (λ other. rank other < rank full) (λ other. ⊥) vars (with_locals made.0.formals n) calls.2; body = calls.3 };
      named = refl;
    } in
    (r, ap (λ j. and_so j (λ head. Fine (fun_as_is full head vars body n))) made.1, subst (λ x. Pair c rank n.globals x r) made.2 pair)
pair-of c runs rank full other n g formed b calls bare fit w e = absurd formed

pub pairs-of : (c : Calls) (runs : Runs) (rank : List ℕ → ℕ) (fs : List FunDecl) (n : Names) (gs : List Fun) → Each (λ f. IsFunFormed f.decl) fs → Each (λ f. fun_broken f.decl n ≡ []) fs
    → Each (λ f. DeclCallsBelow rank f.name f.decl) fs → n.locals ≡ [] → ConstantsFit n → World c c runs runs n.globals n.funs → AreFuns fs n gs
    → ((name : List ℕ) → Paired c rank n.globals (fun_named name gs) (fun_named name (funs_as_are fs n))) × (length gs ≡ length (funs_as_are fs n))
pairs-of c runs rank [] n [] formed b calls bare fit w a = (λ name. tt, refl)
pairs-of c runs rank [] n (g ∷ gs) formed b calls bare fit w a = absurd a
pairs-of c runs rank (f ∷ fs) n [] formed b calls bare fit w a = absurd a
pairs-of c runs rank (f ∷ fs) n (g ∷ gs) formed b calls bare fit w a =
    let r = pair-of c runs rank f.name f.decl n g formed.0 b.0 calls.0 bare fit w a.0 in
    let rest = pairs-of c runs rank fs n gs formed.1 b.1 calls.1 bare fit w a.1 in
    let list : funs_as_are (f ∷ fs) n ≡ r.0 ∷ funs_as_are fs n = ap (λ j. with_fun j (funs_as_are fs n)) r.1 in (
      λ name. subst (λ rs. Paired c rank n.globals (if bytes_eq g.name name then Some g else fun_named name gs) (fun_named name rs)) (sym list)
          (subst (λ t. Paired c rank n.globals (if bytes_eq g.name name then Some g else fun_named name gs) (if bytes_eq t name then Some r.0 else fun_named name (funs_as_are fs n))) (sym r.2.named)
          (both name (bytes_eq g.name name) r.0 r.2 (rest.0 name))),
      ap suc rest.1 ∙ sym (ap length list),
    )
  where
    both : (name : List ℕ) (b : Bool) (r : Fun) → Pair c rank n.globals g r → Paired c rank n.globals (fun_named name gs) (fun_named name (funs_as_are fs n))
        → Paired c rank n.globals (if b then Some g else fun_named name gs) (if b then Some r else fun_named name (funs_as_are fs n))
    both name true r p rest = p
    both name false r p rest = rest

none-some : {A : Type 0} (x : A) → None ≡ Some x → ⊥
none-some x h = cc

abbrev answer_by : Calls → List Var → Values → ℕ → Option Fun → Out Value
answer_by c globals args left o = elim o [ None ↦ Lacks | Some f ↦ answered f c globals args left ]

-- functions that are written out, those that stand in the source, and those over which both are judged
module _ (rank : List ℕ → ℕ) (known : List Known) (us rs fs : List Fun) (below_us : Each (FunCallsBelow rank) us) (seen : (name : List ℕ) → fun_named name us ≡ fun_named name fs)
    (pairs : (name : List ℕ) → Paired (calls_of fs) rank known (fun_named name us) (fun_named name rs)) where
  -- so many open calls give what all give
  settled-at : (k : ℕ) (globals : List Var) (name : List ℕ) → MayBeOpen rank us k name → (args : Values) (left : ℕ) → calls_within k us globals name args left ≡ calls_of fs globals name args left
  settled-at k globals name may args left =
      calls-settled rank (suc (rank name)) k (length fs) us fs globals below_us (λ other l. seen other) name (omega arith) may (λ f e. below-all rank name fs f e) args left

  within-kept : (k : ℕ) (globals : List Var) (name : List ℕ) → HasConstants known globals → MayBeOpen rank us k name → (args : Values) (left : ℕ)
      → calls_within k us globals name args left ≡ calls_within k rs globals name args left
  within-kept zero globals name has may args left = refl
  within-kept (suc k) globals name has may args left =
      go (fun_named name us) refl (fun_named name rs) refl (pairs name) (λ other i vs j. within-kept k globals other has i vs j)
    where
      go : (o : Option Fun) → fun_named name us ≡ o → (p : Option Fun) → fun_named name rs ≡ p → Paired (calls_of fs) rank known (fun_named name us) (fun_named name rs)
          → ((other : List ℕ) → MayBeOpen rank us k other → (vs : Values) (j : ℕ) → calls_within k us globals other vs j ≡ calls_within k rs globals other vs j)
          → answer_by (calls_within k us) globals args left (fun_named name us) ≡ answer_by (calls_within k rs) globals args left (fun_named name rs)
      go None e None f q less = ap (λ x. answer_by (calls_within k us) globals args left x) e ∙ sym (ap (λ x. answer_by (calls_within k rs) globals args left x) f)
      go None e (Some r) f q less = absurd (subst (λ x. Paired (calls_of fs) rank known x (Some r)) e (subst (λ x. Paired (calls_of fs) rank known (fun_named name us) x) f q))
      go (Some u) e None f q less = absurd (subst (λ x. Paired (calls_of fs) rank known x None) e (subst (λ x. Paired (calls_of fs) rank known (fun_named name us) x) f q))
      go (Some u) e (Some r) f q less =
          let pair : Pair (calls_of fs) rank known u r = subst (λ x. Paired (calls_of fs) rank known x (Some r)) e (subst (λ x. Paired (calls_of fs) rank known (fun_named name us) x) f q) in
          let is = named-one (FunCallsBelow rank) name us u below_us e in
          let same : rank u.name ≡ rank name = ap rank is.1 in
          let same_r : rank r.name ≡ rank name = ap rank pair.named ∙ same in
          let lower : (other : List ℕ) → rank other < rank name → MayBeOpen rank us k other =
          λ other l g i. let x = below-less rank other us g (rank name) i l in let y = may u e in omega arith in
          ap (λ x. answer_by (calls_within k us) globals args left x) e
          ∙ answered-same (λ other. rank other < rank u.name) (λ other. ⊥) (calls_within k us) (calls_of fs) u globals args left is.0.locals is.0.body
          (λ other l vs j. settled-at k globals other (lower other (omega arith)) vs j)
          ∙ pair.answers globals args left has
          ∙ answered-same (λ other. rank other < rank r.name) (λ other. ⊥) (calls_of fs) (calls_within k rs) r globals args left pair.calls.locals pair.calls.body
          (λ other l vs j. sym (settled-at k globals other (lower other (omega arith)) vs j) ∙ less other (lower other (omega arith)) vs j)
          ∙ sym (ap (λ x. answer_by (calls_within k rs) globals args left x) f)

  pub calls-kept : (globals : List Var) (name : List ℕ) (args : Values) (left : ℕ) → length us ≡ length rs → HasConstants known globals → calls_of fs globals name args left ≡ calls_of rs globals name args left
  calls-kept globals name args left e has =
      sym (settled-at (length us) globals name (λ f i. below-all rank name us f i) args left)
      ∙ within-kept (length us) globals name has (λ f i. below-all rank name us f i) args left
      ∙ ap (λ k. calls_within k rs globals name args left) e
