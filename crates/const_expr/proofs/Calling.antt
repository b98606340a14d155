-- What a call gives, and how much less is left once it is opened.
use Rattle.std.proofs.Common.{◌≡◌, ℕ, zero, suc, ◌+◌, ◌*◌, ◌-◌, ◌<◌, ◌≤◌, Bool, true, false, List, [], ◌∷◌, map, refl, sym, ap, ◌∙◌, subst, arith}
use Rattle.std.proofs.Math.Nat.{suc-mul}
use Rattle.std.specs.Prelude.{Option, None, Some, if◌then◌else◌}
use Rattle.std.specs.Borrow.{Bor}
use Rattle.std.specs.Str.{bytes_eq}
use Rattle.cal_model.specs.Value.{Single, Value, Values, stored}
use Rattle.cal_model.specs.Outcome.{Out, Gives, Lacks, and_then, needed}
use Rattle.cal_model.specs.Env.{Env, Var}
use Rattle.cal_model.specs.Expression.{Calls, eval}
use Rattle.cal_model.specs.Actor.{Fun}
use Rattle.cal_model.specs.Call.{answered, arguments, calls_within, declared, fun_named}
use Rattle.cal_model.specs.View.{fun_view, local_view}
use Rattle.cal_model.specs.declared.bound.BoundFun.{BoundFun}
use Rattle.cal_model.specs.declared.bound.BoundLocal.{BoundLocal}
use Rattle.cal_model.specs.declared.value.Value.{Value as Declared}
use Rattle.cal_ast.specs.View.{expr_tree}
use Rattle.const_env.specs.Constants.{var_of}
use Rattle.const_env.specs.Counting.{inner_variables, hide}
use Rattle.const_env.specs.Held.{held}
use Rattle.const_expr.specs.Scoping.{calls, frame, seen}
use Rattle.const_env.specs.declared.inside.Inside.{Inside}
use Rattle.const_expr.specs.declared.scope.Scope.{Scope}
use Rattle.const_env.specs.Outcome.{Stops}
use Rattle.const_env.specs.declared.stop.EvalError.{EvalError}
use Rattle.const_expr.proofs.Going.{stops_on}
use Rattle.const_expr.proofs.Weights.{fun_size, locals_size, room, size, weight}

-- ---- how much is left

weighs : (b : Bool) (g f : Fun) (o : Option Fun) (w : ℕ) → (if b then Some g else o) ≡ Some f → (o ≡ Some f → fun_size f ≤ w) → fun_size f ≤ fun_size g + w
weighs true g f o w h e =
    let is : g ≡ f = cc in
    let same : fun_size g ≡ fun_size f = ap fun_size is in
    omega arith
weighs false g f o w h e = let l = e h in omega arith

pub fun_weighs : (name : List ℕ) (fs : List Fun) (f : Fun) → fun_named name fs ≡ Some f → fun_size f ≤ weight fs
fun_weighs name [] f h = cc
fun_weighs name (g ∷ fs) f h = weighs (bytes_eq g.name name) g f (fun_named name fs) (weight fs) h (fun_weighs name fs f)

room_falls : (depth w x : ℕ) → 0 < depth → 4 + x ≤ w → (depth - 1) * w + (2 + x) < depth * w
room_falls zero w x h l = absurd (omega arith)
room_falls (suc n) w x h l =
    let less : suc n - 1 ≡ n = omega arith in
    let whole : suc n * w ≡ n * w + w = suc-mul n w in
    let part : (suc n - 1) * w ≡ n * w = ap (λ k. k * w) less in
    omega arith

-- a call that is opened has less left than the one that opens it
pub call_falls : (name : List ℕ) (fs : List Fun) (f : Fun) (depth x : ℕ) → 0 < depth → fun_named name fs ≡ Some f → 4 + x ≤ fun_size f → (depth - 1) * weight fs + (2 + x) < depth * weight fs
call_falls name fs f depth x h e l =
    let most = fun_weighs name fs f e in
    room_falls depth (weight fs) x h (omega arith)

-- ---- what it gives

answers : (o : Option Fun) (f : Fun) (n : ℕ) (funs : List Fun) (globals : List Var) (args : Values) (left : ℕ) (vars : List Var) → o ≡ Some f → needed (arguments f.formals args) left ≡ Gives vars left
    → (elim o [ None ↦ Lacks | Some g ↦ answered g (calls_within n funs) globals args left ])
    ≡ and_then (declared f.locals (calls_within n funs) (record { globals = globals; locals = vars }) left) (λ env m. and_then (eval f.body (calls_within n funs) env m) (λ v k. Gives (stored (Single f.result) v) k))
answers None f n funs globals args left vars e h = cc
answers (Some g) f n funs globals args left vars e h =
    let is : g ≡ f = cc in
    ap (λ x. answered x (calls_within n funs) globals args left) is
    ∙ ap (λ x. and_then (and_then x (λ vars k. Gives (record { globals = globals; locals = vars }) k)) (λ entry h. and_then (declared f.locals (calls_within n funs) entry h) (λ env m. and_then (eval f.body (calls_within n funs) env m) (λ v k. Gives (stored (Single f.result) v) k)))) h

-- the function's arguments by their formals, its locals and its body
pub call_gives : (depth : ℕ) (name : List ℕ) (funs : List Fun) (f : Fun) (globals : List Var) (args : Values) (left : ℕ) (vars : List Var) → 0 < depth → fun_named name funs ≡ Some f → needed (arguments f.formals args) left ≡ Gives vars left
    → calls_within depth funs globals name args left
    ≡ and_then (declared f.locals (calls_within (depth - 1) funs) (record { globals = globals; locals = vars }) left) (λ env m. and_then (eval f.body (calls_within (depth - 1) funs) env m) (λ v k. Gives (stored (Single f.result) v) k))
call_gives zero name funs f globals args left vars l e h = absurd (omega arith)
call_gives (suc n) name funs f globals args left vars l e h =
    let less : n ≡ suc n - 1 = omega arith in
    answers (fun_named name funs) f n funs globals args left vars e h
    ∙ ap (λ k. and_then (declared f.locals (calls_within k funs) (record { globals = globals; locals = vars }) left) (λ env m. and_then (eval f.body (calls_within k funs) env m) (λ v k. Gives (stored (Single f.result) v) k))) less

-- ---- over the function that is found

-- the locals, and then the body
abbrev pub answer_gives : List BoundLocal → BoundFun → Calls → Env → ℕ → Out Value
answer_gives locals fun calls env left = and_then (declared (map local_view locals) calls env left) (λ inner m. and_then (eval (expr_tree fun.body) calls inner m) (λ v k. Gives (stored (Single fun.result) v) k))

pub called_gives : (depth : ℕ) (name : List ℕ) (funs : List Fun) (fun : BoundFun) (globals : List Var) (args : Values) (left : ℕ) (formals locals : List BoundLocal) (kept items : List Declared) (inside : Calls) (env : Env)
    → 0 < depth → Some (fun_view fun) ≡ fun_named name funs → formals ≡ fun.formals.items → needed (arguments (map local_view formals) args) left ≡ Gives (frame formals kept) left
    → items ≡ kept → locals ≡ fun.locals.items → inside ≡ calls_within (depth - 1) funs → env ≡ record { globals = globals; locals = frame fun.formals.items items }
    → answer_gives locals fun inside env left ≡ calls_within depth funs globals name args left
called_gives depth name funs fun globals args left formals locals kept items inside env l found fs entered as_items ls within inner =
    ap (λ xs. answer_gives xs fun inside env left) ls
    ∙ ap (λ c. answer_gives fun.locals.items fun c env left) within
    ∙ ap (λ e. answer_gives fun.locals.items fun (calls_within (depth - 1) funs) e left) (inner ∙ ap (λ xs. record { globals = globals; locals = frame fun.formals.items xs }) as_items)
    ∙ sym (call_gives depth name funs (fun_view fun) globals args left (frame fun.formals.items kept) l (sym found)
    (subst (λ xs. needed (arguments (map local_view xs) args) left ≡ Gives (frame xs kept) left) fs entered))

-- what is left for the function that is found
pub called_falls : (name : List ℕ) (scope inner : Scope) (fun : BoundFun) (locals : List BoundLocal) → 0 < scope.depth → Some (fun_view fun) ≡ fun_named name (held scope.env.now).funs
    → locals ≡ fun.locals.items → inner.depth ≡ scope.depth - 1 → held inner.env.now ≡ held scope.env.now
    → room inner + (2 + locals_size (map local_view locals) + size (expr_tree fun.body)) < room scope
called_falls name scope inner fun locals l found ls d e =
    let falls = call_falls name (held scope.env.now).funs (fun_view fun) scope.depth (locals_size (fun_view fun).locals + size (fun_view fun).body) l (sym found) (omega arith) in
    let same : room inner ≡ (scope.depth - 1) * weight (held scope.env.now).funs = ap (λ k. k * weight (held inner.env.now).funs) d ∙ ap (λ h. (scope.depth - 1) * weight h.funs) e in
    let parts : locals_size (map local_view locals) ≡ locals_size (fun_view fun).locals = ap (λ xs. locals_size (map local_view xs)) ls in
    omega arith

-- ---- what functions see

abbrev given_calls : Option (Bor Inside) → ℕ → List Fun → List Var → Calls
given_calls hidden n funs vars = elim hidden [ None ↦ calls_within n funs | Some x ↦ (λ globals. calls_within n funs vars) ]

calls-by : (hidden : Option (Bor Inside)) (n : ℕ) (funs : List Fun) (vars : List Var) → given_calls hidden n funs vars (hide (inner_variables hidden) vars) ≡ calls_within n funs vars
calls-by None n funs vars = refl
calls-by (Some x) n funs vars = refl

-- functions see all constants, even if generators hide some
pub calls_see : (s : Scope) → calls s (seen s).globals ≡ calls_within s.depth (held s.env.now).funs (map var_of (held s.env.now).values)
calls_see s = calls-by s.hidden s.depth (held s.env.now).funs (map var_of (held s.env.now).values)

-- .. none if no function has the name
pub called_lacks : (depth : ℕ) (name : List ℕ) (funs : List Fun) (globals : List Var) (args : Values) (left : ℕ) → None ≡ fun_named name funs → calls_within depth funs globals name args left ≡ Lacks
called_lacks zero name funs globals args left e = refl
called_lacks (suc n) name funs globals args left e = ap (λ o. elim o [ None ↦ Lacks | Some f ↦ answered f (calls_within n funs) globals args left ]) (sym e)

-- .. and no more than the arguments if these end it
pub called_stops : (depth : ℕ) (name : List ℕ) (funs : List Fun) (fun : BoundFun) (globals : List Var) (args : Values) (left : ℕ) (formals : List BoundLocal) (s : EvalError)
    → 0 < depth → Some (fun_view fun) ≡ fun_named name funs → formals ≡ fun.formals.items → Stops s (needed (arguments (map local_view formals) args) left) → Stops s (calls_within depth funs globals name args left)
called_stops zero name funs fun globals args left formals s l e f h = absurd (omega arith)
called_stops (suc n) name funs fun globals args left formals s l e f h =
    let g : Fun = fun_view fun in
    let given : Stops s (needed (arguments g.formals args) left) = subst (λ xs. Stops s (needed (arguments (map local_view xs) args) left)) f h in
    subst (λ o. Stops s (elim o [ None ↦ Lacks | Some k ↦ answered k (calls_within n funs) globals args left ])) e
    (stops_on s (and_then (needed (arguments g.formals args) left) (λ vars k. Gives (record { globals = globals; locals = vars }) k))
    (λ entry k. and_then (declared g.locals (calls_within n funs) entry k) (λ env m. and_then (eval g.body (calls_within n funs) env m) (λ v j. Gives (stored (Single g.result) v) j)))
    (stops_on s (needed (arguments g.formals args) left) (λ vars k. Gives (record { globals = globals; locals = vars }) k) given))
