-- Nothing leaves more turns than it gets, so a loop never shows the bound that it is started with.
use Rattle.std.proofs.Common.{ℕ, zero, suc, ◌≤◌, ℤ, pos, negsuc, ◌+ℤ◌, Bool, true, false, List, [], ◌∷◌, length, arith, Option, None, Some}
use Rattle.std.specs.Prelude.{if◌then◌else◌}
use Rattle.std.specs.Str.{bytes_eq}
use Rattle.rvc_base.specs.Arithmetic.{Computed, add, sub, mul, neg, div, rem, shl, shr, whole}
use Rattle.rvc_base.specs.Arithmetic as arithmetic
use Rattle.rvc_base.specs.declared.trap.Trap.TheVariants.{IndexRange}
use Rattle.rvc_base.specs.Turns.{max_turns}
use Rattle.cal_ast.specs.declared.expr.PrefixOp.{PrefixOp}
use Rattle.cal_ast.specs.declared.expr.PrefixOp.TheVariants.{Not, Neg, BitNot}
use Rattle.cal_ast.specs.declared.expr.BinOp.{BinOp}
use Rattle.cal_ast.specs.declared.expr.BinOp.TheVariants.{Or, And, BitOr, BitXor, BitAnd, Eq, Ne, Lt, Le, Gt, Ge, Shl, Shr, Add, Sub, Mul, Div, Mod}
use Rattle.cal_ast.specs.Tree as tree
use Rattle.cal_ast.specs.Tree.{Tree}
use Rattle.cal_model.specs.Value.{Shape, Many, Value, Num, Truth, Items, Values, Nil, Cons, value_at, stored}
use Rattle.cal_model.specs.Outcome.{Out, Gives, Traps, Lacks, Clashes, and_then, turn, alone, needed, known}
use Rattle.cal_model.specs.Env.{Var, Env, look_up, variable, with_local, item_at, put, assigned_to, assigned, is_among, assign}
use Rattle.cal_model.specs.Expression.{Calls, eval, eval_all, elements, type_meant, args_given, computed, prefixed, of_numbers, of_truths, applied, with_right, chosen, indexed, span, range_of, each_from, type_named}
use Rattle.cal_model.specs.Actor.{Local, Fun, Proc}
use Rattle.cal_model.specs.Call.{first_value, declared, arguments, on_call, answered, fun_named, calls_within, calls_of}
use Rattle.cal_model.specs.Statement.{Runs, while_loop, for_loop, inside, first_of, with_vars, exec, exec_all, performed, proc_named, runs_within, runs_of}
use Rattle.cal_model.specs.Keeping.{LeavesNoMore, CallsTakeTurns, RunsTakeTurns}

-- ---- outcomes

as-many : (m : ℕ) → m ≤ m
as-many m = omega arith

fewer-too : {A : Type 0} (o : Out A) (m left : ℕ) → m ≤ left → LeavesNoMore m o → LeavesNoMore left o
fewer-too (Gives a k) m left h i = omega arith
fewer-too (Traps c) m left h i = tt
fewer-too Lacks m left h i = tt
fewer-too Clashes m left h i = tt

then-takes : {A B : Type 0} (o : Out A) (f : A → ℕ → Out B) (left : ℕ) → LeavesNoMore left o → ((a : A) (m : ℕ) → LeavesNoMore m (f a m)) → LeavesNoMore left (and_then o f)
then-takes (Gives a m) f left h i = fewer-too (f a m) m left h (i a m)
then-takes (Traps c) f left h i = tt
then-takes Lacks f left h i = tt
then-takes Clashes f left h i = tt

turn-takes : {A : Type 0} (left : ℕ) (f : ℕ → Out A) → ((k : ℕ) → LeavesNoMore k (f k)) → LeavesNoMore left (turn left f)
turn-takes zero f h = tt
turn-takes (suc left) f h = fewer-too (f left) left (suc left) (omega arith) (h left)

alone-takes : {A : Type 0} (o : Out A) (left : ℕ) → LeavesNoMore left (alone o left)
alone-takes (Gives a k) left = as-many left
alone-takes (Traps c) left = tt
alone-takes Lacks left = tt
alone-takes Clashes left = tt

needed-takes : {A : Type 0} (o : Option A) (left : ℕ) → LeavesNoMore left (needed o left)
needed-takes None left = tt
needed-takes (Some a) left = as-many left

known-takes : {A : Type 0} (o : Option A) (left : ℕ) → LeavesNoMore left (known o left)
known-takes None left = tt
known-takes (Some a) left = as-many left

if-takes : {A : Type 0} (b : Bool) (o p : Out A) (left : ℕ) → LeavesNoMore left o → LeavesNoMore left p → LeavesNoMore left (if b then o else p)
if-takes true o p left h i = h
if-takes false o p left h i = i

chosen-takes : {A : Type 0} (v : Value) (f g : ℕ → Out A) (left : ℕ) → ((k : ℕ) → LeavesNoMore k (f k)) → ((k : ℕ) → LeavesNoMore k (g k)) → LeavesNoMore left (chosen v f g left)
chosen-takes (Truth true) f g left h i = h left
chosen-takes (Truth false) f g left h i = i left
chosen-takes (Num z) f g left h i = tt
chosen-takes (Items vs) f g left h i = tt

range-takes : {A : Type 0} (a b : Value) (f : ℤ → ℤ → Out A) (left : ℕ) → ((low high : ℤ) → LeavesNoMore left (f low high)) → LeavesNoMore left (range_of a b f)
range-takes (Num a) (Num b) f left h = h a b
range-takes v w f left h = tt

-- ---- operators

computed-takes : (c : Computed) (left : ℕ) → LeavesNoMore left (computed c left)
computed-takes (arithmetic.Gives z) left = as-many left
computed-takes (arithmetic.Traps c) left = tt

prefixed-takes : (op : PrefixOp) (v : Value) (left : ℕ) → LeavesNoMore left (prefixed op v left)
prefixed-takes Not (Truth b) left = as-many left
prefixed-takes Neg (Num a) left = computed-takes (neg a) left
prefixed-takes BitNot (Num a) left = as-many left
prefixed-takes op v left = tt

of-numbers-takes : (op : BinOp) (a b : ℤ) (left : ℕ) → LeavesNoMore left (of_numbers op a b left)
of-numbers-takes Add a b left = computed-takes (add a b) left
of-numbers-takes Sub a b left = computed-takes (sub a b) left
of-numbers-takes Mul a b left = computed-takes (mul a b) left
of-numbers-takes Div a b left = computed-takes (div a b) left
of-numbers-takes Mod a b left = computed-takes (rem a b) left
of-numbers-takes Shl a b left = computed-takes (shl a b) left
of-numbers-takes Shr a b left = computed-takes (shr a b) left
of-numbers-takes BitAnd a b left = as-many left
of-numbers-takes BitOr a b left = as-many left
of-numbers-takes BitXor a b left = as-many left
of-numbers-takes Eq a b left = as-many left
of-numbers-takes Ne a b left = as-many left
of-numbers-takes Lt a b left = as-many left
of-numbers-takes Le a b left = as-many left
of-numbers-takes Gt a b left = as-many left
of-numbers-takes Ge a b left = as-many left
of-numbers-takes And a b left = tt
of-numbers-takes Or a b left = tt

of-truths-takes : (op : BinOp) (a b : Bool) (left : ℕ) → LeavesNoMore left (of_truths op a b left)
of-truths-takes And a b left = as-many left
of-truths-takes Or a b left = as-many left
of-truths-takes Eq a b left = as-many left
of-truths-takes Ne a b left = as-many left
of-truths-takes op a b left = tt

applied-takes : (op : BinOp) (v w : Value) (left : ℕ) → LeavesNoMore left (applied op v w left)
applied-takes op (Num a) (Num b) left = of-numbers-takes op a b left
applied-takes op (Truth a) (Truth b) left = of-truths-takes op a b left
applied-takes op v w left = tt

right-takes : (op : BinOp) (v : Value) (f : ℕ → Out Value) (left : ℕ) → ((k : ℕ) → LeavesNoMore k (f k)) → LeavesNoMore left (with_right op v f left)
right-takes And (Truth false) f left h = as-many left
right-takes Or (Truth true) f left h = as-many left
right-takes op v f left h = then-takes (f left) (λ w m. applied op v w m) left (h left) (λ w m. applied-takes op v w m)

item-takes : (vs : Values) (i : ℤ) (left : ℕ) → LeavesNoMore left (item_at vs i left)
item-takes vs (pos k) left = go (value_at vs k)
  where
    go : (o : Option Value) → LeavesNoMore left (elim o [ None ↦ Traps IndexRange | Some v ↦ Gives v left ])
    go None = tt
    go (Some v) = as-many left
item-takes vs (negsuc k) left = tt

indexed-takes : (v w : Value) (left : ℕ) → LeavesNoMore left (indexed v w left)
indexed-takes (Items vs) (Num i) left = item-takes vs i left
indexed-takes v w left = tt

each-takes : (n : ℕ) (i : ℤ) (f : ℤ → ℕ → Out Values) (left : ℕ) → ((j : ℤ) (k : ℕ) → LeavesNoMore k (f j k)) → LeavesNoMore left (each_from n i f left)
each-takes zero i f left h = as-many left
each-takes (suc n) i f left h =
    then-takes (f i left) _ left (h i left) (λ vs m.
    then-takes (each_from n (i +ℤ pos 1) f m) _ m (each-takes n (i +ℤ pos 1) f m h) (λ ws k. as-many k))

-- ---- assignment

put-takes : (t : Shape) (old : Value) (places : Values) (v : Value) (left : ℕ) → LeavesNoMore left (put t old places v left)
put-takes t old Nil v left = as-many left
put-takes (Many n items) (Items vs) (Cons (Num i) places) v left =
    then-takes (item_at vs i left) _ left (item-takes vs i left) (λ w m.
    then-takes (put items w places v m) _ m (put-takes items w places v m) (λ x k. as-many k))
put-takes t old places v left = tt

assigned-to-takes : (x : Var) (places : Values) (v : Value) (left : ℕ) → LeavesNoMore left (assigned_to x places v left)
assigned-to-takes x places v left = go x.kept
  where
    go : (o : Option Shape) → LeavesNoMore left (elim o [ None ↦ Clashes | Some t ↦ and_then (put t x.value places v left) (λ w k. Gives (record x { value = w }) k) ])
    go None = tt
    go (Some t) = then-takes (put t x.value places v left) _ left (put-takes t x.value places v left) (λ w k. as-many k)

assigned-takes : (xs : List Var) (name : List ℕ) (places : Values) (v : Value) (left : ℕ) → LeavesNoMore left (assigned xs name places v left)
assigned-takes [] name places v left = tt
assigned-takes (x ∷ xs) name places v left =
    if-takes (bytes_eq x.name name) _ _ left
    (then-takes (assigned_to x places v left) _ left (assigned-to-takes x places v left) (λ y k. as-many k))
    (then-takes (assigned xs name places v left) _ left (assigned-takes xs name places v left) (λ ys k. as-many k))

assign-takes : (env : Env) (name : List ℕ) (places : Values) (v : Value) (left : ℕ) → LeavesNoMore left (assign env name places v left)
assign-takes env name places v left =
    if-takes (is_among name env.locals) _ _ left
    (then-takes (assigned env.locals name places v left) _ left (assigned-takes env.locals name places v left) (λ xs k. as-many k))
    (then-takes (assigned env.globals name places v left) _ left (assigned-takes env.globals name places v left) (λ xs k. as-many k))

-- ---- loops

while-takes : (most : ℕ) (test : Env → ℕ → Out Value) (body : Env → ℕ → Out Env) (env : Env) (left : ℕ)
    → ((now : Env) (k : ℕ) → LeavesNoMore k (test now k)) → ((now : Env) (k : ℕ) → LeavesNoMore k (body now k)) → LeavesNoMore left (while_loop most test body env left)
while-takes zero test body env left h i = turn-takes 0 (λ m. Gives env m) (λ k. as-many k)
while-takes (suc most) test body env left h i =
    then-takes (test env left) _ left (h env left) (λ v m.
    chosen-takes v _ _ m (λ k.
    turn-takes k _ (λ j. then-takes (body env j) _ j (i env j) (λ next n. while-takes most test body next n h i))) (λ k. as-many k))

for-takes : (n : ℕ) (i : ℤ) (body : ℤ → Env → ℕ → Out Env) (env : Env) (left : ℕ) → ((j : ℤ) (now : Env) (k : ℕ) → LeavesNoMore k (body j now k)) → LeavesNoMore left (for_loop n i body env left)
for-takes zero i body env left h = as-many left
for-takes (suc n) i body env left h =
    turn-takes left _ (λ m. then-takes (body i env m) _ m (h i env m) (λ next k. for-takes n (i +ℤ pos 1) body next k h))

inside-takes : (env inner : Env) (body : Env → ℕ → Out Env) (left : ℕ) → ((now : Env) (k : ℕ) → LeavesNoMore k (body now k)) → LeavesNoMore left (inside env inner body left)
inside-takes env inner body left h = then-takes (body inner left) _ left (h inner left) (λ next k. as-many k)

-- ---- evaluation

module _ (calls : Calls) (c : CallsTakeTurns calls) where
  mutual
    pub eval-takes : (e : Tree) (env : Env) (left : ℕ) → LeavesNoMore left (eval e calls env left)
    eval-takes (tree.number n at) env left = computed-takes (whole (pos n)) left
    eval-takes (tree.truth b at) env left = as-many left
    eval-takes (tree.variable name at) env left = known-takes (look_up name env) left
    eval-takes (tree.call name args at) env left =
        then-takes (eval_all args calls env left) _ left (all-takes args env left) (λ vs m. turn-takes m _ (λ k. c env.globals name vs k))
    eval-takes (tree.paren e at) env left = eval-takes e env left
    eval-takes (tree.if_expr test first other at) env left =
        then-takes (eval test calls env left) _ left (eval-takes test env left) (λ v m. chosen-takes v _ _ m (λ k. eval-takes first env k) (λ k. eval-takes other env k))
    eval-takes (tree.list items at) env left = then-takes (eval_all items calls env left) _ left (all-takes items env left) (λ vs m. as-many m)
    eval-takes (tree.comp item gens at) env left =
        then-takes (elements gens (λ inner k. eval item calls inner k) calls env left) _ left
        (elements-take gens (λ inner k. eval item calls inner k) env left (λ inner k. eval-takes item inner k)) (λ vs m. as-many m)
    eval-takes (tree.index base place at) env left =
        then-takes (eval base calls env left) _ left (eval-takes base env left) (λ v m.
        then-takes (eval place calls env m) _ m (eval-takes place env m) (λ i k. indexed-takes v i k))
    eval-takes (tree.prefix op e at) env left = then-takes (eval e calls env left) _ left (eval-takes e env left) (λ v m. prefixed-takes op v m)
    eval-takes (tree.binary op l r at) env left =
        then-takes (eval l calls env left) _ left (eval-takes l env left) (λ v m. right-takes op v _ m (λ k. eval-takes r env k))
    eval-takes other env left = tt

    all-takes : (es : Tree) (env : Env) (left : ℕ) → LeavesNoMore left (eval_all es calls env left)
    all-takes tree.nil env left = as-many left
    all-takes (tree.cons e es) env left =
        then-takes (eval e calls env left) _ left (eval-takes e env left) (λ v m.
        then-takes (eval_all es calls env m) _ m (all-takes es env m) (λ vs k. as-many k))
    all-takes other env left = tt

    elements-take : (gens : Tree) (f : Env → ℕ → Out Value) (env : Env) (left : ℕ) → ((inner : Env) (k : ℕ) → LeavesNoMore k (f inner k)) → LeavesNoMore left (elements gens f calls env left)
    elements-take tree.nil f env left h = turn-takes left _ (λ m. then-takes (f env m) _ m (h env m) (λ v k. as-many k))
    elements-take (tree.cons (tree.gen shape (tree.ident name place) from to at) gens) f env left h =
        then-takes (type_meant shape calls env left) _ left (type-takes shape env left) (λ t n.
        then-takes (alone (eval from calls env max_turns) n) _ n (alone-takes (eval from calls env max_turns) n) (λ v j.
        then-takes (alone (eval to calls env max_turns) j) _ j (alone-takes (eval to calls env max_turns) j) (λ w k.
        range-takes v w _ k (λ low high.
        each-takes (span low high) low _ k (λ i m. elements-take gens f (with_local (variable name t false (stored t (Num i))) env) m h)))))
    elements-take other f env left h = tt

    type-takes : (shape : Tree) (env : Env) (left : ℕ) → LeavesNoMore left (type_meant shape calls env left)
    type-takes (tree.type_of (tree.ident name place) args at) env left =
        then-takes (args_given args calls env left) _ left (args-take args env left) (λ given m. needed-takes (type_named name given) m)
    type-takes other env left = tt

    args-take : (args : Tree) (env : Env) (left : ℕ) → LeavesNoMore left (args_given args calls env left)
    args-take tree.nil env left = as-many left
    args-take (tree.cons (tree.shape_arg name shape) args) env left =
        then-takes (type_meant shape calls env left) _ left (type-takes shape env left) (λ t m.
        then-takes (args_given args calls env m) _ m (args-take args env m) (λ given k. as-many k))
    args-take (tree.cons (tree.value_arg name value) args) env left =
        then-takes (alone (eval value calls env max_turns) left) _ left (alone-takes (eval value calls env max_turns) left) (λ v m.
        then-takes (args_given args calls env m) _ m (args-take args env m) (λ given k. as-many k))
    args-take other env left = tt

  -- ---- calls

  first-takes : (t : Shape) (start : Option Tree) (env : Env) (left : ℕ) → LeavesNoMore left (first_value t start calls env left)
  first-takes t None env left = as-many left
  first-takes t (Some e) env left = then-takes (eval e calls env left) _ left (eval-takes e env left) (λ v k. as-many k)

  declared-takes : (xs : List Local) (env : Env) (left : ℕ) → LeavesNoMore left (declared xs calls env left)
  declared-takes [] env left = as-many left
  declared-takes (x ∷ xs) env left =
      then-takes (first_value x.shape x.start calls env left) _ left (first-takes x.shape x.start env left) (λ v m.
      declared-takes xs (with_local (variable x.name x.shape x.changes v) env) m)

  on-call-takes : (globals : List Var) (formals : List Local) (args : Values) (left : ℕ) → LeavesNoMore left (on_call globals formals args left)
  on-call-takes globals formals args left = then-takes (needed (arguments formals args) left) _ left (needed-takes (arguments formals args) left) (λ vars k. as-many k)

  answered-takes : (f : Fun) (globals : List Var) (args : Values) (left : ℕ) → LeavesNoMore left (answered f calls globals args left)
  answered-takes f globals args left =
      then-takes (on_call globals f.formals args left) _ left (on-call-takes globals f.formals args left) (λ entry h.
      then-takes (declared f.locals calls entry h) _ h (declared-takes f.locals entry h) (λ env m.
      then-takes (eval f.body calls env m) _ m (eval-takes f.body env m) (λ v k. as-many k)))

  -- ---- execution

  var-takes : (t : Shape) (start : Tree) (env : Env) (left : ℕ) → LeavesNoMore left (first_of t start calls env left)
  var-takes t tree.absent env left = as-many left
  var-takes t (tree.present e) env left = then-takes (eval e calls env left) _ left (eval-takes e env left) (λ v k. as-many k)
  var-takes t other env left = tt

  vars-take : (vars : Tree) (env : Env) (left : ℕ) → LeavesNoMore left (with_vars vars calls env left)
  vars-take tree.nil env left = as-many left
  vars-take (tree.cons (tree.var shape (tree.ident name place) start changes at) vars) env left =
      then-takes (type_meant shape calls env left) _ left (type-takes shape env left) (λ t m.
      then-takes (first_of t start calls env m) _ m (var-takes t start env m) (λ v k. vars-take vars (with_local (variable name t changes v) env) k))
  vars-take other env left = tt

  module _ (runs : Runs) (r : RunsTakeTurns runs) where
    mutual
      pub exec-takes : (s : Tree) (env : Env) (left : ℕ) → LeavesNoMore left (exec s calls runs env left)
      exec-takes (tree.assign (tree.ident name place) places value at) env left =
          then-takes (eval_all places calls env left) _ left (all-takes places env left) (λ is m.
          then-takes (eval value calls env m) _ m (eval-takes value env m) (λ v k. assign-takes env name is v k))
      exec-takes (tree.call_stmt (tree.ident name place) args at) env left =
          then-takes (eval_all args calls env left) _ left (all-takes args env left) (λ vs m. turn-takes m _ (λ k.
          then-takes (runs env.globals name vs k) _ k (r env.globals name vs k) (λ globals j. as-many j)))
      exec-takes (tree.if_stmt test first other at) env left =
          then-takes (eval test calls env left) _ left (eval-takes test env left) (λ v m. chosen-takes v _ _ m (λ k. exec-all-takes first env k) (λ k. exec-all-takes other env k))
      exec-takes (tree.while_stmt test body at) env left =
          while-takes (suc left) (λ now k. eval test calls now k) (λ now k. exec_all body calls runs now k) env left (λ now k. eval-takes test now k) (λ now k. exec-all-takes body now k)
      exec-takes (tree.foreach_stmt shape (tree.ident name place) from to body at) env left =
          then-takes (type_meant shape calls env left) _ left (type-takes shape env left) (λ t h.
          then-takes (eval from calls env h) _ h (eval-takes from env h) (λ a j.
          then-takes (eval to calls env j) _ j (eval-takes to env j) (λ b k.
          range-takes a b _ k (λ low high.
          for-takes (span low high) low _ env k (λ i now m.
          inside-takes now (with_local (variable name t false (stored t (Num i))) now) _ m (λ inner n. exec-all-takes body inner n))))))
      exec-takes (tree.block vars body at) env left =
          then-takes (with_vars vars calls env left) _ left (vars-take vars env left) (λ inner m. inside-takes env inner _ m (λ now k. exec-all-takes body now k))
      exec-takes other env left = tt

      pub exec-all-takes : (s : Tree) (env : Env) (left : ℕ) → LeavesNoMore left (exec_all s calls runs env left)
      exec-all-takes tree.nil env left = as-many left
      exec-all-takes (tree.cons s rest) env left =
          then-takes (exec s calls runs env left) _ left (exec-takes s env left) (λ next m. exec-all-takes rest next m)
      exec-all-takes tree.absent env left = as-many left
      exec-all-takes (tree.present body) env left = exec-all-takes body env left
      exec-all-takes other env left = tt

    performed-takes : (p : Proc) (globals : List Var) (args : Values) (left : ℕ) → LeavesNoMore left (performed p calls runs globals args left)
    performed-takes p globals args left =
        then-takes (on_call globals p.formals args left) _ left (on-call-takes globals p.formals args left) (λ entry h.
        then-takes (declared p.locals calls entry h) _ h (declared-takes p.locals entry h) (λ env m.
        then-takes (exec_all p.body calls runs env m) _ m (exec-all-takes p.body env m) (λ last k. as-many k)))

-- ---- functions and procedures

calls-within-take : (n : ℕ) (funs : List Fun) → CallsTakeTurns (calls_within n funs)
calls-within-take zero funs globals name args left = tt
calls-within-take (suc n) funs globals name args left = go (fun_named name funs) (calls-within-take n funs)
  where
    go : (o : Option Fun) → CallsTakeTurns (calls_within n funs) → LeavesNoMore left (elim o [ None ↦ Lacks | Some f ↦ answered f (calls_within n funs) globals args left ])
    go None c = tt
    go (Some f) c = answered-takes (calls_within n funs) c f globals args left

pub functions-take-turns : (funs : List Fun) → CallsTakeTurns (calls_of funs)
functions-take-turns funs = calls-within-take (length funs) funs

runs-within-take : (n : ℕ) (procs : List Proc) (calls : Calls) → CallsTakeTurns calls → RunsTakeTurns (runs_within n procs calls)
runs-within-take zero procs calls c globals name args left = tt
runs-within-take (suc n) procs calls c globals name args left = go (proc_named name procs) (runs-within-take n procs calls c)
  where
    go : (o : Option Proc) → RunsTakeTurns (runs_within n procs calls) → LeavesNoMore left (elim o [ None ↦ Lacks | Some p ↦ performed p calls (runs_within n procs calls) globals args left ])
    go None r = tt
    go (Some p) r = performed-takes calls c (runs_within n procs calls) r p globals args left

pub procedures-take-turns : (procs : List Proc) (calls : Calls) → CallsTakeTurns calls → RunsTakeTurns (runs_of procs calls)
procedures-take-turns procs calls c = runs-within-take (length procs) procs calls c
