-- Executing leaves the locals that are constants as they are.
use Rattle.std.proofs.Common.{◌≡◌, ℕ, zero, suc, ◌-◌, ℤ, pos, ◌+ℤ◌, List, [], ◌∷◌, ◌++◌, length, drop, Bool, true, false, refl, sym, ap, ◌∙◌, subst, Option, None, Some, arith, append_assoc, length-append}
use Rattle.std.specs.Prelude.{if◌then◌else◌}
use Rattle.std.specs.Str.{bytes_eq}
use Rattle.cal_ast.specs.Tree as tree
use Rattle.cal_ast.specs.Tree.{Tree}
use Rattle.cal_model.specs.Value.{Shape, Value, Num, Truth, Items, Values, stored}
use Rattle.cal_model.specs.Outcome.{Out, Gives, Traps, Lacks, Clashes, and_then, turn}
use Rattle.cal_model.specs.Env.{Var, Env, variable, with_local, back_to, is_among, put, assigned_to, assigned, assign}
use Rattle.cal_model.specs.Expression.{Calls, chosen, eval, eval_all, range_of, span, type_meant}
use Rattle.cal_model.specs.Statement.{Runs, exec, exec_all, first_of, for_loop, inside, while_loop, with_vars}
use Rattle.code_ir.specs.declared.instr.Instr.{Instr}
use Rattle.lower_base.specs.Following.{Follows}
use Rattle.lower_base.specs.Names.{Name}
use Rattle.lower_base.proofs.Runs.{follows_more, follows_then}
use Rattle.lower_stmt.specs.Procedures.{Routines}
use Rattle.lower_stmt.specs.Stating.{IsStmt, IsBlock, AreStmts, call, set, set_filled, set_item, set_items, set_list, set_part, set_part_list, set_whole, if_alone, if_else, while_code, each_code, each_counted, block_code, none, one_more, no_more, variable_more, list_more}

-- of one row of variables in another: those that are constants are the same
abbrev pub KeepConstants : List Var → List Var → Type 0
KeepConstants [] [] = Unit {0}
KeepConstants (x ∷ xs) (y ∷ ys) = (x.kept ≡ None → y ≡ x) × KeepConstants xs ys
KeepConstants xs ys = ⊥

pub constants_same : (xs : List Var) → KeepConstants xs xs
constants_same [] = tt
constants_same (x ∷ xs) = (λ e. refl, constants_same xs)

constants_join : (xs ys zs : List Var) → KeepConstants xs ys → KeepConstants ys zs → KeepConstants xs zs
constants_join [] [] [] h g = tt
constants_join [] [] (z ∷ zs) h g = absurd g
constants_join [] (y ∷ ys) zs h g = absurd h
constants_join (x ∷ xs) [] zs h g = absurd h
constants_join (x ∷ xs) (y ∷ ys) [] h g = absurd g
constants_join (x ∷ xs) (y ∷ ys) (z ∷ zs) h g =
    (λ e. let same : y ≡ x = h.0 e in g.0 (ap (λ (v : Var). v.kept) same ∙ e) ∙ same, constants_join xs ys zs h.1 g.1)

constants_length : (xs ys : List Var) → KeepConstants xs ys → length ys ≡ length xs
constants_length [] [] h = refl
constants_length [] (y ∷ ys) h = absurd h
constants_length (x ∷ xs) [] h = absurd h
constants_length (x ∷ xs) (y ∷ ys) h = ap suc (constants_length xs ys h.1)

-- those behind the ones in front
constants_behind : (vs xs ys : List Var) → KeepConstants (vs ++ xs) ys → KeepConstants xs (drop (length ys - length xs) ys)
constants_behind [] xs ys h =
    let count : length ys - length xs ≡ 0 = let same = constants_length xs ys h in omega (arith, same) in
    subst (λ k. KeepConstants xs (drop k ys)) (sym count) h
constants_behind (v ∷ vs) xs [] h = absurd h
constants_behind (v ∷ vs) xs (y ∷ ys) h =
    let count : length (y ∷ ys) - length xs ≡ suc (length ys - length xs) = let same = constants_length (vs ++ xs) ys h.1 in omega (arith, same, length-append vs xs) in
    subst (λ k. KeepConstants xs (drop k (y ∷ ys))) (sym count) (constants_behind vs xs ys h.1)

-- ---- outcomes

-- nothing is said of what is given
abbrev Any : {A : Type 0} → Out A → Type 0
Any o = Follows o (λ v m. Unit {0}) (λ c. Unit {0})

follows_any : {A : Type 0} (o : Out A) → Any o
follows_any (Gives v left) = tt
follows_any (Traps c) = tt
follows_any Lacks = tt
follows_any Clashes = tt

-- the constants of an environment stay
abbrev pub Constant : Env → Out Env → Type 0
Constant env o = Follows o (λ next k. KeepConstants env.locals next.locals) (λ c. Unit {0})

-- what comes first doesn't matter
after_any : {A : Type 0} (env : Env) (o : Out A) (f : A → ℕ → Out Env) → ((v : A) (m : ℕ) → Constant env (f v m)) → Constant env (and_then o f)
after_any env o f later =
    follows_then o f (λ v m. Unit {0}) (λ c. Unit {0}) (λ next k. KeepConstants env.locals next.locals) (λ c. Unit {0}) (follows_any o) (λ v m h. later v m) (λ c h. tt)

-- one after the other
constant_then : (env : Env) (o : Out Env) (f : Env → ℕ → Out Env) → Constant env o → ((next : Env) (m : ℕ) → Constant next (f next m)) → Constant env (and_then o f)
constant_then env o f first later =
    follows_then o f (λ next k. KeepConstants env.locals next.locals) (λ c. Unit {0}) (λ last k. KeepConstants env.locals last.locals) (λ c. Unit {0}) first
    (λ next m h. follows_more (f next m) (λ last k. KeepConstants next.locals last.locals) (λ c. Unit {0}) (λ last k. KeepConstants env.locals last.locals) (λ c. Unit {0}) (later next m)
    (λ last k g. constants_join env.locals next.locals last.locals h g) (λ c t. tt))
    (λ c t. tt)

after_turn : (env : Env) (left : ℕ) (f : ℕ → Out Env) → ((k : ℕ) → Constant env (f k)) → Constant env (turn left f)
after_turn env zero f later = tt
after_turn env (suc left) f later = later left

-- ---- assignments

abbrev VarsConstant : List Var → Out (List Var) → Type 0
VarsConstant xs o = Follows o (λ ys k. KeepConstants xs ys) (λ c. Unit {0})

assigned_to_keeps : (x : Var) (xs : List Var) (places : Values) (v : Value) (left : ℕ) (o : Option Shape) → x.kept ≡ o
    → VarsConstant (x ∷ xs) (and_then (elim o [ None ↦ Clashes | Some t ↦ and_then (put t x.value places v left) (λ w k. Gives (record x { value = w }) k) ]) (λ y k. Gives (y ∷ xs) k))
assigned_to_keeps x xs places v left None is = tt
assigned_to_keeps x xs places v left (Some t) is =
    follows_then (and_then (put t x.value places v left) (λ w k. Gives (record x { value = w }) k)) (λ y k. Gives (y ∷ xs) k)
    (λ y k. Unit {0}) (λ c. Unit {0}) (λ ys k. KeepConstants (x ∷ xs) ys) (λ c. Unit {0})
    (follows_any (and_then (put t x.value places v left) (λ w k. Gives (record x { value = w }) k)))
    (λ y k h. (λ e. cc, constants_same xs)) (λ c h. tt)

assigned_keeps : (xs : List Var) (name : List ℕ) (places : Values) (v : Value) (left : ℕ) → VarsConstant xs (assigned xs name places v left)
assigned_keeps [] name places v left = tt
assigned_keeps (x ∷ xs) name places v left = go (bytes_eq x.name name) (assigned_keeps xs name places v left)
  where
    go : (b : Bool) → VarsConstant xs (assigned xs name places v left)
        → VarsConstant (x ∷ xs) (if b then and_then (assigned_to x places v left) (λ y k. Gives (y ∷ xs) k) else and_then (assigned xs name places v left) (λ ys k. Gives (x ∷ ys) k))
    go true later = assigned_to_keeps x xs places v left x.kept refl
    go false later =
        follows_then (assigned xs name places v left) (λ ys k. Gives (x ∷ ys) k) (λ ys k. KeepConstants xs ys) (λ c. Unit {0}) (λ ys k. KeepConstants (x ∷ xs) ys) (λ c. Unit {0}) later
        (λ ys k h. (λ e. refl, h)) (λ c h. tt)

assign_keeps : (env : Env) (name : List ℕ) (places : Values) (v : Value) (left : ℕ) → Constant env (assign env name places v left)
assign_keeps env name places v left = go (is_among name env.locals)
  where
    go : (b : Bool) → Constant env (if b then and_then (assigned env.locals name places v left) (λ xs k. Gives (record env { locals = xs }) k) else and_then (assigned env.globals name places v left) (λ xs k. Gives (record env { globals = xs }) k))
    go true =
        follows_then (assigned env.locals name places v left) (λ xs k. Gives (record env { locals = xs }) k) (λ xs k. KeepConstants env.locals xs) (λ c. Unit {0}) (λ next k. KeepConstants env.locals next.locals) (λ c. Unit {0})
        (assigned_keeps env.locals name places v left) (λ xs k h. h) (λ c h. tt)
    go false = after_any env (assigned env.globals name places v left) (λ xs k. Gives (record env { globals = xs }) k) (λ xs k. constants_same env.locals)

-- ---- loops, and parts inside which there are more locals

-- so many locals more
pub record Extends (env inner : Env) : Type 0 where
  pub more : List Var
  pub is : inner.locals ≡ more ++ env.locals

inside_keeps : (env inner : Env) (M : Env → ℕ → Out Env) (left : ℕ) → Extends env inner → Constant inner (M inner left) → Constant env (inside env inner M left)
inside_keeps env inner M left extends body =
    follows_then (M inner left) (λ next k. Gives (back_to env next) k) (λ next k. KeepConstants inner.locals next.locals) (λ c. Unit {0}) (λ next k. KeepConstants env.locals next.locals) (λ c. Unit {0}) body
    (λ next k h. constants_behind extends.more env.locals next.locals (subst (λ xs. KeepConstants xs next.locals) extends.is h)) (λ c h. tt)

for_keeps : (count : ℕ) (i : ℤ) (body : ℤ → Env → ℕ → Out Env) (env : Env) (left : ℕ) → ((j : ℤ) (now : Env) (m : ℕ) → Constant now (body j now m)) → Constant env (for_loop count i body env left)
for_keeps zero i body env left h = constants_same env.locals
for_keeps (suc count) i body env left h =
    after_turn env left (λ m. and_then (body i env m) (λ next k. for_loop count (i +ℤ pos 1) body next k))
    (λ m. constant_then env (body i env m) (λ next k. for_loop count (i +ℤ pos 1) body next k) (h i env m) (λ next k. for_keeps count (i +ℤ pos 1) body next k h))

chosen_keeps : (env : Env) (v : Value) (f g : ℕ → Out Env) (left : ℕ) → ((k : ℕ) → Constant env (f k)) → ((k : ℕ) → Constant env (g k)) → Constant env (chosen v f g left)
chosen_keeps env (Truth true) f g left h i = h left
chosen_keeps env (Truth false) f g left h i = i left
chosen_keeps env (Num z) f g left h i = tt
chosen_keeps env (Items vs) f g left h i = tt

while_keeps : (most : ℕ) (test : Env → ℕ → Out Value) (body : Env → ℕ → Out Env) (env : Env) (left : ℕ) → ((now : Env) (m : ℕ) → Constant now (body now m)) → Constant env (while_loop most test body env left)
while_keeps zero test body env left h = tt
while_keeps (suc most) test body env left h =
    after_any env (test env left) (λ v m. chosen v (λ k. turn k (λ j. and_then (body env j) (λ next i. while_loop most test body next i))) (λ k. Gives env k) m)
    (λ v m. chosen_keeps env v (λ k. turn k (λ j. and_then (body env j) (λ next i. while_loop most test body next i))) (λ k. Gives env k) m
    (λ k. after_turn env k (λ j. and_then (body env j) (λ next i. while_loop most test body next i))
    (λ j. constant_then env (body env j) (λ next i. while_loop most test body next i) (h env j) (λ next i. while_keeps most test body next i h)))
    (λ k. constants_same env.locals))

range_keeps : (env : Env) (a b : Value) (f : ℤ → ℤ → Out Env) → ((low high : ℤ) → Constant env (f low high)) → Constant env (range_of a b f)
range_keeps env (Num low) (Num high) f h = h low high
range_keeps env (Num low) (Truth b) f h = tt
range_keeps env (Num low) (Items vs) f h = tt
range_keeps env (Truth a) b f h = tt
range_keeps env (Items vs) b f h = tt

-- ---- statements

module _ (calls : Calls) (runs : Runs) where
  set_keeps : (text : List ℕ) (places value : Tree) (place at : ℕ) (env : Env) (left : ℕ) → Constant env (exec (tree.assign (tree.ident text place) places value at) calls runs env left)
  set_keeps text places value place at env left =
      after_any env (eval_all places calls env left) (λ is m. and_then (eval value calls env m) (λ v k. assign env text is v k))
      (λ is m. after_any env (eval value calls env m) (λ v k. assign env text is v k) (λ v k. assign_keeps env text is v k))

  if_keeps : (test first other : Tree) (at : ℕ) (env : Env) (left : ℕ) → ((k : ℕ) → Constant env (exec_all first calls runs env k)) → ((k : ℕ) → Constant env (exec_all other calls runs env k))
      → Constant env (exec (tree.if_stmt test first other at) calls runs env left)
  if_keeps test first other at env left h g =
      after_any env (eval test calls env left) (λ v m. chosen v (λ k. exec_all first calls runs env k) (λ k. exec_all other calls runs env k) m)
      (λ v m. chosen_keeps env v (λ k. exec_all first calls runs env k) (λ k. exec_all other calls runs env k) m h g)

  each_keeps : (shape from to body : Tree) (text : List ℕ) (place at : ℕ) (env : Env) (left : ℕ) → ((now : Env) (k : ℕ) → Constant now (exec_all body calls runs now k))
      → Constant env (exec (tree.foreach_stmt shape (tree.ident text place) from to body at) calls runs env left)
  each_keeps shape from to body text place at env left h =
      let loop : Shape → ℤ → ℤ → ℕ → Out Env = λ t low high k. for_loop (span low high) low (λ i now m. inside now (with_local (variable text t false (stored t (Num i))) now) (λ inner n. exec_all body calls runs inner n) m) env k in
      after_any env (type_meant shape calls env left) (λ t h. and_then (eval from calls env h) (λ a j. and_then (eval to calls env j) (λ b k. range_of a b (λ low high. loop t low high k))))
      (λ t h1. after_any env (eval from calls env h1) (λ a j. and_then (eval to calls env j) (λ b k. range_of a b (λ low high. loop t low high k)))
      (λ a j. after_any env (eval to calls env j) (λ b k. range_of a b (λ low high. loop t low high k))
      (λ b k. range_keeps env a b (λ low high. loop t low high k)
      (λ low high. for_keeps (span low high) low (λ i now m. inside now (with_local (variable text t false (stored t (Num i))) now) (λ inner n. exec_all body calls runs inner n) m) env k
      (λ i now m. inside_keeps now (with_local (variable text t false (stored t (Num i))) now) (λ inner n. exec_all body calls runs inner n) m
      (record { more = variable text t false (stored t (Num i)) ∷ []; is = refl }) (h (with_local (variable text t false (stored t (Num i))) now) m))))))

  -- the variables of a block are more locals
  abbrev Extended : Env → Out Env → Type 0
  Extended env o = Follows o (λ inner k. Extends env inner) (λ c. Unit {0})

  extends_more : (v : Var) (env inner : Env) → Extends (with_local v env) inner → Extends env inner
  extends_more v env inner e = record { more = e.more ++ v ∷ []; is = e.is ∙ simp append_assoc }

  var_extends : (shape start vars : Tree) (text : List ℕ) (place at : ℕ) (changes : Bool) (env : Env) (left : ℕ) → ((now : Env) (k : ℕ) → Extended now (with_vars vars calls now k))
      → Extended env (with_vars (tree.cons (tree.var shape (tree.ident text place) start changes at) vars) calls env left)
  var_extends shape start vars text place at changes env left later =
      let more : Shape → ℕ → Out Env = λ t m. and_then (first_of t start calls env m) (λ v k. with_vars vars calls (with_local (variable text t changes v) env) k) in
      follows_then (type_meant shape calls env left) more (λ t m. Unit {0}) (λ c. Unit {0}) (λ inner k. Extends env inner) (λ c. Unit {0}) (follows_any (type_meant shape calls env left))
      (λ t m x. follows_then (first_of t start calls env m) (λ v k. with_vars vars calls (with_local (variable text t changes v) env) k) (λ v k. Unit {0}) (λ c. Unit {0}) (λ inner k. Extends env inner) (λ c. Unit {0})
      (follows_any (first_of t start calls env m))
      (λ v k y. follows_more (with_vars vars calls (with_local (variable text t changes v) env) k) (λ inner j. Extends (with_local (variable text t changes v) env) inner) (λ c. Unit {0}) (λ inner j. Extends env inner) (λ c. Unit {0})
      (later (with_local (variable text t changes v) env) k) (λ inner j e. extends_more (variable text t changes v) env inner e) (λ c z. tt))
      (λ c z. tt))
      (λ c z. tt)

  vars_extend : {rs : Routines} {names : List Name} {vars body : Tree} {base n m : ℕ} {code : List Instr} → IsBlock rs names vars body base n code m → (env : Env) (left : ℕ) → Extended env (with_vars vars calls env left)
  vars_extend (no_more names body base n m code g) env left = record { more = []; is = refl }
  vars_extend (variable_more names shape start vars body text place at base n k m a b t changes e g d) env left = var_extends shape start vars text place at changes env left (λ now k. vars_extend d now k)
  vars_extend (list_more names shape start vars body text place at base n k m a b t changes e g d) env left = var_extends shape start vars text place at changes env left (λ now k. vars_extend d now k)

  block_keeps : (vars body : Tree) (at : ℕ) (env : Env) (left : ℕ) → Extended env (with_vars vars calls env left) → ((now : Env) (k : ℕ) → Constant now (exec_all body calls runs now k)) → Constant env (exec (tree.block vars body at) calls runs env left)
  block_keeps vars body at env left extended h =
      follows_then (with_vars vars calls env left) (λ inner m. inside env inner (λ now k. exec_all body calls runs now k) m) (λ inner k. Extends env inner) (λ c. Unit {0}) (λ next k. KeepConstants env.locals next.locals) (λ c. Unit {0}) extended
      (λ inner m e. inside_keeps env inner (λ now k. exec_all body calls runs now k) m e (h inner m)) (λ c z. tt)

  call_keeps : (text : List ℕ) (args : Tree) (place at : ℕ) (env : Env) (left : ℕ) → Constant env (exec (tree.call_stmt (tree.ident text place) args at) calls runs env left)
  call_keeps text args place at env left =
      after_any env (eval_all args calls env left) (λ vs m. turn m (λ k. and_then (runs env.globals text vs k) (λ globals j. Gives (record env { globals = globals }) j)))
      (λ vs m. after_turn env m (λ k. and_then (runs env.globals text vs k) (λ globals j. Gives (record env { globals = globals }) j))
      (λ k. after_any env (runs env.globals text vs k) (λ globals j. Gives (record env { globals = globals }) j) (λ globals j. constants_same env.locals)))

  mutual
    pub stmt_constant : {rs : Routines} {names : List Name} {s : Tree} {base n m : ℕ} {code : List Instr} → IsStmt rs names s base n code m → (env : Env) (left : ℕ) → Constant env (exec s calls runs env left)
    stmt_constant (set names text value place at base n m c code x t e seat shape g) env left = set_keeps text tree.nil value place at env left
    stmt_constant (set_list names text value place at base n c size x t l e seat shape g many) env left = set_keeps text tree.nil value place at env left
    stmt_constant (set_items names text items list place at base n m c size a x t e seat shape number g) env left = set_keeps text tree.nil (tree.list items list) place at env left
    stmt_constant (set_whole names text from place from_at at base n c d x y e seat f there same) env left = set_keeps text tree.nil (tree.variable from from_at) place at env left
    stmt_constant (set_filled names text value place at base n m c a x e seat g) env left = set_keeps text tree.nil value place at env left
    stmt_constant (set_item names text spot value place at base n k m c size a b x t e seat shape g d) env left = set_keeps text (tree.cons spot tree.nil) value place at env left
    stmt_constant (set_part names text places value place at base n k m c size a b x t e seat shape part g d) env left = set_keeps text places value place at env left
    stmt_constant (set_part_list names text from places place from_at at base n m c size d a x y t e seat shape part f there same g) env left = set_keeps text places (tree.variable from from_at) place at env left
    stmt_constant (call names text args place at base n m code p e g) env left = call_keeps text args place at env left
    stmt_constant (if_alone names test first at base n k m end a b g d e) env left = if_keeps test first tree.absent at env left (λ k. all_constant d env k) (λ k. constants_same env.locals)
    stmt_constant (if_else names test first other at base n k h m else_at end a b c g d q e f) env left = if_keeps test first (tree.present other) at env left (λ k. all_constant d env k) (λ k. all_constant q env k)
    stmt_constant (while_code names test body at base n k m head out a b d g e f) env left =
        while_keeps (suc left) (λ now k. eval test calls now k) (λ now k. exec_all body calls runs now k) env left (λ now k. all_constant d now k)
    stmt_constant (each_code names shape from to body text place at base n k j m turn_at start out a b c t e g d q f1 f2 f3) env left = each_keeps shape from to body text place at env left (λ now k. all_constant q now k)
    stmt_constant (each_counted names shape from to body text place at base n m low high c t e f g held q) env left = each_keeps shape from to body text place at env left (λ now k. all_constant q now k)
    stmt_constant (block_code names vars body at base n m code g) env left = block_keeps vars body at env left (vars_extend g env left) (λ now k. block_constant g now k)

    pub block_constant : {rs : Routines} {names : List Name} {vars body : Tree} {base n m : ℕ} {code : List Instr} → IsBlock rs names vars body base n code m → (env : Env) (left : ℕ) → Constant env (exec_all body calls runs env left)
    block_constant (no_more names body base n m code g) env left = all_constant g env left
    block_constant (variable_more names shape start vars body text place at base n k m a b t changes e g d) env left = block_constant d env left
    block_constant (list_more names shape start vars body text place at base n k m a b t changes e g d) env left = block_constant d env left

    pub all_constant : {rs : Routines} {names : List Name} {ss : Tree} {base n m : ℕ} {code : List Instr} → AreStmts rs names ss base n code m → (env : Env) (left : ℕ) → Constant env (exec_all ss calls runs env left)
    all_constant (none names base n) env left = constants_same env.locals
    all_constant (one_more names s rest base n k m a b g d) env left =
        constant_then env (exec s calls runs env left) (λ next m. exec_all rest calls runs next m) (stmt_constant g env left) (λ next j. all_constant d next j)
