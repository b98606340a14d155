-- What uses only names that are kept does over the kept globals what it does over all.
use Rattle.std.proofs.Common.{◌≡◌, ℕ, zero, suc, ℤ, pos, ◌+ℤ◌, true, false, refl, ap}
use Rattle.cal_ast.specs.Tree as tree
use Rattle.cal_ast.specs.Tree.{Tree}
use Rattle.cal_model.specs.Value.{Shape, Value, Num, Truth, Items, stored}
use Rattle.cal_model.specs.Outcome.{Out, Gives, and_then, turn}
use Rattle.cal_model.specs.Env.{Env, variable, with_local}
use Rattle.cal_model.specs.Expression.{Calls, chosen, eval, eval_all, range_of, span, type_meant}
use Rattle.cal_model.specs.Statement.{Runs, exec, exec_all, first_of, for_loop, inside, while_loop, with_vars}
use Rattle.cal_check.specs.Uses.{OnlyUses}
use Rattle.law_unused.specs.Keeping.{DoTheSame, GiveTheSame, IsKept, Keep, mapped, narrowed, only}
use Rattle.law_unused.proofs.Alike.{World, all-alike, eval-alike, type-alike, used-in}
use Rattle.law_unused.proofs.Narrowed.{assign-kept, seen-kept, then-kept, then-mapped}

-- ---- parts of statements

module _ {A B : Type 0} (h : A → B) where
  pub turn-kept : (left : ℕ) (f : ℕ → Out A) (g : ℕ → Out B) → ((k : ℕ) → g k ≡ mapped h (f k)) → turn left g ≡ mapped h (turn left f)
  turn-kept zero f g e = refl
  turn-kept (suc left) f g e = e left

  pub chosen-kept : (v : Value) (f f' : ℕ → Out A) (g g' : ℕ → Out B) (left : ℕ) → ((k : ℕ) → g k ≡ mapped h (f k)) → ((k : ℕ) → g' k ≡ mapped h (f' k))
      → chosen v g g' left ≡ mapped h (chosen v f f' left)
  chosen-kept (Truth true) f f' g g' left e i = e left
  chosen-kept (Truth false) f f' g g' left e i = i left
  chosen-kept (Num z) f f' g g' left e i = refl
  chosen-kept (Items vs) f f' g g' left e i = refl

  pub range-kept : (v w : Value) (f : ℤ → ℤ → Out A) (g : ℤ → ℤ → Out B) → ((low high : ℤ) → g low high ≡ mapped h (f low high))
      → range_of v w g ≡ mapped h (range_of v w f)
  range-kept (Num a) (Num b) f g e = e a b
  range-kept v w f g e = refl

module _ (keep : Keep) where
  for-kept : (n : ℕ) (i : ℤ) (f g : ℤ → Env → ℕ → Out Env) (env : Env) (left : ℕ) → ((j : ℤ) (now : Env) (k : ℕ) → g j (narrowed keep now) k ≡ mapped (narrowed keep) (f j now k))
      → for_loop n i g (narrowed keep env) left ≡ mapped (narrowed keep) (for_loop n i f env left)
  for-kept zero i f g env left e = refl
  for-kept (suc n) i f g env left e =
      turn-kept (narrowed keep) left _ _ (λ m.
      then-mapped (narrowed keep) (narrowed keep) (f i env m) (g i (narrowed keep env) m) _ _ (e i env m) (λ next k. for-kept n (i +ℤ pos 1) f g next k e))

  while-kept : (most : ℕ) (t u : Env → ℕ → Out Value) (f g : Env → ℕ → Out Env) (env : Env) (left : ℕ) → ((now : Env) (k : ℕ) → u (narrowed keep now) k ≡ t now k)
      → ((now : Env) (k : ℕ) → g (narrowed keep now) k ≡ mapped (narrowed keep) (f now k))
      → while_loop most u g (narrowed keep env) left ≡ mapped (narrowed keep) (while_loop most t f env left)
  while-kept zero t u f g env left e i = refl
  while-kept (suc most) t u f g env left e i =
      then-kept (narrowed keep) (t env left) (u (narrowed keep env) left) _ _ (e env left) (λ v m.
      chosen-kept (narrowed keep) v _ _ _ _ m (λ k.
      turn-kept (narrowed keep) k _ _ (λ j.
      then-mapped (narrowed keep) (narrowed keep) (f env j) (g (narrowed keep env) j) _ _ (i env j) (λ next l. while-kept most t u f g next l e i))) (λ k. refl))

  inside-kept : (env inner : Env) (f g : Env → ℕ → Out Env) (left : ℕ) → g (narrowed keep inner) left ≡ mapped (narrowed keep) (f inner left)
      → inside (narrowed keep env) (narrowed keep inner) g left ≡ mapped (narrowed keep) (inside env inner f left)
  inside-kept env inner f g left e = then-mapped (narrowed keep) (narrowed keep) (f inner left) (g (narrowed keep inner) left) _ _ e (λ next k. refl)

  -- ---- expressions

  module _ (few all : Calls) (give : GiveTheSame keep few all) where
    pub world : (env : Env) → World (IsKept keep) (IsKept keep) few all (narrowed keep env) env
    world env = record {
      seen = λ name k. seen-kept keep name env k;
      given = λ name k args left. give name env.globals args left k;
    }

    pub eval-kept : (e : Tree) (env : Env) (left : ℕ) → OnlyUses (IsKept keep) e → eval e few (narrowed keep env) left ≡ eval e all env left
    eval-kept e env left u = eval-alike (IsKept keep) (IsKept keep) few all e (narrowed keep env) env left (world env) (used-in (IsKept keep) e u)

    pub all-kept : (es : Tree) (env : Env) (left : ℕ) → OnlyUses (IsKept keep) es → eval_all es few (narrowed keep env) left ≡ eval_all es all env left
    all-kept es env left u = all-alike (IsKept keep) (IsKept keep) few all es (narrowed keep env) env left (world env) (used-in (IsKept keep) es u)

    type-kept : (shape : Tree) (env : Env) (left : ℕ) → OnlyUses (IsKept keep) shape → type_meant shape few (narrowed keep env) left ≡ type_meant shape all env left
    type-kept shape env left u = type-alike (IsKept keep) (IsKept keep) few all shape (narrowed keep env) env left (world env) (used-in (IsKept keep) shape u)

    -- ---- statements

    start-kept : (t : Shape) (start : Tree) (env : Env) (left : ℕ) → OnlyUses (IsKept keep) start → first_of t start few (narrowed keep env) left ≡ first_of t start all env left
    start-kept t tree.absent env left u = refl
    start-kept t (tree.present e) env left u = ap (λ o. and_then o (λ v k. Gives (stored t v) k)) (eval-kept e env left u)
    start-kept t other env left u = refl

    vars-kept : (vars : Tree) (env : Env) (left : ℕ) → OnlyUses (IsKept keep) vars → with_vars vars few (narrowed keep env) left ≡ mapped (narrowed keep) (with_vars vars all env left)
    vars-kept tree.nil env left u = refl
    vars-kept (tree.cons (tree.var shape (tree.ident name place) start changes at) vars) env left u =
        then-kept (narrowed keep) (type_meant shape all env left) (type_meant shape few (narrowed keep env) left) _ _ (type-kept shape env left u.0.0) (λ t m.
        then-kept (narrowed keep) (first_of t start all env m) (first_of t start few (narrowed keep env) m) _ _ (start-kept t start env m u.0.1) (λ v k.
        vars-kept vars (with_local (variable name t changes v) env) k u.1))
    vars-kept other env left u = refl

    module _ (some every : Runs) (do_ : DoTheSame keep some every) where
      mutual
        pub exec-kept : (s : Tree) (env : Env) (left : ℕ) → OnlyUses (IsKept keep) s → exec s few some (narrowed keep env) left ≡ mapped (narrowed keep) (exec s all every env left)
        exec-kept (tree.assign (tree.ident name place) places value at) env left u =
            then-kept (narrowed keep) (eval_all places all env left) (eval_all places few (narrowed keep env) left) _ _ (all-kept places env left u.1) (λ is m.
            then-kept (narrowed keep) (eval value all env m) (eval value few (narrowed keep env) m) _ _ (eval-kept value env m u.2) (λ v k.
            assign-kept keep env name is v k u.0))
        exec-kept (tree.call_stmt (tree.ident name place) args at) env left u =
            then-kept (narrowed keep) (eval_all args all env left) (eval_all args few (narrowed keep env) left) _ _ (all-kept args env left u) (λ vs m.
            turn-kept (narrowed keep) m _ _ (λ k.
            then-mapped (only keep) (narrowed keep) (every env.globals name vs k) (some (only keep env.globals) name vs k) _ _ (do_ name env.globals vs k) (λ globals j. refl)))
        exec-kept (tree.if_stmt test first other at) env left u =
            then-kept (narrowed keep) (eval test all env left) (eval test few (narrowed keep env) left) _ _ (eval-kept test env left u.0) (λ v m.
            chosen-kept (narrowed keep) v _ _ _ _ m (λ k. statements-kept first env k u.1) (λ k. statements-kept other env k u.2))
        exec-kept (tree.while_stmt test body at) env left u =
            while-kept (suc left) (λ now k. eval test all now k) (λ now k. eval test few now k) (λ now k. exec_all body all every now k) (λ now k. exec_all body few some now k) env left
            (λ now k. eval-kept test now k u.0) (λ now k. statements-kept body now k u.1)
        exec-kept (tree.foreach_stmt shape (tree.ident name place) from to body at) env left u =
            then-kept (narrowed keep) (type_meant shape all env left) (type_meant shape few (narrowed keep env) left) _ _ (type-kept shape env left u.0) (λ t h.
            then-kept (narrowed keep) (eval from all env h) (eval from few (narrowed keep env) h) _ _ (eval-kept from env h u.1) (λ a j.
            then-kept (narrowed keep) (eval to all env j) (eval to few (narrowed keep env) j) _ _ (eval-kept to env j u.2) (λ b k.
            range-kept (narrowed keep) a b _ _ (λ low high.
            for-kept (span low high) low _ _ env k (λ i now m.
            inside-kept now (with_local (variable name t false (stored t (Num i))) now) (λ inner n. exec_all body all every inner n) (λ inner n. exec_all body few some inner n) m
            (statements-kept body (with_local (variable name t false (stored t (Num i))) now) m u.3))))))
        exec-kept (tree.block vars body at) env left u =
            then-mapped (narrowed keep) (narrowed keep) (with_vars vars all env left) (with_vars vars few (narrowed keep env) left) _ _ (vars-kept vars env left u.0) (λ inner m.
            inside-kept env inner (λ now k. exec_all body all every now k) (λ now k. exec_all body few some now k) m (statements-kept body inner m u.1))
        exec-kept other env left u = refl

        pub statements-kept : (ss : Tree) (env : Env) (left : ℕ) → OnlyUses (IsKept keep) ss
            → exec_all ss few some (narrowed keep env) left ≡ mapped (narrowed keep) (exec_all ss all every env left)
        statements-kept tree.nil env left u = refl
        statements-kept (tree.cons s rest) env left u =
            then-mapped (narrowed keep) (narrowed keep) (exec s all every env left) (exec s few some (narrowed keep env) left) _ _ (exec-kept s env left u.0) (λ next m.
            statements-kept rest next m u.1)
        statements-kept tree.absent env left u = refl
        statements-kept (tree.present body) env left u = statements-kept body env left u
        statements-kept other env left u = refl
