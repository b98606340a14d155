-- The names that are collected in a part are those that it uses.
use Rattle.std.proofs.Common.{◌≡◌, ℕ, Bool, true, false, ◌||◌, List, [], ◌∷◌, ◌++◌, refl, sym, ap, ◌∙◌}
use Rattle.std.specs.Prelude.{if◌then◌else◌}
use Rattle.std.specs.Str.{bytes_eq}
use Rattle.cal_ast.specs.Tree as tree
use Rattle.cal_ast.specs.Tree.{Tree}
use Rattle.cal_model.proofs.KindNames.{same-text}
use Rattle.cal_model.specs.Tags.{is_seen, with_seen}
use Rattle.cal_check.specs.Actors.{uses}
use Rattle.check_used.proofs.Keys.{eq_turned}
use Rattle.check_used.specs.Naming.{with_names}

pub or_assoc : (a b c : Bool) → ((a || b) || c) ≡ (a || (b || c))
or_assoc true b c = refl
or_assoc false b c = refl

pub or_none : (a : Bool) → (a || false) ≡ a
or_none true = refl
or_none false = refl

seen_behind : (x name : List ℕ) (names : List (List ℕ)) → is_seen x (names ++ name ∷ []) ≡ (is_seen x names || bytes_eq x name)
seen_behind x name [] = or_none (bytes_eq name x) ∙ eq_turned name x
seen_behind x name (y ∷ names) =
    ap (λ b. bytes_eq y x || b) (seen_behind x name names) ∙ sym (or_assoc (bytes_eq y x) (is_seen x names) (bytes_eq x name))

-- one name more
pub seen_added : (x name : List ℕ) (names : List (List ℕ)) → is_seen x (with_seen names name) ≡ (is_seen x names || bytes_eq x name)
seen_added x name names = go (is_seen name names) refl
  where
    there : (b : Bool) → bytes_eq x name ≡ b → is_seen name names ≡ true → is_seen x names ≡ (is_seen x names || b)
    there false e h = sym (or_none (is_seen x names))
    there true e h = ap (λ y. is_seen y names) (same-text x name e) ∙ h ∙ sym (ap (λ y. is_seen y names || true) (same-text x name e) ∙ ap (λ b. b || true) h)

    go : (b : Bool) → is_seen name names ≡ b → is_seen x (if b then names else names ++ name ∷ []) ≡ (is_seen x names || bytes_eq x name)
    go true h = there (bytes_eq x name) refl h
    go false h = seen_behind x name names

-- what is in two parts, from what is in each
two : (x : List ℕ) (t u : Tree) (names : List (List ℕ)) → is_seen x (with_names u (with_names t names)) ≡ (is_seen x (with_names t names) || uses x u)
    → is_seen x (with_names t names) ≡ (is_seen x names || uses x t) → is_seen x (with_names u (with_names t names)) ≡ (is_seen x names || (uses x t || uses x u))
two x t u names second first = second ∙ ap (λ b. b || uses x u) first ∙ or_assoc (is_seen x names) (uses x t) (uses x u)

-- .. and in front of them others
more : (a b c : Bool) (d e : Bool) → d ≡ (a || b) → e ≡ (d || c) → e ≡ (a || (b || c))
more a b c d e p q = q ∙ ap (λ x. x || c) p ∙ or_assoc a b c

three : (x : List ℕ) (t u v : Tree) (names : List (List ℕ)) → is_seen x (with_names t names) ≡ (is_seen x names || uses x t)
    → is_seen x (with_names u (with_names t names)) ≡ (is_seen x (with_names t names) || uses x u)
    → is_seen x (with_names v (with_names u (with_names t names))) ≡ (is_seen x (with_names u (with_names t names)) || uses x v)
    → is_seen x (with_names v (with_names u (with_names t names))) ≡ (is_seen x names || (uses x t || (uses x u || uses x v)))
three x t u v names a b c =
    more (is_seen x names) (uses x t) (uses x u || uses x v) (is_seen x (with_names t names)) (is_seen x (with_names v (with_names u (with_names t names)))) a
    (two x u v (with_names t names) c b)

pub collected : (x : List ℕ) (t : Tree) (names : List (List ℕ)) → is_seen x (with_names t names) ≡ (is_seen x names || uses x t)
collected x (tree.variable text at) names = seen_added x text names
collected x (tree.call text args at) names = more (is_seen x names) (bytes_eq x text) (uses x args) (is_seen x (with_seen names text)) (is_seen x (with_names args (with_seen names text))) (seen_added x text names) (collected x args (with_seen names text))
collected x (tree.cons t ts) names = two x t ts names (collected x ts (with_names t names)) (collected x t names)
collected x (tree.present t) names = collected x t names
collected x (tree.paren e at) names = collected x e names
collected x (tree.if_expr test first other at) names =
    three x test first other names (collected x test names) (collected x first (with_names test names)) (collected x other (with_names first (with_names test names)))
collected x (tree.list items at) names = collected x items names
collected x (tree.comp item gens at) names = two x item gens names (collected x gens (with_names item names)) (collected x item names)
collected x (tree.gen shape y from to at) names =
    three x shape from to names (collected x shape names) (collected x from (with_names shape names)) (collected x to (with_names from (with_names shape names)))
collected x (tree.index base place at) names = two x base place names (collected x place (with_names base names)) (collected x base names)
collected x (tree.prefix op e at) names = collected x e names
collected x (tree.binary op l r at) names = two x l r names (collected x r (with_names l names)) (collected x l names)
collected x (tree.type_of y args at) names = collected x args names
collected x (tree.shape_arg y shape) names = collected x shape names
collected x (tree.value_arg y value) names = collected x value names
collected x (tree.assign (tree.ident y place) places value at) names =
    let n = with_seen names y in
    more (is_seen x names) (bytes_eq x y) (uses x places || uses x value) (is_seen x n) (is_seen x (with_names value (with_names places n))) (seen_added x y names)
    (two x places value n (collected x value (with_names places n)) (collected x places n))
collected x (tree.call_stmt y args at) names = collected x args names
collected x (tree.if_stmt test first other at) names =
    three x test first other names (collected x test names) (collected x first (with_names test names)) (collected x other (with_names first (with_names test names)))
collected x (tree.while_stmt test body at) names = two x test body names (collected x body (with_names test names)) (collected x test names)
collected x (tree.foreach_stmt shape y from to body at) names =
    let n = with_names shape names in
    more (is_seen x names) (uses x shape) (uses x from || (uses x to || uses x body)) (is_seen x n) (is_seen x (with_names body (with_names to (with_names from n)))) (collected x shape names)
    (three x from to body n (collected x from n) (collected x to (with_names from n)) (collected x body (with_names to (with_names from n))))
collected x (tree.block vars body at) names = two x vars body names (collected x body (with_names vars names)) (collected x vars names)
collected x (tree.param shape y start at) names = two x shape start names (collected x start (with_names shape names)) (collected x shape names)
collected x (tree.port shape y at) names = collected x shape names
collected x (tree.var shape y start changes at) names = two x shape start names (collected x start (with_names shape names)) (collected x shape names)
collected x (tree.function y formals result vars body at) names =
    let n = with_names formals names in
    more (is_seen x names) (uses x formals) (uses x result || (uses x vars || uses x body)) (is_seen x n) (is_seen x (with_names body (with_names vars (with_names result n)))) (collected x formals names)
    (three x result vars body n (collected x result n) (collected x vars (with_names result n)) (collected x body (with_names vars (with_names result n))))
collected x (tree.procedure y formals vars body at) names =
    three x formals vars body names (collected x formals names) (collected x vars (with_names formals names)) (collected x body (with_names vars (with_names formals names)))
collected x (tree.action tagged initialize ins outs guards vars body at) names =
    let n = with_names ins names in
    let m = with_names outs n in
    let all = with_names body (with_names vars (with_names guards m)) in
    more (is_seen x names) (uses x ins) (uses x outs || (uses x guards || (uses x vars || uses x body))) (is_seen x n) (is_seen x all) (collected x ins names)
    (more (is_seen x n) (uses x outs) (uses x guards || (uses x vars || uses x body)) (is_seen x m) (is_seen x all) (collected x outs n)
    (three x guards vars body m (collected x guards m) (collected x vars (with_names guards m)) (collected x body (with_names vars (with_names guards m)))))
collected x (tree.pattern asked vars repeat at) names = collected x repeat names
collected x (tree.output asked values repeat at) names = two x values repeat names (collected x repeat (with_names values names)) (collected x values names)
collected x (tree.actor y params ins outs members at) names =
    let n = with_names params names in
    more (is_seen x names) (uses x params) (uses x ins || (uses x outs || uses x members)) (is_seen x n) (is_seen x (with_names members (with_names outs (with_names ins n)))) (collected x params names)
    (three x ins outs members n (collected x ins n) (collected x outs (with_names ins n)) (collected x members (with_names outs (with_names ins n))))
collected x other names = sym (or_none (is_seen x names))
