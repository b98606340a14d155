-- What an assignment makes of the variables of an environment.
use Rattle.std.proofs.Common.{◌≡◌, ℕ, suc, List, [], ◌∷◌, ◌++◌, length, Bool, true, false, refl, sym, ap, ◌∙◌, subst, Option, None, Some}
use Rattle.std.specs.Prelude.{if◌then◌else◌, ◌||◌}
use Rattle.std.specs.Str.{bytes_eq}
use Rattle.std.proofs.lemmas.Slice.Eq.{bytes_eq-Decides}
use Rattle.rvc_base.specs.declared.trap.Trap.{Trap}
use Rattle.cal_model.specs.Value.{Shape, Value, Values}
use Rattle.cal_model.specs.Outcome.{Out, Gives, Traps, Lacks, Clashes, and_then}
use Rattle.cal_model.specs.Env.{Var, Env, find, with_local, is_among, put, assigned_to, assigned, assign}
use Rattle.lower_stmt.specs.Changing.{var_named}
use Rattle.lower_base.specs.Following.{Follows}
use Rattle.lower_base.proofs.Runs.{follows_then}

-- the variables with a new value of the first that a text means
pub record Replaced (vars next : List Var) (text : List ℕ) (New : Value → Type 0) : Type 0 where
  pub value : Value
  pub new : New value
  pub old : Var
  pub was : var_named text vars ≡ Some old
  pub now : var_named text next ≡ Some (record old { value = value })
  pub others : (other : List ℕ) → bytes_eq text other ≡ false → var_named other next ≡ var_named other vars
  pub size : length next ≡ length vars

-- what is put into the variable that the text means, in whatever type it is stored
abbrev pub Puts : List Var → List ℕ → Values → Value → ℕ → (Value → Type 0) → (Trap → Type 0) → Type 0
Puts vars text places v left New T = (u : Var) (t : Shape) → var_named text vars ≡ Some u → u.kept ≡ Some t
    → Follows (put t u.value places v left) (λ w k. (k ≡ left) × New w) T

-- the value is new, and the rest of the variable stays
abbrev Rewritten : Var → (Value → Type 0) → ℕ → Var → ℕ → Type 0
Rewritten x New left y k = (k ≡ left) × ((w : Value) × New w × (y ≡ record x { value = w }))

rewritten : (x : Var) (places : Values) (v : Value) (left : ℕ) (New : Value → Type 0) (T : Trap → Type 0) (o : Option Shape)
    → ((t : Shape) → o ≡ Some t → Follows (put t x.value places v left) (λ w k. (k ≡ left) × New w) T)
    → Follows (elim o [ None ↦ Clashes | Some t ↦ and_then (put t x.value places v left) (λ w k. Gives (record x { value = w }) k) ]) (Rewritten x New left) T
rewritten x places v left New T None h = tt
rewritten x places v left New T (Some t) h =
    follows_then (put t x.value places v left) (λ w k. Gives (record x { value = w }) k) (λ w k. (k ≡ left) × New w) T (Rewritten x New left) T (h t refl)
    (λ w k p. (p.0, (w, p.1, refl))) (λ c t. t)

first_is : (b : Bool) (x : Var) (o : Option Var) → b ≡ true → (if b then Some x else o) ≡ Some x
first_is true x o e = refl
first_is false x o e = cc

first_not : (b : Bool) (x : Var) (o : Option Var) → b ≡ false → (if b then Some x else o) ≡ o
first_not true x o e = cc
first_not false x o e = refl

-- the first variable is the one
at_first : (x : Var) (xs : List Var) (text : List ℕ) (New : Value → Type 0) (y : Var) (w : Value) → bytes_eq x.name text ≡ true → New w → y ≡ record x { value = w }
    → Replaced (x ∷ xs) (y ∷ xs) text New
at_first x xs text New y w e new same =
    let called : x.name ≡ text = (bytes_eq-Decides x.name text).0 e in
    let z : Var = record x { value = w } in
    subst (λ (a : Var). Replaced (x ∷ xs) (a ∷ xs) text New) (sym same) (record {
      value = w;
      new = new;
      old = x;
      was = first_is (bytes_eq x.name text) x (var_named text xs) e;
      now = first_is (bytes_eq x.name text) z (var_named text xs) e;
      others = λ other f. let g : bytes_eq x.name other ≡ false = ap (λ n. bytes_eq n other) called ∙ f in first_not (bytes_eq x.name other) z (var_named other xs) g ∙ sym (first_not (bytes_eq x.name other) x (var_named other xs) g);
      size = refl;
    })

behind_first : (x : Var) (xs ys : List Var) (text : List ℕ) (New : Value → Type 0) → bytes_eq x.name text ≡ false → Replaced xs ys text New → Replaced (x ∷ xs) (x ∷ ys) text New
behind_first x xs ys text New e r = record {
  value = r.value;
  new = r.new;
  old = r.old;
  was = first_not (bytes_eq x.name text) x (var_named text xs) e ∙ r.was;
  now = first_not (bytes_eq x.name text) x (var_named text ys) e ∙ r.now;
  others = λ other f. ap (λ (o : Option Var). if bytes_eq x.name other then Some x else o) (r.others other f);
  size = ap suc r.size;
}

pub assigned_follows : (vars : List Var) (text : List ℕ) (places : Values) (v : Value) (left : ℕ) (New : Value → Type 0) (T : Trap → Type 0) → Puts vars text places v left New T
    → Follows (assigned vars text places v left) (λ next k. (k ≡ left) × Replaced vars next text New) T
assigned_follows [] text places v left New T h = tt
assigned_follows (x ∷ xs) text places v left New T h = go (bytes_eq x.name text) refl (assigned_follows xs text places v left New T)
  where
    go : (b : Bool) → bytes_eq x.name text ≡ b → (Puts xs text places v left New T → Follows (assigned xs text places v left) (λ next k. (k ≡ left) × Replaced xs next text New) T)
        → Follows (if b then and_then (assigned_to x places v left) (λ y k. Gives (y ∷ xs) k) else and_then (assigned xs text places v left) (λ ys k. Gives (x ∷ ys) k))
        (λ next k. (k ≡ left) × Replaced (x ∷ xs) next text New) T
    go true e later =
        follows_then (assigned_to x places v left) (λ y k. Gives (y ∷ xs) k) (Rewritten x New left) T (λ next k. (k ≡ left) × Replaced (x ∷ xs) next text New) T
        (rewritten x places v left New T x.kept (λ t f. h x t (first_is (bytes_eq x.name text) x (var_named text xs) e) f))
        (λ y k p. (p.0, at_first x xs text New y p.1.0 e p.1.1 p.1.2)) (λ c t. t)
    go false e later =
        follows_then (assigned xs text places v left) (λ ys k. Gives (x ∷ ys) k) (λ next k. (k ≡ left) × Replaced xs next text New) T (λ next k. (k ≡ left) × Replaced (x ∷ xs) next text New) T
        (later (λ u t f g. h u t (first_not (bytes_eq x.name text) x (var_named text xs) e ∙ f) g))
        (λ ys k p. (p.0, behind_first x xs ys text New e p.1)) (λ c t. t)

-- ---- environments

-- the first of two that is there
abbrev first_var : Option Var → Option Var → Option Var
first_var None y = y
first_var (Some u) y = Some u

joined : (text : List ℕ) (xs ys : List Var) → var_named text (xs ++ ys) ≡ first_var (var_named text xs) (var_named text ys)
joined text [] ys = refl
joined text (x ∷ xs) ys = go (bytes_eq x.name text) (joined text xs ys)
  where
    go : (b : Bool) → var_named text (xs ++ ys) ≡ first_var (var_named text xs) (var_named text ys) → (if b then Some x else var_named text (xs ++ ys)) ≡ first_var (if b then Some x else var_named text xs) (var_named text ys)
    go true later = refl
    go false later = later

in_front : (text : List ℕ) (xs ys : List Var) (u : Var) → var_named text xs ≡ Some u → var_named text (xs ++ ys) ≡ Some u
in_front text xs ys u e = joined text xs ys ∙ ap (λ o. first_var o (var_named text ys)) e

or_parts : (a b : Bool) → (a || b) ≡ false → (a ≡ false) × (b ≡ false)
or_parts true b e = cc
or_parts false b e = (refl, e)

none_among : (text : List ℕ) (xs : List Var) → is_among text xs ≡ false → var_named text xs ≡ None
none_among text [] e = refl
none_among text (x ∷ xs) e = let p = or_parts (bytes_eq x.name text) (is_among text xs) e in first_not (bytes_eq x.name text) x (var_named text xs) p.0 ∙ none_among text xs p.1

behind : (text : List ℕ) (xs ys : List Var) → is_among text xs ≡ false → var_named text (xs ++ ys) ≡ var_named text ys
behind text xs ys e = joined text xs ys ∙ ap (λ o. first_var o (var_named text ys)) (none_among text xs e)

-- the variables that an environment has
abbrev pub vars_of : Env → List Var
vars_of env = env.locals ++ env.globals

-- an environment with a new value of the variable that a text means
pub record EnvReplaced (env next : Env) (text : List ℕ) (New : Value → Type 0) : Type 0 where
  pub value : Value
  pub new : New value
  pub old : Var
  pub was : var_named text (vars_of env) ≡ Some old
  pub now : var_named text (vars_of next) ≡ Some (record old { value = value })
  pub others : (other : List ℕ) → bytes_eq text other ≡ false → var_named other (vars_of next) ≡ var_named other (vars_of env)
  pub size : length next.locals ≡ length env.locals

pub assign_follows : (env : Env) (text : List ℕ) (places : Values) (v : Value) (left : ℕ) (New : Value → Type 0) (T : Trap → Type 0) → Puts (vars_of env) text places v left New T
    → Follows (assign env text places v left) (λ next k. (k ≡ left) × EnvReplaced env next text New) T
assign_follows env text places v left New T h = go (is_among text env.locals) refl
  where
    go : (b : Bool) → is_among text env.locals ≡ b → Follows (if b then and_then (assigned env.locals text places v left) (λ xs k. Gives (record env { locals = xs }) k) else and_then (assigned env.globals text places v left) (λ xs k. Gives (record env { globals = xs }) k))
        (λ next k. (k ≡ left) × EnvReplaced env next text New) T
    go true e =
        follows_then (assigned env.locals text places v left) (λ xs k. Gives (record env { locals = xs }) k) (λ next k. (k ≡ left) × Replaced env.locals next text New) T (λ next k. (k ≡ left) × EnvReplaced env next text New) T
        (assigned_follows env.locals text places v left New T (λ u t f g. h u t (in_front text env.locals env.globals u f) g))
        (λ xs k p. let r = p.1 in (
          p.0,
          record {
            value = r.value;
            new = r.new;
            old = r.old;
            was = in_front text env.locals env.globals r.old r.was;
            now = in_front text xs env.globals (record r.old { value = r.value }) r.now;
            others = λ other f. joined other xs env.globals ∙ ap (λ o. first_var o (var_named other env.globals)) (r.others other f) ∙ sym (joined other env.locals env.globals);
            size = r.size;
          },
        )) (λ c t. t)
    go false e =
        follows_then (assigned env.globals text places v left) (λ xs k. Gives (record env { globals = xs }) k) (λ next k. (k ≡ left) × Replaced env.globals next text New) T (λ next k. (k ≡ left) × EnvReplaced env next text New) T
        (assigned_follows env.globals text places v left New T (λ u t f g. h u t (behind text env.locals env.globals e ∙ f) g))
        (λ xs k p. let r = p.1 in (
          p.0,
          record {
            value = r.value;
            new = r.new;
            old = r.old;
            was = behind text env.locals env.globals e ∙ r.was;
            now = behind text env.locals xs e ∙ r.now;
            others = λ other f. joined other env.locals xs ∙ ap (λ o. first_var (var_named other env.locals) o) (r.others other f) ∙ sym (joined other env.locals env.globals);
            size = refl;
          },
        )) (λ c t. t)

-- ---- one local more

-- the innermost variable is assigned
pub assign_top : (env : Env) (x : Var) (text : List ℕ) (places : Values) (v : Value) (left : ℕ) → bytes_eq x.name text ≡ true
    → assign (with_local x env) text places v left ≡ and_then (assigned_to x places v left) (λ y k. Gives (with_local y env) k)
assign_top env x text places v left e = top (bytes_eq x.name text) e ∙ merged (assigned_to x places v left)
  where
    merged : (o : Out Var) → and_then (and_then o (λ y k. Gives (y ∷ env.locals) k)) (λ xs k. Gives (record (with_local x env) { locals = xs }) k) ≡ and_then o (λ y k. Gives (with_local y env) k)
    merged (Gives a k) = refl
    merged (Traps c) = refl
    merged Lacks = refl
    merged Clashes = refl

    top : (b : Bool) → b ≡ true
        → (if b || is_among text env.locals
        then and_then (if b then and_then (assigned_to x places v left) (λ y k. Gives (y ∷ env.locals) k) else and_then (assigned env.locals text places v left) (λ ys k. Gives (x ∷ ys) k)) (λ xs k. Gives (record (with_local x env) { locals = xs }) k)
        else and_then (assigned env.globals text places v left) (λ xs k. Gives (record (with_local x env) { globals = xs }) k))
        ≡ and_then (and_then (assigned_to x places v left) (λ y k. Gives (y ∷ env.locals) k)) (λ xs k. Gives (record (with_local x env) { locals = xs }) k)
    top true e = refl
    top false e = cc

-- one that is outside is assigned
pub assign_under : (env : Env) (x : Var) (text : List ℕ) (places : Values) (v : Value) (left : ℕ) → bytes_eq x.name text ≡ false
    → assign (with_local x env) text places v left ≡ and_then (assign env text places v left) (λ next k. Gives (with_local x next) k)
assign_under env x text places v left e = top (bytes_eq x.name text) (is_among text env.locals) e
  where
    local : (o : Out (List Var)) → and_then (and_then o (λ ys k. Gives (x ∷ ys) k)) (λ xs k. Gives (record (with_local x env) { locals = xs }) k) ≡ and_then (and_then o (λ xs k. Gives (record env { locals = xs }) k)) (λ next k. Gives (with_local x next) k)
    local (Gives a k) = refl
    local (Traps c) = refl
    local Lacks = refl
    local Clashes = refl

    global : (o : Out (List Var)) → and_then o (λ xs k. Gives (record (with_local x env) { globals = xs }) k) ≡ and_then (and_then o (λ xs k. Gives (record env { globals = xs }) k)) (λ next k. Gives (with_local x next) k)
    global (Gives a k) = refl
    global (Traps c) = refl
    global Lacks = refl
    global Clashes = refl

    top : (b a : Bool) → b ≡ false
        → (if b || a
        then and_then (if b then and_then (assigned_to x places v left) (λ y k. Gives (y ∷ env.locals) k) else and_then (assigned env.locals text places v left) (λ ys k. Gives (x ∷ ys) k)) (λ xs k. Gives (record (with_local x env) { locals = xs }) k)
        else and_then (assigned env.globals text places v left) (λ xs k. Gives (record (with_local x env) { globals = xs }) k))
        ≡ and_then (if a then and_then (assigned env.locals text places v left) (λ xs k. Gives (record env { locals = xs }) k) else and_then (assigned env.globals text places v left) (λ xs k. Gives (record env { globals = xs }) k)) (λ next k. Gives (with_local x next) k)
    top true a e = cc
    top false true e = local (assigned env.locals text places v left)
    top false false e = global (assigned env.globals text places v left)

-- what is assigned to a variable
pub assigned_to_follows : (x : Var) (places : Values) (v : Value) (left : ℕ) (New : Value → Type 0) (T : Trap → Type 0)
    → ((t : Shape) → x.kept ≡ Some t → Follows (put t x.value places v left) (λ w k. (k ≡ left) × New w) T)
    → Follows (assigned_to x places v left) (λ y k. (k ≡ left) × ((w : Value) × New w × (y ≡ record x { value = w }))) T
assigned_to_follows x places v left New T h = rewritten x places v left New T x.kept h

-- ---- what names mean

pub found_value : (text : List ℕ) (xs : List Var) (o : Option Var) → var_named text xs ≡ o → find text xs ≡ elim o [ None ↦ None | Some u ↦ Some u.value ]
found_value text [] o e = ap (λ (p : Option Var). elim p [ None ↦ None | Some u ↦ Some u.value ]) e
found_value text (x ∷ xs) o e = go (bytes_eq x.name text) (found_value text xs o) e
  where
    go : (b : Bool) → (var_named text xs ≡ o → find text xs ≡ elim o [ None ↦ None | Some u ↦ Some u.value ]) → (if b then Some x else var_named text xs) ≡ o → (if b then Some x.value else find text xs) ≡ elim o [ None ↦ None | Some u ↦ Some u.value ]
    go true later f = ap (λ (p : Option Var). elim p [ None ↦ None | Some u ↦ Some u.value ]) f
    go false later f = later f
