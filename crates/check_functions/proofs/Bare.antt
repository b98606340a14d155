-- What must be constant in a part says only such names, and calls only such functions.
use Rattle.std.proofs.Common.{◌≡◌, ℕ, Bool, true, false, ◌||◌, List, [], ◌∷◌, ◌++◌, refl, ap}
use Rattle.std.specs.Prelude.{if◌then◌else◌}
use Rattle.std.specs.Str.{bytes_eq}
use Rattle.cal_ast.specs.Tree as tree
use Rattle.cal_ast.specs.Tree.{Tree}
use Rattle.cal_check.specs.Routines.{FunDecl}
use Rattle.cal_check.specs.Uses.{OnlyUses}
use Rattle.cal_model.specs.Tags.{is_seen, with_seen}
use Rattle.cal_model.proofs.KindNames.{text-same}
use Rattle.check_functions.specs.Calls.{calls_any}
use Rattle.check_functions.specs.Needs.{Needed, needs_of, nothing, with_call, with_funs_needs, with_name, with_needs}

abbrev pub If : Bool → Type 0 → Type 0
If true A = A
If false A = Unit {0}

-- all of the part must be constant, or only the sizes and the bounds in it
abbrev pub SaysOnly : (P : List ℕ → Type 0) (C : List ℕ → Type 0) → Bool → Tree → Type 0
SaysOnly P C constant (tree.variable text at) = If constant (P text)
SaysOnly P C constant (tree.call text args at) = If constant (C text) × SaysOnly P C constant args
SaysOnly P C constant (tree.cons t ts) = SaysOnly P C constant t × SaysOnly P C constant ts
SaysOnly P C constant (tree.present t) = SaysOnly P C constant t
SaysOnly P C constant (tree.paren e at) = SaysOnly P C constant e
SaysOnly P C constant (tree.if_expr test first other at) =
    SaysOnly P C constant test × SaysOnly P C constant first × SaysOnly P C constant other
SaysOnly P C constant (tree.list items at) = SaysOnly P C constant items
SaysOnly P C constant (tree.comp item gens at) = SaysOnly P C constant item × SaysOnly P C true gens
SaysOnly P C constant (tree.gen shape x from to at) =
    SaysOnly P C true shape × SaysOnly P C true from × SaysOnly P C true to
SaysOnly P C constant (tree.index base place at) =
    SaysOnly P C constant base × SaysOnly P C constant place
SaysOnly P C constant (tree.prefix op e at) = SaysOnly P C constant e
SaysOnly P C constant (tree.binary op l r at) = SaysOnly P C constant l × SaysOnly P C constant r
SaysOnly P C constant (tree.type_of x args at) = SaysOnly P C true args
SaysOnly P C constant (tree.shape_arg x shape) = SaysOnly P C true shape
SaysOnly P C constant (tree.value_arg x value) = SaysOnly P C true value
SaysOnly P C constant (tree.port shape x at) = SaysOnly P C true shape
SaysOnly P C constant (tree.var shape x start changes at) = SaysOnly P C true shape × SaysOnly P C false start
SaysOnly P C constant (tree.function x formals result vars body at) =
    SaysOnly P C false formals × SaysOnly P C true result × SaysOnly P C false vars × SaysOnly P C false body
SaysOnly P C constant other = Unit {0}

abbrev pub AllSay : (P : List ℕ → Type 0) (C : List ℕ → Type 0) → List FunDecl → Type 0
AllSay P C [] = Unit {0}
AllSay P C (f ∷ fs) = SaysOnly P C false f.decl × AllSay P C fs

abbrev pub Any : List ℕ → Type 0
Any name = Unit {0}

abbrev pub No : List ℕ → Type 0
No name = ⊥

-- ---- parts that call no function

or_left : (a b : Bool) → (a || b) ≡ false → a ≡ false
or_left true b h = h
or_left false b h = refl

or_right : (a b : Bool) → (a || b) ≡ false → b ≡ false
or_right true b h = cc
or_right false b h = h

pub none_called : (t : Tree) → calls_any t ≡ false → SaysOnly Any No true t
none_called (tree.number n at) h = tt
none_called (tree.truth b at) h = tt
none_called (tree.variable name at) h = tt
none_called tree.nil h = tt
none_called tree.absent h = tt
none_called (tree.call name args at) h = cc
none_called (tree.cons t ts) h = (none_called t (or_left (calls_any t) (calls_any ts) h), none_called ts (or_right (calls_any t) (calls_any ts) h))
none_called (tree.present t) h = none_called t h
none_called (tree.paren e at) h = none_called e h
none_called (tree.if_expr test first other at) h =
    let rest = or_right (calls_any test) (calls_any first || calls_any other) h in (
      none_called test (or_left (calls_any test) (calls_any first || calls_any other) h),
      none_called first (or_left (calls_any first) (calls_any other) rest),
      none_called other (or_right (calls_any first) (calls_any other) rest),
    )
none_called (tree.list items at) h = none_called items h
none_called (tree.comp item gens at) h = (none_called item (or_left (calls_any item) (calls_any gens) h), none_called gens (or_right (calls_any item) (calls_any gens) h))
none_called (tree.gen shape name from to at) h =
    let rest = or_right (calls_any shape) (calls_any from || calls_any to) h in (
      none_called shape (or_left (calls_any shape) (calls_any from || calls_any to) h),
      none_called from (or_left (calls_any from) (calls_any to) rest),
      none_called to (or_right (calls_any from) (calls_any to) rest),
    )
none_called (tree.index base place at) h = (none_called base (or_left (calls_any base) (calls_any place) h), none_called place (or_right (calls_any base) (calls_any place) h))
none_called (tree.prefix op e at) h = none_called e h
none_called (tree.binary op l r at) h = (none_called l (or_left (calls_any l) (calls_any r) h), none_called r (or_right (calls_any l) (calls_any r) h))
none_called (tree.type_of name args at) h = none_called args h
none_called (tree.shape_arg name shape) h = none_called shape h
none_called (tree.value_arg name value) h = none_called value h
none_called other h = cc

-- ---- what is needed is said

-- what was needed before is needed now
record Grows (n m : Needed) : Type 0 where
  names : (x : List ℕ) → is_seen x n.names ≡ true → is_seen x m.names ≡ true
  calls : (x : List ℕ) → is_seen x n.calls ≡ true → is_seen x m.calls ≡ true

same : (n : Needed) → Grows n n
same n = record { names = λ x h. h; calls = λ x h. h }

and_then : (n m o : Needed) → Grows n m → Grows m o → Grows n o
and_then n m o g h = record { names = λ x i. h.names x (g.names x i); calls = λ x i. h.calls x (g.calls x i) }

seen_before : (x : List ℕ) (names more : List (List ℕ)) → is_seen x names ≡ true → is_seen x (names ++ more) ≡ true
seen_before x [] more h = cc
seen_before x (y ∷ names) more h = go (bytes_eq y x) h (λ i. seen_before x names more i)
  where
    go : (b : Bool) → (b || is_seen x names) ≡ true → (is_seen x names ≡ true → is_seen x (names ++ more) ≡ true) → (b || is_seen x (names ++ more)) ≡ true
    go true h i = refl
    go false h i = i h

seen_last : (x : List ℕ) (names : List (List ℕ)) → is_seen x (names ++ x ∷ []) ≡ true
seen_last x [] = ap (λ b. b || false) (text-same x)
seen_last x (y ∷ names) = go (bytes_eq y x) (seen_last x names)
  where
    go : (b : Bool) → is_seen x (names ++ x ∷ []) ≡ true → (b || is_seen x (names ++ x ∷ [])) ≡ true
    go true h = refl
    go false h = h

pub still_seen : (x name : List ℕ) (names : List (List ℕ)) → is_seen x names ≡ true → is_seen x (with_seen names name) ≡ true
still_seen x name names h = go (is_seen name names)
  where
    go : (b : Bool) → is_seen x (if b then names else names ++ name ∷ []) ≡ true
    go true = h
    go false = seen_before x names (name ∷ []) h

pub now_seen : (name : List ℕ) (names : List (List ℕ)) → is_seen name (with_seen names name) ≡ true
now_seen name names = go (is_seen name names) refl
  where
    go : (b : Bool) → is_seen name names ≡ b → is_seen name (if b then names else names ++ name ∷ []) ≡ true
    go true h = h
    go false h = seen_last name names

grows_name : (constant : Bool) (name : List ℕ) (n : Needed) → Grows n (with_name constant name n)
grows_name true name n = record { names = λ x h. still_seen x name n.names h; calls = λ x h. h }
grows_name false name n = same n

grows_call : (constant : Bool) (name : List ℕ) (n : Needed) → Grows n (with_call constant name n)
grows_call true name n = record { names = λ x h. h; calls = λ x h. still_seen x name n.calls h }
grows_call false name n = same n

grows : (constant : Bool) (t : Tree) (n : Needed) → Grows n (with_needs constant t n)
grows constant (tree.variable text at) n = grows_name constant text n
grows constant (tree.call text args at) n =
    let m = with_call constant text n in
    and_then n m (with_needs constant args m) (grows_call constant text n) (grows constant args m)
grows constant (tree.cons t ts) n = and_then n (with_needs constant t n) (with_needs constant ts (with_needs constant t n)) (grows constant t n) (grows constant ts (with_needs constant t n))
grows constant (tree.present t) n = grows constant t n
grows constant (tree.paren e at) n = grows constant e n
grows constant (tree.if_expr test first other at) n =
    let m = with_needs constant test n in
    let o = with_needs constant first m in
    and_then n m (with_needs constant other o) (grows constant test n) (and_then m o (with_needs constant other o) (grows constant first m) (grows constant other o))
grows constant (tree.list items at) n = grows constant items n
grows constant (tree.comp item gens at) n = and_then n (with_needs constant item n) (with_needs true gens (with_needs constant item n)) (grows constant item n) (grows true gens (with_needs constant item n))
grows constant (tree.gen shape x from to at) n =
    let m = with_needs true shape n in
    let o = with_needs true from m in
    and_then n m (with_needs true to o) (grows true shape n) (and_then m o (with_needs true to o) (grows true from m) (grows true to o))
grows constant (tree.index base place at) n = and_then n (with_needs constant base n) (with_needs constant place (with_needs constant base n)) (grows constant base n) (grows constant place (with_needs constant base n))
grows constant (tree.prefix op e at) n = grows constant e n
grows constant (tree.binary op l r at) n = and_then n (with_needs constant l n) (with_needs constant r (with_needs constant l n)) (grows constant l n) (grows constant r (with_needs constant l n))
grows constant (tree.type_of x args at) n = grows true args n
grows constant (tree.shape_arg x shape) n = grows true shape n
grows constant (tree.value_arg x value) n = grows true value n
grows constant (tree.port shape x at) n = grows true shape n
grows constant (tree.var shape x start changes at) n = and_then n (with_needs true shape n) (with_needs false start (with_needs true shape n)) (grows true shape n) (grows false start (with_needs true shape n))
grows constant (tree.function x formals result vars body at) n =
    let m = with_needs false formals n in
    let o = with_needs true result m in
    let p = with_needs false vars o in
    and_then n m (with_needs false body p) (grows false formals n)
    (and_then m o (with_needs false body p) (grows true result m) (and_then o p (with_needs false body p) (grows false vars o) (grows false body p)))
grows constant other n = same n

module _ (P : List ℕ → Type 0) (C : List ℕ → Type 0) where
  -- P holds of the names that are needed, and C of the functions
  record Allows (n : Needed) : Type 0 where
    names : (x : List ℕ) → is_seen x n.names ≡ true → P x
    calls : (x : List ℕ) → is_seen x n.calls ≡ true → C x

  before : (n m : Needed) → Grows n m → Allows m → Allows n
  before n m g a = record { names = λ x h. a.names x (g.names x h); calls = λ x h. a.calls x (g.calls x h) }

  name_said : (constant : Bool) (name : List ℕ) (n : Needed) → Allows (with_name constant name n) → If constant (P name)
  name_said true name n a = a.names name (now_seen name n.names)
  name_said false name n a = tt

  name_called : (constant : Bool) (name : List ℕ) (n : Needed) → Allows (with_call constant name n) → If constant (C name)
  name_called true name n a = a.calls name (now_seen name n.calls)
  name_called false name n a = tt

  -- two parts in a row
  both : (b c : Bool) (t u : Tree) (n : Needed) → (Allows (with_needs b t n) → SaysOnly P C b t) → (Allows (with_needs c u (with_needs b t n)) → SaysOnly P C c u)
      → Allows (with_needs c u (with_needs b t n)) → SaysOnly P C b t × SaysOnly P C c u
  both b c t u n f g a = (f (before (with_needs b t n) (with_needs c u (with_needs b t n)) (grows c u (with_needs b t n)) a), g a)

  says : (constant : Bool) (t : Tree) (n : Needed) → Allows (with_needs constant t n) → SaysOnly P C constant t
  says constant (tree.variable text at) n a = name_said constant text n a
  says constant (tree.call text args at) n a =
      let m = with_call constant text n in
      (name_called constant text n (before m (with_needs constant args m) (grows constant args m) a), says constant args m a)
  says constant (tree.cons t ts) n a = both constant constant t ts n (λ x. says constant t n x) (λ x. says constant ts (with_needs constant t n) x) a
  says constant (tree.present t) n a = says constant t n a
  says constant (tree.paren e at) n a = says constant e n a
  says constant (tree.if_expr test first other at) n a =
      let m = with_needs constant test n in
      let o = with_needs constant first m in
      let b = before o (with_needs constant other o) (grows constant other o) a in
      (says constant test n (before m o (grows constant first m) b), says constant first m b, says constant other o a)
  says constant (tree.list items at) n a = says constant items n a
  says constant (tree.comp item gens at) n a = both constant true item gens n (λ x. says constant item n x) (λ x. says true gens (with_needs constant item n) x) a
  says constant (tree.gen shape x from to at) n a =
      let m = with_needs true shape n in
      let o = with_needs true from m in
      let b = before o (with_needs true to o) (grows true to o) a in
      (says true shape n (before m o (grows true from m) b), says true from m b, says true to o a)
  says constant (tree.index base place at) n a = both constant constant base place n (λ x. says constant base n x) (λ x. says constant place (with_needs constant base n) x) a
  says constant (tree.prefix op e at) n a = says constant e n a
  says constant (tree.binary op l r at) n a = both constant constant l r n (λ x. says constant l n x) (λ x. says constant r (with_needs constant l n) x) a
  says constant (tree.type_of x args at) n a = says true args n a
  says constant (tree.shape_arg x shape) n a = says true shape n a
  says constant (tree.value_arg x value) n a = says true value n a
  says constant (tree.port shape x at) n a = says true shape n a
  says constant (tree.var shape x start changes at) n a = both true false shape start n (λ x. says true shape n x) (λ x. says false start (with_needs true shape n) x) a
  says constant (tree.function x formals result vars body at) n a =
      let m = with_needs false formals n in
      let o = with_needs true result m in
      let p = with_needs false vars o in
      let c = before p (with_needs false body p) (grows false body p) a in
      let b = before o p (grows false vars o) c in
      (says false formals n (before m o (grows true result m) b), says true result m b, says false vars o c, says false body p a)
  says constant other n a = tt

  grow_all : (fs : List FunDecl) (n : Needed) → Grows n (with_funs_needs fs n)
  grow_all [] n = same n
  grow_all (f ∷ fs) n = and_then n (with_needs false f.decl n) (with_funs_needs fs (with_needs false f.decl n)) (grows false f.decl n) (grow_all fs (with_needs false f.decl n))

  all_say : (fs : List FunDecl) (n : Needed) → Allows (with_funs_needs fs n) → AllSay P C fs
  all_say [] n a = tt
  all_say (f ∷ fs) n a =
      let m = with_needs false f.decl n in
      (says false f.decl n (before m (with_funs_needs fs m) (grow_all fs m) a), all_say fs m a)

-- functions say and call only what they need
pub need_all : (P C : List ℕ → Type 0) (fs : List FunDecl) → ((x : List ℕ) → is_seen x (needs_of fs).names ≡ true → P x) → ((x : List ℕ) → is_seen x (needs_of fs).calls ≡ true → C x) → AllSay P C fs
need_all P C fs h i = all_say P C fs nothing (record { names = h; calls = i })

-- ---- two in one

both_if : {A B C : Type 0} (b : Bool) → (A → B → C) → If b A → If b B → If b C
both_if true f x y = f x y
both_if false f x y = tt

module _ (P C Q D R E : List ℕ → Type 0) (f : (x : List ℕ) → P x → Q x → R x) (g : (x : List ℕ) → C x → D x → E x) where
  pub says_both : (constant : Bool) (t : Tree) → SaysOnly P C constant t → SaysOnly Q D constant t → SaysOnly R E constant t
  says_both constant (tree.variable text at) s r = both_if constant (f text) s r
  says_both constant (tree.call text args at) s r = (both_if constant (g text) s.0 r.0, says_both constant args s.1 r.1)
  says_both constant (tree.cons t ts) s r = (says_both constant t s.0 r.0, says_both constant ts s.1 r.1)
  says_both constant (tree.present t) s r = says_both constant t s r
  says_both constant (tree.paren e at) s r = says_both constant e s r
  says_both constant (tree.if_expr test first other at) s r = (says_both constant test s.0 r.0, says_both constant first s.1 r.1, says_both constant other s.2 r.2)
  says_both constant (tree.list items at) s r = says_both constant items s r
  says_both constant (tree.comp item gens at) s r = (says_both constant item s.0 r.0, says_both true gens s.1 r.1)
  says_both constant (tree.gen shape x from to at) s r = (says_both true shape s.0 r.0, says_both true from s.1 r.1, says_both true to s.2 r.2)
  says_both constant (tree.index base place at) s r = (says_both constant base s.0 r.0, says_both constant place s.1 r.1)
  says_both constant (tree.prefix op e at) s r = says_both constant e s r
  says_both constant (tree.binary op l o at) s r = (says_both constant l s.0 r.0, says_both constant o s.1 r.1)
  says_both constant (tree.type_of x args at) s r = says_both true args s r
  says_both constant (tree.shape_arg x shape) s r = says_both true shape s r
  says_both constant (tree.value_arg x value) s r = says_both true value s r
  says_both constant (tree.port shape x at) s r = says_both true shape s r
  says_both constant (tree.var shape x start changes at) s r = (says_both true shape s.0 r.0, says_both false start s.1 r.1)
  says_both constant (tree.function x formals result vars body at) s r =
      (says_both false formals s.0 r.0, says_both true result s.1 r.1, says_both false vars s.2 r.2, says_both false body s.3 r.3)
  says_both constant other s r = tt

-- ---- parts that use only such names

if_so : {A : Type 0} (b : Bool) → A → If b A
if_so true a = a
if_so false a = tt

pub uses_says : (P : List ℕ → Type 0) (constant : Bool) (t : Tree) → OnlyUses P t → SaysOnly P P constant t
uses_says P constant (tree.variable text at) u = if_so constant u
uses_says P constant (tree.call text args at) u = (if_so constant u.0, uses_says P constant args u.1)
uses_says P constant (tree.cons t ts) u = (uses_says P constant t u.0, uses_says P constant ts u.1)
uses_says P constant (tree.present t) u = uses_says P constant t u
uses_says P constant (tree.paren e at) u = uses_says P constant e u
uses_says P constant (tree.if_expr test first other at) u = (uses_says P constant test u.0, uses_says P constant first u.1, uses_says P constant other u.2)
uses_says P constant (tree.list items at) u = uses_says P constant items u
uses_says P constant (tree.comp item gens at) u = (uses_says P constant item u.0, uses_says P true gens u.1)
uses_says P constant (tree.gen shape x from to at) u = (uses_says P true shape u.0, uses_says P true from u.1, uses_says P true to u.2)
uses_says P constant (tree.index base place at) u = (uses_says P constant base u.0, uses_says P constant place u.1)
uses_says P constant (tree.prefix op e at) u = uses_says P constant e u
uses_says P constant (tree.binary op l r at) u = (uses_says P constant l u.0, uses_says P constant r u.1)
uses_says P constant (tree.type_of x args at) u = uses_says P true args u
uses_says P constant (tree.shape_arg x shape) u = uses_says P true shape u
uses_says P constant (tree.value_arg x value) u = uses_says P true value u
uses_says P constant (tree.port shape x at) u = uses_says P true shape u
uses_says P constant (tree.var shape x start changes at) u = (uses_says P true shape u.0, uses_says P false start u.1)
uses_says P constant (tree.function x formals result vars body at) u =
    (uses_says P false formals u.0, uses_says P true result u.1, uses_says P false vars u.2, uses_says P false body u.3)
uses_says P constant other u = tt

-- ---- parts that say anything

pub any_says : (constant : Bool) (t : Tree) → SaysOnly Any Any constant t
any_says constant (tree.variable text at) = if_so constant tt
any_says constant (tree.call text args at) = (if_so constant tt, any_says constant args)
any_says constant (tree.cons t ts) = (any_says constant t, any_says constant ts)
any_says constant (tree.present t) = any_says constant t
any_says constant (tree.paren e at) = any_says constant e
any_says constant (tree.if_expr test first other at) = (any_says constant test, any_says constant first, any_says constant other)
any_says constant (tree.list items at) = any_says constant items
any_says constant (tree.comp item gens at) = (any_says constant item, any_says true gens)
any_says constant (tree.gen shape x from to at) = (any_says true shape, any_says true from, any_says true to)
any_says constant (tree.index base place at) = (any_says constant base, any_says constant place)
any_says constant (tree.prefix op e at) = any_says constant e
any_says constant (tree.binary op l r at) = (any_says constant l, any_says constant r)
any_says constant (tree.type_of x args at) = any_says true args
any_says constant (tree.shape_arg x shape) = any_says true shape
any_says constant (tree.value_arg x value) = any_says true value
any_says constant (tree.port shape x at) = any_says true shape
any_says constant (tree.var shape x start changes at) = (any_says true shape, any_says false start)
any_says constant (tree.function x formals result vars body at) = (any_says false formals, any_says true result, any_says false vars, any_says false body)
any_says constant other = tt
