-- A file with each name written out in full declares what it declared before.
use Rattle.std.proofs.Common.{◌≡◌, ℕ, Bool, true, false, List, [], ◌∷◌, refl, ap, subst, arith}
use Rattle.std.specs.Prelude.{if◌then◌else◌}
use Rattle.rvc_base.specs.Rules.{declared_twice}
use Rattle.cal_ast.specs.Tree as tree
use Rattle.cal_ast.specs.Tree.{Tree, listed}
use Rattle.cal_model.specs.Kinding.{Judged, Fine, Broken, and_so}
use Rattle.cal_scope.specs.Asked.{outermost}
use Rattle.cal_scope.specs.Expressions.{declared_by, expr_resolved, exprs_resolved, optional_resolved, type_resolved}
use Rattle.cal_scope.specs.Members.{Ports, action_resolved, declared_by_patterns, formals_resolved, function_resolved, member_resolved, members_resolved, outputs_resolved, patterns_resolved, ports_of, procedure_resolved}
use Rattle.cal_scope.specs.Names.{Global, Names, is_among, within}
use Rattle.cal_scope.specs.Statements.{else_resolved, stmts_resolved, var_resolved, vars_resolved}
use Rattle.cal_check.specs.Actors.{params_of}
use Rattle.cal_imports.specs.OneFile.{body_resolved, header_resolved, param_resolved, params_resolved}
use Rattle.cal_imports.specs.Whole.{members_of}
use Rattle.law_sources.proofs.Declarations.{declared, fine_same, so_gave, total, times}
use Rattle.law_sources.proofs.NamedMembers.{AreNamed, IsNamed}

-- another tree declares the same, and has a name if this one has
pub record IsLike (m r : Tree) : Type 0 where
  pub same : declared r ≡ declared m
  pub named : IsNamed m → IsNamed r

-- .. and so do these, in this order
pub record AreLike (ms rs : Tree) : Type 0 where
  pub same : (x : List ℕ) → total x rs ≡ total x ms
  pub named : AreNamed ms → AreNamed rs

-- ---- parts that are judged in several steps

so_two : {A B R : Type 0} (P : R → Type 0) (a : Judged A) (b : A → Judged B) (out : A → B → R)
    → ((x : A) (y : B) → P (out x y)) → (r : R) → and_so a (λ x. and_so (b x) (λ y. Fine (out x y))) ≡ Fine r → P r
so_two P a b out all r h =
    let (x, e, i) = so_gave a (λ x. and_so (b x) (λ y. Fine (out x y))) r h in
    let (y, f, j) = so_gave (b x) (λ y. Fine (out x y)) r i in
    subst P (fine_same (out x y) r j) (all x y)

so_three : {A B C R : Type 0} (P : R → Type 0) (a : Judged A) (b : A → Judged B) (c : A → B → Judged C) (out : A → B → C → R)
    → ((x : A) (y : B) (z : C) → P (out x y z)) → (r : R) → and_so a (λ x. and_so (b x) (λ y. and_so (c x y) (λ z. Fine (out x y z)))) ≡ Fine r → P r
so_three P a b c out all r h =
    let (x, e, i) = so_gave a (λ x. and_so (b x) (λ y. and_so (c x y) (λ z. Fine (out x y z)))) r h in
    so_two P (b x) (c x) (out x) (all x) r i

so_four : {A B C D R : Type 0} (P : R → Type 0) (a : Judged A) (b : A → Judged B) (c : A → B → Judged C) (d : A → B → C → Judged D) (out : A → B → C → D → R)
    → ((x : A) (y : B) (z : C) (u : D) → P (out x y z u)) → (r : R)
    → and_so a (λ x. and_so (b x) (λ y. and_so (c x y) (λ z. and_so (d x y z) (λ u. Fine (out x y z u))))) ≡ Fine r → P r
so_four P a b c d out all r h =
    let (x, e, i) = so_gave a (λ x. and_so (b x) (λ y. and_so (c x y) (λ z. and_so (d x y z) (λ u. Fine (out x y z u))))) r h in
    so_three P (b x) (c x) (d x) (out x) (all x) r i

so_five : {A B C D E R : Type 0} (P : R → Type 0) (a : Judged A) (b : A → Judged B) (c : A → B → Judged C) (d : A → B → C → Judged D)
    (e : A → B → C → D → Judged E) (out : A → B → C → D → E → R)
    → ((x : A) (y : B) (z : C) (u : D) (v : E) → P (out x y z u v)) → (r : R)
    → and_so a (λ x. and_so (b x) (λ y. and_so (c x y) (λ z. and_so (d x y z) (λ u. and_so (e x y z u) (λ v. Fine (out x y z u v)))))) ≡ Fine r → P r
so_five P a b c d e out all r h =
    let (x, f, i) = so_gave a (λ x. and_so (b x) (λ y. and_so (c x y) (λ z. and_so (d x y z) (λ u. and_so (e x y z u) (λ v. Fine (out x y z u v)))))) r h in
    so_four P (b x) (c x) (d x) (e x) (out x) (all x) r i

-- ---- declarations

like_of : {m r : Tree} (t : Tree) → Fine t ≡ Fine r → IsLike m t → IsLike m r
like_of {m = m} {r = r} t h like = subst (λ u. IsLike m u) (fine_same t r h) like

param_like : (shape nm start t e : Tree) (at : ℕ) → IsLike (tree.param shape nm start at) (tree.param t nm e at)
param_like shape (tree.ident name place) start t e at = record { same = refl; named = λ n. n }
param_like shape _ start t e at = record { same = refl; named = λ n. n }

param_kept : (m r : Tree) (names : Names) → param_resolved m names ≡ Fine r → IsLike m r
param_kept (tree.param shape nm start at) r names h =
    so_two (IsLike (tree.param shape nm start at)) (type_resolved shape names) (λ t. optional_resolved start names) (λ t e. tree.param t nm e at)
    (λ t e. param_like shape nm start t e at) r h
param_kept _ r names h = absurd cc

var_kept : (m r : Tree) (here : List (List ℕ)) (names : Names) → var_resolved m here names ≡ Fine r → IsLike m r
var_kept (tree.var shape (tree.ident name place) start changes at) r here names h = go (is_among name here) h
  where
    go : (b : Bool)
        → (if b then Broken declared_twice at
        else and_so (type_resolved shape names) (λ t. and_so (optional_resolved start names) (λ e. Fine (tree.var t (tree.ident name place) e changes at))))
        ≡ Fine r → IsLike (tree.var shape (tree.ident name place) start changes at) r
    go true i = absurd cc
    go false i =
        so_two (IsLike (tree.var shape (tree.ident name place) start changes at)) (type_resolved shape names) (λ t. optional_resolved start names)
        (λ t e. tree.var t (tree.ident name place) e changes at) (λ t e. record { same = refl; named = λ n. n }) r i
var_kept _ r here names h = absurd cc

function_like : (nm f s v b g t w c : Tree) (at : ℕ) → IsLike (tree.function nm f s v b at) (tree.function nm g t w c at)
function_like (tree.ident name place) f s v b g t w c at = record { same = refl; named = λ n. n }
function_like _ f s v b g t w c at = record { same = refl; named = λ n. n }

function_kept : (nm formals result vars body : Tree) (at : ℕ) (r : Tree) (names : Names) → function_resolved (tree.function nm formals result vars body at) names ≡ Fine r
    → IsLike (tree.function nm formals result vars body at) r
function_kept nm formals result vars body at r names h =
    so_four (IsLike (tree.function nm formals result vars body at)) (formals_resolved formals [] names)
    (λ fs. type_resolved result (within (declared_by formals []) names))
    (λ fs t. vars_resolved vars (declared_by formals []) names)
    (λ fs t vs. expr_resolved body (within (declared_by vars (declared_by formals [])) names))
    (λ fs t vs e. tree.function nm (listed fs) t (listed vs) e at)
    (λ fs t vs e. function_like nm formals result vars body (listed fs) t (listed vs) e at) r h

procedure_like : (nm f v b g w c : Tree) (at : ℕ) → IsLike (tree.procedure nm f v b at) (tree.procedure nm g w c at)
procedure_like (tree.ident name place) f v b g w c at = record { same = refl; named = λ n. n }
procedure_like _ f v b g w c at = record { same = refl; named = λ n. n }

procedure_kept : (nm formals vars body : Tree) (at : ℕ) (r : Tree) (names : Names) → procedure_resolved (tree.procedure nm formals vars body at) names ≡ Fine r
    → IsLike (tree.procedure nm formals vars body at) r
procedure_kept nm formals vars body at r names h =
    so_three (IsLike (tree.procedure nm formals vars body at)) (formals_resolved formals [] names)
    (λ fs. vars_resolved vars (declared_by formals []) names)
    (λ fs vs. stmts_resolved body (within (declared_by vars (declared_by formals [])) names))
    (λ fs vs ss. tree.procedure nm (listed fs) (listed vs) (listed ss) at)
    (λ fs vs ss. procedure_like nm formals vars body (listed fs) (listed vs) (listed ss) at) r h

action_kept : (t : Tree) (initialize : Bool) (patterns outputs guards vars body : Tree) (at : ℕ) (r : Tree) (ports : Ports) (names : Names)
    → action_resolved (tree.action t initialize patterns outputs guards vars body at) ports names ≡ Fine r
    → IsLike (tree.action t initialize patterns outputs guards vars body at) r
action_kept t initialize patterns outputs guards vars body at r ports names h =
    so_five (IsLike (tree.action t initialize patterns outputs guards vars body at)) (patterns_resolved patterns ports [] names)
    (λ ps. exprs_resolved guards (within (declared_by_patterns patterns []) names))
    (λ ps gs. vars_resolved vars (declared_by_patterns patterns []) names)
    (λ ps gs vs. else_resolved body (within (declared_by vars (declared_by_patterns patterns [])) names))
    (λ ps gs vs b. outputs_resolved outputs ports (within (declared_by vars (declared_by_patterns patterns [])) names))
    (λ ps gs vs b os. tree.action t initialize (listed ps) (listed os) (listed gs) (listed vs) b at)
    (λ ps gs vs b os. record { same = refl; named = λ n. n }) r h

member_kept : (m r : Tree) (ports : Ports) (names : Names) → member_resolved m ports names ≡ Fine r → IsLike m r
member_kept (tree.var shape nm start changes at) r ports names h = var_kept (tree.var shape nm start changes at) r [] names h
member_kept (tree.function nm formals result vars body at) r ports names h = function_kept nm formals result vars body at r names h
member_kept (tree.procedure nm formals vars body at) r ports names h = procedure_kept nm formals vars body at r names h
member_kept (tree.action t initialize patterns outputs guards vars body at) r ports names h = action_kept t initialize patterns outputs guards vars body at r ports names h
member_kept m r ports names h = like_of m h (record { same = refl; named = λ n. n })

-- ---- lists of them

nothing_kept : AreLike tree.nil tree.nil
nothing_kept = record { same = λ x. refl; named = λ n. n }

both_like : (m ms r rs : Tree) → IsLike m r → AreLike ms rs → AreLike (tree.cons m ms) (tree.cons r rs)
both_like m ms r rs h k = record {
  same = λ x. let e = ap (times x) h.same in let f = k.same x in omega arith;
  named = λ n. (h.named n.0, k.named n.1);
}

likes_of : {ms : Tree} {rs : List Tree} (ts : List Tree) → Fine ts ≡ Fine rs → AreLike ms (listed ts) → AreLike ms (listed rs)
likes_of {ms = ms} {rs = rs} ts h like = subst (λ us. AreLike ms (listed us)) (fine_same ts rs h) like

-- a list of parts, of which the first is judged before the others
record IsFirstOf (first : Judged Tree) (others : Judged (List Tree)) (rs : List Tree) : Type 0 where
  one : Tree
  more : List Tree
  is_one : first ≡ Fine one
  are_more : others ≡ Fine more
  whole : Fine (one ∷ more) ≡ Fine rs

first_of : (first : Judged Tree) (others : Judged (List Tree)) (rs : List Tree) → and_so first (λ r. and_so others (λ more. Fine (r ∷ more))) ≡ Fine rs → IsFirstOf first others rs
first_of first others rs h =
    let (t, a, i) = so_gave first (λ r. and_so others (λ more. Fine (r ∷ more))) rs h in
    let (ts, b, j) = so_gave others (λ more. Fine (t ∷ more)) rs i in
    record { one = t; more = ts; is_one = a; are_more = b; whole = j }

params_kept : (ps : Tree) (rs : List Tree) (names : Names) → params_resolved ps names ≡ Fine rs → AreLike ps (listed rs)
params_kept tree.nil rs names h = likes_of [] h nothing_kept
params_kept (tree.cons p ps) rs names h =
    let f = first_of (param_resolved p names) (params_resolved ps names) rs h in
    likes_of (f.one ∷ f.more) f.whole (both_like p ps f.one (listed f.more) (param_kept p f.one names f.is_one) (params_kept ps f.more names f.are_more))
params_kept _ rs names h = absurd cc

members_kept : (ms : Tree) (rs : List Tree) (ports : Ports) (names : Names) → members_resolved ms ports names ≡ Fine rs → AreLike ms (listed rs)
members_kept tree.nil rs ports names h = likes_of [] h nothing_kept
members_kept (tree.cons m ms) rs ports names h =
    let f = first_of (member_resolved m ports names) (members_resolved ms ports names) rs h in
    likes_of (f.one ∷ f.more) f.whole (both_like m ms f.one (listed f.more) (member_kept m f.one ports names f.is_one) (members_kept ms f.more ports names f.are_more))
members_kept _ rs ports names h = absurd cc

-- ---- bodies

pub record IsLikeBody (body r : Tree) : Type 0 where
  pub params : AreLike (params_of body) (params_of r)
  pub members : AreLike (members_of body) (members_of r)

body_like : {body r : Tree} (t : Tree) → Fine t ≡ Fine r → IsLikeBody body t → IsLikeBody body r
body_like {body = body} {r = r} t h like = subst (λ u. IsLikeBody body u) (fine_same t r h) like

actor_kept : (nm params ins outs members : Tree) (at : ℕ) (r : Tree) (seen : List Global) → body_resolved (tree.actor nm params ins outs members at) seen ≡ Fine r
    → IsLikeBody (tree.actor nm params ins outs members at) r
actor_kept nm params ins outs members at r seen h =
    let names = outermost seen in
    let (ps, a, i) = so_gave (params_resolved params names)
    (λ ps. and_so (header_resolved ins names) (λ is. and_so (header_resolved outs names) (λ os. and_so (members_resolved members (ports_of ins outs) names)
    (λ ms. Fine (tree.actor nm (listed ps) (listed is) (listed os) (listed ms) at))))) r h in
    let (is, b, j) = so_gave (header_resolved ins names)
    (λ is. and_so (header_resolved outs names) (λ os. and_so (members_resolved members (ports_of ins outs) names)
    (λ ms. Fine (tree.actor nm (listed ps) (listed is) (listed os) (listed ms) at)))) r i in
    let (os, c, k) = so_gave (header_resolved outs names)
    (λ os. and_so (members_resolved members (ports_of ins outs) names) (λ ms. Fine (tree.actor nm (listed ps) (listed is) (listed os) (listed ms) at))) r j in
    let (ms, d, l) = so_gave (members_resolved members (ports_of ins outs) names) (λ ms. Fine (tree.actor nm (listed ps) (listed is) (listed os) (listed ms) at)) r k in
    body_like (tree.actor nm (listed ps) (listed is) (listed os) (listed ms) at) l (record {
      params = params_kept params ps names a;
      members = members_kept members ms (ports_of ins outs) names d;
    })

pub body_kept : (body r : Tree) (seen : List Global) → body_resolved body seen ≡ Fine r → IsLikeBody body r
body_kept (tree.actor nm params ins outs members at) r seen h = actor_kept nm params ins outs members at r seen h
body_kept (tree.unit nm members at) r seen h =
    let (ms, a, i) = so_gave (members_resolved members (ports_of tree.nil tree.nil) (outermost seen)) (λ ms. Fine (tree.unit nm (listed ms) at)) r h in
    body_like (tree.unit nm (listed ms) at) i (record { params = nothing_kept; members = members_kept members ms (ports_of tree.nil tree.nil) (outermost seen) a })
body_kept _ r seen h = absurd cc
