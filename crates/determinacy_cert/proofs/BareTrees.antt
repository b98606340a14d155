-- The tests of guards say what the rule says of them.
use Rattle.std.proofs.Common.{◌≡◌, Bool, true, false, List, [], ◌∷◌, refl}
use Rattle.std.specs.Prelude.{◌&&◌, Option, None, Some, is_some, if◌then◌else◌}
use Rattle.cal_ast.specs.Tree as tree
use Rattle.cal_ast.specs.Tree.{Tree}
use Rattle.cal_model.specs.Actor.{Action, Actor}
use Rattle.cal_model.specs.Sound.{Each}
use Rattle.cal_model.specs.Certified.{Interval, Ranged, IsBare, range, guard_names, HasTameGuards}
use Rattle.determinacy_cert.specs.declared.fault.Reason.TheVariants.{C3, C4}
use Rattle.determinacy_cert.specs.Deciding.{is_bare, are_bare, have_ranges}
use Rattle.determinacy_cert.specs.Failing.{guards_judged}
use Rattle.determinacy_cert.proofs.Ranges.{two_true}

pub both_true : (a b : Bool) → a ≡ true → b ≡ true → (a && b) ≡ true
both_true true true p q = refl
both_true true false p q = cc
both_true false b p q = cc

pub bare_if : (t : Tree) → is_bare t ≡ true → IsBare t
bare_if (tree.call name args at) h = absurd (cc)
bare_if (tree.comp item gens at) h = absurd (cc)
bare_if (tree.paren e at) h = bare_if e h
bare_if (tree.if_expr a b c at) h =
    let p = two_true (is_bare a && is_bare b) (is_bare c) h in
    let q = two_true (is_bare a) (is_bare b) p.0 in
    (bare_if a q.0, bare_if b q.1, bare_if c p.1)
bare_if (tree.list items at) h = bare_if items h
bare_if (tree.cons e es) h = let p = two_true (is_bare e) (is_bare es) h in (bare_if e p.0, bare_if es p.1)
bare_if (tree.index a b at) h = let p = two_true (is_bare a) (is_bare b) h in (bare_if a p.0, bare_if b p.1)
bare_if (tree.prefix op e at) h = bare_if e h
bare_if (tree.binary op a b at) h = let p = two_true (is_bare a) (is_bare b) h in (bare_if a p.0, bare_if b p.1)
bare_if other h = tt

pub bare_then : (t : Tree) → IsBare t → is_bare t ≡ true
bare_then (tree.call name args at) h = absurd h
bare_then (tree.comp item gens at) h = absurd h
bare_then (tree.paren e at) h = bare_then e h
bare_then (tree.if_expr a b c at) h = both_true (is_bare a && is_bare b) (is_bare c) (both_true (is_bare a) (is_bare b) (bare_then a h.0) (bare_then b h.1)) (bare_then c h.2)
bare_then (tree.list items at) h = bare_then items h
bare_then (tree.cons e es) h = both_true (is_bare e) (is_bare es) (bare_then e h.0) (bare_then es h.1)
bare_then (tree.index a b at) h = both_true (is_bare a) (is_bare b) (bare_then a h.0) (bare_then b h.1)
bare_then (tree.prefix op e at) h = bare_then e h
bare_then (tree.binary op a b at) h = both_true (is_bare a) (is_bare b) (bare_then a h.0) (bare_then b h.1)
bare_then other h = refl

-- ---- guards

there_if : {A : Type 0} (o : Option A) → is_some o ≡ true → (a : A) × (o ≡ Some a)
there_if None h = absurd (cc)
there_if (Some a) h = (a, refl)

there_then : {A : Type 0} (o : Option A) (a : A) → o ≡ Some a → is_some o ≡ true
there_then None a h = cc
there_then (Some b) a h = refl

abbrev IsTame : List Ranged → Tree → Type 0
IsTame names g = IsBare g × ((i : Interval) × (range g names ≡ Some i))

guards_if : (names : List Ranged) (gs : List Tree) → are_bare gs ≡ true → have_ranges names gs ≡ true → Each (IsTame names) gs
guards_if names [] p q = tt
guards_if names (g ∷ gs) p q =
    let b = two_true (is_bare g) (are_bare gs) p in
    let r = two_true (is_some (range g names)) (have_ranges names gs) q in
    ((bare_if g b.0, there_if (range g names) r.0), guards_if names gs b.1 r.1)

guards_bare : (names : List Ranged) (gs : List Tree) → Each (IsTame names) gs → are_bare gs ≡ true
guards_bare names [] h = refl
guards_bare names (g ∷ gs) h = both_true (is_bare g) (are_bare gs) (bare_then g h.0.0) (guards_bare names gs h.1)

guards_ranged : (names : List Ranged) (gs : List Tree) → Each (IsTame names) gs → have_ranges names gs ≡ true
guards_ranged names [] h = refl
guards_ranged names (g ∷ gs) h =
    both_true (is_some (range g names)) (have_ranges names gs) (there_then (range g names) h.0.1.0 h.0.1.1) (guards_ranged names gs h.1)

none_judged : (b c : Bool) → (if b then (if c then None else Some C4) else Some C3) ≡ None → (b ≡ true) × (c ≡ true)
none_judged true true h = (refl, refl)
none_judged true false h = absurd (cc)
none_judged false c h = absurd (cc)

judged_none : (b c : Bool) → b ≡ true → c ≡ true → (if b then (if c then None else Some C4) else Some C3) ≡ None
judged_none true true p q = refl
judged_none true false p q = cc
judged_none false c p q = cc

pub tame_if : (actor : Actor) (act : Action) → guards_judged actor act ≡ None → HasTameGuards actor act
tame_if actor act h =
    let p = none_judged (are_bare act.guards) (have_ranges (guard_names actor act) act.guards) h in
    guards_if (guard_names actor act) act.guards p.0 p.1

pub tame_then : (actor : Actor) (act : Action) → HasTameGuards actor act → guards_judged actor act ≡ None
tame_then actor act h =
    judged_none (are_bare act.guards) (have_ranges (guard_names actor act) act.guards)
    (guards_bare (guard_names actor act) act.guards h) (guards_ranged (guard_names actor act) act.guards h)
