-- What is found of a name's place, part by part.
use Rattle.std.proofs.Common.{◌≡◌, ℕ, Bool, true, false, ◌||◌, List, [], ◌∷◌, ◌++◌, refl, sym, ap, subst, ◌∙◌}
use Rattle.std.specs.Prelude.{◌==◌, if◌then◌else◌}
use Rattle.std.proofs.lemmas.List.{append-nil, append_assoc}
use Rattle.rvc_base.specs.Rules.{not_constant, unknown_name}
use Rattle.rvc_base.specs.declared.refusal.Rule.{Rule}
use Rattle.cal_ast.specs.Places.{begins}
use Rattle.cal_ast.specs.Tree as tree
use Rattle.cal_ast.specs.Tree.{Tree}
use Rattle.cal_model.specs.Kinding.{Judged, Broken}
use Rattle.const_env.specs.Judging.{Breaks}
use Rattle.const_env.specs.declared.fault.KindFault.TheVariants as fault
use Rattle.cal_check.specs.Constants.{constant_place, constants_in, last_using, not_yet, uses_at}
use Rattle.check_variable.specs.Finding.{Finds, FindsIn, not_yet_at, or_at}
use Rattle.check_variable.specs.declared.places.Found.{Found}

-- ---- two parts

pub last_append : (p : ℕ) (cs ds : List Tree) (at : ℕ) → last_using p (cs ++ ds) at ≡ last_using p ds (last_using p cs at)
last_append p [] ds at = refl
last_append p (c ∷ cs) ds at = last_append p cs ds (if uses_at p c then begins c else at)

pub both_find : (p : ℕ) (f g h : Found) (u v : Bool) (cs ds : List Tree) → h.uses ≡ (f.uses || g.uses) → ((at : ℕ) → or_at h.last at ≡ or_at g.last (or_at f.last at))
    → Finds p f u cs → Finds p g v ds → Finds p h (u || v) (cs ++ ds)
both_find p f g h u v cs ds e l x y = (
  e ∙ ap (λ b. b || g.uses) x.0 ∙ ap (λ b. u || b) y.0,
  λ at. last_append p cs ds at ∙ ap (last_using p ds) (x.1 at) ∙ y.1 (or_at f.last at) ∙ sym (l at),
)

-- one found in two parts
abbrev pub Both : Found → Found → Found → Type 0
Both f g h = (q : ℕ) (u v : Bool) (cs ds : List Tree) → Finds q f u cs → Finds q g v ds → Finds q h (u || v) (cs ++ ds)

pub both_in : (p : ℕ) (f g h : Found) (s t : Tree) → Both f g h → FindsIn p f s → FindsIn p g t → Finds p h (uses_at p s || uses_at p t) (constants_in s ++ constants_in t)
both_in p f g h s t b x y = b p (uses_at p s) (uses_at p t) (constants_in s) (constants_in t) x y

-- ---- an expression that must be constant

pub constant_used : (p : ℕ) (f g : Found) (e : Tree) (u : Bool) (cs : List Tree) → f.uses ≡ true → g.uses ≡ true → ((at : ℕ) → or_at g.last at ≡ or_at f.last (begins e)) → u ≡ uses_at p e
    → Finds p f u cs → Finds p g u (e ∷ cs)
constant_used p f g e u cs h i l same x =
    let used : u ≡ true = sym x.0 ∙ h in
    let there : uses_at p e ≡ true = sym same ∙ used in (
      i ∙ sym used,
      λ at. ap (λ b. last_using p cs (if b then begins e else at)) there ∙ x.1 (begins e) ∙ sym (l at),
    )

pub constant_unused : (p : ℕ) (f : Found) (e : Tree) (u : Bool) (cs : List Tree) → f.uses ≡ false → u ≡ uses_at p e → Finds p f u cs → Finds p f u (e ∷ cs)
constant_unused p f e u cs h same x =
    let there : uses_at p e ≡ false = sym same ∙ sym x.0 ∙ h in (
      x.0,
      λ at. ap (λ b. last_using p cs (if b then begins e else at)) there ∙ x.1 at,
    )

-- ---- lists

or_false : (b : Bool) → (b || false) ≡ b
or_false true = refl
or_false false = refl

or_assoc : (a b c : Bool) → ((a || b) || c) ≡ (a || (b || c))
or_assoc true b c = refl
or_assoc false b c = refl

-- what was found, what is left, and the whole
pub record IsLeft (p : ℕ) (found : Found) (rest all : Tree) : Type 0 where
  pub used : Bool
  pub constants : List Tree
  pub finds : Finds p found used constants
  pub uses : (used || uses_at p rest) ≡ uses_at p all
  pub asks : constants ++ constants_in rest ≡ constants_in all

pub left_start : (p : ℕ) (found : Found) (all : Tree) → Finds p found false [] → IsLeft p found all all
left_start p found all h = record { used = false; constants = []; finds = h; uses = refl; asks = refl }

pub left_next : (p : ℕ) (found new next : Found) (t ts rest all : Tree) → rest ≡ tree.cons t ts
    → Both found new next → FindsIn p new t → IsLeft p found rest all → IsLeft p next ts all
left_next p found new next t ts rest all is both h l = record {
  used = l.used || uses_at p t;
  constants = l.constants ++ constants_in t;
  finds = both p l.used (uses_at p t) l.constants (constants_in t) l.finds h;
  uses = or_assoc l.used (uses_at p t) (uses_at p ts) ∙ ap (λ r. l.used || uses_at p r) (sym is) ∙ l.uses;
  asks = append_assoc l.constants (constants_in t) (constants_in ts) ∙ ap (λ r. l.constants ++ constants_in r) (sym is) ∙ l.asks;
}

pub left_done : (p : ℕ) (found : Found) (rest all : Tree) → rest ≡ tree.nil → IsLeft p found rest all → FindsIn p found all
left_done p found rest all none l = (
  l.finds.0 ∙ sym (or_false l.used) ∙ ap (λ r. l.used || uses_at p r) (sym none) ∙ l.uses,
  λ at. ap (λ cs. last_using p cs at) (sym l.asks ∙ ap (λ r. l.constants ++ constants_in r) none ∙ append-nil l.constants) ∙ l.finds.1 at,
)

-- ---- faults

go : (A : Type 0) (rule : Rule) (at place there : ℕ) (b : Bool) → place ≡ there
    → Breaks {B = A} (if b then fault.Broken not_constant place else fault.Broken rule at) (if b then Broken not_constant there else Broken rule at)
go A rule at place there true same = ap (λ x. Broken not_constant x) (sym same)
go A rule at place there false same = refl

pub breaks_not_yet : {A : Type 0} (rule : Rule) (at place : ℕ) (e : Tree) (j : Judged A) → place ≡ constant_place at e → Breaks (fault.Broken rule at) j → Breaks (not_yet_at rule at place) (not_yet j e)
breaks_not_yet rule at place e j same h = subst (λ x. Breaks (not_yet_at rule at place) (not_yet x e)) (sym h) (go _ rule at place (constant_place at e) (rule.0 == unknown_name.0) same)
