-- The first variable without a value, by the names of those that have one.
use Rattle.std.proofs.Common.{◌≡◌, ⊎_elim, ℕ, Bool, true, false, List, [], ◌∷◌, ◌++◌, map, refl, sym, ap, subst, ◌∙◌, Option, None, Some, append_assoc}
use Rattle.std.specs.Prelude.{Contains, ◌||◌, not, if◌then◌else◌}
use Rattle.std.specs.Str.{bytes_eq}
use Rattle.std.proofs.lemmas.List.{map-append}
use Rattle.std.proofs.lemmas.List.Elements.{Contains-append_cases, Contains-append_left, Contains-append_right}
use Rattle.rvc_base.specs.declared.refusal.Place.{Place}
use Rattle.cal_model.specs.Actor.{Held}
use Rattle.cal_model.specs.Sound.{AreDistinct, Each}
use Rattle.cal_model.proofs.KindNames.{same-text, text-same}
use Rattle.cal_check.specs.Actors.{first_valueless, is_held, said_or_all}
use Rattle.cal_check.specs.Variables.{Found, Spot, VarDecl, Valued}
use Rattle.cal_check.proofs.Lists.{at-head, each-append, each-map, each-of, head-or-rest, in-none, in-rest}
use Rattle.check_variable.specs.Causes.{inconstant}
use Rattle.check_variable.specs.Valuing.{AreAt, IsFirst, Lacks, first_in, first_of, left_over, start_place, valueless}

abbrev names_of : List VarDecl → List (List ℕ)
names_of xs = map (λ x. x.name) xs

-- ---- names that are held

abbrev named_in : List ℕ → List (List ℕ) → Bool
named_in name [] = false
named_in name (n ∷ ns) = bytes_eq n name || named_in name ns

held_named : (name : List ℕ) (held : List Held) → is_held name held ≡ named_in name (map (λ x. x.name) held)
held_named name [] = refl
held_named name (x ∷ xs) = ap (λ b. bytes_eq x.name name || b) (held_named name xs)

or_true : (a : Bool) → (a || true) ≡ true
or_true true = refl
or_true false = refl

is_in : (name : List ℕ) (ns : List (List ℕ)) → Contains ns name → named_in name ns ≡ true
is_in name [] c = absurd (in-none name c)
is_in name (n ∷ ns) c =
    ⊎_elim (λ (e : n ≡ name). ap (λ m. bytes_eq m name || named_in name ns) e ∙ ap (λ b. b || named_in name ns) (text-same name))
    (λ (r : Contains ns name). ap (λ b. bytes_eq n name || b) (is_in name ns r) ∙ or_true (bytes_eq n name)) (head-or-rest name n ns c)

not_in : (name : List ℕ) (ns : List (List ℕ)) → (Contains ns name → ⊥) → named_in name ns ≡ false
not_in name [] h = refl
not_in name (n ∷ ns) h = go (bytes_eq n name) refl (not_in name ns (λ r. h (in-rest name n ns r)))
  where
    go : (b : Bool) → bytes_eq n name ≡ b → named_in name ns ≡ false → named_in name (n ∷ ns) ≡ false
    go true e rest = absurd (h (at-head name n ns (same-text n name e)))
    go false e rest = ap (λ b. b || named_in name ns) e ∙ rest

-- ---- the first that isn't held

first_found : (before : List VarDecl) (x : VarDecl) (behind : List VarDecl) (held : List Held) (owner : Spot) → Each (λ y. is_held y.name held ≡ true) before → is_held x.name held ≡ false
    → first_valueless (before ++ x ∷ behind) held owner ≡ inconstant (start_place x) ∷ []
first_found [] x behind held owner h e = ap (λ b. if b then first_valueless behind held owner else inconstant (start_place x) ∷ []) e
first_found (y ∷ ys) x behind held owner h e =
    ap (λ b. if b then first_valueless (ys ++ x ∷ behind) held owner else inconstant (start_place y) ∷ []) h.0 ∙ first_found ys x behind held owner h.1 e

has_name : (xs : List VarDecl) (x : VarDecl) → Contains xs x → Contains (names_of xs) x.name
has_name [] x c = absurd (in-none x c)
has_name (z ∷ zs) x c =
    ⊎_elim (λ (e : z ≡ x). at-head x.name z.name (names_of zs) (ap (λ w. w.name) e)) (λ (r : Contains zs x). in-rest x.name z.name (names_of zs) (has_name zs x r)) (head-or-rest x z zs c)

in_middle : (before : List VarDecl) (x : VarDecl) (behind : List VarDecl) → Contains (names_of (before ++ x ∷ behind)) x.name
in_middle before x behind =
    subst (λ ns. Contains ns x.name) (sym (map-append (λ y. y.name) before (x ∷ behind)))
    (Contains-append_right (names_of before) (names_of (x ∷ behind)) x.name (at-head x.name x.name (names_of behind) refl))

not_before : (before : List VarDecl) (x : VarDecl) (behind : List VarDecl) → AreDistinct (names_of (before ++ x ∷ behind)) → Contains (names_of before) x.name → ⊥
not_before [] x behind d c = in-none x.name c
not_before (z ∷ zs) x behind d c =
    ⊎_elim (λ (e : z.name ≡ x.name). d.0 (subst (λ n. Contains (names_of (zs ++ x ∷ behind)) n) (sym e) (in_middle zs x behind)))
    (λ (r : Contains (names_of zs) x.name). not_before zs x behind d.1 r) (head-or-rest x.name z.name (names_of zs) c)

not_behind : (before : List VarDecl) (x : VarDecl) (behind : List VarDecl) → AreDistinct (names_of (before ++ x ∷ behind)) → Contains (names_of behind) x.name → ⊥
not_behind [] x behind d c = d.0 c
not_behind (z ∷ zs) x behind d c = not_behind zs x behind d.1 c

each_in : {A : Type 0} (P : A → Type 0) (xs : List A) (x : A) → Each P xs → Contains xs x → P x
each_in P [] x h c = absurd (in-none x c)
each_in P (y ∷ ys) x h c = ⊎_elim (λ (e : y ≡ x). subst P e h.0) (λ (r : Contains ys x). each_in P ys x h.1 r) (head-or-rest x y ys c)

pub first_is : (p : Place) (xs : List VarDecl) (held : List Held) (owner : Spot) → IsFirst p xs held → AreDistinct (names_of xs) → first_valueless xs held owner ≡ inconstant p ∷ []
first_is p xs held owner f d =
    let distinct : AreDistinct (names_of (f.before ++ f.lacking ∷ f.behind)) = subst (λ ys. AreDistinct (names_of ys)) f.parts d in
    let are_held : (y : VarDecl) → Contains f.before y → is_held y.name held ≡ true =
    λ y c. held_named y.name held ∙ ap (named_in y.name) f.named ∙ is_in y.name (names_of f.before ++ f.later) (Contains-append_left (names_of f.before) f.later y.name (has_name f.before y c)) in
    let is_lacking : Contains (names_of f.before ++ f.later) f.lacking.name → ⊥ =
    λ c. ⊎_elim (λ (b : Contains (names_of f.before) f.lacking.name). not_before f.before f.lacking f.behind distinct b)
    (λ (l : Contains f.later f.lacking.name). not_behind f.before f.lacking f.behind distinct (each_in (λ n. Contains (names_of f.behind) n) f.later f.lacking.name f.are_behind l))
    (Contains-append_cases (names_of f.before) f.later f.lacking.name c) in
    ap (λ ys. first_valueless ys held owner) f.parts
    ∙ first_found f.before f.lacking f.behind held owner (each-of (λ y. is_held y.name held ≡ true) f.before are_held)
    (held_named f.lacking.name held ∙ ap (named_in f.lacking.name) f.named ∙ not_in f.lacking.name (names_of f.before ++ f.later) is_lacking)
    ∙ ap (λ q. inconstant q ∷ []) (sym f.place)

-- ---- one variable more

behind_more : (x : VarDecl) (behind : List VarDecl) (ns : List (List ℕ)) → Each (λ n. Contains (names_of behind) n) ns → Each (λ n. Contains (names_of (behind ++ x ∷ [])) n) ns
behind_more x behind ns h =
    each-map (λ n. Contains (names_of behind) n) (λ n. Contains (names_of (behind ++ x ∷ [])) n) ns
    (λ n c. subst (λ ms. Contains ms n) (sym (map-append (λ y. y.name) behind (x ∷ []))) (Contains-append_left (names_of behind) (x.name ∷ []) n c)) h

parts_more : (x : VarDecl) (xs before : List VarDecl) (y : VarDecl) (behind : List VarDecl) → xs ≡ before ++ y ∷ behind → xs ++ x ∷ [] ≡ before ++ y ∷ (behind ++ x ∷ [])
parts_more x xs before y behind e = ap (λ zs. zs ++ x ∷ []) e ∙ append_assoc before (y ∷ behind) (x ∷ [])

pub first_stays : (p : Place) (x : VarDecl) (xs : List VarDecl) (held : List Held) → IsFirst p xs held → IsFirst p (xs ++ x ∷ []) held
first_stays p x xs held f = record {
  before = f.before;
  lacking = f.lacking;
  behind = f.behind ++ x ∷ [];
  parts = parts_more x xs f.before f.lacking f.behind f.parts;
  place = f.place;
  later = f.later;
  named = f.named;
  are_behind = behind_more x f.behind f.later f.are_behind;
}

pub first_behind : (p : Place) (x : VarDecl) (xs : List VarDecl) (held : List Held) (new : Held) → new.name ≡ x.name → IsFirst p xs held → IsFirst p (xs ++ x ∷ []) (held ++ new ∷ [])
first_behind p x xs held new e f = record {
  before = f.before;
  lacking = f.lacking;
  behind = f.behind ++ x ∷ [];
  parts = parts_more x xs f.before f.lacking f.behind f.parts;
  place = f.place;
  later = f.later ++ x.name ∷ [];
  named = map-append (λ y. y.name) held (new ∷ []) ∙ ap (λ ns. ns ++ new.name ∷ []) f.named ∙ append_assoc (names_of f.before) f.later (new.name ∷ []) ∙ ap (λ n. names_of f.before ++ (f.later ++ n ∷ [])) e;
  are_behind = each-append (λ n. Contains (names_of (f.behind ++ x ∷ [])) n) f.later (x.name ∷ []) (behind_more x f.behind f.later f.are_behind)
      (subst (λ ms. Contains ms x.name) (sym (map-append (λ y. y.name) f.behind (x ∷ []))) (Contains-append_right (names_of f.behind) (x.name ∷ []) x.name (at-head x.name x.name [] refl)), tt);
}

-- ---- what is left over

still_there : (fs all : List Found) (f : Found) → Contains fs f → Contains (said_or_all fs all) f
still_there [] all f c = absurd (in-none f c)
still_there (g ∷ gs) all f c = c

sure_left : (p : Place) (xs : List VarDecl) (owner : Spot) (vs : Valued) → Contains vs.breaks (inconstant p) → AreAt (Some p) (left_over xs owner vs)
sure_left p xs owner vs h = still_there vs.breaks (valueless xs owner vs) (inconstant p) h

none_valueless : (xs : List VarDecl) (owner : Spot) (vs : Valued) → vs.useless ≡ false → vs.whole ≡ true → valueless xs owner vs ≡ []
none_valueless xs owner vs u w =
    ap (λ b. if b || not vs.whole then first_valueless xs vs.held owner else []) u ∙ ap (λ b. if not b then first_valueless xs vs.held owner else []) w

lacking_left : (o : Option Place) (xs : List VarDecl) (owner : Spot) (vs : Valued) → vs.breaks ≡ [] → AreDistinct (names_of xs) → Lacks o xs vs → AreAt o (left_over xs owner vs)
lacking_left None xs owner vs e d h = ap (λ fs. said_or_all fs (valueless xs owner vs)) e ∙ none_valueless xs owner vs h.0 h.1
lacking_left (Some p) xs owner vs e d h =
    let only : left_over xs owner vs ≡ inconstant p ∷ [] =
    ap (λ fs. said_or_all fs (valueless xs owner vs)) e ∙ ap (λ b. if b || not vs.whole then first_valueless xs vs.held owner else []) h.0 ∙ first_is p xs vs.held owner h.1 d in
    subst (λ fs. Contains fs (inconstant p)) (sym only) (at-head (inconstant p) (inconstant p) [] refl)

pub none_constant : (ps : List Place) (o : Option Place) (xs : List VarDecl) (owner : Spot) (vs : Valued) → vs.breaks ≡ map inconstant ps → AreDistinct (names_of xs)
    → (ps ≡ [] → Lacks o xs vs) → AreAt (first_of (first_in ps) o) (left_over xs owner vs)
none_constant [] o xs owner vs e d h = lacking_left o xs owner vs e d (h refl)
none_constant (p ∷ ps) o xs owner vs e d h =
    sure_left p xs owner vs (subst (λ fs. Contains fs (inconstant p)) (sym e) (at-head (inconstant p) (inconstant p) (map inconstant ps) refl))
