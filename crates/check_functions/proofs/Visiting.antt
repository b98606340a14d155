-- Names that are added to an order.
use Rattle.std.proofs.Common.{◌≡◌, Option, None, ℕ, suc, ◌<◌, Bool, true, false, List, [], ◌∷◌, ◌++◌, map, length, refl, sym, ap, subst, ◌∙◌, arith, append_assoc, append-nil, Some}
use Rattle.std.specs.Prelude.{IfOk, OnOk, ◌&&◌, ◌||◌, slice_get, if◌then◌else◌}
use Rattle.std.specs.Str.{bytes_eq}
use Rattle.std.specs.declared.result.Result.{Result}
use Rattle.std.specs.declared.result.Result.TheVariants.{Ok, Err}
use Rattle.std.proofs.lemmas.Slice.Eq.{bytes_eq-Decides}
use Rattle.rvc_base.specs.declared.memory.Memory.{Memory}
use Rattle.cal_model.specs.Tags.{is_seen, number_of_name, with_seen}
use Rattle.cal_check.specs.Actors.{uses}
use Rattle.cal_check.specs.Routines.{FunDecl}
use Rattle.check_functions.specs.Known.{is_named_in, names_differ}
use Rattle.check_functions.specs.Needs.{needs_of}
use Rattle.check_functions.specs.Order.{AreBefore, Closes, Extends, IsOrderOf, Ordered, all_seen, names_met}
use Rattle.check_functions.proofs.Bare.{now_seen, still_seen}
use Rattle.check_functions.proofs.Counted.{head_new, named_at, same_place, tail_differs}
use Rattle.check_functions.proofs.Numbered.{last_number, seen_last_of, seen_within, still_numbered, within_seen}

-- ---- steps in a row

pub extends_same : (fs : List FunDecl) (order : Ordered) → Extends fs order order
extends_same fs order = record { funs = refl; before = λ d met h. h; keeps = λ x h. h }

pub extends_then : (fs : List FunDecl) (a b c : Ordered) → Extends fs a b → Extends fs b c → Extends fs a c
extends_then fs a b c f g = record {
  funs = g.funs ∙ f.funs;
  before = λ d met h. g.before d (f.funs ∙ met) (f.before d met h);
  keeps = λ x h. g.keeps x (f.keeps x h);
}

-- ---- a name behind the others

-- what the functions of the name use stands before it
put_behind : (fs : List FunDecl) (order : List (List ℕ)) (z : List ℕ)
    → ((i : ℕ) (f : FunDecl) → slice_get fs i ≡ Some f → bytes_eq z f.name ≡ true → (x : List ℕ) → uses x f.decl ≡ true → is_seen x order ≡ true)
    → AreBefore order fs → AreBefore (with_seen order z) fs
put_behind fs order z used h = go (is_seen z order) refl
  where
    at : is_seen z order ≡ false → (i : ℕ) (f : FunDecl) → slice_get fs i ≡ Some f → (b : Bool) → is_seen f.name order ≡ b → is_seen f.name (order ++ z ∷ []) ≡ true
        → (x : List ℕ) → uses x f.decl ≡ true → number_of_name x (order ++ z ∷ []) < number_of_name f.name (order ++ z ∷ [])
    at out i f there true s seen x u =
        let first = h i f there s x u in
        let within = seen_within f.name order s in
        let own = still_numbered x order (z ∷ []) (within_seen x order (omega (arith, first, within))) in
        let its = still_numbered f.name order (z ∷ []) s in
        omega (arith, first, own, its)
    at out i f there false s seen x u =
        let same = seen_last_of f.name z order s seen in
        let before = used i f there same x u in
        let within = seen_within x order before in
        let own = still_numbered x order (z ∷ []) before in
        let last : number_of_name f.name (order ++ z ∷ []) ≡ length order =
        subst (λ y. number_of_name y (order ++ z ∷ []) ≡ length order) ((bytes_eq-Decides z f.name).0 same) (last_number z order out) in
        omega (arith, within, own, last)

    go : (b : Bool) → is_seen z order ≡ b → AreBefore (if b then order else order ++ z ∷ []) fs
    go true e = h
    go false e = λ i f there seen x u. at e i f there (is_seen f.name order) refl seen x u

-- ---- the names of all functions

met_keeps : (y : List ℕ) (fs : List FunDecl) (met : List (List ℕ)) → is_seen y met ≡ true → is_seen y (names_met met fs) ≡ true
met_keeps y [] met h = h
met_keeps y (f ∷ fs) met h = met_keeps y fs (with_seen met f.name) (still_seen y f.name met h)

named_met : (y : List ℕ) (fs : List FunDecl) (met : List (List ℕ)) → is_named_in y fs ≡ true → is_seen y (names_met met fs) ≡ true
named_met y [] met h = cc
named_met y (f ∷ fs) met h = go (bytes_eq y f.name) refl h (λ i. named_met y fs (with_seen met f.name) i)
  where
    go : (b : Bool) → bytes_eq y f.name ≡ b → (b || is_named_in y fs) ≡ true → (is_named_in y fs ≡ true → is_seen y (names_met (with_seen met f.name) fs) ≡ true)
        → is_seen y (names_met (with_seen met f.name) fs) ≡ true
    go true e h less =
        met_keeps y fs (with_seen met f.name) (subst (λ x. is_seen x (with_seen met f.name) ≡ true) (sym ((bytes_eq-Decides y f.name).0 e)) (now_seen f.name met))
    go false e h less = less h

-- a name that isn't among them is that of no function
unmet : (y : List ℕ) (fs : List FunDecl) → is_seen y (names_met [] fs) ≡ false → is_named_in y fs ≡ false
unmet y fs h = go (is_named_in y fs) refl
  where
    go : (b : Bool) → is_named_in y fs ≡ b → b ≡ false
    go true e = sym (named_met y fs [] e) ∙ h
    go false e = refl

abbrev pub fun_name : FunDecl → List ℕ
fun_name f = f.name

met_all : (fs : List FunDecl) (met : List (List ℕ)) → names_differ fs ≡ true → ((y : List ℕ) → is_named_in y fs ≡ true → is_seen y met ≡ false) → names_met met fs ≡ met ++ map fun_name fs
met_all [] met d new = sym (append-nil met)
met_all (f ∷ fs) met d new =
    ap (λ b. names_met (if b then met else met ++ f.name ∷ []) fs) (new f.name first)
    ∙ met_all fs (met ++ f.name ∷ []) (tail_differs f fs d) (λ y named. other y named (is_seen y (met ++ f.name ∷ [])) refl)
    ∙ append_assoc met (f.name ∷ []) (map fun_name fs)
  where
    first : is_named_in f.name (f ∷ fs) ≡ true
    first = ap (λ b. b || is_named_in f.name fs) ((bytes_eq-Decides f.name f.name).1 refl)

    later : (y : List ℕ) (b : Bool) → is_named_in y fs ≡ true → (b || is_named_in y fs) ≡ true
    later y true h = refl
    later y false h = h

    other : (y : List ℕ) → is_named_in y fs ≡ true → (b : Bool) → is_seen y (met ++ f.name ∷ []) ≡ b → b ≡ false
    other y named true e =
        let same : f.name ≡ y = (bytes_eq-Decides f.name y).0 (seen_last_of y f.name met (new y (later y (bytes_eq y f.name) named)) e) in
        sym named ∙ ap (λ x. is_named_in x fs) (sym same) ∙ head_new f fs d
    other y named false e = refl

pub met_is : (fs : List FunDecl) → names_differ fs ≡ true → names_met [] fs ≡ map fun_name fs
met_is fs d = met_all fs [] d (λ y named. refl)

-- the function of a name
pub record IsAt (fs : List FunDecl) (y : List ℕ) (place : ℕ) : Type 0 where
  pub decl : FunDecl
  pub there : slice_get fs place ≡ Some decl
  pub named : decl.name ≡ y

at_name : (y : List ℕ) (fs : List FunDecl) → is_seen y (map fun_name fs) ≡ true → IsAt fs y (number_of_name y (map fun_name fs))
at_name y [] h = cc
at_name y (f ∷ fs) h = go (bytes_eq f.name y) refl h (λ i. at_name y fs i)
  where
    go : (b : Bool) → bytes_eq f.name y ≡ b → (b || is_seen y (map fun_name fs)) ≡ true → (is_seen y (map fun_name fs) ≡ true → IsAt fs y (number_of_name y (map fun_name fs)))
        → IsAt (f ∷ fs) y (if b then 0 else suc (number_of_name y (map fun_name fs)))
    go true e h less = record { decl = f; there = refl; named = (bytes_eq-Decides f.name y).0 e }
    go false e h less = let rest = less h in record { decl = rest.decl; there = rest.there; named = rest.named }

pub at_met : (y : List ℕ) (fs : List FunDecl) → names_differ fs ≡ true → is_seen y (names_met [] fs) ≡ true → IsAt fs y (number_of_name y (names_met [] fs))
at_met y fs d h =
    subst (λ ns. IsAt fs y (number_of_name y ns)) (sym (met_is fs d)) (at_name y fs (ap (is_seen y) (sym (met_is fs d)) ∙ h))

pub not_met : (y : List ℕ) (fs : List FunDecl) → is_seen y (names_met [] fs) ≡ false → (i : ℕ) (f : FunDecl) → slice_get fs i ≡ Some f → bytes_eq y f.name ≡ false
not_met y fs h i f there = go (bytes_eq y f.name) refl
  where
    go : (b : Bool) → bytes_eq y f.name ≡ b → b ≡ false
    go true e = sym (named_at fs i f there) ∙ ap (λ x. is_named_in x fs) (sym ((bytes_eq-Decides y f.name).0 e)) ∙ unmet y fs h
    go false e = refl

-- ---- what is added

abbrev with_name : (name : List ℕ) → Ordered → Ordered
with_name name order = record order { names = with_seen order.names name }

-- a name of no function
pub adds_other : (fs : List FunDecl) (order : Ordered) (z : List ℕ) → is_seen z order.funs ≡ false → Extends fs order (with_name z order)
adds_other fs order z h = record {
  funs = refl;
  before = λ d met b. put_behind fs order.names z (λ i f there e x u. let no : true ≡ false = sym e ∙ not_met z fs (ap (is_seen z) (sym met) ∙ h) i f there in cc) b;
  keeps = λ x seen. still_seen x z order.names seen;
}

-- a function behind what it uses
adds_fun : (fs : List FunDecl) (order : Ordered) (p : ℕ) (f : FunDecl) → slice_get fs p ≡ Some f → ((x : List ℕ) → uses x f.decl ≡ true → is_seen x order.names ≡ true) → Extends fs order (with_name f.name order)
adds_fun fs order p f there used = record {
  funs = refl;
  before = λ d met b. put_behind fs order.names f.name (λ i g at e x u. used x (subst (λ k. uses x k.decl ≡ true) (sym (same d i g at e)) u)) b;
  keeps = λ x seen. still_seen x f.name order.names seen;
}
  where
    same : names_differ fs ≡ true → (i : ℕ) (g : FunDecl) → slice_get fs i ≡ Some g → bytes_eq f.name g.name ≡ true → f ≡ g
    same d i g at e = let is : Some f ≡ Some g = sym there ∙ ap (slice_get fs) (same_place fs p i f g d there at e) ∙ at in cc

pub closes_extends : (fs : List FunDecl) (p : ℕ) (f : FunDecl) → slice_get fs p ≡ Some f → (closed : Bool) (old new : Ordered) → Closes closed f.name f.decl old new → Extends fs old new
closes_extends fs p f there true old new h = subst (Extends fs old) (sym h.0) (adds_fun fs old p f there h.1)
closes_extends fs p f there false old new h = subst (Extends fs old) (sym h) (extends_same fs old)

-- ---- names of which each is there

pub each_seen : (names order : List (List ℕ)) → all_seen names order ≡ true → (x : List ℕ) → is_seen x names ≡ true → is_seen x order ≡ true
each_seen [] order h x i = cc
each_seen (y ∷ names) order h x i = go (is_seen y order) refl h (bytes_eq y x) refl i (λ a b. each_seen names order a x b)
  where
    go : (b : Bool) → is_seen y order ≡ b → (b && all_seen names order) ≡ true → (c : Bool) → bytes_eq y x ≡ c → (c || is_seen x names) ≡ true
        → (all_seen names order ≡ true → is_seen x names ≡ true → is_seen x order ≡ true) → is_seen x order ≡ true
    go true e h true same i less = ap (λ n. is_seen n order) (sym ((bytes_eq-Decides y x).0 same)) ∙ e
    go true e h false same i less = less h i
    go false e h c same i less = cc

-- ---- the order

pub ordered : (fs : List FunDecl) (order : Ordered) → Extends fs (record { names = []; funs = names_met [] fs }) order → all_seen (needs_of fs).calls order.names ≡ true → IsOrderOf order fs
ordered fs order h all = record {
  is_order = λ d. record {
    called = each_seen (needs_of fs).calls order.names all;
    before = h.before d refl (λ i f there seen x u. cc);
  };
  funs = h.funs;
}

not_there : (b : Bool) (n : ℕ) → (if b then Some n else None) ≡ None → b ≡ false
not_there true n e = cc
not_there false n e = refl

-- a name that stands for no function was added
pub other_added : (order new : Ordered) (z : List ℕ) (found : Option ℕ) → found ≡ (if is_seen z order.funs then Some (number_of_name z order.funs) else None) → found ≡ None
    → new ≡ with_name z order → (fs : List FunDecl) → Extends fs order new
other_added order new z found is none same fs =
    subst (Extends fs order) (sym same) (adds_other fs order z (not_there (is_seen z order.funs) (number_of_name z order.funs) (sym is ∙ none)))

-- a function was added, or not
pub closed_extends : (fs : List FunDecl) (p : ℕ) (f : FunDecl) → slice_get fs p ≡ Some f → (result : Result Bool Memory) (old new : Ordered)
    → IfOk result (λ closed. Closes closed f.name f.decl old new) → OnOk result (Extends fs old new)
closed_extends fs p f there (Ok closed) old new h = closes_extends fs p f there closed old new h
closed_extends fs p f there (Err e) old new h = tt
