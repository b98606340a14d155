-- What is seen of functions whose calls have an order.
use Rattle.std.proofs.Common.{◌≡◌, ℕ, suc, ◌<◌, ◌≤◌, Bool, true, false, List, [], ◌∷◌, length, refl, sym, ap, subst, ◌∙◌, arith, None, Some}
use Rattle.std.specs.Prelude.{slice_get, if◌then◌else◌}
use Rattle.std.specs.Str.{bytes_eq}
use Rattle.cal_model.specs.Actor.{Fun}
use Rattle.cal_model.specs.Call.{fun_named}
use Rattle.cal_model.specs.Kinding.{Known, Names, known_as}
use Rattle.cal_model.specs.Tags.{is_seen, number_of_name}
use Rattle.cal_check.specs.Routines.{FunDecl, fun_judged, funs_after, funs_over, with_fun}
use Rattle.cal_check.specs.Variables.{seen}
use Rattle.check_functions.specs.Known.{is_named_in, names_alone, names_differ}
use Rattle.check_functions.specs.Left.{count_of, decl_found, found_of}
use Rattle.check_functions.specs.Needs.{needs_of}
use Rattle.check_functions.specs.Order.{IsOrder}
use Rattle.check_functions.proofs.Bare.{Any, need_all, says_both}
use Rattle.check_functions.proofs.Counted.{found_named, over_right}
use Rattle.check_functions.proofs.Depth.{Agree}
use Rattle.check_functions.proofs.Numbered.{number_most, seen_within}
use Rattle.check_functions.proofs.Ranked.{below_all, below_short, each}
use Rattle.check_functions.proofs.Rounded.{MeantAlike, agree_after, calls_before, count_after, judged_so, over, rounds_same}

-- the functions that are seen, but for the last round
abbrev pub before_last : List FunDecl → List Known → List Fun
before_last [] known = []
before_last (f ∷ fs) known = funs_after (length fs) (f ∷ fs) (names_alone known)

-- .. which finds these over them
pub last_round : (fs : List FunDecl) (known : List Known) → (seen fs known).funs ≡ funs_over fs (over known (before_last fs known))
last_round [] known = refl
last_round (f ∷ fs) known = refl

pub seen_right : (fs : List FunDecl) (known : List Known) (i : ℕ) (f : FunDecl) → names_differ fs ≡ true → slice_get fs i ≡ Some f
    → fun_named f.name (seen fs known).funs ≡ decl_found f (over known (before_last fs known))
seen_right fs known i f d there = ap (fun_named f.name) (last_round fs known) ∙ over_right fs (over known (before_last fs known)) i f d there

-- the functions before a number, over names of which those in the order mean the same
agree_last : (order : List (List ℕ)) (fs : List FunDecl) → IsOrder order fs → names_differ fs ≡ true → (ks ls : List Known) → MeantAlike order ks ls → (i : ℕ) (f : FunDecl) → slice_get fs i ≡ Some f
    → Agree order fs (number_of_name f.name order) (before_last fs ks) (before_last fs ls)
agree_last order [] is d ks ls alike i f there = cc
agree_last order (g ∷ fs) is d ks ls alike i f there =
    let j = number_of_name f.name order in
    let most = below_short each order j (g ∷ fs) i f there (omega arith) in
    agree_after order (g ∷ fs) is.before d ks ls alike j (length fs) (length fs) (number_most f.name order) (omega (arith, most)) (omega (arith, most))

count_last : (fs : List FunDecl) (known : List Known) → names_differ fs ≡ true → length (before_last fs known) ≡ count_of fs (before_last fs known)
count_last [] known d = refl
count_last (f ∷ fs) known d = count_after (f ∷ fs) (length fs) (names_alone known) d

-- ---- a name more

-- a function that doesn't say it where something must be constant is the same, if it isn't in the order
pub unsaid_same : (order : List (List ℕ)) (fs : List FunDecl) → IsOrder order fs → names_differ fs ≡ true → (x : Known) (known : List Known) (i : ℕ) (f : FunDecl) → is_seen x.name order ≡ false
    → ((y name : List ℕ) (names : List (List ℕ)) → is_seen y names ≡ false → is_seen name names ≡ true → bytes_eq y name ≡ false) → slice_get fs i ≡ Some f
    → is_seen x.name (needs_of (f ∷ [])).names ≡ false → fun_named f.name (seen fs known).funs ≡ fun_named f.name (seen fs (x ∷ known)).funs
unsaid_same order fs is d x known i f out another there unsaid =
    let said = (needs_of (f ∷ [])).names in
    let j = number_of_name f.name order in
    let alike : MeantAlike order known (x ∷ known) = λ y s. ap (λ b. if b then Some x else known_as y known) (sym (another x.name y order out s)) in
    let own = need_all (λ y. is_seen y said ≡ true) Any (f ∷ []) (λ y s. s) (λ y s. tt) in
    let calls = calls_before order fs is i f there in
    seen_right fs known i f d there
    ∙ ap found_of (judged_so (λ y. is_seen y said ≡ true) order fs is.before known (x ∷ known) (before_last fs known) (before_last fs (x ∷ known)) j (number_most f.name order) alike
    (λ y s. ap (λ b. if b then Some x else known_as y known) (sym (another x.name y said unsaid s))) (agree_last order fs is d known (x ∷ known) alike i f there)
    (count_last fs known d) (count_last fs (x ∷ known) d) f.name f.decl
    (says_both (λ y. is_seen y said ≡ true) Any Any (λ y. number_of_name y order < j) (λ y. is_seen y said ≡ true) (λ y. number_of_name y order < j) (λ y s t. s) (λ y s t. t) false f.decl own.0 calls))
    ∙ sym (seen_right fs (x ∷ known) i f d there)

-- .. nor is one of the order
pub early_same : (order : List (List ℕ)) (fs : List FunDecl) → IsOrder order fs → names_differ fs ≡ true → (x : Known) (known : List Known) (i : ℕ) (f : FunDecl) → is_seen x.name order ≡ false
    → ((y name : List ℕ) (names : List (List ℕ)) → is_seen y names ≡ false → is_seen name names ≡ true → bytes_eq y name ≡ false) → slice_get fs i ≡ Some f
    → is_seen f.name order ≡ true → fun_named f.name (seen fs known).funs ≡ fun_named f.name (seen fs (x ∷ known)).funs
early_same order fs is d x known i f out another there early =
    let most = below_all each order (length order) fs in
    rounds_same order fs is.before d known (x ∷ known) (λ y s. ap (λ b. if b then Some x else known_as y known) (sym (another x.name y order out s)))
    (length order) (omega arith) (length fs) (length fs) most most i f there (seen_within f.name order early)

-- ---- functions that are judged over those before them

-- so far the functions before a number are those that are seen
pub record AreRight (order : List (List ℕ)) (fs : List FunDecl) (known : List Known) (j : ℕ) (found : List Fun) : Type 0 where
  pub right : (i : ℕ) (f : FunDecl) → slice_get fs i ≡ Some f → number_of_name f.name order < j → fun_named f.name found ≡ fun_named f.name (seen fs known).funs
  pub none : (name : List ℕ) → is_named_in name fs ≡ false → fun_named name found ≡ None
  pub count : length found ≡ count_of fs found

agree_right : (order : List (List ℕ)) (fs : List FunDecl) → IsOrder order fs → names_differ fs ≡ true → (known : List Known) (i : ℕ) (f : FunDecl) (found : List Fun) → slice_get fs i ≡ Some f
    → AreRight order fs known (number_of_name f.name order) found → Agree order fs (number_of_name f.name order) found (before_last fs known)
agree_right order fs is d known i f found there h =
    let last = agree_last order fs is d known known (λ y s. refl) i f there in
    record {
      funs = λ y l. named y l (is_named_in y fs) refl;
      none = last.none;
      uses = last.uses;
    }
  where
    step : (fs : List FunDecl) → IsOrder order fs → names_differ fs ≡ true → (i : ℕ) (f : FunDecl) → slice_get fs i ≡ Some f → (k : ℕ) (g : FunDecl) → slice_get fs k ≡ Some g
        → number_of_name g.name order < number_of_name f.name order → fun_named g.name (seen fs known).funs ≡ fun_named g.name (before_last fs known)
    step [] is d i f there k g at l = cc
    step (e ∷ fs) is d i f there k g at l =
        let j = number_of_name f.name order in
        let most = below_short each order j (e ∷ fs) i f there (omega arith) in
        rounds_same order (e ∷ fs) is.before d known known (λ y s. refl) j (number_most f.name order) (suc (length fs)) (length fs) (omega (arith, most)) (omega (arith, most)) k g at l

    named : (y : List ℕ) → number_of_name y order < number_of_name f.name order → (b : Bool) → is_named_in y fs ≡ b → fun_named y found ≡ fun_named y (before_last fs known)
    named y l false e = h.none y e ∙ sym ((agree_last order fs is d known known (λ z s. refl) i f there).none y e)
    named y l true e =
        let g = found_named y fs e in
        let at : number_of_name g.decl.name order ≡ number_of_name y order = ap (λ x. number_of_name x order) g.named in
        let less : number_of_name g.decl.name order < number_of_name f.name order = omega (arith, at, l) in
        subst (λ x. fun_named x found ≡ fun_named x (before_last fs known)) g.named
        (h.right g.place g.decl g.there less ∙ step fs is d i f there g.place g.decl g.there less)

-- a function that is judged over them is as it is judged last
pub judged_right : (order : List (List ℕ)) (fs : List FunDecl) → IsOrder order fs → names_differ fs ≡ true → (known : List Known) (i : ℕ) (f : FunDecl) (found : List Fun) → slice_get fs i ≡ Some f
    → AreRight order fs known (number_of_name f.name order) found → fun_judged f.name f.decl (over known found) ≡ fun_judged f.name f.decl (over known (before_last fs known))
judged_right order fs is d known i f found there h =
    judged_so Any order fs is.before known known found (before_last fs known) (number_of_name f.name order) (number_most f.name order) (λ y s. refl) (λ y s. refl)
    (agree_right order fs is d known i f found there h) h.count (count_last fs known d) f.name f.decl (calls_before order fs is i f there)

-- .. and what is found of it is what is seen
pub found_right : (order : List (List ℕ)) (fs : List FunDecl) → IsOrder order fs → names_differ fs ≡ true → (known : List Known) (i : ℕ) (f : FunDecl) (found : List Fun) → slice_get fs i ≡ Some f
    → AreRight order fs known (number_of_name f.name order) found → decl_found f (over known found) ≡ fun_named f.name (seen fs known).funs
found_right order fs is d known i f found there h =
    ap found_of (judged_right order fs is d known i f found there h) ∙ sym (seen_right fs known i f d there)

-- ---- all functions over those of the order

over_each : (fs : List FunDecl) (n m : Names) → ((i : ℕ) (f : FunDecl) → slice_get fs i ≡ Some f → fun_judged f.name f.decl n ≡ fun_judged f.name f.decl m) → funs_over fs n ≡ funs_over fs m
over_each [] n m h = refl
over_each (f ∷ fs) n m h = ap (λ j. with_fun j (funs_over fs n)) (h 0 f refl) ∙ ap (with_fun (fun_judged f.name f.decl m)) (over_each fs n m (λ i g there. h (suc i) g there))

pub right_less : (order : List (List ℕ)) (fs : List FunDecl) (known : List Known) (j k : ℕ) (found : List Fun) → k ≤ j → AreRight order fs known j found → AreRight order fs known k found
right_less order fs known j k found l h = record { right = λ i f there m. h.right i f there (omega (arith, l, m)); none = h.none; count = h.count }

pub over_right_ones : (order : List (List ℕ)) (fs : List FunDecl) → IsOrder order fs → names_differ fs ≡ true → (known : List Known) (found : List Fun) → AreRight order fs known (length order) found
    → funs_over fs (over known found) ≡ (seen fs known).funs
over_right_ones order fs is d known found h =
    over_each fs (over known found) (over known (before_last fs known))
    (λ i f there. judged_right order fs is d known i f found there (right_less order fs known (length order) (number_of_name f.name order) found (number_most f.name order) h))
    ∙ sym (last_round fs known)
