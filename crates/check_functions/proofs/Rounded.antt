-- Functions of an order that are found in rounds: after as many as stand before them, all further rounds find the same;
-- and so do rounds over names of which those in the order mean the same.
use Rattle.std.proofs.Common.{◌≡◌, ℕ, zero, suc, ◌<◌, ◌≤◌, Bool, true, false, List, [], ◌∷◌, length, refl, sym, ap, subst, ◌∙◌, arith, None, Some}
use Rattle.std.specs.Prelude.{nat_lt, slice_get}
use Rattle.cal_ast.specs.Tree.{Tree}
use Rattle.cal_model.specs.Actor.{Fun}
use Rattle.cal_model.specs.Call.{fun_named}
use Rattle.cal_model.specs.Kinding.{Judged, Fine, Broken, Known, Names, constants, known_as}
use Rattle.cal_model.specs.Tags.{is_seen, number_of_name}
use Rattle.cal_check.specs.Actors.{uses}
use Rattle.cal_check.specs.Routines.{FunDecl, fun_judged, funs_after}
use Rattle.cal_check.proofs.UsedNames.{only-uses}
use Rattle.check_functions.specs.Known.{is_named_in, names_alone, names_differ}
use Rattle.check_functions.specs.Left.{count_of, found_of}
use Rattle.check_functions.specs.Order.{AreBefore, IsOrder}
use Rattle.check_functions.proofs.Bare.{AllSay, Any, SaysOnly, need_all, says_both, uses_says}
use Rattle.check_functions.proofs.Counted.{count_over, found_named, over_none, over_right}
use Rattle.check_functions.proofs.Depth.{Agree, UsedBy, within_same}
use Rattle.check_functions.proofs.Numbered.{seen_within, unseen_last, within_seen}
use Rattle.check_functions.proofs.Ranked.{below, below_found, below_more, below_one, each, less_so, not_less}
use Rattle.check_functions.proofs.SameAnswers.{FunUses, fun-uses}
use Rattle.check_functions.proofs.SameFuns.{judged-same}
use Rattle.check_functions.proofs.SameKinds.{found-same}

-- names with functions that were found over them
abbrev pub over : List Known → List Fun → Names
over known found = record { globals = known; locals = []; funs = found }

-- those in the order mean the same
abbrev pub MeantAlike : List (List ℕ) → (ks ls : List Known) → Type 0
MeantAlike order ks ls = (y : List ℕ) → is_seen y order ≡ true → known_as y ks ≡ known_as y ls

-- ---- a function that calls none but those before a number

pub judged_so : (P : List ℕ → Type 0) (order : List (List ℕ)) (fs : List FunDecl) → AreBefore order fs → (ks ls : List Known) (found other : List Fun) (j : ℕ) → j ≤ length order
    → MeantAlike order ks ls → ((y : List ℕ) → P y → known_as y ks ≡ known_as y ls) → Agree order fs j found other → length found ≡ count_of fs found → length other ≡ count_of fs other
    → (full : List ℕ) (decl : Tree) → SaysOnly P (λ y. number_of_name y order < j) false decl → fun_judged full decl (over ks found) ≡ fun_judged full decl (over ls other)
judged_so P order fs before ks ls found other j l alike names agree count second full decl says =
    judged-same P (λ y. number_of_name y order < j) full decl (over ks found) (over ls other) (record {
      names = names;
      funs = λ y c. agree.funs y c;
      given = λ y c args left.
          let most = below_found order j fs found in
          let more = below_found order j fs other in
          within_same order fs before found other (constants ks) (constants ls) (λ z s. found-same z ks ls (alike z s)) j l agree
          (length found) (length other) (omega (arith, most, count)) (omega (arith, more, second)) y c args left;
    }) says

-- ---- what functions call

all_at : (P C : List ℕ → Type 0) (fs : List FunDecl) (i : ℕ) (f : FunDecl) → AllSay P C fs → slice_get fs i ≡ Some f → SaysOnly P C false f.decl
all_at P C [] i f s is = cc
all_at P C (g ∷ fs) zero f s is = let same : g ≡ f = cc in subst (λ k. SaysOnly P C false k.decl) same s.0
all_at P C (g ∷ fs) (suc i) f s is = all_at P C fs i f s.1 is

-- a function of the order says and calls what comes before it
pub uses_before : (order : List (List ℕ)) (fs : List FunDecl) → AreBefore order fs → (i : ℕ) (f : FunDecl) → slice_get fs i ≡ Some f → is_seen f.name order ≡ true
    → SaysOnly (λ y. is_seen y order ≡ true) (λ y. number_of_name y order < number_of_name f.name order) false f.decl
uses_before order fs before i f there seen =
    let says = uses_says (UsedBy f) false f.decl (only-uses (UsedBy f) f.decl (λ y u. u)) in
    says_both (UsedBy f) (UsedBy f) (UsedBy f) (UsedBy f) (λ y. is_seen y order ≡ true) (λ y. number_of_name y order < number_of_name f.name order)
    (λ y u v. let first = before i f there seen y u in let within = seen_within f.name order seen in within_seen y order (omega (arith, first, within)))
    (λ y u v. before i f there seen y u) false f.decl says says

-- each function calls what comes before it where something must be constant
pub calls_before : (order : List (List ℕ)) (fs : List FunDecl) → IsOrder order fs → (i : ℕ) (f : FunDecl) → slice_get fs i ≡ Some f
    → SaysOnly Any (λ y. number_of_name y order < number_of_name f.name order) false f.decl
calls_before order fs is i f there = side (is_seen f.name order) refl
  where
    side : (b : Bool) → is_seen f.name order ≡ b → SaysOnly Any (λ y. number_of_name y order < number_of_name f.name order) false f.decl
    side true seen =
        let says = uses_before order fs is.before i f there seen in
        says_both (λ y. is_seen y order ≡ true) (λ y. number_of_name y order < number_of_name f.name order) (λ y. is_seen y order ≡ true) (λ y. number_of_name y order < number_of_name f.name order)
        Any (λ y. number_of_name y order < number_of_name f.name order) (λ y u v. tt) (λ y u v. u) false f.decl says says
    side false seen =
        let says = all_at Any (λ y. is_seen y order ≡ true) fs i f (need_all Any (λ y. is_seen y order ≡ true) fs (λ y u. tt) is.called) there in
        let last = unseen_last f.name order seen in
        says_both Any (λ y. is_seen y order ≡ true) Any (λ y. is_seen y order ≡ true) Any (λ y. number_of_name y order < number_of_name f.name order) (λ y u v. tt)
        (λ y u v. let within = seen_within y order u in omega (arith, within, last)) false f.decl says says

-- ---- rounds

none_after : (fs : List FunDecl) (n : ℕ) (names : Names) (y : List ℕ) → is_named_in y fs ≡ false → fun_named y (funs_after n fs names) ≡ None
none_after fs zero names y h = refl
none_after fs (suc n) names y h = over_none y fs (record names { funs = funs_after n fs names }) h

count_none : (fs : List FunDecl) → count_of fs [] ≡ 0
count_none [] = refl
count_none (f ∷ fs) = count_none fs

pub count_after : (fs : List FunDecl) (n : ℕ) (names : Names) → names_differ fs ≡ true → length (funs_after n fs names) ≡ count_of fs (funs_after n fs names)
count_after fs zero names d = sym (count_none fs)
count_after fs (suc n) names d = count_over fs (record names { funs = funs_after n fs names }) d

fine_found : (j : Judged Fun) (g : Fun) → found_of j ≡ Some g → j ≡ Fine g
fine_found (Fine f) g e = let same : f ≡ g = cc in ap Fine same
fine_found (Broken rule at) g e = cc

uses_after : (fs : List FunDecl) (n : ℕ) (names : Names) → names_differ fs ≡ true → (i : ℕ) (f : FunDecl) (g : Fun) → slice_get fs i ≡ Some f
    → fun_named f.name (funs_after n fs names) ≡ Some g → FunUses (UsedBy f) g
uses_after fs zero names d i f g there e = cc
uses_after fs (suc n) names d i f g there e =
    let found = record names { funs = funs_after n fs names } in
    fun-uses (UsedBy f) f.name f.decl found g (only-uses (UsedBy f) f.decl (λ y u. u))
    (fine_found (fun_judged f.name f.decl found) g (sym (over_right fs found i f d there) ∙ e))

module _ (order : List (List ℕ)) (fs : List FunDecl) (before : AreBefore order fs) (differ : names_differ fs ≡ true) (ks ls : List Known) (alike : MeantAlike order ks ls) where
  abbrev Rounds : ℕ → Type 0
  Rounds j = (n m : ℕ) → below each order j fs ≤ n → below each order j fs ≤ m → (i : ℕ) (f : FunDecl) → slice_get fs i ≡ Some f → number_of_name f.name order < j
      → fun_named f.name (funs_after n fs (names_alone ks)) ≡ fun_named f.name (funs_after m fs (names_alone ls))

  agree_so : (j n m : ℕ) → Rounds j → below each order j fs ≤ n → below each order j fs ≤ m → Agree order fs j (funs_after n fs (names_alone ks)) (funs_after m fs (names_alone ls))
  agree_so j n m rounds k p = record {
    funs = λ y l. named y l (is_named_in y fs) refl;
    none = λ y h. none_after fs m (names_alone ls) y h;
    uses = λ i f g there e. uses_after fs m (names_alone ls) differ i f g there e;
  }
    where
      named : (y : List ℕ) → number_of_name y order < j → (b : Bool) → is_named_in y fs ≡ b → fun_named y (funs_after n fs (names_alone ks)) ≡ fun_named y (funs_after m fs (names_alone ls))
      named y l false e = none_after fs n (names_alone ks) y e ∙ sym (none_after fs m (names_alone ls) y e)
      named y l true e =
          let d = found_named y fs e in
          let at : number_of_name d.decl.name order ≡ number_of_name y order = ap (λ x. number_of_name x order) d.named in
          subst (λ x. fun_named x (funs_after n fs (names_alone ks)) ≡ fun_named x (funs_after m fs (names_alone ls))) d.named
          (rounds n m k p d.place d.decl d.there (omega (arith, at, l)))

  -- a function at the number, one round later
  next : (j : ℕ) → Rounds j → (n m : ℕ) → suc (below each order j fs) ≤ n → suc (below each order j fs) ≤ m → (i : ℕ) (f : FunDecl) → slice_get fs i ≡ Some f → number_of_name f.name order ≡ j
      → j < length order → fun_named f.name (funs_after n fs (names_alone ks)) ≡ fun_named f.name (funs_after m fs (names_alone ls))
  next j rounds zero m k p i f there at l = absurd (omega (arith, k))
  next j rounds (suc n) zero k p i f there at l = absurd (omega (arith, p))
  next j rounds (suc n) (suc m) k p i f there at l =
      let seen = within_seen f.name order (omega (arith, at, l)) in
      let first = funs_after n fs (names_alone ks) in
      let second = funs_after m fs (names_alone ls) in
      over_right fs (over ks first) i f differ there
      ∙ ap found_of (judged_so (λ y. is_seen y order ≡ true) order fs before ks ls first second j (omega (arith, l)) alike alike
      (agree_so j n m rounds (omega (arith, k)) (omega (arith, p))) (count_after fs n (names_alone ks) differ) (count_after fs m (names_alone ls) differ) f.name f.decl
      (subst (λ c. SaysOnly (λ y. is_seen y order ≡ true) (λ y. number_of_name y order < c) false f.decl) at (uses_before order fs before i f there seen)))
      ∙ sym (over_right fs (over ls second) i f differ there)

  pub rounds_same : (j : ℕ) → j ≤ length order → Rounds j
  rounds_same zero l n m k p i f there r = absurd (omega (arith, r))
  rounds_same (suc j) l n m k p i f there r = side (rounds_same j (omega (arith, l))) (nat_lt (number_of_name f.name order) j) refl
    where
      side : Rounds j → (b : Bool) → nat_lt (number_of_name f.name order) j ≡ b → fun_named f.name (funs_after n fs (names_alone ks)) ≡ fun_named f.name (funs_after m fs (names_alone ls))
      side less true e =
          let more = below_more each order j (suc j) fs (omega arith) in
          less n m (omega (arith, k, more)) (omega (arith, p, more)) i f there (less_so (number_of_name f.name order) j e)
      side less false e =
          let least = not_less (number_of_name f.name order) j e in
          let one = below_one each order j (suc j) fs i f there least r refl in
          next j less n m (omega (arith, k, one)) (omega (arith, p, one)) i f there (omega (arith, least, r)) (omega (arith, l))

  -- what is found of those before a number in so many rounds
  pub agree_after : (j n m : ℕ) → j ≤ length order → below each order j fs ≤ n → below each order j fs ≤ m → Agree order fs j (funs_after n fs (names_alone ks)) (funs_after m fs (names_alone ls))
  agree_after j n m l k p = agree_so j n m (rounds_same j l) k p
