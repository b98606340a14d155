-- What functions of an order give: the same with other functions beside them, and with more calls that may be open.
use Rattle.std.proofs.Common.{◌≡◌, ℕ, zero, suc, ◌<◌, ◌≤◌, Bool, true, false, List, length, refl, sym, ap, subst, ◌∙◌, arith, Option, None, Some}
use Rattle.std.specs.Prelude.{nat_lt, slice_get}
use Rattle.cal_model.specs.Actor.{Fun}
use Rattle.cal_model.specs.Call.{calls_within, fun_named}
use Rattle.cal_model.specs.Env.{Var}
use Rattle.cal_model.specs.Outcome.{Lacks}
use Rattle.cal_model.specs.Tags.{is_seen, number_of_name}
use Rattle.cal_model.specs.Value.{Values}
use Rattle.cal_check.specs.Actors.{uses}
use Rattle.cal_check.specs.Routines.{FunDecl}
use Rattle.check_functions.specs.Known.{is_named_in}
use Rattle.check_functions.specs.Order.{AreBefore}
use Rattle.check_functions.proofs.Counted.{found_named, has_one}
use Rattle.check_functions.proofs.Numbered.{within_seen}
use Rattle.check_functions.proofs.Ranked.{below, below_more, below_one, is_found, less_so, not_less}
use Rattle.check_functions.proofs.SameAnswers.{FoundSame, FunUses, answered-same, given_by}

-- the names that a function uses
abbrev pub UsedBy : FunDecl → List ℕ → Type 0
UsedBy f x = uses x f.decl ≡ true

-- two lists have the same functions before a number, and those use what their declarations use
pub record Agree (order : List (List ℕ)) (fs : List FunDecl) (j : ℕ) (found other : List Fun) : Type 0 where
  pub funs : (y : List ℕ) → number_of_name y order < j → fun_named y found ≡ fun_named y other
  pub none : (y : List ℕ) → is_named_in y fs ≡ false → fun_named y other ≡ None
  pub uses : (i : ℕ) (f : FunDecl) (g : Fun) → slice_get fs i ≡ Some f → fun_named f.name other ≡ Some g → FunUses (UsedBy f) g

pub agree_less : (order : List (List ℕ)) (fs : List FunDecl) (j k : ℕ) (found other : List Fun) → k ≤ j → Agree order fs j found other → Agree order fs k found other
agree_less order fs j k found other l a = record { funs = λ y m. a.funs y (omega (arith, l, m)); none = a.none; uses = a.uses }

-- what isn't found gives nothing
lacks : (n : ℕ) (found : List Fun) (g : List Var) (y : List ℕ) (args : Values) (left : ℕ) → fun_named y found ≡ None → calls_within n found g y args left ≡ Lacks
lacks zero found g y args left e = refl
lacks (suc n) found g y args left e = ap (λ o. given_by o (calls_within n found) g args left) e

module _ (order : List (List ℕ)) (fs : List FunDecl) (before : AreBefore order fs) (found other : List Fun) (g h : List Var) (same : FoundSame (λ y. is_seen y order ≡ true) g h) where
  abbrev Same : ℕ → Type 0
  Same j = (n m : ℕ) → below (is_found found) order j fs ≤ n → below (is_found other) order j fs ≤ m
      → (y : List ℕ) → number_of_name y order < j → (args : Values) (left : ℕ) → calls_within n found g y args left ≡ calls_within m other h y args left

  -- one function, over calls of those before it
  one : (j : ℕ) → j < length order → Agree order fs (suc j) found other → Same j → (n m : ℕ) → suc (below (is_found found) order j fs) ≤ n → suc (below (is_found other) order j fs) ≤ m
      → (i : ℕ) (d : FunDecl) (f : Fun) → slice_get fs i ≡ Some d → number_of_name d.name order ≡ j → fun_named d.name other ≡ Some f
      → (args : Values) (left : ℕ) → calls_within n found g d.name args left ≡ calls_within m other h d.name args left
  one j l a less zero m k p i d f there at is args left = absurd (omega (arith, k))
  one j l a less (suc n) zero k p i d f there at is args left = absurd (omega (arith, p))
  one j l a less (suc n) (suc m) k p i d f there at is args left =
      let here : number_of_name d.name order < suc j = omega (arith, at) in
      let seen = within_seen d.name order (omega (arith, at, l)) in
      let it : fun_named d.name found ≡ Some f = a.funs d.name here ∙ is in
      let uses = a.uses i d f there is in
      ap (λ o. given_by o (calls_within n found) g args left) it
      ∙ answered-same (UsedBy d) (calls_within n found) (calls_within m other) f g h args left
      (λ name u. let first = before i d there seen name u in same name (within_seen name order (omega (arith, first, at, l))))
      (λ name u vs c. let first = before i d there seen name u in less n m (omega (arith, k)) (omega (arith, p)) name (omega (arith, first, at)) vs c)
      uses.locals uses.body
      ∙ sym (ap (λ o. given_by o (calls_within m other) h args left) is)

  -- with as many calls as functions are found before, or more
  pub within_same : (j : ℕ) → j ≤ length order → Agree order fs j found other → Same j
  within_same zero l a n m k p y r args left = absurd (omega (arith, r))
  within_same (suc j) l a n m k p y r args left =
      side (within_same j (omega (arith, l)) (agree_less order fs (suc j) j found other (omega arith) a)) (nat_lt (number_of_name y order) j) refl
    where
      first : below (is_found found) order j fs ≤ n
      first = let more = below_more (is_found found) order j (suc j) fs (omega arith) in omega (arith, k, more)

      second : below (is_found other) order j fs ≤ m
      second = let more = below_more (is_found other) order j (suc j) fs (omega arith) in omega (arith, p, more)

      -- y is the name at j
      top : Same j → j ≤ number_of_name y order → (o : Option Fun) → fun_named y other ≡ o → calls_within n found g y args left ≡ calls_within m other h y args left
      top less q None e = lacks n found g y args left (a.funs y r ∙ e) ∙ sym (lacks m other h y args left e)
      top less q (Some f) e = named (is_named_in y fs) refl
        where
          named : (b : Bool) → is_named_in y fs ≡ b → calls_within n found g y args left ≡ calls_within m other h y args left
          named false e_no = let none : None ≡ Some f = sym (a.none y e_no) ∙ e in cc
          named true there_is =
              let d = found_named y fs there_is in
              let at : number_of_name d.decl.name order ≡ j = ap (λ x. number_of_name x order) d.named ∙ (omega (arith, q, r)) in
              let is : fun_named d.decl.name other ≡ Some f = ap (λ x. fun_named x other) d.named ∙ e in
              let there : fun_named d.decl.name found ≡ Some f = ap (λ x. fun_named x found) d.named ∙ a.funs y r ∙ e in
              let here : number_of_name d.decl.name order < suc j = omega (arith, at) in
              let there_j : j ≤ number_of_name d.decl.name order = omega (arith, at) in
              let found_one = below_one (is_found found) order j (suc j) fs d.place d.decl d.there there_j here (ap has_one there) in
              let other_one = below_one (is_found other) order j (suc j) fs d.place d.decl d.there there_j here (ap has_one is) in
              subst (λ x. calls_within n found g x args left ≡ calls_within m other h x args left) d.named
              (one j (omega (arith, l)) a less n m (omega (arith, k, found_one)) (omega (arith, p, other_one)) d.place d.decl f d.there at is args left)

      side : Same j → (b : Bool) → nat_lt (number_of_name y order) j ≡ b → calls_within n found g y args left ≡ calls_within m other h y args left
      side less true e = less n m first second y (less_so (number_of_name y order) j e) args left
      side less false e = top less (not_less (number_of_name y order) j e) (fun_named y other) refl
