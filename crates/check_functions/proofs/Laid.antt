-- Functions of an order that are found one after the other.
use Rattle.std.proofs.Common.{◌≡◌, ℕ, ◌<◌, ◌≤◌, ◌+◌, Bool, true, false, List, [], ◌∷◌, ◌++◌, length, refl, sym, ap, subst, ◌∙◌, arith, append_assoc, append-nil, None, Some}
use Rattle.std.specs.Prelude.{IfOk, nat_lt, slice_get, if◌then◌else◌}
use Rattle.std.specs.Str.{bytes_eq}
use Rattle.std.specs.declared.result.Result.{Result}
use Rattle.std.specs.declared.result.Result.TheVariants.{Ok, Err}
use Rattle.std.proofs.lemmas.Slice.Eq.{bytes_eq-Decides}
use Rattle.rvc_base.specs.declared.memory.Memory.{Memory}
use Rattle.cal_model.specs.Actor.{Fun}
use Rattle.cal_model.specs.Call.{fun_named}
use Rattle.cal_model.specs.Kinding.{Judged, Fine, Broken, Known, Names}
use Rattle.cal_model.specs.Tags.{is_seen, number_of_name}
use Rattle.cal_check.specs.Routines.{FunDecl, fun_judged, funs_over}
use Rattle.cal_check.specs.Variables.{seen}
use Rattle.const_env.specs.Constants.{with_set}
use Rattle.const_env.specs.Held.{Kept, globals_of, held, names_in}
use Rattle.const_env.proofs.Setting.{fun_set}
use Rattle.check_functions.specs.Known.{is_named_in, names_differ}
use Rattle.check_functions.specs.Left.{count_of, decl_found, found_of}
use Rattle.check_functions.specs.Order.{IsOrder, IsOrderOf, Ordered, laid, laid_at, laid_by, laid_named}
use Rattle.check_functions.proofs.Counted.{count_set, named_at, other_name, same_place, text_turned}
use Rattle.check_functions.proofs.Numbered.{at_number, number_first}
use Rattle.check_functions.proofs.Ordering.{AreRight, found_right, over_right_ones, right_less}
use Rattle.check_functions.proofs.Ranked.{less_so, not_less}
use Rattle.check_functions.proofs.Renewed.{is_over}
use Rattle.check_functions.proofs.Rounded.{over}
use Rattle.check_functions.proofs.Rounds.{names_so}
use Rattle.check_functions.proofs.Sized.{fun_named_so}
use Rattle.check_functions.proofs.Visiting.{at_met, not_met}

-- the functions before a number were found, and no other one of the order was
pub record AreLaid (order : List (List ℕ)) (fs : List FunDecl) (known : List Known) (k : ℕ) (names : Names) : Type 0 where
  pub globals : names.globals ≡ known
  pub locals : names.locals ≡ []
  pub right : AreRight order fs known k names.funs
  pub later : (i : ℕ) (f : FunDecl) → slice_get fs i ≡ Some f → k ≤ number_of_name f.name order → fun_named f.name names.funs ≡ None

count_none : (fs : List FunDecl) → 0 ≡ count_of fs []
count_none [] = refl
count_none (f ∷ fs) = count_none fs

pub none_laid : (order : List (List ℕ)) (fs : List FunDecl) (known : List Known) (names : Names) → names.globals ≡ known → names.locals ≡ [] → names.funs ≡ [] → AreLaid order fs known 0 names
none_laid order fs known names g l n = record {
  globals = g;
  locals = l;
  right = record {
    right = λ i f there m. absurd (omega (arith, m));
    none = λ name h. ap (fun_named name) n;
    count = ap length n ∙ count_none fs ∙ ap (count_of fs) (sym n);
  };
  later = λ i f there m. ap (fun_named f.name) n;
}

module _ (order : List (List ℕ)) (fs : List FunDecl) (is : IsOrder order fs) (differ : names_differ fs ≡ true) (known : List Known) where
  -- ---- a name of no function

  other_laid : (k : ℕ) (z : List ℕ) (names : Names) → slice_get order k ≡ Some z → ((i : ℕ) (f : FunDecl) → slice_get fs i ≡ Some f → bytes_eq z f.name ≡ false)
      → AreLaid order fs known k names → AreLaid order fs known (k + 1) names
  other_laid k z names at not_one h = record {
    globals = h.globals;
    locals = h.locals;
    right = record {
      right = λ i f there m. side i f there m (nat_lt (number_of_name f.name order) k) refl;
      none = h.right.none;
      count = h.right.count;
    };
    later = λ i f there m. h.later i f there (omega (arith, m));
  }
    where
      side : (i : ℕ) (f : FunDecl) → slice_get fs i ≡ Some f → number_of_name f.name order < k + 1 → (b : Bool) → nat_lt (number_of_name f.name order) k ≡ b → fun_named f.name names.funs ≡ fun_named f.name (seen fs known).funs
      side i f there m true e = h.right.right i f there (less_so (number_of_name f.name order) k e)
      side i f there m false e =
          let least = not_less (number_of_name f.name order) k e in
          let here = at_number k z f.name order at (omega (arith, least, m)) in
          let none : true ≡ false = sym here ∙ not_one i f there in
          cc

  -- ---- a function

  module _ (k : ℕ) (z : List ℕ) (p : ℕ) (d : FunDecl) (at : slice_get order k ≡ Some z) (there : slice_get fs p ≡ Some d) (named : d.name ≡ z) where
    first : number_of_name d.name order ≤ k
    first = number_first k z d.name order at ((bytes_eq-Decides z d.name).1 (sym named))

    -- another function at the number is the same
    same_one : (i : ℕ) (f : FunDecl) → slice_get fs i ≡ Some f → bytes_eq d.name f.name ≡ true → f ≡ d
    same_one i f fi e = let one : Some f ≡ Some d = sym fi ∙ ap (slice_get fs) (same_place fs i p f d differ fi there (text_turned d.name f.name true e)) ∙ there in cc

    at_one : (f : FunDecl) → number_of_name f.name order ≡ k → bytes_eq d.name f.name ≡ true
    at_one f e = ap (λ x. bytes_eq x f.name) named ∙ at_number k z f.name order at e

    finds : (names : Names) → AreLaid order fs known k names → decl_found d names ≡ fun_named d.name (seen fs known).funs
    finds names h =
        ap (decl_found d) (sym (is_over known names h.globals h.locals))
        ∙ found_right order fs is differ known p d names.funs there (right_less order fs known k (number_of_name d.name order) names.funs first h.right)

    puts : (names : Names) (g : Fun) → fun_judged d.name d.decl names ≡ Fine g → AreLaid order fs known k names → AreLaid order fs known (k + 1) (record names { funs = with_set g names.funs })
    puts names g judged h = record {
      globals = h.globals;
      locals = h.locals;
      right = record {
        right = λ i f fi m. fun_set f.name g found ∙ right i f fi m (bytes_eq d.name f.name) refl;
        none = λ name e.
            fun_set name g found
            ∙ ap (λ b. if b then Some g else fun_named name found) (ap (λ n. bytes_eq n name) is_named ∙ text_turned name d.name false (other_name name fs p d e there))
            ∙ h.right.none name e;
        count = count_set fs g found differ (ap (λ n. is_named_in n fs) is_named ∙ named_at fs p d there) h.right.count;
      };
      later = λ i f fi m. fun_set f.name g found ∙ after i f fi m (bytes_eq d.name f.name) refl;
    }
      where
        found : List Fun
        found = names.funs

        is_named : g.name ≡ d.name
        is_named = fun_named_so d.name d.decl names g judged

        other : (f : FunDecl) (b : Bool) → bytes_eq d.name f.name ≡ b → (if bytes_eq g.name f.name then Some g else fun_named f.name found) ≡ (if b then Some g else fun_named f.name found)
        other f b e = ap (λ c. if c then Some g else fun_named f.name found) (ap (λ n. bytes_eq n f.name) is_named ∙ e)

        right : (i : ℕ) (f : FunDecl) → slice_get fs i ≡ Some f → number_of_name f.name order < k + 1 → (b : Bool) → bytes_eq d.name f.name ≡ b
            → (if bytes_eq g.name f.name then Some g else fun_named f.name found) ≡ fun_named f.name (seen fs known).funs
        right i f fi m true e =
            other f true e ∙ ap found_of (sym judged) ∙ finds names h ∙ ap (λ x. fun_named x.name (seen fs known).funs) (sym (same_one i f fi e))
        right i f fi m false e = other f false e ∙ h.right.right i f fi (less (nat_lt (number_of_name f.name order) k) refl)
          where
            less : (b : Bool) → nat_lt (number_of_name f.name order) k ≡ b → number_of_name f.name order < k
            less true l = less_so (number_of_name f.name order) k l
            less false l =
                let least = not_less (number_of_name f.name order) k l in
                let no : true ≡ false = sym (at_one f (omega (arith, least, m))) ∙ e in
                cc

        after : (i : ℕ) (f : FunDecl) → slice_get fs i ≡ Some f → k + 1 ≤ number_of_name f.name order → (b : Bool) → bytes_eq d.name f.name ≡ b
            → (if bytes_eq g.name f.name then Some g else fun_named f.name found) ≡ None
        after i f fi m true e =
            let same : number_of_name f.name order ≡ number_of_name d.name order = ap (λ x. number_of_name x.name order) (same_one i f fi e) in
            absurd (omega (arith, m, same, first))
        after i f fi m false e = other f false e ∙ h.later i f fi (omega (arith, m))

    lacks : (names : Names) → None ≡ decl_found d names → AreLaid order fs known k names → AreLaid order fs known (k + 1) names
    lacks names judged h = record {
      globals = h.globals;
      locals = h.locals;
      right = record {
        right = λ i f fi m. right i f fi m (nat_lt (number_of_name f.name order) k) refl;
        none = h.right.none;
        count = h.right.count;
      };
      later = λ i f fi m. h.later i f fi (omega (arith, m));
    }
      where
        right : (i : ℕ) (f : FunDecl) → slice_get fs i ≡ Some f → number_of_name f.name order < k + 1 → (b : Bool) → nat_lt (number_of_name f.name order) k ≡ b
            → fun_named f.name names.funs ≡ fun_named f.name (seen fs known).funs
        right i f fi m true l = h.right.right i f fi (less_so (number_of_name f.name order) k l)
        right i f fi m false l =
            let least = not_less (number_of_name f.name order) k l in
            h.later i f fi least
            ∙ judged
            ∙ finds names h
            ∙ ap (λ x. fun_named x.name (seen fs known).funs) (sym (same_one i f fi (at_one f (omega (arith, least, m)))))

    fun_laid : (names : Names) → AreLaid order fs known k names → AreLaid order fs known (k + 1) (laid_by (fun_judged d.name d.decl names) names)
    fun_laid names h = go (fun_judged d.name d.decl names) refl
      where
        go : (j : Judged Fun) → fun_judged d.name d.decl names ≡ j → AreLaid order fs known (k + 1) (laid_by j names)
        go (Fine g) e = puts names g e h
        go (Broken rule q) e = lacks names (ap found_of (sym e)) h

-- ---- all of them

named_laid : (order : Ordered) (fs : List FunDecl) → IsOrderOf order fs → names_differ fs ≡ true → (known : List Known) (k : ℕ) (z : List ℕ) (names : Names) → slice_get order.names k ≡ Some z
    → AreLaid order.names fs known k names → AreLaid order.names fs known (k + 1) (laid_named z order fs names)
named_laid order fs is d known k z names at h = go (is_seen z order.funs) refl
  where
    go : (b : Bool) → is_seen z order.funs ≡ b → AreLaid order.names fs known (k + 1) (if b then laid_at (slice_get fs (number_of_name z order.funs)) names else names)
    go false e = other_laid order.names fs (is.is_order d) d known k z names at (λ i f there. not_met z fs (ap (is_seen z) (sym is.funs) ∙ e) i f there) h
    go true e =
        let met = at_met z fs d (ap (is_seen z) (sym is.funs) ∙ e) in
        let there : slice_get fs (number_of_name z order.funs) ≡ Some met.decl = ap (λ ns. slice_get fs (number_of_name z ns)) is.funs ∙ met.there in
        subst (λ o. AreLaid order.names fs known (k + 1) (laid_at o names)) (sym there)
        (fun_laid order.names fs (is.is_order d) d known k z (number_of_name z order.funs) met.decl at there met.named names h)

at_length : (done : List (List ℕ)) (z : List ℕ) (left : List (List ℕ)) → slice_get (done ++ z ∷ left) (length done) ≡ Some z
at_length [] z left = refl
at_length (y ∷ done) z left = at_length done z left

length_more : (done : List (List ℕ)) (z : List ℕ) → length done + 1 ≡ length (done ++ z ∷ [])
length_more [] z = refl
length_more (y ∷ done) z = let more = length_more done z in omega (arith, more)

laid_from : (order : Ordered) (fs : List FunDecl) → IsOrderOf order fs → names_differ fs ≡ true → (known : List Known) (done left : List (List ℕ)) (names : Names) → order.names ≡ done ++ left
    → AreLaid order.names fs known (length done) names → AreLaid order.names fs known (length order.names) (laid left order fs names)
laid_from order fs is d known done [] names e h = subst (λ n. AreLaid order.names fs known n names) (ap length (sym (append-nil done) ∙ sym e)) h
laid_from order fs is d known done (z ∷ left) names e h =
    laid_from order fs is d known (done ++ z ∷ []) left (laid_named z order fs names) (e ∙ sym (append_assoc done (z ∷ []) left))
    (subst (λ n. AreLaid order.names fs known n (laid_named z order fs names)) (length_more done z)
    (named_laid order fs is d known (length done) z names (ap (λ ns. slice_get ns (length done)) e ∙ at_length done z left) h))

-- all functions over them are those that are seen
pub laid_seen : (order : Ordered) (fs : List FunDecl) → IsOrderOf order fs → names_differ fs ≡ true → (known : List Known) (before after next : Kept) → globals_of before ≡ known → (held before).funs ≡ []
    → names_in after ≡ laid order.names order fs (names_in before) → globals_of next ≡ known → (held next).funs ≡ funs_over fs (names_in after) → names_in next ≡ seen fs known
laid_seen order fs is d known before after next g n laid_so gn fn =
    let all = laid_from order fs is d known [] order.names (names_in before) refl (none_laid order.names fs known (names_in before) g refl n) in
    let here : AreLaid order.names fs known (length order.names) (names_in after) = subst (AreLaid order.names fs known (length order.names)) (sym laid_so) all in
    names_so known (seen fs known).funs next gn
    (fn ∙ ap (funs_over fs) (sym (is_over known (names_in after) here.globals here.locals)) ∙ over_right_ones order.names fs (is.is_order d) d known (names_in after).funs here.right)

pub laid_ok : (order : Ordered) (fs : List FunDecl) → IsOrderOf order fs → names_differ fs ≡ true → (known : List Known) (before after : Kept) → globals_of before ≡ known → (held before).funs ≡ []
    → names_in after ≡ laid order.names order fs (names_in before) → (result : Result Kept Memory) → IfOk result (λ env. globals_of env ≡ known)
    → IfOk result (λ env. (held env).funs ≡ funs_over fs (names_in after)) → IfOk result (λ env. names_in env ≡ seen fs known)
laid_ok order fs is d known before after g n laid_so (Ok next) gn fn = laid_seen order fs is d known before after next g n laid_so gn fn
laid_ok order fs is d known before after g n laid_so (Err e) gn fn = tt
