-- The names with all functions, made or judged anew.
use Rattle.std.proofs.Common.{◌≡◌, true, ℕ, List, [], refl, sym, ap, subst, ◌∙◌, Option, None, Some}
use Rattle.std.specs.Prelude.{IsSome, option_map}
use Rattle.cal_model.specs.Kinding.{Known, Names}
use Rattle.cal_check.specs.Routines.{FunDecl}
use Rattle.cal_check.specs.Variables.{seen}
use Rattle.const_env.specs.Held.{Kept as Environment, names_in}
use Rattle.check_functions.specs.Alike.{SeeAlike}
use Rattle.check_functions.specs.Growing.{AreRenewed, AreThose, Growing, IsKept, IsMade, IsSame, Kept, RenewedTo, kept_in}
use Rattle.check_functions.specs.Known.{names_differ}
use Rattle.check_functions.specs.Left.{renewed}
use Rattle.check_functions.specs.Order.{AreOrdered, Ordered}
use Rattle.check_functions.specs.Said.{AreSaid}
use Rattle.check_functions.proofs.Renewed.{all_renewed, left_seen, seen_left}

-- ---- names that were made

alike_same : (n m : Names) → n ≡ m → SeeAlike n m
alike_same n m h = subst (SeeAlike n) h (record { globals = refl; locals = refl; funs = λ name. refl; count = refl })

those_made : (order : Option Ordered) (fs : List FunDecl) (known : List Known) → names_differ fs ≡ true → AreThose order [] fs known (Some (seen fs known))
those_made None fs known d = (alike_same (seen fs known) (seen fs known) refl, refl)
those_made (Some order) fs known d = (refl, refl, seen_left order.names fs known d)

pub kept_made : (kept : Kept) (fs : List FunDecl) (known : List Known) (found : Names) → found ≡ seen fs known → IsKept kept fs known
    → IsKept (record kept { seen = Some found; left = [] }) fs known
kept_made kept fs known found is h = record {
  alone = h.alone;
  order = h.order;
  said = h.said;
  seen = λ d. subst (λ n. AreThose kept.order [] fs known (Some n)) (sym is) (those_made kept.order fs known d);
}

-- ---- names that were judged anew

same_some : (a b : Names) → Some a ≡ Some b → a ≡ b
same_some a b h = cc

those_renewed : (order : Option Ordered) (fs : List FunDecl) (known : List Known) (left : List ℕ) (old new : Option Names) → names_differ fs ≡ true → AreOrdered order fs
    → AreThose order left fs known old → RenewedTo left fs old new → AreThose order [] fs known new
those_renewed order fs known left None new d o h is = absurd is
those_renewed order fs known left (Some old) None d o h is = absurd is
those_renewed None fs known left (Some old) (Some new) d o h is =
    let same : old ≡ new = same_some old new (ap (λ ps. renewed ps fs old) (sym h.1) ∙ is) in
    (subst (λ n. SeeAlike n (seen fs known)) same h.0, refl)
those_renewed (Some order) fs known left (Some old) (Some new) d o h is =
    let all = all_renewed order.names fs (o.is_order d) d known left old new is (record { globals = h.0; locals = h.1; left = h.2 }) in
    (all.globals, all.locals, all.left)

pub kept_renewed : (kept new : Kept) (fs : List FunDecl) (known : List Known) → IsSame kept new → AreRenewed fs kept new → IsKept kept fs known
    → IsKept (record new { left = [] }) fs known
kept_renewed kept new fs known same is h = record {
  alone = ap (λ k. k.alone) same ∙ h.alone;
  order = subst (λ o. AreOrdered o fs) (sym (ap (λ k. k.order) same)) h.order;
  said = subst (λ s. AreSaid fs s) (sym (ap (λ k. k.said) same)) h.said;
  seen = λ d.
      subst (λ o. AreThose o [] fs known new.seen) (sym (ap (λ k. k.order) same))
      (those_renewed kept.order fs known kept.left kept.seen new.seen d h.order (h.seen d) is);
}

-- ---- names of which none is left

those_alike : (order : Option Ordered) (fs : List FunDecl) (known : List Known) (found : Names) → names_differ fs ≡ true → AreThose order [] fs known (Some found) → SeeAlike found (seen fs known)
those_alike None fs known found d h = h.0
those_alike (Some order) fs known found d h = left_seen order.names fs known found d (record { globals = h.0; locals = h.1; left = h.2 })

pub is_made : (order : Option Ordered) (fs : List FunDecl) (known : List Known) (o : Option Environment) → names_differ fs ≡ true → IsSome o → AreThose order [] fs known (option_map names_in o)
    → IsMade o (seen fs known)
is_made order fs known None d s h = cc
is_made order fs known (Some env) d s h = those_alike order fs known (names_in env) d h

pub renewed_some : (left : List ℕ) (fs : List FunDecl) (old : Option Names) (new : Option Environment) → RenewedTo left fs old (option_map names_in new) → IsSome new
renewed_some left fs None new h = absurd h
renewed_some left fs (Some old) None h = absurd h
renewed_some left fs (Some old) (Some new) h = refl

-- ---- as they lie in memory

pub cleared : (now mid : Growing) (left : List ℕ) (fs : List FunDecl) (known : List Known) → now ≡ mid → left ≡ [] → IsKept (record (kept_in mid) { left = [] }) fs known
    → IsKept (record (kept_in now) { left = left }) fs known
cleared now mid left fs known same empty h =
    subst (λ l. IsKept (record (kept_in now) { left = l }) fs known) (sym empty) (subst (λ k. IsKept (record (kept_in k) { left = [] }) fs known) (sym same) h)

pub made_cleared : (now mid : Growing) (old : Kept) (env : Environment) (left : List ℕ) (fs : List FunDecl) (known : List Known) → now ≡ mid → IsSame old (kept_in mid) → left ≡ []
    → IsKept (record old { seen = Some (names_in env); left = [] }) fs known → IsKept (record (kept_in now) { seen = Some (names_in env); left = left }) fs known
made_cleared now mid old env left fs known same others empty h =
    subst (λ l. IsKept (record (kept_in now) { seen = Some (names_in env); left = l }) fs known) (sym empty)
    (subst (λ k. IsKept (record (kept_in k) { seen = Some (names_in env); left = [] }) fs known) (sym same)
    (subst (λ k. IsKept (record k { seen = Some (names_in env); left = [] }) fs known) (sym others) h))
