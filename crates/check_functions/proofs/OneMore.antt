-- Names that become known while what is seen of them is kept.
use Rattle.std.proofs.Common.{◌≡◌, ℕ, Bool, true, false, List, [], ◌∷◌, refl, sym, ap, subst, ◌∙◌, Option, None, Some}
use Rattle.std.specs.Prelude.{option_map}
use Rattle.cal_model.specs.Kinding.{Known, Names}
use Rattle.cal_check.specs.Routines.{FunDecl}
use Rattle.cal_check.specs.Variables.{seen}
use Rattle.const_env.specs.Held.{Kept as Environment, globals_of, held, names_in}
use Rattle.check_functions.specs.Growing.{AreThose, Grows, GrowsBy, IsKept, Kept, with_alone, with_global, with_left, with_none}
use Rattle.check_functions.specs.Known.{names_differ}
use Rattle.check_functions.specs.Left.{Leaves}
use Rattle.check_functions.specs.Order.{AreOrdered, Ordered, changes_all}
use Rattle.check_functions.specs.Said.{AreSaid, Saying, places_in}
use Rattle.check_functions.proofs.Renewed.{left_more}

-- ---- all functions may be others

kept_none : (x : Known) (kept : Kept) (fs : List FunDecl) (known : List Known) → IsKept kept fs known → IsKept (with_none (with_alone x kept)) fs (x ∷ known)
kept_none x kept fs known h = record {
  alone = ap (with_global x) h.alone;
  order = h.order;
  said = h.said;
  seen = λ d. tt;
}

-- ---- functions that are judged anew

seen_said : (order : Option Ordered) (x : Known) (fs : List FunDecl) (known : List Known) (said : List Saying) (old new : List ℕ) (o : Option Names) → names_differ fs ≡ true
    → changes_all x.name order ≡ false → AreOrdered order fs → AreSaid fs said → Leaves (places_in x.name said) old new → AreThose order old fs known o
    → AreThose order new fs (x ∷ known) (option_map (with_global x) o)
seen_said order x fs known said old new None d out is says leaves h = tt
seen_said None x fs known said old new (Some found) d out is says leaves h = absurd (cc)
seen_said (Some order) x fs known said old new (Some found) d out is says leaves h =
    (ap (λ ks. x ∷ ks) h.0, h.1, left_more order.names x fs known said old new found.funs (is.is_order d) d out says leaves h.2)

kept_said : (x : Known) (kept : Kept) (left : List ℕ) (fs : List FunDecl) (known : List Known) → changes_all x.name kept.order ≡ false
    → Leaves (places_in x.name kept.said) kept.left left → IsKept kept fs known → IsKept (with_left x left (with_alone x kept)) fs (x ∷ known)
kept_said x kept left fs known out leaves h = record {
  alone = ap (with_global x) h.alone;
  order = h.order;
  said = h.said;
  seen = λ d. seen_said kept.order x fs known kept.said kept.left left kept.seen d out h.order h.said leaves (h.seen d);
}

-- ---- one name more

pub kept_more : (x : Known) (kept new : Kept) (fs : List FunDecl) (known : List Known) → IsKept kept fs known → Grows x (with_alone x kept) new → IsKept new fs (x ∷ known)
kept_more x kept new fs known h grows = go (changes_all x.name kept.order) refl grows
  where
    go : (b : Bool) → changes_all x.name kept.order ≡ b → GrowsBy b x (with_alone x kept) new → IsKept new fs (x ∷ known)
    go true e is = subst (λ k. IsKept k fs (x ∷ known)) (sym is) (kept_none x kept fs known h)
    go false e is = subst (λ k. IsKept k fs (x ∷ known)) (sym is.0) (kept_said x kept new.left fs known e is.1 h)

-- a name was added to an environment
pub name_added : (x : Known) (old new : Environment) → globals_of new ≡ x ∷ globals_of old → (held new).funs ≡ (held old).funs → names_in new ≡ with_global x (names_in old)
name_added x old new g f =
    ap (λ ks. record { globals = ks; locals = []; funs = (held new).funs }) g ∙ ap (λ fs. record { globals = x ∷ globals_of old; locals = []; funs = fs }) f
