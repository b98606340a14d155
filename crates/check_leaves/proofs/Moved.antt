-- Values that are given to the same parameters elsewhere make the same actor.
use Rattle.std.proofs.Common.{◌≡◌, ℕ, Bool, true, false, ◌||◌, not, List, [], ◌∷◌, ◌++◌, map, Option, None, Some, refl, sym, ap, subst, ◌∙◌}
use Rattle.std.specs.Prelude.{if◌then◌else◌}
use Rattle.std.specs.Str.{bytes_eq}
use Rattle.rvc_base.specs.Rules.{not_constant, wrong_parameter}
use Rattle.rvc_base.specs.declared.refusal.Rule.{Rule}
use Rattle.cal_ast.specs.Places.{begins}
use Rattle.cal_ast.specs.Tree as tree
use Rattle.cal_ast.specs.Tree.{Tree}
use Rattle.cal_model.specs.Actor.{Actor, Held}
use Rattle.cal_model.specs.Kinding.{Broken, Fine, Judged, Known, Names}
use Rattle.cal_model.specs.Value.{Shape, Value, kind_of_type, stored}
use Rattle.cal_check.specs.Actions.{Around, or_none}
use Rattle.cal_check.specs.Actors.{IsAboveItself, IsSource, Source, actions_in, actions_of, actor_given, all_funs, all_said, all_valued, around_of, at_rest, before_members, behind_variables, declared_vars, first_valueless, funs_of, given_wrongly, has_heads, header_found, ins_of, is_declared, is_empty, is_given, is_held, kept_funs, kept_vars, members_found, members_of, outs_of, params_in, params_of, place_of, procs_in, procs_of, said_or_all, valueless_found, vars_in, violations, with_order}
use Rattle.cal_check.specs.Constants.{early_type, has_kind}
use Rattle.cal_check.specs.Ports.{each_port, header_broken}
use Rattle.cal_check.specs.Routines.{FunDecl}
use Rattle.cal_check.specs.Schedules.{schedule_in, states_of}
use Rattle.cal_check.specs.Variables.{Come, Found, Given, Spot, VarDecl, Valued, come, found_in, given_broken, given_to, given_value, is_bare, misfit, none_yet, param_broken, seen, value_of, valued, with_type, with_value, with_var}
use Rattle.cal_check.specs.Violations.{all_fine, said, violation}

-- ---- the same values, given to the same parameters

abbrev pub SameGiven : List Given → List Given → Type 0
SameGiven [] [] = Unit {0}
SameGiven (g ∷ gs) (h ∷ hs) = (g.name ≡ h.name) × (g.value ≡ h.value) × SameGiven gs hs
SameGiven [] (h ∷ hs) = ⊥
SameGiven (g ∷ gs) [] = ⊥

abbrev SameGift : Option Given → Option Given → Type 0
SameGift None None = Unit {0}
SameGift (Some g) (Some h) = g.value ≡ h.value
SameGift None (Some h) = ⊥
SameGift (Some g) None = ⊥

pick : (b c : Bool) → b ≡ c → (g h : Given) → g.value ≡ h.value → (o p : Option Given) → SameGift o p
    → SameGift (if b then Some g else o) (if c then Some h else p)
pick true true e g h v o p s = v
pick false false e g h v o p s = s
pick true false e g h v o p s = absurd (cc)
pick false true e g h v o p s = absurd (cc)

same_gift : (name : List ℕ) (gs hs : List Given) → SameGiven gs hs → SameGift (given_to name gs) (given_to name hs)
same_gift name [] [] s = tt
same_gift name (g ∷ gs) (h ∷ hs) s =
    pick (bytes_eq g.name name) (bytes_eq h.name name) (ap (λ n. bytes_eq n name) s.0) g h s.1 (given_to name gs) (given_to name hs) (same_gift name gs hs s.2)
same_gift name [] (h ∷ hs) s = absurd s
same_gift name (g ∷ gs) [] s = absurd s

-- ---- one parameter

no_found : (file : ℕ) (rule : Rule) (at : ℕ) → found_in file (violation rule at) ≡ [] → ⊥
no_found file rule at h = cc

same_value : (o p : Option Given) (t : Shape) (start : Option Value) → SameGift o p → given_value o t start ≡ given_value p t start
same_value None None t start s = refl
same_value (Some g) (Some h) t start s = ap (λ v. if has_kind (kind_of_type t) v then Some (stored t v) else None) s
same_value None (Some h) t start s = absurd s
same_value (Some g) None t start s = absurd s

else_none : (b c : Bool) → b ≡ c → (xs ys : List Found) → (xs ≡ [] → ⊥) → (if b then [] else xs) ≡ [] → (if c then [] else ys) ≡ []
else_none true true e xs ys some h = refl
else_none false false e xs ys some h = absurd (some h)
else_none true false e xs ys some h = absurd (cc)
else_none false true e xs ys some h = absurd (cc)

then_none : (b c : Bool) → b ≡ c → (xs ys : List Found) → (xs ≡ [] → ⊥) → (if b then xs else []) ≡ [] → (if c then ys else []) ≡ []
then_none false false e xs ys some h = refl
then_none true true e xs ys some h = absurd (some h)
then_none true false e xs ys some h = absurd (cc)
then_none false true e xs ys some h = absurd (cc)

gift_fits : (o p : Option Given) (t : Shape) → SameGift o p → given_broken o t ≡ [] → given_broken p t ≡ []
gift_fits None None t s h = refl
gift_fits (Some g) (Some i) t s h =
    else_none (has_kind (kind_of_type t) g.value) (has_kind (kind_of_type t) i.value) (ap (has_kind (kind_of_type t)) s)
    (found_in g.place.file (violation (misfit (kind_of_type t) g.value) g.place.at))
    (found_in i.place.file (violation (misfit (kind_of_type t) i.value) i.place.at))
    (no_found g.place.file (misfit (kind_of_type t) g.value) g.place.at) h
gift_fits None (Some i) t s h = absurd s
gift_fits (Some g) None t s h = absurd s

given_is_not_bare : (start : Tree) (g : Given) → is_bare start (Some g) ≡ false
given_is_not_bare (tree.present e) g = refl
given_is_not_bare other g = refl

same_bare : (start : Tree) (o p : Option Given) → SameGift o p → is_bare start o ≡ is_bare start p
same_bare start None None s = refl
same_bare start (Some g) (Some h) s = given_is_not_bare start g ∙ sym (given_is_not_bare start h)
same_bare start None (Some h) s = absurd s
same_bare start (Some g) None s = absurd s

none_of : {A : Type 0} (xs ys : List A) → xs ++ ys ≡ [] → (xs ≡ []) × (ys ≡ [])
none_of [] ys h = (refl, h)
none_of (x ∷ xs) ys h = absurd (cc)

none_both : {A : Type 0} (xs ys : List A) → xs ≡ [] → ys ≡ [] → xs ++ ys ≡ []
none_both [] ys e f = f
none_both (x ∷ xs) ys e f = absurd (cc)

param_fits : (x : VarDecl) (gs hs : List Given) (owner other : Spot) (t : Shape) → SameGiven gs hs
    → param_broken x gs owner t ≡ [] → param_broken x hs other t ≡ []
param_fits x gs hs owner other t s h = go x.is_param h
  where
    go : (b : Bool)
        → (if b then given_broken (given_to x.name gs) t ++ (if is_bare x.start (given_to x.name gs) then found_in owner.file (violation wrong_parameter owner.at) else []) else []) ≡ []
        → (if b then given_broken (given_to x.name hs) t ++ (if is_bare x.start (given_to x.name hs) then found_in other.file (violation wrong_parameter other.at) else []) else []) ≡ []
    go false i = refl
    go true i =
        let gift = same_gift x.name gs hs s in
        let parts = none_of (given_broken (given_to x.name gs) t) _ i in
        none_both (given_broken (given_to x.name hs) t) _
        (gift_fits (given_to x.name gs) (given_to x.name hs) t gift parts.0)
        (then_none (is_bare x.start (given_to x.name gs)) (is_bare x.start (given_to x.name hs)) (same_bare x.start (given_to x.name gs) (given_to x.name hs) gift)
        (found_in owner.file (violation wrong_parameter owner.at)) (found_in other.file (violation wrong_parameter other.at))
        (no_found owner.file wrong_parameter owner.at) parts.1)

same_start : (x : VarDecl) (gs hs : List Given) (t : Shape) (start : Option Value) → SameGiven gs hs → value_of x gs t start ≡ value_of x hs t start
same_start x gs hs t start s =
    ap (λ v. if x.is_param then v else start) (same_value (given_to x.name gs) (given_to x.name hs) t start (same_gift x.name gs hs s))

-- ---- all variables

-- variables come to the same, and where the one breaks nothing the other doesn't
record SameValued (v w : Valued) : Type 0 where
  known : v.known ≡ w.known
  held : v.held ≡ w.held
  useless : v.useless ≡ w.useless
  whole : v.whole ≡ w.whole
  fine : v.breaks ≡ [] → w.breaks ≡ []

-- the same, with other breaks
abbrev but : Valued → List Found → Valued
but vs bs = record vs { breaks = bs }

is_but : (v w : Valued) → SameValued v w → but v w.breaks ≡ w
is_but v w s =
    ap (λ k. record { known = k; held = v.held; breaks = w.breaks; useless = v.useless; whole = v.whole }) s.known
    ∙ ap (λ k. record { known = w.known; held = k; breaks = w.breaks; useless = v.useless; whole = v.whole }) s.held
    ∙ ap (λ k. record { known = w.known; held = w.held; breaks = w.breaks; useless = k; whole = v.whole }) s.useless
    ∙ ap (λ k. record { known = w.known; held = w.held; breaks = w.breaks; useless = w.useless; whole = k }) s.whole

more_fine : (vs : Valued) (bs more others : List Found) → (vs.breaks ≡ [] → bs ≡ []) → (more ≡ [] → others ≡ [])
    → vs.breaks ++ more ≡ [] → bs ++ others ≡ []
more_fine vs bs more others f g h = let parts = none_of vs.breaks more h in none_both bs others (f parts.0) (g parts.1)

with_one : (x : VarDecl) (t : Shape) (v w : Option Value) → v ≡ w → (more others : List Found) (vs : Valued) (bs : List Found)
    → (vs.breaks ≡ [] → bs ≡ []) → (more ≡ [] → others ≡ [])
    → SameValued (with_value x t v more vs) (with_value x t w others (but vs bs))
with_one x t v w e more others vs bs f g =
    subst (λ o. SameValued (with_value x t v more vs) (with_value x t o others (but vs bs))) e
    (record { known = refl; held = refl; useless = refl; whole = refl; fine = λ h. more_fine vs bs more others f g h })

over_type : (j : Judged Shape) (x : VarDecl) (gs hs : List Given) (owner other : Spot) (names : Names) (vs : Valued) (bs : List Found) → SameGiven gs hs
    → (vs.breaks ≡ [] → bs ≡ []) → SameValued (with_type j x gs owner names vs) (with_type j x hs other names (but vs bs))
over_type (Fine t) x gs hs owner other names vs bs s f =
    let c : Come = come t x.start names in
    with_one x t (value_of x gs t c.value) (value_of x hs t c.value) (same_start x gs hs t c.value s)
    (found_in x.file (said vs.useless c.breaks) ++ param_broken x gs owner t)
    (found_in x.file (said vs.useless c.breaks) ++ param_broken x hs other t) vs bs f
    (λ h. let parts = none_of (found_in x.file (said vs.useless c.breaks)) (param_broken x gs owner t) h in
    none_both (found_in x.file (said vs.useless c.breaks)) (param_broken x hs other t) parts.0 (param_fits x gs hs owner other t s parts.1))
over_type (Broken rule at) x gs hs owner other names vs bs s f =
    record { known = refl; held = refl; useless = refl; whole = refl; fine = λ h. more_fine vs bs _ _ f (λ i. i) h }

over_var : (x : VarDecl) (gs hs : List Given) (owner other : Spot) (fs : List FunDecl) (vs : Valued) (bs : List Found) → SameGiven gs hs
    → (vs.breaks ≡ [] → bs ≡ []) → SameValued (with_var x gs owner fs vs) (with_var x hs other fs (but vs bs))
over_var x gs hs owner other fs vs bs s f = go vs.whole
  where
    go : (b : Bool)
        → SameValued (if b then with_type (early_type x.shape (seen fs vs.known)) x gs owner (seen fs vs.known) vs else vs)
        (if b then with_type (early_type x.shape (seen fs vs.known)) x hs other (seen fs vs.known) (but vs bs) else but vs bs)
    go true = over_type (early_type x.shape (seen fs vs.known)) x gs hs owner other (seen fs vs.known) vs bs s f
    go false = record { known = refl; held = refl; useless = refl; whole = refl; fine = f }

over_vars : (xs : List VarDecl) (gs hs : List Given) (owner other : Spot) (fs : List FunDecl) (vs ws : Valued) → SameGiven gs hs
    → SameValued vs ws → SameValued (valued xs gs owner fs vs) (valued xs hs other fs ws)
over_vars [] gs hs owner other fs vs ws s same = same
over_vars (x ∷ xs) gs hs owner other fs vs ws s same =
    over_vars xs gs hs owner other fs (with_var x gs owner fs vs) (with_var x hs other fs ws) s
    (subst (λ w. SameValued (with_var x gs owner fs vs) (with_var x hs other fs w)) (is_but vs ws same)
    (over_var x gs hs owner other fs vs ws.breaks s same.fine))

-- ---- the actor

before_same : (s : Source) (gs hs : List Given) (owner other : Spot) → SameGiven gs hs → SameValued (before_members s gs owner) (before_members s hs other)
before_same s gs hs owner other same =
    over_vars (s.vars ++ params_in s.file (params_of s.actor)) gs hs owner other (all_funs s) none_yet none_yet same
    (record { known = refl; held = refl; useless = refl; whole = refl; fine = λ h. h })

all_same : (s : Source) (gs hs : List Given) (owner other : Spot) → SameGiven gs hs → SameValued (all_valued s gs owner) (all_valued s hs other)
all_same s gs hs owner other same =
    over_vars (vars_in s.file (members_of s.actor)) gs hs owner other (all_funs s) (before_members s gs owner) (before_members s hs other) same
    (before_same s gs hs owner other same)

-- what the members see, over what is known of parameters and of all variables
abbrev around_over : Source → (before all : List Known) → Around
around_over s before all = record {
  ins = or_none (all_fine (each_port (ins_of s.actor) (seen (all_funs s) before)));
  outs = or_none (all_fine (each_port (outs_of s.actor) (seen (all_funs s) before)));
  procs = or_none (all_fine (procs_of (procs_in (members_of s.actor)) (seen (all_funs s) (map at_rest all))));
  names = seen (all_funs s) (map at_rest all);
}

around_same : (s : Source) (gs hs : List Given) (owner other : Spot) → SameGiven gs hs → around_of s gs owner ≡ around_of s hs other
around_same s gs hs owner other same =
    ap (λ k. around_over s k (all_valued s gs owner).known) (before_same s gs hs owner other same).known
    ∙ ap (around_over s (before_members s hs other).known) (all_same s gs hs owner other same).known

abbrev actor_over : Source → List Held → Around → Actor
actor_over s held around = with_order s (record {
  class = s.class;
  ins = around.ins;
  outs = around.outs;
  vars = kept_vars held s;
  funs = kept_funs (or_none (all_fine (funs_of (all_funs s) around.names))) s;
  procs = around.procs;
  actions = actions_of (actions_in (members_of s.actor)) around;
  states = states_of (schedule_in (members_of s.actor));
  moves = [];
  pairs = [];
})

actor_same : (s : Source) (gs hs : List Given) (owner other : Spot) → SameGiven gs hs → actor_given s gs owner ≡ actor_given s hs other
actor_same s gs hs owner other same =
    ap (λ held. actor_over s held (around_of s gs owner)) (all_same s gs hs owner other same).held
    ∙ ap (actor_over s (all_valued s hs other).held) (around_same s gs hs owner other same)

-- ---- what it breaks

same_before : (name : List ℕ) (gs hs : List Given) → SameGiven gs hs → is_given name gs ≡ is_given name hs
same_before name [] [] s = refl
same_before name (g ∷ gs) (h ∷ hs) s =
    ap (λ n. bytes_eq n name || is_given name gs) s.0 ∙ ap (λ b. bytes_eq h.name name || b) (same_before name gs hs s.2)
same_before name [] (h ∷ hs) s = absurd s
same_before name (g ∷ gs) [] s = absurd s

rightly : (gs hs before others : List Given) (params : List VarDecl) → SameGiven gs hs → SameGiven before others
    → given_wrongly gs before params ≡ [] → given_wrongly hs others params ≡ []
rightly [] [] before others params s b e = refl
rightly (g ∷ gs) (h ∷ hs) before others params s b e =
    let parts = none_of (if not (is_declared g.name params) || is_given g.name before then found_in g.place.file (violation wrong_parameter g.place.at) else []) (given_wrongly gs (g ∷ before) params) e in
    let test : (not (is_declared g.name params) || is_given g.name before) ≡ (not (is_declared h.name params) || is_given h.name others) =
    ap (λ n. not (is_declared n params) || is_given n before) s.0 ∙ ap (λ c. not (is_declared h.name params) || c) (same_before h.name before others b) in
    none_both (if not (is_declared h.name params) || is_given h.name others then found_in h.place.file (violation wrong_parameter h.place.at) else []) (given_wrongly hs (h ∷ others) params)
    (then_none (not (is_declared g.name params) || is_given g.name before) (not (is_declared h.name params) || is_given h.name others) test
    (found_in g.place.file (violation wrong_parameter g.place.at)) (found_in h.place.file (violation wrong_parameter h.place.at))
    (no_found g.place.file wrong_parameter g.place.at) parts.0)
    (rightly gs hs (g ∷ before) (h ∷ others) params s.2 (s.0, s.1, b) parts.1)
rightly [] (h ∷ hs) before others params s b e = absurd s
rightly (g ∷ gs) [] before others params s b e = absurd s

-- the header and the members
abbrev members_over : Source → List Found → Around → Actor → Bool → List Found
members_over s header around actor whole = header ++ (if is_empty header then members_found s around actor whole else [])

header_same : (s : Source) (gs hs : List Given) (owner other : Spot) → SameGiven gs hs → header_found s gs owner ≡ header_found s hs other
header_same s gs hs owner other same =
    ap (λ k. found_in s.file (header_broken (ins_of s.actor) (outs_of s.actor) (place_of s.actor) (seen (all_funs s) k)))
    (before_same s gs hs owner other same).known

members_same : (s : Source) (gs hs : List Given) (owner other : Spot) → SameGiven gs hs
    → members_over s (header_found s gs owner) (around_of s gs owner) (actor_given s gs owner) (all_valued s gs owner).whole
    ≡ members_over s (header_found s hs other) (around_of s hs other) (actor_given s hs other) (all_valued s hs other).whole
members_same s gs hs owner other same =
    ap (λ h. members_over s h (around_of s gs owner) (actor_given s gs owner) (all_valued s gs owner).whole) (header_same s gs hs owner other same)
    ∙ ap (λ a. members_over s (header_found s hs other) a (actor_given s gs owner) (all_valued s gs owner).whole) (around_same s gs hs owner other same)
    ∙ ap (λ a. members_over s (header_found s hs other) (around_of s hs other) a (all_valued s gs owner).whole) (actor_same s gs hs owner other same)
    ∙ ap (λ w. members_over s (header_found s hs other) (around_of s hs other) (actor_given s hs other) w) (all_same s gs hs owner other same).whole

behind_none : (s : Source) (gs hs : List Given) (owner other : Spot) → SameGiven gs hs
    → behind_variables s gs owner (around_of s gs owner) ≡ [] → behind_variables s hs other (around_of s hs other) ≡ []
behind_none s gs hs owner other same h =
    let parts = none_of (given_wrongly gs [] (params_in s.file (params_of s.actor))) _ h in
    none_both (given_wrongly hs [] (params_in s.file (params_of s.actor))) _
    (rightly gs hs [] [] (params_in s.file (params_of s.actor)) same tt parts.0)
    (sym (members_same s gs hs owner other same) ∙ parts.1)

-- a variable without a value is always named
always_some : (xs : List VarDecl) (held : List Held) (owner : Spot) → first_valueless xs held owner ≡ [] → ⊥
always_some [] held owner h = cc
always_some (x ∷ xs) held owner h = go (is_held x.name held) h (always_some xs held owner)
  where
    go : (b : Bool) → (if b then first_valueless xs held owner else found_in x.file (violation not_constant (begins x.start))) ≡ [] → (first_valueless xs held owner ≡ [] → ⊥) → ⊥
    go true e rest = rest e
    go false e rest = cc

valueless_none : (s : Source) (owner other : Spot) (vs ws : Valued) → SameValued vs ws → valueless_found s owner vs ≡ [] → valueless_found s other ws ≡ []
valueless_none s owner other vs ws same h =
    then_none (vs.useless || not vs.whole) (ws.useless || not ws.whole)
    (ap (λ u. u || not vs.whole) same.useless ∙ ap (λ w. ws.useless || not w) same.whole)
    (first_valueless (declared_vars s) vs.held owner) (first_valueless (declared_vars s) ws.held other)
    (always_some (declared_vars s) vs.held owner) h

said_none : (said all : List Found) → said_or_all said all ≡ [] → all ≡ []
said_none [] all h = h
said_none (f ∷ fs) all h = absurd (cc)

both_none : (said all : List Found) → said_or_all said all ≡ [] → (said ≡ []) × (all ≡ [])
both_none [] all h = (refl, h)
both_none (f ∷ fs) all h = absurd (cc)

nothing_said : (h u : Bool) (bs behind rest : List Found) → bs ≡ [] → behind ≡ [] → rest ≡ []
    → said_or_all (all_said h (bs ++ all_said u behind)) (said_or_all (bs ++ behind) rest) ≡ []
nothing_said h u [] [] [] e f g = refl
nothing_said h u (b ∷ bs) behind rest e f g = absurd (cc)
nothing_said h u [] (b ∷ behind) rest e f g = absurd (cc)
nothing_said h u [] [] (r ∷ rest) e f g = absurd (cc)

nothing_broken : (s : Source) (gs hs : List Given) (owner other : Spot) → SameGiven gs hs → violations s gs owner ≡ [] → violations s hs other ≡ []
nothing_broken s gs hs owner other same h =
    let all = said_none (all_said (not (has_heads s (around_of s gs owner))) ((all_valued s gs owner).breaks ++ all_said (all_valued s gs owner).useless (behind_variables s gs owner (around_of s gs owner)))) _ h in
    let two = both_none ((all_valued s gs owner).breaks ++ behind_variables s gs owner (around_of s gs owner)) (valueless_found s owner (all_valued s gs owner)) all in
    let parts = none_of (all_valued s gs owner).breaks (behind_variables s gs owner (around_of s gs owner)) two.0 in
    let vars = all_same s gs hs owner other same in
    nothing_said (not (has_heads s (around_of s hs other))) (all_valued s hs other).useless (all_valued s hs other).breaks
    (behind_variables s hs other (around_of s hs other)) (valueless_found s other (all_valued s hs other))
    (vars.fine parts.0) (behind_none s gs hs owner other same parts.1)
    (valueless_none s owner other (all_valued s gs owner) (all_valued s hs other) vars two.1)

pub moved : (s : Source) (gs hs : List Given) (owner other : Spot) (actor : Actor) → SameGiven gs hs → IsSource s gs owner actor → IsSource s hs other actor
moved s gs hs owner other actor same is = record {
  conforms = record {
    nothing = nothing_broken s gs hs owner other same is.conforms.nothing;
    ordered = subst (λ a. IsAboveItself a → ⊥) (actor_same s gs hs owner other same) is.conforms.ordered;
  };
  is = is.is ∙ actor_same s gs hs owner other same;
}
