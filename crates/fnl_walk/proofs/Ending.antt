-- A walk from its start to its end.
use Rattle.std.proofs.Common.{◌≡◌, ℕ, zero, suc, ◌≤◌, List, [], ◌∷◌, ◌++◌, length, refl, sym, ap, subst, ◌∙◌, inl, inr, arith, append_assoc, append-nil, length-append}
use Rattle.std.specs.Prelude.{None, Some, slice_get}
use Rattle.rvc_base.specs.declared.refusal.Front.{Front}
use Rattle.rvc_base.specs.declared.refusal.Front.TheVariants as front
use Rattle.net_model.specs.Limits.{max_instances}
use Rattle.cal_check.specs.Variables.{Spot}
use Rattle.fnl_bind.specs.Answers.{IsRefused}
use Rattle.fnl_bind.specs.Library.{Entry, network_of}
use Rattle.fnl_bind.specs.Networks.{Place, own_found}
use Rattle.fnl_bind.specs.Trees.{bound, found_at, grown_at, instances_at, passing, top_place, tree_of, tree_with, violations, violations_of, words}
use Rattle.fnl_values.proofs.Faults.{cause_in_first, cause_in_others}
use Rattle.check_given.specs.Causes.{IsCause}
use Rattle.fnl_walk.proofs.Opening.{found_opened, spots_opened, tree_opened}
use Rattle.fnl_walk.specs.Steps.{Keeps, Opens, Stops, found, spots}
use Rattle.fnl_walk.proofs.Visiting.{is_opened, own_in_found}
use Rattle.fnl_walk.specs.Walk.{Walk, IsSteady, count_of, finished, found_left, spots_left}

-- ---- steps in a row

pub keeps_all : (library : List Entry) (w : Walk) → IsSteady w → Keeps library w w
keeps_all library w steady = record { found = refl; tree = refl; met = []; spots = refl; count = omega arith; steady = steady }

pub keeps_on : (library : List Entry) (a b c : Walk) → Keeps library a b → Keeps library b c → Keeps library a c
keeps_on library a b c h k = record {
  found = k.found ∙ h.found;
  tree = k.tree ∙ h.tree;
  met = h.met ++ k.met;
  spots = h.spots ∙ ap (λ xs. h.met ++ xs) k.spots ∙ sym (append_assoc h.met k.met (spots library c));
  count = let l = length-append h.met k.met in let i = h.count in let j = k.count in omega (arith, l, i, j);
  steady = k.steady;
}

-- ---- the start

abbrev pub nothing : Walk
nothing = record { open_nets = []; above = []; grown = record { nets = []; leaves = [] } }

-- the place of the top inside nothing
abbrev pub top_under : Entry → List (List ℕ) → Place
top_under e above = record { entry = e; given = []; owner = words; above = e.class ∷ above; path = [] }

-- the walk behind the top
pub record IsStart (library : List Entry) (e : Entry) (w : Walk) : Type 0 where
  pub found : found library w ≡ found_at (length library) library (top_place e)
  pub tree : finished library w.open_nets w.above w.grown ≡ grown_at (length library) library (top_place e) 0 0
  pub spots : spots library w ≡ instances_at (length library) library e (e.class ∷ [])
  pub count : count_of w.grown ≡ 1

pub starts : (library : List Entry) (e : Entry) (w : Walk) → Opens (length library) (top_place e) nothing w → IsStart library e w
starts library e w opens =
    let p = top_place e in
    let n = length library in
    subst (λ x. IsStart library e x) (sym opens.is) (record {
      found = append-nil _ ∙ found_opened library p n 0 opens.visits opens.conforms opens.are_visits;
      tree = tree_opened library p n opens.visits [] (record { nets = []; leaves = [] }) opens.are_visits;
      spots = append-nil _ ∙ spots_opened library p n 0 opens.visits opens.are_visits;
      count = refl;
    })

pub starts_steady : (library : List Entry) (e : Entry) (w : Walk) → Opens (length library) (top_place e) nothing w → IsSteady w
starts_steady library e w opens =
    subst IsSteady (sym opens.is) (record {
      are_open = (is_opened (length library) e.file 0 1 [] opens.visits (e.class ∷ []) (omega arith) opens.no_circle, tt);
      few = omega arith;
    })

-- ---- the end

get_none : {A : Type 0} (xs : List A) (n : ℕ) → length xs ≤ n → slice_get xs n ≡ None
get_none [] n h = refl
get_none (x ∷ xs) zero h = absurd (omega (arith, h))
get_none (x ∷ xs) (suc n) h = get_none xs n (omega (arith, h))

get_behind : {A : Type 0} (xs ys : List A) → slice_get (xs ++ ys) (length xs) ≡ slice_get ys 0
get_behind [] ys = refl
get_behind (x ∷ xs) ys = get_behind xs ys

violations_are : (library : List Entry) (class : List ℕ) (e : Entry) → network_of class library ≡ Some e
    → violations library class ≡ found_at (length library) library (top_place e) ++ passing (slice_get (instances_at (length library) library e (e.class ∷ [])) max_instances)
violations_are library class e h = ap (violations_of library) h

bound_is : (library : List Entry) (class : List ℕ) (e : Entry) → network_of class library ≡ Some e
    → bound library class ≡ tree_with (grown_at (length library) library (top_place e) 0 0)
bound_is library class e h = ap (tree_of library) h

-- a walk with nothing left to come
ends_conform : (library : List Entry) (class : List ℕ) (e : Entry) (start w : Walk) → network_of class library ≡ Some e → IsStart library e start → Keeps library start w → w.open_nets ≡ []
    → violations library class ≡ []
ends_conform library class e start w h s k none =
    let no_spots : spots library w ≡ [] = ap (λ os. spots_left library os w.above) none in
    let all : instances_at (length library) library e (e.class ∷ []) ≡ k.met = sym s.spots ∙ k.spots ∙ ap (λ xs. k.met ++ xs) no_spots ∙ append-nil k.met in
    let few = k.steady.few in let count = k.count in let one = s.count in
    let short : length (instances_at (length library) library e (e.class ∷ [])) ≤ max_instances = subst (λ xs. length xs ≤ max_instances) (sym all) (omega (arith, few, count, one)) in
    violations_are library class e h
    ∙ ap (λ o. found_at (length library) library (top_place e) ++ passing o) (get_none (instances_at (length library) library e (e.class ∷ [])) max_instances short)
    ∙ append-nil (found_at (length library) library (top_place e))
    ∙ sym s.found ∙ sym k.found ∙ ap (λ os. found_left library os w.above) none

ends_bound : (library : List Entry) (class : List ℕ) (e : Entry) (start w : Walk) → network_of class library ≡ Some e → IsStart library e start → Keeps library start w → w.open_nets ≡ []
    → tree_with w.grown ≡ bound library class
ends_bound library class e start w h s k none =
    ap tree_with (sym (ap (λ os. finished library os w.above w.grown) none) ∙ k.tree ∙ s.tree) ∙ sym (bound_is library class e h)

-- what a walk has found in the end
pub record Ends (library : List Entry) (class : List ℕ) (w : Walk) : Type 0 where
  pub conforms : violations library class ≡ []
  pub bound : tree_with w.grown ≡ bound library class

pub ends_so : (library : List Entry) (class : List ℕ) (e : Entry) (start w : Walk) → network_of class library ≡ Some e → Opens (length library) (top_place e) nothing start
    → Keeps library start w → w.open_nets ≡ [] → Ends library class w
ends_so library class e start w h opens k none = record {
  conforms = ends_conform library class e start w h (starts library e start opens) k none;
  bound = ends_bound library class e start w h (starts library e start opens) k none;
}

-- ---- a rule that is broken

cause_of : (library : List Entry) (class : List ℕ) (e : Entry) (f : Front) → network_of class library ≡ Some e → IsCause f (found_at (length library) library (top_place e))
    → IsCause f (violations library class)
cause_of library class e f h c =
    subst (IsCause f) (sym (violations_are library class e h))
    (cause_in_first f (found_at (length library) library (top_place e)) (passing (slice_get (instances_at (length library) library e (e.class ∷ [])) max_instances)) c)

refused_by : (library : List Entry) (class : List ℕ) (f : Front) → IsCause f (violations library class) → IsRefused library class f
refused_by library class (front.Refused r) h = h
refused_by library class front.Memory h = tt

-- the top breaks a rule itself
pub top_refused : (library : List Entry) (class : List ℕ) (e : Entry) (f : Front) → network_of class library ≡ Some e → IsCause f (own_found (top_place e)) → IsRefused library class f
top_refused library class e f h c = refused_by library class f (cause_of library class e f h (own_in_found library (length library) (top_place e) f c))

pub step_refused : (library : List Entry) (class : List ℕ) (e : Entry) (start w : Walk) (f : Front) → network_of class library ≡ Some e → IsStart library e start → Keeps library start w → Stops library w f
    → IsRefused library class f
step_refused library class e start w front.Memory h s k stops = tt
step_refused library class e start w (front.Refused r) h s k (inl c) =
    cause_of library class e (front.Refused r) h (subst (IsCause (front.Refused r)) (k.found ∙ s.found) c)
step_refused library class e start w (front.Refused r) h s k (inr (rule, passes)) =
    let spot : Spot = record { file = r.place.file; at = r.place.offset } in
    let full = passes.full in let count = k.count in let one = s.count in
    let met : length k.met ≡ max_instances = omega (arith, full, count, one) in
    let next : slice_get (instances_at (length library) library e (e.class ∷ [])) max_instances ≡ Some spot =
    ap (λ xs. slice_get xs max_instances) (sym s.spots ∙ k.spots)
    ∙ ap (slice_get (k.met ++ spots library w)) (sym met)
    ∙ get_behind k.met (spots library w) ∙ passes.next in
    let c : IsCause (front.Refused r) (passing (Some spot)) = (0, omega arith, ap (λ q. record { violation = record { rule = q; at = r.place.offset }; file = r.place.file }) (sym rule)) in
    subst (IsCause (front.Refused r)) (sym (violations_are library class e h))
    (cause_in_others (front.Refused r) (found_at (length library) library (top_place e)) (passing (slice_get (instances_at (length library) library e (e.class ∷ [])) max_instances))
    (subst (λ o. IsCause (front.Refused r) (passing o)) (sym next) c))
