-- Rules that a network breaks itself, over the classes round it in either order.
use Rattle.std.proofs.Common.{◌≡◌, ℕ, Bool, true, false, List, [], ◌∷◌, ◌++◌, refl, sym, ap, subst, ◌∙◌, arith}
use Rattle.std.specs.Prelude.{◌||◌, reverse, if◌then◌else◌}
use Rattle.std.specs.Str.{bytes_eq}
use Rattle.std.proofs.lemmas.List.{reverse-append}
use Rattle.rvc_base.specs.Rules.{network_cycle}
use Rattle.rvc_base.specs.declared.refusal.Front.{Front}
use Rattle.rvc_base.specs.declared.refusal.Front.TheVariants as front
use Rattle.cal_model.specs.Kinding.{Names}
use Rattle.cal_model.specs.Sound.{Each}
use Rattle.cal_check.specs.Violations.{Violation, violation}
use Rattle.cal_check.specs.Variables.{found_in}
use Rattle.fnl_read.specs.Net.{Net, Instance}
use Rattle.fnl_bind.specs.Library.{is_among, instance_class, instance_class_at}
use Rattle.fnl_bind.specs.Networks.{Place, found_behind, own_found, values_found}
use Rattle.fnl_bind.specs.Scopes.{circles, keyed_decls, keyed_instances, keyed_ports, name_broken, named_twice, ports_broken, scope_broken, unknown_names}
use Rattle.check_given.specs.Causes.{IsCause}
use Rattle.fnl_values.specs.Visiting.{Visit, AreVisits}

-- ---- names in either order

or_else : (b c : Bool) → (if b then true else c) ≡ (b || c)
or_else true c = refl
or_else false c = refl

grouped : (a b c : Bool) → (a || (b || c)) ≡ ((a || b) || c)
grouped true b c = refl
grouped false b c = refl

swapped : (a b : Bool) → (a || b) ≡ (b || a)
swapped true true = refl
swapped true false = refl
swapped false true = refl
swapped false false = refl

among_both : (name : List ℕ) (xs ys : List (List ℕ)) → is_among name (xs ++ ys) ≡ (is_among name xs || is_among name ys)
among_both name [] ys = refl
among_both name (x ∷ xs) ys =
    or_else (bytes_eq x name) (is_among name (xs ++ ys))
    ∙ ap (λ b. bytes_eq x name || b) (among_both name xs ys)
    ∙ grouped (bytes_eq x name) (is_among name xs) (is_among name ys)
    ∙ ap (λ b. b || is_among name ys) (sym (or_else (bytes_eq x name) (is_among name xs)))

among_reversed : (name : List ℕ) (xs : List (List ℕ)) → is_among name (reverse xs) ≡ is_among name xs
among_reversed name [] = refl
among_reversed name (x ∷ xs) =
    ap (is_among name) (reverse-append (x ∷ []) xs)
    ∙ among_both name (reverse xs) (x ∷ [])
    ∙ ap (λ b. b || is_among name (x ∷ [])) (among_reversed name xs)
    ∙ ap (λ b. is_among name xs || b) (or_else (bytes_eq x name) false ∙ swapped (bytes_eq x name) false)
    ∙ swapped (is_among name xs) (bytes_eq x name)
    ∙ sym (or_else (bytes_eq x name) (is_among name xs))

circles_reversed : (is : List Instance) (above : List (List ℕ)) → circles is (reverse above) ≡ circles is above
circles_reversed [] above = refl
circles_reversed (i ∷ is) above =
    ap (λ b. (if b then violation network_cycle (instance_class_at i) else []) ++ circles is (reverse above)) (among_reversed (instance_class i) above)
    ∙ ap (λ vs. (if is_among (instance_class i) above then violation network_cycle (instance_class_at i) else []) ++ vs) (circles_reversed is above)

pub scope_reversed : (net : Net) (class : List ℕ) (above : List (List ℕ)) → scope_broken net class (reverse above) ≡ scope_broken net class above
scope_reversed net class above =
    ap (λ vs. name_broken net class ++ (named_twice (keyed_ports net.ports) ++ (named_twice (keyed_decls net.decls) ++ (named_twice (keyed_instances net.instances) ++ (ports_broken net ++ (unknown_names net ++ vs))))))
    (circles_reversed net.instances above)

-- ---- none of them

none_then : {A : Type 0} (xs ys : List A) → xs ++ ys ≡ [] → ys ≡ []
none_then [] ys h = h
none_then (x ∷ xs) ys h = absurd (cc)

none_first : {A : Type 0} (xs ys : List A) → xs ++ ys ≡ [] → xs ≡ []
none_first [] ys h = refl
none_first (x ∷ xs) ys h = absurd (cc)

no_circles : (net : Net) (class : List ℕ) (above : List (List ℕ)) → scope_broken net class above ≡ [] → circles net.instances above ≡ []
no_circles net class above h =
    none_then (unknown_names net) (circles net.instances above)
    (none_then (ports_broken net) (unknown_names net ++ circles net.instances above)
    (none_then (named_twice (keyed_instances net.instances)) (ports_broken net ++ (unknown_names net ++ circles net.instances above))
    (none_then (named_twice (keyed_decls net.decls)) (named_twice (keyed_instances net.instances) ++ (ports_broken net ++ (unknown_names net ++ circles net.instances above)))
    (none_then (named_twice (keyed_ports net.ports)) (named_twice (keyed_decls net.decls) ++ (named_twice (keyed_instances net.instances) ++ (ports_broken net ++ (unknown_names net ++ circles net.instances above))))
    (none_then (name_broken net class) (named_twice (keyed_ports net.ports) ++ (named_twice (keyed_decls net.decls) ++ (named_twice (keyed_instances net.instances) ++ (ports_broken net ++ (unknown_names net ++ circles net.instances above))))) h)))))

free : (b : Bool) (at : ℕ) → (if b then violation network_cycle at else []) ≡ [] → b ≡ false
free true at h = absurd (cc)
free false at h = refl

frees : (file : ℕ) (names : Names) (is : List Instance) (vs : List Visit) (above : List (List ℕ)) → AreVisits file names is vs → circles is above ≡ []
    → Each (λ v. is_among (instance_class v.instance) above ≡ false) vs
frees file names [] [] above a h = tt
frees file names [] (v ∷ vs) above a h = absurd a
frees file names (i ∷ is) [] above a h = absurd a
frees file names (i ∷ is) (v ∷ vs) above a h =
    let first : is_among (instance_class i) above ≡ false = free (is_among (instance_class i) above) (instance_class_at i) (none_first (if is_among (instance_class i) above then violation network_cycle (instance_class_at i) else []) (circles is above) h) in (
      ap (λ j. is_among (instance_class j) above) a.0 ∙ first,
      frees file names is vs above a.2 (none_then (if is_among (instance_class i) above then violation network_cycle (instance_class_at i) else []) (circles is above) h),
    )

pub visits_free : (p : Place) (names : Names) (vs : List Visit) → scope_broken p.entry.net p.entry.class p.above ≡ [] → AreVisits p.entry.file names p.entry.net.instances vs
    → Each (λ v. is_among (instance_class v.instance) p.above ≡ false) vs
visits_free p names vs h a = frees p.entry.file names p.entry.net.instances vs p.above a (no_circles p.entry.net p.entry.class p.above h)

-- ---- what a network breaks itself

pub conforms : (p : Place) → scope_broken p.entry.net p.entry.class p.above ≡ [] → values_found p ≡ [] → own_found p ≡ []
conforms p h k = ap (λ vs. found_behind vs p) h ∙ k

pub values_cause : (p : Place) (f : Front) → scope_broken p.entry.net p.entry.class p.above ≡ [] → IsCause f (values_found p) → IsCause f (own_found p)
values_cause p f h c = subst (λ vs. IsCause f (found_behind vs p)) (sym h) c

pub scope_cause : (p : Place) (vs : List Violation) (f : Front) → vs ≡ scope_broken p.entry.net p.entry.class p.above → IsCause f (found_in p.entry.file vs) → IsCause f (own_found p)
scope_cause p vs f e c = subst (λ ws. IsCause f (found_behind ws p)) e (go vs c)
  where
    none : (g : Front) → IsCause g [] → IsCause g (found_behind [] p)
    none (front.Refused r) d = absurd (let l = d.1 in omega (arith, l))
    none front.Memory d = tt

    go : (ws : List Violation) → IsCause f (found_in p.entry.file ws) → IsCause f (found_behind ws p)
    go [] d = none f d
    go (w ∷ ws) d = d

pub none_found : (file : ℕ) (vs : List Violation) → found_in file vs ≡ [] → vs ≡ []
none_found file [] h = refl
none_found file (v ∷ vs) h = absurd (cc)
