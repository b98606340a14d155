-- What is inside an actor, part by part.
use Rattle.std.proofs.Common.{◌≡◌, ◌⊎◌, inl, inr, ⊎_elim, ℕ, List, [], ◌∷◌, ◌++◌, length, refl, sym, ap, subst, ◌∙◌}
use Rattle.std.specs.Prelude.{Contains, false, nat_le}
use Rattle.std.proofs.lemmas.List.Elements.{Contains-append_left, Contains-append_right, Contains-append_cases}
use Rattle.rvc_base.specs.Rules.{too_many_actions, too_many_variables}
use Rattle.cal_model.specs.Actor.{Actor}
use Rattle.cal_model.specs.Sound.{max_actions, max_states, max_variable_scalars}
use Rattle.cal_check.specs.Actions.{Around}
use Rattle.cal_check.specs.Actors.{Source, actions_broken, actions_in, all_funs, funs_broken, initialized_twice, inside_found, members_of, place_of, procs_broken, procs_in, scalars_of}
use Rattle.cal_check.specs.Schedules.{priorities_broken, schedule_broken, schedule_in}
use Rattle.cal_check.specs.Variables.{Found, found_in}
use Rattle.cal_check.specs.Violations.{Violation, unless}
use Rattle.rvc_base.specs.declared.refusal.Front.{Front}
use Rattle.rvc_base.specs.declared.refusal.Front.TheVariants as front
use Rattle.cal_check.proofs.Lists.{at-head, head-or-rest, in-none, in-rest}
use Rattle.check_build_actor.specs.Building.{members_broken}
use Rattle.check_given.specs.Causes.{IsCause}
use Rattle.check_actor.specs.Phases.{procs_found, routines_found, scalars_found}
use Rattle.check_actor.proofs.Causes.{cause_in_others, found_of}

-- ---- lists of what is broken

in_both : (xs ys : List Violation) (v : Violation) → Contains xs v ⊎ Contains ys v → Contains (xs ++ ys) v
in_both xs ys v (inl h) = Contains-append_left xs ys v h
in_both xs ys v (inr h) = Contains-append_right xs ys v h

second : (xs ys : List Violation) (v : Violation) → Contains ys v → Contains (xs ++ ys) v
second xs ys v h = Contains-append_right xs ys v h

first : (xs ys : List Violation) (v : Violation) → Contains xs v → Contains (xs ++ ys) v
first xs ys v h = Contains-append_left xs ys v h

-- what actions and their order break is broken among all that is inside
ordered : (ps acts is ss rs us ws xs : List Violation) (v : Violation)
    → Contains ((acts ++ (is ++ us)) ++ (ss ++ (rs ++ ws))) v
    → Contains (ps ++ (acts ++ (is ++ (ss ++ (rs ++ (us ++ (ws ++ xs))))))) v
ordered ps acts is ss rs us ws xs v h =
    second ps _ v (go (Contains-append_cases (acts ++ (is ++ us)) (ss ++ (rs ++ ws)) v h))
  where
    to_states : Contains (us ++ (ws ++ xs)) v → Contains (acts ++ (is ++ (ss ++ (rs ++ (us ++ (ws ++ xs)))))) v
    to_states k = second acts _ v (second is _ v (second ss _ v (second rs _ v k)))

    acted : Contains acts v ⊎ Contains (is ++ us) v → Contains (acts ++ (is ++ (ss ++ (rs ++ (us ++ (ws ++ xs)))))) v
    acted (inl k) = first acts _ v k
    acted (inr k) = ⊎_elim (λ l. second acts _ v (first is _ v l)) (λ r. to_states (first us _ v r)) (Contains-append_cases is us v k)

    order : Contains ss v ⊎ Contains (rs ++ ws) v → Contains (acts ++ (is ++ (ss ++ (rs ++ (us ++ (ws ++ xs)))))) v
    order (inl k) = second acts _ v (second is _ v (first ss _ v k))
    order (inr k) =
        ⊎_elim (λ l. second acts _ v (second is _ v (second ss _ v (first rs _ v l)))) (λ r. to_states (second us _ v (first ws _ v r)))
        (Contains-append_cases rs ws v k)

    go : Contains (acts ++ (is ++ us)) v ⊎ Contains (ss ++ (rs ++ ws)) v → Contains (acts ++ (is ++ (ss ++ (rs ++ (us ++ (ws ++ xs)))))) v
    go (inl k) = acted (Contains-append_cases acts (is ++ us) v k)
    go (inr k) = order (Contains-append_cases ss (rs ++ ws) v k)

limited : (ps acts is ss rs us ws xs : List Violation) (v : Violation) → Contains xs v
    → Contains (ps ++ (acts ++ (is ++ (ss ++ (rs ++ (us ++ (ws ++ xs))))))) v
limited ps acts is ss rs us ws xs v h =
    second ps _ v (second acts _ v (second is _ v (second ss _ v (second rs _ v (second us _ v (second ws _ v h))))))

first_none : {A : Type 0} (xs ys : List A) → xs ++ ys ≡ [] → xs ≡ []
first_none [] ys h = refl
first_none (x ∷ xs) ys h = absurd (cc)

second_none : {A : Type 0} (xs ys : List A) → xs ++ ys ≡ [] → ys ≡ []
second_none [] ys h = h
second_none (x ∷ xs) ys h = absurd (cc)

both_none : {A : Type 0} (xs ys : List A) → xs ≡ [] → ys ≡ [] → xs ++ ys ≡ []
both_none xs ys h i = ap (λ zs. zs ++ ys) h ∙ i

all_none : (ps acts is ss rs us ws xs : List Violation) → ps ≡ [] → (acts ++ (is ++ us)) ++ (ss ++ (rs ++ ws)) ≡ [] → xs ≡ []
    → ps ++ (acts ++ (is ++ (ss ++ (rs ++ (us ++ (ws ++ xs)))))) ≡ []
all_none ps acts is ss rs us ws xs p h x =
    let actions : acts ++ (is ++ us) ≡ [] = first_none (acts ++ (is ++ us)) (ss ++ (rs ++ ws)) h in
    let order : ss ++ (rs ++ ws) ≡ [] = second_none (acts ++ (is ++ us)) (ss ++ (rs ++ ws)) h in
    let counts : is ++ us ≡ [] = second_none acts (is ++ us) actions in
    let later : rs ++ ws ≡ [] = second_none ss (rs ++ ws) order in
    both_none ps _ p (both_none acts _ (first_none acts (is ++ us) actions) (both_none is _ (first_none is us counts)
    (both_none ss _ (first_none ss (rs ++ ws) order) (both_none rs _ (first_none rs ws later)
    (both_none us _ (second_none is us counts) (both_none ws xs (second_none rs ws later) x))))))

-- ---- in a file

found_none : (file : ℕ) (vs : List Violation) → found_in file vs ≡ [] → vs ≡ []
found_none file [] h = refl
found_none file (v ∷ vs) h = absurd (cc)

-- what is found in a file is one of these
of_found : (file : ℕ) (vs : List Violation) (f : Found) → Contains (found_in file vs) f → (f.file ≡ file) × Contains vs f.violation
of_found file [] f h = absurd (in-none f h)
of_found file (v ∷ vs) f h = go (head-or-rest f (record { violation = v; file = file }) (found_in file vs) h) (λ i. of_found file vs f i)
  where
    go : (record { violation = v; file = file } ≡ f) ⊎ Contains (found_in file vs) f → (Contains (found_in file vs) f → (f.file ≡ file) × Contains vs f.violation)
        → (f.file ≡ file) × Contains (v ∷ vs) f.violation
    go (inl e) k = (ap (λ g. g.file) (sym e), at-head f.violation v vs (ap (λ g. g.violation) e))
    go (inr i) k = let r = k i in (r.0, in-rest f.violation v vs r.1)

found_more : (file : ℕ) (vs ws : List Violation) → ((v : Violation) → Contains vs v → Contains ws v) → (f : Found) → Contains (found_in file vs) f → Contains (found_in file ws) f
found_more file vs ws k f h =
    let r = of_found file vs f h in
    subst (λ n. Contains (found_in n ws) f) r.0 (found_of f.file ws f.violation (k f.violation r.1))

-- causes in two lists, of which the second grows
cause_more : (f : Front) (xs ys zs : List Found) → (IsCause f ys → IsCause f zs) → IsCause f (xs ++ ys) → IsCause f (xs ++ zs)
cause_more (front.Refused r) xs ys zs k h =
    ⊎_elim (λ l. Contains-append_left xs zs _ l) (λ i. Contains-append_right xs zs _ (k i)) (Contains-append_cases xs ys _ h)
cause_more front.Memory xs ys zs k h = tt

-- ---- what is inside an actor

abbrev scalars_broken : Source → Actor → List Violation
scalars_broken s actor = unless (nat_le (scalars_of actor.vars) max_variable_scalars) too_many_variables (place_of s.actor)

-- .. in its own file
abbrev own_broken : Source → Around → Actor → List Violation
own_broken s around actor =
    procs_broken (procs_in (members_of s.actor)) around.procs around.names
    ++ (actions_broken (actions_in (members_of s.actor)) around
    ++ (initialized_twice false (actions_in (members_of s.actor))
    ++ (schedule_broken (schedule_in (members_of s.actor)) actor
    ++ (priorities_broken (members_of s.actor) actor.actions
    ++ (unless (nat_le (length (actions_in (members_of s.actor))) max_actions) too_many_actions (place_of s.actor)
    ++ (unless (nat_le (length actor.states) max_states) too_many_actions (place_of s.actor)
    ++ scalars_broken s actor))))))

in_own : (f : Front) (s : Source) (vs ws : List Violation) → ((v : Violation) → Contains vs v → Contains ws v)
    → IsCause f (found_in s.file vs) → IsCause f (found_in s.file ws)
in_own (front.Refused r) s vs ws k h = found_more s.file vs ws k _ h
in_own front.Memory s vs ws k h = tt

own_cause : (f : Front) (s : Source) (around : Around) (actor : Actor) → IsCause f (found_in s.file (own_broken s around actor)) → IsCause f (inside_found s around actor)
own_cause f s around actor h = cause_in_others f (funs_broken (all_funs s) around.names) (found_in s.file (own_broken s around actor)) h

pub routines_cause : (f : Front) (s : Source) (around : Around) (actor : Actor) → IsCause f (routines_found s around.procs around.names) → IsCause f (inside_found s around actor)
routines_cause f s around actor h =
    cause_more f (funs_broken (all_funs s) around.names) (procs_found s around.procs around.names) (found_in s.file (own_broken s around actor))
    (in_own f s (procs_broken (procs_in (members_of s.actor)) around.procs around.names) (own_broken s around actor)
    (λ v i. first (procs_broken (procs_in (members_of s.actor)) around.procs around.names) _ v i)) h

pub members_cause : (f : Front) (s : Source) (around : Around) (actor : Actor)
    → IsCause f (found_in s.file (members_broken (members_of s.actor) around actor (place_of s.actor))) → IsCause f (inside_found s around actor)
members_cause f s around actor h =
    own_cause f s around actor (in_own f s (members_broken (members_of s.actor) around actor (place_of s.actor)) (own_broken s around actor)
    (λ v i. ordered (procs_broken (procs_in (members_of s.actor)) around.procs around.names)
    (actions_broken (actions_in (members_of s.actor)) around) (initialized_twice false (actions_in (members_of s.actor)))
    (schedule_broken (schedule_in (members_of s.actor)) actor) (priorities_broken (members_of s.actor) actor.actions)
    (unless (nat_le (length (actions_in (members_of s.actor))) max_actions) too_many_actions (place_of s.actor))
    (unless (nat_le (length actor.states) max_states) too_many_actions (place_of s.actor)) (scalars_broken s actor) v i) h)

pub scalars_cause : (f : Front) (s : Source) (around : Around) (actor : Actor) → IsCause f (scalars_found s actor.vars) → IsCause f (inside_found s around actor)
scalars_cause f s around actor h =
    own_cause f s around actor (in_own f s (scalars_broken s actor) (own_broken s around actor)
    (λ v i. limited (procs_broken (procs_in (members_of s.actor)) around.procs around.names)
    (actions_broken (actions_in (members_of s.actor)) around) (initialized_twice false (actions_in (members_of s.actor)))
    (schedule_broken (schedule_in (members_of s.actor)) actor) (priorities_broken (members_of s.actor) actor.actions)
    (unless (nat_le (length (actions_in (members_of s.actor))) max_actions) too_many_actions (place_of s.actor))
    (unless (nat_le (length actor.states) max_states) too_many_actions (place_of s.actor)) (scalars_broken s actor) v i) h)

pub inside_fine : (s : Source) (around : Around) (actor : Actor) → routines_found s around.procs around.names ≡ []
    → members_broken (members_of s.actor) around actor (place_of s.actor) ≡ [] → scalars_found s actor.vars ≡ []
    → inside_found s around actor ≡ []
inside_fine s around actor r m x =
    both_none (funs_broken (all_funs s) around.names) _ (first_none (funs_broken (all_funs s) around.names) (procs_found s around.procs around.names) r)
    (ap (found_in s.file)
    (all_none (procs_broken (procs_in (members_of s.actor)) around.procs around.names)
    (actions_broken (actions_in (members_of s.actor)) around) (initialized_twice false (actions_in (members_of s.actor)))
    (schedule_broken (schedule_in (members_of s.actor)) actor) (priorities_broken (members_of s.actor) actor.actions)
    (unless (nat_le (length (actions_in (members_of s.actor))) max_actions) too_many_actions (place_of s.actor))
    (unless (nat_le (length actor.states) max_states) too_many_actions (place_of s.actor)) (scalars_broken s actor)
    (found_none s.file (procs_broken (procs_in (members_of s.actor)) around.procs around.names)
    (second_none (funs_broken (all_funs s) around.names) (procs_found s around.procs around.names) r))
    m (found_none s.file (scalars_broken s actor) x)))

-- ---- where what is broken inside is found

split_own : (ps acts is ss rs us ws xs : List Violation) (v : Violation) → Contains (ps ++ (acts ++ (is ++ (ss ++ (rs ++ (us ++ (ws ++ xs))))))) v
    → Contains ps v ⊎ (Contains ((acts ++ (is ++ us)) ++ (ss ++ (rs ++ ws))) v ⊎ Contains xs v)
split_own ps acts is ss rs us ws xs v h =
    ⊎_elim (λ i. inl i) (λ a.
    ⊎_elim (λ i. inr (inl (first (acts ++ (is ++ us)) _ v (first acts (is ++ us) v i)))) (λ b.
    ⊎_elim (λ i. inr (inl (first (acts ++ (is ++ us)) _ v (second acts (is ++ us) v (first is us v i))))) (λ c.
    ⊎_elim (λ i. inr (inl (second (acts ++ (is ++ us)) _ v (first ss (rs ++ ws) v i)))) (λ d.
    ⊎_elim (λ i. inr (inl (second (acts ++ (is ++ us)) _ v (second ss (rs ++ ws) v (first rs ws v i))))) (λ e.
    ⊎_elim (λ i. inr (inl (first (acts ++ (is ++ us)) _ v (second acts (is ++ us) v (second is us v i))))) (λ g.
    ⊎_elim (λ i. inr (inl (second (acts ++ (is ++ us)) _ v (second ss (rs ++ ws) v (second rs ws v i))))) (λ i. inr (inr i))
    (Contains-append_cases ws xs v g)) (Contains-append_cases us _ v e)) (Contains-append_cases rs _ v d)) (Contains-append_cases ss _ v c))
    (Contains-append_cases is _ v b)) (Contains-append_cases acts _ v a)) (Contains-append_cases ps _ v h)

there : (file : ℕ) (vs : List Violation) (f : Found) → f.file ≡ file → Contains vs f.violation → Contains (found_in file vs) f
there file vs f e h = subst (λ n. Contains (found_in n vs) f) e (found_of f.file vs f.violation h)

-- in functions or procedures, in actions and what orders them, or in the scalars of variables
pub in_inside : (s : Source) (around : Around) (actor : Actor) (f : Found) → Contains (inside_found s around actor) f
    → Contains (routines_found s around.procs around.names) f
    ⊎ (Contains (found_in s.file (members_broken (members_of s.actor) around actor (place_of s.actor))) f ⊎ Contains (scalars_found s actor.vars) f)
in_inside s around actor f h = go (Contains-append_cases (funs_broken (all_funs s) around.names) (found_in s.file (own_broken s around actor)) f h)
  where
    ps : List Violation
    ps = procs_broken (procs_in (members_of s.actor)) around.procs around.names

    go : Contains (funs_broken (all_funs s) around.names) f ⊎ Contains (found_in s.file (own_broken s around actor)) f
        → Contains (routines_found s around.procs around.names) f
        ⊎ (Contains (found_in s.file (members_broken (members_of s.actor) around actor (place_of s.actor))) f ⊎ Contains (scalars_found s actor.vars) f)
    go (inl i) = inl (Contains-append_left (funs_broken (all_funs s) around.names) (found_in s.file ps) f i)
    go (inr i) =
        let r = of_found s.file (own_broken s around actor) f i in
        ⊎_elim (λ j. inl (Contains-append_right (funs_broken (all_funs s) around.names) (found_in s.file ps) f (there s.file ps f r.0 j)))
        (λ o. inr (⊎_elim (λ j. inl (there s.file (members_broken (members_of s.actor) around actor (place_of s.actor)) f r.0 j))
        (λ j. inr (there s.file (scalars_broken s actor) f r.0 j)) o))
        (split_own ps (actions_broken (actions_in (members_of s.actor)) around) (initialized_twice false (actions_in (members_of s.actor)))
        (schedule_broken (schedule_in (members_of s.actor)) actor) (priorities_broken (members_of s.actor) actor.actions)
        (unless (nat_le (length (actions_in (members_of s.actor))) max_actions) too_many_actions (place_of s.actor))
        (unless (nat_le (length actor.states) max_states) too_many_actions (place_of s.actor)) (scalars_broken s actor) f.violation r.1)
