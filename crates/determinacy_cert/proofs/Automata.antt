-- The automaton and the order that an actor's schedule and priorities make.
use Rattle.std.proofs.Common.{◌≡◌, ℕ, zero, suc, ◌<◌, ◌⊎◌, inl, inr, Bool, true, false, List, [], ◌∷◌, map, length, Contains, refl, sym, ap, subst, ◌∙◌, arith, ⊎_elim}
use Rattle.std.specs.Prelude.{not, ◌&&◌, ◌||◌, ◌==◌, Option, None, Some, is_some, if◌then◌else◌, slice_get, slice_index_or}
use Rattle.std.proofs.lemmas.Bool.{eqb-true, eq-eqb}
use Rattle.schedule_fsm.specs.declared.fsm.Step.{Step}
use Rattle.schedule_fsm.specs.Leads.{Leads, StepLeads}
use Rattle.cal_model.specs.declared.bound.BoundMove.{BoundMove}
use Rattle.cal_model.specs.declared.bound.BoundAction.{BoundAction}
use Rattle.cal_model.specs.Actor.{Action, Actor, Move}
use Rattle.cal_model.specs.Eligible.{eligible, is_empty, states_of, fresh, leads}
use Rattle.cal_model.specs.Eligible as eligibility
use Rattle.cal_model.specs.Sound.{Each, IsMove, IsTagged}
use Rattle.cal_model.specs.View.{action_view, move_view}
use Rattle.determinacy_cert.specs.Judging.{step_of, is_free}
use Rattle.determinacy_cert.proofs.Ranges.{two_true}
use Rattle.determinacy_cert.proofs.BareTrees.{both_true}

-- ---- moves as steps

abbrev pub step_as : Move → Step
step_as m = record { from = m.from; action = m.action; to = m.to }

pub step_is : (moves : List BoundMove) → map step_of moves ≡ map step_as (map move_view moves)
step_is [] = refl
step_is (m ∷ moves) = ap (λ xs. step_of m ∷ xs) (step_is moves)

-- ---- members of lists

member_cases : {A : Type 0} (x y : A) (xs : List A) → Contains (x ∷ xs) y → (x ≡ y) ⊎ Contains xs y
member_cases x y xs h = go h.0 h.1 h.2
  where
    go : (k : ℕ) → k < length (x ∷ xs) → slice_index_or (x ∷ xs) k y ≡ y → (x ≡ y) ⊎ Contains xs y
    go zero p e = inl e
    go (suc k) p e = inr (k, omega arith, e)

member_here : {A : Type 0} (x y : A) (xs : List A) → x ≡ y → Contains (x ∷ xs) y
member_here x y xs e = (0, omega arith, e)

member_behind : {A : Type 0} (x y : A) (xs : List A) → Contains xs y → Contains (x ∷ xs) y
member_behind x y xs h = (suc h.0, (let p = h.1 in omega arith), h.2)

no_member : {A : Type 0} (y : A) → Contains [] y → ⊥
no_member y h = let p = h.1 in omega arith

each_member : {A : Type 0} (P : A → Type 0) (xs : List A) (y : A) → Each P xs → Contains xs y → P y
each_member P [] y e h = absurd (no_member y h)
each_member P (x ∷ xs) y e h = ⊎_elim (λ (same : x ≡ y). subst P same e.0) (λ (behind : Contains xs y). each_member P xs y e.1 behind) (member_cases x y xs h)

-- ---- where moves lead

some_or : {A : Type 0} (b : Bool) (x : A) (o : Option A) → (b ≡ true) ⊎ (is_some o ≡ true) → is_some (if b then Some x else o) ≡ true
some_or true x o h = refl
some_or false x o (inl h) = cc
some_or false x o (inr h) = h

-- there is a target where there is a move
target_some : (ms : List Move) (s a : ℕ) (m : Move) → Contains ms m → m.from ≡ s → m.action ≡ a → is_some (eligibility.target ms s a) ≡ true
target_some [] s a m h p q = absurd (no_member m h)
target_some (n ∷ ms) s a m h p q =
    some_or (n.from == s && n.action == a) n.to (eligibility.target ms s a)
    (⊎_elim
    (λ (same : n ≡ m). inl (both_true (n.from == s) (n.action == a) (eq-eqb n.from s (ap (λ k. k.from) same ∙ p)) (eq-eqb n.action a (ap (λ k. k.action) same ∙ q))))
    (λ (behind : Contains ms m). inr (target_some ms s a m behind p q))
    (member_cases n m ms h))

step_same : (n : Move) (s a to : ℕ) → n.from ≡ s → n.action ≡ a → n.to ≡ to → step_as n ≡ record { from = s; action = a; to = to }
step_same n s a to p q r = rw (sym p, sym q, sym r) refl

target_by : (n : Move) (ms : List Move) (s a to : ℕ) (b : Bool) → (n.from == s && n.action == a) ≡ b → (eligibility.target ms s a ≡ Some to → StepLeads (map step_as ms) s a to)
    → (if b then Some n.to else eligibility.target ms s a) ≡ Some to → StepLeads (map step_as (n ∷ ms)) s a to
target_by n ms s a to true e behind k =
    let both = two_true (n.from == s) (n.action == a) e in
    let last : n.to ≡ to = cc in
    member_here (step_as n) _ (map step_as ms) (step_same n s a to (eqb-true n.from s both.0) (eqb-true n.action a both.1) last)
target_by n ms s a to false e behind k = member_behind (step_as n) _ (map step_as ms) (behind k)

-- a target is that of a move
target_there : (ms : List Move) (s a to : ℕ) → eligibility.target ms s a ≡ Some to → StepLeads (map step_as ms) s a to
target_there [] s a to h = absurd (cc)
target_there (n ∷ ms) s a to h = target_by n ms s a to (n.from == s && n.action == a) refl (λ k. target_there ms s a to k) h

pub record IsMoved (ms : List Move) (s a end : ℕ) : Type 0 where
  pub move : Move
  pub member : Contains ms move
  pub from : move.from ≡ s
  pub action : move.action ≡ a
  pub to : move.to ≡ end

pub step_moves : (ms : List Move) (s a to : ℕ) → StepLeads (map step_as ms) s a to → IsMoved ms s a to
step_moves [] s a to h = absurd (no_member _ h)
step_moves (n ∷ ms) s a to h =
    ⊎_elim
    (λ (same : step_as n ≡ record { from = s; action = a; to = to }).
    record { move = n; member = member_here n n ms refl; from = ap (λ k. k.from) same; action = ap (λ k. k.action) same; to = ap (λ k. k.to) same })
    (λ (behind : StepLeads (map step_as ms) s a to).
    let m = step_moves ms s a to behind in record { move = m.move; member = member_behind n m.move ms m.member; from = m.from; action = m.action; to = m.to })
    (member_cases (step_as n) _ (map step_as ms) h)

-- ---- eligible actions

pub free_as : (stateless : Bool) (acts : List BoundAction) → map (λ act. is_free stateless (action_view act)) acts ≡ map (is_free stateless) (map action_view acts)
free_as stateless [] = refl
free_as stateless (x ∷ acts) = ap (λ xs. is_free stateless (action_view x) ∷ xs) (free_as stateless acts)

pub free_at : (stateless : Bool) (acts : List Action) (a : ℕ) (act : Action) → slice_get acts a ≡ Some act → slice_index_or (map (is_free stateless) acts) a false ≡ is_free stateless act
free_at stateless [] a act h = absurd (grind arith)
free_at stateless (x ∷ acts) zero act h = let e : x ≡ act = cc in ap (is_free stateless) e
free_at stateless (x ∷ acts) (suc a) act h = free_at stateless acts a act h

at_fresh : (s n : ℕ) → s < n → (s == n) ≡ false
at_fresh s n h = go (s == n) refl
  where
    go : (b : Bool) → (s == n) ≡ b → b ≡ false
    go true e = let same = eqb-true s n e in absurd (omega arith)
    go false e = refl

-- in a state of the schedule
abbrev leads_in : Actor → ℕ → ℕ → Action → Option ℕ
leads_in actor s a act =
    if act.initialize then None
    else if is_empty act.tag then Some s
    else if is_empty actor.states then Some s
    else eligibility.target actor.moves s a

eligible_as : (actor : Actor) (s a : ℕ) (act : Action) → s < states_of actor → slice_get actor.actions a ≡ Some act → eligible actor s a ≡ is_some (leads_in actor s a act)
eligible_as actor s a act h is =
    ap (λ o. is_some (elim o [ None ↦ None | Some x ↦ leads actor s a x ])) is
    ∙ ap (λ b. is_some (if b then (if act.initialize then Some 0 else None) else leads_in actor s a act)) (at_fresh s (states_of actor) h)

module _ (actor : Actor) (moves : Each (IsMove actor) actor.moves) (s a : ℕ) (act : Action) (is : slice_get actor.actions a ≡ Some act) where
  free_leads : (i t u : Bool) → (not i && (t || u)) ≡ true → is_some (if i then None else if t then Some s else if u then Some s else eligibility.target actor.moves s a) ≡ true
  free_leads true t u h = cc
  free_leads false true u h = refl
  free_leads false false true h = refl
  free_leads false false false h = cc

  moved_leads : (i t u : Bool) → i ≡ false → is_some (eligibility.target actor.moves s a) ≡ true → is_some (if i then None else if t then Some s else if u then Some s else eligibility.target actor.moves s a) ≡ true
  moved_leads true t u p h = cc
  moved_leads false true u p h = refl
  moved_leads false false true p h = refl
  moved_leads false false false p h = h

  tagged : (to : ℕ) → IsMoved actor.moves s a to → act.initialize ≡ false
  tagged to m =
      let move = each_member (IsMove actor) actor.moves m.move moves m.member in
      let at_a : IsTagged (slice_get actor.actions a) = subst (λ k. IsTagged (slice_get actor.actions k)) m.action move.tagged in
      let here : IsTagged (Some act) = subst IsTagged is at_a in
      here.0

  pub leads_then : (free : List Bool) (to : ℕ) → s < states_of actor → free ≡ map (is_free (is_empty actor.states)) actor.actions
      → Leads (map step_as actor.moves) free s a to → eligible actor s a ≡ true
  leads_then free to h f (inl p) =
      let one : is_free (is_empty actor.states) act ≡ true =
      sym (free_at (is_empty actor.states) actor.actions a act is) ∙ ap (λ xs. slice_index_or xs a false) (sym f) ∙ p.0 in
      eligible_as actor s a act h is ∙ free_leads act.initialize (is_empty act.tag) (is_empty actor.states) one
  leads_then free to h f (inr p) =
      let m = step_moves actor.moves s a to p in
      eligible_as actor s a act h is
      ∙ moved_leads act.initialize (is_empty act.tag) (is_empty actor.states) (tagged to m) (target_some actor.moves s a m.move m.member m.from m.action)

  pub record LeadsTo (free : List Bool) : Type 0 where
    pub to : ℕ
    pub leads : Leads (map step_as actor.moves) free s a to

  led : (free : List Bool) (i t u : Bool) → slice_index_or free a false ≡ (not i && (t || u))
      → is_some (if i then None else if t then Some s else if u then Some s else eligibility.target actor.moves s a) ≡ true → LeadsTo free
  led free true t u e h = absurd (cc)
  led free false true u e h = record { to = s; leads = inl (e, refl) }
  led free false false true e h = record { to = s; leads = inl (e, refl) }
  led free false false false e h = go (eligibility.target actor.moves s a) refl h
    where
      go : (o : Option ℕ) → eligibility.target actor.moves s a ≡ o → is_some o ≡ true → LeadsTo free
      go None k p = absurd (cc)
      go (Some to) k p = record { to = to; leads = inr (target_there actor.moves s a to k) }

  pub then_leads : (free : List Bool) → s < states_of actor → free ≡ map (is_free (is_empty actor.states)) actor.actions → eligible actor s a ≡ true → LeadsTo free
  then_leads free h f e =
      led free act.initialize (is_empty act.tag) (is_empty actor.states)
      (ap (λ xs. slice_index_or xs a false) f ∙ free_at (is_empty actor.states) actor.actions a act is) (sym (eligible_as actor s a act h is) ∙ e)

-- ---- priorities

pub same_pairs : (ps : List (ℕ × ℕ)) → map (λ p. (p.0, p.1)) ps ≡ ps
same_pairs [] = refl
same_pairs (p ∷ ps) = ap (λ xs. p ∷ xs) (same_pairs ps)
