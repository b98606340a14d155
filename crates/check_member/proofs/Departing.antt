-- A table that tells where moves lead.
use Rattle.std.proofs.Common.{◌≡◌, ◌≢◌, ℕ, zero, suc, ◌+◌, ◌*◌, ◌<◌, ◌≤◌, Bool, true, false, ◌||◌, ◌⊎◌, ⊎_elim, inl, inr, List, [], ◌∷◌, ◌++◌, length, set, get_or, take, refl, sym, ap, subst, ◌∙◌, arith, Option, Some, None, Contains, All, append_assoc}
use Rattle.std.proofs.lemmas.Bool.{cases_eq}
use Rattle.std.proofs.lemmas.List.{get_or-set_same, get_or-set_other, length-set, map-append, take_all, take_more}
use Rattle.std.proofs.lemmas.List.Elements.{Contains-push, Contains-append_left, Contains-append_cases}
use Rattle.std.proofs.lemmas.Nat.{same_from_place}
use Rattle.schedule_fsm.specs.Automaton.{entry}
use Rattle.schedule_fsm.proofs.Rows.{place_below}
use Rattle.cal_model.specs.Actor.{Move}
use Rattle.cal_model.specs.Sound.{Each}
use Rattle.cal_model.specs.Tags.{moves_by}
use Rattle.cal_check.specs.Schedules.{conflicts_with, conflicts_with_one, some_conflict}
use Rattle.check_member.specs.Targets.{IsTold, Tells}
use Rattle.cal_check.proofs.Departs.{Elsewhere, among-conflicts_with, conflicts_with-is, none-conflicts_with, some-conflicts_with}
use Rattle.cal_check.proofs.Lists.{at-head, each-append, each-front, each-map, head-or-rest, in-none, in-rest}

-- ---- the table

abbrev pub place_of : ℕ → Move → ℕ
place_of columns m = m.from * columns + m.action

-- its entry holds no other state than its own
abbrev pub IsOne : ℕ → List (Option ℕ) → Move → Type 0
IsOne columns table m = (other : ℕ) → entry columns table m.from m.action ≡ Some other → other ≡ m.to

some-is : (n m : ℕ) → Some n ≡ Some m → n ≡ m
some-is n m h = cc

-- none of the moves that the table has leads elsewhere
told-none : (states columns : ℕ) (table : List (Option ℕ)) (m : Move) (ms : List Move) → Each (IsTold states columns table) ms → IsOne columns table m → conflicts_with_one m ms ≡ false
told-none states columns table m [] each one = refl
told-none states columns table m (n ∷ ms) each one = go (conflicts_with m n) (conflicts_with-is m n) (told-none states columns table m ms each.1 one)
  where
    go : (b : Bool) → (b ≡ true → Elsewhere m n) → conflicts_with_one m ms ≡ false → (b || conflicts_with_one m ms) ≡ false
    go true f ih =
        let e = f refl in
        let there : entry columns table m.from m.action ≡ Some n.to =
        ap (λ s. entry columns table s m.action) e.0 ∙ ap (λ a. entry columns table n.from a) e.1 ∙ each.0.to in
        absurd (e.2 (sym (one n.to there)))
    go false f ih = ih

-- the entry of a move holds another state, so an earlier move conflicts_with
told-some : (states columns : ℕ) (table : List (Option ℕ)) (m : Move) (before : List Move) (other : ℕ) → Contains before (record { from = m.from; action = m.action; to = other })
    → other ≢ m.to → conflicts_with_one m before ≡ true
told-some states columns table m before other found differs =
    among-conflicts_with m (record { from = m.from; action = m.action; to = other }) before found (refl, refl, λ e. differs (sym e))

module _ (states columns : ℕ) (table : List (Option ℕ)) (before : List Move) (m : Move) (tells : Tells states columns table before) (from_in : m.from < states) (action_in : m.action < columns) (one : IsOne columns table m) where
  abbrev grown : List (Option ℕ)
  grown = set table (place_of columns m) (Some m.to)

  place_in : place_of columns m < length table
  place_in = let below = place_below columns states m.from m.action from_in action_in in omega (arith, below, tells.size)

  here : entry columns grown m.from m.action ≡ Some m.to
  here = get_or-set_same table (place_of columns m) (Some m.to) None place_in

  elsewhere : (from action : ℕ) → action < columns → (from ≡ m.from → action ≡ m.action → ⊥) → entry columns grown from action ≡ entry columns table from action
  elsewhere from action in_row apart =
      get_or-set_other table (place_of columns m) (from * columns + action) (Some m.to) None
      (λ same. let both : (from ≡ m.from) × (action ≡ m.action) = same_from_place from action m.from m.action columns in_row action_in same in apart both.0 both.1)

  by-place : (P : Type 0) (from action : ℕ) → ((from ≡ m.from) × (action ≡ m.action) → P) → ((from ≡ m.from → action ≡ m.action → ⊥) → P) → P
  by-place P from action f g =
      ⊎_elim (λ (s : from ≡ m.from). ⊎_elim (λ (a : action ≡ m.action). f (s, a)) (λ (a : action ≢ m.action). g (λ _ e. a e)) (cases_eq action m.action))
      (λ (s : from ≢ m.from). g (λ e _. s e)) (cases_eq from m.from)

  stays : (n : Move) → IsTold states columns table n → IsTold states columns grown n
  stays n told = record {
    from = told.from;
    action = told.action;
    to = by-place (entry columns grown n.from n.action ≡ Some n.to) n.from n.action
        (λ same. let there : entry columns table m.from m.action ≡ Some n.to =
        ap (λ s. entry columns table s m.action) (sym same.0) ∙ ap (λ a. entry columns table n.from a) (sym same.1) ∙ told.to in
        ap (λ s. entry columns grown s n.action) same.0 ∙ ap (λ a. entry columns grown m.from a) same.1 ∙ here ∙ ap Some (sym (one n.to there)))
        (λ apart. elsewhere n.from n.action told.action apart ∙ told.to);
  }

  pub entered : Tells states columns grown (before ++ m ∷ [])
  entered = record {
    size = length-set table (place_of columns m) (Some m.to) ∙ tells.size;
    each = each-append (IsTold states columns grown) before (m ∷ []) (each-map (IsTold states columns table) (IsTold states columns grown) before stays tells.each)
        (record { from = from_in; action = action_in; to = here }, tt);
    only = λ from action to from_is action_is e.
        by-place (Contains (before ++ m ∷ []) (record { from = from; action = action; to = to })) from action
        (λ same. let there : entry columns grown from action ≡ Some m.to = ap (λ s. entry columns grown s action) same.0 ∙ ap (λ a. entry columns grown m.from a) same.1 ∙ here in
        let target : m.to ≡ to = some-is m.to to (sym there ∙ e) in
        let all : m ≡ record { from = from; action = action; to = to } =
        ap (λ s. record { from = s; action = m.action; to = m.to }) (sym same.0) ∙ ap (λ a. record { from = from; action = a; to = m.to }) (sym same.1) ∙ ap (λ t. record { from = from; action = action; to = t }) target in
        subst (λ x. Contains (before ++ m ∷ []) x) all (Contains-push before m))
        (λ apart. Contains-append_left before (m ∷ []) (record { from = from; action = action; to = to })
        (tells.only from action to from_is action_is (sym (elsewhere from action action_is apart) ∙ e)));
  }

-- ---- one action after another

abbrev pub move_by : ℕ → ℕ → ℕ → Move
move_by from a to = record { from = from; action = a; to = to }

one-further : (from to : ℕ) (acts : List ℕ) (k : ℕ) → k < length acts → moves_by from (take (k + 1) acts) to ≡ moves_by from (take k acts) to ++ move_by from (get_or acts k 0) to ∷ []
one-further from to acts k h =
    ap (λ xs. moves_by from xs to) (take_more acts k 0 h) ∙ map-append (λ a. move_by from a to) (take k acts) (get_or acts k 0 ∷ [])

-- each of these leads there
leads-there : (from to : ℕ) (acts : List ℕ) (n : Move) → Contains (moves_by from acts to) n → n.to ≡ to
leads-there from to [] n h = absurd (in-none n h)
leads-there from to (a ∷ acts) n h = go (head-or-rest n (move_by from a to) (moves_by from acts to) h) (leads-there from to acts n)
  where
    go : (move_by from a to ≡ n) ⊎ Contains (moves_by from acts to) n → (Contains (moves_by from acts to) n → n.to ≡ to) → n.to ≡ to
    go (inl e) ih = sym (ap (λ x. x.to) e)
    go (inr c) ih = ih c

is-move : (from to : ℕ) (acts : List ℕ) (k : ℕ) → k < length acts → Contains (moves_by from acts to) (move_by from (get_or acts k 0) to)
is-move from to [] k h = absurd (omega arith)
is-move from to (a ∷ acts) zero h = at-head (move_by from a to) (move_by from a to) (moves_by from acts to) refl
is-move from to (a ∷ acts) (suc k) h = in-rest (move_by from (get_or acts k 0) to) (move_by from a to) (moves_by from acts to) (is-move from to acts k (omega arith))

module _ (states columns from to : ℕ) (before : List Move) (acts : List ℕ) (k : ℕ) (table : List (Option ℕ)) (in_acts : k < length acts) (from_in : from < states) (acts_in : All (λ a. a < columns) acts)
    (told : Tells states columns table (before ++ moves_by from (take k acts) to)) where
  abbrev now : Move
  now = move_by from (get_or acts k 0) to

  action_in : now.action < columns
  action_in = acts_in k 0 in_acts

  pub conflicts_with-nowhere : some_conflict (moves_by from (take k acts) to) before ≡ false → IsOne columns table now → some_conflict (moves_by from (take (k + 1) acts) to) before ≡ false
  conflicts_with-nowhere h one =
      ap (λ ms. some_conflict ms before) (one-further from to acts k in_acts)
      ∙ none-conflicts_with (moves_by from (take k acts) to) now before h
      (told-none states columns table now before (each-front (IsTold states columns table) before (moves_by from (take k acts) to) told.each) one)

  pub told-further : IsOne columns table now → Tells states columns (set table (place_of columns now) (Some to)) (before ++ moves_by from (take (k + 1) acts) to)
  told-further one =
      subst (λ ms. Tells states columns (set table (place_of columns now) (Some to)) ms)
      (append_assoc before (moves_by from (take k acts) to) (now ∷ []) ∙ ap (λ ms. before ++ ms) (sym (one-further from to acts k in_acts)))
      (entered states columns table (before ++ moves_by from (take k acts) to) now told from_in action_in one)

  pub conflicts_with-elsewhere : (other : ℕ) → entry columns table from now.action ≡ Some other → other ≢ to → some_conflict (moves_by from acts to) before ≡ true
  conflicts_with-elsewhere other found differs =
      let n : Move = move_by from now.action other in
      let there : Contains before n =
      ⊎_elim (λ c. c) (λ c. absurd (differs (leads-there from to (take k acts) n c)))
      (Contains-append_cases before (moves_by from (take k acts) to) n (told.only from now.action other from_in action_in found)) in
      some-conflicts_with now (moves_by from acts to) before (is-move from to acts k in_acts) (told-some states columns table now before other there differs)

-- all are entered
pub all-conflicts_with : (from to : ℕ) (before : List Move) (acts : List ℕ) (k : ℕ) → length acts ≤ k → some_conflict (moves_by from (take k acts) to) before ≡ false → some_conflict (moves_by from acts to) before ≡ false
all-conflicts_with from to before acts k h d = ap (λ xs. some_conflict (moves_by from xs to) before) (sym (take_all k acts h)) ∙ d

pub all-told : (states columns from to : ℕ) (before : List Move) (acts : List ℕ) (k : ℕ) (table : List (Option ℕ)) → length acts ≤ k
    → Tells states columns table (before ++ moves_by from (take k acts) to) → Tells states columns table (before ++ moves_by from acts to)
all-told states columns from to before acts k table h t = subst (λ xs. Tells states columns table (before ++ moves_by from xs to)) (take_all k acts h) t

-- ---- before the first move

no-entry : (table : List (Option ℕ)) (k : ℕ) → Each (λ x. x ≡ None) table → get_or table k None ≡ None
no-entry [] k h = refl
no-entry (x ∷ table) zero h = h.0
no-entry (x ∷ table) (suc k) h = no-entry table k h.1

pub tells-none : (states columns : ℕ) (table : List (Option ℕ)) → length table ≡ states * columns → Each (λ x. x ≡ None) table → Tells states columns table []
tells-none states columns table size none = record {
  size = size;
  each = tt;
  only = λ from action to f a e. absurd (never to (sym (no-entry table (from * columns + action) none) ∙ e));
}
  where
    never : (n : ℕ) → ◌≡◌ {A = Option ℕ} None (Some n) → ⊥
    never n e = cc
