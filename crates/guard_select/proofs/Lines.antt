-- The choice among the candidates is that among all actions.
use Rattle.std.proofs.Common.{◌≡◌, ℕ, ◌+◌, ◌<◌, ◌≤◌, ℤ, Bool, true, false, not, ◌&&◌, ◌||◌, List, [], ◌∷◌, length, take, drop, refl, sym, ap, subst, ◌∙◌, arith}
use Rattle.std.specs.Prelude.{All, IsSome, Option, None, Some, is_some, if◌then◌else◌, slice_index_or}
use Rattle.std.specs.List.{filter}
use Rattle.std.proofs.lemmas.List.{drop_more, drop_all, get_or_default}
use Rattle.std.proofs.lemmas.List.Elements.{filter_passes}
use Rattle.rvc_base.specs.Behaviour.{Choice, Waits, Picks, Faults}
use Rattle.priority_order.specs.Ranking.{is_above}
use Rattle.lowered_actor.specs.Actor.{Actor}
use Rattle.lowered_actor.specs.Candidates.{eligible_among}
use Rattle.lowered_actor.specs.Meaning.{ActorState, Guards, AreTrue, AreFalse, AreTrapping, choice_among, choice, are_true, is_eligible, is_exposed, is_outranked, is_state, has_its_tokens, readiness}
use Rattle.guard_select.specs.Selecting.{state_of}
use Rattle.guard_select.proofs.Says.{idle-is-false}

abbrev pub choice_by : Guards → ℕ → Choice → Choice
choice_by g a rest = elim g [ AreTrue ↦ Picks a | AreFalse ↦ rest | AreTrapping cause ↦ Faults a cause ]

-- what isn't eligible is never chosen
pub choose-eligible : (ready : ℕ → Guards) (test : ℕ → Bool) (line : List ℕ) → ((a : ℕ) → test a ≡ false → ready a ≡ AreFalse)
    → choice_among ready (filter test line) ≡ choice_among ready line
choose-eligible ready test [] idle = refl
choose-eligible ready test (a ∷ line) idle = by (test a) refl (choose-eligible ready test line idle)
  where
    by : (b : Bool) → test a ≡ b → choice_among ready (filter test line) ≡ choice_among ready line
        → choice_among ready (if b then a ∷ filter test line else filter test line) ≡ choice_by (ready a) a (choice_among ready line)
    by true e more = ap (choice_by (ready a) a) more
    by false e more = more ∙ sym (ap (λ g. choice_by g a (choice_among ready line)) (idle a e))

pub outranks-eligible : (actor : Actor) (ready : ℕ → Guards) (test : ℕ → Bool) (a : ℕ) (line : List ℕ) → ((b : ℕ) → test b ≡ false → ready b ≡ AreFalse)
    → is_outranked actor ready a (filter test line) ≡ is_outranked actor ready a line
outranks-eligible actor ready test a [] idle = refl
outranks-eligible actor ready test a (b ∷ line) idle = by (test b) refl (outranks-eligible actor ready test a line idle)
  where
    and-no : (v : Bool) → (v && false) ≡ false
    and-no true = refl
    and-no false = refl

    by : (v : Bool) → test b ≡ v → is_outranked actor ready a (filter test line) ≡ is_outranked actor ready a line
        → is_outranked actor ready a (if v then b ∷ filter test line else filter test line)
        ≡ ((is_above actor.order b a && are_true (ready b)) || is_outranked actor ready a line)
    by true e more = ap (λ v. (is_above actor.order b a && are_true (ready b)) || v) more
    by false e more =
        more ∙ sym (ap (λ g. (is_above actor.order b a && are_true g) || is_outranked actor ready a line) (idle b e)
        ∙ ap (λ v. v || is_outranked actor ready a line) (and-no (is_above actor.order b a)))

-- the choice from place k on
pub choice-from : (ready : ℕ → Guards) (line : List ℕ) (k a : ℕ) → k < length line → a ≡ slice_index_or line k a
    → choice_among ready (drop k line) ≡ choice_by (ready a) a (choice_among ready (drop (k + 1) line))
choice-from ready line k a low is =
    ap (choice_among ready) (drop_more line k a low ∙ ap (λ b. b ∷ drop (k + 1) line) (sym is))

pub outranked-from : (actor : Actor) (ready : ℕ → Guards) (a : ℕ) (line : List ℕ) (k b : ℕ) → k < length line → b ≡ slice_index_or line k b
    → is_outranked actor ready a (drop k line)
    ≡ ((is_above actor.order b a && are_true (ready b)) || is_outranked actor ready a (drop (k + 1) line))
outranked-from actor ready a line k b low is =
    ap (is_outranked actor ready a) (drop_more line k b low ∙ ap (λ c. c ∷ drop (k + 1) line) (sym is))

-- ---- the choice among the candidates of a state

module _ (actor : Actor) (s : ℕ) (first : List ℤ) (tokens : ℕ → List ℤ) (items : List ℕ) (same : items ≡ eligible_among actor.fsm s actor.order.line) where
  abbrev x : ActorState
  x = state_of actor s first

  abbrev ready : ℕ → Guards
  ready = readiness actor x tokens

  abbrev candidates : List ℕ
  candidates = eligible_among actor.fsm s actor.order.line

  chosen-so : (k : ℕ) → choice_among ready (drop k candidates) ≡ choice_among ready candidates → choice_among ready (drop k items) ≡ choice_among ready items
  chosen-so k so_far = subst (λ l. choice_among ready (drop k l) ≡ choice_among ready l) (sym same) so_far

  outranked-so : (a k : ℕ) → is_outranked actor ready a (drop k candidates) ≡ is_outranked actor ready a candidates
      → is_outranked actor ready a (drop k items) ≡ is_outranked actor ready a items
  outranked-so a k so_far = subst (λ l. is_outranked actor ready a (drop k l) ≡ is_outranked actor ready a l) (sym same) so_far

  pub eligible-at : (k : ℕ) → k < length items → is_eligible actor s (slice_index_or items k 0) ≡ true
  eligible-at k low =
      let all : All (λ a. is_eligible actor s a ≡ true) items = subst (All (λ a. is_eligible actor s a ≡ true)) (sym same) (filter_passes (is_eligible actor s) actor.order.line) in
      all k 0 low

  choice-is : is_state actor x ≡ true → choice actor x tokens ≡ choice_among ready items
  choice-is state =
      ap (λ b. if b then choice_among ready actor.order.line else Waits) state
      ∙ (sym (choose-eligible ready (is_eligible actor s) actor.order.line (λ a idle. idle-is-false actor x tokens a idle))
      ∙ ap (choice_among ready) (sym same))

  place : (k : ℕ) → k < length items → slice_index_or items k 0 ≡ slice_index_or items k (slice_index_or items k 0)
  place k low = get_or_default items k 0 (slice_index_or items k 0) low

  -- what the guards of the candidate at place k say, from cells that make the same state, decides
  pub choice-at : (now : List ℤ) (k : ℕ) (g : Guards) → is_state actor x ≡ true → take actor.kept now ≡ take actor.kept first → k < length items
      → g ≡ readiness actor (state_of actor s now) tokens (slice_index_or items k 0)
      → choice_among ready (drop k candidates) ≡ choice_among ready candidates
      → choice_by g (slice_index_or items k 0) (choice_among ready (drop (k + 1) items)) ≡ choice actor x tokens
  choice-at now k g state kept low says so_far =
      let here : g ≡ ready (slice_index_or items k 0) = says ∙ ap (λ cs. readiness actor (record { at = s; cells = cs }) tokens (slice_index_or items k 0)) kept in
      ap (λ h. choice_by h (slice_index_or items k 0) (choice_among ready (drop (k + 1) items))) here
      ∙ (sym (choice-from ready items k (slice_index_or items k 0) low (place k low)) ∙ (chosen-so k so_far ∙ sym (choice-is state)))

  pub choice-none : (k : ℕ) → is_state actor x ≡ true → length items ≤ k → choice_among ready (drop k candidates) ≡ choice_among ready candidates → Waits ≡ choice actor x tokens
  choice-none k state high so_far = ap (choice_among ready) (sym (drop_all k items high)) ∙ (chosen-so k so_far ∙ sym (choice-is state))

  -- ---- whether an action is exposed

  outranked-is : (a : ℕ) → is_outranked actor ready a actor.order.line ≡ is_outranked actor ready a items
  outranked-is a =
      sym (outranks-eligible actor ready (is_eligible actor s) a actor.order.line (λ b idle. idle-is-false actor x tokens b idle))
      ∙ ap (is_outranked actor ready a) (sym same)

  exposed-by : (a : ℕ) (v : Bool) → is_outranked actor ready a items ≡ v
      → is_exposed actor x tokens a ≡ ((is_eligible actor s a && has_its_tokens actor tokens a) && not v)
  exposed-by a v is = ap (λ b. (is_eligible actor s a && has_its_tokens actor tokens a) && not b) (outranked-is a ∙ is)

  and-no : (b : Bool) → (b && false) ≡ false
  and-no true = refl
  and-no false = refl

  pub outranked-at : (now : List ℤ) (a k : ℕ) → take actor.kept now ≡ take actor.kept first → k < length items
      → is_above actor.order (slice_index_or items k 0) a ≡ true
      → true ≡ are_true (readiness actor (state_of actor s now) tokens (slice_index_or items k 0))
      → is_outranked actor ready a (drop k candidates) ≡ is_outranked actor ready a candidates
      → false ≡ is_exposed actor x tokens a
  outranked-at now a k kept low above enabled so_far =
      let here : true ≡ are_true (ready (slice_index_or items k 0)) = enabled ∙ ap (λ cs. are_true (readiness actor (record { at = s; cells = cs }) tokens (slice_index_or items k 0))) kept in
      let found : is_outranked actor ready a (drop k items) ≡ true =
      outranked-from actor ready a items k (slice_index_or items k 0) low (place k low)
      ∙ (ap (λ b. (b && are_true (ready (slice_index_or items k 0))) || is_outranked actor ready a (drop (k + 1) items)) above
      ∙ ap (λ b. b || is_outranked actor ready a (drop (k + 1) items)) (sym here)) in
      sym (exposed-by a true (sym (outranked-so a k so_far) ∙ found) ∙ and-no (is_eligible actor s a && has_its_tokens actor tokens a))

  pub exposed-at-last : (a k : ℕ) → length items ≤ k → is_eligible actor s a ≡ true → has_its_tokens actor tokens a ≡ true
      → is_outranked actor ready a (drop k candidates) ≡ is_outranked actor ready a candidates → true ≡ is_exposed actor x tokens a
  exposed-at-last a k high eligible has so_far =
      sym (exposed-by a false (sym (outranked-so a k so_far) ∙ ap (is_outranked actor ready a) (drop_all k items high))
      ∙ (ap (λ b. (b && has_its_tokens actor tokens a) && true) eligible ∙ ap (λ b. b && true) has))

pub some-is : (o : Option ℕ) → IsSome o → is_some o ≡ true
some-is None h = absurd (grind arith)
some-is (Some n) h = refl
