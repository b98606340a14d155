-- What is chosen is exposed, and what the behaviour does is what the firing rule says.
use Rattle.std.proofs.Common.{◌≡◌, ◌≢◌, ℕ, zero, suc, ◌<◌, ◌≤◌, ◌⊎◌, ◌↔◌, inl, inr, ℤ, Bool, true, false, not, ◌&&◌, ◌||◌, List, [], ◌∷◌, length, take, refl, sym, ap, subst, ◌∙◌, arith, Option, None, Some}
use Rattle.std.specs.Prelude.{Contains, slice_get, slice_index, if◌then◌else◌, is_some}
use Rattle.std.proofs.lemmas.Option.{slice_get_past}
use Rattle.rvc_base.specs.declared.trap.Trap.{Trap}
use Rattle.rvc_base.specs.Behaviour.{Choice, Waits, Picks, Faults, Effect, Fires, TrapsInGuard, TrapsInBody}
use Rattle.cal_model.specs.Outcome.{Out, Gives, Traps, Lacks, Clashes}
use Rattle.cal_model.specs.Actor.{Action, Actor}
use Rattle.cal_model.specs.Eligible.{leads, eligible}
use Rattle.cal_model.specs.Call.{calls_of}
use Rattle.cal_model.specs.Rates.{need}
use Rattle.cal_model.specs.Selection.{State, Priorities, Above, Guards, AreTrue, AreFalse, AreTrapping, readiness, has_its_tokens, guards_say, seen_by, IsEnabled, IsExposed, is_exposed, outranked, are_true, choice_among, choice}
use Rattle.cal_model.specs.Firing.{Fired, IsFiring, IsTrapping, body, effect, effect_of_body, effect_of_exposed}

-- ---- what readiness says

both-true : (a b : Bool) → (a && b) ≡ true → (a ≡ true) × (b ≡ true)
both-true true true h = (refl, refl)
both-true true false h = absurd (grind arith)
both-true false b h = absurd (grind arith)

abbrev ready_by : Option Action → Bool → (Action → Guards) → Guards
ready_by o b g = elim o [ None ↦ AreFalse | Some act ↦ if b then g act else AreFalse ]

ready-by-true : (o : Option Action) (b : Bool) (g : Action → Guards) → ready_by o b g ≢ AreFalse → b ≡ true
ready-by-true None b g h = absurd (h refl)
ready-by-true (Some act) true g h = refl
ready-by-true (Some act) false g h = absurd (h refl)

-- an action whose guards say something else than that they are false is eligible and has its tokens
ready-parts : (actor : Actor) (x : State) (u : List (List ℤ)) (a : ℕ) → readiness actor x u a ≢ AreFalse
    → (eligible actor x.at a ≡ true) × (has_its_tokens actor u a ≡ true)
ready-parts actor x u a h = both-true (eligible actor x.at a) (has_its_tokens actor u a) (ready-by-true (slice_get actor.actions a) (eligible actor x.at a && has_its_tokens actor u a) _ h)

false-or-past : (n b : ℕ) → (b < n) ⊎ (n ≤ b)
false-or-past n b = grind arith

-- there is no other action
pub ready-past : (actor : Actor) (x : State) (u : List (List ℤ)) (a : ℕ) → length actor.actions ≤ a → readiness actor x u a ≡ AreFalse
ready-past actor x u a h =
    ap (λ o. ready_by o (eligible actor x.at a && has_its_tokens actor u a) (λ act. guards_say act.guards (calls_of actor.funs) (seen_by actor x u act))) (slice_get_past actor.actions a h)

-- an action that is eligible is one of the actor's
pub eligible-within : (actor : Actor) (s a : ℕ) → eligible actor s a ≡ true → a < length actor.actions
eligible-within actor s a e = go (false-or-past (length actor.actions) a)
  where
    go : (a < length actor.actions) ⊎ (length actor.actions ≤ a) → a < length actor.actions
    go (inl h) = h
    go (inr h) =
        let none : eligible actor s a ≡ false = ap (λ o. is_some (elim o [ None ↦ None | Some act ↦ leads actor s a act ])) (slice_get_past actor.actions a h) in
        let no : true ≡ false = sym e ∙ none in absurd (grind arith)

-- ---- the choice in a line

-- a choice is made at a place of the line, and those before it have false guards
record IsMadeAt (actor : Actor) (x : State) (u : List (List ℤ)) (line : List ℕ) (a : ℕ) (g : Guards) : Type 0 where
  at : ℕ
  within : at < length line
  is : slice_index line at ≡ a
  says : readiness actor x u a ≡ g
  before : (b : ℕ) → Contains (take at line) b → readiness actor x u b ≡ AreFalse

in-rest : (b c : ℕ) (xs : List ℕ) → Contains (c ∷ xs) b → (b ≡ c) ⊎ Contains xs b
in-rest b c xs (zero, h, e) = inl (sym e)
in-rest b c xs (suc k, h, e) = inr (k, omega arith, e)

in-none : (b : ℕ) → Contains [] b → ⊥
in-none b h = omega arith

here : (actor : Actor) (x : State) (u : List (List ℤ)) (c : ℕ) (cs : List ℕ) (g : Guards) → readiness actor x u c ≡ g → IsMadeAt actor x u (c ∷ cs) c g
here actor x u c cs g e = record { at = 0; within = omega arith; is = refl; says = e; before = λ b h. absurd (in-none b h) }

later : (actor : Actor) (x : State) (u : List (List ℤ)) (c a : ℕ) (cs : List ℕ) (g : Guards) → readiness actor x u c ≡ AreFalse → IsMadeAt actor x u cs a g → IsMadeAt actor x u (c ∷ cs) a g
later actor x u c a cs g e made = record {
  at = suc made.at;
  within = let h : made.at < length cs = made.within in omega arith;
  is = made.is;
  says = made.says;
  before = λ b h. go b (in-rest b c (take made.at cs) h);
}
  where
    go : (b : ℕ) → (b ≡ c) ⊎ Contains (take made.at cs) b → readiness actor x u b ≡ AreFalse
    go b (inl f) = rw f e
    go b (inr f) = made.before b f

abbrev choice_by : Guards → ℕ → Choice → Choice
choice_by g c rest = elim g [ AreTrue ↦ Picks c | AreFalse ↦ rest | AreTrapping t ↦ Faults c t ]

picks-at : (actor : Actor) (x : State) (u : List (List ℤ)) (a : ℕ) (line : List ℕ) → choice_among actor x u line ≡ Picks a → IsMadeAt actor x u line a AreTrue
picks-at actor x u a [] h = absurd (grind arith)
picks-at actor x u a (c ∷ cs) h = go (readiness actor x u c) refl h (picks-at actor x u a cs)
  where
    go : (g : Guards) → readiness actor x u c ≡ g → choice_by g c (choice_among actor x u cs) ≡ Picks a
        → (choice_among actor x u cs ≡ Picks a → IsMadeAt actor x u cs a AreTrue) → IsMadeAt actor x u (c ∷ cs) a AreTrue
    go AreTrue e f ih = let same : c ≡ a = cc in subst (λ k. IsMadeAt actor x u (c ∷ cs) k AreTrue) same (here actor x u c cs AreTrue e)
    go AreFalse e f ih = later actor x u c a cs AreTrue e (ih f)
    go (AreTrapping t) e f ih = absurd (grind arith)

faults-at : (actor : Actor) (x : State) (u : List (List ℤ)) (a : ℕ) (t : Trap) (line : List ℕ) → choice_among actor x u line ≡ Faults a t → IsMadeAt actor x u line a (AreTrapping t)
faults-at actor x u a t [] h = absurd (grind arith)
faults-at actor x u a t (c ∷ cs) h = go (readiness actor x u c) refl h (faults-at actor x u a t cs)
  where
    go : (g : Guards) → readiness actor x u c ≡ g → choice_by g c (choice_among actor x u cs) ≡ Faults a t
        → (choice_among actor x u cs ≡ Faults a t → IsMadeAt actor x u cs a (AreTrapping t)) → IsMadeAt actor x u (c ∷ cs) a (AreTrapping t)
    go AreTrue e f ih = absurd (grind arith)
    go AreFalse e f ih = later actor x u c a cs (AreTrapping t) e (ih f)
    go (AreTrapping s) e f ih =
        let same : c ≡ a = cc in
        let trap : s ≡ t = cc in
        subst (λ k. IsMadeAt actor x u (c ∷ cs) k (AreTrapping t)) same (here actor x u c cs (AreTrapping t) (e ∙ ap AreTrapping trap))

waits-all : (actor : Actor) (x : State) (u : List (List ℤ)) (line : List ℕ) → choice_among actor x u line ≡ Waits → (b : ℕ) → Contains line b → readiness actor x u b ≡ AreFalse
waits-all actor x u [] h b m = absurd (in-none b m)
waits-all actor x u (c ∷ cs) h b m = go (readiness actor x u c) refl h (waits-all actor x u cs) (in-rest b c cs m)
  where
    go : (g : Guards) → readiness actor x u c ≡ g → choice_by g c (choice_among actor x u cs) ≡ Waits
        → (choice_among actor x u cs ≡ Waits → (b : ℕ) → Contains cs b → readiness actor x u b ≡ AreFalse) → (b ≡ c) ⊎ Contains cs b → readiness actor x u b ≡ AreFalse
    go AreTrue e f ih k = absurd (grind arith)
    go AreFalse e f ih (inl k) = rw k e
    go AreFalse e f ih (inr k) = ih f b k
    go (AreTrapping s) e f ih k = absurd (grind arith)

-- ---- what is chosen is exposed

made-exposed : (actor : Actor) (p : Priorities actor) (x : State) (u : List (List ℤ)) (a : ℕ) (g : Guards) → g ≢ AreFalse → IsMadeAt actor x u p.line a g → IsExposed actor x u a
made-exposed actor p x u a g other made =
    let parts = ready-parts actor x u a (λ e. other (sym made.says ∙ e)) in
    record {
      is_eligible = parts.0;
      has_tokens = parts.1;
      none_above = λ b above enabled. go b above enabled (false-or-past (length actor.actions) b);
    }
  where
    go : (b : ℕ) → Above actor b a → IsEnabled actor x u b → (b < length actor.actions) ⊎ (length actor.actions ≤ b) → ⊥
    go b above enabled (inl h) =
        let next = p.is_line.next made.at made.within in
        let earlier = next.may.after b h (subst (λ k. Above actor b k) (sym made.is) above) in
        let e : AreTrue ≡ AreFalse = sym enabled ∙ made.before b earlier in
        absurd (grind arith)
    go b above enabled (inr h) = let e : AreTrue ≡ AreFalse = sym enabled ∙ ready-past actor x u b h in absurd (grind arith)

pub chosen-is-enabled : (actor : Actor) (p : Priorities actor) (x : State) (u : List (List ℤ)) (a : ℕ)
    → choice actor p x u ≡ Picks a → IsExposed actor x u a × IsEnabled actor x u a
chosen-is-enabled actor p x u a h =
    let made = picks-at actor x u a p.line h in
    (made-exposed actor p x u a AreTrue (λ e. grind arith) made, made.says)

pub chosen-traps : (actor : Actor) (p : Priorities actor) (x : State) (u : List (List ℤ)) (a : ℕ) (c : Trap)
    → choice actor p x u ≡ Faults a c → IsExposed actor x u a × (readiness actor x u a ≡ AreTrapping c)
chosen-traps actor p x u a c h =
    let made = faults-at actor x u a c p.line h in
    (made-exposed actor p x u a (AreTrapping c) (λ e. grind arith) made, made.says)

pub waiting-is-idle : (actor : Actor) (p : Priorities actor) (x : State) (u : List (List ℤ))
    → choice actor p x u ≡ Waits → (a : ℕ) → readiness actor x u a ≡ AreFalse
waiting-is-idle actor p x u h a = go (false-or-past (length actor.actions) a)
  where
    go : (a < length actor.actions) ⊎ (length actor.actions ≤ a) → readiness actor x u a ≡ AreFalse
    go (inl k) = waits-all actor x u p.line h a (p.is_line.each a k)
    go (inr k) = ready-past actor x u a k

-- ---- one effect

same-gives : {A : Type 0} → (a b : A) (m n : ℕ) → Gives a m ≡ Gives b n → a ≡ b
same-gives a b m n e = cc

pub one-firing : (actor : Actor) (x y z : State) (u sent other : List (List ℤ)) (a : ℕ) (taken more : ℕ → ℕ)
    → IsFiring actor x u a y taken sent → IsFiring actor x u a z more other
    → (y ≡ z) × ((port : ℕ) → taken port ≡ more port) × (sent ≡ other)
one-firing actor x y z u sent other a taken more f g =
    let same = same-gives (record { state = y; sent = sent }) (record { state = z; sent = other }) f.left g.left (sym f.gives ∙ g.gives) in
    (ap (λ r. r.state) same, λ port. f.takes port ∙ sym (g.takes port), ap (λ r. r.sent) same)

same-trap : (c d : Trap) → ◌≡◌ {A = Out Fired} (Traps c) (Traps d) → c ≡ d
same-trap c d e = cc

gives-or-traps : (c : Trap) (f : Fired) (left : ℕ) → ◌≡◌ {A = Out Fired} (Traps c) (Gives f left) → ⊥
gives-or-traps c f left e = grind arith

pub one-trap : (actor : Actor) (x : State) (u : List (List ℤ)) (a : ℕ) (c d : Trap)
    → IsTrapping actor x u a c → IsTrapping actor x u a d → c ≡ d
one-trap actor x u a c d f g = go f.where_ g.where_
  where
    go : (readiness actor x u a ≡ AreTrapping c) ⊎ (IsEnabled actor x u a × (body actor x u a ≡ Traps c))
        → (readiness actor x u a ≡ AreTrapping d) ⊎ (IsEnabled actor x u a × (body actor x u a ≡ Traps d)) → c ≡ d
    go (inl h) (inl k) = cc
    go (inl h) (inr k) = let e : AreTrapping c ≡ AreTrue = sym h ∙ k.0 in absurd (grind arith)
    go (inr h) (inl k) = let e : AreTrapping d ≡ AreTrue = sym k ∙ h.0 in absurd (grind arith)
    go (inr h) (inr k) = same-trap c d (sym h.1 ∙ k.1)

pub never-both : (actor : Actor) (x y : State) (u sent : List (List ℤ)) (a : ℕ) (taken : ℕ → ℕ) (c : Trap)
    → IsFiring actor x u a y taken sent → ¬ IsTrapping actor x u a c
never-both actor x y u sent a taken c f g = go g.where_
  where
    go : (readiness actor x u a ≡ AreTrapping c) ⊎ (IsEnabled actor x u a × (body actor x u a ≡ Traps c)) → ⊥
    go (inl h) = let e : AreTrapping c ≡ AreTrue = sym h ∙ f.enabled in absurd (grind arith)
    go (inr h) = gives-or-traps c (record { state = y; sent = sent }) f.left (sym h.1 ∙ f.gives)

-- ---- the behaviour

-- one of a list that is above a and enabled outranks it
outranks : (actor : Actor) (above : ℕ → ℕ → Bool) (x : State) (u : List (List ℤ)) (a b : ℕ) (bs : List ℕ)
    → above b a ≡ true → readiness actor x u b ≡ AreTrue → Contains bs b → outranked actor above x u a bs ≡ true
outranks actor above x u a b [] e f m = absurd (in-none b m)
outranks actor above x u a b (c ∷ cs) e f m = go (in-rest b c cs m) (outranks actor above x u a b cs e f)
  where
    or-true : (v : Bool) → (v || true) ≡ true
    or-true true = refl
    or-true false = refl

    go : (b ≡ c) ⊎ Contains cs b → (Contains cs b → outranked actor above x u a cs ≡ true) → outranked actor above x u a (c ∷ cs) ≡ true
    go (inl same) ih =
        let first : above c a ≡ true = subst (λ k. above k a ≡ true) same e in
        let second : readiness actor x u c ≡ AreTrue = subst (λ k. readiness actor x u k ≡ AreTrue) same f in
        ap (λ v. (v && are_true (readiness actor x u c)) || outranked actor above x u a cs) first ∙ ap (λ g. are_true g || outranked actor above x u a cs) second
    go (inr rest) ih = ap (λ v. (above c a && are_true (readiness actor x u c)) || v) (ih rest) ∙ or-true (above c a && are_true (readiness actor x u c))

-- if none that is above a is enabled, none of a list outranks it
outranks-not : (actor : Actor) (above : ℕ → ℕ → Bool) (x : State) (u : List (List ℤ)) (a : ℕ) (bs : List ℕ)
    → ((b : ℕ) → above b a ≡ true → readiness actor x u b ≢ AreTrue) → outranked actor above x u a bs ≡ false
outranks-not actor above x u a [] h = refl
outranks-not actor above x u a (c ∷ cs) h = go (above c a) (readiness actor x u c) (h c) (outranks-not actor above x u a cs h)
  where
    go : (v : Bool) (g : Guards) → (v ≡ true → g ≢ AreTrue) → outranked actor above x u a cs ≡ false → ((v && are_true g) || outranked actor above x u a cs) ≡ false
    go false g k e = e
    go true AreTrue k e = absurd (k refl refl)
    go true AreFalse k e = e
    go true (AreTrapping t) k e = e

not-true : (v : Bool) → not v ≡ true → v ≡ false
not-true true h = absurd (grind arith)
not-true false h = refl

-- the test says what `IsExposed` does
pub is-exposed : (actor : Actor) (p : Priorities actor) (x : State) (u : List (List ℤ)) (a : ℕ) → is_exposed actor p x u a ≡ true → IsExposed actor x u a
is-exposed actor p x u a h =
    let halves = both-true (eligible actor x.at a && has_its_tokens actor u a) (not (outranked actor p.above x u a p.line)) h in
    let parts = both-true (eligible actor x.at a) (has_its_tokens actor u a) halves.0 in
    record {
      is_eligible = parts.0;
      has_tokens = parts.1;
      none_above = λ b above enabled. go b (eligible-within actor x.at a parts.0) above enabled (not-true _ halves.1) (false-or-past (length actor.actions) b);
    }
  where
    go : (b : ℕ) → a < length actor.actions → Above actor b a → IsEnabled actor x u b → outranked actor p.above x u a p.line ≡ false → (b < length actor.actions) ⊎ (length actor.actions ≤ b) → ⊥
    go b a_in above enabled none (inl h) =
        let e : true ≡ false = sym (outranks actor p.above x u a b p.line ((p.is_above b a h a_in).1 above) enabled (p.is_line.each b h)) ∙ none in
        absurd (grind arith)
    go b a_in above enabled none (inr h) = let e : AreTrue ≡ AreFalse = sym enabled ∙ ready-past actor x u b h in absurd (grind arith)

pub exposed-is : (actor : Actor) (p : Priorities actor) (x : State) (u : List (List ℤ)) (a : ℕ) → IsExposed actor x u a → is_exposed actor p x u a ≡ true
exposed-is actor p x u a h =
    let none = outranks-not actor p.above x u a p.line (λ b above enabled. go b above enabled (false-or-past (length actor.actions) b)) in
    ap (λ v. v && has_its_tokens actor u a && not (outranked actor p.above x u a p.line)) h.is_eligible
    ∙ ap (λ v. v && not (outranked actor p.above x u a p.line)) h.has_tokens ∙ ap not none
  where
    go : (b : ℕ) → p.above b a ≡ true → readiness actor x u b ≡ AreTrue → (b < length actor.actions) ⊎ (length actor.actions ≤ b) → ⊥
    go b above enabled (inl b_in) = h.none_above b ((p.is_above b a b_in (eligible-within actor x.at a h.is_eligible)).0 above) enabled
    go b above enabled (inr past) = let e : AreTrue ≡ AreFalse = sym enabled ∙ ready-past actor x u b past in absurd (grind arith)

abbrev exposed_effect : Bool → Actor → State → List (List ℤ) → ℕ → Guards → Option (Effect State)
exposed_effect b actor x u a g = if b then effect_of_exposed actor x u a g else None

fires-body : (o : Out Fired) (y : State) (sent : List (List ℤ)) → effect_of_body o ≡ Some (Fires y sent) → (left : ℕ) × (o ≡ Gives (record { state = y; sent = sent }) left)
fires-body (Gives f left) y sent h =
    let s : f.state ≡ y = cc in
    let t : f.sent ≡ sent = cc in
    (left, subst (λ z. Gives f left ≡ Gives (record { state = z; sent = sent }) left) s (subst (λ z. Gives f left ≡ Gives (record { state = f.state; sent = z }) left) t refl))
fires-body (Traps c) y sent h = absurd (grind arith)
fires-body Lacks y sent h = absurd (grind arith)
fires-body Clashes y sent h = absurd (grind arith)

pub effects-are-firings : (actor : Actor) (p : Priorities actor) (x y : State) (u sent : List (List ℤ)) (a : ℕ)
    → (effect actor p x u a ≡ Some (Fires y sent)) ↔ IsFiring actor x u a y (need actor a) sent
effects-are-firings actor p x y u sent a = (λ h. go (is_exposed actor p x u a) (readiness actor x u a) refl refl h, back)
  where
    go : (b : Bool) (g : Guards) → is_exposed actor p x u a ≡ b → readiness actor x u a ≡ g → exposed_effect b actor x u a g ≡ Some (Fires y sent) → IsFiring actor x u a y (need actor a) sent
    go false g e f h = absurd (grind arith)
    go true AreTrue e f h =
        let inside = fires-body (body actor x u a) y sent h in
        record { exposed = is-exposed actor p x u a e; enabled = f; takes = λ port. refl; left = inside.0; gives = inside.1 }
    go true AreFalse e f h = absurd (grind arith)
    go true (AreTrapping t) e f h = absurd (grind arith)

    back : IsFiring actor x u a y (need actor a) sent → effect actor p x u a ≡ Some (Fires y sent)
    back f = ap (λ b. exposed_effect b actor x u a (readiness actor x u a)) (exposed-is actor p x u a f.exposed)
        ∙ ap (effect_of_exposed actor x u a) f.enabled ∙ ap effect_of_body f.gives

traps-body : (o : Out Fired) (c : Trap) → effect_of_body o ≡ Some (TrapsInBody c) → o ≡ Traps c
traps-body (Gives f left) c h = absurd (grind arith)
traps-body (Traps d) c h = let e : d ≡ c = cc in ap (λ t. Traps t) e
traps-body Lacks c h = absurd (grind arith)
traps-body Clashes c h = absurd (grind arith)

never-guard : (o : Out Fired) (c : Trap) → effect_of_body o ≡ Some (TrapsInGuard c) → ⊥
never-guard (Gives f left) c h = grind arith
never-guard (Traps d) c h = grind arith
never-guard Lacks c h = grind arith
never-guard Clashes c h = grind arith

pub effects-are-traps : (actor : Actor) (p : Priorities actor) (x : State) (u : List (List ℤ)) (a : ℕ) (c : Trap)
    → ((effect actor p x u a ≡ Some (TrapsInGuard c)) ⊎ (effect actor p x u a ≡ Some (TrapsInBody c))) ↔ IsTrapping actor x u a c
effects-are-traps actor p x u a c = (λ h. there h, λ f. back f f.where_)
  where
    guard : (b : Bool) (g : Guards) → is_exposed actor p x u a ≡ b → readiness actor x u a ≡ g → exposed_effect b actor x u a g ≡ Some (TrapsInGuard c) → IsTrapping actor x u a c
    guard false g e f h = absurd (grind arith)
    guard true AreTrue e f h = absurd (never-guard (body actor x u a) c h)
    guard true AreFalse e f h = absurd (grind arith)
    guard true (AreTrapping t) e f h =
        let same : t ≡ c = cc in
        record { exposed = is-exposed actor p x u a e; where_ = inl (f ∙ ap (λ s. AreTrapping s) same) }

    rest : (b : Bool) (g : Guards) → is_exposed actor p x u a ≡ b → readiness actor x u a ≡ g → exposed_effect b actor x u a g ≡ Some (TrapsInBody c) → IsTrapping actor x u a c
    rest false g e f h = absurd (grind arith)
    rest true AreTrue e f h = record { exposed = is-exposed actor p x u a e; where_ = inr (f, traps-body (body actor x u a) c h) }
    rest true AreFalse e f h = absurd (grind arith)
    rest true (AreTrapping t) e f h = absurd (grind arith)

    there : (effect actor p x u a ≡ Some (TrapsInGuard c)) ⊎ (effect actor p x u a ≡ Some (TrapsInBody c)) → IsTrapping actor x u a c
    there (inl h) = guard (is_exposed actor p x u a) (readiness actor x u a) refl refl h
    there (inr h) = rest (is_exposed actor p x u a) (readiness actor x u a) refl refl h

    back : IsTrapping actor x u a c → (readiness actor x u a ≡ AreTrapping c) ⊎ (IsEnabled actor x u a × (body actor x u a ≡ Traps c))
        → (effect actor p x u a ≡ Some (TrapsInGuard c)) ⊎ (effect actor p x u a ≡ Some (TrapsInBody c))
    back f (inl h) = inl (ap (λ b. exposed_effect b actor x u a (readiness actor x u a)) (exposed-is actor p x u a f.exposed) ∙ ap (effect_of_exposed actor x u a) h)
    back f (inr h) = inr (ap (λ b. exposed_effect b actor x u a (readiness actor x u a)) (exposed-is actor p x u a f.exposed)
        ∙ ap (effect_of_exposed actor x u a) h.0 ∙ ap effect_of_body h.1)
