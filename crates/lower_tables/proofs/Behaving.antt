-- A lowered actor with the tables of an actor behaves as it does, if its guards and firings do.
use Rattle.std.proofs.Common.{◌≡◌, ℕ, zero, suc, ◌<◌, ◌≤◌, Bool, true, false, ℤ, List, [], ◌∷◌, map, length, take, get_or, refl, sym, ap, subst, ◌∙◌, arith, ⊎_elim}
use Rattle.std.specs.Prelude.{not, ◌&&◌, ◌||◌, ◌==◌, if◌then◌else◌, nat_le, Contains, Option, None, Some, slice_get}
use Rattle.std.proofs.Math.Path.{fun_ext}
use Rattle.std.proofs.lemmas.Bool.{eq-eqb, le-leb, cases_lt}
use Rattle.std.proofs.lemmas.List.{get_or_default}
use Rattle.rvc_base.specs.Behaviour.{Choice, Effect, Waits, Picks, Faults, Fires, TrapsInBody}
use Rattle.rvc_base.specs.Line.{IsLine}
use Rattle.rvc_base.specs.Lawful.{tokens_on}
use Rattle.rvc_base.specs.Turns.{max_turns}
use Rattle.rvc_base.specs.declared.scalar.Scalar.{Scalar}
use Rattle.rvc_base.specs.Storing.{IsSize, InRange, conv}
use Rattle.priority_order.specs.Ranking.{is_above}
use Rattle.net_model.specs.Alike.{BehaveAlike, EachIs, EffectsAlike}
use Rattle.cal_model.specs.Env.{Var}
use Rattle.cal_model.specs.Outcome.{Out, Gives, Traps, Lacks, Clashes, and_then}
use Rattle.cal_model.specs.Actor.{Action, Actor, Port}
use Rattle.cal_model.specs.ActorState.{IsActorState, kept_on, kept_tokens}
use Rattle.cal_model.specs.Call.{calls_of, declared}
use Rattle.cal_model.specs.Statement.{exec_all, runs_of}
use Rattle.cal_model.specs.Eligible.{IsStateOf, eligible, next}
use Rattle.cal_model.specs.Firing.{Fired, behaviour, body, body_of, effect_of_body, effect_of_exposed, outputs}
use Rattle.cal_model.specs.Keeping.{GivesOrTraps}
use Rattle.cal_model.specs.Laws.{BehaviourStoresTokens, BodiesGiveOrTrap, KeptAreTokens, LineIsOne, StartIsState}
use Rattle.cal_model.specs.Selection.{Above, AreFalse, AreTrapping, AreTrue, Guards, Priorities, State, are_true, guards_say, has_its_tokens, is_exposed, kind_of_port, outranked, readiness, seen_by}
use Rattle.cal_model.specs.Selection as selection
use Rattle.cal_model.specs.Sound.{Each, IsSound}
use Rattle.cal_model.proofs.ActorStates.{first-sized}
use Rattle.cal_model.proofs.Choosing.{ready-past}
use Rattle.cal_model.proofs.Stored.{conv-stays}
use Rattle.lowered_actor.specs.Actor as coded
use Rattle.lowered_actor.specs.Meaning as lowered
use Rattle.lower_tables.specs.Carrying.{BodiesAgree, BodiesAreAlike, GuardsAgree, GuardsAreAlike, HasTables, HoldsNumbers, IsReady, MayCome, StandsFor}
use Rattle.lower_tables.proofs.Rated.{above_same, eligible_same, give_same, has_same, line_same, need_past, need_same, next_same, paired, past}

-- ---- tokens of a port's type stay as they are

each_stays : (t : Scalar) (us : List ℤ) → IsSize t → EachIs (InRange t) us → map (conv t) us ≡ us
each_stays t [] h i = refl
each_stays t (z ∷ us) h i = ap (λ y. y ∷ map (conv t) us) (conv-stays t z h i.0) ∙ ap (λ ys. z ∷ ys) (each_stays t us h i.1)

stay_on : (ports : List Port) (u : List (List ℤ)) → Each (λ p. IsSize p.kind) ports → ((k : ℕ) → k < length ports → EachIs (InRange (kind_of_port ports k)) (tokens_on u k))
    → (k : ℕ) → k < length ports → tokens_on (kept_on ports u) k ≡ tokens_on u k
stay_on [] u sized all k low = absurd (omega arith)
stay_on (p ∷ ports) [] sized all zero low = refl
stay_on (p ∷ ports) [] sized all (suc k) low = stay_on ports [] sized.1 (λ j h. all (suc j) (omega arith)) k (omega arith)
stay_on (p ∷ ports) (us ∷ u) sized all zero low = each_stays p.kind us sized.0 (all 0 low)
stay_on (p ∷ ports) (us ∷ u) sized all (suc k) low = stay_on ports u sized.1 (λ j h. all (suc j) (omega arith)) k (omega arith)

-- ---- choices

choices_agree : (ready : ℕ → lowered.Guards) (actor : Actor) (y : State) (v : List (List ℤ)) (line : List ℕ) → ((a : ℕ) → GuardsAgree (ready a) (readiness actor y v a))
    → lowered.choice_among ready line ≡ selection.choice_among actor y v line
choices_agree ready actor y v [] agree = refl
choices_agree ready actor y v (a ∷ line) agree = by (choices_agree ready actor y v line agree) (ready a) (readiness actor y v a) (agree a)
  where
    by : ◌≡◌ {A = Choice} (lowered.choice_among ready line) (selection.choice_among actor y v line) → (g : lowered.Guards) (h : Guards) → GuardsAgree g h
        → ◌≡◌ {A = Choice} (elim g [ lowered.AreTrue ↦ Picks a | lowered.AreFalse ↦ lowered.choice_among ready line | lowered.AreTrapping cause ↦ Faults a cause ])
        (elim h [ AreTrue ↦ Picks a | AreFalse ↦ selection.choice_among actor y v line | AreTrapping c ↦ Faults a c ])
    by rest lowered.AreTrue AreTrue e = refl
    by rest lowered.AreFalse AreFalse e = rest
    by rest (lowered.AreTrapping c) (AreTrapping d) e = ap (Faults a) e
    by rest lowered.AreTrue AreFalse e = absurd e
    by rest lowered.AreTrue (AreTrapping d) e = absurd e
    by rest lowered.AreFalse AreTrue e = absurd e
    by rest lowered.AreFalse (AreTrapping d) e = absurd e
    by rest (lowered.AreTrapping c) AreTrue e = absurd e
    by rest (lowered.AreTrapping c) AreFalse e = absurd e

true_alike : (g : lowered.Guards) (h : Guards) → GuardsAgree g h → lowered.are_true g ≡ are_true h
true_alike lowered.AreTrue AreTrue e = refl
true_alike lowered.AreFalse AreFalse e = refl
true_alike (lowered.AreTrapping c) (AreTrapping d) e = refl
true_alike lowered.AreTrue AreFalse e = absurd e
true_alike lowered.AreTrue (AreTrapping d) e = absurd e
true_alike lowered.AreFalse AreTrue e = absurd e
true_alike lowered.AreFalse (AreTrapping d) e = absurd e
true_alike (lowered.AreTrapping c) AreTrue e = absurd e
true_alike (lowered.AreTrapping c) AreFalse e = absurd e

in_rest : (b c : ℕ) (xs : List ℕ) → Contains xs b → Contains (c ∷ xs) b
in_rest b c xs (k, h, e) = (suc k, (let i : suc k < suc (length xs) = omega arith in i), e)

outranked_same : (l : coded.Actor) (actor : Actor) (above : ℕ → ℕ → Bool) (ready : ℕ → lowered.Guards) (y : State) (v : List (List ℤ)) (a : ℕ) (line : List ℕ)
    → ((b : ℕ) → GuardsAgree (ready b) (readiness actor y v b)) → ((b : ℕ) → Contains line b → is_above l.order b a ≡ above b a)
    → lowered.is_outranked l ready a line ≡ outranked actor above y v a line
outranked_same l actor above ready y v a [] agree same = refl
outranked_same l actor above ready y v a (b ∷ line) agree same =
    ap (λ over. (over && lowered.are_true (ready b)) || lowered.is_outranked l ready a line) (same b (0, (let i : 0 < suc (length line) = omega arith in i), refl))
    ∙ ap (λ t. (above b a && t) || lowered.is_outranked l ready a line) (true_alike (ready b) (readiness actor y v b) (agree b))
    ∙ ap (λ rest. (above b a && are_true (readiness actor y v b)) || rest) (outranked_same l actor above ready y v a line agree (λ c m. same c (in_rest c b line m)))

in_line : (n : ℕ) (A : ℕ → ℕ → Type 0) (line : List ℕ) (b : ℕ) → IsLine n A line → Contains line b → b < n
in_line n A line b h (k, within, is) = let e : get_or line k 0 < n = (h.next k within).may.in_range in subst (λ c. c < n) (get_or_default line k 0 b within ∙ is) e

both_true : (a b : Bool) → a ≡ true → b ≡ true → (a && b) ≡ true
both_true true b h k = k
both_true false b h k = absurd (cc)

two_true : (a b : Bool) → (a && b) ≡ true → (a ≡ true) × (b ≡ true)
two_true true b h = (refl, h)
two_true false b h = absurd (cc)

-- ---- bodies

-- what is given, if anything, is such
abbrev GivesSuch : {A : Type 0} → (A → Type 0) → Out A → Type 0
GivesSuch P (Gives a m) = P a
GivesSuch P (Traps c) = Unit {0}
GivesSuch P Lacks = Unit {0}
GivesSuch P Clashes = Unit {0}

such_then : {A B : Type 0} (P : B → Type 0) (o : Out A) (f : A → ℕ → Out B) → ((a : A) (m : ℕ) → GivesSuch P (f a m)) → GivesSuch P (and_then o f)
such_then P (Gives a m) f h = h a m
such_then P (Traps c) f h = tt
such_then P Lacks f h = tt
such_then P Clashes f h = tt

leads_so : (actor : Actor) (y : State) (v : List (List ℤ)) (to : ℕ) (act : Action) → GivesSuch (λ fired. to ≡ fired.state.at) (body_of actor y v to act)
leads_so actor y v to act =
    such_then (λ fired. to ≡ fired.state.at) (declared act.locals (calls_of actor.funs) (seen_by actor y v act) max_turns) _ (λ env m.
    such_then (λ fired. to ≡ fired.state.at) (exec_all act.body (calls_of actor.funs) (runs_of actor.procs (calls_of actor.funs)) env m) _ (λ last k.
    such_then (λ fired. to ≡ fired.state.at) (outputs actor.outs act.outputs (calls_of actor.funs) last k) _ (λ sent j. refl)))

-- a body that gives a firing leads where its action does
body_leads : (actor : Actor) (y : State) (v : List (List ℤ)) (a : ℕ) (act : Action) (fired : Fired) (left : ℕ) → slice_get actor.actions a ≡ Some act → body actor y v a ≡ Gives fired left
    → next actor y.at a ≡ Some fired.state.at
body_leads actor y v a act fired left is gives = led (next actor y.at a) refl
  where
    here : body actor y v a ≡ elim (next actor y.at a) [ None ↦ Clashes | Some to ↦ body_of actor y v to act ]
    here = ap (λ o. elim o [ None ↦ Clashes | Some x ↦ elim (next actor y.at a) [ None ↦ Clashes | Some to ↦ body_of actor y v to x ] ]) is

    led : (o : Option ℕ) → next actor y.at a ≡ o → next actor y.at a ≡ Some fired.state.at
    led None e =
        let no : Clashes ≡ Gives fired left = sym (here ∙ ap (λ o. elim o [ None ↦ Clashes | Some to ↦ body_of actor y v to act ]) e) ∙ gives in
        absurd (cc)
    led (Some to) e =
        let yes : body_of actor y v to act ≡ Gives fired left = sym (here ∙ ap (λ o. elim o [ None ↦ Clashes | Some to ↦ body_of actor y v to act ]) e) ∙ gives in
        e ∙ ap (λ k. Some k) (subst (GivesSuch (λ f. to ≡ f.state.at)) yes (leads_so actor y v to act))

-- ---- by cases of what is equal

agree_if : (c d : Bool) (g : lowered.Guards) (h : Guards) → c ≡ d → (d ≡ true → GuardsAgree g h) → GuardsAgree (if c then g else lowered.AreFalse) (if d then h else AreFalse)
agree_if true true g h e f = f refl
agree_if false false g h e f = tt
agree_if true false g h e f = absurd (cc)
agree_if false true g h e f = absurd (cc)

module _ {X Y : Type 0} (related : X → Y → Type 0) where
  alike_if : (c d : Bool) (e : Option (Effect X)) (f : Option (Effect Y)) → c ≡ d → (d ≡ true → EffectsAlike related e f) → EffectsAlike related (if c then e else None) (if d then f else None)
  alike_if true true e f same h = h refl
  alike_if false false e f same h = tt
  alike_if true false e f same h = absurd (cc)
  alike_if false true e f same h = absurd (cc)

  none_alike : (c d : Bool) (e : Option (Effect X)) (f : Option (Effect Y)) → e ≡ None → f ≡ None → EffectsAlike related (if c then e else None) (if d then f else None)
  none_alike true true e f p q = subst (λ o. EffectsAlike related o f) (sym p) (subst (EffectsAlike related None) (sym q) tt)
  none_alike true false e f p q = subst (λ o. EffectsAlike related o None) (sym p) tt
  none_alike false true e f p q = subst (EffectsAlike related None) (sym q) tt
  none_alike false false e f p q = tt

-- ---- all of it

module _ (actor : Actor) (p : Priorities actor) (l : coded.Actor) (numbers : List Var → List ℤ) (sound : IsSound actor) (has : HasTables actor l) (holds : HoldsNumbers actor numbers l) where
  module _ (one : LineIsOne) (kept : KeptAreTokens) (stores : BehaviourStoresTokens) (gives : BodiesGiveOrTrap) (guards : GuardsAreAlike actor numbers l) (bodies : BodiesAreAlike actor numbers l) where
    module _ (x : lowered.ActorState) (y : State) (u : List (List ℤ)) (r : StandsFor actor numbers x y) (come : (q : ℕ) → q < l.ins → EachIs (MayCome actor q) (tokens_on u q)) where
      on_port : (q : ℕ) → q < length actor.ins → tokens_on (kept_tokens actor u) q ≡ tokens_on u q
      on_port = stay_on actor.ins u (first-sized actor.ins actor.outs sound.port_sizes) (λ k low. come k (subst (λ n. k < n) (sym has.ins) low))

      taken_same : (a : ℕ) → lowered.taken l (tokens_on u) a ≡ lowered.taken l (tokens_on (kept_tokens actor u)) a
      taken_same a = fun_ext (λ q.
          ⊎_elim
          (λ (low : q < length actor.ins). ap (take (lowered.need l a q)) (sym (on_port q low)))
          (λ (high : length actor.ins ≤ q).
          let none : lowered.need l a q ≡ 0 = need_same actor l has sound a q ∙ need_past actor sound a q high in
          ap (λ n. take n (tokens_on u q)) none ∙ sym (ap (λ n. take n (tokens_on (kept_tokens actor u) q)) none))
          (cases_lt q (length actor.ins)))

      has_is : (a : ℕ) → lowered.has_its_tokens l (tokens_on u) a ≡ has_its_tokens actor (kept_tokens actor u) a
      has_is a = has_same actor l u (kept_tokens actor u) a sound has (λ q low. ap length (sym (on_port q low)))

      state_is : lowered.is_state l x ≡ true
      state_is =
          let low : y.at < l.fsm.states = (has.schedule.states y.at).1 r.state.at in
          let at = r.at in
          let within : suc x.at ≤ l.fsm.states = omega arith in
          both_true (nat_le (suc x.at) l.fsm.states) (length x.cells == l.kept)
          (le-leb (suc x.at) l.fsm.states within) (eq-eqb (length x.cells) l.kept (ap length r.cells ∙ holds.count y r.state))

      at_is : IsStateOf actor x.at
      at_is = subst (IsStateOf actor) (sym r.at) r.state.at

      may_same : (a : ℕ) → a < length actor.actions
          → (lowered.is_eligible l x.at a && lowered.has_its_tokens l (tokens_on u) a) ≡ (eligible actor y.at a && has_its_tokens actor (kept_tokens actor u) a)
      may_same a low =
          ap (λ b. b && lowered.has_its_tokens l (tokens_on u) a) (eligible_same actor l x.at a has at_is low ∙ ap (λ s. eligible actor s a) r.at)
          ∙ ap (λ b. eligible actor y.at a && b) (has_is a)

      ready_of : (a : ℕ) (act : Action) (action : coded.Action) → slice_get actor.actions a ≡ Some act → slice_get l.actions a ≡ Some action
          → (eligible actor y.at a && has_its_tokens actor (kept_tokens actor u) a) ≡ true → IsReady actor l y (kept_tokens actor u) a act action
      ready_of a act action is coded_is e =
          let both = two_true (eligible actor y.at a) (has_its_tokens actor (kept_tokens actor u) a) e in
          record { tokens = kept actor u sound; there = is; coded_there = coded_is; may_fire = both.0; has = both.1 }

      ready_alike : (a : ℕ) → GuardsAgree (lowered.readiness l x (tokens_on u) a) (readiness actor y (kept_tokens actor u) a)
      ready_alike a =
          ⊎_elim
          (λ (low : a < length actor.actions).
          let pair = paired actor l has a low in
          let c = lowered.is_eligible l x.at a && lowered.has_its_tokens l (tokens_on u) a in
          let d = eligible actor y.at a && has_its_tokens actor (kept_tokens actor u) a in
          let said : lowered.readiness l x (tokens_on u) a
          ≡ (if c then lowered.guards_say l.code (lowered.cells_of l x) (lowered.taken l (tokens_on u) a) pair.action.guards else lowered.AreFalse) =
          ap (λ o. elim o [ None ↦ lowered.AreFalse | Some action ↦ if c then lowered.guards_say l.code (lowered.cells_of l x) (lowered.taken l (tokens_on u) a) action.guards else lowered.AreFalse ]) pair.coded_is in
          let says : readiness actor y (kept_tokens actor u) a
          ≡ (if d then guards_say pair.act.guards (calls_of actor.funs) (seen_by actor y (kept_tokens actor u) pair.act) else AreFalse) =
          ap (λ o. elim o [ None ↦ AreFalse | Some act ↦ if d then guards_say act.guards (calls_of actor.funs) (seen_by actor y (kept_tokens actor u) act) else AreFalse ]) pair.is in
          subst (λ g. GuardsAgree g (readiness actor y (kept_tokens actor u) a)) (sym said)
          (subst (GuardsAgree (if c then lowered.guards_say l.code (lowered.cells_of l x) (lowered.taken l (tokens_on u) a) pair.action.guards else lowered.AreFalse)) (sym says)
          (agree_if c d _ _ (may_same a low) (λ e.
          subst (λ t. GuardsAgree (lowered.guards_say l.code (lowered.cells_of l x) t pair.action.guards) (guards_say pair.act.guards (calls_of actor.funs) (seen_by actor y (kept_tokens actor u) pair.act)))
          (sym (taken_same a)) (guards x y (kept_tokens actor u) a pair.act pair.action r (ready_of a pair.act pair.action pair.is pair.coded_is e))))))
          (λ (high : length actor.actions ≤ a).
          subst (λ g. GuardsAgree g (readiness actor y (kept_tokens actor u) a)) (sym (past actor l has a lowered.AreFalse _ high))
          (subst (GuardsAgree lowered.AreFalse) (sym (ready-past actor y (kept_tokens actor u) a high)) tt))
          (cases_lt a (length actor.actions))

      choice_same : (lowered.behaviour l).choice x u ≡ (behaviour actor p).choice y u
      choice_same =
          ap (λ b. if b then lowered.choice_among (lowered.readiness l x (tokens_on u)) l.order.line else Waits) state_is
          ∙ ap (lowered.choice_among (lowered.readiness l x (tokens_on u))) (line_same one actor p l has)
          ∙ choices_agree (lowered.readiness l x (tokens_on u)) actor y (kept_tokens actor u) p.line ready_alike
          ∙ sym (stores actor p y u r.state).1

      exposed_same : (a : ℕ) → a < length actor.actions → (lowered.is_state l x && lowered.is_exposed l x (tokens_on u) a) ≡ is_exposed actor p y (kept_tokens actor u) a
      exposed_same a low =
          ap (λ b. b && lowered.is_exposed l x (tokens_on u) a) state_is
          ∙ ap (λ b. b && not (lowered.is_outranked l (lowered.readiness l x (tokens_on u)) a l.order.line)) (may_same a low)
          ∙ ap (λ b. (eligible actor y.at a && has_its_tokens actor (kept_tokens actor u) a) && not b)
          (ap (lowered.is_outranked l (lowered.readiness l x (tokens_on u)) a) (line_same one actor p l has)
          ∙ outranked_same l actor p.above (lowered.readiness l x (tokens_on u)) y (kept_tokens actor u) a p.line ready_alike
          (λ b m. above_same actor p l b a has (in_line (length actor.actions) (Above actor) p.line b p.is_line m) low))

      body_by : (a : ℕ) (act : Action) (action : coded.Action) → slice_get actor.actions a ≡ Some act → a < length actor.actions → eligible actor y.at a ≡ true
          → (end : Option lowered.End) (out : Out Fired) → body actor y (kept_tokens actor u) a ≡ out → BodiesAgree numbers l action end out
          → EffectsAlike (StandsFor actor numbers) (lowered.effect_of_end l x a action end) (effect_of_body out)
      body_by a act action is low may None out e agree = absurd agree
      body_by a act action is low may (Some end) (Gives fired left) e agree =
          let state : IsActorState actor fired.state =
          subst (GivesOrTraps (λ f. IsActorState actor f.state)) e (gives actor y (kept_tokens actor u) a sound r.state (kept actor u sound) may) in
          let to : next actor x.at a ≡ Some fired.state.at = ap (λ s. next actor s a) r.at ∙ body_leads actor y (kept_tokens actor u) a act fired left is e in
          let stands : StandsFor actor numbers (record { at = lowered.next l x.at a; cells = take l.kept end.cells }) fired.state =
          record { state = state; at = next_same actor l x.at a fired.state.at has at_is low to; cells = agree.1 } in
          subst (λ o. EffectsAlike (StandsFor actor numbers) (lowered.effect_of_outcome l x a action o end.cells) (Some (Fires fired.state fired.sent))) (sym agree.0) (stands, agree.2)
      body_by a act action is low may (Some end) (Traps c) e agree =
          subst (λ o. EffectsAlike (StandsFor actor numbers) (lowered.effect_of_outcome l x a action o end.cells) (Some (TrapsInBody c))) (sym agree) refl
      body_by a act action is low may (Some end) Lacks e agree = absurd agree
      body_by a act action is low may (Some end) Clashes e agree = absurd agree

      body_alike : (a : ℕ) → a < length actor.actions → (eligible actor y.at a && has_its_tokens actor (kept_tokens actor u) a) ≡ true → readiness actor y (kept_tokens actor u) a ≡ AreTrue
          → EffectsAlike (StandsFor actor numbers) (lowered.effect_of_body l x (tokens_on u) a) (effect_of_body (body actor y (kept_tokens actor u) a))
      body_alike a low e enabled =
          let pair = paired actor l has a low in
          let ready = ready_of a pair.act pair.action pair.is pair.coded_is e in
          let agree : BodiesAgree numbers l pair.action (lowered.end_of l.code pair.action.fire (lowered.cells_of l x) (lowered.taken l (tokens_on u) a)) (body actor y (kept_tokens actor u) a) =
          subst (λ t. BodiesAgree numbers l pair.action (lowered.end_of l.code pair.action.fire (lowered.cells_of l x) t) (body actor y (kept_tokens actor u) a))
          (sym (taken_same a)) (bodies x y (kept_tokens actor u) a pair.act pair.action r ready enabled) in
          let here : lowered.effect_of_body l x (tokens_on u) a
          ≡ lowered.effect_of_end l x a pair.action (lowered.end_of l.code pair.action.fire (lowered.cells_of l x) (lowered.taken l (tokens_on u) a)) =
          ap (λ o. elim o [ None ↦ None | Some action ↦ lowered.effect_of_end l x a action (lowered.end_of l.code action.fire (lowered.cells_of l x) (lowered.taken l (tokens_on u) a)) ]) pair.coded_is in
          subst (λ f. EffectsAlike (StandsFor actor numbers) f (effect_of_body (body actor y (kept_tokens actor u) a))) (sym here)
          (body_by a pair.act pair.action pair.is low ready.may_fire (lowered.end_of l.code pair.action.fire (lowered.cells_of l x) (lowered.taken l (tokens_on u) a)) (body actor y (kept_tokens actor u) a) refl agree)

      said_alike : (a : ℕ) → a < length actor.actions → (eligible actor y.at a && has_its_tokens actor (kept_tokens actor u) a) ≡ true
          → (g : lowered.Guards) (h : Guards) → readiness actor y (kept_tokens actor u) a ≡ h → GuardsAgree g h
          → EffectsAlike (StandsFor actor numbers) (lowered.effect_of_exposed l x (tokens_on u) a g) (effect_of_exposed actor y (kept_tokens actor u) a h)
      said_alike a low e lowered.AreTrue AreTrue q k = body_alike a low e q
      said_alike a low e lowered.AreFalse AreFalse q k = tt
      said_alike a low e (lowered.AreTrapping c) (AreTrapping d) q k = k
      said_alike a low e lowered.AreTrue AreFalse q k = absurd k
      said_alike a low e lowered.AreTrue (AreTrapping d) q k = absurd k
      said_alike a low e lowered.AreFalse AreTrue q k = absurd k
      said_alike a low e lowered.AreFalse (AreTrapping d) q k = absurd k
      said_alike a low e (lowered.AreTrapping c) AreTrue q k = absurd k
      said_alike a low e (lowered.AreTrapping c) AreFalse q k = absurd k

      effect_alike : (a : ℕ) → EffectsAlike (StandsFor actor numbers) ((lowered.behaviour l).effect x u a) ((behaviour actor p).effect y u a)
      effect_alike a =
          subst (EffectsAlike (StandsFor actor numbers) (lowered.effect l x (tokens_on u) a)) (sym ((stores actor p y u r.state).0 a))
          (⊎_elim
          (λ (low : a < length actor.actions).
          alike_if (StandsFor actor numbers) (lowered.is_state l x && lowered.is_exposed l x (tokens_on u) a) (is_exposed actor p y (kept_tokens actor u) a) _ _ (exposed_same a low) (λ e.
          said_alike a low (two_true (eligible actor y.at a && has_its_tokens actor (kept_tokens actor u) a) _ e).0
          (lowered.readiness l x (tokens_on u) a) (readiness actor y (kept_tokens actor u) a) refl (ready_alike a)))
          (λ (high : length actor.actions ≤ a).
          none_alike (StandsFor actor numbers) (lowered.is_state l x && lowered.is_exposed l x (tokens_on u) a) (is_exposed actor p y (kept_tokens actor u) a) _ _
          (ap (lowered.effect_of_exposed l x (tokens_on u) a) (past actor l has a lowered.AreFalse _ high))
          (ap (effect_of_exposed actor y (kept_tokens actor u) a) (ready-past actor y (kept_tokens actor u) a high)))
          (cases_lt a (length actor.actions)))

    pub behaves : StartIsState → BehaveAlike (StandsFor actor numbers) (MayCome actor) (lowered.behaviour l) (behaviour actor p)
    behaves starts = record {
      starts = record { state = starts actor sound; at = has.start; cells = holds.first };
      same_ins = has.ins;
      same_need = need_same actor l has sound;
      same_give = give_same actor l has sound;
      same_choice = λ x y u r come. choice_same x y u r come;
      same_effect = λ x y u a r come. effect_alike x y u r come a;
    }
