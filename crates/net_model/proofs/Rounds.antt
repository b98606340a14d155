-- Paced lines play, and at most one list of lines is paced.
use Rattle.std.proofs.Common.{◌≡◌, ℕ, suc, ◌+◌, ◌-◌, ◌<◌, ◌≤◌, Bool, true, false, List, [], ◌∷◌, ◌++◌, length, map, refl, sym, ap, ◌∙◌, subst, ⊎_elim, arith, append_assoc, append-nil}
use Rattle.std.specs.Prelude.{Option, None, Some, min, ◌*◌, if◌then◌else◌, MatchBool, flat_map, ◌==◌, ◌&&◌}
use Rattle.rvc_base.specs.declared.trap.Trap.{Trap as TrapName}
use Rattle.rvc_base.specs.Behaviour.{Effect, Choice, TrapsInBody, Waits, Picks, Faults}
use Rattle.trace_text.specs.declared.line.Line.{Line}
use Rattle.trace_text.specs.declared.line.Line.TheVariants.{Fire as FireLine, Grow as GrowLine, Quiet, Trap as TrapLine, Stall, Budget}
use Rattle.net_model.specs.Network.{Network}
use Rattle.net_model.specs.State.{State, effect_at, choice_at, capacity_at}
use Rattle.net_model.specs.Event.{Fire, fire, happens, and_then}
use Rattle.net_model.specs.Ends.{IsStuck, Grows}
use Rattle.net_model.specs.Trace.{goes, played, after_delivery, LineIsTrue, OnNext, PlaysFrom}
use Rattle.net_model.specs.Stable.{IsPrefix}
use Rattle.net_model.specs.Laws.{AreLawful}
use Rattle.net_model.specs.Paced.{Pace, Moment, first_moment, Close, GoesOn, Widens, Ends, Block, fire_lines, close_lines, lines_of, count_of, picked, HasRoomIn, PassesLink, Halt, Unpicked, Spent, Waiting, NoRoom, Trapping, TrapsIn, HaltsAt, IsBurst, Share, share_of, AreBursts, first_trap, ClosesSpent, ClosesIdle, ClosesBy, Closes, count_picked, IsRound, next_moment, EndsRun, AreRounds, IsBegun, IsPaced}
use Rattle.net_model.proofs.Ending.{stalls_in_one_place, stalled_is_not_quiet}

-- Playing: whatever lines play from where a part leads, the part's lines and those play.

next_maps : {X : Type 0} (o : Option (State X)) (P Q : State X → Type 0) → ((u : State X) → P u → Q u) → OnNext o P → OnNext o Q
next_maps None P Q f h = h
next_maps (Some u) P Q f h = f u h

burst_plays : {X : Type 0} (net : Network X) (grow : ℕ) (opened : State X) (i limit : ℕ) (s : State X) (actions : List ℕ) (halt : Halt) (last : State X)
    → IsBurst net opened i limit s actions halt last → (after : List Line) (t : State X) → PlaysFrom net grow last after t
    → PlaysFrom net grow s (map (FireLine i) actions ++ after) t
burst_plays net grow opened i limit s [] halt last burst after t h = subst (λ w. PlaysFrom net grow w after t) (sym burst.1) h
burst_plays net grow opened i limit s (a ∷ actions) halt last burst after t h = (
  tt,
  next_maps (happens net s (Fire i a)) _ _
      (λ u rest. burst_plays net grow opened i (limit - 1) u actions halt last rest after t h) burst.3,
)

bursts_play : {X : Type 0} (net : Network X) (grow : ℕ) (opened : State X) (share : Share) (marks : List Bool) (i k fired : ℕ) (s : State X)
    (bursts : List (List ℕ)) (halts : List Halt) (last : State X) → AreBursts net opened share marks i k fired s bursts halts last
    → (after : List Line) (t : State X) → PlaysFrom net grow last after t → PlaysFrom net grow s (fire_lines i bursts ++ after) t
bursts_play net grow opened share [] i k fired s [] [] last are after t h = subst (λ w. PlaysFrom net grow w after t) (sym are) h
bursts_play net grow opened share (true ∷ marks) i k fired s (actions ∷ bursts) (halt ∷ halts) last are after t h =
    subst (λ ls. PlaysFrom net grow s ls t) (sym (append_assoc (map (FireLine i) actions) (fire_lines (suc i) bursts) after))
    (burst_plays net grow opened i _ s actions halt are.0 are.1 (fire_lines (suc i) bursts ++ after) t
    (bursts_play net grow opened share marks (suc i) (suc k) (fired + length actions) are.0 bursts halts last are.2 after t h))
bursts_play net grow opened share (false ∷ marks) i k fired s (actions ∷ bursts) (halt ∷ halts) last are after t h =
    subst (λ ns. PlaysFrom net grow s ((map (FireLine i) ns ++ fire_lines (suc i) bursts) ++ after) t) (sym are.0)
    (bursts_play net grow opened share marks (suc i) k fired s bursts halts last are.2 after t h)
bursts_play net grow opened share marks i k fired s bursts halts last are after t h = absurd are

-- what a closing line says is true
abbrev pub CloseIsTrue : {X : Type 0} → Network X → ℕ → State X → Close → Type 0
CloseIsTrue net grow s GoesOn = Unit {0}
CloseIsTrue net grow s (Widens l capacity) = Grows net grow s l capacity
CloseIsTrue net grow s (Ends line) = LineIsTrue net grow s line []

spent_true : {X : Type 0} (net : Network X) (grow : ℕ) (s : State X) (close : Close) → ClosesSpent net grow s close → CloseIsTrue net grow s close
spent_true net grow s (Ends Quiet) h = (h, refl)
spent_true net grow s (Ends (Stall i a l)) h = (h, refl)
spent_true net grow s (Ends Budget) h = (h, refl)
spent_true net grow s close h = absurd h

idle_true : {X : Type 0} (net : Network X) (grow : ℕ) (s : State X) (close : Close) → ClosesIdle net grow s close → CloseIsTrue net grow s close
idle_true net grow s (Ends Quiet) h = (h, refl)
idle_true net grow s (Ends (Stall i a l)) h = (h, refl)
idle_true net grow s (Widens l capacity) h = h
idle_true net grow s close h = absurd h

goes_on_true : {X : Type 0} (net : Network X) (grow : ℕ) (s : State X) (close : Close) → close ≡ GoesOn → CloseIsTrue net grow s close
goes_on_true net grow s close h = subst (CloseIsTrue net grow s) (sym h) tt

pub either : (b : Bool) (P Q R : Type 0) → (P → R) → (Q → R) → MatchBool b P Q → R
either true P Q R p q h = p h
either false P Q R p q h = q h

pub record IsTrapLine (line : Line) : Type 0 where
  pub i : ℕ
  pub a : ℕ
  pub cause : TrapName
  pub is : line ≡ TrapLine i a cause

pub trap_first : (i : ℕ) (halts : List Halt) (line : Line) → first_trap i halts ≡ Some line → IsTrapLine line
trap_first i [] line h = cc
trap_first i (Trapping a cause ∷ halts) line h = record { i = i; a = a; cause = cause; is = (let same : TrapLine i a cause ≡ line = cc in sym same) }
trap_first i (Unpicked ∷ halts) line h = trap_first (suc i) halts line h
trap_first i (Spent ∷ halts) line h = trap_first (suc i) halts line h
trap_first i (Waiting ∷ halts) line h = trap_first (suc i) halts line h
trap_first i (NoRoom ∷ halts) line h = trap_first (suc i) halts line h

by_true : {X : Type 0} (net : Network X) (grow : ℕ) (marks : List Bool) (bursts : List (List ℕ)) (halts : List Halt) (trap : Option Line) (s : State X) (close : Close)
    → first_trap 0 halts ≡ trap → ClosesBy net grow marks bursts trap s close → CloseIsTrue net grow s close
by_true net grow marks bursts halts (Some line) s close is h =
    let trap : IsTrapLine line = trap_first 0 halts line is in
    subst (CloseIsTrue net grow s) (sym (h ∙ ap Ends trap.is)) refl
by_true net grow marks bursts halts None s close is h =
    either ((count_picked marks == length marks) && (count_of bursts == 0)) _ _ _ (idle_true net grow s close) (goes_on_true net grow s close) h

pub closes_true : {X : Type 0} (net : Network X) (pace : Pace) (at : Moment X) (block : Block) (halts : List Halt) (s : State X)
    → Closes net pace at block halts s → CloseIsTrue net pace.grow s block.close
closes_true net pace at block halts s h =
    either (at.left == 0) _ _ _ (spent_true net pace.grow s block.close)
    (by_true net pace.grow (picked net pace at) block.bursts halts (first_trap 0 halts) s block.close refl) h

next_of : {X : Type 0} (o : Option (State X)) (last : State X) (P : State X → Type 0) → and_then o (λ u. Some u) ≡ Some last → P last → OnNext o P
next_of None last P h p = cc
next_of (Some u) last P h p = let same : u ≡ last = cc in subst P (sym same) p

close_plays : {X : Type 0} (net : Network X) (grow : ℕ) (s : State X) (close : Close) (last : State X) → CloseIsTrue net grow s close
    → played net s (close_lines close) ≡ Some last → (after : List Line) (t : State X) → (EndsRun close → after ≡ [])
    → PlaysFrom net grow last after t → PlaysFrom net grow s (close_lines close ++ after) t
close_plays net grow s GoesOn last holds leads after t none h =
    let same : s ≡ last = cc in subst (λ w. PlaysFrom net grow w after t) (sym same) h
close_plays net grow s (Widens l capacity) last holds leads after t none h =
    (holds, next_of (goes net s (GrowLine l capacity)) last (λ u. PlaysFrom net grow u after t) leads h)
close_plays net grow s (Ends line) last holds leads after t none h = (
  subst (LineIsTrue net grow s line) (sym (none tt)) holds,
  next_of (goes net s line) last (λ u. PlaysFrom net grow u after t) leads h,
)

pub delivers : {X : Type 0} (net : Network X) (s : State X) (P : State X → Type 0) → s.trapped ≡ false → P (after_delivery net s)
    → OnNext (if s.trapped then None else Some (after_delivery net s)) P
delivers net s P untrapped p = subst (λ b. OnNext (if b then None else Some (after_delivery net s)) P) (sym untrapped) p

pub round_plays : {X : Type 0} (net : Network X) (pace : Pace) (at : Moment X) (block : Block) (last : State X) → IsRound net pace at block last
    → (after : List Line) (t : State X) → (EndsRun block.close → after ≡ []) → PlaysFrom net pace.grow last after t
    → PlaysFrom net pace.grow at.state (lines_of block ++ after) t
round_plays net pace at block last round after t none h = (
  tt,
  delivers net at.state _ round.untrapped
      (subst (λ ls. PlaysFrom net pace.grow (after_delivery net at.state) ls t)
      (sym (append_assoc (fire_lines 0 block.bursts) (close_lines block.close) after))
      (bursts_play net pace.grow (after_delivery net at.state) (share_of net pace at) (picked net pace at) 0 0 0 (after_delivery net at.state)
      block.bursts round.halts round.fired round.bursts (close_lines block.close ++ after) t
      (close_plays net pace.grow round.fired block.close last (closes_true net pace at block round.halts round.fired round.closes) round.leads after t none h))),
)

rounds_play : {X : Type 0} (net : Network X) (pace : Pace) (at : Moment X) (blocks : List Block) (reached : Moment X) → AreRounds net pace at blocks reached
    → (after : List Line) (t : State X) → PlaysFrom net pace.grow reached.state after t
    → PlaysFrom net pace.grow at.state (flat_map lines_of blocks ++ after) t
rounds_play net pace at [] reached same after t h = subst (λ w. PlaysFrom net pace.grow w.state after t) (sym same) h
rounds_play net pace at (block ∷ blocks) reached are after t h =
    subst (λ ls. PlaysFrom net pace.grow at.state ls t) (sym (append_assoc (lines_of block) (flat_map lines_of blocks) after))
    (round_plays net pace at block are.0 are.1 (flat_map lines_of blocks ++ after) t (λ ends. absurd (are.2 ends))
    (rounds_play net pace (next_moment at block are.0) blocks reached are.3 after t h))

pub begun_play : {X : Type 0} (net : Network X) (pace : Pace) (s : State X) (lines : List Line) (reached : Moment X)
    → IsBegun net pace s lines reached → PlaysFrom net pace.grow s lines reached.state
begun_play net pace s lines reached begun =
    subst (λ ls. PlaysFrom net pace.grow s ls reached.state) (append-nil (flat_map lines_of begun.blocks) ∙ sym begun.lines_are)
    (rounds_play net pace (first_moment pace s) begun.blocks reached begun.rounds [] reached.state refl)

pub paced_play : {X : Type 0} (net : Network X) (pace : Pace) (s : State X) (lines : List Line) (last : State X)
    → IsPaced net pace s lines last → PlaysFrom net pace.grow s lines last
paced_play net pace s lines last paced =
    subst (λ ls. PlaysFrom net pace.grow s ls last) (sym paced.lines_are)
    (rounds_play net pace (first_moment pace s) paced.blocks paced.reached paced.rounds (lines_of paced.final) last
    (subst (λ ls. PlaysFrom net pace.grow paced.reached.state ls last) (append-nil (lines_of paced.final))
    (round_plays net pace paced.reached paced.final last paced.ending [] last (λ ends. refl) refl)))

-- At most one: each part is determined.

-- what fires has an effect that sends
fires_there : {X : Type 0} (net : Network X) (s : State X) (i a : ℕ) (P : State X → Type 0) (cause : TrapName)
    → effect_at net s i a ≡ Some (TrapsInBody cause) → OnNext (happens net s (Fire i a)) P → ⊥
fires_there net s i a P cause traps h = of_mark s.trapped (subst (λ e. OnNext (if s.trapped then None else fire net s i a e) P) traps h)
  where
    of_mark : (b : Bool) → OnNext (if b then None else fire net s i a (Some (TrapsInBody cause))) P → ⊥
    of_mark true w = w
    of_mark false w = w

picks_same : (c : Choice) (a b : ℕ) → c ≡ Picks a → c ≡ Picks b → a ≡ b
picks_same c a b p q = cc

no_both : {P : Type 0} (c d e : Choice) → c ≡ d → c ≡ e → (d ≡ e → ⊥) → P
no_both c d e p q differ = absurd (differ (sym p ∙ q))

waits_picks : (a : ℕ) → Waits ≡ Picks a → ⊥
waits_picks a h = cc

waits_faults : (a : ℕ) (cause : TrapName) → Waits ≡ Faults a cause → ⊥
waits_faults a cause h = cc

picks_faults : (a b : ℕ) (cause : TrapName) → Picks a ≡ Faults b cause → ⊥
picks_faults a b cause h = cc

faults_same : (c : Choice) (a b : ℕ) (cause other : TrapName) → c ≡ Faults a cause → c ≡ Faults b other → Trapping a cause ≡ Trapping b other
faults_same c a b cause other p q = let same : Faults a cause ≡ Faults b other = sym p ∙ q in cc

body_same : {X : Type 0} (e : Option (Effect X)) (cause other : TrapName) → e ≡ Some (TrapsInBody cause) → e ≡ Some (TrapsInBody other) → cause ≡ other
body_same e cause other p q = cc

-- a leaf that may still fire halts by its choice
module _ {X : Type 0} (net : Network X) (opened : State X) (i : ℕ) (s : State X) where
  traps_waits : (a : ℕ) (cause : TrapName) → choice_at net s i ≡ Waits → TrapsIn net opened s i a cause → ⊥
  traps_waits a cause waits traps = ⊎_elim
      (λ faults. no_both (choice_at net s i) Waits (Faults a cause) waits faults (waits_faults a cause))
      (λ body. no_both (choice_at net s i) Waits (Picks a) waits body.0 (waits_picks a)) traps

  traps_no_room : (a b l : ℕ) (cause : TrapName) → choice_at net s i ≡ Picks b → PassesLink net opened s i b l → TrapsIn net opened s i a cause → ⊥
  traps_no_room a b l cause picks passes traps = ⊎_elim
      (λ faults. no_both (choice_at net s i) (Picks b) (Faults a cause) picks faults (picks_faults b a cause))
      (λ body. let same : b ≡ a = picks_same (choice_at net s i) b a picks body.0 in
      body.1 l (subst (λ n. PassesLink net opened s i n l) same passes)) traps

  traps_same : (a b : ℕ) (cause other : TrapName) → TrapsIn net opened s i a cause → TrapsIn net opened s i b other → Trapping a cause ≡ Trapping b other
  traps_same a b cause other p q = ⊎_elim
      (λ faults. ⊎_elim
      (λ faults'. faults_same (choice_at net s i) a b cause other faults faults')
      (λ body'. no_both (choice_at net s i) (Picks b) (Faults a cause) body'.0 faults (picks_faults b a cause)) q)
      (λ body. ⊎_elim
      (λ faults'. no_both (choice_at net s i) (Picks a) (Faults b other) body.0 faults' (picks_faults a b other))
      (λ body'. let same : a ≡ b = picks_same (choice_at net s i) a b body.0 body'.0 in
      let same_cause : cause ≡ other = body_same (effect_at net s i a) cause other body.2 (subst (λ n. effect_at net s i n ≡ Some (TrapsInBody other)) (sym same) body'.2) in
      rw (same, same_cause)) q) p

  halts_same : (limit : ℕ) (halt other : Halt) → HaltsAt net opened i limit s halt → HaltsAt net opened i limit s other → halt ≡ other
  halts_same limit Unpicked other p q = absurd p
  halts_same limit halt Unpicked p q = absurd q
  halts_same limit Spent Spent p q = refl
  halts_same limit Spent Waiting p q = absurd (omega (arith, q.0))
  halts_same limit Spent NoRoom p q = absurd (omega (arith, q.0))
  halts_same limit Spent (Trapping b other) p q = absurd (omega (arith, q.0))
  halts_same limit Waiting Spent p q = absurd (omega (arith, p.0))
  halts_same limit Waiting Waiting p q = refl
  halts_same limit Waiting NoRoom p q = no_both (choice_at net s i) Waits (Picks q.1.0) p.1 q.1.2 (waits_picks q.1.0)
  halts_same limit Waiting (Trapping b other) p q = absurd (traps_waits b other p.1 q.1)
  halts_same limit NoRoom Spent p q = absurd (omega (arith, p.0))
  halts_same limit NoRoom Waiting p q = no_both (choice_at net s i) Waits (Picks p.1.0) q.1 p.1.2 (waits_picks p.1.0)
  halts_same limit NoRoom NoRoom p q = refl
  halts_same limit NoRoom (Trapping b other) p q = absurd (traps_no_room b p.1.0 p.1.1 other p.1.2 p.1.3 q.1)
  halts_same limit (Trapping a cause) Spent p q = absurd (omega (arith, p.0))
  halts_same limit (Trapping a cause) Waiting p q = absurd (traps_waits a cause q.1 p.1)
  halts_same limit (Trapping a cause) NoRoom p q = absurd (traps_no_room a q.1.0 q.1.1 cause q.1.2 q.1.3 p.1)
  halts_same limit (Trapping a cause) (Trapping b other) p q = traps_same a b cause other p.1 q.1

  -- and doesn't halt if it fires
  halts_or_fires : (limit a : ℕ) (halt : Halt) (P : State X → Type 0) → HaltsAt net opened i limit s halt → 0 < limit → choice_at net s i ≡ Picks a
      → HasRoomIn net opened s i a → OnNext (happens net s (Fire i a)) P → ⊥
  halts_or_fires limit a Unpicked P h some picks room fires = h
  halts_or_fires limit a Spent P h some picks room fires = omega (arith, h)
  halts_or_fires limit a Waiting P h some picks room fires = no_both (choice_at net s i) Waits (Picks a) h.1 picks (waits_picks a)
  halts_or_fires limit a NoRoom P h some picks room fires =
      let same : h.1.0 ≡ a = picks_same (choice_at net s i) h.1.0 a h.1.2 picks in
      room h.1.1 (subst (λ n. PassesLink net opened s i n h.1.1) same h.1.3)
  halts_or_fires limit a (Trapping b cause) P h some picks room fires = ⊎_elim
      (λ faults. no_both (choice_at net s i) (Picks a) (Faults b cause) picks faults (picks_faults a b cause))
      (λ body. let same : b ≡ a = picks_same (choice_at net s i) b a body.0 picks in
      fires_there net s i a P cause (subst (λ n. effect_at net s i n ≡ Some (TrapsInBody cause)) same body.2) fires) h.1

pub record SameBurst {X : Type 0} (actions others : List ℕ) (halt other : Halt) (last that : State X) : Type 0 where
  pub actions_are : actions ≡ others
  pub halt_is : halt ≡ other
  pub last_is : last ≡ that

both_next : {X : Type 0} {R : Type 0} (o : Option (State X)) (P Q : State X → Type 0) → ((u : State X) → P u → Q u → R) → OnNext o P → OnNext o Q → R
both_next None P Q f p q = absurd p
both_next (Some u) P Q f p q = f u p q

burst_one : {X : Type 0} (net : Network X) (opened : State X) (i limit : ℕ) (s : State X) (actions others : List ℕ) (halt other : Halt) (last that : State X)
    → IsBurst net opened i limit s actions halt last → IsBurst net opened i limit s others other that → SameBurst actions others halt other last that
burst_one net opened i limit s [] [] halt other last that p q = record {
  actions_are = refl;
  halt_is = halts_same net opened i s limit halt other p.0 q.0;
  last_is = sym p.1 ∙ q.1;
}
burst_one net opened i limit s [] (b ∷ others) halt other last that p q =
    absurd (halts_or_fires net opened i s limit b halt _ p.0 q.0 q.1 q.2 q.3)
burst_one net opened i limit s (a ∷ actions) [] halt other last that p q =
    absurd (halts_or_fires net opened i s limit a other _ q.0 p.0 p.1 p.2 p.3)
burst_one {X} net opened i limit s (a ∷ actions) (b ∷ others) halt other last that p q =
    let same : a ≡ b = picks_same (choice_at net s i) a b p.1 q.1 in
    let rest : SameBurst actions others halt other last that =
    both_next (happens net s (Fire i a)) _ _
    (λ u one two. burst_one net opened i (limit - 1) u actions others halt other last that one two) p.3
    (subst (λ n. OnNext (happens net s (Fire i n)) (λ u. IsBurst net opened i (limit - 1) u others other that)) (sym same) q.3) in
    record { actions_are = rw (same, rest.actions_are); halt_is = rest.halt_is; last_is = rest.last_is }

pub record SameBursts {X : Type 0} (bursts others : List (List ℕ)) (halts thoses : List Halt) (last that : State X) : Type 0 where
  pub bursts_are : bursts ≡ others
  pub halts_are : halts ≡ thoses
  pub last_is : last ≡ that

bursts_one : {X : Type 0} (net : Network X) (opened : State X) (share : Share) (marks : List Bool) (i k fired : ℕ) (s : State X)
    (bursts others : List (List ℕ)) (halts thoses : List Halt) (last that : State X)
    → AreBursts net opened share marks i k fired s bursts halts last → AreBursts net opened share marks i k fired s others thoses that
    → SameBursts bursts others halts thoses last that
bursts_one net opened share [] i k fired s [] [] [] [] last that p q = record { bursts_are = refl; halts_are = refl; last_is = sym p ∙ q }
bursts_one net opened share (true ∷ marks) i k fired s (actions ∷ bursts) (acts ∷ others) (halt ∷ halts) (halt' ∷ thoses) last that p q =
    let one = burst_one net opened i _ s actions acts halt halt' p.0 q.0 p.1 q.1 in
    let rest = bursts_one net opened share marks (suc i) (suc k) (fired + length actions) p.0 bursts others halts thoses last that p.2
    (subst (λ w. AreBursts net opened share marks (suc i) (suc k) (fired + length actions) w others thoses that) (sym one.last_is)
    (subst (λ ns. AreBursts net opened share marks (suc i) (suc k) (fired + length ns) q.0 others thoses that) (sym one.actions_are) q.2)) in
    record { bursts_are = rw (one.actions_are, rest.bursts_are); halts_are = rw (one.halt_is, rest.halts_are); last_is = rest.last_is }
bursts_one net opened share (false ∷ marks) i k fired s (actions ∷ bursts) (acts ∷ others) (halt ∷ halts) (halt' ∷ thoses) last that p q =
    let rest = bursts_one net opened share marks (suc i) k fired s bursts others halts thoses last that p.2 q.2 in
    record { bursts_are = rw (p.0, q.0, rest.bursts_are); halts_are = rw (p.1, q.1, rest.halts_are); last_is = rest.last_is }
bursts_one net opened share [] i k fired s [] (acts ∷ others) [] thoses last that p q = absurd q
bursts_one net opened share [] i k fired s [] [] [] (halt' ∷ thoses) last that p q = absurd q
bursts_one net opened share [] i k fired s [] [] (halt ∷ halts) thoses last that p q = absurd p
bursts_one net opened share [] i k fired s [] (acts ∷ others) (halt ∷ halts) thoses last that p q = absurd p
bursts_one net opened share [] i k fired s (actions ∷ bursts) others halts thoses last that p q = absurd p
bursts_one net opened share (true ∷ marks) i k fired s [] others halts thoses last that p q = absurd p
bursts_one net opened share (true ∷ marks) i k fired s (actions ∷ bursts) others [] thoses last that p q = absurd p
bursts_one net opened share (true ∷ marks) i k fired s (actions ∷ bursts) [] (halt ∷ halts) thoses last that p q = absurd q
bursts_one net opened share (true ∷ marks) i k fired s (actions ∷ bursts) (acts ∷ others) (halt ∷ halts) [] last that p q = absurd q
bursts_one net opened share (false ∷ marks) i k fired s [] others halts thoses last that p q = absurd p
bursts_one net opened share (false ∷ marks) i k fired s (actions ∷ bursts) others [] thoses last that p q = absurd p
bursts_one net opened share (false ∷ marks) i k fired s (actions ∷ bursts) [] (halt ∷ halts) thoses last that p q = absurd q
bursts_one net opened share (false ∷ marks) i k fired s (actions ∷ bursts) (acts ∷ others) (halt ∷ halts) [] last that p q = absurd q

-- what closes a round is one
stuck_same : {X : Type 0} (net : Network X) (grow : ℕ) (s : State X) (i a l j b m : ℕ) → IsStuck net grow s i a l → IsStuck net grow s j b m
    → Ends (Stall i a l) ≡ Ends (Stall j b m)
stuck_same net grow s i a l j b m p q =
    let same = stalls_in_one_place net s i a l j b m p.stalled q.stalled in rw (same.0, same.1, same.2)

grows_same : {X : Type 0} (net : Network X) (grow : ℕ) (s : State X) (l c m d : ℕ) → Grows net grow s l c → Grows net grow s m d
    → Widens l c ≡ Widens m d
grows_same net grow s l c m d p q =
    let same : l ≡ m = (stalls_in_one_place net s p.leaf p.action l q.leaf q.action m p.stalled q.stalled).2 in
    let same_capacity : c ≡ d = p.doubled ∙ (ap (λ n. min (2 * capacity_at s n) grow) same ∙ sym q.doubled) in
    rw (same, same_capacity)

stuck_or_grows : {X : Type 0} (net : Network X) (grow : ℕ) (s : State X) (i a l m d : ℕ) → IsStuck net grow s i a l → Grows net grow s m d → ⊥
stuck_or_grows net grow s i a l m d p q =
    let same : l ≡ m = (stalls_in_one_place net s i a l q.leaf q.action m p.stalled q.stalled).2 in
    let high : grow ≤ capacity_at s m = subst (λ n. grow ≤ capacity_at s n) same p.grown in
    omega (arith, q.below)

idle_one : {X : Type 0} (net : Network X) (grow : ℕ) (s : State X) (close other : Close) → AreLawful net → ClosesIdle net grow s close → ClosesIdle net grow s other
    → close ≡ other
idle_one net grow s (Ends Quiet) (Ends Quiet) lawful p q = refl
idle_one net grow s (Ends Quiet) (Ends (Stall j b m)) lawful p q = absurd (stalled_is_not_quiet net s j b m lawful q.stalled p)
idle_one net grow s (Ends Quiet) (Widens m d) lawful p q = absurd (stalled_is_not_quiet net s q.leaf q.action m lawful q.stalled p)
idle_one net grow s (Ends (Stall i a l)) (Ends Quiet) lawful p q = absurd (stalled_is_not_quiet net s i a l lawful p.stalled q)
idle_one net grow s (Ends (Stall i a l)) (Ends (Stall j b m)) lawful p q = stuck_same net grow s i a l j b m p q
idle_one net grow s (Ends (Stall i a l)) (Widens m d) lawful p q = absurd (stuck_or_grows net grow s i a l m d p q)
idle_one net grow s (Widens l c) (Ends Quiet) lawful p q = absurd (stalled_is_not_quiet net s p.leaf p.action l lawful p.stalled q)
idle_one net grow s (Widens l c) (Ends (Stall j b m)) lawful p q = absurd (stuck_or_grows net grow s j b m l c q p)
idle_one net grow s (Widens l c) (Widens m d) lawful p q = grows_same net grow s l c m d p q
idle_one net grow s (Ends Quiet) other lawful p q = absurd q
idle_one net grow s (Ends (Stall i a l)) other lawful p q = absurd q
idle_one net grow s (Widens l c) other lawful p q = absurd q
idle_one net grow s close other lawful p q = absurd p

spent_one : {X : Type 0} (net : Network X) (grow : ℕ) (s : State X) (close other : Close) → AreLawful net → ClosesSpent net grow s close → ClosesSpent net grow s other
    → close ≡ other
spent_one net grow s (Ends Quiet) (Ends Quiet) lawful p q = refl
spent_one net grow s (Ends Quiet) (Ends (Stall j b m)) lawful p q = absurd (stalled_is_not_quiet net s j b m lawful q.stalled p)
spent_one net grow s (Ends Quiet) (Ends Budget) lawful p q = absurd (q.not_quiet p)
spent_one net grow s (Ends (Stall i a l)) (Ends Quiet) lawful p q = absurd (stalled_is_not_quiet net s i a l lawful p.stalled q)
spent_one net grow s (Ends (Stall i a l)) (Ends (Stall j b m)) lawful p q = stuck_same net grow s i a l j b m p q
spent_one net grow s (Ends (Stall i a l)) (Ends Budget) lawful p q = absurd (q.not_stuck i a l p)
spent_one net grow s (Ends Budget) (Ends Quiet) lawful p q = absurd (p.not_quiet q)
spent_one net grow s (Ends Budget) (Ends (Stall j b m)) lawful p q = absurd (p.not_stuck j b m q)
spent_one net grow s (Ends Budget) (Ends Budget) lawful p q = refl
spent_one net grow s (Ends Quiet) other lawful p q = absurd q
spent_one net grow s (Ends (Stall i a l)) other lawful p q = absurd q
spent_one net grow s (Ends Budget) other lawful p q = absurd q
spent_one net grow s close other lawful p q = absurd p

either_two : (b : Bool) (P Q P' Q' R : Type 0) → (P → P' → R) → (Q → Q' → R) → MatchBool b P Q → MatchBool b P' Q' → R
either_two true P Q P' Q' R f g p q = f p q
either_two false P Q P' Q' R f g p q = g p q

by_one : {X : Type 0} (net : Network X) (grow : ℕ) (marks : List Bool) (bursts : List (List ℕ)) (trap : Option Line) (s : State X) (close other : Close)
    → AreLawful net → ClosesBy net grow marks bursts trap s close → ClosesBy net grow marks bursts trap s other → close ≡ other
by_one net grow marks bursts (Some line) s close other lawful p q = p ∙ sym q
by_one net grow marks bursts None s close other lawful p q =
    either_two ((count_picked marks == length marks) && (count_of bursts == 0)) _ _ _ _ _
    (idle_one net grow s close other lawful) (λ one two. one ∙ sym two) p q

pub record SameRound {X : Type 0} (block other : Block) (last that : State X) : Type 0 where
  pub block_is : block ≡ other
  pub last_is : last ≡ that

-- a round is determined by where the run stands
pub round_one : {X : Type 0} (net : Network X) (pace : Pace) (at : Moment X) (block other : Block) (last that : State X) → AreLawful net
    → IsRound net pace at block last → IsRound net pace at other that → SameRound block other last that
round_one net pace at block other last that lawful p q =
    let same = bursts_one net (after_delivery net at.state) (share_of net pace at) (picked net pace at) 0 0 0 (after_delivery net at.state)
    block.bursts other.bursts p.halts q.halts p.fired q.fired p.bursts q.bursts in
    let closes : Closes net pace at (record { bursts = block.bursts; close = other.close }) p.halts p.fired =
    subst (λ w. Closes net pace at (record { bursts = block.bursts; close = other.close }) p.halts w) (sym same.last_is)
    (subst (λ hs. Closes net pace at (record { bursts = block.bursts; close = other.close }) hs q.fired) (sym same.halts_are)
    (subst (λ bs. Closes net pace at (record { bursts = bs; close = other.close }) q.halts q.fired) (sym same.bursts_are) q.closes)) in
    let close : block.close ≡ other.close =
    either_two (at.left == 0) _ _ _ _ _ (spent_one net pace.grow p.fired block.close other.close lawful)
    (by_one net pace.grow (picked net pace at) block.bursts (first_trap 0 p.halts) p.fired block.close other.close lawful) p.closes closes in
    let leads : played net p.fired (close_lines block.close) ≡ Some that =
    ap (λ w. played net w (close_lines block.close)) same.last_is ∙ (ap (λ c. played net q.fired (close_lines c)) close ∙ q.leads) in
    record {
      block_is = rw (same.bursts_are, close);
      last_is = (let one : Some last ≡ Some that = sym p.leads ∙ leads in cc);
    }

-- rounds that don't end the run, and one that does, are the same rounds
paced_from : {X : Type 0} (net : Network X) (pace : Pace) (at reached those : Moment X) (blocks others : List Block) (final other : Block) (last that : State X)
    → AreLawful net → AreRounds net pace at blocks reached → IsRound net pace reached final last → EndsRun final.close
    → AreRounds net pace at others those → IsRound net pace those other that → EndsRun other.close
    → flat_map lines_of blocks ++ lines_of final ≡ flat_map lines_of others ++ lines_of other
paced_from net pace at reached those [] [] final other last that lawful p ending ends q ending' ends' =
    let one : IsRound net pace at final last = subst (λ m. IsRound net pace m final last) (sym p) ending in
    let two : IsRound net pace at other that = subst (λ m. IsRound net pace m other that) (sym q) ending' in
    ap lines_of (round_one net pace at final other last that lawful one two).block_is
paced_from net pace at reached those [] (b ∷ others) final other last that lawful p ending ends q ending' ends' =
    let one : IsRound net pace at final last = subst (λ m. IsRound net pace m final last) (sym p) ending in
    let same = round_one net pace at final b last q.0 lawful one q.1 in
    absurd (q.2 (subst (λ c. EndsRun c.close) same.block_is ends))
paced_from net pace at reached those (b ∷ blocks) [] final other last that lawful p ending ends q ending' ends' =
    let two : IsRound net pace at other that = subst (λ m. IsRound net pace m other that) (sym q) ending' in
    let same = round_one net pace at b other p.0 that lawful p.1 two in
    absurd (p.2 (subst (λ c. EndsRun c.close) (sym same.block_is) ends'))
paced_from net pace at reached those (b ∷ blocks) (c ∷ others) final other last that lawful p ending ends q ending' ends' =
    let same = round_one net pace at b c p.0 q.0 lawful p.1 q.1 in
    let rest = paced_from net pace (next_moment at b p.0) reached those blocks others final other last that lawful p.3 ending ends
    (subst (λ k. AreRounds net pace (next_moment at k p.0) others those) (sym same.block_is)
    (subst (λ w. AreRounds net pace (next_moment at c w) others those) (sym same.last_is) q.3)) ending' ends' in
    append_assoc (lines_of b) (flat_map lines_of blocks) (lines_of final)
    ∙ (ap (λ ls. lines_of b ++ ls) rest
    ∙ (ap (λ k. lines_of k ++ (flat_map lines_of others ++ lines_of other)) same.block_is
    ∙ sym (append_assoc (lines_of c) (flat_map lines_of others) (lines_of other))))

pub paced_are_one : {X : Type 0} (net : Network X) (pace : Pace) (s : State X) (lines those : List Line) (last other : State X) → AreLawful net
    → IsPaced net pace s lines last → IsPaced net pace s those other → lines ≡ those
paced_are_one net pace s lines those last other lawful p q =
    p.lines_are
    ∙ (paced_from net pace (first_moment pace s) p.reached q.reached p.blocks q.blocks p.final q.final last other lawful
    p.rounds p.ending p.ends q.rounds q.ending q.ends
    ∙ sym q.lines_are)

-- rounds that are begun are the first of those
begun_from : {X : Type 0} (net : Network X) (pace : Pace) (at reached those : Moment X) (blocks others : List Block) (final : Block) (last : State X)
    → AreLawful net → AreRounds net pace at blocks reached → AreRounds net pace at others those → IsRound net pace those final last → EndsRun final.close
    → IsPrefix (flat_map lines_of blocks) (flat_map lines_of others ++ lines_of final)
begun_from net pace at reached those [] others final last lawful p q ending ends = (flat_map lines_of others ++ lines_of final, refl)
begun_from net pace at reached those (b ∷ blocks) [] final last lawful p q ending ends =
    let two : IsRound net pace at final last = subst (λ m. IsRound net pace m final last) (sym q) ending in
    let same = round_one net pace at b final p.0 last lawful p.1 two in
    absurd (p.2 (subst (λ c. EndsRun c.close) (sym same.block_is) ends))
begun_from net pace at reached those (b ∷ blocks) (c ∷ others) final last lawful p q ending ends =
    let same = round_one net pace at b c p.0 q.0 lawful p.1 q.1 in
    let rest = begun_from net pace (next_moment at b p.0) reached those blocks others final last lawful p.3
    (subst (λ k. AreRounds net pace (next_moment at k p.0) others those) (sym same.block_is)
    (subst (λ w. AreRounds net pace (next_moment at c w) others those) (sym same.last_is) q.3)) ending ends in (
      rest.0,
      append_assoc (lines_of c) (flat_map lines_of others) (lines_of final)
          ∙ (ap (λ k. lines_of k ++ (flat_map lines_of others ++ lines_of final)) (sym same.block_is)
          ∙ (ap (λ ls. lines_of b ++ ls) rest.1 ∙ sym (append_assoc (lines_of b) (flat_map lines_of blocks) rest.0))),
    )

pub begun_begin_paced : {X : Type 0} (net : Network X) (pace : Pace) (s : State X) (lines those : List Line) (reached : Moment X) (last : State X)
    → AreLawful net → IsBegun net pace s lines reached → IsPaced net pace s those last → IsPrefix lines those
begun_begin_paced net pace s lines those reached last lawful p q =
    subst (λ ls. IsPrefix ls those) (sym p.lines_are)
    (subst (λ ls. IsPrefix (flat_map lines_of p.blocks) ls) (sym q.lines_are)
    (begun_from net pace (first_moment pace s) reached q.reached p.blocks q.blocks q.final last lawful p.rounds q.rounds q.ending q.ends))
