-- A trap that was found in a round may happen at its end.
use Rattle.std.proofs.Common.{◌≡◌, ◌≢◌, ℕ, suc, ◌+◌, ◌-◌, ◌<◌, ◌⊎◌, Bool, true, false, List, [], ◌∷◌, length, refl, sym, ap, subst, ◌∙◌, ⊎_elim, inl, inr, arith}
use Rattle.std.specs.Prelude.{Option, None, Some, slice_get, if◌then◌else◌, ◌==◌}
use Rattle.std.proofs.lemmas.Bool.{eq-eqb}
use Rattle.rvc_base.specs.declared.trap.Trap.{Trap as TrapName}
use Rattle.rvc_base.specs.Behaviour.{Effect, TrapsInGuard, TrapsInBody, Faults}
use Rattle.rvc_base.specs.Lawful.{IsLawful}
use Rattle.trace_text.specs.declared.line.Line.TheVariants.{Trap as TrapLine}
use Rattle.net_model.specs.Network.{Leaf, Network}
use Rattle.net_model.specs.State.{State, choice_at, choice_of, effect_at, effect_of, need_of}
use Rattle.net_model.specs.Event.{Fire, Trap, and_then, happens, number_of_trap, run, trap}
use Rattle.net_model.specs.Laws.{AreLawful, AreOrdered}
use Rattle.net_model.specs.Trace.{OnNext}
use Rattle.net_model.specs.Paced.{AreBursts, HaltsAt, Halt, IsBurst, Share, Spent, TrapsIn, Trapping, Unpicked, Waiting, NoRoom, count_of, first_trap, limit_of}
use Rattle.net_model.specs.Wired.{IsWired}
use Rattle.net_model.proofs.Bounds.{run_ordered}
use Rattle.net_model.proofs.Commuting.{Fired, effect_stays, fired_unless, get_other}

on_next : {X : Type 0} (o : Option (State X)) (Q : State X → Type 0) (R : Type 0) → OnNext o Q → ((next : State X) → o ≡ Some next → Q next → R) → R
on_next None Q R h f = absurd h
on_next (Some next) Q R h f = f next refl h

module _ {X : Type 0} (net : Network X) (wired : IsWired net) (lawful : AreLawful net) where
  -- what holds between firings
  pub record IsAlive (s : State X) : Type 0 where
    pub untrapped : s.trapped ≡ false
    pub ordered : AreOrdered s

  alive_next : (s u : State X) (i a : ℕ) → IsAlive s → happens net s (Fire i a) ≡ Some u → IsAlive u
  alive_next s u i a alive h =
      let one : Fired net s u i a = fired_unless net s u i a s.trapped refl h in
      let leads : run net s (Fire i a ∷ []) ≡ Some u = ap (λ o. and_then o (λ t. Some t)) h in
      record {
        untrapped = ap (λ w. w.trapped) (sym one.is) ∙ one.untrapped;
        ordered = run_ordered net (Fire i a ∷ []) s u wired lawful alive.ordered leads;
      }

  -- what firings of a leaf keep is kept by its burst
  burst_keeps : (P : State X → Type 0) (i : ℕ) → ((s u : State X) (a : ℕ) → P s → happens net s (Fire i a) ≡ Some u → P u) → (opened : State X) (limit : ℕ) (s : State X) (actions : List ℕ) (halt : Halt) (last : State X)
      → IsBurst net opened i limit s actions halt last → P s → P last
  burst_keeps P i keeps opened limit s [] halt last is p = subst P is.1 p
  burst_keeps P i keeps opened limit s (a ∷ actions) halt last is p =
      on_next (happens net s (Fire i a)) (λ next. IsBurst net opened i (limit - 1) next actions halt last) (P last) is.3
      (λ next same h. burst_keeps P i keeps opened (limit - 1) next actions halt last h (keeps s next a p same))

  -- why it halts
  burst_halts : (i : ℕ) (opened : State X) (limit : ℕ) (s : State X) (actions : List ℕ) (halt : Halt) (last : State X) → IsBurst net opened i limit s actions halt last
      → (n : ℕ) × HaltsAt net opened i n last halt
  burst_halts i opened limit s [] halt last is = (limit, subst (λ t. HaltsAt net opened i limit t halt) is.1 is.0)
  burst_halts i opened limit s (a ∷ actions) halt last is =
      on_next (happens net s (Fire i a)) (λ next. IsBurst net opened i (limit - 1) next actions halt last) ((n : ℕ) × HaltsAt net opened i n last halt) is.3
      (λ next same h. burst_halts i opened (limit - 1) next actions halt last h)

  same_cause : (cause : TrapName) → (number_of_trap cause == number_of_trap cause) ≡ true
  same_cause cause = eq-eqb (number_of_trap cause) (number_of_trap cause) refl

  -- a trap sets the mark
  abbrev pub TrapsTo : State X → ℕ → ℕ → TrapName → Type 0
  TrapsTo s i a cause = happens net s (Trap i a cause) ≡ Some (record s { trapped = true })

  traps_by : (s : State X) (i a : ℕ) (cause : TrapName) (e : Option (Effect X)) → s.trapped ≡ false → effect_at net s i a ≡ e → trap s cause e ≡ Some (record s { trapped = true }) → TrapsTo s i a cause
  traps_by s i a cause e untrapped is sets =
      subst (λ b. (if b then None else trap s cause (effect_at net s i a)) ≡ Some (record s { trapped = true })) (sym untrapped) (ap (trap s cause) is ∙ sets)

  sets_mark : (s : State X) (b : Bool) → b ≡ true → (if b then Some (record s { trapped = true }) else None) ≡ Some (record s { trapped = true })
  sets_mark s true is = refl
  sets_mark s false is = cc

  guard_effect : (s : State X) (i a : ℕ) (cause : TrapName) → choice_at net s i ≡ Faults a cause → effect_at net s i a ≡ Some (TrapsInGuard cause)
  guard_effect s i a cause h = by_options (slice_get net.leaves i) (slice_get s.actors i) (λ leaf is. lawful i leaf is) h
    where
      by_options : (o : Option (Leaf X)) (x : Option X) → ((leaf : Leaf X) → o ≡ Some leaf → IsLawful leaf.behaviour) → choice_of net.links s.flows i o x ≡ Faults a cause
          → effect_of net.links s.flows i a o x ≡ Some (TrapsInGuard cause)
      by_options None x law e = cc
      by_options (Some leaf) None law e = cc
      by_options (Some leaf) (Some x) law e = (law leaf refl).faults x _ a cause e

  -- an action traps: its guards do, or it is enabled and the rest of it does
  abbrev pub IsFoul : State X → ℕ → ℕ → TrapName → Type 0
  IsFoul s i a cause = (effect_at net s i a ≡ Some (TrapsInGuard cause)) ⊎ (effect_at net s i a ≡ Some (TrapsInBody cause))

  is_foul : (opened s : State X) (i a : ℕ) (cause : TrapName) → TrapsIn net opened s i a cause → IsFoul s i a cause
  is_foul opened s i a cause traps = ⊎_elim (λ faults. inl (guard_effect s i a cause faults)) (λ body. inr body.2) traps

  may_trap : (s : State X) (i a : ℕ) (cause : TrapName) → s.trapped ≡ false → IsFoul s i a cause → TrapsTo s i a cause
  may_trap s i a cause untrapped foul = ⊎_elim
      (λ guard. traps_by s i a cause (Some (TrapsInGuard cause)) untrapped guard (sets_mark s (number_of_trap cause == number_of_trap cause) (same_cause cause)))
      (λ body. traps_by s i a cause (Some (TrapsInBody cause)) untrapped body (sets_mark s (number_of_trap cause == number_of_trap cause) (same_cause cause)))
      foul

  -- a firing of another leaf changes nothing of it
  effect_outlasts : (s u : State X) (i a j b : ℕ) → AreOrdered s → i ≢ j → happens net s (Fire j b) ≡ Some u → effect_at net u i a ≡ effect_at net s i a
  effect_outlasts s u i a j b ordered differ h =
      let one : Fired net s u j b = fired_unless net s u j b s.trapped refl h in
      ap (λ w. effect_at net w i a) (sym one.is)
      ∙ (ap (effect_of net.links _ i a (slice_get net.leaves i)) (get_other s.actors i j one.to differ)
      ∙ effect_stays i j a (need_of (slice_get net.leaves j) b) one.sent differ net.links s.flows (λ l flow at. (ordered l flow at).1)
      (slice_get net.leaves i) (slice_get s.actors i))

  foul_outlasts : (s u : State X) (i a j b : ℕ) (cause : TrapName) → AreOrdered s → i ≢ j → IsFoul s i a cause → happens net s (Fire j b) ≡ Some u → IsFoul u i a cause
  foul_outlasts s u i a j b cause ordered differ foul h =
      let same = effect_outlasts s u i a j b ordered differ h in
      ⊎_elim (λ guard. inl (same ∙ guard)) (λ body. inr (same ∙ body)) foul

  -- higher leaves fire, and it may happen still
  later_keep : (opened : State X) (share : Share) (j a : ℕ) (cause : TrapName) (marks : List Bool) (i k fired : ℕ) (s : State X) (bursts : List (List ℕ)) (halts : List Halt) (last : State X)
      → AreBursts net opened share marks i k fired s bursts halts last → j < i → IsAlive s → IsFoul s j a cause → IsFoul last j a cause
  later_keep opened share j a cause [] i k fired s [] [] last are low alive may = subst (λ t. IsFoul t j a cause) are may
  later_keep opened share j a cause [] i k fired s [] (halt ∷ halts) last are low alive may = absurd are
  later_keep opened share j a cause [] i k fired s (actions ∷ bursts) halts last are low alive may = absurd are
  later_keep opened share j a cause (true ∷ marks) i k fired s [] halts last are low alive may = absurd are
  later_keep opened share j a cause (true ∷ marks) i k fired s (actions ∷ bursts) [] last are low alive may = absurd are
  later_keep opened share j a cause (true ∷ marks) i k fired s (actions ∷ bursts) (halt ∷ halts) last are low alive may =
      let both : IsAlive are.0 × IsFoul are.0 j a cause =
      burst_keeps (λ t. IsAlive t × IsFoul t j a cause) i
      (λ t u b p h. (alive_next t u i b p.0 h, foul_outlasts t u j a i b cause p.0.ordered (λ same. absurd (omega (arith, low, same))) p.1 h))
      opened (limit_of share.burst share.left share.picks k fired) s actions halt are.0 are.1 (alive, may) in
      later_keep opened share j a cause marks (suc i) (suc k) (fired + length actions) are.0 bursts halts last are.2 (omega (arith, low)) both.0 both.1
  later_keep opened share j a cause (false ∷ marks) i k fired s [] halts last are low alive may = absurd are
  later_keep opened share j a cause (false ∷ marks) i k fired s (actions ∷ bursts) [] last are low alive may = absurd are
  later_keep opened share j a cause (false ∷ marks) i k fired s (actions ∷ bursts) (halt ∷ halts) last are low alive may =
      later_keep opened share j a cause marks (suc i) k fired s bursts halts last are.2 (omega (arith, low)) alive may

  line_is : (i a j b : ℕ) (c d : TrapName) → Some (TrapLine i a c) ≡ Some (TrapLine j b d) → (i ≡ j) × (a ≡ b) × (c ≡ d)
  line_is i a j b c d h = (cc, cc, cc)

  -- the lowest trap of a round
  trap_stays : (opened : State X) (share : Share) (j a : ℕ) (cause : TrapName) (marks : List Bool) (i k fired : ℕ) (s : State X) (bursts : List (List ℕ)) (halts : List Halt) (last : State X)
      → AreBursts net opened share marks i k fired s bursts halts last → IsAlive s → first_trap i halts ≡ Some (TrapLine j a cause) → IsFoul last j a cause
  trap_stays opened share j a cause [] i k fired s [] [] last are alive first = cc
  trap_stays opened share j a cause [] i k fired s [] (halt ∷ halts) last are alive first = absurd are
  trap_stays opened share j a cause [] i k fired s (actions ∷ bursts) halts last are alive first = absurd are
  trap_stays opened share j a cause (true ∷ marks) i k fired s [] halts last are alive first = absurd are
  trap_stays opened share j a cause (true ∷ marks) i k fired s (actions ∷ bursts) [] last are alive first = absurd are
  trap_stays opened share j a cause (true ∷ marks) i k fired s (actions ∷ bursts) (halt ∷ halts) last are alive first =
      let now : IsAlive are.0 = burst_keeps IsAlive i (λ t u b p h. alive_next t u i b p h) opened (limit_of share.burst share.left share.picks k fired) s actions halt are.0 are.1 alive in
      by_halt (λ first_on. trap_stays opened share j a cause marks (suc i) (suc k) (fired + length actions) are.0 bursts halts last are.2 now first_on)
      halt first (burst_halts i opened (limit_of share.burst share.left share.picks k fired) s actions halt are.0 are.1) now
    where
      by_halt : (first_trap (suc i) halts ≡ Some (TrapLine j a cause) → IsFoul last j a cause) → (h : Halt) → first_trap i (h ∷ halts) ≡ Some (TrapLine j a cause) → ((n : ℕ) × HaltsAt net opened i n are.0 h) → IsAlive are.0 → IsFoul last j a cause
      by_halt go_on Unpicked first_on halts_at now = absurd halts_at.1
      by_halt go_on Spent first_on halts_at now = go_on first_on
      by_halt go_on Waiting first_on halts_at now = go_on first_on
      by_halt go_on NoRoom first_on halts_at now = go_on first_on
      by_halt go_on (Trapping b c) first_on halts_at now =
          let is = line_is i b j a c cause first_on in
          let here : IsFoul are.0 i b c = is_foul opened are.0 i b c halts_at.1.1 in
          let there : IsFoul last i b c =
          later_keep opened share i b c marks (suc i) (suc k) (fired + length actions) are.0 bursts halts last are.2 (omega arith) now here in
          subst (λ n. IsFoul last n a cause) is.0 (subst (λ n. IsFoul last i n cause) is.1 (subst (λ d. IsFoul last i b d) is.2 there))
  trap_stays opened share j a cause (false ∷ marks) i k fired s [] halts last are alive first = absurd are
  trap_stays opened share j a cause (false ∷ marks) i k fired s (actions ∷ bursts) [] last are alive first = absurd are
  trap_stays opened share j a cause (false ∷ marks) i k fired s (actions ∷ bursts) (halt ∷ halts) last are alive first =
      trap_stays opened share j a cause marks (suc i) k fired s bursts halts last are.2 alive (subst (λ h. first_trap i (h ∷ halts) ≡ Some (TrapLine j a cause)) are.1 first)

  pub bursts_alive : (opened : State X) (share : Share) (marks : List Bool) (i k fired : ℕ) (s : State X) (bursts : List (List ℕ)) (halts : List Halt) (last : State X)
      → AreBursts net opened share marks i k fired s bursts halts last → IsAlive s → IsAlive last
  bursts_alive opened share [] i k fired s [] [] last are alive = subst IsAlive are alive
  bursts_alive opened share [] i k fired s [] (halt ∷ halts) last are alive = absurd are
  bursts_alive opened share [] i k fired s (actions ∷ bursts) halts last are alive = absurd are
  bursts_alive opened share (true ∷ marks) i k fired s [] halts last are alive = absurd are
  bursts_alive opened share (true ∷ marks) i k fired s (actions ∷ bursts) [] last are alive = absurd are
  bursts_alive opened share (true ∷ marks) i k fired s (actions ∷ bursts) (halt ∷ halts) last are alive =
      bursts_alive opened share marks (suc i) (suc k) (fired + length actions) are.0 bursts halts last are.2
      (burst_keeps IsAlive i (λ t u b p h. alive_next t u i b p h) opened (limit_of share.burst share.left share.picks k fired) s actions halt are.0 are.1 alive)
  bursts_alive opened share (false ∷ marks) i k fired s [] halts last are alive = absurd are
  bursts_alive opened share (false ∷ marks) i k fired s (actions ∷ bursts) [] last are alive = absurd are
  bursts_alive opened share (false ∷ marks) i k fired s (actions ∷ bursts) (halt ∷ halts) last are alive = bursts_alive opened share marks (suc i) k fired s bursts halts last are.2 alive

  pub trap_happens : (opened : State X) (share : Share) (j a : ℕ) (cause : TrapName) (marks : List Bool) (s : State X) (bursts : List (List ℕ)) (halts : List Halt) (last : State X)
      → AreBursts net opened share marks 0 0 0 s bursts halts last → IsAlive s → first_trap 0 halts ≡ Some (TrapLine j a cause) → TrapsTo last j a cause
  trap_happens opened share j a cause marks s bursts halts last are alive first =
      may_trap last j a cause (bursts_alive opened share marks 0 0 0 s bursts halts last are alive).untrapped
      (trap_stays opened share j a cause marks 0 0 0 s bursts halts last are alive first)

-- where nothing fired the state stays
pub no_firings : {X : Type 0} (net : Network X) (opened : State X) (share : Share) (marks : List Bool) (i k fired : ℕ) (s : State X) (bursts : List (List ℕ)) (halts : List Halt) (last : State X)
    → AreBursts net opened share marks i k fired s bursts halts last → count_of bursts ≡ 0 → s ≡ last
no_firings net opened share [] i k fired s [] [] last are none = are
no_firings net opened share [] i k fired s [] (halt ∷ halts) last are none = absurd are
no_firings net opened share [] i k fired s (actions ∷ bursts) halts last are none = absurd are
no_firings net opened share (true ∷ marks) i k fired s [] halts last are none = absurd are
no_firings net opened share (true ∷ marks) i k fired s (actions ∷ bursts) [] last are none = absurd are
no_firings net opened share (true ∷ marks) i k fired s ([] ∷ bursts) (halt ∷ halts) last are none =
    are.1.1 ∙ no_firings net opened share marks (suc i) (suc k) (fired + 0) are.0 bursts halts last are.2 (omega (arith, none))
no_firings net opened share (true ∷ marks) i k fired s ((a ∷ actions) ∷ bursts) (halt ∷ halts) last are none = absurd (omega (arith, none))
no_firings net opened share (false ∷ marks) i k fired s [] halts last are none = absurd are
no_firings net opened share (false ∷ marks) i k fired s (actions ∷ bursts) [] last are none = absurd are
no_firings net opened share (false ∷ marks) i k fired s (actions ∷ bursts) (halt ∷ halts) last are none =
    no_firings net opened share marks (suc i) k fired s bursts halts last are.2 (omega (arith, none))
