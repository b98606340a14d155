-- Paced lines have at most the budget's firings.
use Rattle.std.proofs.Common.{◌≡◌, ℕ, suc, ◌+◌, ◌-◌, ◌*◌, ◌/◌, ◌%◌, ◌<◌, ◌≤◌, min, Bool, true, false, List, [], ◌∷◌, ◌++◌, length, map, refl, sym, ap, ◌∙◌, subst, arith, append_assoc, append-nil}
use Rattle.std.specs.Prelude.{◌==◌, ◌&&◌, nat_le, nat_lt, if◌then◌else◌, flat_map, Option, None, Some}
use Rattle.std.proofs.lemmas.Bool.{ltb-true}
use Rattle.std.proofs.Math.Nat.{suc-mul, div-add-mod}
use Rattle.rvc_base.specs.Shares.{allowed}
use Rattle.trace_text.specs.declared.line.Line.{Line}
use Rattle.trace_text.specs.declared.line.Line.TheVariants.{Header, Inst, Fire as FireLine, Deliver as DeliverLine, Grow as GrowLine, Quiet, Trap as TrapLine, Stall, Budget}
use Rattle.net_model.specs.Network.{Network}
use Rattle.net_model.specs.State.{State}
use Rattle.net_model.specs.Event.{Fire, happens}
use Rattle.net_model.specs.Trace.{after_delivery, OnNext}
use Rattle.net_model.specs.Laws.{firings_shown}
use Rattle.net_model.proofs.Rounds.{either, trap_first}
use Rattle.net_model.specs.Paced.{ClosesSpent, ClosesIdle, ClosesBy, first_trap, Pace, Moment, first_moment, Close, GoesOn, Widens, Ends, Block, fire_lines, close_lines, lines_of, count_of, picked, limit_of, Halt, IsBurst, AreBursts, Closes, count_picked, IsRound, next_moment, AreRounds, IsBegun, IsPaced}

-- a burst makes at most as many firings as it may
on_next : {X : Type 0} {R : Type 0} (o : Option (State X)) (P : State X → Type 0) → ((u : State X) → P u → R) → OnNext o P → R
on_next None P f h = absurd h
on_next (Some u) P f h = f u h

burst_few : {X : Type 0} (net : Network X) (opened : State X) (i limit : ℕ) (s : State X) (actions : List ℕ) (halt : Halt) (last : State X)
    → IsBurst net opened i limit s actions halt last → length actions ≤ limit
burst_few net opened i limit s [] halt last burst = omega arith
burst_few net opened i limit s (a ∷ actions) halt last burst =
    let few : length actions ≤ limit - 1 =
    on_next (happens net s (Fire i a)) _ (λ u rest. burst_few net opened i (limit - 1) u actions halt last rest) burst.3 in
    omega (arith, burst.0)

-- what m picked leaves from the k-th on may fire together, by shares of q and one more for the first r
abbrev together : ℕ → ℕ → ℕ → ℕ → ℕ
together m q r k = m * q + (r - k)

share_fits : (n q r k : ℕ) → n ≤ q + (if nat_lt k r then 1 else 0) → (m rest : ℕ) → rest ≤ together m q r (suc k) → n + rest ≤ together (suc m) q r k
share_fits n q r k few m rest fits =
    of_test (nat_lt k r) refl
  where
    of_test : (b : Bool) → nat_lt k r ≡ b → n + rest ≤ together (suc m) q r k
    of_test true e = let more : suc m * q ≡ m * q + q = suc-mul m q in let few' : n ≤ q + 1 = subst (λ b. n ≤ q + (if b then 1 else 0)) e few in let low : k < r = ltb-true k r e in omega arith
    of_test false e = let more : suc m * q ≡ m * q + q = suc-mul m q in let few' : n ≤ q + 0 = subst (λ b. n ≤ q + (if b then 1 else 0)) e few in omega arith

count_more : (actions : List ℕ) (bursts : List (List ℕ)) → count_of (actions ∷ bursts) ≡ length actions + count_of bursts
count_more actions bursts = refl

-- if as many firings are left as leaves are picked, they are shared
shared : {X : Type 0} (net : Network X) (opened : State X) (burst left picks : ℕ) (marks : List Bool) (i k fired : ℕ) (s : State X)
    (bursts : List (List ℕ)) (halts : List Halt) (last : State X) → nat_le picks left ≡ true
    → AreBursts net opened (record { burst = burst; left = left; picks = picks }) marks i k fired s bursts halts last
    → count_of bursts ≤ together (count_picked marks) (left / picks) (left % picks) k
shared net opened burst left picks [] i k fired s [] [] last enough are = omega arith
shared net opened burst left picks (true ∷ marks) i k fired s (actions ∷ bursts) (halt ∷ halts) last enough are =
    let most : length actions ≤ limit_of burst left picks k fired = burst_few net opened i _ s actions halt are.0 are.1 in
    let allowed_most : length actions ≤ allowed left picks burst k =
    subst (λ b. length actions ≤ (if b then allowed left picks burst k else min burst (left - fired))) enough most in
    let counted = count_more actions bursts in
    let fits = share_fits (length actions) (left / picks) (left % picks) k (omega arith) (count_picked marks) (count_of bursts)
    (shared net opened burst left picks marks (suc i) (suc k) (fired + length actions) are.0 bursts halts last enough are.2) in
    omega arith
shared net opened burst left picks (false ∷ marks) i k fired s (actions ∷ bursts) (halt ∷ halts) last enough are =
    let none : length actions ≡ 0 = ap length are.0 in
    let counted = count_more actions bursts in
    let rest = shared net opened burst left picks marks (suc i) k fired s bursts halts last enough are.2 in
    omega arith
shared net opened burst left picks [] i k fired s [] (halt ∷ halts) last enough are = absurd are
shared net opened burst left picks [] i k fired s (actions ∷ bursts) halts last enough are = absurd are
shared net opened burst left picks (true ∷ marks) i k fired s [] halts last enough are = absurd are
shared net opened burst left picks (true ∷ marks) i k fired s (actions ∷ bursts) [] last enough are = absurd are
shared net opened burst left picks (false ∷ marks) i k fired s [] halts last enough are = absurd are
shared net opened burst left picks (false ∷ marks) i k fired s (actions ∷ bursts) [] last enough are = absurd are

-- if fewer are left, they are given out one leaf after another
given_out : {X : Type 0} (net : Network X) (opened : State X) (burst left picks : ℕ) (marks : List Bool) (i k fired : ℕ) (s : State X)
    (bursts : List (List ℕ)) (halts : List Halt) (last : State X) → nat_le picks left ≡ false → fired ≤ left
    → AreBursts net opened (record { burst = burst; left = left; picks = picks }) marks i k fired s bursts halts last
    → fired + count_of bursts ≤ left
given_out net opened burst left picks [] i k fired s [] [] last few so_far are = omega arith
given_out net opened burst left picks (true ∷ marks) i k fired s (actions ∷ bursts) (halt ∷ halts) last few so_far are =
    let most : length actions ≤ limit_of burst left picks k fired = burst_few net opened i _ s actions halt are.0 are.1 in
    let left_most : length actions ≤ min burst (left - fired) =
    subst (λ b. length actions ≤ (if b then allowed left picks burst k else min burst (left - fired))) few most in
    let rest = given_out net opened burst left picks marks (suc i) (suc k) (fired + length actions) are.0 bursts halts last few (omega arith) are.2 in
    let counted = count_more actions bursts in
    omega arith
given_out net opened burst left picks (false ∷ marks) i k fired s (actions ∷ bursts) (halt ∷ halts) last few so_far are =
    let none : length actions ≡ 0 = ap length are.0 in
    let counted = count_more actions bursts in
    let rest = given_out net opened burst left picks marks (suc i) k fired s bursts halts last few so_far are.2 in
    omega arith
given_out net opened burst left picks [] i k fired s [] (halt ∷ halts) last few so_far are = absurd are
given_out net opened burst left picks [] i k fired s (actions ∷ bursts) halts last few so_far are = absurd are
given_out net opened burst left picks (true ∷ marks) i k fired s [] halts last few so_far are = absurd are
given_out net opened burst left picks (true ∷ marks) i k fired s (actions ∷ bursts) [] last few so_far are = absurd are
given_out net opened burst left picks (false ∷ marks) i k fired s [] halts last few so_far are = absurd are
given_out net opened burst left picks (false ∷ marks) i k fired s (actions ∷ bursts) [] last few so_far are = absurd are

by_bool : {P : Type 0} (b : Bool) → (b ≡ true → P) → (b ≡ false → P) → P
by_bool true p q = p refl
by_bool false p q = q refl

-- a round fires no more than is left
pub round_within : {X : Type 0} (net : Network X) (pace : Pace) (at : Moment X) (block : Block) (last : State X) → IsRound net pace at block last
    → count_of block.bursts ≤ at.left
round_within net pace at block last round =
    let picks : ℕ = count_picked (picked net pace at) in
    by_bool (nat_le picks at.left)
    (λ enough.
    let most = shared net (after_delivery net at.state) pace.burst at.left picks (picked net pace at) 0 0 0 (after_delivery net at.state)
    block.bursts round.halts round.fired enough round.bursts in
    let whole : picks * (at.left / picks) + at.left % picks ≡ at.left = div-add-mod at.left picks in
    omega arith)
    (λ few.
    let most = given_out net (after_delivery net at.state) pace.burst at.left picks (picked net pace at) 0 0 0 (after_delivery net at.state)
    block.bursts round.halts round.fired few (omega arith) round.bursts in
    omega arith)

-- how many firings lines show
abbrev shown_of : List Line → ℕ
shown_of lines = length (firings_shown lines)

spent_shows : {X : Type 0} (net : Network X) (grow : ℕ) (s : State X) (close : Close) → ClosesSpent net grow s close → firings_shown (close_lines close) ≡ []
spent_shows net grow s (Ends Quiet) h = refl
spent_shows net grow s (Ends (Stall i a l)) h = refl
spent_shows net grow s (Ends Budget) h = refl
spent_shows net grow s close h = absurd h

idle_shows : {X : Type 0} (net : Network X) (grow : ℕ) (s : State X) (close : Close) → ClosesIdle net grow s close → firings_shown (close_lines close) ≡ []
idle_shows net grow s (Ends Quiet) h = refl
idle_shows net grow s (Ends (Stall i a l)) h = refl
idle_shows net grow s (Widens l capacity) h = refl
idle_shows net grow s close h = absurd h

by_shows : {X : Type 0} (net : Network X) (grow : ℕ) (marks : List Bool) (bursts : List (List ℕ)) (halts : List Halt) (trap : Option Line) (s : State X) (close : Close)
    → first_trap 0 halts ≡ trap → ClosesBy net grow marks bursts trap s close → firings_shown (close_lines close) ≡ []
by_shows net grow marks bursts halts (Some line) s close is h =
    let trap = trap_first 0 halts line is in
    ap (λ c. firings_shown (close_lines c)) (h ∙ ap Ends trap.is)
by_shows net grow marks bursts halts None s close is h =
    either ((count_picked marks == length marks) && (count_of bursts == 0)) (ClosesIdle net grow s close) (close ≡ GoesOn) _
    (idle_shows net grow s close) (λ on. ap (λ c. firings_shown (close_lines c)) on) h

close_shows : {X : Type 0} (net : Network X) (pace : Pace) (at : Moment X) (block : Block) (halts : List Halt) (s : State X)
    → Closes net pace at block halts s → firings_shown (close_lines block.close) ≡ []
close_shows net pace at block halts s h =
    either (at.left == 0) _ _ _ (spent_shows net pace.grow s block.close)
    (by_shows net pace.grow (picked net pace at) block.bursts halts (first_trap 0 halts) s block.close refl) h

burst_shows : (i : ℕ) (actions : List ℕ) (after : List Line) → shown_of (map (FireLine i) actions ++ after) ≡ length actions + shown_of after
burst_shows i [] after = omega arith
burst_shows i (a ∷ actions) after =
    let step : shown_of (map (FireLine i) (a ∷ actions) ++ after) ≡ suc (shown_of (map (FireLine i) actions ++ after)) = refl in
    let rest = burst_shows i actions after in
    omega arith

bursts_show : (i : ℕ) (bursts : List (List ℕ)) (after : List Line) → shown_of (fire_lines i bursts ++ after) ≡ count_of bursts + shown_of after
bursts_show i [] after = omega arith
bursts_show i (actions ∷ bursts) after =
    let one : shown_of (map (FireLine i) actions ++ (fire_lines (suc i) bursts ++ after)) ≡ length actions + shown_of (fire_lines (suc i) bursts ++ after) =
    burst_shows i actions (fire_lines (suc i) bursts ++ after) in
    let rest = bursts_show (suc i) bursts after in
    let counted = count_more actions bursts in
    let joined : shown_of ((map (FireLine i) actions ++ fire_lines (suc i) bursts) ++ after) ≡ shown_of (map (FireLine i) actions ++ (fire_lines (suc i) bursts ++ after)) =
    ap shown_of (append_assoc (map (FireLine i) actions) (fire_lines (suc i) bursts) after) in
    omega arith

round_shows : {X : Type 0} (net : Network X) (pace : Pace) (at : Moment X) (block : Block) (last : State X) → IsRound net pace at block last
    → (after : List Line) → shown_of (lines_of block ++ after) ≡ count_of block.bursts + shown_of after
round_shows net pace at block last round after =
    let joined : shown_of ((fire_lines 0 block.bursts ++ close_lines block.close) ++ after) ≡ shown_of (fire_lines 0 block.bursts ++ (close_lines block.close ++ after)) =
    ap shown_of (append_assoc (fire_lines 0 block.bursts) (close_lines block.close) after) in
    let bursts = bursts_show 0 block.bursts (close_lines block.close ++ after) in
    let none : shown_of (close_lines block.close ++ after) ≡ shown_of after =
    close_after block.close (close_shows net pace at block round.halts round.fired round.closes) in
    omega arith
  where
    close_after : (close : Close) → firings_shown (close_lines close) ≡ [] → shown_of (close_lines close ++ after) ≡ shown_of after
    close_after GoesOn h = refl
    close_after (Widens l capacity) h = refl
    close_after (Ends (FireLine i a)) h = cc
    close_after (Ends DeliverLine) h = refl
    close_after (Ends (GrowLine l capacity)) h = refl
    close_after (Ends Quiet) h = refl
    close_after (Ends (TrapLine i a c)) h = refl
    close_after (Ends (Stall i a l)) h = refl
    close_after (Ends Budget) h = refl
    close_after (Ends (Header n l g)) h = refl
    close_after (Ends (Inst k)) h = refl

rounds_show : {X : Type 0} (net : Network X) (pace : Pace) (at : Moment X) (blocks : List Block) (reached : Moment X) → AreRounds net pace at blocks reached
    → (after : List Line) → shown_of (flat_map lines_of blocks ++ after) + reached.left ≡ at.left + shown_of after
rounds_show net pace at [] reached same after = let left : at.left ≡ reached.left = ap (λ m. m.left) same in omega arith
rounds_show net pace at (block ∷ blocks) reached are after =
    let joined : shown_of ((lines_of block ++ flat_map lines_of blocks) ++ after) ≡ shown_of (lines_of block ++ (flat_map lines_of blocks ++ after)) =
    ap shown_of (append_assoc (lines_of block) (flat_map lines_of blocks) after) in
    let one = round_shows net pace at block are.0 are.1 (flat_map lines_of blocks ++ after) in
    let rest = rounds_show net pace (next_moment at block are.0) blocks reached are.3 after in
    let within = round_within net pace at block are.0 are.1 in
    omega arith

pub begun_within_budget : {X : Type 0} (net : Network X) (pace : Pace) (s : State X) (lines : List Line) (reached : Moment X)
    → IsBegun net pace s lines reached → length (firings_shown lines) + reached.left ≡ pace.budget
begun_within_budget net pace s lines reached begun =
    let all = rounds_show net pace (first_moment pace s) begun.blocks reached begun.rounds [] in
    let lines_are : shown_of lines ≡ shown_of (flat_map lines_of begun.blocks ++ []) =
    ap shown_of (begun.lines_are ∙ sym (append-nil (flat_map lines_of begun.blocks))) in
    omega arith

pub paced_within_budget : {X : Type 0} (net : Network X) (pace : Pace) (s : State X) (lines : List Line) (last : State X)
    → IsPaced net pace s lines last → length (firings_shown lines) ≤ pace.budget
paced_within_budget net pace s lines last paced =
    let all = rounds_show net pace (first_moment pace s) paced.blocks paced.reached paced.rounds (lines_of paced.final ++ []) in
    let one = round_shows net pace paced.reached paced.final last paced.ending [] in
    let within = round_within net pace paced.reached paced.final last paced.ending in
    let lines_are : shown_of lines ≡ shown_of (flat_map lines_of paced.blocks ++ (lines_of paced.final ++ [])) =
    ap shown_of (paced.lines_are ∙ ap (λ ls. flat_map lines_of paced.blocks ++ ls) (sym (append-nil (lines_of paced.final)))) in
    omega arith
