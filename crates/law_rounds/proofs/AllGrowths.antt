-- All links together grow as often as each of them.
use Rattle.std.proofs.Common.{◌≡◌, ℕ, zero, suc, ◌+◌, ◌*◌, ◌<◌, ◌≤◌, List, [], ◌∷◌, length, refl, ⊎_elim, arith}
use Rattle.std.proofs.lemmas.Bool.{ne_eqb}
use Rattle.std.proofs.lemmas.Bool.Decides.{eqb_tells}
use Rattle.trace_text.specs.declared.line.Line.{Line}
use Rattle.trace_text.specs.declared.line.Line.TheVariants.{Header, Inst, Fire as FireLine, Deliver as DeliverLine, Grow as GrowLine, Quiet, Trap as TrapLine, Stall, Budget}
use Rattle.net_model.specs.Network.{Network}
use Rattle.net_model.specs.State.{State}
use Rattle.net_model.specs.Ends.{Grows}
use Rattle.net_model.specs.Limits.{max_grow}
use Rattle.net_model.specs.Trace.{goes, OnNext, PlaysFrom}
use Rattle.net_model.specs.Laws.{firings_shown}
use Rattle.net_model.specs.Paced.{Pace, IsPaced}
use Rattle.net_model.specs.Counted.{deliveries_in}
use Rattle.net_model.proofs.Rounds.{paced_play}
use Rattle.law_rounds.specs.Bounds.{growths_in, growths_of, HoldTokens}
use Rattle.law_rounds.proofs.FewRounds.{paced_rounds_few}
use Rattle.law_rounds.proofs.FewGrowths.{grows_apart, grows_here, growths_few, low_on, on_next}

-- growths of the first n links
abbrev growths_below : ℕ → List Line → ℕ
growths_below zero lines = 0
growths_below (suc n) lines = growths_of n lines + growths_below n lines

same_below : (n : ℕ) (lines others : List Line) → ((l : ℕ) → growths_of l lines ≡ growths_of l others) → growths_below n lines ≡ growths_below n others
same_below zero lines others same = refl
same_below (suc n) lines others same = omega (arith, same n, same_below n lines others same)

-- a growth of a link behind the first n, and one of a link among them
grows_behind : (n m capacity : ℕ) (lines : List Line) → n ≤ m → growths_below n (GrowLine m capacity ∷ lines) ≡ growths_below n lines
grows_behind zero m capacity lines behind = refl
grows_behind (suc n) m capacity lines behind =
    let one : growths_of n (GrowLine m capacity ∷ lines) ≡ growths_of n lines =
    grows_apart n m capacity lines (ne_eqb n m (λ same. omega (arith, behind, same))) in
    let rest : growths_below n (GrowLine m capacity ∷ lines) ≡ growths_below n lines = grows_behind n m capacity lines (omega (arith, behind)) in
    omega (arith, one, rest)

grows_among : (n m capacity : ℕ) (lines : List Line) → m < n → growths_below n (GrowLine m capacity ∷ lines) ≡ suc (growths_below n lines)
grows_among zero m capacity lines low = absurd (omega (arith, low))
grows_among (suc n) m capacity lines low =
    ⊎_elim
    (λ here.
    let one : growths_of n (GrowLine m capacity ∷ lines) ≡ suc (growths_of n lines) = grows_here n m capacity lines here.0 in
    let rest : growths_below n (GrowLine m capacity ∷ lines) ≡ growths_below n lines = grows_behind n m capacity lines (omega (arith, here.1)) in
    omega (arith, one, rest))
    (λ apart.
    let one : growths_of n (GrowLine m capacity ∷ lines) ≡ growths_of n lines = grows_apart n m capacity lines apart.0 in
    let rest : growths_below n (GrowLine m capacity ∷ lines) ≡ suc (growths_below n lines) = grows_among n m capacity lines (omega (arith, low, apart.1)) in
    omega (arith, one, rest))
    (eqb_tells n m)

few_below : (n : ℕ) (lines : List Line) → ((l : ℕ) → l < n → growths_of l lines ≤ 20) → growths_below n lines ≤ 20 * n
few_below zero lines few = omega arith
few_below (suc n) lines few =
    let last : growths_of n lines ≤ 20 = few n (omega arith) in
    let rest : growths_below n lines ≤ 20 * n = few_below n lines (λ l low. few l (omega (arith, low))) in
    omega (arith, last, rest)

module _ {X : Type 0} (net : Network X) (grow : ℕ) where
  abbrev AllBelow : List Line → Type 0
  AllBelow lines = growths_in lines ≤ growths_below (length net.links) lines

  -- a line that is no growth, and what comes behind it
  passed : (line : Line) (lines : List Line) (s last : State X) → growths_in (line ∷ lines) ≡ growths_in lines
      → ((l : ℕ) → growths_of l (line ∷ lines) ≡ growths_of l lines)
      → OnNext (goes net s line) (λ next. PlaysFrom net grow next lines last)
      → ((t : State X) → PlaysFrom net grow t lines last → AllBelow lines) → AllBelow (line ∷ lines)
  passed line lines s last none same plays rest =
      let more : growths_in lines ≤ growths_below (length net.links) lines = on_next (goes net s line) _ plays (λ t is. rest t) in
      omega (arith, none, same_below (length net.links) (line ∷ lines) lines same, more)

  -- each growth is one of a link of the network
  all_below : (lines : List Line) (s last : State X) → PlaysFrom net grow s lines last → AllBelow lines
  all_below [] s last plays = omega arith
  all_below (GrowLine m capacity ∷ lines) s last plays =
      let grows : Grows net grow s m capacity = plays.0 in
      let low : m < length net.links = low_on _ grows.leaf net.links m _ grows.stalled.lacks in
      let one : growths_below (length net.links) (GrowLine m capacity ∷ lines) ≡ suc (growths_below (length net.links) lines) =
      grows_among (length net.links) m capacity lines low in
      let rest : growths_in lines ≤ growths_below (length net.links) lines =
      on_next (goes net s (GrowLine m capacity)) _ plays.1 (λ t is more. all_below lines t last more) in
      omega (arith, one, rest)
  all_below (FireLine i a ∷ lines) s last plays = passed (FireLine i a) lines s last refl (λ l. refl) plays.1 (λ t. all_below lines t last)
  all_below (DeliverLine ∷ lines) s last plays = passed DeliverLine lines s last refl (λ l. refl) plays.1 (λ t. all_below lines t last)
  all_below (TrapLine i a c ∷ lines) s last plays = passed (TrapLine i a c) lines s last refl (λ l. refl) plays.1 (λ t. all_below lines t last)
  all_below (Quiet ∷ lines) s last plays = passed Quiet lines s last refl (λ l. refl) plays.1 (λ t. all_below lines t last)
  all_below (Stall i a m ∷ lines) s last plays = passed (Stall i a m) lines s last refl (λ l. refl) plays.1 (λ t. all_below lines t last)
  all_below (Budget ∷ lines) s last plays = passed Budget lines s last refl (λ l. refl) plays.1 (λ t. all_below lines t last)
  all_below (Header n m g ∷ lines) s last plays = absurd plays.0
  all_below (Inst n ∷ lines) s last plays = absurd plays.0

pub firings_bound : {X : Type 0} (net : Network X) (pace : Pace) (s : State X) (lines : List Line) (last : State X) → IsPaced net pace s lines last
    → pace.grow ≤ max_grow → HoldTokens net s → deliveries_in lines ≤ 2 * length (firings_shown lines) + 20 * length net.links + 2
firings_bound net pace s lines last paced within hold =
    let plays = paced_play net pace s lines last paced in
    let few : growths_below (length net.links) lines ≤ 20 * length net.links =
    few_below (length net.links) lines (λ l low. growths_few net pace.grow s lines last l plays within (hold l low)) in
    omega (arith, paced_rounds_few net pace s lines last paced, all_below net pace.grow lines s last plays, few)
