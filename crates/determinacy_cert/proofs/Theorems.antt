-- Determinacy: every run goes on to where a quiet run ends.
use Rattle.std.proofs.Common.{◌≡◌, ℕ, suc, ◌+◌, ◌<◌, Bool, true, false, List, [], ◌∷◌, ◌++◌, length, refl, sym, ap, ◌∙◌, subst, append-nil, arith}
use Rattle.std.specs.Prelude.{Option, None, Some, if◌then◌else◌, ◌==◌}
use Rattle.std.proofs.lemmas.List.{length-append}
use Rattle.net_model.specs.Network.{Network}
use Rattle.net_model.specs.State.{State, start_of, effect_at}
use Rattle.net_model.specs.Event.{Event, Fire, Deliver, Trap, happens, run}
use Rattle.net_model.specs.Ends.{IsSettled, all_fed}
use Rattle.net_model.specs.Stable.{IsPrefix}
use Rattle.net_model.specs.Laws.{AreOrdered, SentGrows, sent_on_link, firings_in}
use Rattle.net_model.proofs.Bounds.{run_ordered, first_ordered}
use Rattle.net_model.proofs.Growth.{run_grows}
use Rattle.net_model.proofs.Lines.{run_then}
use Rattle.determinacy_cert.specs.Determinacy.{firings_of, IsDeterminate, LeadsTo, IsQuietRun, AsManyFirings}
use Rattle.determinacy_cert.proofs.Splitting.{Stepped, stepped, AreSingle, singles, run_singles, firings_singles, counted_singles}
use Rattle.determinacy_cert.proofs.Confluence.{Joined, joined}
use Rattle.determinacy_cert.proofs.Trapping.{UpToTrap, up_to_trap, are_single, trap_stays}
use Rattle.determinacy_cert.proofs.Feeding.{start_flows, run_flows, Arrives, fed, no_delivery, quiet_is_final, fed_sent}

-- no more was taken than has arrived, and no more has arrived than was sent
started_ordered : {X : Type 0} (net : Network X) (inputs : List (List ℕ)) (events : List Event) (s : State X) → IsDeterminate net
    → LeadsTo net inputs events s → AreOrdered s
started_ordered net inputs events s det leads =
    run_ordered net events (start_of net inputs) s det.wired det.lawful (first_ordered net.ins inputs net.links) leads

-- a run that begins at the start, and ends where all feeds have arrived
record FedRun {X : Type 0} (net : Network X) (inputs : List (List ℕ)) (events : List Event) (s : State X) : Type 0 where
  more : List Event
  leads : run net (start_of net inputs) (events ++ more) ≡ Some (all_fed net s)
  none : (i : ℕ) → firings_of i (events ++ more) ≡ firings_of i events
  none_in : length (firings_in (events ++ more)) ≡ length (firings_in events)

joined_if : (b : Bool) (a : ℕ) (zs xs ys : List ℕ) → zs ≡ xs ++ ys → (if b then a ∷ zs else zs) ≡ (if b then a ∷ xs else xs) ++ ys
joined_if true a zs xs ys h = ap (λ w. a ∷ w) h
joined_if false a zs xs ys h = h

firings_both : (i : ℕ) (xs ys : List Event) → firings_of i (xs ++ ys) ≡ firings_of i xs ++ firings_of i ys
firings_both i [] ys = refl
firings_both i (Fire j a ∷ xs) ys = joined_if (i == j) a _ _ _ (firings_both i xs ys)
firings_both i (Deliver l k ∷ xs) ys = firings_both i xs ys
firings_both i (Trap j a c ∷ xs) ys = firings_both i xs ys

counted_both : (xs ys : List Event) → length (firings_in (xs ++ ys)) ≡ length (firings_in xs) + length (firings_in ys)
counted_both [] ys = omega arith
counted_both (Fire j a ∷ xs) ys = (let h : length (firings_in (xs ++ ys)) ≡ length (firings_in xs) + length (firings_in ys) = counted_both xs ys in omega arith)
counted_both (Deliver l k ∷ xs) ys = counted_both xs ys
counted_both (Trap j a c ∷ xs) ys = counted_both xs ys

-- a list without firings behind another
no_firings : (i : ℕ) (xs more : List Event) → firings_of i (more ++ []) ≡ [] → firings_of i (xs ++ more) ≡ firings_of i xs
no_firings i xs more none =
    firings_both i xs more ∙ ap (λ w. firings_of i xs ++ w) (ap (firings_of i) (sym (append-nil more)) ∙ none) ∙ append-nil (firings_of i xs)

fed_run : {X : Type 0} (net : Network X) (inputs : List (List ℕ)) (events : List Event) (s : State X) → IsDeterminate net
    → LeadsTo net inputs events s → s.trapped ≡ false → FedRun net inputs events s
fed_run net inputs events s det leads clear =
    let arrives : Arrives net s (all_fed net s) =
    fed net s clear (run_flows net (start_of net inputs) s events (start_flows net inputs) leads)
    (started_ordered net inputs events s det leads)
    (λ l link at. (det.wired.joined l link at).inside) in
    record {
      more = arrives.events;
      leads = run_then net (start_of net inputs) s (all_fed net s) events arrives.events leads arrives.leads;
      none = λ i. no_firings i events arrives.events (arrives.none i []);
      none_in = counted_both events arrives.events
          ∙ (let nothing : length (firings_in arrives.events) ≡ 0 = ap (λ w. length (firings_in w)) (sym (append-nil arrives.events)) ∙ ap length (arrives.none_in []) in omega arith);
    }

-- a run over the same inputs goes on to where a quiet run ends once its feeds have arrived
record Onward {X : Type 0} (net : Network X) (s q : State X) (events all : List Event) : Type 0 where
  others : List Event
  leads : run net s others ≡ Some (all_fed net q)
  single : AreSingle others
  same : (i : ℕ) → firings_of i events ++ firings_of i others ≡ firings_of i all
  as_many : length (firings_in events) + length (firings_in others) ≡ length (firings_in all)

onward : {X : Type 0} (net : Network X) (inputs : List (List ℕ)) (events all : List Event) (s q : State X) → IsDeterminate net
    → LeadsTo net inputs events s → s.trapped ≡ false → IsQuietRun net inputs all q → Onward net s q events all
onward {X = X} net inputs events all s q det leads clear quiet =
    let start : State X = start_of net inputs in
    let ends : FedRun net inputs all q = fed_run net inputs all q det quiet.leads quiet.quiet.settled.untrapped in
    let join : Joined net s (all_fed net q) (singles events) (singles (all ++ ends.more)) =
    joined net (singles events) (singles (all ++ ends.more)) start s (all_fed net q) det
    (started_ordered net inputs [] start det refl)
    (are_single net start s events clear leads)
    (are_single net start (all_fed net q) (all ++ ends.more) quiet.quiet.settled.untrapped ends.leads)
    (run_singles net start s events leads) (run_singles net start (all_fed net q) (all ++ ends.more) ends.leads)
    (quiet_is_final net q quiet.quiet) in
    record {
      others = join.others;
      leads = join.leads;
      single = join.single;
      same = λ i. ap (λ w. w ++ firings_of i join.others) (sym (firings_singles i events))
          ∙ sym (firings_both i (singles events) join.others) ∙ join.same i ∙ firings_singles i (all ++ ends.more) ∙ ends.none i;
      as_many = ap (λ n. n + length (firings_in join.others)) (sym (counted_singles events))
          ∙ sym (counted_both (singles events) join.others) ∙ join.as_many ∙ counted_singles (all ++ ends.more) ∙ ends.none_in;
    }

-- ---- a trap

none_is : {A : Type 0} (o : Option A) (x : A) → o ≡ Some x → o ≡ None → ⊥
none_is o x p q = let both : Some x ≡ None = sym p ∙ q in cc

pub no_quiet_besides : {X : Type 0} (net : Network X) (inputs : List (List ℕ)) (events all : List Event) (s q : State X) → IsDeterminate net
    → LeadsTo net inputs events s → s.trapped ≡ true → IsQuietRun net inputs all q → ⊥
no_quiet_besides {X = X} net inputs events all s q det leads mark quiet =
    let up : UpToTrap net (start_of net inputs) = up_to_trap net (start_of net inputs) s events refl mark leads in
    let on : Onward net up.last q up.before all = onward net inputs up.before all up.last q det up.leads up.untrapped quiet in
    let stays : effect_at net (all_fed net q) up.leaf up.action ≡ Some up.effect =
    trap_stays net up.last (all_fed net q) on.others up.leaf up.action up.effect det
    (started_ordered net inputs up.before up.last det up.leads) on.single up.is_trap up.there on.leads in
    none_is (effect_at net (all_fed net q) up.leaf up.action) up.effect stays (quiet.quiet.nothing up.leaf up.action)

-- a run besides a quiet one hasn't trapped
clear_besides : {X : Type 0} (net : Network X) (inputs : List (List ℕ)) (events all : List Event) (s q : State X) → IsDeterminate net
    → LeadsTo net inputs events s → IsQuietRun net inputs all q → (mark : Bool) → s.trapped ≡ mark → s.trapped ≡ false
clear_besides net inputs events all s q det leads quiet true is = absurd (no_quiet_besides net inputs events all s q det leads is quiet)
clear_besides net inputs events all s q det leads quiet false is = is

-- ---- prefixes

besides : {X : Type 0} (net : Network X) (inputs : List (List ℕ)) (events all : List Event) (s q : State X) → IsDeterminate net
    → LeadsTo net inputs events s → IsQuietRun net inputs all q → Onward net s q events all
besides net inputs events all s q det leads quiet =
    onward net inputs events all s q det leads (clear_besides net inputs events all s q det leads quiet s.trapped refl) quiet

pub firings_are_prefixes : {X : Type 0} (net : Network X) (inputs : List (List ℕ)) (events all : List Event) (s q : State X) → IsDeterminate net
    → LeadsTo net inputs events s → IsQuietRun net inputs all q → (i : ℕ) → IsPrefix (firings_of i events) (firings_of i all)
firings_are_prefixes net inputs events all s q det leads quiet i =
    let on : Onward net s q events all = besides net inputs events all s q det leads quiet in
    (firings_of i on.others, sym (on.same i))

pub sent_are_prefixes : {X : Type 0} (net : Network X) (inputs : List (List ℕ)) (events all : List Event) (s q : State X) → IsDeterminate net
    → LeadsTo net inputs events s → IsQuietRun net inputs all q → SentGrows net s q
sent_are_prefixes net inputs events all s q det leads quiet l low =
    let on : Onward net s q events all = besides net inputs events all s q det leads quiet in
    subst (λ w. IsPrefix (sent_on_link s l) w)
    (fed_sent net q l (run_flows net (start_of net inputs) q all (start_flows net inputs) quiet.leads))
    (run_grows net s (all_fed net q) on.others on.leads l low)

-- lists that begin with each other are equal
no_more : {A : Type 0} (xs rest : List A) → length xs ≡ length (xs ++ rest) → rest ≡ []
no_more xs [] same = refl
no_more xs (y ∷ rest) same =
    let longer : length (xs ++ (y ∷ rest)) ≡ length xs + suc (length rest) = length-append xs (y ∷ rest) in absurd (omega arith)

each_other : {A : Type 0} (xs ys : List A) → IsPrefix xs ys → IsPrefix ys xs → xs ≡ ys
each_other xs ys p q =
    let first : length ys ≡ length xs + length p.0 = ap length p.1 ∙ length-append xs p.0 in
    let second : length xs ≡ length ys + length q.0 = ap length q.1 ∙ length-append ys q.0 in
    let none : p.0 ≡ [] = no_more xs p.0 ((let e : length xs ≡ length ys = omega arith in e) ∙ ap length p.1) in
    sym (p.1 ∙ ap (λ w. xs ++ w) none ∙ append-nil xs)

pub quiet_runs_agree : {X : Type 0} (net : Network X) (inputs : List (List ℕ)) (all others : List Event) (q r : State X) → IsDeterminate net
    → IsQuietRun net inputs all q → IsQuietRun net inputs others r → (l : ℕ) → l < length net.links → sent_on_link q l ≡ sent_on_link r l
quiet_runs_agree net inputs all others q r det one two l low =
    each_other (sent_on_link q l) (sent_on_link r l)
    (sent_are_prefixes net inputs all others q r det one.leads two l low)
    (sent_are_prefixes net inputs others all r q det two.leads one l low)

-- ---- as many firings

no_step : {X : Type 0} (net : Network X) (s q : State X) (events : List Event) → IsSettled net s → AreSingle events
    → length (firings_in events) ≡ 0 → run net (all_fed net s) events ≡ Some q → all_fed net s ≡ q
no_step net s q [] settled single none h = let o : Some (all_fed net s) ≡ Some q = h in cc
no_step net s q (Fire i a ∷ events) settled single none h = absurd (omega arith)
no_step net s q (Deliver l k ∷ events) settled single none h =
    let step : Stepped net (all_fed net s) (Deliver l k) events q = stepped net (all_fed net s) (Deliver l k) events q h in
    absurd (no_delivery net s step.next l settled (subst (λ w. happens net (all_fed net s) (Deliver l w) ≡ Some step.next) single.0 step.first))
no_step net s q (Trap i a c ∷ events) settled single none h = absurd single.0

same_end : {X : Type 0} (net : Network X) (inputs : List (List ℕ)) (events all : List Event) (s q : State X) → IsDeterminate net
    → LeadsTo net inputs events s → IsQuietRun net inputs all q → length (firings_in events) ≡ length (firings_in all) → IsSettled net s
    → all_fed net s ≡ all_fed net q
same_end net inputs events all s q det leads quiet equal settled =
    let fed_too : FedRun net inputs events s = fed_run net inputs events s det leads settled.untrapped in
    let on : Onward net (all_fed net s) q (events ++ fed_too.more) all =
    onward net inputs (events ++ fed_too.more) all (all_fed net s) q det fed_too.leads settled.untrapped quiet in
    let count : length (firings_in (events ++ fed_too.more)) ≡ length (firings_in events) = fed_too.none_in in
    let sum : length (firings_in (events ++ fed_too.more)) + length (firings_in on.others) ≡ length (firings_in all) = on.as_many in
    no_step net s (all_fed net q) on.others settled on.single (omega arith) on.leads

pub as_many_firings : {X : Type 0} (net : Network X) (inputs : List (List ℕ)) (events all : List Event) (s q : State X) → IsDeterminate net
    → LeadsTo net inputs events s → IsQuietRun net inputs all q → AsManyFirings net s events all
as_many_firings net inputs events all s q det leads quiet = record {
  most = (let on : Onward net s q events all = besides net inputs events all s q det leads quiet in
      let sum : length (firings_in events) + length (firings_in on.others) ≡ length (firings_in all) = on.as_many in omega arith);
  all_made = λ equal settled. record {
    settled = settled;
    nothing = λ i a. ap (λ w. effect_at net w i a) (same_end net inputs events all s q det leads quiet equal settled) ∙ quiet.quiet.nothing i a;
  };
}
