-- How far a run has come between two of its rounds, as its loop keeps it.
use Rattle.std.proofs.Common.{◌≡◌, ⊎_elim, inl, inr, ℕ, ◌+◌, ◌-◌, ◌*◌, ◌<◌, ◌≤◌, Bool, true, false, List, refl, sym, ap, subst, ◌∙◌, arith}
use Rattle.std.specs.Prelude.{Option, None, Some, IfNone, slice_get, slice_index_or}
use Rattle.rvc_io.specs.Channels.{Channels}
use Rattle.rvc_io.specs.Count.{HasRisen}
use Rattle.rvc_io.specs.Feeds.{Inputs}
use Rattle.net_model.specs.Network.{Network}
use Rattle.net_model.specs.State.{State}
use Rattle.net_model.specs.Cell.{Cell, IsSameActor}
use Rattle.net_state.proofs.Gaining.{same_actor, some_is}
use Rattle.round_runner.specs.declared.outcome.RoundEnd.{RoundEnd}
use Rattle.round_runner.specs.declared.outcome.RoundEnd.TheVariants as round
use Rattle.round_runner.specs.declared.outcome.RunEnd.{RunEnd}
use Rattle.round_runner.specs.declared.outcome.RunEnd.TheVariants as end
use Rattle.round_runner.specs.Rounds.{Leaves, Made}
use Rattle.round_runner.specs.Running.{FeedsFit, Running, StandsWith, feed_of, has_feed}
use Rattle.network_runner.specs.Arriving.{ArriveBy, RunArrives}
use Rattle.network_runner.specs.Asking.{Advances, ChannelsFit, EndLeaves, FaultIsTrue, FiringsTo, IsFeed, IsSameRun, IsUntouched, RoundLeaves, WritesWithin, end_of, growth_left, one_if, seen_run}
use Rattle.network_runner.specs.Filling.{SameOpen}
use Rattle.network_runner.proofs.Arrived.{ArriveSoFar, arrive_all, arrive_more, arrive_none}
use Rattle.network_runner.proofs.Continued.{RunSoFar, left_after, run_ends, run_goes_on, run_starts}
use Rattle.network_runner.proofs.Finished.{within_then}
use Rattle.network_runner.proofs.Going.{run_then}
use Rattle.network_runner.proofs.Whole.{channel_too, within_too}

-- From each state at which it stood, rounds were made that didn't end it. If it had ended before, nothing was touched.
pub record IsOnward {C S T X : Type 0} (cell : C → Cell X) (feeds : S → Inputs) (channels : T → Channels) (arrived : ℕ → ℕ → Type 0) (old now : Running C) (feeds_old feeds_now : S) (drains_old drains_now : T) (budget left : ℕ) : Type 0 where
  pub feeds_fit : FeedsFit now (feeds feeds_now)
  pub channels_fit : ChannelsFit now (channels drains_now)
  pub spent : now.counts.firings + left ≡ old.counts.firings + budget
  pub same_run : IsSameRun (seen_run cell old) (seen_run cell now)
  pub same_feeds : SameOpen (feeds feeds_old) (feeds feeds_now)
  pub others : WritesWithin old (channels drains_old) (channels drains_now)
  pub going : old.ended ≡ None → now.ended ≡ None
  pub untouched : (how : RunEnd) → old.ended ≡ Some how → IsUntouched cell feeds channels old now feeds_old feeds_now drains_old drains_now
  pub states : old.ended ≡ None → (net : Network X) (inputs : List (List ℕ)) (s : State X) → StandsWith net inputs (seen_run cell old) (feeds feeds_old) s
      → RunSoFar net inputs budget left s (seen_run cell old) (seen_run cell now) (feeds feeds_now) (channels drains_old) (channels drains_now)
  pub arrive : old.ended ≡ None → ArriveSoFar arrived old now budget left

-- what is left to do
abbrev pub still_to_do : {C : Type 0} → Running C → ℕ → ℕ
still_to_do now left = 2 * growth_left now.grow now.held.capacities + 2 * left + (1 - one_if now.idle)

run_none : {X : Type 0} (run : Running (Cell X)) → IsSameRun run run
run_none run = record {
  same_links = refl;
  same_actors = record { count = refl; each = λ i before after was is. subst (IsSameActor before) (some_is before after (sym was ∙ is)) (same_actor before) };
  same_ins = refl;
  same_outs = refl;
  same_reads = refl;
  same_writes = refl;
  same_kind = refl;
  same_burst = refl;
  same_grow = refl;
  same_workers = refl;
}

pub onward_starts : {C S T X : Type 0} (cell : C → Cell X) (feeds : S → Inputs) (channels : T → Channels) (arrived : ℕ → ℕ → Type 0) (run : Running C) (feeds_now : S) (drains_now : T) (budget : ℕ)
    → FeedsFit run (feeds feeds_now) → ChannelsFit run (channels drains_now)
    → IsOnward cell feeds channels arrived run run feeds_now feeds_now drains_now drains_now budget budget
onward_starts cell feeds channels arrived run feeds_now drains_now budget feeds_fit channels_fit = record {
  feeds_fit = feeds_fit;
  channels_fit = channels_fit;
  spent = refl;
  same_run = run_none (seen_run cell run);
  same_feeds = record { same_names = λ name. refl; same_first = refl; same_open = λ feed. refl; faults_stay = omega arith };
  others = record { same_telling = refl; same_open = λ channel. refl; same_others = λ told channel other. refl; faults_stay = omega arith };
  going = λ e. e;
  untouched = λ how e. (refl, refl, refl);
  states = λ going net inputs s stands. run_starts net inputs budget s (seen_run cell run) (feeds feeds_now) (channels drains_now) stands;
  arrive = λ going. arrive_none arrived run budget;
}

feeds_then : (a b c : Inputs) → SameOpen a b → SameOpen b c → SameOpen a c
feeds_then a b c one two = record {
  same_names = λ name. two.same_names name ∙ one.same_names name;
  same_first = two.same_first ∙ one.same_first;
  same_open = λ feed. two.same_open feed ∙ one.same_open feed;
  faults_stay = (let first = one.faults_stay in let second = two.faults_stay in omega (arith, first, second));
}

one_at_most : (b : Bool) → one_if b ≤ 1
one_at_most true = omega arith
one_at_most false = omega arith

none_ended : (answer : RoundEnd) (how : RunEnd) → end_of answer ≡ None → answer ≡ round.End how → ⊥
none_ended answer how going is = (let not_both : Some how ≡ None = sym (ap end_of is) ∙ going in cc)

if_none_is : {A : Type 0} (o : Option A) (P : Type 0) → o ≡ None → IfNone o P → P
if_none_is None P none p = p
if_none_is (Some x) P none p = cc

firings_left : (answer : RoundEnd) (left old new : ℕ) → end_of answer ≡ None → FiringsTo answer old new → new ≤ old + left → new + left_after answer left ≡ old + left
firings_left (round.Fired n) left old new going to within = (let is : new ≡ old + n = to in omega (arith, is, within))
firings_left round.Idle left old new going to within = (let is : new ≡ old = to in omega (arith, is))
firings_left (round.Grew link capacity) left old new going to within = (let is : new ≡ old = to in omega (arith, is))
firings_left (round.End how) left old new going to within = cc

risen_behind : (a b c : ℕ) → a ≤ b → HasRisen b c → HasRisen a c
risen_behind a b c more risen = ⊎_elim (λ less. inl (omega (arith, less, more))) (λ last. inr last) risen

feed_too : {C : Type 0} (now old : Running C) (feed : ℕ) → now.held.links ≡ old.held.links → now.reads ≡ old.reads → IsFeed now feed → IsFeed old feed
feed_too now old feed links reads is = (
  is.0,
  is.1,
  ap (λ ls. slice_get ls is.0) (sym links) ∙ is.2,
  subst (λ rs. has_feed rs is.1.from ≡ true) reads is.3,
  is.4 ∙ ap (λ ls. feed_of ls is.0) links,
)

-- A round was made.
module _ {C S T X : Type 0} (cell : C → Cell X) (feeds : S → Inputs) (channels : T → Channels) (arrived : ℕ → ℕ → Type 0) (old now next : Running C) (feeds_old feeds_now feeds_next : S) (drains_old drains_now drains_next : T) (budget left : ℕ) (answer : RoundEnd)
    (onward : IsOnward cell feeds channels arrived old now feeds_old feeds_now drains_old drains_now budget left)
    (leaves : RoundLeaves cell feeds channels now next feeds_now feeds_next drains_now drains_next left answer)
    (faults : now.ended ≡ None → FaultIsTrue cell feeds channels now next feeds_now feeds_next drains_now drains_next (end_of answer))
    (firings : now.ended ≡ None → FiringsTo answer now.counts.firings next.counts.firings)
    (within : next.counts.firings ≤ now.counts.firings + left)
    (ended : now.ended ≡ None → next.ended ≡ end_of answer)
    (advances : IfNone (end_of answer) (Advances now next))
    (arrives : now.ended ≡ None → ArriveBy arrived answer left now next)
    (same_end : (how : RunEnd) → now.ended ≡ Some how → answer ≡ round.End how)
    (untouched : (how : RunEnd) → now.ended ≡ Some how → IsUntouched cell feeds channels now next feeds_now feeds_next drains_now drains_next)
    (same_run : IsSameRun (seen_run cell now) (seen_run cell next))
    (feeds_fit : FeedsFit next (feeds feeds_next)) (same_feeds : SameOpen (feeds feeds_now) (feeds feeds_next))
    (others : WritesWithin now (channels drains_now) (channels drains_next)) where
  writes_now : now.writes ≡ old.writes
  writes_now = onward.same_run.same_writes

  pub run_too : IsSameRun (seen_run cell old) (seen_run cell next)
  run_too = run_then (seen_run cell old) (seen_run cell now) (seen_run cell next) onward.same_run same_run

  pub feeds_too : SameOpen (feeds feeds_old) (feeds feeds_next)
  feeds_too = feeds_then (feeds feeds_old) (feeds feeds_now) (feeds feeds_next) onward.same_feeds same_feeds

  pub others_too : WritesWithin old (channels drains_old) (channels drains_next)
  others_too = within_then old (channels drains_old) (channels drains_now) (channels drains_next) onward.others
      (within_too now old (channels drains_now) (channels drains_next) writes_now others)

  pub within_budget : next.counts.firings ≤ old.counts.firings + budget
  within_budget = (let spent = onward.spent in omega (arith, within, spent))

  -- a run that had ended before goes no further
  not_ended : end_of answer ≡ None → now.ended ≡ None
  not_ended going = by_end now.ended refl
    where
      by_end : (o : Option RunEnd) → now.ended ≡ o → now.ended ≡ None
      by_end None is = is
      by_end (Some how) is = absurd (none_ended answer how going (same_end how is))

  pub fired_within : (n : ℕ) → answer ≡ round.Fired n → n ≤ left
  fired_within n is =
      let fired : next.counts.firings ≡ now.counts.firings + n = subst (λ a. FiringsTo a now.counts.firings next.counts.firings) is (firings (not_ended (ap end_of is))) in
      omega (arith, fired, within)

  pub onward_more : (left_new : ℕ) → end_of answer ≡ None → left_new ≡ left_after answer left
      → IsOnward cell feeds channels arrived old next feeds_old feeds_next drains_old drains_next budget left_new
  onward_more left_new going left_is = record {
    feeds_fit = feeds_fit;
    channels_fit = record {
      trace = others.same_open 1 ∙ onward.channels_fit.trace;
      outputs = λ p is. others.same_open (2 + p) ∙ onward.channels_fit.outputs p (ap (λ ws. slice_index_or ws p false) (sym same_run.same_writes) ∙ is);
    };
    spent =
        let now_is : next.counts.firings + left_after answer left ≡ now.counts.firings + left = firings_left answer left now.counts.firings next.counts.firings going (firings (not_ended going)) within in
        let was : now.counts.firings + left ≡ old.counts.firings + budget = onward.spent in
        omega (arith, now_is, was, left_is);
    same_run = run_too;
    same_feeds = feeds_too;
    others = others_too;
    going = λ e. ended (not_ended going) ∙ going;
    untouched = λ how e. absurd (none_ended answer how going (same_end how (ap (λ r. r.ended) (onward.untouched how e).0 ∙ e)));
    states = λ e net inputs s stands.
        let so_far = onward.states e net inputs s stands in
        run_goes_on net inputs budget left s (seen_run cell old) (seen_run cell now) (feeds feeds_now) (channels drains_old) (channels drains_now) so_far stands.stands.stands.flows.count onward.same_run onward.others.same_telling
        answer left_new (seen_run cell next) (feeds feeds_next) (channels drains_next) (made net inputs budget so_far.reached (leaves (not_ended going) net inputs budget so_far.reached so_far.stands)) going left_is;
    arrive = λ e.
        let now_is : next.counts.firings + left_after answer left ≡ now.counts.firings + left = firings_left answer left now.counts.firings next.counts.firings going (firings (not_ended going)) within in
        arrive_more cell arrived old now budget left (onward.arrive e) onward.same_run next answer left_new going (arrives (not_ended going)) (ap (λ n. next.counts.firings + n) left_is ∙ now_is);
  }
    where
      made : (net : Network X) (inputs : List (List ℕ)) (most : ℕ) (reached : State X) → Leaves net inputs most left reached answer (seen_run cell now) (seen_run cell next) (feeds feeds_next) (channels drains_now) (channels drains_next)
          → Made net inputs most left reached answer (seen_run cell now) (seen_run cell next) (feeds feeds_next) (channels drains_now) (channels drains_next)
      made net inputs most reached = by_answer answer going
        where
          by_answer : (a : RoundEnd) → end_of a ≡ None → Leaves net inputs most left reached a (seen_run cell now) (seen_run cell next) (feeds feeds_next) (channels drains_now) (channels drains_next)
              → Made net inputs most left reached a (seen_run cell now) (seen_run cell next) (feeds feeds_next) (channels drains_now) (channels drains_next)
          by_answer (round.Fired n) going made = made
          by_answer round.Idle going made = made
          by_answer (round.Grew link capacity) going made = made
          by_answer (round.End how) going made = cc

  pub less_to_do : (left_new : ℕ) → end_of answer ≡ None → left_new ≡ left_after answer left → still_to_do next left_new < still_to_do now left
  less_to_do left_new going left_is =
      let nearer : 1 + 2 * growth_left next.grow next.held.capacities + one_if now.idle + 2 * now.counts.firings ≤ 2 * growth_left now.grow now.held.capacities + one_if next.idle + 2 * next.counts.firings =
      if_none_is (end_of answer) (Advances now next) going advances in
      let now_is : next.counts.firings + left_after answer left ≡ now.counts.firings + left = firings_left answer left now.counts.firings next.counts.firings going (firings (not_ended going)) within in
      let one : one_if now.idle ≤ 1 = one_at_most now.idle in
      let two : one_if next.idle ≤ 1 = one_at_most next.idle in
      omega (arith, nearer, now_is, one, two, left_is)

  -- The round ended the run.
  module _ (how : RunEnd) (is : answer ≡ round.End how) where
    end_is : end_of answer ≡ Some how
    end_is = ap end_of is

    pub run_leaves : EndLeaves cell feeds channels old next feeds_old feeds_next drains_old drains_next budget how
    run_leaves going net inputs s stands =
        let so_far = onward.states going net inputs s stands in
        run_ends net inputs budget left s (seen_run cell old) (seen_run cell now) (feeds feeds_now) (channels drains_old) (channels drains_now) so_far stands.stands.stands.flows.count onward.same_run onward.others.same_telling
        (seen_run cell next) (channels drains_next) how (feeds feeds_next)
        (subst (λ a. Leaves net inputs budget left so_far.reached a (seen_run cell now) (seen_run cell next) (feeds feeds_next) (channels drains_now) (channels drains_next)) is
        (leaves (onward.going going) net inputs budget so_far.reached so_far.stands))

    pub run_arrive : old.ended ≡ None → RunArrives arrived old next budget
    run_arrive going = arrive_all cell arrived old now budget left (onward.arrive going) onward.same_run next onward.spent how
        (subst (λ a. ArriveBy arrived a left now next) is (arrives (onward.going going)))

    later : (o : RunEnd) → FaultIsTrue cell feeds channels now next feeds_now feeds_next drains_now drains_next (Some o) → FaultIsTrue cell feeds channels old next feeds_old feeds_next drains_old drains_next (Some o)
    later (end.ReadFault feed) fault = (
      risen_behind (feeds feeds_old).faults (feeds feeds_now).faults (feeds feeds_next).faults onward.same_feeds.faults_stay fault.0,
      feed_too now old feed onward.same_run.same_links onward.same_run.same_reads fault.1,
    )
    later (end.WriteFault channel) fault = (
      risen_behind (channels drains_old).faults (channels drains_now).faults (channels drains_next).faults onward.others.faults_stay fault.0,
      channel_too now old channel writes_now fault.1,
    )
    later end.Quiet fault = tt
    later (end.Trapped inst action trap) fault = tt
    later (end.Stalled inst action link) fault = tt
    later end.Budget fault = tt

    pub run_faults : old.ended ≡ None → FaultIsTrue cell feeds channels old next feeds_old feeds_next drains_old drains_next (Some how)
    run_faults going = later how (subst (λ o. FaultIsTrue cell feeds channels now next feeds_now feeds_next drains_now drains_next o) end_is (faults (onward.going going)))

    pub run_ended : next.ended ≡ Some how
    run_ended = by_end now.ended refl
      where
        by_end : (o : Option RunEnd) → now.ended ≡ o → next.ended ≡ Some how
        by_end None was = ended was ∙ end_is
        by_end (Some other) was = ap (λ r. r.ended) (untouched other was).0 ∙ (was ∙ (sym (ap end_of (same_end other was)) ∙ end_is))

    -- it had ended before
    pub run_same_end : (other : RunEnd) → old.ended ≡ Some other → how ≡ other
    run_same_end other was =
        let so : now.ended ≡ Some other = ap (λ r. r.ended) (onward.untouched other was).0 ∙ was in
        let both : Some how ≡ Some other = sym end_is ∙ ap end_of (same_end other so) in cc

    pub run_untouched : (other : RunEnd) → old.ended ≡ Some other → IsUntouched cell feeds channels old next feeds_old feeds_next drains_old drains_next
    run_untouched other was =
        let before = onward.untouched other was in
        let so : now.ended ≡ Some other = ap (λ r. r.ended) before.0 ∙ was in
        let now_too = untouched other so in
        (now_too.0 ∙ before.0, now_too.1 ∙ before.1, now_too.2 ∙ before.2)
