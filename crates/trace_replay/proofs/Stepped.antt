-- What a line does to a network between two lines.
use Rattle.std.proofs.Common.{◌≡◌, ℕ, ◌≤◌, Bool, true, false, List, length, refl, sym, ap, subst, ◌∙◌, arith}
use Rattle.std.specs.Prelude.{Option, Some, is_some, map, slice_get}
use Rattle.std.specs.Option.{option_map}
use Rattle.std.proofs.lemmas.Option.{slice_get-map}
use Rattle.rvc_base.specs.declared.trap.Trap.{Trap as TrapName}
use Rattle.rvc_io.specs.Feeds.{Inputs}
use Rattle.port_files.specs.Coming.{Reading}
use Rattle.trace_text.specs.declared.line.Line.{Line}
use Rattle.trace_text.specs.declared.line.Line.TheVariants.{Header as FirstLine, Inst, Fire, Deliver, Grow, Quiet, Trap as TrapLine, Stall, Budget}
use Rattle.net_model.specs.declared.wiring.Counts.{Counts}
use Rattle.net_model.specs.declared.wiring.Link.{Link}
use Rattle.net_model.specs.State.{State, effect_at, need_of, untaken}
use Rattle.net_model.specs.Ends.{Grows}
use Rattle.net_model.specs.Event.{Fire as FireEvent, after_firing, happens, trap}
use Rattle.net_model.specs.Trace.{after_delivery, grown}
use Rattle.net_model.specs.Cell.{Cell}
use Rattle.net_model.proofs.Commuting.{Fired, fired_unless}
use Rattle.net_model.proofs.Keeping.{Changed, changed}
use Rattle.net_state.specs.declared.filling.Filled.{Filled}
use Rattle.net_state.specs.Held.{Held, HoldFew}
use Rattle.net_state.specs.Moving.{SameActors, SameMarks}
use Rattle.net_state.specs.Standing.{StandsSince}
use Rattle.net_state.specs.TakingBack.{NoMoreWait}
use Rattle.network_runner.specs.Counting.{IsToPort}
use Rattle.trace_replay.specs.Holding.{AreEmpty, DeliversHeld, FitTaken, StandsHeld, stacked}
use Rattle.trace_replay.specs.declared.holding.TakenBack.{TakenBack}
use Rattle.network_runner.specs.Filling.{IsFeedOf as IsFeedOfReader, ReadersFit}
use Rattle.network_runner.proofs.Flowing.{fire_gone}
use Rattle.trace_replay.proofs.Behind.{behind_none, behind_still, taken_fewer, unarrived_still}
use Rattle.network_runner.proofs.Numbers.{arrived_long, rests_long, sent_long}
use Rattle.trace_replay.specs.Between.{CanGoOn, CountsBy, CountsEnd, EndsBy, FailsBy, GoesBy, IsAt, IfFails, OnEnds, Steps, is_still_end}
use Rattle.trace_replay.specs.Counting.{AreFewCounted, CatchesUp, CountsDelivery, CountsFiring, FitLinks}
use Rattle.trace_replay.specs.Ending.{EndsNotSo, EndsSo, HoldEnough, IsTrueEnd}
use Rattle.trace_replay.specs.Feeding.{IsFeedRead}
use Rattle.trace_replay.specs.Growing.{GrowsBy, StillFits}
use Rattle.trace_replay.specs.declared.growth.Growth.TheVariants.{Untrue, Grown}
use Rattle.trace_replay.specs.Judging.{EventFails, TrapComes, Trial, is_end}
use Rattle.trace_replay.specs.Trying.{AllWork, FiresOn, TrapsNotSo, TrapsSo}
use Rattle.trace_replay.specs.declared.came.Came.{Came}
use Rattle.trace_replay.specs.declared.came.Came.TheVariants.{Goes, Ends, Fails, FeedFails}
use Rattle.trace_replay.specs.declared.why.Why.{Why}
use Rattle.trace_replay.specs.declared.why.Why.TheVariants.{End as EndIs, Trap}
use Rattle.trace_replay.proofs.Chained.{There, there}
use Rattle.trace_replay.proofs.Counted.{delivery_counts, end_counts, firing_counts, growth_counts}
use Rattle.trace_replay.proofs.Ended.{fits_after, untrapped_after}
use Rattle.trace_replay.proofs.Growths.{HasGrown, grown_is, input_still}
use Rattle.trace_replay.proofs.Onward.{trap_goes, unless_trapped, untrapped_goes}
use Rattle.trace_replay.proofs.Traces.{next_of}
use Rattle.trace_replay.proofs.Widened.{can_grow_after}

-- A firing: from outside nothing comes.

pub fired_goes : {X : Type 0} (grow i a : ℕ) (held new : Held (Cell X)) (taken : TakenBack) (readings : List (Option Reading)) (numbers numbers_new : Counts) (feeds : Inputs) → FiresOn i a held new
    → GoesBy grow (Fire i a) (record { held = held; taken = taken; readings = readings; numbers = numbers; feeds = feeds }) (record { held = new; taken = taken; readings = readings; numbers = numbers_new; feeds = feeds })
fired_goes {X} grow i a held new taken readings numbers numbers_new feeds fires t inputs opened s same wired lawful at =
    let both = fires t.net opened s at.stands.stands in
    next_of
    ((next : State X) × Steps t opened s (Fire i a) next × IsAt t.net inputs (record { held = new; taken = taken; readings = readings; numbers = numbers_new; feeds = feeds }) opened next)
    (happens t.net s (FireEvent i a)) (λ next. StandsSince t.net new opened next)
    (λ u h stands.
    let one : Fired t.net s u i a = fired_unless t.net s u i a s.trapped refl h in (
      u,
      record { is_true = tt; goes_so = h; is_due = both.0 },
      record {
        stands = record {
          stands = stands;
          fed = behind_still t.net inputs s u (stacked taken) readings feeds
              (unarrived_still t.net s u 1 at.stands.stands.now.stands.flows.count stands.now.stands.flows.count (fire_gone t.net wired lawful s u i a h)) at.stands.fed;
        };
        fits = λ m link flow at_link here input.
            let was : Changed (after_firing i (need_of (slice_get t.net.leaves i) a) one.sent) s.flows m link flow =
            changed (after_firing i (need_of (slice_get t.net.leaves i) a) one.sent) t.net.links s.flows m link flow at_link (ap (λ w. slice_get w.flows m) one.is ∙ here) in
            let low : untaken was.old ≤ was.old.capacity = at.fits m link was.old at_link was.there input in
            subst (λ f. untaken f ≤ f.capacity) was.is (omega (arith, low));
      },
    ))
    both.1

pub fired_counts : {X : Type 0} (grow i a : ℕ) (held : Held (Cell X)) (taken : TakenBack) (readings : List (Option Reading)) (numbers numbers_new : Counts) (feeds : Inputs) → CountsFiring numbers numbers_new
    → CountsBy grow (Fire i a) (record { held = held; taken = taken; readings = readings; numbers = numbers; feeds = feeds }) numbers_new
fired_counts grow i a held taken readings numbers numbers_new feeds counts t inputs opened s same wired lawful at next h =
    firing_counts t.net inputs held s next i a numbers numbers_new wired lawful at.stands.stands.now counts h

pub fired_ready : {X : Type 0} (grow : ℕ) (links : List Link) (came : ℕ) (held new : Held (Cell X)) (taken : TakenBack) (readings : List (Option Reading)) (numbers numbers_new : Counts) (feeds : Inputs)
    → CountsFiring numbers numbers_new → AllWork new.cells → SameActors held.cells new.cells → NoMoreWait held new → new.links ≡ held.links → new.capacities ≡ held.capacities
    → CanGoOn (record { held = held; taken = taken; readings = readings; numbers = numbers; feeds = feeds }) links came grow
    → CanGoOn (record { held = new; taken = taken; readings = readings; numbers = numbers_new; feeds = feeds }) links came grow
fired_ready grow links came held new taken readings numbers numbers_new feeds counts work same fewer same_links same_capacities ready = record {
  links_are = same_links ∙ ready.links_are;
  few = ready.few;
  few_held = subst HoldFew (sym same_capacities) ready.few_held;
  work = work;
  taken_fits = taken_fewer held new taken same_links same_capacities fewer ready.taken_fits;
  readers = ready.readers;
  came_for_each = ready.came_for_each;
  numbers = record {
    arrived = ap (λ v. length v.items) counts.arrived ∙ ready.numbers.arrived;
    rests = ap (λ v. length v.items) counts.rests ∙ ready.numbers.rests;
    ports = subst (λ v. IsToPort links (length v.items)) (sym counts.sent) ready.numbers.ports;
  };
  queues = can_grow_after grow links held.cells new.cells same ready.queues;
  enough = subst (HoldEnough links) (sym same_capacities) ready.enough;
}

-- A trap.

pub trapped_ends : {X : Type 0} (grow i a : ℕ) (c : TrapName) (held : Held (Cell X)) (taken : TakenBack) (readings : List (Option Reading)) (numbers : Counts) (feeds : Inputs) → TrapsSo i a c held
    → EndsBy grow (TrapLine i a c) (record { held = held; taken = taken; readings = readings; numbers = numbers; feeds = feeds })
trapped_ends grow i a c held taken readings numbers feeds traps t inputs opened s same wired lawful at =
    let comes : TrapComes t.net opened s i a (effect_at t.net s i a) c = traps t.net opened s at.stands.stands in (
      record s { trapped = true },
      record {
        is_true = refl;
        goes_so = unless_trapped s.trapped (trap s c (effect_at t.net s i a)) (Some (record s { trapped = true })) at.stands.stands.now.stands.untrapped
            (trap_goes t.net opened s i a (effect_at t.net s i a) c comes);
        is_due = comes;
      },
    )

pub untrapped_fails : {X : Type 0} (grow i a : ℕ) (c : TrapName) (held : Held (Cell X)) (taken : TakenBack) (readings : List (Option Reading)) (numbers : Counts) (feeds : Inputs) → TrapsNotSo i a c held
    → FailsBy grow (TrapLine i a c) (record { held = held; taken = taken; readings = readings; numbers = numbers; feeds = feeds }) Trap
untrapped_fails grow i a c held taken readings numbers feeds traps_not t inputs opened s same wired lawful at = (refl, traps_not t.net opened s at.stands.stands)

-- .. and what was sent is counted
pub over_counts : {X : Type 0} (grow : ℕ) (line : Line) (links : List Link) (held : Held (Cell X)) (taken : TakenBack) (readings : List (Option Reading)) (numbers numbers_new : Counts) (feeds : Inputs)
    → held.links ≡ links → is_end line ≡ true → AreFewCounted numbers → CatchesUp held.cells links numbers numbers_new
    → CountsEnd grow line (record { held = held; taken = taken; readings = readings; numbers = numbers; feeds = feeds }) numbers_new
over_counts grow line links held taken readings numbers numbers_new feeds links_are over few catches t inputs opened s same wired lawful at next h =
    end_counts t.net inputs held s next line numbers numbers_new wired lawful at.stands.stands.now over few.firings
    (subst (λ ls. CatchesUp held.cells ls numbers numbers_new) (sym (at.stands.stands.now.is_of.links_are ∙ links_are)) catches) h

pub is_over : (line : Line) → is_still_end line ≡ true → is_end line ≡ true
is_over Quiet still = refl
is_over (Stall i a l) still = refl
is_over Budget still = refl
is_over (TrapLine i a c) still = refl
is_over (FirstLine n l g) still = cc
is_over (Inst k) still = cc
is_over (Fire i a) still = cc
is_over Deliver still = cc
is_over (Grow l c) still = cc

-- A delivery.

pub delivered_goes : {X : Type 0} (grow : ℕ) (held new : Held (Cell X)) (taken taken_new : TakenBack) (readings readings_new : List (Option Reading)) (numbers numbers_new : Counts) (feeds feeds_new : Inputs) (came : List Filled)
    → DeliversHeld held new (stacked taken) readings readings_new feeds feeds_new came → AreEmpty (stacked taken_new)
    → GoesBy grow Deliver (record { held = held; taken = taken; readings = readings; numbers = numbers; feeds = feeds }) (record { held = new; taken = taken_new; readings = readings_new; numbers = numbers_new; feeds = feeds_new })
delivered_goes grow held new taken taken_new readings readings_new numbers numbers_new feeds feeds_new came delivers none t inputs opened s same wired lawful at =
    let made = delivers.states t.net inputs s at.stands.stands.now wired at.stands.fed in (
      after_delivery t.net s,
      record {
        is_true = tt;
        goes_so = untrapped_goes t.net s s.trapped at.stands.stands.now.stands.untrapped;
        is_due = tt;
      },
      record {
        stands = record { stands = made.stands; fed = behind_none t.net inputs (after_delivery t.net s) (stacked taken_new) readings_new feeds_new none made.fed };
        fits = fits_after t.net held s wired at.stands.stands.now at.fits;
      },
    )

pub delivered_counts : {X : Type 0} (grow : ℕ) (links : List Link) (held new : Held (Cell X)) (taken taken_new : TakenBack) (readings readings_new : List (Option Reading)) (numbers caught numbers_new : Counts) (feeds feeds_new : Inputs) (came : List Filled)
    → DeliversHeld held new (stacked taken) readings readings_new feeds feeds_new came → held.links ≡ links → AreFewCounted numbers → HoldFew held.capacities
    → CatchesUp held.cells links numbers caught → CountsDelivery came caught numbers_new
    → CountsBy grow Deliver (record { held = held; taken = taken; readings = readings; numbers = numbers; feeds = feeds }) numbers_new
delivered_counts grow links held new taken taken_new readings readings_new numbers caught numbers_new feeds feeds_new came delivers links_are few few_held catches counts t inputs opened s same wired lawful at next h =
    let made = delivers.states t.net inputs s at.stands.stands.now wired at.stands.fed in
    delivery_counts t.net inputs held new s wired lawful at.stands.stands.now numbers caught numbers_new came few few_held
    (subst (λ ls. CatchesUp held.cells ls numbers caught) (sym (at.stands.stands.now.is_of.links_are ∙ links_are)) catches) counts made.stands.now made.told next h

fit_caught : {X : Type 0} (cells : List (Cell X)) (links : List Link) (old new : Counts) → CatchesUp cells links old new → FitLinks links old → FitLinks links new
fit_caught cells links old new catches fit = record {
  arrived = ap (λ v. length v.items) catches.arrived ∙ fit.arrived;
  rests = ap (λ v. length v.items) catches.rests ∙ fit.rests;
  ports = subst (IsToPort links) (sym (ap (λ xs. length xs) catches.sent ∙ sent_long cells links old.sent.items)) fit.ports;
}

pub fit_delivered : {X : Type 0} (cells : List (Cell X)) (links : List Link) (came : List Filled) (old caught new : Counts) → CatchesUp cells links old caught → CountsDelivery came caught new → FitLinks links old → FitLinks links new
fit_delivered cells links came old caught new catches counts fit =
    let now : FitLinks links caught = fit_caught cells links old caught catches fit in
    record {
      arrived = ap (λ xs. length xs) counts.arrived ∙ (arrived_long came caught.arrived.items ∙ now.arrived);
      rests = ap (λ xs. length xs) counts.rests ∙ (rests_long came caught.rests.items ∙ now.rests);
      ports = subst (λ v. IsToPort links (length v.items)) (sym counts.sent) now.ports;
    }

pub delivered_ready : {X : Type 0} (grow : ℕ) (links : List Link) (came came_new : ℕ) (held new : Held (Cell X)) (taken taken_new : TakenBack) (readings readings_new : List (Option Reading)) (numbers numbers_new : Counts) (feeds feeds_new : Inputs)
    → FitTaken new taken_new → ReadersFit links readings_new feeds_new → came_new ≡ came → FitLinks links numbers_new → SameActors held.cells new.cells → SameMarks held.cells new.cells → new.links ≡ held.links
    → new.capacities ≡ held.capacities
    → CanGoOn (record { held = held; taken = taken; readings = readings; numbers = numbers; feeds = feeds }) links came grow
    → CanGoOn (record { held = new; taken = taken_new; readings = readings_new; numbers = numbers_new; feeds = feeds_new }) links came_new grow
delivered_ready grow links came came_new held new taken taken_new readings readings_new numbers numbers_new feeds feeds_new taken_fits fit came_is counted same marks same_links same_capacities ready = record {
  links_are = same_links ∙ ready.links_are;
  few = ready.few;
  few_held = subst HoldFew (sym same_capacities) ready.few_held;
  work = untrapped_after held.cells new.cells same marks ready.work;
  taken_fits = taken_fits;
  readers = fit;
  came_for_each = came_is ∙ ready.came_for_each;
  numbers = counted;
  queues = can_grow_after grow links held.cells new.cells same ready.queues;
  enough = subst (HoldEnough links) (sym same_capacities) ready.enough;
}

-- the feed of a link that has a reader
pub feed_named : (links : List Link) (old readings : List (Option Reading)) (feeds : Inputs) (feed : ℕ) → ReadersFit links readings feeds → map is_some readings ≡ map is_some old
    → IsFeedOfReader links readings feed → IsFeedRead links (map is_some old) feed
feed_named links old readings feeds feed fit same named =
    let at : There links named.0 = there readings links named.0 (Some named.1) (sym fit.count) named.2 in
    (named.0, at.item, at.at, ap (λ ms. slice_get ms named.0) (sym same) ∙ (slice_get-map is_some readings named.0 ∙ ap (option_map is_some) named.2), named.3)

-- End lines.

end_steps : {X : Type 0} (t : Trial X) (opened s : State X) (line : Line) → IsTrueEnd t.net t.grow s line → Steps t opened s line s
end_steps t opened s Quiet h = record { is_true = (h, refl); goes_so = refl; is_due = tt }
end_steps t opened s (Stall i a l) h = record { is_true = (h, refl); goes_so = refl; is_due = tt }
end_steps t opened s Budget h = record { is_true = (h, refl); goes_so = refl; is_due = tt }
end_steps t opened s (TrapLine i a c) h = absurd h
end_steps t opened s (FirstLine n l g) h = absurd h
end_steps t opened s (Inst k) h = absurd h
end_steps t opened s (Fire i a) h = absurd h
end_steps t opened s Deliver h = absurd h
end_steps t opened s (Grow l c) h = absurd h

pub ended_ends : {X : Type 0} (grow : ℕ) (line : Line) (held : Held (Cell X)) (taken : TakenBack) (readings : List (Option Reading)) (numbers : Counts) (feeds : Inputs) → EndsSo grow line held (stacked taken) readings feeds
    → EndsBy grow line (record { held = held; taken = taken; readings = readings; numbers = numbers; feeds = feeds })
ended_ends grow line held taken readings numbers feeds ends t inputs opened s same wired lawful at =
    (s, end_steps t opened s line (subst (λ g. IsTrueEnd t.net g s line) (sym same) (ends t.net inputs opened s at.stands wired lawful at.fits)))

end_fails : {X : Type 0} (t : Trial X) (opened s : State X) (line : Line) → is_still_end line ≡ true → (IsTrueEnd t.net t.grow s line → ⊥) → EventFails t opened s line EndIs
end_fails t opened s Quiet still not_so = (refl, not_so)
end_fails t opened s (Stall i a l) still not_so = (refl, not_so)
end_fails t opened s Budget still not_so = (refl, not_so)
end_fails t opened s (TrapLine i a c) still not_so = cc
end_fails t opened s (FirstLine n l g) still not_so = cc
end_fails t opened s (Inst k) still not_so = cc
end_fails t opened s (Fire i a) still not_so = cc
end_fails t opened s Deliver still not_so = cc
end_fails t opened s (Grow l c) still not_so = cc

pub not_ended_fails : {X : Type 0} (grow : ℕ) (line : Line) (held : Held (Cell X)) (taken : TakenBack) (readings : List (Option Reading)) (numbers : Counts) (feeds : Inputs) → is_still_end line ≡ true
    → EndsNotSo grow line held (stacked taken) readings feeds → FailsBy grow line (record { held = held; taken = taken; readings = readings; numbers = numbers; feeds = feeds }) EndIs
not_ended_fails grow line held taken readings numbers feeds still ends_not t inputs opened s same wired lawful at =
    end_fails t opened s line still (λ h. ends_not t.net inputs opened s at.stands wired lawful at.fits (subst (λ g. IsTrueEnd t.net g s line) same h))

-- The growth of a link.

pub grown_goes : {X : Type 0} (grow l capacity : ℕ) (held new : Held (Cell X)) (taken taken_new : TakenBack) (readings readings_new : List (Option Reading)) (numbers : Counts) (feeds feeds_new : Inputs)
    → GrowsBy grow l capacity held (stacked taken) readings feeds new (stacked taken_new) readings_new feeds_new Grown
    → GoesBy grow (Grow l capacity) (record { held = held; taken = taken; readings = readings; numbers = numbers; feeds = feeds }) (record { held = new; taken = taken_new; readings = readings_new; numbers = numbers; feeds = feeds_new })
grown_goes {X} grow l capacity held new taken taken_new readings readings_new numbers feeds feeds_new grows t inputs opened s same wired lawful at =
    let both = grows t.net inputs opened s at.stands wired lawful in
    next_of
    ((next : State X) × Steps t opened s (Grow l capacity) next × IsAt t.net inputs (record { held = new; taken = taken_new; readings = readings_new; numbers = numbers; feeds = feeds_new }) opened next)
    (grown s l capacity (slice_get s.flows l)) (λ next. StandsHeld t.net inputs new (stacked taken_new) readings_new feeds_new opened next)
    (λ u h stands.
    let to : HasGrown s u l capacity = grown_is s u l capacity (slice_get s.flows l) refl h in (
      u,
      record { is_true = subst (λ g. Grows t.net g s l capacity) (sym same) both.0; goes_so = h; is_due = tt },
      record {
        stands = stands;
        fits = λ m link flow at_link here input. at.fits m link flow at_link (input_still t.net s u grow l capacity m link flow both.0 to at_link here input) input;
      },
    ))
    both.1

pub untrue_fails : {X : Type 0} (grow l capacity : ℕ) (held new : Held (Cell X)) (taken taken_new : TakenBack) (readings readings_new : List (Option Reading)) (numbers : Counts) (feeds feeds_new : Inputs)
    → GrowsBy grow l capacity held (stacked taken) readings feeds new (stacked taken_new) readings_new feeds_new Untrue
    → FailsBy grow (Grow l capacity) (record { held = held; taken = taken; readings = readings; numbers = numbers; feeds = feeds }) EndIs
untrue_fails grow l capacity held new taken taken_new readings readings_new numbers feeds feeds_new untrue t inputs opened s same wired lawful at =
    (refl, λ h. untrue t.net inputs opened s at.stands wired lawful (subst (λ g. Grows t.net g s l capacity) same h))

pub grown_counts : {X : Type 0} (grow l capacity : ℕ) (held : Held (Cell X)) (taken : TakenBack) (readings : List (Option Reading)) (numbers : Counts) (feeds : Inputs)
    → CountsBy grow (Grow l capacity) (record { held = held; taken = taken; readings = readings; numbers = numbers; feeds = feeds }) numbers
grown_counts grow l capacity held taken readings numbers feeds t inputs opened s same wired lawful at next h =
    growth_counts t.net inputs held s next l capacity numbers wired lawful at.stands.stands.now h

pub grown_ready : {X : Type 0} (grow : ℕ) (links : List Link) (came came_new : ℕ) (held new : Held (Cell X)) (taken taken_new : TakenBack) (readings readings_new : List (Option Reading)) (numbers : Counts) (feeds feeds_new : Inputs)
    → came_new ≡ came → StillFits links held new taken_new readings_new feeds_new
    → CanGoOn (record { held = held; taken = taken; readings = readings; numbers = numbers; feeds = feeds }) links came grow
    → CanGoOn (record { held = new; taken = taken_new; readings = readings_new; numbers = numbers; feeds = feeds_new }) links came_new grow
grown_ready grow links came came_new held new taken taken_new readings readings_new numbers feeds feeds_new same_came still ready = record {
  links_are = still.same_links ∙ ready.links_are;
  few = ready.few;
  few_held = still.few_held;
  work = untrapped_after held.cells new.cells still.actors still.marks ready.work;
  taken_fits = still.taken_fits;
  readers = still.readers;
  came_for_each = same_came ∙ ready.came_for_each;
  numbers = ready.numbers;
  queues = can_grow_after grow links held.cells new.cells still.actors ready.queues;
  enough = still.enough;
}

pub on_ends : (so : Bool) (came : Came) (P : Type 0) → (so ≡ false → came ≡ Fails EndIs) → (so ≡ true → P) → OnEnds came P
on_ends true Goes P fails h = tt
on_ends true Ends P fails h = h refl
on_ends true (Fails why) P fails h = tt
on_ends true (FeedFails feed) P fails h = tt
on_ends false came P fails h = subst (λ a. OnEnds a P) (sym (fails refl)) tt

pub on_fails : (so : Bool) (came : Came) (P : Why → Type 0) → (so ≡ true → came ≡ Ends) → (so ≡ false → came ≡ Fails EndIs) → (so ≡ false → P EndIs) → IfFails came P
on_fails true came P ends fails h = subst (λ a. IfFails a P) (sym (ends refl)) tt
on_fails false came P ends fails h = subst (λ a. IfFails a P) (sym (fails refl)) (h refl)
