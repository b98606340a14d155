-- An input link that is filled: the state that it leads to.
use Rattle.std.proofs.Common.{◌≡◌, ◌≢◌, ℕ, ◌+◌, ◌-◌, ◌<◌, ◌≤◌, min, true, false, List, [], ◌++◌, ℤ, length, map, take, drop, refl, sym, ap, subst, ◌∙◌, ⊎_elim, arith, append-nil, length-append, length-drop}
use Rattle.std.specs.Prelude.{Result, Ok, Err, IfOk, Option, None, Some, slice_get, slice_set, slice_index_or}
use Rattle.std.proofs.lemmas.Bool.{cases_eq, cases_lt}
use Rattle.std.proofs.lemmas.List.{length-map, length-set, length-take-le, drop-append-le, drop-drop, take-map, drop-map}
use Rattle.std.proofs.Math.Seq.{take-add}
use Rattle.rvc_base.specs.declared.scalar.Scalar.{Scalar}
use Rattle.rvc_base.specs.Storing.{conv}
use Rattle.rvc_base.specs.Lawful.{tokens_on}
use Rattle.net_model.specs.declared.wiring.End.{End}
use Rattle.net_model.specs.declared.wiring.End.TheVariants.{Leaf as AtLeaf, Net as AtNet}
use Rattle.net_model.specs.declared.wiring.Link.{Link}
use Rattle.net_model.specs.Network.{Network, is_input, is_output, is_outside, is_leaf_port}
use Rattle.net_model.specs.State.{Flow, State, untaken, waiting}
use Rattle.net_model.specs.Event.{after_arrival}
use Rattle.net_model.specs.Trace.{arrivals}
use Rattle.net_model.specs.Cell.{Cell}
use Rattle.net_model.specs.Ready.{tokens_of}
use Rattle.net_model.specs.PortFile.{tokens}
use Rattle.net_model.proofs.Arriving.{arrived, arrives_so}
use Rattle.net_state.specs.Moving.{AreApart, EachGains, HasRoomUpTo, IsWriter, SameActors, SameMarks, only_to}
use Rattle.net_state.specs.Held.{AreCounted, IsWorking, held_of}
use Rattle.net_state.specs.Working.{IsAtRest}
use Rattle.net_state.specs.Standing.{AreAllOut, IsHeld, IsNetOf, IsOpened, LiesIn, Stands, StandsIn, unarrived}
use Rattle.net_state.specs.Filling.{AreArrivals, AreToCome, Arrives, AtPort, AtReader, Fills, Inflow, IsFed, IsFilled, IsFull, Takes}
use Rattle.net_state.proofs.Gaining.{some_is, there_too, get_set_same, get_set_other, only_there}
use Rattle.net_state.proofs.Coming.{by_bool, if_true, if_false, is_own_port, on_cell, sent_stays}
use Rattle.net_state.proofs.Flows.{inbox_at, inbox_beside, length_waiting}
use Rattle.net_state.proofs.Kept.{marks_of_gains, reader_of, same_of_gains, waits_as_before}
use Rattle.net_state.proofs.Feeding.{held_most}
use Rattle.net_state.proofs.Moved.{same_part}

-- what waits once so many more have arrived
waits_arrived : (k : ℕ) (link : Link) (flow : Flow) → is_output link ≡ false → flow.taken ≤ flow.arrived → flow.arrived ≤ length flow.sent
    → waiting (after_arrival k link flow) ≡ waiting flow ++ take k (drop flow.arrived flow.sent)
waits_arrived k link flow inner before within =
    let len : length (take flow.arrived flow.sent) ≡ flow.arrived = length-take-le flow.arrived flow.sent within in
    ap (λ n. drop n (take (flow.arrived + k) flow.sent)) (if_false (is_output link) (flow.taken + k) flow.taken inner)
    ∙ (ap (drop flow.taken) (take-add flow.arrived k flow.sent)
    ∙ drop-append-le flow.taken (take flow.arrived flow.sent) (take k (drop flow.arrived flow.sent)) (omega (arith, len, before)))

-- what was sent on a link that no other's tokens reach lies where it did
lies_as_before : {X : Type 0} (gained : ℕ → ℕ → List ℤ) (old new : List (Cell X)) → EachGains gained old new → (link : Link) (tokens : List ℤ) (end : End)
    → IsWriter old end → LiesIn old link tokens end → LiesIn new link tokens end
lies_as_before gained old new gains link tokens (AtNet port) writer lies = tt
lies_as_before gained old new gains link tokens (AtLeaf inst port) writer lies =
    lies ∙ sym (ap (map (conv link.kind)) (sent_stays gained old new gains inst.0 port writer))

-- what is taken until the port is full or no token is left
least_of : {X : Type 0} (kind : Scalar) (j q capacity count : ℕ) (rest : Option ℕ) (cells : List (Cell X)) (coming : Option (List ℕ)) (ts : List ℤ) (before holds left : ℕ)
    → IsFilled kind j q capacity rest cells coming → AreToCome kind coming (drop count ts) → count ≤ length ts
    → length (tokens_of (slice_get cells j) q) ≡ before + count → left ≡ length ts → holds ≡ capacity → count ≡ min (holds - before) left
least_of kind j q capacity count None cells coming ts before holds left full told few waits left_is holds_is =
    omega (arith, full, few, waits, left_is, holds_is)
least_of kind j q capacity count (Some rest) cells None ts before holds left full told few waits left_is holds_is = absurd told
least_of kind j q capacity count (Some rest) cells (Some bytes) ts before holds left full told few waits left_is holds_is =
    let none : length ts - count ≡ 0 = sym (length-drop count ts) ∙ ap (λ us. length us) (sym told ∙ full.1.0) in
    omega (arith, none, full.0, few, waits, left_is, holds_is)

module _ {X : Type 0} (old new : List (Cell X)) (links : List Link) (capacities waited : List ℕ) (working : IsWorking old links capacities waited)
    (l j q : ℕ) (link : Link) (at : slice_get links l ≡ Some link) (to : link.to ≡ AtLeaf (record { 0 = j }) q) (input : is_input link ≡ true) where
  not_out : is_output link ≡ false
  not_out = ap is_outside to

  module _ (net : Network X) (s : State X) (is : IsNetOf net old links) (stands : Stands net old capacities s) (flow : Flow) (there : slice_get s.flows l ≡ Some flow) where
    at_net : slice_get net.links l ≡ Some link
    at_net = ap (λ ls. slice_get ls l) is.links_are ∙ at

    held_here : IsHeld old link flow (slice_index_or capacities l 0)
    held_here = stands.flows.each l link flow at_net there

    apart_here : AreApart net.links
    apart_here = subst AreApart (sym is.links_are) working.apart

    -- how many wait before the port
    pub waits_here : length (tokens_of (slice_get old j) q) ≡ untaken flow
    waits_here =
        let on = on_cell (slice_get old j) (λ cell. q < cell.actor.ins) (reader_of old links capacities waited working l link at j q to) in
        let leads : is_leaf_port j q link.to ≡ true = ap (is_leaf_port j q) to ∙ is_own_port j q in
        ap (λ o. length (tokens_of o q)) on.1
        ∙ (ap (λ ts. length ts) (stands.inboxes j on.0 on.1 q on.2 ∙ inbox_at j q net.links s.flows l link flow apart_here at_net there leads)
        ∙ length_waiting flow held_here.arrived)

    -- the next tokens that were sent came
    module _ (count : ℕ) (stored : List ℤ) (next : take count (drop flow.arrived flow.sent) ≡ stored) (fits : flow.arrived + count ≤ length flow.sent)
        (gains : EachGains (only_to j q stored) old new) where
      abbrev now : Flow
      now = after_arrival count link flow

      waits_now : waiting now ≡ waiting flow ++ stored
      waits_now = waits_arrived count link flow not_out held_here.taken held_here.arrived ∙ ap (λ us. waiting flow ++ us) next

      flow_now : slice_get (slice_set s.flows l now) l ≡ Some now
      flow_now = get_set_same s.flows l flow now there

      pub came_stands : Stands net new capacities (arrived s l count link flow)
      came_stands = record {
        actors = record {
          count = stands.actors.count ∙ sym gains.count;
          each = λ i after that free.
              let before = there_too new old i after gains.count that in
              let gained = gains.each i before.0 after before.1 that in
              stands.actors.each i before.0 before.1 (sym gained.trapped ∙ free) ∙ ap Some (sym gained.state);
        };
        inboxes = λ i after that p low.
            let before = there_too new old i after gains.count that in
            let gained = gains.each i before.0 after before.1 that in
            let low_before : p < before.0.actor.ins = subst (λ actor. p < actor.ins) gained.actor.same_actor low in
            gained.inboxes p low_before
            ∙ by_bool (is_leaf_port i p link.to)
            (λ leads.
            ap (λ us. tokens_on before.0.inboxes p ++ us) (if_true (is_leaf_port i p (AtLeaf (record { 0 = j }) q)) stored [] (sym (ap (is_leaf_port i p) to) ∙ leads))
            ∙ (ap (λ us. us ++ stored) (stands.inboxes i before.0 before.1 p low_before ∙ inbox_at i p net.links s.flows l link flow apart_here at_net there leads)
            ∙ (sym waits_now ∙ sym (inbox_at i p net.links (slice_set s.flows l now) l link now apart_here at_net flow_now leads))))
            (λ leads.
            ap (λ us. tokens_on before.0.inboxes p ++ us) (if_false (is_leaf_port i p (AtLeaf (record { 0 = j }) q)) stored [] (sym (ap (is_leaf_port i p) to) ∙ leads))
            ∙ (append-nil (tokens_on before.0.inboxes p)
            ∙ (stands.inboxes i before.0 before.1 p low_before ∙ sym (inbox_beside i p net.links s.flows l link now at_net leads))));
        flows = record {
          count = length-set s.flows l now ∙ stands.flows.count;
          each = λ m other that here there'. ⊎_elim
              (λ same.
              let other_is : other ≡ link = some_is other link (sym here ∙ (ap (slice_get net.links) same ∙ at_net)) in
              let that_is : that ≡ now = some_is that now (sym there' ∙ (ap (slice_get (slice_set s.flows l now)) same ∙ flow_now)) in
              subst (λ k. IsHeld new k that (slice_index_or capacities m 0)) (sym other_is)
              (subst (λ f. IsHeld new link f (slice_index_or capacities m 0)) (sym that_is)
              (subst (λ k. IsHeld new link now (slice_index_or capacities k 0)) (sym same) held_now)))
              (λ differ.
              let held = stands.flows.each m other that here (sym (get_set_other s.flows m l now differ) ∙ there') in
              record {
                lies = lies_as_before (only_to j q stored) old new gains other (drop that.arrived that.sent) other.from
                    (working.fits m other (sym (ap (λ ls. slice_get ls m) is.links_are) ∙ here)).writer held.lies;
                capacity_is = held.capacity_is;
                arrived = held.arrived;
                taken = held.taken;
                gone = held.gone;
              })
              (cases_eq m l);
        };
        untrapped = stands.untrapped;
      }
        where
          taken_is : now.taken ≡ flow.taken
          taken_is = if_false (is_output link) (flow.taken + count) flow.taken not_out

          held_now : IsHeld new link now (slice_index_or capacities l 0)
          held_now = record {
            lies = of_input link.from (drop now.arrived now.sent) input;
            capacity_is = held_here.capacity_is;
            arrived = fits;
            taken = omega (arith, taken_is, held_here.taken);
            gone = λ out. let no : true ≡ false = sym out ∙ not_out in cc;
          }
            where
              of_input : (end : End) (us : List ℤ) → is_outside end ≡ true → LiesIn new link us end
              of_input (AtNet port) us outside = tt
              of_input (AtLeaf inst port) us outside = cc

    module _ (count : ℕ) (ts : List ℤ) (come : unarrived (Some flow) ≡ map (conv link.kind) ts) (few : count ≤ length ts)
        (gains : EachGains (only_to j q (map (conv link.kind) (take count ts))) old new) where
      abbrev pub stored : List ℤ
      stored = map (conv link.kind) (take count ts)

      abbrev pub arrived_so : Flow
      arrived_so = after_arrival count link flow

      left_is : length flow.sent - flow.arrived ≡ length ts
      left_is = sym (length-drop flow.arrived flow.sent) ∙ (ap (λ us. length us) come ∙ length-map ts (conv link.kind))

      pub fits_sent : flow.arrived + count ≤ length flow.sent
      fits_sent = omega (arith, left_is, few, held_here.arrived)

      next_are : take count (drop flow.arrived flow.sent) ≡ stored
      next_are = ap (take count) come ∙ take-map (conv link.kind) count ts

      pub fed_stands : Stands net new capacities (arrived s l count link flow)
      fed_stands = came_stands count stored next_are fits_sent gains

      pub fed_opened : IsOpened net.links waited s.flows s.flows → IsOpened net.links waited (slice_set s.flows l arrived_so) (slice_set s.flows l arrived_so)
      fed_opened opened = record {
        whole = length-set s.flows l arrived_so ∙ opened.whole;
        each = λ m other before that here inner there' that'.
            let differ : m ≢ l = λ same.
            (let other_is : other ≡ link = some_is other link (sym here ∙ (ap (slice_get net.links) same ∙ at_net)) in
            let no : true ≡ false = sym input ∙ (sym (ap is_input other_is) ∙ inner) in cc) in
            opened.each m other before that here inner (sym (get_set_other s.flows m l arrived_so differ) ∙ there') (sym (get_set_other s.flows m l arrived_so differ) ∙ that');
      }

      -- the port holds so many more
      pub waits_after : length (tokens_of (slice_get new j) q) ≡ untaken flow + count
      waits_after =
          let on = on_cell (slice_get old j) (λ cell. q < cell.actor.ins) (reader_of old links capacities waited working l link at j q to) in
          let later = there_too old new j on.0 (sym gains.count) on.1 in
          let gained = gains.each j on.0 later.0 on.1 later.1 in
          let longer : length (tokens_on later.0.inboxes q) ≡ length (tokens_on on.0.inboxes q) + length stored =
          ap (λ us. length us) (gained.inboxes q on.2 ∙ ap (λ us. tokens_on on.0.inboxes q ++ us) (only_there j q stored))
          ∙ length-append (tokens_on on.0.inboxes q) stored in
          let many : length stored ≡ count = length-map (take count ts) (conv link.kind) ∙ length-take-le count ts few in
          let then_ : length (tokens_of (slice_get old j) q) ≡ length (tokens_on on.0.inboxes q) = ap (λ o. length (tokens_of o q)) on.1 in
          ap (λ o. length (tokens_of o q)) later.1
          ∙ (let sum : length (tokens_on later.0.inboxes q) ≡ untaken flow + count = omega (arith, longer, many, then_, waits_here) in sum)

  -- the tokens of a feed that came
  module _ (kind kind_new : Scalar) (count : ℕ) (coming_old coming_new : Option (List ℕ)) (same_kind : kind_new ≡ kind)
      (takes : Takes kind link.kind j q count old new coming_old coming_new) where
    gains_as_told : (ts : List ℤ) → AreToCome kind coming_old ts → EachGains (only_to j q (map (conv link.kind) (take count ts))) old new
    gains_as_told ts told = subst (λ us. EachGains (only_to j q (map (conv link.kind) us)) old new) (takes.first ts told).0 takes.gains

    pub fill_arrives : (net : Network X) (s : State X) → StandsIn net (held_of old links capacities waited) s
        → IsFed s l (slice_get links l) (record { kind = kind; bytes = coming_old })
        → Arrives net s l count (record { kind = kind_new; bytes = coming_new }) (held_of new links capacities waited)
    fill_arrives net s that fed =
        let fed_here : IsFed s l (Some link) (record { kind = kind; bytes = coming_old }) = subst (λ o. IsFed s l o (record { kind = kind; bytes = coming_old })) at fed in
        let first = takes.first fed_here.0 fed_here.1 in
        let on = there_too net.links s.flows l link (sym that.stands.flows.count) (ap (λ ls. slice_get ls l) that.is_of.links_are ∙ at) in
        let come : unarrived (Some on.0) ≡ map (conv link.kind) fed_here.0 = sym (ap unarrived on.1) ∙ fed_here.2 in
        let gains = gains_as_told fed_here.0 fed_here.1 in
        record {
          next = arrived s l count link on.0;
          happens_so = arrives_so net s l count link on.0 that.stands.untrapped (ap (λ ls. slice_get ls l) that.is_of.links_are ∙ at) on.1
              (fits_sent net s that.is_of that.stands on.0 on.1 count fed_here.0 come first.1 gains);
          stands = record {
            is_of = record { actors = that.is_of.actors ∙ sym (actors_stay (only_to j q (map (conv link.kind) (take count fed_here.0))) gains); links_are = that.is_of.links_are };
            stands = fed_stands net s that.is_of that.stands on.0 on.1 count fed_here.0 come first.1 gains;
          };
          fed = subst (λ o. IsFed (arrived s l count link on.0) l o (record { kind = kind_new; bytes = coming_new })) (sym at) (
            drop count fed_here.0,
            subst (λ k. AreToCome k coming_new (drop count fed_here.0)) (sym same_kind) first.2,
            ap unarrived (get_set_same s.flows l on.0 (after_arrival count link on.0) on.1)
                ∙ (sym (drop-drop count on.0.arrived on.0.sent) ∙ (ap (drop count) come ∙ drop-map (conv link.kind) count fed_here.0)),
          );
          «opened» = fed_opened net s that.is_of that.stands on.0 on.1 count fed_here.0 come first.1 gains;
        }
      where
        actors_stay : (arriving : ℕ → ℕ → List ℤ) → EachGains arriving old new → map (λ cell. cell.actor) new ≡ map (λ cell. cell.actor) old
        actors_stay arriving gains = same_part (λ cell. cell.actor) old new gains.count (λ i before after here there. (gains.each i before after here there).actor.same_actor)

    -- if the link is full or its feed has ended, these are as many as arrive at a delivery
    pub fill_arrivals : (rest : Option ℕ) → IsFilled kind j q (slice_index_or capacities l 0) rest new coming_new
        → (net : Network X) (s : State X) (other : Link) (flow : Flow) → StandsIn net (held_of old links capacities waited) s
        → IsFed s l (slice_get links l) (record { kind = kind; bytes = coming_old })
        → slice_get net.links l ≡ Some other → slice_get s.flows l ≡ Some flow → count ≡ arrivals other flow
    fill_arrivals rest full net s other flow that fed here there =
        let fed_here : IsFed s l (Some link) (record { kind = kind; bytes = coming_old }) = subst (λ o. IsFed s l o (record { kind = kind; bytes = coming_old })) at fed in
        let first = takes.first fed_here.0 fed_here.1 in
        let other_is : link ≡ other = some_is link other (sym (ap (λ ls. slice_get ls l) that.is_of.links_are ∙ at) ∙ here) in
        let come : unarrived (Some flow) ≡ map (conv link.kind) fed_here.0 = sym (ap unarrived there) ∙ fed_here.2 in
        let gains = gains_as_told fed_here.0 fed_here.1 in
        let waits : length (tokens_of (slice_get new j) q) ≡ untaken flow + count =
        waits_after net s that.is_of that.stands flow there count fed_here.0 come first.1 gains in
        let left : length flow.sent - flow.arrived ≡ length fed_here.0 =
        left_is net s that.is_of that.stands flow there count fed_here.0 come first.1 gains in
        let holds : flow.capacity ≡ slice_index_or capacities l 0 = (held_here net s that.is_of that.stands flow there).capacity_is in
        least_of kind j q (slice_index_or capacities l 0) count rest new coming_new fed_here.0 (untaken flow) flow.capacity (length flow.sent - flow.arrived)
        full first.2 first.1 waits left holds
        ∙ (sym (if_true (is_input link) (min (flow.capacity - untaken flow) (length flow.sent - flow.arrived)) (length flow.sent - flow.arrived) input)
        ∙ ap (λ k. arrivals k flow) other_is)

-- The facts of a filling, by the port to which the link leads.

pub ok_both : {A E : Type 0} (result : Result A E) (P Q R : A → Type 0) → ((a : A) → P a → Q a → R a) → IfOk result P → IfOk result Q → IfOk result R
ok_both (Ok a) P Q R f p q = f a p q
ok_both (Err e) P Q R f p q = p

module _ {X : Type 0} (old new : List (Cell X)) (links : List Link) (capacities waited : List ℕ) (working : IsWorking old links capacities waited)
    (l : ℕ) (link : Link) (at : slice_get links l ≡ Some link) (input : is_input link ≡ true) (before after : Inflow) (same_kind : after.kind ≡ before.kind) where
  abbrev Took : (ℕ → Type 0) → Link → ℕ → ℕ → Type 0
  Took told that j q = (count : ℕ) × Takes before.kind that.kind j q count old new before.bytes after.bytes × told count

  pub fill_told : (told : ℕ → Type 0) → AtPort link (Took told) link.to
      → Fills l before after told (held_of old links capacities waited) (held_of new links capacities waited)
  fill_told told took = by_end link.to refl took
    where
      by_end : (end : End) → link.to ≡ end → AtPort link (Took told) end
          → Fills l before after told (held_of old links capacities waited) (held_of new links capacities waited)
      by_end (AtNet port) to took = absurd took
      by_end (AtLeaf inst port) to took = record {
        count = took.0;
        told_is = took.2;
        took = subst (λ o. AtReader o (λ (that : Link) (j : ℕ) (q : ℕ). Takes before.kind that.kind j q took.0 old new before.bytes after.bytes)) (sym at)
            (subst (AtPort link (λ (that : Link) (j : ℕ) (q : ℕ). Takes before.kind that.kind j q took.0 old new before.bytes after.bytes)) (sym to) took.1);
        states = λ net s that fed.
            fill_arrives old new links capacities waited working l inst.0 port link at to input before.kind after.kind took.0 before.bytes after.bytes same_kind took.1 net s that fed;
      }

  pub fill_full : (rest : Option ℕ) → AtPort link (λ that j q. IsFilled before.kind j q (slice_index_or capacities l 0) rest new after.bytes) link.to
      → IsFull l rest (held_of new links capacities waited) after
  fill_full rest full = subst (λ o. AtReader o (λ (that : Link) (j : ℕ) (q : ℕ). IsFilled after.kind j q (slice_index_or capacities l 0) rest new after.bytes)) (sym at)
      (subst (λ k. AtPort link (λ (that : Link) (j : ℕ) (q : ℕ). IsFilled k j q (slice_index_or capacities l 0) rest new after.bytes) link.to) (sym same_kind) full)

  pub fill_all : {A E : Type 0} (result : Result A E) (tokens : A → ℕ) (rest : A → Option ℕ)
      → AtPort link (Took (λ count. IfOk result (λ a. tokens a ≡ count))) link.to
      → IfOk result (λ a. AtPort link (λ that j q. IsFilled before.kind j q (slice_index_or capacities l 0) (rest a) new after.bytes) link.to)
      → IfOk result (λ a. AreArrivals l (tokens a) (held_of old links capacities waited) before)
  fill_all {A} result tokens rest took full = by_end link.to refl took full
    where
      by_end : (end : End) → link.to ≡ end → AtPort link (Took (λ count. IfOk result (λ a. tokens a ≡ count))) end
          → IfOk result (λ a. AtPort link (λ that j q. IsFilled before.kind j q (slice_index_or capacities l 0) (rest a) new after.bytes) end)
          → IfOk result (λ a. AreArrivals l (tokens a) (held_of old links capacities waited) before)
      by_end (AtNet port) to took full = absurd took
      by_end (AtLeaf inst port) to took full =
          ok_both result (λ a. tokens a ≡ took.0) (λ a. IsFilled before.kind inst.0 port (slice_index_or capacities l 0) (rest a) new after.bytes)
          (λ a. AreArrivals l (tokens a) (held_of old links capacities waited) before)
          (λ a same filled. subst (λ n. AreArrivals l n (held_of old links capacities waited) before) (sym same)
          (λ net s other flow that fed here there.
          fill_arrivals old new links capacities waited working l inst.0 port link at to input before.kind after.kind took.0 before.bytes after.bytes same_kind took.1
          (rest a) filled net s other flow that fed here there))
          took.2 full

  pub fill_gains : (told : ℕ → Type 0) → AtPort link (Took told) link.to → SameActors old new × SameMarks old new
  fill_gains told took = by_end link.to took
    where
      by_end : (end : End) → AtPort link (Took told) end → SameActors old new × SameMarks old new
      by_end (AtNet port) took = absurd took
      by_end (AtLeaf inst port) took =
          let come : ℕ → ℕ → List ℤ = only_to inst.0 port (map (conv link.kind) took.1.taken) in
          (same_of_gains come old new took.1.gains, marks_of_gains come old new took.1.gains)

  -- a network at rest stays at rest
  pub fill_rests : (told : ℕ → Type 0) → AtPort link (Took told) link.to → AtPort link (λ that j q. HasRoomUpTo new j q (slice_index_or capacities l 0)) link.to
      → IsAtRest (held_of old links capacities waited) → IsAtRest (held_of new links capacities waited)
  fill_rests told took room rest = by_end link.to refl took room
    where
      by_end : (end : End) → link.to ≡ end → AtPort link (Took told) end → AtPort link (λ that j q. HasRoomUpTo new j q (slice_index_or capacities l 0)) end
          → IsAtRest (held_of new links capacities waited)
      by_end (AtNet port) to took room = absurd took
      by_end (AtLeaf inst port) to took room = record {
        all_out = λ k after there.
            let before = there_too new old k after took.1.gains.count there in
            let gained = took.1.gains.each k before.0 after before.1 there in
            let out = rest.all_out k before.0 before.1 in (
              (λ p low. let low_before : p < before.0.actor.outs = subst (λ actor. p < actor.outs) gained.actor.same_actor low in gained.outboxes p low_before ∙ out.0 p low_before),
              gained.journal ∙ out.1,
            );
        counted = λ m other there inner.
            let differ : m ≢ l = λ same.
            (let other_is : other ≡ link = some_is other link (sym there ∙ (ap (slice_get links) same ∙ at)) in
            let no : true ≡ false = sym input ∙ (sym (ap is_input other_is) ∙ inner) in cc) in
            let apart : other.to ≡ link.to → ⊥ = λ same. ⊎_elim
            (λ low. working.apart m l other link low there at same)
            (λ high. working.apart l m link other (omega (arith, differ, high)) at there (sym same))
            (cases_lt m l) in
            rest.counted m other there inner
            ∙ sym (ap (λ us. length us)
            (waits_as_before old new links capacities waited working l inst.0 port link (map (conv link.kind) took.1.taken) at to input took.1.gains
            (held_most new inst.0 port (slice_index_or capacities l 0) room) other.to (working.fits m other there).reader apart));
      }

-- a delivery leaves the network at rest
pub rests_delivered : {X : Type 0} (cells : List (Cell X)) (links : List Link) (capacities waited : List ℕ) → AreAllOut cells → AreCounted cells links waited
    → IsAtRest (held_of cells links capacities waited)
rests_delivered cells links capacities waited out counted = record { all_out = out; counted = λ l link there inner. counted.each l link there }
