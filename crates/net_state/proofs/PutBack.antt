-- A token that was taken back comes over its link again.
use Rattle.std.proofs.Common.{◌≡◌, ◌≢◌, ℕ, zero, suc, ◌+◌, ◌-◌, ◌<◌, ◌≤◌, true, List, [], ◌∷◌, ◌++◌, ℤ, length, map, take, drop, refl, sym, ap, subst, ◌∙◌, arith, length-append}
use Rattle.std.specs.Prelude.{Some, slice_get, slice_index_or}
use Rattle.std.proofs.lemmas.Option.{slice_get_within}
use Rattle.rvc_base.specs.Lawful.{tokens_on}
use Rattle.net_model.specs.declared.wiring.End.{End}
use Rattle.net_model.specs.declared.wiring.End.TheVariants.{Leaf as AtLeaf, Net as AtNet}
use Rattle.net_model.specs.declared.wiring.Link.{Link}
use Rattle.net_model.specs.Network.{is_input}
use Rattle.net_model.specs.Cell.{Cell, number_on}
use Rattle.net_model.specs.Ready.{tokens_of, waiting_at}
use Rattle.net_state.specs.Moving.{EachGains, HasRoomBefore, HasRoomUpTo, IsInput, SameActors, SameMarks, only_to}
use Rattle.net_state.specs.Held.{HasRooms, IsWorking, held_of}
use Rattle.net_state.specs.Filling.{AtPort}
use Rattle.net_state.specs.Standing.{StandsIn}
use Rattle.net_state.specs.TakingBack.{PutsBack, waits_at, with_arrival}
use Rattle.net_state.proofs.Gaining.{some_is, there_too, only_there}
use Rattle.net_state.proofs.Coming.{on_cell, on_some}
use Rattle.net_state.proofs.Kept.{marks_of_gains, reader_of, same_of_gains}
use Rattle.net_state.proofs.Moved.{same_part}
use Rattle.net_state.proofs.Fed.{came_stands}
use Rattle.net_state.proofs.Returned.{waits_elsewhere}
use Rattle.net_state.proofs.Feeding.{kept_by_fill, one_more, reader_at}

-- the next one of those left
next_left : (n : ℕ) (xs : List ℤ) (x : ℤ) → slice_get xs n ≡ Some x → take 1 (drop n xs) ≡ x ∷ []
next_left zero [] x at = cc
next_left (suc n) [] x at = cc
next_left zero (y ∷ ys) x at = let same : y ≡ x = cc in ap (λ z. z ∷ []) same
next_left (suc n) (y ∷ ys) x at = next_left n ys x at

-- one more waits, within what the port may hold
room_after : {X : Type 0} (j q capacity : ℕ) (token : ℤ) (old new : List (Cell X)) → HasRoomUpTo old j q capacity → length (tokens_of (slice_get old j) q) < capacity
    → EachGains (only_to j q (token ∷ [])) old new → HasRoomUpTo new j q capacity
room_after j q capacity token old new room few gains =
    let on = on_cell (slice_get old j) (λ cell. (q < cell.actor.ins) × (length (tokens_on cell.inboxes q) ≤ capacity) × (capacity ≤ number_on cell.inbox_capacities q)) room in
    let later = there_too old new j on.0 (sym gains.count) on.1 in
    let gained = gains.each j on.0 later.0 on.1 later.1 in
    let longer : length (tokens_on later.0.inboxes q) ≡ length (tokens_on on.0.inboxes q) + 1 =
    ap (λ ts. length ts) (gained.inboxes q on.2.0 ∙ ap (λ ts. tokens_on on.0.inboxes q ++ ts) (only_there j q (token ∷ [])))
    ∙ length-append (tokens_on on.0.inboxes q) (token ∷ []) in
    let here : length (tokens_of (slice_get old j) q) ≡ length (tokens_on on.0.inboxes q) = ap (λ o. length (tokens_of o q)) on.1 in
    let holds : number_on later.0.inbox_capacities q ≡ number_on on.0.inbox_capacities q = gained.actor.same_inbox_capacities q on.2.0 in
    on_some (slice_get new j) (λ cell. (q < cell.actor.ins) × (length (tokens_on cell.inboxes q) ≤ capacity) × (capacity ≤ number_on cell.inbox_capacities q)) later.0 later.1
    (subst (λ actor. q < actor.ins) (sym gained.actor.same_actor) on.2.0, omega (arith, longer, here, few), omega (arith, holds, on.2.2))

pub record IsPut {X : Type 0} (old new : List (Cell X)) (links : List Link) (capacities waited : List ℕ) (l : ℕ) (token : ℤ) : Type 0 where
  pub kept : (table : List (List ℕ)) → HasRooms old links capacities waited table → IsWorking new links capacities waited × HasRooms new links capacities waited table
  pub put : PutsBack l token (held_of old links capacities waited) (held_of new links capacities waited)
  pub same : SameActors old new
  pub marks : SameMarks old new
  pub here : waits_at new (slice_get links l) ≡ waits_at old (slice_get links l) + 1
  pub elsewhere : (m : ℕ) → m ≢ l → waits_at new (slice_get links m) ≡ waits_at old (slice_get links m)

module _ {X : Type 0} (old new : List (Cell X)) (links : List Link) (capacities waited : List ℕ) (working : IsWorking old links capacities waited)
    (l : ℕ) (link : Link) (token : ℤ) (at : slice_get links l ≡ Some link) (input : is_input link ≡ true) (few : length (waiting_at old link.to) < slice_index_or capacities l 0) where
  -- one token more has room at the link's reader
  pub room_there : AtPort link (λ (that : Link) (j : ℕ) (q : ℕ). IsInput old j q × HasRoomBefore old j q 1) link.to
  room_there = by_end link.to refl (reader_at old links capacities waited working l link at input)
    where
      by_end : (end : End) → link.to ≡ end → AtPort link (λ (that : Link) (j : ℕ) (q : ℕ). IsInput old j q × HasRoomUpTo old j q (slice_index_or capacities l 0)) end
          → AtPort link (λ (that : Link) (j : ℕ) (q : ℕ). IsInput old j q × HasRoomBefore old j q 1) end
      by_end (AtNet port) to has = absurd has
      by_end (AtLeaf inst port) to has =
          let here : length (waiting_at old link.to) ≡ length (tokens_of (slice_get old inst.0) port) = ap (λ end. length (waiting_at old end)) to in
          (has.0, one_more old inst.0 port (slice_index_or capacities l 0) (length (tokens_of (slice_get old inst.0) port)) has.1 refl (omega (arith, here, few)))

  put_by : (j q : ℕ) → link.to ≡ AtLeaf (record { 0 = j }) q → EachGains (only_to j q (token ∷ [])) old new
      → PutsBack l token (held_of old links capacities waited) (held_of new links capacities waited)
  put_by j q to gains net s other flow at_net there next stood =
      let same : other ≡ link = some_is other link (sym at_net ∙ (ap (λ ls. slice_get ls l) stood.is_of.links_are ∙ at)) in
      let low : flow.arrived < length flow.sent = slice_get_within flow.sent flow.arrived token next in
      let actors : map (λ cell. cell.actor) new ≡ map (λ cell. cell.actor) old =
      same_part (λ cell. cell.actor) old new gains.count (λ i before after here is. (gains.each i before after here is).actor.same_actor) in
      subst (λ k. StandsIn net (held_of new links capacities waited) (with_arrival s l k flow)) (sym same) (record {
        is_of = record { actors = stood.is_of.actors ∙ sym actors; links_are = stood.is_of.links_are };
        stands = came_stands old new links capacities waited working l j q link at to input net s stood.is_of stood.stands flow there 1 (token ∷ [])
            (next_left flow.arrived flow.sent token next) (omega (arith, low)) gains;
      })

  one_waits_more : (j q : ℕ) → link.to ≡ AtLeaf (record { 0 = j }) q → EachGains (only_to j q (token ∷ [])) old new
      → waits_at new (slice_get links l) ≡ waits_at old (slice_get links l) + 1
  one_waits_more j q to gains =
      let on = on_cell (slice_get old j) (λ cell. q < cell.actor.ins) (reader_of old links capacities waited working l link at j q to) in
      let after = there_too old new j on.0 (sym gains.count) on.1 in
      let gained = gains.each j on.0 after.0 on.1 after.1 in
      let longer : length (tokens_on after.0.inboxes q) ≡ length (tokens_on on.0.inboxes q) + 1 =
      ap (λ us. length us) (gained.inboxes q on.2 ∙ ap (λ us. tokens_on on.0.inboxes q ++ us) (only_there j q (token ∷ []))) ∙ length-append (tokens_on on.0.inboxes q) (token ∷ []) in
      let was : waits_at old (slice_get links l) ≡ length (tokens_on on.0.inboxes q) = ap (waits_at old) at ∙ (ap (λ end. length (waiting_at old end)) to ∙ ap (λ o. length (tokens_of o q)) on.1) in
      let is : waits_at new (slice_get links l) ≡ length (tokens_on after.0.inboxes q) = ap (waits_at new) at ∙ (ap (λ end. length (waiting_at new end)) to ∙ ap (λ o. length (tokens_of o q)) after.1) in
      omega (arith, longer, was, is)

  pub put_at_reader : AtPort link (λ (that : Link) (j : ℕ) (q : ℕ). EachGains (only_to j q (token ∷ [])) old new) link.to → IsPut old new links capacities waited l token
  put_at_reader gained = by_end link.to refl gained (reader_at old links capacities waited working l link at input)
    where
      by_end : (end : End) → link.to ≡ end → AtPort link (λ (that : Link) (j : ℕ) (q : ℕ). EachGains (only_to j q (token ∷ [])) old new) end
          → AtPort link (λ (that : Link) (j : ℕ) (q : ℕ). IsInput old j q × HasRoomUpTo old j q (slice_index_or capacities l 0)) end → IsPut old new links capacities waited l token
      by_end (AtNet port) to gained has = absurd gained
      by_end (AtLeaf inst port) to gained has =
          let here : length (waiting_at old link.to) ≡ length (tokens_of (slice_get old inst.0) port) = ap (λ end. length (waiting_at old end)) to in
          let after : HasRoomUpTo new inst.0 port (slice_index_or capacities l 0) =
          room_after inst.0 port (slice_index_or capacities l 0) token old new has.1 (omega (arith, here, few)) gained in
          record {
            kept = λ table had. kept_by_fill old links capacities waited working l link at input new
                (subst (AtPort link (λ (that : Link) (j : ℕ) (q : ℕ). (ts : List ℤ) × EachGains (only_to j q ts) old new)) (sym to) (token ∷ [], gained))
                (subst (AtPort link (λ (that : Link) (j : ℕ) (q : ℕ). HasRoomUpTo new j q (slice_index_or capacities l 0))) (sym to) after)
                table had;
            put = put_by inst.0 port to gained;
            same = same_of_gains (only_to inst.0 port (token ∷ [])) old new gained;
            marks = marks_of_gains (only_to inst.0 port (token ∷ [])) old new gained;
            here = one_waits_more inst.0 port to gained;
            elsewhere = waits_elsewhere old new links capacities waited working l inst.0 port link (token ∷ []) at to gained;
          }
