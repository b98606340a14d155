-- Tokens of a feed that come before a port.
use Rattle.std.proofs.Common.{◌≡◌, ℕ, suc, ◌+◌, ◌-◌, ◌<◌, ◌≤◌, true, false, List, [], ◌∷◌, ◌++◌, ℤ, length, map, take, drop, refl, sym, ap, subst, ◌∙◌, ⊎_elim, inl, inr, arith, length-append, length-drop}
use Rattle.std.specs.Prelude.{Option, None, Some, Result, Ok, Err, OnErr, slice_get, slice_index_or}
use Rattle.std.proofs.lemmas.List.{map-append, drop-drop}
use Rattle.std.proofs.Math.Seq.{take-add}
use Rattle.rvc_base.specs.declared.scalar.Scalar.{Scalar}
use Rattle.rvc_base.specs.Storing.{conv}
use Rattle.rvc_base.specs.Lawful.{tokens_on}
use Rattle.rvc_io.specs.Count.{HasRisen}
use Rattle.rvc_io.specs.Feeds.{Inputs, PullsOnlyAt}
use Rattle.net_model.specs.Cell.{Cell, number_on}
use Rattle.net_model.specs.declared.wiring.End.{End}
use Rattle.net_model.specs.declared.wiring.End.TheVariants.{Leaf as AtLeaf, Net as AtNet}
use Rattle.net_model.specs.declared.wiring.Link.{Link}
use Rattle.net_model.specs.Network.{is_input, is_outside}
use Rattle.net_model.specs.PortFile.{tokens}
use Rattle.net_model.specs.Ready.{tokens_of}
use Rattle.port_files.specs.Coming.{GivesToken, EndsWith}
use Rattle.net_state.specs.Moving.{EachGains, HasRoomBefore, HasRoomUpTo, IsInput, only_to}
use Rattle.net_state.specs.Filling.{AreToCome, AtPort, AtReader, IsInputLink, SameRest, Takes}
use Rattle.net_state.specs.Held.{HasRooms, IsWorking}
use Rattle.net_state.proofs.Kept.{filled_working, filled_rooms, reader_of, room_up_to}
use Rattle.net_state.proofs.Gaining.{there_too, each_gains_nothing, each_gains_then, each_gains_as, only_none, only_more, only_there}
use Rattle.net_state.proofs.Coming.{on_cell, on_some}

pub pulls_nothing : (feed : ℕ) (feeds : Inputs) → PullsOnlyAt feed feeds feeds
pulls_nothing feed feeds = record { same_names = λ other. refl; same_left = λ k differ. refl; same_open = λ other. refl; faults_stay = omega arith }

pub pulls_then : (feed : ℕ) (a b c : Inputs) → PullsOnlyAt feed a b → PullsOnlyAt feed b c → PullsOnlyAt feed a c
pulls_then feed a b c one two = record {
  same_names = λ other. two.same_names other ∙ one.same_names other;
  same_left = λ k differ. two.same_left k differ ∙ one.same_left k differ;
  same_open = λ other. two.same_open other ∙ one.same_open other;
  faults_stay = omega (arith, one.faults_stay, two.faults_stay);
}

-- what the loop keeps of the cells and the tokens
pub record IsTaking {X : Type 0} (kind kind_now stored_in : Scalar) (j q capacity count : ℕ) (old now : List (Cell X)) (coming_old coming : Option (List ℕ)) : Type 0 where
  pub same_kind : kind_now ≡ kind
  pub takes : Takes kind stored_in j q count old now coming_old coming
  pub room : HasRoomUpTo now j q capacity
  pub few : count ≤ length (tokens_of (slice_get now j) q)
  pub rest : SameRest kind coming_old coming

-- the remainder stays if nothing comes, if a token comes, and if what is to come stays
rest_still : (kind : Scalar) (coming : Option (List ℕ)) → SameRest kind coming coming
rest_still kind None = refl
rest_still kind (Some bytes) = refl

rest_given : (kind : Scalar) (v : ℤ) (first before after : Option (List ℕ)) → SameRest kind first before → GivesToken kind v before after → SameRest kind first after
rest_given kind v None before after same given = subst (λ o. GivesToken kind v o after) same given
rest_given kind v (Some bytes) None after same given = absurd same
rest_given kind v (Some bytes) (Some before) None same given = absurd given
rest_given kind v (Some bytes) (Some before) (Some after) same given = given.1 ∙ same

pub rest_same : (kind : Scalar) (first before after : Option (List ℕ)) → SameRest kind first before → after ≡ before → SameRest kind first after
rest_same kind first before after same is = subst (SameRest kind first) (sym is) same

pub taking_starts : {X : Type 0} (kind stored_in : Scalar) (j q capacity : ℕ) (cells : List (Cell X)) (coming : Option (List ℕ))
    → HasRoomUpTo cells j q capacity → IsTaking kind kind stored_in j q capacity 0 cells cells coming coming
taking_starts kind stored_in j q capacity cells coming room = record {
  same_kind = refl;
  takes = record {
    taken = [];
    count_is = refl;
    gains = each_gains_nothing (only_to j q []) cells (λ i p. only_none j q i p);
    first = λ ts told. (refl, omega arith, told);
  };
  room = room;
  few = omega arith;
  rest = rest_still kind coming;
}

abbrev UpTo : {X : Type 0} → ℕ → ℕ → Cell X → Type 0
UpTo q capacity cell = (q < cell.actor.ins) × (length (tokens_on cell.inboxes q) ≤ capacity) × (capacity ≤ number_on cell.inbox_capacities q)

pub input_of : {X : Type 0} (cells : List (Cell X)) (j q capacity : ℕ) → HasRoomUpTo cells j q capacity → IsInput cells j q
input_of cells j q capacity room =
    let on = on_cell (slice_get cells j) (UpTo q capacity) room in on_some (slice_get cells j) (λ cell. q < cell.actor.ins) on.0 on.1 on.2.0

-- one token more has room while fewer wait than may
pub one_more : {X : Type 0} (cells : List (Cell X)) (j q capacity held : ℕ) → HasRoomUpTo cells j q capacity → held ≡ length (tokens_of (slice_get cells j) q) → held < capacity
    → HasRoomBefore cells j q 1
one_more cells j q capacity held room is few =
    let on = on_cell (slice_get cells j) (UpTo q capacity) room in
    let here : length (tokens_of (slice_get cells j) q) ≡ length (tokens_on on.0.inboxes q) = ap (λ o. length (tokens_of o q)) on.1 in
    on_some (slice_get cells j) (λ cell. (q < cell.actor.ins) × (length (tokens_on cell.inboxes q) + 1 ≤ number_on cell.inbox_capacities q)) on.0 on.1
    (on.2.0, omega (arith, here, is, few, on.2.2))

-- the token that was given is the first of those to come
record First (kind : Scalar) (v : ℤ) (ts : List ℤ) (after : Option (List ℕ)) : Type 0 where
  pub rest : List ℤ
  pub is : ts ≡ v ∷ rest
  pub to_come : AreToCome kind after rest

first_of : (kind : Scalar) (v : ℤ) (before after : Option (List ℕ)) (ts : List ℤ) → GivesToken kind v before after → AreToCome kind before ts → First kind v ts after
first_of kind v None after ts given told = absurd told
first_of kind v (Some before) None ts given told = absurd given
first_of kind v (Some before) (Some after) ts given told = record { rest = tokens kind after; is = sym told ∙ given.0; to_come = refl }

takes_more : {X : Type 0} (kind stored_in : Scalar) (j q count : ℕ) (v : ℤ) (old now new : List (Cell X)) (coming_old coming coming_new : Option (List ℕ))
    → Takes kind stored_in j q count old now coming_old coming → GivesToken kind v coming coming_new → EachGains (only_to j q (conv stored_in v ∷ [])) now new
    → Takes kind stored_in j q (count + 1) old new coming_old coming_new
takes_more kind stored_in j q count v old now new coming_old coming coming_new takes given gains = record {
  taken = takes.taken ++ v ∷ [];
  count_is = length-append takes.taken (v ∷ []) ∙ (let more : length takes.taken + 1 ≡ count + 1 = omega (arith, takes.count_is) in more);
  gains = subst (λ ts. EachGains (only_to j q ts) old new) (sym (map-append (conv stored_in) takes.taken (v ∷ [])))
      (each_gains_as _ (only_to j q (map (conv stored_in) takes.taken ++ conv stored_in v ∷ [])) old new
      (each_gains_then (only_to j q (map (conv stored_in) takes.taken)) (only_to j q (conv stored_in v ∷ [])) old now new takes.gains gains)
      (only_more j q (map (conv stored_in) takes.taken) (conv stored_in v ∷ [])));
  first = λ ts told.
      let before = takes.first ts told in
      let one = first_of kind v coming coming_new (drop count ts) given before.2 in
      let len : length ts - count ≡ suc (length one.rest) = sym (length-drop count ts) ∙ ap (λ us. length us) one.is in
      let rest_is : one.rest ≡ drop (count + 1) ts = sym (ap (drop 1) one.is) ∙ drop-drop 1 count ts in (
        ap (λ us. us ++ v ∷ []) before.0 ∙ sym (take-add count 1 ts ∙ ap (λ us. take count ts ++ take 1 us) one.is),
        omega (arith, len),
        subst (AreToCome kind coming_new) rest_is one.to_come,
      );
}

-- one token more came
pub taking_more : {X : Type 0} (kind kind_now kind_new stored_in : Scalar) (j q capacity count held : ℕ) (v : ℤ) (old now new : List (Cell X)) (coming_old coming coming_new : Option (List ℕ))
    → IsTaking kind kind_now stored_in j q capacity count old now coming_old coming → kind_new ≡ kind_now → held ≡ length (tokens_of (slice_get now j) q) → held < capacity
    → GivesToken kind_now v coming coming_new → EachGains (only_to j q (conv stored_in v ∷ [])) now new
    → IsTaking kind kind_new stored_in j q capacity (count + 1) old new coming_old coming_new
taking_more kind kind_now kind_new stored_in j q capacity count held v old now new coming_old coming coming_new so_far same is low given gains =
    let on = on_cell (slice_get now j) (UpTo q capacity) so_far.room in
    let later = there_too now new j on.0 (sym gains.count) on.1 in
    let gained = gains.each j on.0 later.0 on.1 later.1 in
    let longer : length (tokens_on later.0.inboxes q) ≡ length (tokens_on on.0.inboxes q) + 1 =
    ap (λ ts. length ts) (gained.inboxes q on.2.0 ∙ ap (λ ts. tokens_on on.0.inboxes q ++ ts) (only_there j q (conv stored_in v ∷ [])))
    ∙ length-append (tokens_on on.0.inboxes q) (conv stored_in v ∷ []) in
    let here : length (tokens_of (slice_get now j) q) ≡ length (tokens_on on.0.inboxes q) = ap (λ o. length (tokens_of o q)) on.1 in
    let there : length (tokens_of (slice_get new j) q) ≡ length (tokens_on later.0.inboxes q) = ap (λ o. length (tokens_of o q)) later.1 in
    let holds : number_on later.0.inbox_capacities q ≡ number_on on.0.inbox_capacities q = gained.actor.same_inbox_capacities q on.2.0 in
    record {
      same_kind = same ∙ so_far.same_kind;
      takes = takes_more kind stored_in j q count v old now new coming_old coming coming_new so_far.takes (subst (λ k. GivesToken k v coming coming_new) so_far.same_kind given) gains;
      room = on_some (slice_get new j) (UpTo q capacity) later.0 later.1
          (subst (λ actor. q < actor.ins) (sym gained.actor.same_actor) on.2.0, omega (arith, longer, here, is, low), omega (arith, holds, on.2.2));
      few = omega (arith, so_far.few, longer, here, there);
      rest = rest_given kind v coming_old coming coming_new so_far.rest (subst (λ k. GivesToken k v coming coming_new) so_far.same_kind given);
    }

-- if nothing more came but bytes may have been pulled
pub takes_same : {X : Type 0} (kind stored_in : Scalar) (j q count : ℕ) (old now : List (Cell X)) (coming_old coming coming_new : Option (List ℕ))
    → Takes kind stored_in j q count old now coming_old coming → coming_new ≡ coming → Takes kind stored_in j q count old now coming_old coming_new
takes_same kind stored_in j q count old now coming_old coming coming_new takes same =
    subst (Takes kind stored_in j q count old now coming_old) (sym same) takes

pub held_most : {X : Type 0} (cells : List (Cell X)) (j q capacity : ℕ) → HasRoomUpTo cells j q capacity → length (tokens_of (slice_get cells j) q) ≤ capacity
held_most cells j q capacity room =
    let on = on_cell (slice_get cells j) (UpTo q capacity) room in
    let here : length (tokens_of (slice_get cells j) q) ≡ length (tokens_on on.0.inboxes q) = ap (λ o. length (tokens_of o q)) on.1 in
    omega (arith, here, on.2.1)

-- each token that comes leaves less room
pub nearer : {X : Type 0} (j q capacity held : ℕ) (v : ℤ) (now new : List (Cell X)) → HasRoomUpTo now j q capacity → held ≡ length (tokens_of (slice_get now j) q) → held < capacity
    → EachGains (only_to j q (v ∷ [])) now new → capacity - length (tokens_of (slice_get new j) q) < capacity - length (tokens_of (slice_get now j) q)
nearer j q capacity held v now new room is low gains =
    let on = on_cell (slice_get now j) (UpTo q capacity) room in
    let later = there_too now new j on.0 (sym gains.count) on.1 in
    let gained = gains.each j on.0 later.0 on.1 later.1 in
    let longer : length (tokens_on later.0.inboxes q) ≡ length (tokens_on on.0.inboxes q) + 1 =
    ap (λ ts. length ts) (gained.inboxes q on.2.0 ∙ ap (λ ts. tokens_on on.0.inboxes q ++ ts) (only_there j q (v ∷ [])))
    ∙ length-append (tokens_on on.0.inboxes q) (v ∷ []) in
    let here : length (tokens_of (slice_get now j) q) ≡ length (tokens_on on.0.inboxes q) = ap (λ o. length (tokens_of o q)) on.1 in
    let there : length (tokens_of (slice_get new j) q) ≡ length (tokens_on later.0.inboxes q) = ap (λ o. length (tokens_of o q)) later.1 in
    omega (arith, longer, here, there, is, low)

pub risen_after : (old mid new : ℕ) → old ≤ mid → HasRisen mid new → HasRisen old new
risen_after old mid new stay risen = ⊎_elim (λ more. inl (omega (arith, stay, more))) (λ last. inr last) risen

pub ends_as : (kind kind_now : Scalar) (rest : ℕ) (coming coming_new : Option (List ℕ)) → kind_now ≡ kind → coming_new ≡ coming → EndsWith kind_now rest coming → EndsWith kind rest coming_new
ends_as kind kind_now rest coming coming_new same still ended = subst (EndsWith kind rest) (sym still) (subst (λ k. EndsWith k rest coming) same ended)

-- By the port to which a link leads.

pub at_port_as : (link : Link) (P Q : Link → ℕ → ℕ → Type 0) (end : End) → ((j q : ℕ) → P link j q → Q link j q) → AtPort link P end → AtPort link Q end
at_port_as link P Q (AtLeaf inst port) change holds = change inst.0 port holds
at_port_as link P Q (AtNet port) change holds = holds

module _ {X : Type 0} (old : List (Cell X)) (links : List Link) (capacities waited : List ℕ) (working : IsWorking old links capacities waited)
    (l : ℕ) (link : Link) (at : slice_get links l ≡ Some link) (input : is_input link ≡ true) where
  pub reader_at : AtPort link (λ (that : Link) (j : ℕ) (q : ℕ). IsInput old j q × HasRoomUpTo old j q (slice_index_or capacities l 0)) link.to
  reader_at = by_end link.to refl
    where
      by_end : (end : End) → link.to ≡ end → AtPort link (λ (that : Link) (j : ℕ) (q : ℕ). IsInput old j q × HasRoomUpTo old j q (slice_index_or capacities l 0)) end
      by_end (AtLeaf inst port) to = (reader_of old links capacities waited working l link at inst.0 port to, room_up_to old links capacities waited working l link at inst.0 port to)
      by_end (AtNet port) to = let no : true ≡ false = sym (ap is_outside to) ∙ (working.fits l link at).inside input in absurd (let none : ⊥ = cc in none)

  pub kept_by_fill : (new : List (Cell X)) → AtPort link (λ (that : Link) (j : ℕ) (q : ℕ). (ts : List ℤ) × EachGains (only_to j q ts) old new) link.to
      → AtPort link (λ (that : Link) (j : ℕ) (q : ℕ). HasRoomUpTo new j q (slice_index_or capacities l 0)) link.to
      → (table : List (List ℕ)) → HasRooms old links capacities waited table → IsWorking new links capacities waited × HasRooms new links capacities waited table
  kept_by_fill new gained room table had = by_end link.to refl gained room
    where
      by_end : (end : End) → link.to ≡ end → AtPort link (λ (that : Link) (j : ℕ) (q : ℕ). (ts : List ℤ) × EachGains (only_to j q ts) old new) end
          → AtPort link (λ (that : Link) (j : ℕ) (q : ℕ). HasRoomUpTo new j q (slice_index_or capacities l 0)) end
          → IsWorking new links capacities waited × HasRooms new links capacities waited table
      by_end (AtNet port) to gained room = absurd gained
      by_end (AtLeaf inst port) to gained room = (
        filled_working old new links capacities waited working l inst.0 port link gained.0 at to input gained.1 (held_most new inst.0 port (slice_index_or capacities l 0) room),
        filled_rooms old new links capacities waited working l inst.0 port link gained.0 at to input gained.1 (held_most new inst.0 port (slice_index_or capacities l 0) room) table had,
      )

pub on_input : (o : Option Link) → IsInputLink o → (link : Link) × (o ≡ Some link) × (is_input link ≡ true)
on_input None h = absurd h
on_input (Some link) h = (link, refl, h)

pub at_reader : (links : List Link) (l : ℕ) (link : Link) (P : Link → ℕ → ℕ → Type 0) → slice_get links l ≡ Some link → AtPort link P link.to → AtReader (slice_get links l) P
at_reader links l link P at holds = subst (λ o. AtReader o P) (sym at) holds

-- .. if a pull failed
pub due_so : {A E : Type 0} (result : Result A E) (P Q : Type 0) → (P → Q) → OnErr result P → OnErr result Q
due_so (Ok v) P Q so due = tt
due_so (Err e) P Q so due = so due
