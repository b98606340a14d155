-- How far one worker made the bursts of a part.
use Rattle.std.proofs.Common.{◌≡◌, ℕ, zero, suc, ◌+◌, ◌*◌, ◌<◌, ◌≤◌, Bool, true, false, List, [], ◌∷◌, ◌++◌, length, map, take, refl, sym, ap, subst, ◌∙◌, arith, append_assoc, append-nil}
use Rattle.std.specs.Prelude.{Some, slice_get, slice_index_or}
use Rattle.std.specs.Option.{option_map}
use Rattle.std.proofs.lemmas.List.{length-set, take-set}
use Rattle.std.proofs.lemmas.Option.{slice_get-get_or, slice_get-map, slice_get_read}
use Rattle.rvc_base.specs.Shares.{allowed}
use Rattle.rvc_base.specs.declared.ids.InstId.{InstId}
use Rattle.net_model.specs.Cell.{AreRooms, Cell, FireInTurn}
use Rattle.net_model.specs.Paced.{count_picked}
use Rattle.net_state.specs.declared.made.Bursts.{Bursts as Made}
use Rattle.net_state.specs.declared.sharing.Part.{Part}
use Rattle.net_state.specs.declared.sharing.Shares.{Shares}
use Rattle.net_state.specs.Made.{joined, made_by, none_made}
use Rattle.net_state.specs.Sharing.{AreShares, BurstsBy, EachBursts, IsPart, IsReady, MakesAt, bursts, none_left, share_of, stays}
use Rattle.net_state.specs.Working.{HasRoomRow, MayBurst, journal_of}
use Rattle.net_state.proofs.Bursting.{calm_end}
use Rattle.net_state.proofs.Coming.{on_some}
use Rattle.net_state.proofs.Gaining.{get_set_other, get_set_same, some_is}
use Rattle.net_state.proofs.Shared.{appended, count_both, joined_none, take_length}

-- Lists by place.

take_none : {A : Type 0} (xs : List A) → take 0 xs ≡ []
take_none [] = refl
take_none (x ∷ xs) = refl

take_suc : {A : Type 0} (xs : List A) (k : ℕ) (x : A) → slice_get xs k ≡ Some x → take (suc k) xs ≡ take k xs ++ x ∷ []
take_suc [] k x at = cc
take_suc (y ∷ xs) zero x at = ap (λ z. z ∷ []) (some_is y x at)
take_suc (y ∷ xs) (suc k) x at = ap (λ zs. y ∷ zs) (take_suc xs k x at)

take_next : {A : Type 0} (xs : List A) (k : ℕ) (x : A) → slice_get xs k ≡ Some x → take (k + 1) xs ≡ take k xs ++ x ∷ []
take_next xs k x at = ap (λ n. take n xs) (let e : k + 1 ≡ suc k = omega arith in e) ∙ take_suc xs k x at

take_whole : {A : Type 0} (xs : List A) (k : ℕ) → length xs ≤ k → take k xs ≡ xs
take_whole [] zero few = refl
take_whole [] (suc k) few = refl
take_whole (x ∷ xs) zero few = absurd (omega (arith, few))
take_whole (x ∷ xs) (suc k) few = ap (λ ys. x ∷ ys) (take_whole xs k (omega (arith, few)))

pub some_at : {A : Type 0} (xs : List A) (k : ℕ) → k < length xs → (x : A) × (slice_get xs k ≡ Some x)
some_at [] k low = absurd (omega (arith, low))
some_at (x ∷ xs) zero low = (x, refl)
some_at (x ∷ xs) (suc k) low = some_at xs k (omega (arith, low))

as_is : {X : Type 0} (limit : ℕ → ℕ) (i k : ℕ) {marks marks_too : List Bool} {rows rows_too : List (List ℕ)} {old old_too new new_too : List (Cell X)} {made made_too : Made}
    → EachBursts limit i k marks rows old made new → marks ≡ marks_too → rows ≡ rows_too → old ≡ old_too → made ≡ made_too → new ≡ new_too
    → EachBursts limit i k marks_too rows_too old_too made_too new_too
as_is limit i k {marks} {marks_too} {rows} {rows_too} {old} {old_too} {new} {new_too} {made} {made_too} each m r o d n =
    subst (λ ns. EachBursts limit i k marks_too rows_too old_too made_too ns) n
    (subst (λ ds. EachBursts limit i k marks_too rows_too old_too ds new) d
    (subst (λ os. EachBursts limit i k marks_too rows_too os made new) o
    (subst (λ rs. EachBursts limit i k marks_too rs old made new) r
    (subst (λ ms. EachBursts limit i k ms rows old made new) m each))))

-- what a cell fired is what its journal says
noted_by : {X : Type 0} (rooms : List ℕ) (old last : Cell X) (actions : List ℕ) → FireInTurn rooms old actions last → last.journal ≡ old.journal ++ actions
noted_by rooms old last [] fired = ap (λ c. c.journal) (sym fired) ∙ sym (append-nil old.journal)
noted_by rooms old last (a ∷ actions) fired =
    noted_by rooms fired.0 last actions fired.2 ∙ (ap (λ js. js ++ actions) fired.1.noted ∙ append_assoc old.journal (a ∷ []) actions)

pub record IsAlone {X : Type 0} (limit : ℕ → ℕ) (cell before : ℕ) (marks : List Bool) (rows : List (List ℕ)) (old : List (Cell X)) (j k : ℕ) (made : Made) (now : List (Cell X)) : Type 0 where
  pub so_far : EachBursts limit cell before (take j marks) (take j rows) (take j old) made (take j now)
  pub ahead : (n : ℕ) → j ≤ n → slice_get now n ≡ slice_get old n
  pub as_many : length now ≡ length old
  pub picked : k ≡ before + count_picked (take j marks)
  pub few : made.fired ≤ 65536 * count_picked (take j marks)

module _ {X : Type 0} (limit : ℕ → ℕ) (cell before : ℕ) (marks : List Bool) (rows : List (List ℕ)) (old : List (Cell X)) where
  pub alone_none : IsAlone limit cell before marks rows old 0 before none_made old
  alone_none = record {
    so_far = as_is limit cell before (none_left cell before) (sym (take_none marks)) (sym (take_none rows)) (sym (take_none old)) refl (sym (take_none old));
    ahead = λ n low. refl;
    as_many = refl;
    picked = (let none : count_picked (take 0 marks) ≡ 0 = ap count_picked (take_none marks) in omega (arith, none));
    few = omega arith;
  }

  module _ (j k : ℕ) (made : Made) (now : List (Cell X)) (so_far : IsAlone limit cell before marks rows old j k made now) (marked : length marks ≡ length old) (low : j < length old) where
    at_end : cell + j ≡ cell + length (take j marks)
    at_end = ap (λ n. cell + n) (sym (take_length marks j (omega (arith, low, marked))))

    pub alone_stays : (row : List ℕ) → slice_get rows j ≡ Some row → slice_get marks j ≡ Some false → IsAlone limit cell before marks rows old (j + 1) k made now
    alone_stays row row_at unmarked =
        let here = some_at old j low in
        let at : slice_get now j ≡ Some here.0 = so_far.ahead j (omega arith) ∙ here.1 in
        let same : count_picked (take (j + 1) marks) ≡ count_picked (take j marks) = ap count_picked (take_next marks j false unmarked) ∙ (count_both (take j marks) (false ∷ []) ∙ (let e : count_picked (take j marks) + 0 ≡ count_picked (take j marks) = omega arith in e)) in
        record {
          so_far = as_is limit cell before
              (appended (cell + j) k (false ∷ []) (row ∷ []) (here.0 ∷ []) (here.0 ∷ []) none_made so_far.so_far at_end so_far.picked
              (stays (cell + j) k [] row [] here.0 [] [] none_made (none_left (suc (cell + j)) k)))
              (sym (take_next marks j false unmarked)) (sym (take_next rows j row row_at)) (sym (take_next old j here.0 here.1)) (joined_none made) (sym (take_next now j here.0 at));
          ahead = λ n high. so_far.ahead n (omega (arith, high));
          as_many = so_far.as_many;
          picked = omega (arith, so_far.picked, same);
          few = omega (arith, so_far.few, same);
        }

    module _ (burst : ℕ) (row : List ℕ) (row_at : slice_get rows j ≡ Some row) (ready : (c : Cell X) → slice_get old j ≡ Some c → IsReady burst row c) where
      -- the next cell may make its burst
      pub may_burst : (most : ℕ) → most ≤ burst → MayBurst now j most
      may_burst most few =
          let here = some_at old j low in
          let is = ready here.0 here.1 in
          let none : length here.0.journal ≡ 0 = ap (λ js. length js) is.fresh.empty in
          on_some (slice_get now j) (λ c. (c.trapped ≡ false) × (length c.journal + most ≤ c.journal_room)) here.0 (so_far.ahead j (omega arith) ∙ here.1)
          (is.fresh.untrapped, omega (arith, none, few, is.fresh.room))

      pub has_row : HasRoomRow now j row
      has_row = let here = some_at old j low in on_some (slice_get now j) (λ c. AreRooms c row) here.0 (so_far.ahead j (omega arith) ∙ here.1) (ready here.0 here.1).fits

      pub alone_few : (inst : InstId) (most : ℕ) → most ≤ 65536 → (one : Made) (new : List (Cell X)) → MakesAt j inst most row now one new → one.fired ≤ 65536
      alone_few inst most few one new makes =
          let here = some_at old j low in
          let b = makes.bursts in
          let is : b.before ≡ here.0 = some_is b.before here.0 (sym b.at ∙ (so_far.ahead j (omega arith) ∙ here.1)) in
          let empty : b.before.journal ≡ [] = ap (λ c. c.journal) is ∙ (ready here.0 here.1).fresh.empty in
          let after_at : slice_get new j ≡ Some b.after = ap (λ cs. slice_get cs j) b.is ∙ get_set_same now j b.before b.after b.at in
          let noted : b.after.journal ≡ b.bursts.actions = (calm_end row most (length b.bursts.actions) b.bursts.last makes.end b.after b.bursts.ends).journal
          ∙ (noted_by row b.before b.bursts.last b.bursts.actions b.bursts.fired ∙ ap (λ js. js ++ b.bursts.actions) empty) in
          let count : one.fired ≡ length b.bursts.actions = ap (λ m. m.fired) makes.made_is ∙ (ap (λ o. length (journal_of o)) after_at ∙ ap (λ js. length js) noted) in
          omega (arith, count, b.bursts.few, few)

      pub alone_more : (inst : InstId) → inst.0 ≡ cell + j → slice_get marks j ≡ Some true → (most : ℕ) → most ≡ limit k → 1 ≤ most → most ≤ 65536 → (one : Made) (new : List (Cell X))
          → MakesAt j inst most row now one new → IsAlone limit cell before marks rows old (j + 1) (k + 1) (joined made one) new
      alone_more inst inst_is marked_here most most_is some few one new makes =
          let here = some_at old j low in
          let b = makes.bursts in
          let is : b.before ≡ here.0 = some_is b.before here.0 (sym b.at ∙ (so_far.ahead j (omega arith) ∙ here.1)) in
          let was : slice_get old j ≡ Some b.before = here.1 ∙ ap Some (sym is) in
          let fresh = (ready b.before was).fresh in
          let after_at : slice_get new j ≡ Some b.after = ap (λ cs. slice_get cs j) b.is ∙ get_set_same now j b.before b.after b.at in
          let one_is : made_by (record { 0 = cell + j }) (length b.after.journal) makes.end ≡ one =
          ap (λ n. made_by (record { 0 = n }) (length b.after.journal) makes.end) (sym inst_is)
          ∙ (ap (λ o. made_by inst (length (journal_of o)) makes.end) (sym after_at) ∙ sym makes.made_is) in
          let by : BurstsBy (limit k) row b.before makes.end b.after = subst (λ n. BurstsBy n row b.before makes.end b.after) most_is (record {
            some = some;
            untrapped = fresh.untrapped;
            empty = fresh.empty;
            lawful = b.lawful;
            fits = b.fits;
            bursts = b.bursts;
          }) in
          let more : count_picked (take (j + 1) marks) ≡ count_picked (take j marks) + 1 = ap count_picked (take_next marks j true marked_here) ∙ count_both (take j marks) (true ∷ []) in
          let none_more : joined (made_by (record { 0 = cell + j }) (length b.after.journal) makes.end) none_made ≡ one = joined_none (made_by (record { 0 = cell + j }) (length b.after.journal) makes.end) ∙ one_is in
          let most_one : one.fired ≤ 65536 = alone_few inst most few one new makes in
          record {
            so_far = as_is limit cell before
                (appended (cell + j) k (true ∷ []) (row ∷ []) (b.before ∷ []) (b.after ∷ []) (joined (made_by (record { 0 = cell + j }) (length b.after.journal) makes.end) none_made) so_far.so_far at_end so_far.picked
                (bursts (cell + j) k [] row [] b.before b.after [] [] makes.end none_made by (none_left (suc (cell + j)) (suc k))))
                (sym (take_next marks j true marked_here)) (sym (take_next rows j row row_at)) (sym (take_next old j b.before was)) (ap (λ m. joined made m) none_more)
                (ap (λ ns. ns ++ b.after ∷ []) (sym (ap (λ cs. take j cs) b.is ∙ take-set now j b.after)) ∙ sym (take_next new j b.after after_at));
            ahead = λ n high. ap (λ cs. slice_get cs n) b.is ∙ (get_set_other now n j b.after (λ same. absurd (omega (arith, same, high))) ∙ so_far.ahead n (omega (arith, high)));
            as_many = ap (λ cs. length cs) b.is ∙ (length-set now j b.after ∙ so_far.as_many);
            picked = omega (arith, so_far.picked, more);
            few = omega (arith, so_far.few, more, most_one);
          }

  -- the whole part is done
  pub alone_all : (j k : ℕ) (made : Made) (now : List (Cell X)) → IsAlone limit cell before marks rows old j k made now → length marks ≡ length old → length rows ≡ length old → length old ≤ j
      → EachBursts limit cell before marks rows old made now
  alone_all j k made now so_far marked roomy all = as_is limit cell before so_far.so_far (take_whole marks j (omega (arith, all, marked))) (take_whole rows j (omega (arith, all, roomy)))
      (take_whole old j all) refl (take_whole now j (omega (arith, all, so_far.as_many)))

  pub alone_few_all : (j k : ℕ) (made : Made) (now : List (Cell X)) → IsAlone limit cell before marks rows old j k made now → length marks ≡ length old → length old ≤ j
      → made.fired ≤ 65536 * count_picked marks
  alone_few_all j k made now so_far marked all = subst (λ ms. made.fired ≤ 65536 * count_picked ms) (take_whole marks j (omega (arith, all, marked))) so_far.few

-- The same of a part, by what its worker does.

pub among_marks : (marks : List Bool) (j : ℕ) → slice_get marks j ≡ Some true → count_picked (take j marks) < count_picked marks
among_marks [] j at = cc
among_marks (true ∷ marks) zero at = omega arith
among_marks (false ∷ marks) zero at = cc
among_marks (true ∷ marks) (suc j) at = let rest : count_picked (take j marks) < count_picked marks = among_marks marks j at in omega (arith, rest)
among_marks (false ∷ marks) (suc j) at = among_marks marks j at

pub few_marks : (marks : List Bool) → count_picked marks ≤ length marks
few_marks [] = omega arith
few_marks (true ∷ marks) = let rest : count_picked marks ≤ length marks = few_marks marks in omega (arith, rest)
few_marks (false ∷ marks) = let rest : count_picked marks ≤ length marks = few_marks marks in omega (arith, rest)

pub mark_at : (marks : List Bool) (j : ℕ) (d b : Bool) → j < length marks → slice_index_or marks j d ≡ b → slice_get marks j ≡ Some b
mark_at marks j d b low is = slice_get-get_or marks j d low ∙ ap Some is

pub row_at : {C : Type 0} (items : C → List ℕ) (rooms : List C) (j : ℕ) (row : C) (now : List ℕ) → j < length rooms → row ≡ slice_index_or rooms j row → now ≡ items row
    → slice_get (map items rooms) j ≡ Some now
row_at items rooms j row now low is value =
    slice_get-map items rooms j ∙ (ap (option_map items) (slice_get_read rooms (length rooms) j row refl low is) ∙ ap Some (sym value))

-- the first marks that are set
pub marks_more : (marks : List Bool) (j : ℕ) → slice_get marks j ≡ Some true → count_picked (take (j + 1) marks) ≡ count_picked (take j marks) + 1
marks_more marks j at = ap count_picked (take_next marks j true at) ∙ count_both (take j marks) (true ∷ [])

pub marks_same : (marks : List Bool) (j : ℕ) → slice_get marks j ≡ Some false → count_picked (take (j + 1) marks) ≡ count_picked (take j marks)
marks_same marks j at = ap count_picked (take_next marks j false at) ∙ (count_both (take j marks) (false ∷ []) ∙ (let e : count_picked (take j marks) + 0 ≡ count_picked (take j marks) = omega arith in e))

pub marks_none : (marks : List Bool) → count_picked (take 0 marks) ≡ 0
marks_none marks = ap count_picked (take_none marks)

pub marks_all : (marks : List Bool) (j : ℕ) → length marks ≤ j → count_picked (take j marks) ≡ count_picked marks
marks_all marks j all = ap count_picked (take_whole marks j all)

module _ {X : Type 0} (shares : Shares) (are : AreShares shares) (part : Part) (marks : List Bool) (rows : List (List ℕ)) (old : List (Cell X)) (is_part : IsPart shares part marks rows old)
    (j k : ℕ) (made : Made) (now : List (Cell X)) (so_far : IsAlone (share_of shares) part.cell part.before marks rows old j k made now) (low : j < length old) where
  pub part_low : (j < length marks) × (j < length rows)
  part_low = (omega (arith, low, is_part.marked), omega (arith, low, is_part.roomy))

  pub part_stays : slice_get marks j ≡ Some false → IsAlone (share_of shares) part.cell part.before marks rows old (j + 1) k made now
  part_stays unmarked = let row = some_at rows j part_low.1 in alone_stays (share_of shares) part.cell part.before marks rows old j k made now so_far is_part.marked low row.0 row.1 unmarked

  module _ (here : slice_get marks j ≡ Some true) where
    pub part_among : k < shares.picks
    part_among = let among : count_picked (take j marks) < count_picked marks = among_marks marks j here in omega (arith, among, so_far.picked, is_part.picks, is_part.among)

    module _ (row : List ℕ) (row_is : slice_get rows j ≡ Some row) (limit : ℕ) (limit_is : limit ≡ allowed shares.left shares.picks shares.burst k) where
      few_burst : limit ≤ shares.burst
      few_burst = omega (arith, limit_is)

      is_ready : (c : Cell X) → slice_get old j ≡ Some c → IsReady shares.burst row c
      is_ready c at = is_part.ready j row c row_is at

      pub part_may : MayBurst now j limit
      part_may = may_burst (share_of shares) part.cell part.before marks rows old j k made now so_far is_part.marked low shares.burst row row_is is_ready limit few_burst

      pub part_row : HasRoomRow now j row
      part_row = has_row (share_of shares) part.cell part.before marks rows old j k made now so_far is_part.marked low shares.burst row row_is is_ready

      module _ (inst : InstId) (one : Made) (new : List (Cell X)) (makes : MakesAt j inst limit row now one new) where
        pub part_few : made.fired + one.fired < 18446744073709551616
        part_few =
            let few : one.fired ≤ 65536 = alone_few (share_of shares) part.cell part.before marks rows old j k made now so_far is_part.marked low shares.burst row row_is is_ready inst limit (omega (arith, few_burst, are.most)) one new makes in
            let marked : count_picked (take j marks) < count_picked marks = among_marks marks j here in
            let all : count_picked marks ≤ length marks = few_marks marks in
            omega (arith, few, marked, all, so_far.few, is_part.marked, is_part.few)

        pub part_more : inst.0 ≡ part.cell + j → 1 ≤ limit → IsAlone (share_of shares) part.cell part.before marks rows old (j + 1) (k + 1) (joined made one) new
        part_more inst_is least = alone_more (share_of shares) part.cell part.before marks rows old j k made now so_far is_part.marked low shares.burst row row_is is_ready inst inst_is here limit limit_is least
            (omega (arith, few_burst, are.most)) one new makes
