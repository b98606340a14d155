-- How far the loops of counting and putting have come.
use Rattle.std.proofs.Common.{◌≡◌, ◌≢◌, ⊎_elim, ℕ, zero, suc, ◌+◌, ◌<◌, ◌≤◌, Bool, true, false, List, [], ◌∷◌, ◌++◌, length, map, take, refl, sym, ap, subst, ◌∙◌, arith, append-nil, length-append}
use Rattle.std.specs.Prelude.{Option, Some, slice_get, slice_set, slice_index_or}
use Rattle.std.proofs.lemmas.Bool.{cases_eq, cases_lt}
use Rattle.std.proofs.lemmas.Option.{slice_get_within}
use Rattle.rvc_io.specs.Channels.{Appends, Channels, WritesOnlyAt}
use Rattle.channel_writer.specs.Held.{AppendsFront, HoldsFront}
use Rattle.net_model.specs.declared.wiring.Link.{Link}
use Rattle.net_model.specs.Cell.{Cell}
use Rattle.net_state.specs.declared.filling.Filled.{Filled}
use Rattle.net_state.specs.Held.{HoldFew, capacity_of}
use Rattle.net_state.specs.Moving.{carried}
use Rattle.net_state.proofs.Gaining.{some_is}
use Rattle.net_state.proofs.Starting.{get_pushed}
use Rattle.net_model.specs.declared.wiring.Port.{Port}
use Rattle.port_files.specs.Coming.{Reading}
use Rattle.network_runner.specs.Making.{AreReadersOf, IsReaderOf}
use Rattle.network_runner.specs.declared.sending.Outlet.{Outlet}
use Rattle.network_runner.specs.Counting.{arrived_with, capped_sum, rests_with, sent_at, sent_with, told_or}
use Rattle.network_runner.specs.Putting.{PutsOutletFronts, PutsOutlets}
use Rattle.network_runner.specs.Sending.{SendsOnly, buffered}
use Rattle.network_runner.proofs.Sent.{index_other, only_more, only_none, take_more}

-- Counting.

take_none : {A : Type 0} (xs : List A) → take 0 xs ≡ []
take_none [] = refl
take_none (x ∷ xs) = refl

pub arrived_more : (came : List Filled) (counts : List ℕ) (l : ℕ) (filled : Filled) → slice_get came l ≡ Some filled → l < length counts
    → slice_set (arrived_with (take l came) counts) l (capped_sum (slice_index_or (arrived_with (take l came) counts) l 0) filled.tokens) ≡ arrived_with (take (suc l) came) counts
arrived_more [] counts l filled at low = cc
arrived_more (first ∷ came) [] l filled at low = absurd (omega (arith, low))
arrived_more (first ∷ came) (count ∷ counts) zero filled at low =
    ap (λ f. capped_sum count f.tokens ∷ counts) (sym (some_is first filled at)) ∙ ap (λ fs. capped_sum count first.tokens ∷ arrived_with fs counts) (sym (take_none came))
arrived_more (first ∷ came) (count ∷ counts) (suc l) filled at low = ap (λ xs. capped_sum count first.tokens ∷ xs) (arrived_more came counts l filled at (omega (arith, low)))

pub rests_more : (came : List Filled) (counts : List ℕ) (l : ℕ) (filled : Filled) → slice_get came l ≡ Some filled → l < length counts
    → slice_set (rests_with (take l came) counts) l (told_or filled.rest (slice_index_or (rests_with (take l came) counts) l 0)) ≡ rests_with (take (suc l) came) counts
rests_more [] counts l filled at low = cc
rests_more (first ∷ came) [] l filled at low = absurd (omega (arith, low))
rests_more (first ∷ came) (count ∷ counts) zero filled at low =
    ap (λ f. told_or f.rest count ∷ counts) (sym (some_is first filled at)) ∙ ap (λ fs. told_or first.rest count ∷ rests_with fs counts) (sym (take_none came))
rests_more (first ∷ came) (count ∷ counts) (suc l) filled at low = ap (λ xs. told_or first.rest count ∷ xs) (rests_more came counts l filled at (omega (arith, low)))

sent_then : {X : Type 0} (cells : List (Cell X)) (links : List Link) (link : Link) (counts : List ℕ)
    → sent_with cells (links ++ link ∷ []) counts ≡ sent_at (sent_with cells links counts) (length (carried cells link)) link.to
sent_then cells [] link counts = refl
sent_then cells (first ∷ links) link counts = sent_then cells links link (sent_at counts (length (carried cells first)) first.to)

pub sent_more : {X : Type 0} (cells : List (Cell X)) (links : List Link) (l : ℕ) (link : Link) (counts : List ℕ) → slice_get links l ≡ Some link
    → sent_at (sent_with cells (take l links) counts) (length (carried cells link)) link.to ≡ sent_with cells (take (l + 1) links) counts
sent_more cells links l link counts at = sym (ap (λ ls. sent_with cells ls counts) (take_more links l link at) ∙ sent_then cells (take l links) link counts)

-- Putting.

pub record IsPutting (outlets : List Outlet) (p : ℕ) (old now : Channels) (before writers : List (List ℕ)) : Type 0 where
  pub puts : (q : ℕ) (outlet : Outlet) → q < p → slice_get outlets q ≡ Some outlet → outlet.is_open ≡ true → Appends (2 + q) old now (buffered before q)
  pub still : (q : ℕ) → p ≤ q → old.tells ≡ true → now.held (2 + q) ≡ old.held (2 + q)
  pub ahead : (q : ℕ) → p ≤ q → buffered writers q ≡ buffered before q
  pub only : SendsOnly outlets old now
  pub count : length writers ≡ length before

pub putting_starts : (outlets : List Outlet) (channels : Channels) (writers : List (List ℕ)) → IsPutting outlets 0 channels channels writers writers
putting_starts outlets channels writers = record {
  puts = λ q outlet low. absurd (omega (arith, low));
  still = λ q low told. refl;
  ahead = λ q low. refl;
  only = only_none outlets channels;
  count = refl;
}

set_count : (xs : List (List ℕ)) (k : ℕ) (x : List ℕ) → length (slice_set xs k x) ≡ length xs
set_count [] k x = refl
set_count (y ∷ xs) zero x = refl
set_count (y ∷ xs) (suc k) x = ap suc (set_count xs k x)

-- what was put before stays, as another channel is written
pub after_it : (channel other : ℕ) (old now new : Channels) (text : List ℕ) → now.tells ≡ old.tells → WritesOnlyAt other now new → channel ≢ other → Appends channel old now text → Appends channel old new text
after_it channel other old now new text tells only differ puts told = only.same_held (tells ∙ told) channel differ ∙ puts told

pub whole_front : (channel : ℕ) (old new : Channels) (text : List ℕ) → Appends channel old new text → AppendsFront channel old new text
whole_front channel old new text puts told = record { put = text; left = []; new_is = puts told; text_is = sym (append-nil text) }

pub none_front : (channel : ℕ) (old new : Channels) (text : List ℕ) → (old.tells ≡ true → new.held channel ≡ old.held channel) → AppendsFront channel old new text
none_front channel old new text same told = record { put = []; left = text; new_is = same told ∙ sym (append-nil (old.held channel)); text_is = refl }

module _ (outlets : List Outlet) (p : ℕ) (outlet : Outlet) (here : slice_get outlets p ≡ Some outlet) (old now new : Channels) (before writers : List (List ℕ)) (so_far : IsPutting outlets p old now before writers)
    (only : WritesOnlyAt (2 + p) now new) (closed : outlet.is_open ≡ false → new ≡ now) where
  same_there : (q : ℕ) (other : Outlet) → q ≡ p → slice_get outlets q ≡ Some other → outlet ≡ other
  same_there q other same that = some_is outlet other (sym here ∙ (ap (slice_get outlets) (sym same) ∙ that))

  only_next : SendsOnly outlets now new
  only_next = by_test outlet.is_open refl
    where
      by_test : (b : Bool) → outlet.is_open ≡ b → SendsOnly outlets now new
      by_test true is = record {
        same_telling = only.same_telling;
        same_others = λ told channel other. only.same_held told channel (λ same. other (p, outlet, here, is, same));
        same_open = only.same_open;
        faults_stay = only.faults_stay;
      }
      by_test false is = subst (SendsOnly outlets now) (sym (closed is)) (only_none outlets now)

  pub only_after : SendsOnly outlets old new
  only_after = only_more outlets old now new so_far.only only_next

  pub putting_more : (after : List ℕ) → (outlet.is_open ≡ true → Appends (2 + p) now new (buffered writers p)) → IsPutting outlets (p + 1) old new before (slice_set writers p after)
  putting_more after put = record {
    puts = λ q other low that is_open. ⊎_elim
        (λ same.
        let outlet_is : outlet ≡ other = same_there q other same that in
        let put_now : Appends (2 + p) now new (buffered before p) = subst (Appends (2 + p) now new) (so_far.ahead p (omega arith)) (put (ap (λ o. o.is_open) outlet_is ∙ is_open)) in
        let put_here : Appends (2 + p) old new (buffered before p) = (λ told. put_now (so_far.only.same_telling ∙ told) ∙ ap (λ h. h ++ buffered before p) (so_far.still p (omega arith) told)) in
        subst (λ k. Appends (2 + k) old new (buffered before k)) (sym same) put_here)
        (λ differ. after_it (2 + q) (2 + p) old now new (buffered before q) so_far.only.same_telling only (λ e. differ (omega (arith, e))) (so_far.puts q other (omega (arith, low, differ)) that is_open))
        (cases_eq q p);
    still = λ q low told. only.same_held (so_far.only.same_telling ∙ told) (2 + q) (λ e. absurd (omega (arith, e, low))) ∙ so_far.still q (omega (arith, low)) told;
    ahead = λ q low. index_other writers p q after [] (λ e. absurd (omega (arith, e, low))) ∙ so_far.ahead q (omega (arith, low));
    only = only_after;
    count = set_count writers p after ∙ so_far.count;
  }

  pub putting_breaks : AppendsFront (2 + p) now new (buffered writers p) → PutsOutletFronts outlets old new before
  putting_breaks front = λ q other that is_open. ⊎_elim
      (λ same.
      let front_now : AppendsFront (2 + p) now new (buffered before p) = subst (AppendsFront (2 + p) now new) (so_far.ahead p (omega arith)) front in
      subst (λ k. AppendsFront (2 + k) old new (buffered before k)) (sym same)
      (λ told. subst (λ h. HoldsFront h (new.held (2 + p)) (buffered before p)) (so_far.still p (omega arith) told) (front_now (so_far.only.same_telling ∙ told))))
      (λ differ. ⊎_elim
      (λ low. whole_front (2 + q) old new (buffered before q) (after_it (2 + q) (2 + p) old now new (buffered before q) so_far.only.same_telling only (λ e. differ (omega (arith, e))) (so_far.puts q other low that is_open)))
      (λ high. none_front (2 + q) old new (buffered before q) (λ told. only.same_held (so_far.only.same_telling ∙ told) (2 + q) (λ e. differ (omega (arith, e))) ∙ so_far.still q high told))
      (cases_lt q p))
      (cases_eq q p)

pub putting_all : (outlets : List Outlet) (p : ℕ) (old now : Channels) (before writers : List (List ℕ)) → IsPutting outlets p old now before writers → length outlets ≤ p → PutsOutlets outlets old now before
putting_all outlets p old now before writers so_far all = λ q outlet at is_open. so_far.puts q outlet (low q outlet outlets at all) at is_open
  where
    low : (q : ℕ) (outlet : Outlet) (those : List Outlet) → slice_get those q ≡ Some outlet → length those ≤ p → q < p
    low q outlet those at few = (let less : q < length those = slice_get_within those q outlet at in omega (arith, less, few))

-- Making.

pub readers_more : (ports : List Port) (opens : List Bool) (links : List Link) (readers : List (Option Reading)) (l : ℕ) (link : Link) (reader : Option Reading) → slice_get links l ≡ Some link
    → AreReadersOf ports opens (take l links) readers → IsReaderOf ports opens link reader → AreReadersOf ports opens (take (l + 1) links) (readers ++ reader ∷ [])
readers_more ports opens links readers l link reader at so_far is =
    subst (λ ls. AreReadersOf ports opens ls (readers ++ reader ∷ [])) (sym (take_more links l link at)) (record {
      count = length-append readers (reader ∷ []) ∙ (ap (λ n. n + 1) so_far.count ∙ sym (length-append (take l links) (link ∷ [])));
      each = λ k other there here found.
          let links_at = get_pushed (take l links) link k other here in
          let readers_at = get_pushed readers reader k there found in
          let long : length (take l links ++ link ∷ []) ≡ length (take l links) + 1 = length-append (take l links) (link ∷ []) in
          let low : k < length (take l links ++ link ∷ []) = slice_get_within (take l links ++ link ∷ []) k other here in
          let same : length readers ≡ length (take l links) = so_far.count in
          ⊎_elim
          (λ before. so_far.each k other there (links_at.0 before) (readers_at.0 (omega (arith, before, same))))
          (λ last.
          let here_last : k ≡ length (take l links) = omega (arith, last, low, long) in
          let link_is : other ≡ link = links_at.1 here_last in
          let reader_is : there ≡ reader = readers_at.1 (omega (arith, here_last, same)) in
          subst (λ r. IsReaderOf ports opens other r) (sym reader_is) (subst (λ k2. IsReaderOf ports opens k2 reader) (sym link_is) is))
          (cases_lt k (length (take l links)));
    })

-- Copies of links.

few_more : (xs : List ℕ) (x : ℕ) → HoldFew xs → x ≤ 4294967295 → HoldFew (xs ++ x ∷ [])
few_more [] x few low zero = low
few_more [] x few low (suc l) = omega arith
few_more (y ∷ xs) x few low zero = few 0
few_more (y ∷ xs) x few low (suc l) = few_more xs x (λ k. few (suc k)) low l

capacities_more : (links : List Link) (link : Link) → map capacity_of (links ++ link ∷ []) ≡ map capacity_of links ++ link.capacity ∷ []
capacities_more [] link = refl
capacities_more (first ∷ links) link = ap (λ ns. first.capacity ∷ ns) (capacities_more links link)

-- one link more was copied
pub copy_more : (links : List Link) (l : ℕ) (copy : List Link) (link : Link) → slice_get links l ≡ Some link → link.capacity ≤ 4294967295 → copy ≡ take l links → HoldFew (map capacity_of copy)
    → (copy ++ link ∷ [] ≡ take (l + 1) links) × HoldFew (map capacity_of (copy ++ link ∷ []))
copy_more links l copy link at low is few = (
  ap (λ ls. ls ++ link ∷ []) is ∙ sym (take_more links l link at),
  subst HoldFew (sym (capacities_more copy link)) (few_more (map capacity_of copy) link.capacity few low),
)
