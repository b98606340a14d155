-- Tokens that move on the links of a leaf.
use Rattle.std.proofs.Common.{◌≡◌, ◌≢◌, ◌⊎◌, ℕ, zero, suc, ◌+◌, ◌<◌, ◌≤◌, List, [], ◌∷◌, ◌++◌, length, get_or, max, refl, sym, ap, ◌∙◌, subst, inl, inr, ⊎_elim, arith, ne_eqb, set, add-one, get_or-set_same, get_or-set_other}
use Rattle.std.specs.Prelude.{All, AllPairs, Contains}
use Rattle.std.proofs.lemmas.Bool.{cases_eq, cases_lt}
use Rattle.std.proofs.lemmas.List.{get_or_default, get_or_append_left, get_or_push}
use Rattle.std.proofs.lemmas.List.Elements.{All-push, All-nil, Contains-push, Contains-append_left}
use Rattle.std.proofs.lemmas.List.Quantifiers.{all_pairs_push}
use Rattle.balanced_rates.specs.declared.link.RatedLink.{RatedLink}
use Rattle.balanced_rates.specs.Balance.{total}
use Rattle.balanced_rates.specs.Split.{at}
use Rattle.period_order.specs.Board.{link_at, lacks, lacking, moved, IsTouching, AreTouching}
use Rattle.period_order.proofs.Sums.{sum_changed}
use Rattle.period_order.proofs.Taking.{lacks_none}

-- ---- rows of links
pub record IsTouchingUpTo (links : List RatedLink) (leaf bound : ℕ) (row : List ℕ) : Type 0 where
  pub within : All (λ l. l < bound) row
  pub distinct : AllPairs (λ l k. l ≢ k) row
  pub complete : (l : ℕ) → l < bound → ((link_at links l).writer ≡ leaf) ⊎ ((link_at links l).reader ≡ leaf) → Contains row l

pub touching_none : (links : List RatedLink) (leaf : ℕ) → IsTouchingUpTo links leaf 0 []
touching_none links leaf = record {
  within = All-nil (λ l. l < 0);
  distinct = λ i j d less inside. absurd (omega (arith, inside));
  complete = λ l inside. absurd (omega (arith, inside));
}

wider : (bound : ℕ) (row : List ℕ) → All (λ l. l < bound) row → All (λ l. l < bound + 1) row
wider bound row all k d inside = let below : get_or row k d < bound = all k d inside in omega arith

pub touching_more : (links : List RatedLink) (leaf bound : ℕ) (row : List ℕ) → IsTouchingUpTo links leaf bound row → IsTouchingUpTo links leaf (bound + 1) (row ++ bound ∷ [])
touching_more links leaf bound row so_far = record {
  within = All-push (λ l. l < bound + 1) row bound (wider bound row so_far.within) (omega arith);
  distinct = all_pairs_push (λ l k. l ≢ k) row bound so_far.distinct (λ k d inside e. let below : get_or row k d < bound = so_far.within k d inside in absurd (omega (arith, e)));
  complete = λ l inside touches. ⊎_elim (λ (less : l < bound). Contains-append_left row (bound ∷ []) l (so_far.complete l less touches))
      (λ (over : bound ≤ l). let same : bound ≡ l = omega (arith, over, inside) in subst (λ k. Contains (row ++ bound ∷ []) k) same (Contains-push row bound)) (cases_lt l bound);
}

pub touching_same : (links : List RatedLink) (leaf bound : ℕ) (row : List ℕ) → IsTouchingUpTo links leaf bound row → (link_at links bound).writer ≢ leaf → (link_at links bound).reader ≢ leaf → IsTouchingUpTo links leaf (bound + 1) row
touching_same links leaf bound row so_far no_writer no_reader = record {
  within = wider bound row so_far.within;
  distinct = so_far.distinct;
  complete = λ l inside touches. ⊎_elim (λ (less : l < bound). so_far.complete l less touches)
      (λ (over : bound ≤ l). let same : l ≡ bound = omega (arith, over, inside) in absurd (⊎_elim (λ w. no_writer (subst (λ k. (link_at links k).writer ≡ leaf) same w)) (λ r. no_reader (subst (λ k. (link_at links k).reader ≡ leaf) same r)) touches)) (cases_lt l bound);
}

pub touching_all : (links : List RatedLink) (leaf bound : ℕ) (row : List ℕ) → bound ≡ length links → IsTouchingUpTo links leaf bound row → IsTouching links leaf row
touching_all links leaf bound row end so_far =
    let all = subst (λ k. IsTouchingUpTo links leaf k row) end so_far in
    record { within = all.within; distinct = all.distinct; complete = all.complete }

-- ---- links moved one by one
pub record IsMoving (n : ℕ) (links : List RatedLink) (leaf : ℕ) (row : List ℕ) (p : ℕ) (tokens' peaks' unmet tokens peaks : ℕ → ℕ) : Type 0 where
  pub unmet_is : (k : ℕ) → k < n → unmet k ≡ lacking links tokens k
  pub seen : (q : ℕ) → q < p → tokens (at row q) ≡ moved (link_at links (at row q)) leaf (tokens' (at row q))
  pub others : (l : ℕ) → ((q : ℕ) → q < p → at row q ≢ l) → tokens l ≡ tokens' l
  pub peaked : (q : ℕ) → q < p → peaks (at row q) ≡ max (peaks' (at row q)) (tokens (at row q))
  pub unpeaked : (l : ℕ) → ((q : ℕ) → q < p → at row q ≢ l) → peaks l ≡ peaks' l

pub moving_none : (n : ℕ) (links : List RatedLink) (leaf : ℕ) (row : List ℕ) (unmet tokens peaks : ℕ → ℕ) → ((k : ℕ) → k < n → unmet k ≡ lacking links tokens k) → IsMoving n links leaf row 0 tokens peaks unmet tokens peaks
moving_none n links leaf row unmet tokens peaks exact = record {
  unmet_is = exact;
  seen = λ q less. absurd (omega (arith, less));
  others = λ l none. refl;
  peaked = λ q less. absurd (omega (arith, less));
  unpeaked = λ l none. refl;
}

-- what one step does to link l
pub record IsMovedOn (link : RatedLink) (l leaf : ℕ) (unmet tokens peaks unmet' tokens' peaks' : ℕ → ℕ) : Type 0 where
  pub tokens_is : tokens' l ≡ moved link leaf (tokens l)
  pub other_tokens : (k : ℕ) → k ≢ l → tokens' k ≡ tokens k
  pub peaks_is : peaks' l ≡ max (peaks l) (tokens' l)
  pub other_peaks : (k : ℕ) → k ≢ l → peaks' k ≡ peaks k
  pub unmet_is : unmet' link.reader + lacks link (tokens l) link.reader ≡ unmet link.reader + lacks link (tokens' l) link.reader
  pub other_unmet : (k : ℕ) → k ≢ link.reader → unmet' k ≡ unmet k

recounts : (links : List RatedLink) (l leaf k : ℕ) (unmet tokens peaks unmet' tokens' peaks' : ℕ → ℕ) → l < length links → IsMovedOn (link_at links l) l leaf unmet tokens peaks unmet' tokens' peaks' → unmet k ≡ lacking links tokens k → unmet' k ≡ lacking links tokens' k
recounts links l leaf k unmet tokens peaks unmet' tokens' peaks' inside on exact =
    let link = link_at links l in
    let sums : lacking links tokens' k + lacks link (tokens l) k ≡ lacking links tokens k + lacks link (tokens' l) k = sum_changed (λ j. lacks (link_at links j) (tokens j) k) (λ j. lacks (link_at links j) (tokens' j) k) (length links) l inside
    (λ j j_in apart. ap (λ t. lacks (link_at links j) t k) (on.other_tokens j apart)) in
    ⊎_elim (λ (it : k ≡ link.reader).
    let count : unmet' k + lacks link (tokens l) k ≡ unmet k + lacks link (tokens' l) k = subst (λ j. unmet' j + lacks link (tokens l) j ≡ unmet j + lacks link (tokens' l) j) (sym it) on.unmet_is in
    omega arith)
    (λ (apart : k ≢ link.reader).
    let before : lacks link (tokens l) k ≡ 0 = lacks_none link (tokens l) k (λ it. absurd (apart (sym it))) in
    let after : lacks link (tokens' l) k ≡ 0 = lacks_none link (tokens' l) k (λ it. absurd (apart (sym it))) in
    let same : unmet' k ≡ unmet k = on.other_unmet k apart in
    omega arith) (cases_eq k link.reader)

pub earlier_is_other : (row : List ℕ) (p : ℕ) → AllPairs (λ l k. l ≢ k) row → p < length row → (q : ℕ) → q < p → at row q ≢ at row p
earlier_is_other row p distinct inside q less = distinct q p 0 less inside

pub moving_more : (n : ℕ) (links : List RatedLink) (leaf : ℕ) (row : List ℕ) (p : ℕ) (tokens0 peaks0 unmet tokens peaks unmet' tokens' peaks' : ℕ → ℕ) → p < length row → at row p < length links → AllPairs (λ l k. l ≢ k) row → IsMoving n links leaf row p tokens0 peaks0 unmet tokens peaks → IsMovedOn (link_at links (at row p)) (at row p) leaf unmet tokens peaks unmet' tokens' peaks' → IsMoving n links leaf row (p + 1) tokens0 peaks0 unmet' tokens' peaks'
moving_more n links leaf row p tokens0 peaks0 unmet tokens peaks unmet' tokens' peaks' inside l_in distinct so_far on = record {
  unmet_is = λ k k_in. recounts links (at row p) leaf k unmet tokens peaks unmet' tokens' peaks' l_in on (so_far.unmet_is k k_in);
  seen = λ q less. ⊎_elim (λ (before : q < p).
      let apart = earlier_is_other row p distinct inside q before in on.other_tokens (at row q) apart ∙ so_far.seen q before)
      (λ (here : p ≤ q). let same : p ≡ q = omega (arith, here, less) in
      subst (λ j. tokens' (at row j) ≡ moved (link_at links (at row j)) leaf (tokens0 (at row j))) same
      (on.tokens_is ∙ ap (λ t. moved (link_at links (at row p)) leaf t) (so_far.others (at row p) (earlier_is_other row p distinct inside)))) (cases_lt q p);
  others = λ l none. on.other_tokens l (λ e. none p (omega arith) (sym e)) ∙ so_far.others l (λ q less. none q (omega (arith, less)));
  peaked = λ q less. ⊎_elim (λ (before : q < p).
      let apart = earlier_is_other row p distinct inside q before in
      on.other_peaks (at row q) apart ∙ (so_far.peaked q before ∙ ap (λ t. max (peaks0 (at row q)) t) (sym (on.other_tokens (at row q) apart))))
      (λ (here : p ≤ q). let same : p ≡ q = omega (arith, here, less) in
      subst (λ j. peaks' (at row j) ≡ max (peaks0 (at row j)) (tokens' (at row j))) same
      (on.peaks_is ∙ ap (λ t. max t (tokens' (at row p))) (so_far.unpeaked (at row p) (earlier_is_other row p distinct inside)))) (cases_lt q p);
  unpeaked = λ l none. on.other_peaks l (λ e. none p (omega arith) (sym e)) ∙ so_far.unpeaked l (λ q less. none q (omega (arith, less)));
}

seen_or_not : (row : List ℕ) (l p : ℕ) → ((q : ℕ) × (q < p) × (at row q ≡ l)) ⊎ ((q : ℕ) → q < p → at row q ≢ l)
seen_or_not row l zero = inr (λ q less. absurd (omega (arith, less)))
seen_or_not row l (suc p) =
    ⊎_elim (λ (here : at row p ≡ l). inl (p, omega arith, here))
    (λ (apart : at row p ≢ l). ⊎_elim (λ seen. inl (seen.0, omega (arith, seen.1), seen.2))
    (λ none. inr (λ q less. ⊎_elim (λ (before : q < p). none q before)
    (λ (last : p ≤ q). let same : p ≡ q = omega (arith, last, less) in subst (λ j. at row j ≢ l) same apart) (cases_lt q p))) (seen_or_not row l p))
    (cases_eq (at row p) l)

-- a link that wasn't seen isn't the leaf's
untouched : (links : List RatedLink) (leaf : ℕ) (row : List ℕ) (l tokens : ℕ) → IsTouching links leaf row → l < length links → ((q : ℕ) → q < length row → at row q ≢ l) → moved (link_at links l) leaf tokens ≡ tokens
untouched links leaf row l tokens touching inside none =
    let not_there : Contains row l → ⊥ = λ found. none found.0 found.1 (get_or_default row found.0 0 l found.1 ∙ found.2) in
    let no_writer : (link_at links l).writer ≢ leaf = λ e. not_there (touching.complete l inside (inl e)) in
    let no_reader : (link_at links l).reader ≢ leaf = λ e. not_there (touching.complete l inside (inr e)) in
    rw (ne_eqb (link_at links l).writer leaf no_writer, ne_eqb (link_at links l).reader leaf no_reader) (omega arith)

module _ (n : ℕ) (links : List RatedLink) (leaf : ℕ) (row : List ℕ) (p : ℕ) (tokens0 peaks0 unmet tokens peaks : ℕ → ℕ) (end : p ≡ length row) (touching : IsTouching links leaf row) (all : IsMoving n links leaf row p tokens0 peaks0 unmet tokens peaks) where
  pub moved_all : (l : ℕ) → l < length links → tokens l ≡ moved (link_at links l) leaf (tokens0 l)
  moved_all l inside =
      ⊎_elim (λ seen. subst (λ j. tokens j ≡ moved (link_at links j) leaf (tokens0 j)) seen.2 (all.seen seen.0 seen.1))
      (λ none. all.others l none ∙ sym (untouched links leaf row l (tokens0 l) touching inside (λ q less. none q (omega (arith, less))))) (seen_or_not row l p)

  pub peaked_all : ((l : ℕ) → l < length links → tokens0 l ≤ peaks0 l) → (l : ℕ) → l < length links → peaks l ≡ max (peaks0 l) (tokens l)
  peaked_all below l inside =
      ⊎_elim (λ seen. subst (λ j. peaks j ≡ max (peaks0 j) (tokens j)) seen.2 (all.peaked seen.0 seen.1))
      (λ none. let same : tokens l ≡ tokens0 l = all.others l none in let same' : peaks l ≡ peaks0 l = all.unpeaked l none in let within : tokens0 l ≤ peaks0 l = below l inside in omega arith) (seen_or_not row l p)

-- what one step writes
pub moved_on_by : (link : RatedLink) (l leaf : ℕ) (unmet tokens peaks unmet' tokens' peaks' : List ℕ) → l < length tokens → l < length peaks → tokens' ≡ set tokens l (moved link leaf (at tokens l)) → peaks' ≡ set peaks l (max (at peaks l) (moved link leaf (at tokens l))) → at unmet' link.reader + lacks link (at tokens l) link.reader ≡ at unmet link.reader + lacks link (at tokens' l) link.reader → unmet' ≡ set unmet link.reader (at unmet' link.reader) → IsMovedOn link l leaf (at unmet) (at tokens) (at peaks) (at unmet') (at tokens') (at peaks')
moved_on_by link l leaf unmet tokens peaks unmet' tokens' peaks' in_tokens in_peaks tokens_so peaks_so count others =
    let here : at tokens' l ≡ moved link leaf (at tokens l) = ap (λ ls. at ls l) tokens_so ∙ get_or-set_same tokens l (moved link leaf (at tokens l)) 0 in_tokens in
    record {
      tokens_is = here;
      other_tokens = λ k apart. ap (λ ls. at ls k) tokens_so ∙ get_or-set_other tokens l k (moved link leaf (at tokens l)) 0 apart;
      peaks_is = ap (λ ls. at ls l) peaks_so ∙ (get_or-set_same peaks l (max (at peaks l) (moved link leaf (at tokens l))) 0 in_peaks ∙ ap (λ t. max (at peaks l) t) (sym here));
      other_peaks = λ k apart. ap (λ ls. at ls k) peaks_so ∙ get_or-set_other peaks l k (max (at peaks l) (moved link leaf (at tokens l))) 0 apart;
      unmet_is = count;
      other_unmet = λ k apart. ap (λ ls. at ls k) others ∙ get_or-set_other unmet link.reader k (at unmet' link.reader) 0 apart;
    }

-- a row more
pub rows_more : (leaf : ℕ) (links : List RatedLink) (rows : List (List ℕ)) (row : List ℕ) → length rows ≡ leaf → AreTouching leaf links rows → IsTouching links leaf row → AreTouching (leaf + 1) links (rows ++ row ∷ [])
rows_more leaf links rows row size each touching k inside =
    ⊎_elim (λ (less : k < leaf). rw (get_or_append_left rows (row ∷ []) [] k (omega (arith, less, size))) (each k less))
    (λ (over : leaf ≤ k). let same : leaf ≡ k = omega (arith, over, inside) in
    let end : length rows ≡ k = size ∙ same in
    rw (get_or_push rows row [] k end) (subst (λ j. IsTouching links j row) same touching)) (cases_lt k leaf)

-- tokens that lack at first, link by link
pub lacks_counted : (links : List RatedLink) (l : ℕ) (unmet : List ℕ) (lack k : ℕ) → (link_at links l).reader < length unmet → lack ≡ lacks (link_at links l) 0 (link_at links l).reader → at unmet k ≡ total (λ j. lacks (link_at links j) 0 k) l → at (set unmet (link_at links l).reader (at unmet (link_at links l).reader + lack)) k ≡ total (λ j. lacks (link_at links j) 0 k) (l + 1)
lacks_counted links l unmet lack k inside lack_is before =
    let more : total (λ j. lacks (link_at links j) 0 k) (l + 1) ≡ total (λ j. lacks (link_at links j) 0 k) l + lacks (link_at links l) 0 k = rw add-one refl in
    ⊎_elim (λ (it : k ≡ (link_at links l).reader).
    let lack_is' : lack ≡ lacks (link_at links l) 0 k = subst (λ j. lack ≡ lacks (link_at links l) 0 j) (sym it) lack_is in
    let before' : at unmet (link_at links l).reader ≡ total (λ j. lacks (link_at links j) 0 k) l = subst (λ j. at unmet j ≡ total (λ j'. lacks (link_at links j') 0 k) l) it before in
    let here : at (set unmet (link_at links l).reader (at unmet (link_at links l).reader + lack)) k ≡ at unmet (link_at links l).reader + lack = ap (λ j. at (set unmet (link_at links l).reader (at unmet (link_at links l).reader + lack)) j) it ∙ get_or-set_same unmet (link_at links l).reader (at unmet (link_at links l).reader + lack) 0 inside in
    omega arith)
    (λ (apart : k ≢ (link_at links l).reader).
    let none : lacks (link_at links l) 0 k ≡ 0 = lacks_none (link_at links l) 0 k (λ it. absurd (apart (sym it))) in
    let same : at (set unmet (link_at links l).reader (at unmet (link_at links l).reader + lack)) k ≡ at unmet k = get_or-set_other unmet (link_at links l).reader k (at unmet (link_at links l).reader + lack) 0 apart in
    omega arith) (cases_eq k (link_at links l).reader)
