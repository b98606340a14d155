-- Turns and the tokens that they leave.
use Rattle.std.proofs.Common.{◌≡◌, ◌≢◌, ℕ, zero, suc, ◌+◌, ◌-◌, ◌*◌, ◌<◌, ◌≤◌, List, [], ◌∷◌, ◌++◌, length, get_or, take, drop, max, cond, refl, sym, ap, ◌∙◌, subst, ⊎_elim, arith, nat_eq, eq-eqb, ne_eqb, lt-ltb, le-ltb, add-one, length-append, take-append-drop}
use Rattle.std.specs.Prelude.{All}
use Rattle.std.proofs.Math.Nat.{mul-le-mul_left}
use Rattle.std.proofs.lemmas.Bool.{cases_eq, cases_lt}
use Rattle.std.proofs.lemmas.List.{get_or_append_left, get_or_push, get_or_default, take_more, take_all, take_at, take-append-le}
use Rattle.std.proofs.lemmas.List.Sums.{sum_by_push, sum_by-append}
use Rattle.balanced_rates.specs.declared.link.RatedLink.{RatedLink}
use Rattle.balanced_rates.specs.Balance.{IsAmong}
use Rattle.period_order.specs.Turns.{turns, given, taken, waiting, Finds, IsPeriod, MayFire, IsNext, IsLeastFirst, IsBlocked, IsPeak}
use Rattle.period_order.specs.Board.{link_at, lacks, lacking, gives, takes, moved, IsPlayed}
use Rattle.period_order.proofs.Sums.{term_within_sum, sum_is_zero}

-- ---- turns
turns_push : (leaf other : ℕ) (order : List ℕ) → turns leaf (order ++ other ∷ []) ≡ turns leaf order + cond (nat_eq leaf other) 1 0
turns_push leaf other order = sum_by_push (λ x. cond (nat_eq leaf x) 1 0) order other

pub turns_of_it : (leaf : ℕ) (order : List ℕ) → turns leaf (order ++ leaf ∷ []) ≡ turns leaf order + 1
turns_of_it leaf order = turns_push leaf leaf order ∙ (rw (eq-eqb leaf leaf refl) refl)

pub turns_of_other : (leaf other : ℕ) (order : List ℕ) → leaf ≢ other → turns leaf (order ++ other ∷ []) ≡ turns leaf order
turns_of_other leaf other order apart =
    let none : turns leaf order + cond (nat_eq leaf other) 1 0 ≡ turns leaf order = rw (ne_eqb leaf other apart) (omega arith) in
    turns_push leaf other order ∙ none

turns_before : (leaf p : ℕ) (order : List ℕ) → turns leaf (take p order) ≤ turns leaf order
turns_before leaf p order =
    let parts : turns leaf (take p order ++ drop p order) ≡ turns leaf (take p order) + turns leaf (drop p order) = sum_by-append (λ x. cond (nat_eq leaf x) 1 0) (take p order) (drop p order) in
    let whole : turns leaf (take p order ++ drop p order) ≡ turns leaf order = ap (λ ls. turns leaf ls) (take-append-drop p order) in
    omega arith

-- ---- no period goes past a stop
module _ (n : ℕ) (links : List RatedLink) (firings : ℕ → ℕ) (order : List ℕ) (among : All (IsAmong n) links) (none : (other : ℕ) → ¬ MayFire n links firings order other) (period : List ℕ) (is : IsPeriod n links firings period) where
  -- a leaf that takes a turn more than in the order could have taken it there
  may_fire : (p : ℕ) → p < length period → ((k : ℕ) → k < n → turns k (take p period) ≤ turns k order) → turns (get_or period p 0) (take p period) ≡ turns (get_or period p 0) order → MayFire n links firings order (get_or period p 0)
  may_fire p inside fewer same =
      let leaf = get_or period p 0 in
      let leaf_in : leaf < n = is.among p 0 inside in
      let more : turns leaf (take (p + 1) period) ≡ turns leaf (take p period) + 1 = ap (λ ls. turns leaf ls) (take_more period p 0 inside) ∙ turns_of_it leaf (take p period) in
      let all : turns leaf (take (p + 1) period) ≤ turns leaf period = turns_before leaf (p + 1) period in
      let wanted : turns leaf period ≡ firings leaf = is.counts leaf leaf_in in
      record {
        among = leaf_in;
        left = omega (arith, same);
        finds = λ l d l_in reads.
            let link = get_or links l d in
            let found : taken link (take p period) + link.need ≤ given link (take p period) = is.finds p inside l d l_in reads in
            let writes : link.give * turns link.writer (take p period) ≤ link.give * turns link.writer order = mul-le-mul_left link.give (fewer link.writer (among l d l_in).0) in
            let takes_same : link.need * turns link.reader (take p period) ≡ link.need * turns link.reader order = ap (λ z. link.need * z) (subst (λ k. turns k (take p period) ≡ turns k order) (sym reads) same) in
            omega arith;
      }

  never_more : (p : ℕ) → p ≤ length period → (k : ℕ) → k < n → turns k (take p period) ≤ turns k order
  never_more zero within k k_in = omega arith
  never_more (suc p) within k k_in =
      let inside : p < length period = omega (arith, within) in
      let leaf = get_or period p 0 in
      let fewer : (j : ℕ) → j < n → turns j (take p period) ≤ turns j order = λ j j_in. never_more p (omega (arith, inside)) j j_in in
      let step : take (suc p) period ≡ take p period ++ leaf ∷ [] = rw (← add-one) (take_more period p 0 inside) in
      let before : turns k (take p period) ≤ turns k order = fewer k k_in in
      ⊎_elim (λ (it : k ≡ leaf).
      let more : turns k (take (suc p) period) ≡ turns k (take p period) + 1 = ap (λ ls. turns k ls) step ∙ subst (λ j. turns j (take p period ++ leaf ∷ []) ≡ turns j (take p period) + 1) (sym it) (turns_of_it leaf (take p period)) in
      ⊎_elim (λ (less : turns k (take p period) < turns k order). omega arith)
      (λ (over : turns k order ≤ turns k (take p period)).
      let same : turns k (take p period) ≡ turns k order = omega (arith, over) in
      absurd (none leaf (may_fire p inside fewer (subst (λ j. turns j (take p period) ≡ turns j order) it same)))) (cases_lt (turns k (take p period)) (turns k order)))
      (λ (apart : k ≢ leaf).
      let same : turns k (take (suc p) period) ≡ turns k (take p period) = ap (λ ls. turns k ls) step ∙ turns_of_other k leaf (take p period) apart in
      omega arith) (cases_eq k leaf)

  pub no_period : (leaf : ℕ) → leaf < n → turns leaf order < firings leaf → ⊥
  no_period leaf leaf_in left =
      let most : turns leaf (take (length period) period) ≤ turns leaf order = never_more (length period) (omega arith) leaf leaf_in in
      let whole : turns leaf (take (length period) period) ≡ turns leaf period = ap (λ ls. turns leaf ls) (take_all (length period) period (omega arith)) in
      let wanted : turns leaf period ≡ firings leaf = is.counts leaf leaf_in in
      absurd (omega (arith, left))

-- ---- one firing
given_push : (link : RatedLink) (leaf : ℕ) (order : List ℕ) → given link (order ++ leaf ∷ []) ≡ given link order + gives link leaf
given_push link leaf order =
    ⊎_elim (λ (it : link.writer ≡ leaf).
    let more : turns link.writer (order ++ leaf ∷ []) ≡ turns link.writer order + 1 = subst (λ k. turns k (order ++ leaf ∷ []) ≡ turns k order + 1) (sym it) (turns_of_it leaf order) in
    let times : link.give * turns link.writer (order ++ leaf ∷ []) ≡ link.give * (turns link.writer order + 1) = ap (λ z. link.give * z) more in
    rw (eq-eqb link.writer leaf it) (omega arith))
    (λ (apart : link.writer ≢ leaf).
    let times : link.give * turns link.writer (order ++ leaf ∷ []) ≡ link.give * turns link.writer order = ap (λ z. link.give * z) (turns_of_other link.writer leaf order apart) in
    rw (ne_eqb link.writer leaf apart) (omega arith)) (cases_eq link.writer leaf)

taken_push : (link : RatedLink) (leaf : ℕ) (order : List ℕ) → taken link (order ++ leaf ∷ []) ≡ taken link order + takes link leaf
taken_push link leaf order =
    ⊎_elim (λ (it : link.reader ≡ leaf).
    let more : turns link.reader (order ++ leaf ∷ []) ≡ turns link.reader order + 1 = subst (λ k. turns k (order ++ leaf ∷ []) ≡ turns k order + 1) (sym it) (turns_of_it leaf order) in
    let times : link.need * turns link.reader (order ++ leaf ∷ []) ≡ link.need * (turns link.reader order + 1) = ap (λ z. link.need * z) more in
    rw (eq-eqb link.reader leaf it) (omega arith))
    (λ (apart : link.reader ≢ leaf).
    let times : link.need * turns link.reader (order ++ leaf ∷ []) ≡ link.need * turns link.reader order = ap (λ z. link.need * z) (turns_of_other link.reader leaf order apart) in
    rw (ne_eqb link.reader leaf apart) (omega arith)) (cases_eq link.reader leaf)

-- ---- links that lack tokens
pub lacks_none : (link : RatedLink) (tokens leaf : ℕ) → (link.reader ≡ leaf → link.need ≤ tokens) → lacks link tokens leaf ≡ 0
lacks_none link tokens leaf enough =
    ⊎_elim (λ (it : link.reader ≡ leaf). rw (eq-eqb link.reader leaf it, le-ltb tokens link.need (enough it)) refl)
    (λ (apart : link.reader ≢ leaf). rw (ne_eqb link.reader leaf apart) refl) (cases_eq link.reader leaf)

pub lacks_some : (link : RatedLink) (tokens leaf : ℕ) → link.reader ≡ leaf → tokens < link.need → lacks link tokens leaf ≡ 1
lacks_some link tokens leaf it few = rw (eq-eqb link.reader leaf it, lt-ltb tokens link.need few) refl

pub lacks_at_most : (link : RatedLink) (tokens leaf : ℕ) → lacks link tokens leaf ≤ 1
lacks_at_most link tokens leaf =
    ⊎_elim (λ (it : link.reader ≡ leaf).
    ⊎_elim (λ (few : tokens < link.need). let one : lacks link tokens leaf ≡ 1 = lacks_some link tokens leaf it few in omega arith)
    (λ (enough : link.need ≤ tokens). let none : lacks link tokens leaf ≡ 0 = lacks_none link tokens leaf (λ _. enough) in omega arith) (cases_lt tokens link.need))
    (λ (apart : link.reader ≢ leaf). let none : lacks link tokens leaf ≡ 0 = lacks_none link tokens leaf (λ it. absurd (apart it)) in omega arith) (cases_eq link.reader leaf)

-- a leaf that lacks none finds its tokens on each link
enough_on : (links : List RatedLink) (tokens : ℕ → ℕ) (leaf l : ℕ) → lacking links tokens leaf ≡ 0 → l < length links → (link_at links l).reader ≡ leaf → (link_at links l).need ≤ tokens l
enough_on links tokens leaf l none inside it =
    ⊎_elim (λ (few : tokens l < (link_at links l).need).
    let one : lacks (link_at links l) (tokens l) leaf ≡ 1 = lacks_some (link_at links l) (tokens l) leaf it few in
    let within : lacks (link_at links l) (tokens l) leaf ≤ lacking links tokens leaf = term_within_sum (λ k. lacks (link_at links k) (tokens k) leaf) (length links) l inside in
    absurd (omega (arith, none)))
    (λ (enough : (link_at links l).need ≤ tokens l). enough) (cases_lt (tokens l) (link_at links l).need)

pub takes_enough : (links : List RatedLink) (tokens : ℕ → ℕ) (leaf : ℕ) → lacking links tokens leaf ≡ 0 → (l : ℕ) → l < length links → takes (link_at links l) leaf ≤ tokens l
takes_enough links tokens leaf none l inside =
    ⊎_elim (λ (it : (link_at links l).reader ≡ leaf). rw (eq-eqb (link_at links l).reader leaf it) (enough_on links tokens leaf l none inside it))
    (λ (apart : (link_at links l).reader ≢ leaf). rw (ne_eqb (link_at links l).reader leaf apart) (omega arith)) (cases_eq (link_at links l).reader leaf)

-- ---- what is known behind the turns
module _ (n : ℕ) (links : List RatedLink) (firings : ℕ → ℕ) (order : List ℕ) (left unmet tokens peaks : ℕ → ℕ) (played : IsPlayed n links firings order left unmet tokens peaks) where
  pub finds_from_none : (leaf : ℕ) → leaf < n → unmet leaf ≡ 0 → Finds links order leaf
  finds_from_none leaf leaf_in none l d inside =
      subst (λ link. link.reader ≡ leaf → taken link order + link.need ≤ given link order) (get_or_default links l (record { writer = 0; reader = 0; give = 0; need = 0 }) d inside)
      (λ it. let known : tokens l + taken (link_at links l) order ≡ given (link_at links l) order = played.tokens_are l inside in
      let enough : (link_at links l).need ≤ tokens l = enough_on links tokens leaf l (sym (played.unmet_is leaf leaf_in) ∙ none) inside it in
      omega arith)

  pub none_from_finds : (leaf : ℕ) → leaf < n → Finds links order leaf → unmet leaf ≡ 0
  none_from_finds leaf leaf_in finds =
      played.unmet_is leaf leaf_in ∙ sum_is_zero (λ l. lacks (link_at links l) (tokens l) leaf) (length links)
      (λ l inside. lacks_none (link_at links l) (tokens l) leaf
      (λ it. let known : tokens l + taken (link_at links l) order ≡ given (link_at links l) order = played.tokens_are l inside in
      let found : taken (link_at links l) order + (link_at links l).need ≤ given (link_at links l) order = finds l (record { writer = 0; reader = 0; give = 0; need = 0 }) inside it in
      omega arith))

  pub may_from_ready : (leaf : ℕ) → leaf < n → 0 < left leaf → unmet leaf ≡ 0 → MayFire n links firings order leaf
  may_from_ready leaf leaf_in some none = record {
    among = leaf_in;
    left = let known : left leaf + turns leaf order ≡ firings leaf = played.left_is leaf leaf_in in omega (arith, some);
    finds = finds_from_none leaf leaf_in none;
  }

  pub not_may : (leaf : ℕ) → (leaf < n → 0 < left leaf → unmet leaf ≢ 0) → ¬ MayFire n links firings order leaf
  not_may leaf unready may =
      let known : left leaf + turns leaf order ≡ firings leaf = played.left_is leaf may.among in
      let fewer : turns leaf order < firings leaf = may.left in
      unready may.among (omega arith) (none_from_finds leaf may.among may.finds)

  -- there is room for what one firing gives, by the most firings of any leaf
  pub room_for : (most leaf : ℕ) → ((k : ℕ) → k < n → firings k ≤ most) → All (IsAmong n) links → leaf < n → 0 < left leaf → (l : ℕ) → l < length links → tokens l + gives (link_at links l) leaf ≤ (link_at links l).give * most
  room_for most leaf few among leaf_in some l inside =
      let link = link_at links l in
      let writer_in : link.writer < n = (among l (record { writer = 0; reader = 0; give = 0; need = 0 }) inside).0 in
      let known : tokens l + taken link order ≡ given link order = played.tokens_are l inside in
      let known' : left link.writer + turns link.writer order ≡ firings link.writer = played.left_is link.writer writer_in in
      let few' : firings link.writer ≤ most = few link.writer writer_in in
      ⊎_elim (λ (it : link.writer ≡ leaf).
      let some' : 0 < left link.writer = subst (λ k. 0 < left k) (sym it) some in
      let one : link.give * (turns link.writer order + 1) ≤ link.give * most = mul-le-mul_left link.give (omega arith) in
      rw (eq-eqb link.writer leaf it) (omega arith))
      (λ (apart : link.writer ≢ leaf).
      let all : link.give * turns link.writer order ≤ link.give * most = mul-le-mul_left link.give (omega arith) in
      rw (ne_eqb link.writer leaf apart) (omega arith)) (cases_eq link.writer leaf)

  pub waiting_is : (l : ℕ) → l < length links → waiting (link_at links l) order ≡ tokens l
  waiting_is l inside =
      let known : tokens l + taken (link_at links l) order ≡ given (link_at links l) order = played.tokens_are l inside in omega arith

  pub within_peak : (l : ℕ) → l < length links → tokens l ≤ peaks l
  within_peak l inside =
      let most : waiting (link_at links l) (take (length order) order) ≤ peaks l = (played.peaks_are l inside).most (length order) (omega arith) in
      let whole : waiting (link_at links l) (take (length order) order) ≡ waiting (link_at links l) order = ap (λ ls. waiting (link_at links l) ls) (take_all (length order) order (omega arith)) in
      let is : waiting (link_at links l) order ≡ tokens l = waiting_is l inside in
      omega arith

-- ---- a turn more
peak_more : (link : RatedLink) (order : List ℕ) (leaf peak now : ℕ) → IsPeak link order peak → waiting link (order ++ leaf ∷ []) ≡ now → IsPeak link (order ++ leaf ∷ []) (max peak now)
peak_more link order leaf peak now is e = record {
  most = λ p within.
      ⊎_elim (λ (over : length order < p).
      let whole : waiting link (take p (order ++ leaf ∷ [])) ≡ waiting link (order ++ leaf ∷ []) = ap (λ ls. waiting link ls) (take_all p (order ++ leaf ∷ []) (omega (arith, over, length-append order (leaf ∷ [])))) in
      omega arith)
      (λ (before : p ≤ length order).
      let old : waiting link (take p order) ≤ peak = is.most p before in
      let same : waiting link (take p (order ++ leaf ∷ [])) ≡ waiting link (take p order) = ap (λ ls. waiting link ls) (take-append-le p order (leaf ∷ []) before) in
      omega arith) (cases_lt (length order) p);
  reached =
      ⊎_elim (λ (more : peak < now).
      let same : now ≡ max peak now = omega (arith, more) in
      (length (order ++ leaf ∷ []), omega arith, ap (λ ls. waiting link ls) (take_all (length (order ++ leaf ∷ [])) (order ++ leaf ∷ []) (omega arith)) ∙ (e ∙ same)))
      (λ (less : now ≤ peak).
      let same : peak ≡ max peak now = omega (arith, less) in
      let within : is.reached.0 ≤ length (order ++ leaf ∷ []) = omega (arith, is.reached.1, length-append order (leaf ∷ [])) in
      (is.reached.0, within, ap (λ ls. waiting link ls) (take-append-le is.reached.0 order (leaf ∷ []) is.reached.1) ∙ (is.reached.2 ∙ same))) (cases_lt peak now);
}

next_more : (n : ℕ) (links : List RatedLink) (firings : ℕ → ℕ) (order : List ℕ) (leaf : ℕ) → IsLeastFirst n links firings order → IsNext n links firings order leaf → IsLeastFirst n links firings (order ++ leaf ∷ [])
next_more n links firings order leaf before next p inside =
    ⊎_elim (λ (less : p < length order). rw (take-append-le p order (leaf ∷ []) (omega (arith, less)), get_or_append_left order (leaf ∷ []) 0 p less) (before p less))
    (λ (over : length order ≤ p). let end : length order ≡ p = omega (arith, over, inside, length-append order (leaf ∷ [])) in
    rw (take_at order (leaf ∷ []) p end, get_or_push order leaf 0 p end) next) (cases_lt p (length order))

pub played_more : (n : ℕ) (links : List RatedLink) (firings : ℕ → ℕ) (order : List ℕ) (left unmet tokens peaks left' unmet' tokens' peaks' : ℕ → ℕ) (leaf : ℕ) → IsPlayed n links firings order left unmet tokens peaks → leaf < n → 0 < left leaf → unmet leaf ≡ 0 → ((other : ℕ) → other < leaf → 0 < left other → unmet other ≢ 0) → left' leaf + 1 ≡ left leaf → ((k : ℕ) → k ≢ leaf → left' k ≡ left k) → ((k : ℕ) → k < n → unmet' k ≡ lacking links tokens' k) → ((l : ℕ) → l < length links → tokens' l ≡ moved (link_at links l) leaf (tokens l)) → ((l : ℕ) → l < length links → peaks' l ≡ max (peaks l) (tokens' l)) → IsPlayed n links firings (order ++ leaf ∷ []) left' unmet' tokens' peaks'
played_more n links firings order left unmet tokens peaks left' unmet' tokens' peaks' leaf played leaf_in some none least one_less others_same counted tokens_so peaks_so = record {
  left_is = λ k k_in.
      let known : left k + turns k order ≡ firings k = played.left_is k k_in in
      ⊎_elim (λ (it : k ≡ leaf).
      let more : turns k (order ++ leaf ∷ []) ≡ turns k order + 1 = subst (λ j. turns j (order ++ leaf ∷ []) ≡ turns j order + 1) (sym it) (turns_of_it leaf order) in
      let less : left' k + 1 ≡ left k = subst (λ j. left' j + 1 ≡ left j) (sym it) one_less in
      omega arith)
      (λ (apart : k ≢ leaf).
      let same : turns k (order ++ leaf ∷ []) ≡ turns k order = turns_of_other k leaf order apart in
      let same' : left' k ≡ left k = others_same k apart in
      omega arith) (cases_eq k leaf);
  unmet_is = counted;
  tokens_are = now_on;
  peaks_are = λ l inside. subst (λ peak. IsPeak (link_at links l) (order ++ leaf ∷ []) peak) (sym (peaks_so l inside))
      (peak_more (link_at links l) order leaf (peaks l) (tokens' l) (played.peaks_are l inside) (let now : tokens' l + taken (link_at links l) (order ++ leaf ∷ []) ≡ given (link_at links l) (order ++ leaf ∷ []) = now_on l inside in omega arith));
  least_first = next_more n links firings order leaf played.least_first (record {
    may = may_from_ready n links firings order left unmet tokens peaks played leaf leaf_in some none;
    least = λ other less. not_may n links firings order left unmet tokens peaks played other (λ other_in. least other less);
  });
} where
  now_on : (l : ℕ) → l < length links → tokens' l + taken (link_at links l) (order ++ leaf ∷ []) ≡ given (link_at links l) (order ++ leaf ∷ [])
  now_on l inside =
      let known : tokens l + taken (link_at links l) order ≡ given (link_at links l) order = played.tokens_are l inside in
      let now : tokens' l ≡ tokens l + gives (link_at links l) leaf - takes (link_at links l) leaf = tokens_so l inside in
      let enough : takes (link_at links l) leaf ≤ tokens l = takes_enough links tokens leaf (sym (played.unmet_is leaf leaf_in) ∙ none) l inside in
      let more : given (link_at links l) (order ++ leaf ∷ []) ≡ given (link_at links l) order + gives (link_at links l) leaf = given_push (link_at links l) leaf order in
      let more' : taken (link_at links l) (order ++ leaf ∷ []) ≡ taken (link_at links l) order + takes (link_at links l) leaf = taken_push (link_at links l) leaf order in
      omega arith

-- ---- before the first turn
pub played_none : (n : ℕ) (links : List RatedLink) (firings left unmet tokens peaks : ℕ → ℕ) → ((k : ℕ) → k < n → left k ≡ firings k) → ((k : ℕ) → k < n → unmet k ≡ lacking links tokens k) → ((l : ℕ) → l < length links → tokens l ≡ 0) → ((l : ℕ) → l < length links → peaks l ≡ 0) → IsPlayed n links firings [] left unmet tokens peaks
played_none n links firings left unmet tokens peaks left_so counted tokens_so peaks_so = record {
  left_is = λ k k_in. let is : left k ≡ firings k = left_so k k_in in omega arith;
  unmet_is = counted;
  tokens_are = λ l inside. let none : tokens l ≡ 0 = tokens_so l inside in omega arith;
  peaks_are = λ l inside. subst (λ peak. IsPeak (link_at links l) [] peak) (sym (peaks_so l inside)) (record {
    most = λ p within. let empty : p ≡ 0 = omega (arith, within) in rw empty (omega arith);
    reached = (0, omega arith, omega arith);
  });
  least_first = λ p inside. absurd (omega (arith, inside));
}

-- ---- the end
pub period_of_played : (n : ℕ) (links : List RatedLink) (firings : ℕ → ℕ) (order : List ℕ) (left unmet tokens peaks : ℕ → ℕ) → IsPlayed n links firings order left unmet tokens peaks → ((leaf : ℕ) → leaf < n → left leaf ≡ 0) → IsPeriod n links firings order
period_of_played n links firings order left unmet tokens peaks played none = record {
  among = λ p d inside. subst (λ k. k < n) (get_or_default order p 0 d inside) (played.least_first p inside).may.among;
  finds = λ p inside. (played.least_first p inside).may.finds;
  counts = λ leaf leaf_in. let known : left leaf + turns leaf order ≡ firings leaf = played.left_is leaf leaf_in in let zero' : left leaf ≡ 0 = none leaf leaf_in in omega arith;
}

pub blocked_of_played : (n : ℕ) (links : List RatedLink) (firings : ℕ → ℕ) (order : List ℕ) (left unmet tokens peaks : ℕ → ℕ) → All (IsAmong n) links → IsPlayed n links firings order left unmet tokens peaks → ((other : ℕ) → ¬ MayFire n links firings order other) → (leaf : ℕ) → leaf < n → 0 < left leaf → ((other : ℕ) → other < leaf → left other ≡ 0) → IsBlocked n links firings leaf × ((period : List ℕ) → ¬ IsPeriod n links firings period)
blocked_of_played n links firings order left unmet tokens peaks among played none leaf leaf_in some before =
    let known : left leaf + turns leaf order ≡ firings leaf = played.left_is leaf leaf_in in
    let fewer : turns leaf order < firings leaf = omega (arith, some) in (
      record {
        order = order;
        least_first = played.least_first;
        none = none;
        among = leaf_in;
        left = fewer;
        first = λ other less. let known' : left other + turns other order ≡ firings other = played.left_is other (omega (arith, less, leaf_in)) in let zero' : left other ≡ 0 = before other less in omega arith;
      },
      λ period is. no_period n links firings order among none period is leaf leaf_in fewer,
    )

-- ---- least first
-- no leaf takes more turns than it is to
turns_within : (n : ℕ) (links : List RatedLink) (firings : ℕ → ℕ) (order : List ℕ) → IsLeastFirst n links firings order → (p : ℕ) → p ≤ length order → (leaf : ℕ) → turns leaf (take p order) ≤ firings leaf
turns_within n links firings order least_first zero within leaf = omega arith
turns_within n links firings order least_first (suc p) within leaf =
    let inside : p < length order = omega (arith, within) in
    let step : take (suc p) order ≡ take p order ++ get_or order p 0 ∷ [] = rw (← add-one) (take_more order p 0 inside) in
    let before : turns leaf (take p order) ≤ firings leaf = turns_within n links firings order least_first p (omega (arith, inside)) leaf in
    ⊎_elim (λ (it : leaf ≡ get_or order p 0).
    let more : turns leaf (take (suc p) order) ≡ turns leaf (take p order) + 1 = ap (λ ls. turns leaf ls) step ∙ subst (λ j. turns j (take p order ++ get_or order p 0 ∷ []) ≡ turns j (take p order) + 1) (sym it) (turns_of_it (get_or order p 0) (take p order)) in
    let left : turns leaf (take p order) < firings leaf = subst (λ j. turns j (take p order) < firings j) (sym it) (least_first p inside).may.left in
    omega arith)
    (λ (apart : leaf ≢ get_or order p 0).
    let same : turns leaf (take (suc p) order) ≡ turns leaf (take p order) = ap (λ ls. turns leaf ls) step ∙ turns_of_other leaf (get_or order p 0) (take p order) apart in
    omega arith) (cases_eq leaf (get_or order p 0))

pub least_first_is_period : (n : ℕ) (links : List RatedLink) (firings : ℕ → ℕ) (order period : List ℕ) → All (IsAmong n) links → IsLeastFirst n links firings order → ((leaf : ℕ) → ¬ MayFire n links firings order leaf) → IsPeriod n links firings period → IsPeriod n links firings order
least_first_is_period n links firings order period among least_first none is = record {
  among = λ p d inside. subst (λ k. k < n) (get_or_default order p 0 d inside) (least_first p inside).may.among;
  finds = λ p inside. (least_first p inside).may.finds;
  counts = λ leaf leaf_in.
      let whole : turns leaf (take (length order) order) ≡ turns leaf order = ap (λ ls. turns leaf ls) (take_all (length order) order (omega arith)) in
      let within : turns leaf (take (length order) order) ≤ firings leaf = turns_within n links firings order least_first (length order) (omega arith) leaf in
      ⊎_elim (λ (less : turns leaf order < firings leaf). absurd (no_period n links firings order among none period is leaf leaf_in less))
      (λ (over : firings leaf ≤ turns leaf order). omega (arith, over)) (cases_lt (turns leaf order) (firings leaf));
}
