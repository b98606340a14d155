-- Tasks whose bursts were made, put back among the other cells.
use Rattle.std.proofs.Common.{◌≡◌, ℕ, suc, ◌+◌, ◌<◌, ◌≤◌, Bool, true, false, List, [], ◌∷◌, ◌++◌, length, map, All, refl, sym, ap, subst, ◌∙◌, arith, append-nil, append_assoc}
use Rattle.std.specs.Prelude.{None, Some, slice_get}
use Rattle.std.proofs.lemmas.List.Elements.{All-append, All-cons, All-nil}
use Rattle.rvc_base.specs.declared.ids.InstId.{InstId}
use Rattle.net_model.specs.Cell.{Cell, FireInTurn}
use Rattle.net_model.specs.Paced.{count_picked}
use Rattle.net_model.specs.declared.firing.BurstEnd.{BurstEnd}
use Rattle.claimed_bursts.specs.Tasks.{EachMakesBurst, MakesBurst, Task}
use Rattle.net_state.specs.declared.made.Bursts.{Bursts as Made}
use Rattle.net_state.specs.Made.{joined, made_by}
use Rattle.net_state.specs.Sharing.{BurstsBy, EachBursts, IsReady, bursts, none_left, stays}
use Rattle.net_state.proofs.Bursting.{calm_end}
use Rattle.net_state.specs.Claiming.{back, made_all, made_with, merged, rest_of, tasks_of, with_end}

-- tasks in their places, and back
pub merged_back : {C : Type 0} (limit : ℕ → ℕ) (i k : ℕ) (marks : List Bool) (rows : List (List ℕ)) (cells : List C) → length rows ≡ length marks → length cells ≡ length marks
    → merged marks (tasks_of limit i k marks rows cells) (rest_of marks cells) ≡ cells
merged_back limit i k [] rows [] roomy many = refl
merged_back limit i k [] rows (c ∷ cells) roomy many = absurd (omega (arith, many))
merged_back limit i k (m ∷ marks) [] cells roomy many = absurd (omega (arith, roomy))
merged_back limit i k (m ∷ marks) (r ∷ rows) [] roomy many = absurd (omega (arith, many))
merged_back {C} limit i k (true ∷ marks) (r ∷ rows) (c ∷ cells) roomy many = ap (λ (cs : List C). c ∷ cs) (merged_back limit (suc i) (suc k) marks rows cells (omega (arith, roomy)) (omega (arith, many)))
merged_back {C} limit i k (false ∷ marks) (r ∷ rows) (c ∷ cells) roomy many = ap (λ (cs : List C). c ∷ cs) (merged_back limit (suc i) k marks rows cells (omega (arith, roomy)) (omega (arith, many)))

module _ {C X : Type 0} (view : C → Cell X) where
  -- each of these tasks is what the other one at its place became
  abbrev pub Pairs : List (Task C) → List (Task C) → Type 0
  Pairs [] [] = Unit
  Pairs [] (d ∷ ds) = ⊥
  Pairs (t ∷ ts) [] = ⊥
  Pairs (t ∷ ts) (d ∷ ds) = MakesBurst view t d × Pairs ts ds

  pair_from : (t : Task C) (ts : List (Task C)) (d : Task C) (ds : List (Task C)) (m : (b : Task C) × (Some t ≡ Some b) × MakesBurst view b d) → MakesBurst view t d
  pair_from t ts d ds m = subst (λ b. MakesBurst view b d) (sym (inside t m.0 m.1)) m.2
    where
      inside : (a b : Task C) → Some a ≡ Some b → a ≡ b
      inside a b e = cc

  pub pairs : (ts ds : List (Task C)) → EachMakesBurst view ts ds → Pairs ts ds
  pairs [] [] each = tt
  pairs [] (d ∷ ds) each = absurd (omega (arith, each.places))
  pairs (t ∷ ts) [] each = absurd (omega (arith, each.places))
  pairs (t ∷ ts) (d ∷ ds) each = (
    pair_from t ts d ds (each.each 0 d refl),
    pairs ts ds (record { places = omega (arith, each.places); each = λ place after at. each.each (suc place) after at }),
  )

  pairs_more : (ts ds us es : List (Task C)) → Pairs ts ds → Pairs us es → Pairs (ts ++ us) (ds ++ es)
  pairs_more [] [] us es p q = q
  pairs_more [] (d ∷ ds) us es p q = absurd p
  pairs_more (t ∷ ts) [] us es p q = absurd p
  pairs_more (t ∷ ts) (d ∷ ds) us es p q = (p.0, pairs_more ts ds us es p.1 q)

  pub pairs_back : (ts ds : List (Task C)) → Pairs ts ds → Pairs (back ts) (back ds)
  pairs_back [] [] p = tt
  pairs_back [] (d ∷ ds) p = absurd p
  pairs_back (t ∷ ts) [] p = absurd p
  pairs_back (t ∷ ts) (d ∷ ds) p = pairs_more (back ts) (back ds) (t ∷ []) (d ∷ []) (pairs_back ts ds p.1) (p.0, tt)

  -- what a cell fired is what its journal says
  noted_by : (rooms : List ℕ) (old last : Cell X) (actions : List ℕ) → FireInTurn rooms old actions last → last.journal ≡ old.journal ++ actions
  noted_by rooms old last [] fired = ap (λ c. c.journal) (sym fired) ∙ sym (append-nil old.journal)
  noted_by rooms old last (a ∷ actions) fired =
      noted_by rooms fired.0 last actions fired.2 ∙ (ap (λ js. js ++ actions) fired.1.noted ∙ append_assoc old.journal (a ∷ []) actions)

  fired_few : (t d : Task C) → MakesBurst view t d → (view t.cell).journal ≡ [] → t.limit ≤ 65536 → length (view d.cell).journal ≤ 65536
  fired_few t d m empty few =
      let b = m.bursts in
      let noted : (view d.cell).journal ≡ b.actions = (calm_end t.rooms t.limit (length b.actions) b.last m.how (view d.cell) b.ends).journal
      ∙ (noted_by t.rooms (view t.cell) b.last b.actions b.fired ∙ ap (λ js. js ++ b.actions) empty) in
      let same : length (view d.cell).journal ≡ length b.actions = ap (λ js. length js) noted in
      omega (arith, same, b.few, few)

  -- no journal names more firings than a burst may have
  abbrev Few : Task C → Type 0
  Few d = length (view d.cell).journal ≤ 65536

  made_one : (d : Task C) (inst : InstId) (how : BurstEnd) (others : Made) → d.inst ≡ inst → d.end ≡ Some how → joined (made_by inst (length (view d.cell).journal) how) others ≡ made_with view d others
  made_one d inst how others i e =
      ap (λ x. joined (made_by x (length (view d.cell).journal) how) others) (sym i)
      ∙ ap (λ x. with_end x (λ end. made_by d.inst (length (view d.cell).journal) end) others) (sym e)

  module _ (limit : ℕ → ℕ) (burst picks : ℕ) (least : (n : ℕ) → n < picks → 1 ≤ limit n) (most : (n : ℕ) → limit n ≤ burst) (bound : burst ≤ 65536) where
    pub each_bursts : (i k : ℕ) (marks : List Bool) (rows : List (List ℕ)) (cells : List C) (done : List (Task C)) → length rows ≡ length marks → length cells ≡ length marks
        → k + count_picked marks ≤ picks → ((j : ℕ) (row : List ℕ) (cell : C) → slice_get rows j ≡ Some row → slice_get cells j ≡ Some cell → IsReady burst row (view cell))
        → Pairs (tasks_of limit i k marks rows cells) done
        → EachBursts limit i k marks rows (map view cells) (made_all view done) (map view (merged marks done (rest_of marks cells)))
    each_bursts i k [] [] [] [] roomy many among ready p = none_left i k
    each_bursts i k [] [] [] (d ∷ done) roomy many among ready p = absurd p
    each_bursts i k [] [] (c ∷ cells) done roomy many among ready p = absurd (omega (arith, many))
    each_bursts i k [] (r ∷ rows) cells done roomy many among ready p = absurd (omega (arith, roomy))
    each_bursts i k (m ∷ marks) [] cells done roomy many among ready p = absurd (omega (arith, roomy))
    each_bursts i k (m ∷ marks) (r ∷ rows) [] done roomy many among ready p = absurd (omega (arith, many))
    each_bursts i k (true ∷ marks) (r ∷ rows) (c ∷ cells) [] roomy many among ready p = absurd p
    each_bursts i k (true ∷ marks) (r ∷ rows) (c ∷ cells) (d ∷ done) roomy many among ready p =
        let here = ready 0 r c refl refl in
        let m = p.0 in
        let by : BurstsBy (limit k) r (view c) m.how (view d.cell) = record {
          some = least k (omega (arith, among));
          untrapped = here.fresh.untrapped;
          empty = here.fresh.empty;
          lawful = m.lawful;
          fits = m.queues;
          bursts = m.bursts;
        } in
        subst (λ made. EachBursts limit i k (true ∷ marks) (r ∷ rows) (view c ∷ map view cells) made (view d.cell ∷ map view (merged marks done (rest_of marks cells))))
        (made_one d (record { 0 = i }) m.how (made_all view done) m.inst m.ended)
        (bursts i k marks r rows (view c) (view d.cell) (map view cells) (map view (merged marks done (rest_of marks cells))) m.how (made_all view done) by
        (each_bursts (suc i) (suc k) marks rows cells done (omega (arith, roomy)) (omega (arith, many)) (omega (arith, among)) (λ j row cell row_at at. ready (suc j) row cell row_at at) p.1))
    each_bursts i k (false ∷ marks) (r ∷ rows) (c ∷ cells) done roomy many among ready p =
        stays i k marks r rows (view c) (map view cells) (map view (merged marks done (rest_of marks cells))) (made_all view done)
        (each_bursts (suc i) k marks rows cells done (omega (arith, roomy)) (omega (arith, many)) (omega (arith, among)) (λ j row cell row_at at. ready (suc j) row cell row_at at) p)

    pub few_each : (i k : ℕ) (marks : List Bool) (rows : List (List ℕ)) (cells : List C) (done : List (Task C)) → length rows ≡ length marks → length cells ≡ length marks
        → ((j : ℕ) (row : List ℕ) (cell : C) → slice_get rows j ≡ Some row → slice_get cells j ≡ Some cell → IsReady burst row (view cell))
        → Pairs (tasks_of limit i k marks rows cells) done → All Few (back done)
    few_each i k [] rows cells [] roomy many ready p = All-nil Few
    few_each i k [] rows cells (d ∷ done) roomy many ready p = absurd p
    few_each i k (m ∷ marks) [] cells done roomy many ready p = absurd (omega (arith, roomy))
    few_each i k (m ∷ marks) (r ∷ rows) [] done roomy many ready p = absurd (omega (arith, many))
    few_each i k (true ∷ marks) (r ∷ rows) (c ∷ cells) [] roomy many ready p = absurd p
    few_each i k (true ∷ marks) (r ∷ rows) (c ∷ cells) (d ∷ done) roomy many ready p =
        let one : Few d = fired_few (record { cell = c; inst = record { 0 = i }; limit = limit k; rooms = r; end = None }) d p.0 (ready 0 r c refl refl).fresh.empty (omega (arith, most k, bound)) in
        All-append Few (back done) (d ∷ []) (few_each (suc i) (suc k) marks rows cells done (omega (arith, roomy)) (omega (arith, many)) (λ j row cell row_at at. ready (suc j) row cell row_at at) p.1)
        (All-cons Few d [] one (All-nil Few))
    few_each i k (false ∷ marks) (r ∷ rows) (c ∷ cells) done roomy many ready p =
        few_each (suc i) k marks rows cells done (omega (arith, roomy)) (omega (arith, many)) (λ j row cell row_at at. ready (suc j) row cell row_at at) p
