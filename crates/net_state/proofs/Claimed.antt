-- A round whose cells were claimed by workers.
use Rattle.std.proofs.Common.{◌≡◌, ℕ, suc, true, false, [], ◌+◌, ◌/◌, ◌<◌, ◌≤◌, Bool, List, ◌∷◌, length, map, All, refl, sym, ap, ap₂, subst, ◌∙◌, arith}
use Rattle.std.specs.Prelude.{None, Some, slice_get}
use Rattle.std.specs.Option.{option_map}
use Rattle.std.proofs.lemmas.List.{length-map}
use Rattle.std.proofs.lemmas.List.Elements.{All-append, All-cons, All-nil}
use Rattle.std.proofs.lemmas.Nat.{le-div}
use Rattle.std.proofs.lemmas.Option.{slice_get-map}
use Rattle.net_model.specs.Cell.{Cell}
use Rattle.net_model.specs.Paced.{count_picked}
use Rattle.claimed_bursts.specs.Tasks.{EachMakesBurst, Task}
use Rattle.net_state.specs.declared.sharing.Shares.{Shares}
use Rattle.net_state.specs.Sharing.{AreShares, EachBursts, IsPart, IsReady, share_of}
use Rattle.net_state.specs.Claiming.{back, made_all, merged, rest_of, tasks_of, whole}
use Rattle.net_state.proofs.Backs.{back_back, back_many, rest_many, tasks_many}
use Rattle.net_state.proofs.Merging.{Pairs, each_bursts, few_each, merged_back, pairs, pairs_back}

least : (shares : Shares) → AreShares shares → (n : ℕ) → n < shares.picks → 1 ≤ share_of shares n
least shares are n low = let one : 1 ≤ shares.left / shares.picks = le-div 1 shares.left shares.picks (omega (arith, low)) (omega (arith, are.enough)) in omega (arith, one, are.some)

most : (shares : Shares) (n : ℕ) → share_of shares n ≤ shares.burst
most shares n = omega arith

-- no task was worked yet
abbrev Unmade : {C : Type 0} → Task C → Type 0
Unmade t = t.end ≡ None

pub unmade : {C : Type 0} (limit : ℕ → ℕ) (i k : ℕ) (marks : List Bool) (rows : List (List ℕ)) (cells : List C) → All (λ (t : Task C). t.end ≡ None) (back (tasks_of limit i k marks rows cells))
unmade {C} limit i k [] rows cells = All-nil (Unmade {C = C})
unmade {C} limit i k (m ∷ marks) [] cells = All-nil (Unmade {C = C})
unmade {C} limit i k (m ∷ marks) (r ∷ rows) [] = All-nil (Unmade {C = C})
unmade {C} limit i k (true ∷ marks) (r ∷ rows) (c ∷ cells) =
    let task : Task C = record { cell = c; inst = record { 0 = i }; limit = limit k; rooms = r; end = None } in
    All-append (Unmade {C = C}) (back (tasks_of limit (suc i) (suc k) marks rows cells)) (task ∷ []) (unmade limit (suc i) (suc k) marks rows cells)
    (All-cons (Unmade {C = C}) task [] refl (All-nil (Unmade {C = C})))
unmade {C} limit i k (false ∷ marks) (r ∷ rows) (c ∷ cells) = unmade limit (suc i) k marks rows cells

module _ {C X : Type 0} (view : C → Cell X) (shares : Shares) (are : AreShares shares) (marks : List Bool) (rows : List (List ℕ)) (cells : List C)
    (part : IsPart shares (whole shares) marks rows (map view cells)) where
  roomy : length rows ≡ length marks
  roomy = part.roomy ∙ sym part.marked

  many : length cells ≡ length marks
  many = sym (length-map cells view) ∙ sym part.marked

  ready : (j : ℕ) (row : List ℕ) (cell : C) → slice_get rows j ≡ Some row → slice_get cells j ≡ Some cell → IsReady shares.burst row (view cell)
  ready j row cell row_at at = part.ready j row (view cell) row_at (slice_get-map view cells j ∙ ap (option_map view) at)

  made : (done : List (Task C)) → EachMakesBurst view (back (tasks_of (share_of shares) 0 0 marks rows cells)) done → Pairs view (tasks_of (share_of shares) 0 0 marks rows cells) (back done)
  made done each =
      subst (λ ts. Pairs view ts (back done)) (back_back (tasks_of (share_of shares) 0 0 marks rows cells))
      (pairs_back view (back (tasks_of (share_of shares) 0 0 marks rows cells)) done (pairs view (back (tasks_of (share_of shares) 0 0 marks rows cells)) done each))

  -- how many tasks and others there are
  pub counts : (length (back (tasks_of (share_of shares) 0 0 marks rows cells)) ≡ count_picked marks) × (length (back (rest_of marks cells)) + count_picked marks ≡ length marks)
  counts = (
    back_many (tasks_of (share_of shares) 0 0 marks rows cells) ∙ tasks_many (share_of shares) 0 0 marks rows cells roomy many,
    ap (λ n. n + count_picked marks) (back_many (rest_of marks cells)) ∙ rest_many marks cells many,
  )

  pub claimed_each : (done : List (Task C)) (now : List C) → EachMakesBurst view (back (tasks_of (share_of shares) 0 0 marks rows cells)) done
      → now ≡ merged marks (back done) (back (back (rest_of marks cells))) → EachBursts (share_of shares) 0 0 marks rows (map view cells) (made_all view (back done)) (map view now)
  claimed_each done now each is =
      subst (λ cs. EachBursts (share_of shares) 0 0 marks rows (map view cells) (made_all view (back done)) (map view cs))
      (sym (is ∙ ap (λ rs. merged marks (back done) rs) (back_back (rest_of marks cells))))
      (each_bursts view (share_of shares) shares.burst shares.picks (least shares are) (most shares) are.most 0 0 marks rows cells (back done) roomy many (omega (arith, part.picks)) ready (made done each))

  pub claimed_few : (done : List (Task C)) → EachMakesBurst view (back (tasks_of (share_of shares) 0 0 marks rows cells)) done → All (λ (t : Task C). length (view t.cell).journal ≤ 65536) done
  claimed_few done each =
      subst (λ ds. All (λ (t : Task C). length (view t.cell).journal ≤ 65536) ds) (back_back done)
      (few_each view (share_of shares) shares.burst shares.picks (least shares are) (most shares) are.most 0 0 marks rows cells (back done) roomy many ready (made done each))

  -- nothing was done
  pub unclaimed : merged marks (back (back (tasks_of (share_of shares) 0 0 marks rows cells))) (back (back (rest_of marks cells))) ≡ cells
  unclaimed = ap₂ (λ ts rs. merged marks ts rs) (back_back (tasks_of (share_of shares) 0 0 marks rows cells)) (back_back (rest_of marks cells)) ∙ merged_back (share_of shares) 0 0 marks rows cells roomy many
