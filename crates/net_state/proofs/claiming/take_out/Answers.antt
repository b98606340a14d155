use Rattle.std.proofs.Common.{rules, ◌≡◌, ℕ, ◌+◌, ◌-◌, ◌<◌, ◌++◌, ◌∷◌, [], ◌∙◌, Bool, true, false, List, length, map, take, vec_items, vec_len, ap, subst, sym, arith}
use Rattle.std.specs.Prelude.{Some, slice_get, slice_index_or}
use Rattle.std.specs.Option.{option_map}
use Rattle.std.proofs.lemmas.List.{length-map}
use Rattle.std.proofs.lemmas.Option.{slice_get-map}
use Rattle.rvc_base.specs.declared.ids.InstId.{InstId}
use Rattle.net_model.specs.Paced.{count_picked}
use Rattle.net_state.specs.Sharing.{share_of}
use Rattle.net_state.proofs.Alone.{among_marks, mark_at, row_at, some_at}
use Rattle.net_state.proofs.Taking.{IsOut, out_cell, out_count, out_low, out_marked, out_stays, task_is}
use Rattle.net_state.proofs.claiming.take_out.Goals as goal

marked_at : (marks : List Bool) (j n : ℕ) (d b : Bool) → j ≡ n → n < length marks → slice_index_or marks j d ≡ b → slice_get marks n ≡ Some b
marked_at marks j n d b same low is = subst (λ m. slice_get marks m ≡ Some b) same (mark_at marks j d b (omega (arith, same, low)) is)

pub overflow_sub-k : goal.overflow_sub-k
overflow_sub-k g c =
    let limit = share_of c.args.shares in
    let marks = c.args.marks.now in
    let rows = map vec_items c.args.rooms.now in
    let all = c.args.cells.now.items in
    let cells = c.pop.new.self.items in
    let marked : length marks ≡ length all = c.requires.part.marked ∙ length-map all g.A.Firing.cell in
    let roomy : length rows ≡ length all = c.requires.part.roomy ∙ length-map all g.A.Firing.cell in
    let out : IsOut limit marks rows all (cells ++ c.in-Some.cell ∷ []) c.loop-cell.tasks.items c.loop-cell.rest.items c.loop-cell.k = subst (λ cs. IsOut limit marks rows all cs c.loop-cell.tasks.items c.loop-cell.rest.items c.loop-cell.k) c.in-Some.ensures.items c.loop-cell.invariant.0 in
    let low = out_low limit marks rows all marked roomy cells c.in-Some.cell c.loop-cell.tasks.items c.loop-cell.rest.items c.loop-cell.k out in
    let same : c.len-i.result ≡ length cells = omega (arith, c.len-i.ensures) in
    let at = marked_at marks c.len-i.result (length cells) _ true same (omega (arith, low, marked)) c.if-marks-i.true in
    let count : c.loop-cell.k ≡ count_picked (take (length cells) marks) + 1 = out_count limit marks rows all marked roomy cells c.in-Some.cell c.loop-cell.tasks.items c.loop-cell.rest.items c.loop-cell.k out at in
    omega (arith, count)

pub split_budget-limit-requires-clause-some : goal.split_budget-limit-requires-clause-some
split_budget-limit-requires-clause-some g c =
    let limit = share_of c.args.shares in
    let marks = c.args.marks.now in
    let rows = map vec_items c.args.rooms.now in
    let all = c.args.cells.now.items in
    let cells = c.pop.new.self.items in
    let marked : length marks ≡ length all = c.requires.part.marked ∙ length-map all g.A.Firing.cell in
    let roomy : length rows ≡ length all = c.requires.part.roomy ∙ length-map all g.A.Firing.cell in
    let out : IsOut limit marks rows all (cells ++ c.in-Some.cell ∷ []) c.loop-cell.tasks.items c.loop-cell.rest.items c.loop-cell.k = subst (λ cs. IsOut limit marks rows all cs c.loop-cell.tasks.items c.loop-cell.rest.items c.loop-cell.k) c.in-Some.ensures.items c.loop-cell.invariant.0 in
    let low = out_low limit marks rows all marked roomy cells c.in-Some.cell c.loop-cell.tasks.items c.loop-cell.rest.items c.loop-cell.k out in
    let same : c.len-i.result ≡ length cells = omega (arith, c.len-i.ensures) in
    let at = marked_at marks c.len-i.result (length cells) _ true same (omega (arith, low, marked)) c.if-marks-i.true in
    let among : count_picked (take (length cells) marks) < count_picked marks = among_marks marks (length cells) at in
    omega (arith, among, c.requires.part.picks)

pub split_budget-limit-requires-clause-among : goal.split_budget-limit-requires-clause-among
split_budget-limit-requires-clause-among g c =
    let limit = share_of c.args.shares in
    let marks = c.args.marks.now in
    let rows = map vec_items c.args.rooms.now in
    let all = c.args.cells.now.items in
    let cells = c.pop.new.self.items in
    let marked : length marks ≡ length all = c.requires.part.marked ∙ length-map all g.A.Firing.cell in
    let roomy : length rows ≡ length all = c.requires.part.roomy ∙ length-map all g.A.Firing.cell in
    let out : IsOut limit marks rows all (cells ++ c.in-Some.cell ∷ []) c.loop-cell.tasks.items c.loop-cell.rest.items c.loop-cell.k = subst (λ cs. IsOut limit marks rows all cs c.loop-cell.tasks.items c.loop-cell.rest.items c.loop-cell.k) c.in-Some.ensures.items c.loop-cell.invariant.0 in
    let low = out_low limit marks rows all marked roomy cells c.in-Some.cell c.loop-cell.tasks.items c.loop-cell.rest.items c.loop-cell.k out in
    let same : c.len-i.result ≡ length cells = omega (arith, c.len-i.ensures) in
    let at = marked_at marks c.len-i.result (length cells) _ true same (omega (arith, low, marked)) c.if-marks-i.true in
    let among : count_picked (take (length cells) marks) < count_picked marks = among_marks marks (length cells) at in
    let count : c.loop-cell.k ≡ count_picked (take (length cells) marks) + 1 = out_count limit marks rows all marked roomy cells c.in-Some.cell c.loop-cell.tasks.items c.loop-cell.rest.items c.loop-cell.k out at in
    omega (arith, among, count, c.requires.part.picks)

pub new-requires : goal.new-requires
new-requires g c =
    let view = g.A.Firing.cell in
    let limit = share_of c.args.shares in
    let marks = c.args.marks.now in
    let rows = map vec_items c.args.rooms.now in
    let all = c.args.cells.now.items in
    let cells = c.pop.new.self.items in
    let marked : length marks ≡ length all = c.requires.part.marked ∙ length-map all view in
    let roomy : length rows ≡ length all = c.requires.part.roomy ∙ length-map all view in
    let out : IsOut limit marks rows all (cells ++ c.in-Some.cell ∷ []) c.loop-cell.tasks.items c.loop-cell.rest.items c.loop-cell.k = subst (λ cs. IsOut limit marks rows all cs c.loop-cell.tasks.items c.loop-cell.rest.items c.loop-cell.k) c.in-Some.ensures.items c.loop-cell.invariant.0 in
    let low = out_low limit marks rows all marked roomy cells c.in-Some.cell c.loop-cell.tasks.items c.loop-cell.rest.items c.loop-cell.k out in
    let same : c.len-i.result ≡ length cells = omega (arith, c.len-i.ensures) in
    let there : c.len-i.result < length c.args.rooms.now = omega (arith, low, roomy, same, length-map c.args.rooms.now vec_items) in
    let row : slice_get rows c.len-i.result ≡ Some c.deref.result.now = row_at vec_items c.args.rooms.now c.len-i.result c.index-rooms-i.result c.deref.result.now there c.index-rooms-i.is c.deref.ensures.value in
    let cell : slice_get (map view all) (length cells) ≡ Some (view c.in-Some.cell) = slice_get-map view all (length cells) ∙ ap (option_map view) (out_cell limit marks rows all marked roomy cells c.in-Some.cell c.loop-cell.tasks.items c.loop-cell.rest.items c.loop-cell.k out) in
    let ready = c.requires.part.ready (length cells) c.deref.result.now (view c.in-Some.cell) (subst (λ m. slice_get rows m ≡ Some c.deref.result.now) same row) cell in
    let none : length (view c.in-Some.cell).journal ≡ 0 = ap (λ js. length js) ready.fresh.empty in
    record {
      may = record {
        untrapped = ready.fresh.untrapped;
        fits = ready.fits;
        journal = omega (arith, none, c.split_budget-limit.ensures.allowed, ready.fresh.room);
      };
    }

pub push_reserved-requires : goal.push_reserved-requires
push_reserved-requires g c =
    let limit = share_of c.args.shares in
    let marks = c.args.marks.now in
    let rows = map vec_items c.args.rooms.now in
    let all = c.args.cells.now.items in
    let cells = c.pop.new.self.items in
    let marked : length marks ≡ length all = c.requires.part.marked ∙ length-map all g.A.Firing.cell in
    let roomy : length rows ≡ length all = c.requires.part.roomy ∙ length-map all g.A.Firing.cell in
    let out : IsOut limit marks rows all (cells ++ c.in-Some.cell ∷ []) c.loop-cell.tasks.items c.loop-cell.rest.items c.loop-cell.k = subst (λ cs. IsOut limit marks rows all cs c.loop-cell.tasks.items c.loop-cell.rest.items c.loop-cell.k) c.in-Some.ensures.items c.loop-cell.invariant.0 in
    let low = out_low limit marks rows all marked roomy cells c.in-Some.cell c.loop-cell.tasks.items c.loop-cell.rest.items c.loop-cell.k out in
    let same : c.len-i.result ≡ length cells = omega (arith, c.len-i.ensures) in
    let at = marked_at marks c.len-i.result (length cells) _ true same (omega (arith, low, marked)) c.if-marks-i.true in
    let count : c.loop-cell.k ≡ count_picked (take (length cells) marks) + 1 = out_count limit marks rows all marked roomy cells c.in-Some.cell c.loop-cell.tasks.items c.loop-cell.rest.items c.loop-cell.k out at in
    omega (arith, count, c.loop-cell.invariant.1)

pub loop-cell-preserved-then-marks-i : goal.loop-cell-preserved-then-marks-i
loop-cell-preserved-then-marks-i g c =
    let limit = share_of c.args.shares in
    let marks = c.args.marks.now in
    let rows = map vec_items c.args.rooms.now in
    let all = c.args.cells.now.items in
    let cells = c.pop.new.self.items in
    let tasks = c.loop-cell.tasks.items in
    let rest = c.loop-cell.rest.items in
    let row = c.deref.result.now in
    let marked : length marks ≡ length all = c.requires.part.marked ∙ length-map all g.A.Firing.cell in
    let roomy : length rows ≡ length all = c.requires.part.roomy ∙ length-map all g.A.Firing.cell in
    let out : IsOut limit marks rows all (cells ++ c.in-Some.cell ∷ []) tasks rest c.loop-cell.k = subst (λ cs. IsOut limit marks rows all cs tasks rest c.loop-cell.k) c.in-Some.ensures.items c.loop-cell.invariant.0 in
    let low = out_low limit marks rows all marked roomy cells c.in-Some.cell tasks rest c.loop-cell.k out in
    let same : c.len-i.result ≡ length cells = omega (arith, c.len-i.ensures) in
    let at = marked_at marks c.len-i.result (length cells) _ true same (omega (arith, low, marked)) c.if-marks-i.true in
    let count : c.loop-cell.k ≡ count_picked (take (length cells) marks) + 1 = out_count limit marks rows all marked roomy cells c.in-Some.cell tasks rest c.loop-cell.k out at in
    let there : c.len-i.result < length c.args.rooms.now = omega (arith, low, roomy, same, length-map c.args.rooms.now vec_items) in
    let row_is : slice_get rows c.len-i.result ≡ Some row = row_at vec_items c.args.rooms.now c.len-i.result c.index-rooms-i.result row there c.index-rooms-i.is c.deref.ensures.value in
    let number : ℕ → InstId = λ m. record { 0 = m } in
    let task = task_is c.new.result c.in-Some.cell (number (length cells)) (limit (c.loop-cell.k - 1)) row c.new.ensures.cell (c.new.ensures.inst ∙ ap number same)
    (c.new.ensures.limit ∙ c.split_budget-limit.ensures.allowed) c.new.ensures.rooms c.new.ensures.end in
    let next = out_marked limit marks rows all marked roomy cells c.in-Some.cell tasks rest c.loop-cell.k out row (subst (λ m. slice_get rows m ≡ Some row) same row_is) at (c.loop-cell.k - 1) (omega (arith, count)) in (
      subst (λ ts. IsOut limit marks rows all cells ts rest (c.loop-cell.k - 1)) (sym (c.push_reserved.ensures.items ∙ ap (λ t. tasks ++ t ∷ []) task)) next,
      omega (arith, count, c.loop-cell.invariant.1, c.push_reserved.ensures.len, c.push_reserved.ensures.capacity),
      omega (arith, c.loop-cell.invariant.2, c.pop.ensures.len),
      c.pop.ensures.capacity ∙ c.loop-cell.invariant.3,
    )

pub loop-cell-preserved : goal.loop-cell-preserved
loop-cell-preserved g c =
    let limit = share_of c.args.shares in
    let marks = c.args.marks.now in
    let rows = map vec_items c.args.rooms.now in
    let all = c.args.cells.now.items in
    let cells = c.pop.new.self.items in
    let tasks = c.loop-cell.tasks.items in
    let rest = c.loop-cell.rest.items in
    let marked : length marks ≡ length all = c.requires.part.marked ∙ length-map all g.A.Firing.cell in
    let roomy : length rows ≡ length all = c.requires.part.roomy ∙ length-map all g.A.Firing.cell in
    let out : IsOut limit marks rows all (cells ++ c.in-Some.cell ∷ []) tasks rest c.loop-cell.k = subst (λ cs. IsOut limit marks rows all cs tasks rest c.loop-cell.k) c.in-Some.ensures.items c.loop-cell.invariant.0 in
    let low = out_low limit marks rows all marked roomy cells c.in-Some.cell tasks rest c.loop-cell.k out in
    let same : c.len-i.result ≡ length cells = omega (arith, c.len-i.ensures) in
    let at = marked_at marks c.len-i.result (length cells) _ false same (omega (arith, low, marked)) c.if-marks-i.false in
    let row = some_at rows (length cells) (omega (arith, low, roomy)) in
    let next = out_stays limit marks rows all marked roomy cells c.in-Some.cell tasks rest c.loop-cell.k out row.0 row.1 at in
    let one : vec_len c.pop.new.self + 1 ≡ vec_len c.loop-cell.cells = search rules in (
      subst (λ cs. IsOut limit marks rows all cells tasks cs c.loop-cell.k) (sym c.push_reserved-else-marks-i.ensures.items) next,
      c.loop-cell.invariant.1,
      omega (arith, one, c.loop-cell.invariant.2, c.push_reserved-else-marks-i.ensures.len, c.push_reserved-else-marks-i.ensures.capacity),
      c.pop.ensures.capacity ∙ c.loop-cell.invariant.3,
    )
