use Rattle.std.proofs.Common.{◌≡◌, true, subst}
use Rattle.lower_scratch.specs.Rows.{is_set, reads}
use Rattle.lower_scratch.proofs.Looping.{each-behind}
use Rattle.lower_scratch.proofs.edges.reads_fit.Goals as goal

pub returns-in-LoadAt : goal.returns-in-LoadAt
returns-in-LoadAt c = λ set d h.
    each-behind (λ k. is_set c.args.kept c.args.body.now c.args.place k ≡ true) c.in-LoadAt.cell c.in-LoadAt.count (c.are_set.ensures set) d
    (subst (λ i. reads i d ≡ true) c.in-LoadAt.is h)

pub returns-in-Copy : goal.returns-in-Copy
returns-in-Copy c = λ set d h.
    each-behind (λ k. is_set c.args.kept c.args.body.now c.args.place k ≡ true) c.in-Copy.from c.in-Copy.count (c.are_set-in-Copy.ensures set) d
    (subst (λ i. reads i d ≡ true) c.in-Copy.is h)

pub returns-in-CopyTo : goal.returns-in-CopyTo
returns-in-CopyTo c = λ set d h.
    each-behind (λ k. is_set c.args.kept c.args.body.now c.args.place k ≡ true) c.in-CopyTo.from c.in-CopyTo.count (c.are_set-in-CopyTo.ensures set) d
    (subst (λ i. reads i d ≡ true) c.in-CopyTo.is h)

pub returns-in-CopyFrom : goal.returns-in-CopyFrom
returns-in-CopyFrom c = λ set d h.
    each-behind (λ k. is_set c.args.kept c.args.body.now c.args.place k ≡ true) c.in-CopyFrom.from c.in-CopyFrom.count (c.are_set-in-CopyFrom.ensures set) d
    (subst (λ i. reads i d ≡ true) c.in-CopyFrom.is h)
