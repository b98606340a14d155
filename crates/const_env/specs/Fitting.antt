-- Lists whose items are of one kind, and counts up to one more than the limit.
-- Not trusted: no promise is read with it.
use Rattle.std.specs.Prelude.{ℕ, suc, ◌&&◌, List, Option, None, Some, nat_le, if◌then◌else◌}
use Rattle.cal_model.specs.Actor.{Local}
use Rattle.cal_model.specs.Value.{Kind, kind_of_type, max_list_scalars}
use Rattle.cal_model.specs.Kinding.{Judged, Fine, and_so, all_like, all_same, one_kind}
use Rattle.const_env.specs.declared.kinds.Fit.{Fit}

-- whether kinds are like another one, and the same
abbrev pub fit_of : Kind → List Kind → Fit
fit_of k ks = record { like = all_like k ks; same = all_same k ks }

abbrev pub both_fit : Fit → Fit → Fit
both_fit f g = record { like = f.like && g.like; same = f.same && g.same }

-- an argument of a kind stands for its formal, if there is one
abbrev pub formal_fits : Option Local → Kind → ℕ → Judged (Unit {0})
formal_fits None k at = Fine tt
formal_fits (Some x) k at = and_so (one_kind (kind_of_type x.shape) k at) (λ l. Fine tt)

-- a count, or one more than the limit of a list if it is more
abbrev pub capped : ℕ → ℕ
capped n = if nat_le n max_list_scalars then n else suc max_list_scalars
