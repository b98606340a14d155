-- A network that is opened by the code.
use Rattle.std.proofs.Common.{◌≡◌, ℕ, Bool, true, false, List, [], ◌∷◌, ◌++◌, length, map, refl, sym, ap, subst, ◌∙◌}
use Rattle.rvc_base.specs.declared.refusal.Front.{Front}
use Rattle.cal_check.specs.Actors.{given_wrongly}
use Rattle.cal_check.specs.Variables.{found_in}
use Rattle.cal_check.specs.Violations.{said}
use Rattle.fnl_tree.specs.View.{own_of, wire_of}
use Rattle.fnl_bind.specs.Library.{params_of}
use Rattle.fnl_bind.specs.Networks.{Place, behind_decls, decls_at, names_at, net_with, own_found, valued_at, values_found}
use Rattle.fnl_bind.specs.Scopes.{scope_broken}
use Rattle.check_given.specs.Causes.{IsCause}
use Rattle.fnl_values.specs.Evaluated.{HasParts, alone}
use Rattle.fnl_values.specs.Visiting.{visit_of}
use Rattle.fnl_values.specs.declared.network.NetValues.{NetValues}
use Rattle.fnl_walk.proofs.Circles.{conforms, values_cause, visits_free}
use Rattle.fnl_walk.specs.Opening.{bare_net, with_class, with_net}
use Rattle.fnl_walk.specs.Steps.{Opens, opened}
use Rattle.fnl_walk.specs.Walk.{Walk}

-- the same network, whatever stands round it
abbrev alone_of : Place → Place
alone_of p = alone p.entry.file p.entry.net p.given p.owner

behind_alone : (b : Bool) (p : Place) → behind_decls b (alone_of p) ≡ behind_decls b p
behind_alone true p = refl
behind_alone false p = refl

pub found_alone : (p : Place) → values_found (alone p.entry.file p.entry.net p.given p.owner) ≡ values_found p
found_alone p =
    ap (λ vs. given_wrongly p.given [] (params_of (decls_at p)) ++ ((valued_at p).breaks ++ found_in p.entry.file (said (valued_at p).useless vs)))
    (behind_alone (valued_at p).whole p)

bare_is : (p : Place) (v : NetValues) → HasParts v p.entry.file p.entry.net (names_at p) → bare_net p.entry.file p.path v ≡ net_with p []
bare_is p v h =
    ap (λ es. record { file = p.entry.file; path = p.path; ins = es; outs = map own_of v.outs.items; parts = []; wires = map wire_of v.wires.items }) h.ins
    ∙ ap (λ es. record { file = p.entry.file; path = p.path; ins = (net_with p []).ins; outs = es; parts = []; wires = map wire_of v.wires.items }) h.outs
    ∙ ap (λ ws. record { file = p.entry.file; path = p.path; ins = (net_with p []).ins; outs = (net_with p []).outs; parts = []; wires = ws }) h.wires

pub opens_so : (levels : ℕ) (p : Place) (class : List ℕ) (old new : Walk) (v : NetValues) → p.above ≡ class ∷ old.above → scope_broken p.entry.net p.entry.class p.above ≡ []
    → values_found (alone p.entry.file p.entry.net p.given p.owner) ≡ [] → HasParts v p.entry.file p.entry.net (names_at p)
    → new ≡ with_net (opened p.entry.file (length old.grown.nets) p.path levels (map visit_of v.visits.items)) (bare_net p.entry.file p.path v) (with_class class old)
    → Opens levels p old new
opens_so levels p class old new v above scope values parts is = record {
  conforms = conforms p scope (sym (found_alone p) ∙ values);
  visits = map visit_of v.visits.items;
  are_visits = parts.visits;
  no_circle = visits_free p (names_at p) (map visit_of v.visits.items) scope parts.visits;
  is = is
      ∙ ap (λ cs. record {
        open_nets = opened p.entry.file (length old.grown.nets) p.path levels (map visit_of v.visits.items) ∷ old.open_nets;
        above = cs;
        grown = record { nets = old.grown.nets ++ bare_net p.entry.file p.path v ∷ []; leaves = old.grown.leaves };
      }) (sym above)
      ∙ ap (λ n. record {
        open_nets = opened p.entry.file (length old.grown.nets) p.path levels (map visit_of v.visits.items) ∷ old.open_nets;
        above = p.above;
        grown = record { nets = old.grown.nets ++ n ∷ []; leaves = old.grown.leaves };
      }) (bare_is p v parts);
}

pub values_refused : (p : Place) (f : Front) → scope_broken p.entry.net p.entry.class p.above ≡ [] → IsCause f (values_found (alone p.entry.file p.entry.net p.given p.owner)) → IsCause f (own_found p)
values_refused p f scope c = values_cause p f scope (subst (IsCause f) (found_alone p) c)
