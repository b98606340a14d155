-- A header that breaks no rule.
use Rattle.std.proofs.Common.{◌≡◌, ◌≤◌, List, [], length, map, sym, ap, subst, ◌∙◌}
use Rattle.std.specs.Prelude.{Some}
use Rattle.std.proofs.lemmas.List.{length-map}
use Rattle.cal_model.specs.Actor.{Port}
use Rattle.cal_model.specs.Kinding.{Names}
use Rattle.cal_model.specs.Sound.{max_ports}
use Rattle.cal_model.specs.View.{port_view}
use Rattle.cal_model.specs.declared.bound.Port.{Port as Bound}
use Rattle.cal_check.specs.Actors.{Source, ins_of, outs_of, place_of}
use Rattle.cal_check.specs.Laws.{HeadersAreSound, IsHeader}
use Rattle.cal_check.specs.Ports.{each_port, header_broken}
use Rattle.cal_check.specs.Variables.{found_in}
use Rattle.cal_check.specs.Violations.{all_fine}
use Rattle.check_variable.specs.declared.header.Header.{Header}
use Rattle.check_actor.specs.Phases.{IsHeaderOf}

some_same : {A : Type 0} (x y : A) → Some x ≡ Some y → x ≡ y
some_same x y e = cc

few : (xs : List Port) (found : List Bound) → Some xs ≡ Some (map port_view found) → length xs ≤ max_ports → length found ≤ max_ports
few xs found e h =
    subst (λ n. n ≤ max_ports) (ap (λ ys. length ys) (some_same xs (map port_view found) e) ∙ length-map found port_view) h

pub header_is : (h : Header) (s : Source) (names : Names) → HeadersAreSound → header_broken (ins_of s.actor) (outs_of s.actor) (place_of s.actor) names ≡ []
    → all_fine (each_port (ins_of s.actor) names) ≡ Some (map port_view h.ins.items) → all_fine (each_port (outs_of s.actor) names) ≡ Some (map port_view h.outs.items)
    → IsHeaderOf h s names
header_is h s names law fine ins outs = go (law (ins_of s.actor) (outs_of s.actor) (place_of s.actor) names fine)
  where
    go : (xs : List Port) × (ys : List Port) × (all_fine (each_port (ins_of s.actor) names) ≡ Some xs)
        × (all_fine (each_port (outs_of s.actor) names) ≡ Some ys) × IsHeader xs ys → IsHeaderOf h s names
    go (xs, ys, i, o, sound) = record {
      fine = ap (found_in s.file) fine;
      ins = ins;
      outs = outs;
      few_ins = few xs h.ins.items (sym i ∙ ins) sound.few_ins;
      few_outs = few ys h.outs.items (sym o ∙ outs) sound.few_outs;
    }
