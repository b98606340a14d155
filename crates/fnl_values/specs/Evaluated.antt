-- What the evaluation of a network answers.
-- Trusted: part of what a promise means.
use Rattle.std.specs.Prelude.{◌≡◌, ℕ, true, false, List, [], map}
use Rattle.std.specs.declared.result.Result.{Result}
use Rattle.std.specs.declared.result.Result.TheVariants.{Ok, Err}
use Rattle.rvc_base.specs.declared.refusal.Front.{Front}
use Rattle.cal_check.specs.Variables.{Spot, Given}
use Rattle.fnl_read.specs.Net.{Net}
use Rattle.cal_model.specs.Kinding.{Names}
use Rattle.fnl_tree.specs.View.{own_of, wire_of}
use Rattle.fnl_bind.specs.Library.{ports_of}
use Rattle.fnl_bind.specs.Values.{ends_of, wires_of}
use Rattle.fnl_bind.specs.Networks.{Place, names_at, values_found}
use Rattle.check_given.specs.Causes.{IsCause}
use Rattle.fnl_values.specs.Visiting.{AreVisits, visit_of}
use Rattle.fnl_values.specs.declared.network.NetValues.{NetValues}

-- a network with the values that it is given, whatever stands round it
abbrev pub alone : ℕ → Net → List Given → Spot → Place
alone file net given owner = record {
  entry = record { class = []; file = file; net = net };
  given = given;
  owner = owner;
  above = [];
  path = [];
}

-- its ports, its connections with their sizes, and its instances with what they are given
pub record HasParts (v : NetValues) (file : ℕ) (net : Net) (names : Names) : Type 0 where
  pub ins : map own_of v.ins.items ≡ ends_of (ports_of true net.ports) names
  pub outs : map own_of v.outs.items ≡ ends_of (ports_of false net.ports) names
  pub wires : map wire_of v.wires.items ≡ wires_of net.connections names
  pub visits : AreVisits file names net.instances (map visit_of v.visits.items)

-- what a network has, whose values break no rule; or else a rule that they break
abbrev pub Evaluates : Result NetValues Front → Place → Type 0
Evaluates (Ok v) p =
    (values_found p ≡ []) × HasParts v p.entry.file p.entry.net (names_at p)
Evaluates (Err f) p = IsCause f (values_found p)
