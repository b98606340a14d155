-- How a command ends, from what the engine and the port words answer.
use Rattle.std.proofs.Common.{◌≡◌, ℕ, List, [], ◌∷◌, length, map, refl, sym, ap, ◌∙◌}
use Rattle.std.specs.Prelude.{string_bytes}
use Rattle.std.proofs.lemmas.List.{length-map}
use Rattle.rvc_base.specs.declared.refusal.Refusal.{Refusal}
use Rattle.cal_files.specs.Views.{file_names}
use Rattle.cal_files.specs.declared.names.Names.{Names}
use Rattle.cal_model.specs.Actor.{Actor}
use Rattle.cal_model.specs.Selection.{State}
use Rattle.fnl_flatten.specs.declared.flat.Flat.{Flat}
use Rattle.check_leaves.specs.Leaves.{actors_at_leaves}
use Rattle.net_model.specs.Network.{Network}
use Rattle.net_model.specs.Ready.{port_of}
use Rattle.net_model.specs.declared.wiring.Port.{Port}
use Rattle.cmd_ports.specs.Matching.{AreMatched, IsWrongWord, names_of}
use Rattle.cmd_report.specs.Report.{size_lines}
use Rattle.cmd_report.specs.declared.status.Status.TheVariants as status
use Rattle.network_check.specs.Checked.{IsChecked, IsNetworkOf}
use Rattle.network_check.specs.Refused.{IsFault}
use Rattle.network_check.specs.declared.checked.Checked.{Checked}
use Rattle.network_check.specs.declared.fault.BuildFault.{BuildFault}
use Rattle.network_check.specs.declared.fault.BuildFault.TheVariants as fault
use Rattle.fnl_source.specs.Answers.{HasWiring}
use Rattle.cmd_network.specs.Answers.{by_files, by_words}
use Rattle.cmd_network.specs.Commands.{Command, HasFiles, OpenedNothing, about_files, about_net, port_names, top_of, words_of}
use Rattle.cmd_network.specs.Steps.{status_of_build}
use Rattle.cmd_check.specs.Ends.{Comes, Conformed}
use Rattle.cmd_check.specs.Steps.{about_checked}

-- ---- the network that was checked

own_names : (ports : List Port) → port_names (map port_of ports) ≡ names_of ports
own_names [] = refl
own_names (p ∷ ports) = ap (λ names. string_bytes p.name ∷ names) (own_names ports)

-- the names of its inputs, and those of its outputs
in_names : (flat : Flat) (net : Network State) → HasWiring flat net → port_names net.ins ≡ names_of flat.ins.items
in_names flat net h = ap port_names h.ins ∙ own_names flat.ins.items

out_names : (flat : Flat) (net : Network State) → HasWiring flat net → port_names net.outs ≡ names_of flat.outs.items
out_names flat net h = ap port_names h.outs ∙ own_names flat.outs.items

leaf_count : (actors : List Actor) (flat : Flat) (net : Network State) → IsNetworkOf actors flat net → length flat.paths.items ≡ length net.leaves
leaf_count actors flat net is =
    sym (length-map flat.paths.items string_bytes) ∙ ap length (sym is.paths_are) ∙ length-map net.leaves (λ leaf. leaf.path)

-- what a report speaks of, by its parts
about_same : (cmd : Command) (names : List (List ℕ)) (net : Network State) (c : Checked) (n : ℕ) → n ≡ length net.leaves → c.flat.links.items ≡ net.links
    → names_of c.flat.ins.items ≡ port_names net.ins → names_of c.flat.outs.items ≡ port_names net.outs
    → record { files = names; trace = string_bytes cmd.job.trace; words = words_of cmd; instances = n; links = c.flat.links.items; ins = names_of c.flat.ins.items; outs = names_of c.flat.outs.items }
    ≡ about_net cmd names net
about_same cmd names net c n a b d e = λ i. record { files = names; trace = string_bytes cmd.job.trace; words = words_of cmd; instances = a i; links = b i; ins = d i; outs = e i }

about_is : (cmd : Command) (names : Names) (c : Checked) (net : Network State) → IsNetworkOf (actors_at_leaves c.actors) c.flat net
    → about_checked c names cmd.job ≡ about_net cmd (file_names names) net
about_is cmd names c net is = about_same cmd (file_names names) net c (length c.flat.paths.items)
    (leaf_count (actors_at_leaves c.actors) c.flat net is)
    (sym is.wiring.links) (sym (in_names c.flat net is.wiring)) (sym (out_names c.flat net is.wiring))

abbrev has_files : (cmd : Command) (names : List (List ℕ)) (c : Checked) → (h : IsChecked cmd.library (top_of cmd) names c) → HasFiles cmd h.source.net
has_files cmd names c h = record { names = names; reads = h.reads; are_read = h.are_read; means = h.source.means }

-- ---- what it comes to

pub conformed : (cmd : Command) (names : Names) (c : Checked) → AreMatched [] (words_of cmd) → IsChecked cmd.library (top_of cmd) (file_names names) c
    → Conformed cmd (size_lines (about_checked c names cmd.job)) (about_checked c names cmd.job)
conformed cmd names c matched h = record {
  net = h.source.net;
  is_of_command = record {
    files = has_files cmd (file_names names) c h;
    matched = matched;
    conforms = record {
      means = record { reads = h.reads; are_loaded = h.are_read.are_loaded; means = h.source.means };
      matched = matched;
    };
  };
  about_is = about_is cmd names c h.source.net h.source.has_net.is_net;
  lines_are = refl;
}

pub wrong : (cmd : Command) (names : List (List ℕ)) (c : Checked) (r : Refusal) (lines : List ℕ) → IsWrongWord [] (words_of cmd) r
    → IsChecked cmd.library (top_of cmd) names c → OpenedNothing cmd → Comes cmd (status.Refused r) lines (about_files cmd names)
wrong cmd names c r lines is h nothing = (by_words names h.source.net (record { files = has_files cmd names c h; names_are = refl; wrong = is }), nothing)

pub failed : (cmd : Command) (names : List (List ℕ)) (f : BuildFault) (lines : List ℕ) → IsFault cmd.library (top_of cmd) cmd.misses cmd.faults names f
    → OpenedNothing cmd → Comes cmd (status_of_build f) lines (about_files cmd names)
failed cmd names (fault.Refused r) lines h nothing = (by_files names (record { why = h }), nothing)
failed cmd names (fault.ReadFault file) lines h nothing = (record { counted = h.0; names = names; told = h.1; about_is = refl }, nothing)
failed cmd names fault.Memory lines h nothing = nothing
