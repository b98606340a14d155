-- How a command ends, from what the engine, the port words and the certification rule answer.
use Rattle.std.proofs.Common.{ℕ, List, [], refl, sym, ap, subst}
use Rattle.rvc_base.specs.declared.refusal.Refusal.{Refusal}
use Rattle.cal_model.specs.Laws.{SoundHavePriorities}
use Rattle.determinacy_cert.specs.Certifying.{NoFailureWhereCertified}
use Rattle.check_leaves.specs.Leaves.{actors_at_leaves}
use Rattle.cmd_ports.specs.Matching.{AreMatched, IsWrongWord}
use Rattle.cmd_report.specs.About.{About}
use Rattle.cmd_report.specs.Report.{certified_line}
use Rattle.cmd_report.specs.declared.status.Status.{Status}
use Rattle.cmd_report.specs.declared.status.Status.TheVariants as status
use Rattle.network_check.specs.Checked.{IsChecked}
use Rattle.network_check.specs.Refused.{IsFault}
use Rattle.network_check.specs.declared.checked.Checked.{Checked}
use Rattle.network_check.specs.declared.fault.BuildFault.{BuildFault}
use Rattle.network_check.specs.declared.fault.BuildFault.TheVariants as fault
use Rattle.cmd_network.specs.Answers.{by_files, by_words}
use Rattle.cmd_network.specs.Commands.{Command, HasFiles, OpenedNothing, about_files, count_none, top_of, words_of}
use Rattle.cmd_network.specs.Steps.{status_of_build}
use Rattle.cmd_certify.specs.Ends.{Comes, Judged, SoManyCertified, actors_of}
use Rattle.cmd_certify.specs.Steps.{IsVerdict}
use Rattle.cmd_certify.specs.declared.judging.Verdict.{Verdict}
use Rattle.cmd_certify.proofs.Deciding.{Outcome, decided}
use Rattle.cmd_certify.proofs.Leaves.{so_many}

abbrev has_files : (cmd : Command) (names : List (List ℕ)) (c : Checked) → (h : IsChecked cmd.library (top_of cmd) names c) → HasFiles cmd h.source.net
has_files cmd names c h = record { names = names; reads = h.reads; are_read = h.are_read; means = h.source.means }

-- ---- what it comes to

abbrev judged : SoundHavePriorities → NoFailureWhereCertified → (cmd : Command) (names : List (List ℕ)) (c : Checked) (v : Verdict)
    → AreMatched [] (words_of cmd)
    → (h : IsChecked cmd.library (top_of cmd) names c) → IsVerdict (actors_at_leaves c.actors) v → Judged cmd (certified_line v.certified)
judged ordered none cmd names c v matched h is = record {
  net = h.source.net;
  is_of_command = record {
    files = has_files cmd names c h;
    matched = matched;
    conforms = record {
      means = record { reads = h.reads; are_loaded = h.are_read.are_loaded; means = h.source.means };
      matched = matched;
    };
  };
  count = count_none is.all;
  counted = subst (λ actors. SoManyCertified actors (count_none is.all)) (sym h.source.same_actors)
      (so_many ordered none (actors_at_leaves c.actors) is.all h.source.has_net.sound is.judged);
  lines_are = ap certified_line is.certified;
}

comes_of : (cmd : Command) (lines : List ℕ) (about : About) (j : Judged cmd lines) (said : Status) → Outcome (actors_of j) said → OpenedNothing cmd → Comes cmd said lines about
comes_of cmd lines about j status.Done h nothing = (record { judged = j; each = h }, nothing)
comes_of cmd lines about j (status.Uncertified inst state a b reason) h nothing = (record { judged = j; fails = h }, nothing)
comes_of cmd lines about j status.OutOfMemory h nothing = absurd h
comes_of cmd lines about j (status.ReadFault at) h nothing = absurd h
comes_of cmd lines about j (status.WriteFault channel) h nothing = h
comes_of cmd lines about j (status.Refused r) h nothing = absurd h
comes_of cmd lines about j status.Quiet h nothing = h
comes_of cmd lines about j (status.Trapped inst action trap) h nothing = h
comes_of cmd lines about j (status.Stalled inst action link) h nothing = h
comes_of cmd lines about j (status.Budget firings) h nothing = h
comes_of cmd lines about j (status.Usage cause) h nothing = h
comes_of cmd lines about j (status.NotRun number why) h nothing = h

pub comes : SoundHavePriorities → NoFailureWhereCertified → (cmd : Command) (names : List (List ℕ)) (c : Checked) (v : Verdict) (about : About)
    → AreMatched [] (words_of cmd)
    → IsChecked cmd.library (top_of cmd) names c → IsVerdict (actors_at_leaves c.actors) v → OpenedNothing cmd
    → Comes cmd v.said (certified_line v.certified) about
comes ordered none cmd names c v about matched h is nothing =
    comes_of cmd (certified_line v.certified) about (judged ordered none cmd names c v matched h is) v.said
    (subst (λ actors. Outcome actors v.said) (sym h.source.same_actors)
    (subst (Outcome (actors_at_leaves c.actors)) (sym is.said)
    (decided ordered none [] (actors_at_leaves c.actors) is.all tt h.source.has_net.sound is.judged))) nothing

pub wrong : (cmd : Command) (names : List (List ℕ)) (c : Checked) (r : Refusal) (lines : List ℕ) → IsWrongWord [] (words_of cmd) r
    → IsChecked cmd.library (top_of cmd) names c → OpenedNothing cmd → Comes cmd (status.Refused r) lines (about_files cmd names)
wrong cmd names c r lines is h nothing = (by_words names h.source.net (record { files = has_files cmd names c h; names_are = refl; wrong = is }), nothing)

pub failed : (cmd : Command) (names : List (List ℕ)) (f : BuildFault) (lines : List ℕ) → IsFault cmd.library (top_of cmd) cmd.misses cmd.faults names f
    → OpenedNothing cmd → Comes cmd (status_of_build f) lines (about_files cmd names)
failed cmd names (fault.Refused r) lines h nothing = (by_files names (record { why = h }), nothing)
failed cmd names (fault.ReadFault file) lines h nothing = (record { counted = h.0; names = names; told = h.1; about_is = refl }, nothing)
failed cmd names fault.Memory lines h nothing = nothing
