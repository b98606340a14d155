-- How a command is answered, by whether its report was put.
use Rattle.std.proofs.Common.{◌≡◌, ⊎_elim, ℕ, List, refl, sym, subst}
use Rattle.rvc_io.specs.Channels.{WritesOnlyAt}
use Rattle.network_check.specs.declared.fault.BuildFault.{BuildFault}
use Rattle.network_check.specs.declared.fault.BuildFault.TheVariants as build
use Rattle.cmd_report.specs.About.{About}
use Rattle.cmd_report.specs.Report.{last_line, report}
use Rattle.cmd_report.specs.declared.status.Status.{Status}
use Rattle.cmd_network.specs.Answers.{IsAnswered, is_reported, is_unreported}
use Rattle.cmd_network.specs.Commands.{Command}
use Rattle.cmd_network.specs.Steps.{IsPut, status_of_build}

-- a report of a network that isn't given is its last line
pub last_alone : (lines : List ℕ) (about : About) (why : BuildFault) → last_line about (status_of_build why) ≡ report lines about (status_of_build why)
last_alone lines about (build.Refused r) = refl
last_alone lines about (build.ReadFault file) = refl
last_alone lines about build.Memory = refl

-- a report that was put, or couldn't be, wrote on no other channel
pub put_alone : (cmd : Command) (said answer : Status) (text : List ℕ) → IsPut said text cmd.channels cmd.channels_after answer → WritesOnlyAt 0 cmd.channels cmd.channels_after
put_alone cmd said answer text put = ⊎_elim (λ put. put.1.alone) (λ put. put.1.alone) put

-- what a verb came to, with its report, is the answer
pub put_answered : (Comes : Command → Status → List ℕ → About → Type 0) (cmd : Command) (said answer : Status) (lines : List ℕ) (about : About)
    → (WritesOnlyAt 0 cmd.channels cmd.channels_after → Comes cmd said lines about)
    → IsPut said (report lines about said) cmd.channels cmd.channels_after answer → IsAnswered Comes cmd answer
put_answered Comes cmd said answer lines about comes put = ⊎_elim
    (λ put. subst (IsAnswered Comes cmd) (sym put.0) (is_reported lines about (comes put.1.alone) put.1.whole))
    (λ put. subst (IsAnswered Comes cmd) (sym put.0) (is_unreported said lines about (comes put.1.alone) put.1.front put.1.counted))
    put

-- .. and so it is with the last line alone, if that is the report
pub line_answered : (Comes : Command → Status → List ℕ → About → Type 0) (cmd : Command) (said answer : Status) (lines : List ℕ) (about : About)
    → last_line about said ≡ report lines about said
    → (WritesOnlyAt 0 cmd.channels cmd.channels_after → Comes cmd said lines about)
    → IsPut said (last_line about said) cmd.channels cmd.channels_after answer → IsAnswered Comes cmd answer
line_answered Comes cmd said answer lines about same comes put =
    put_answered Comes cmd said answer lines about comes
    (subst (λ text. IsPut said text cmd.channels cmd.channels_after answer) same put)
