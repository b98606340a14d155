-- Changes one after another.
use Rattle.std.proofs.Common.{ℕ, ◌∙◌, refl, arith}
use Rattle.rvc_io.specs.Channels.{Channels, WritesOnlyAt}

pub writes-only-nothing : {channel : ℕ} {channels : Channels} → WritesOnlyAt channel channels channels
writes-only-nothing = record {
  same_telling = refl;
  same_held = λ told other away. refl;
  same_open = λ other. refl;
  faults_stay = omega arith;
}

pub writes-only-then : {channel : ℕ} {old now new : Channels}
    → WritesOnlyAt channel old now → WritesOnlyAt channel now new → WritesOnlyAt channel old new
writes-only-then first second = record {
  same_telling = second.same_telling ∙ first.same_telling;
  same_held = λ told other away.
      second.same_held (first.same_telling ∙ told) other away ∙ first.same_held told other away;
  same_open = λ other. second.same_open other ∙ first.same_open other;
  faults_stay = omega (arith, first.faults_stay, second.faults_stay);
}
