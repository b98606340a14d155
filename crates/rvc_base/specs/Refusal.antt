-- The printed names of rules.
-- Trusted: part of what a promise means.
use Rattle.std.specs.Prelude.{ℕ, ◌/◌, ◌%◌, ◌++◌, List, codes, decimal, take, drop, min}
use Rattle.rvc_base.specs.declared.refusal.Rule.{Rule}

-- the letter of a group of rules, which its hundred gives; port words have all that is beside the other groups
abbrev pub letter_of_group : ℕ → List ℕ
letter_of_group g = take 1 (drop (min g 9) (codes "PLGSTAZFNP"))

-- the letter of a rule's group and the rule's number in it
abbrev pub rule_text : Rule → List ℕ
rule_text r = letter_of_group (r.0 / 100) ++ decimal (r.0 % 100)
