-- What is said of an answer by its case.
-- Trusted: part of what a promise means.
use Rattle.std.specs.Prelude.{ℕ, ℤ}
use Rattle.port_files.specs.declared.feed.Next.{Next}
use Rattle.port_files.specs.declared.feed.Next.TheVariants.{Token, End, Failed}

abbrev pub IfToken : Next → (ℤ → Type 0) → Type 0
IfToken (Token v) P = P v
IfToken (End rest) P = Unit {0}
IfToken Failed P = Unit {0}

abbrev pub IfEnd : Next → (ℕ → Type 0) → Type 0
IfEnd (Token v) P = Unit {0}
IfEnd (End rest) P = P rest
IfEnd Failed P = Unit {0}

abbrev pub OnFailed : Next → Type 0 → Type 0
OnFailed (Token v) P = Unit {0}
OnFailed (End rest) P = Unit {0}
OnFailed Failed P = P
