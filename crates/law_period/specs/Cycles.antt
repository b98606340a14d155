-- Ways along links on which tokens are needed.
-- Trusted: part of what a promise means.
use Rattle.std.specs.Prelude.{ℕ, ◌<◌, List, Contains}
use Rattle.balanced_rates.specs.declared.link.RatedLink.{RatedLink}

-- a way of one such link or more leads from a leaf to another; if they are one, it is a cycle
pub data Leads (links : List RatedLink) : ℕ → ℕ → Type 0 where
  by_link : (link : RatedLink) → Contains links link → 0 < link.need
      → Leads links link.writer link.reader
  further : (leaf : ℕ) (link : RatedLink) → Contains links link → 0 < link.need
      → Leads links leaf link.writer → Leads links leaf link.reader
