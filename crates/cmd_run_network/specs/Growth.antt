-- How far links may grow together: the rule of grown capacities, which is broken if the capacities, each inner link's raised
-- to the limit of growth, add to too much.
-- Trusted: part of what a promise means.
use Rattle.std.specs.Prelude.{◌≡◌, ℕ, ◌+◌, ◌<◌, ◌||◌, max, List, [], ◌∷◌, if◌then◌else◌}
use Rattle.rvc_base.specs.Rules.{grown_too_much}
use Rattle.rvc_base.specs.declared.refusal.Refusal.{Refusal}
use Rattle.net_model.specs.declared.wiring.Link.{Link}
use Rattle.net_model.specs.Network.{is_input, is_output}
use Rattle.fnl_flatten.specs.Links.{max_capacity}

-- how much a link can hold once it has grown to the limit: only a link between two leaves grows
abbrev pub grown_capacity : ℕ → Link → ℕ
grown_capacity grow link =
    if is_input link || is_output link then link.capacity else max link.capacity grow

-- .. and all links together
abbrev pub grown_capacities : ℕ → List Link → ℕ
grown_capacities grow [] = 0
grown_capacities grow (link ∷ links) = grown_capacity grow link + grown_capacities grow links

-- Links may grow, and would hold too much then.
pub record GrowTooFar (links : List Link) (grow : ℕ) : Type 0 where
  pub may_grow : 0 < grow
  pub too_much : max_capacity < grown_capacities grow links

-- the refusal is of this rule, at the command line
pub record IsGrownTooMuch (r : Refusal) : Type 0 where
  pub rule : r.rule ≡ grown_too_much
  pub file : r.place.file ≡ 0
  pub offset : r.place.offset ≡ 0
