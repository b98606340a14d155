-- What the links of sound trees are.
-- Trusted: part of what a promise means.
use Rattle.std.specs.Prelude.{◌≡◌, List, []}
use Rattle.net_model.specs.declared.wiring.Link.{Link}
use Rattle.fnl_tree.specs.Tree.{Tree}
use Rattle.fnl_tree.specs.Sound.{IsSound}
use Rattle.fnl_flatten.specs.Head.{Head}
use Rattle.fnl_flatten.specs.Links.{IsLink, AreLinks}
use Rattle.fnl_flatten.specs.Rules.{violations}

-- a tree has one list of links
abbrev pub LinksAreOne : Type 0
LinksAreOne = (tree : Tree) (heads : List Head) (links others : List Link)
    → AreLinks tree heads links → AreLinks tree heads others → links ≡ others

-- one link leads to each reading end
abbrev pub OneLinkLeads : Type 0
OneLinkLeads = (tree : Tree) (heads : List Head) (link other : Link)
    → IsSound tree → violations tree heads ≡ [] → IsLink tree heads link → IsLink tree heads other
    → link.to ≡ other.to → link ≡ other
