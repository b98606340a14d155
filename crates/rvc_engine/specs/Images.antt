-- The steps from a network that was checked to an image.
-- Trusted but for `IsAnySource`: part of what a promise means.
use Rattle.std.specs.Prelude.{ℕ, List}
use Rattle.cal_model.specs.Actor.{Actor}
use Rattle.cal_model.specs.Selection.{State}
use Rattle.net_model.specs.Network.{Network}
use Rattle.fnl_source.specs.Source.{Files}
use Rattle.rvc_engine.specs.Built.{HasImage}
use Rattle.network_check.specs.Checked.{HasSource}
use Rattle.network_check.specs.declared.checked.Checked.{Checked}
use Rattle.rvc_engine.specs.declared.image.Image.{Image}

-- the image is that of this network
pub record MeansNet (image : Image) (net : Network State) : Type 0 where
  pub actors : List Actor
  pub has : HasImage image actors net

-- ---- what is known of files and what was checked of them

-- it is the network of some class
pub record IsAnySource (files : Files) (checked : Checked) : Type 0 where
  pub class : List ℕ
  pub source : HasSource files class checked
