-- The files of the generator's network: a row of instances, each of which takes a byte and sends one.
-- Trusted: part of what a promise means.
use Rattle.std.specs.Prelude.{ℕ, zero, suc, ◌+◌, ◌-◌, ◌%◌, ◌==◌, List, [], ◌∷◌, ◌++◌, codes, decimal, if◌then◌else◌}
use Rattle.rvc_io.specs.Files.{File}

-- Its actors.

abbrev pub add_text : List ℕ
add_text = codes "package gen; actor Add(int K) uint(size=8) In ==> uint(size=8) Out : action In:[x] ==> Out:[x + K] end end"

abbrev pub flip_text : List ℕ
flip_text = codes "package gen; actor Flip(int K) uint(size=8) In ==> uint(size=8) Out : f: action In:[x] ==> Out:[x ^ K] end g: action In:[x] ==> Out:[x] end schedule fsm s : s (f) --> t; t (g) --> s; end end"

-- Its instances: those with an even number add it, the others flip its bits in every other byte.

abbrev pub class_of : ℕ → List ℕ
class_of k = if k % 2 == 0 then codes "gen.Add" else codes "gen.Flip"

abbrev pub id_text : ℕ → List ℕ
id_text k = codes "<Instance id='a" ++ decimal k ++ codes "'><Class name='"

abbrev pub parameter_text : ℕ → List ℕ
parameter_text k = codes "'/><Parameter name='K'><Expr kind='Literal' literal-kind='Integer' value='" ++ decimal k
    ++ codes "'/></Parameter></Instance>"

abbrev pub instance_text : ℕ → List ℕ
instance_text k = id_text k ++ class_of k ++ parameter_text k

-- the first so many
abbrev pub instances_text : ℕ → List ℕ
instances_text zero = []
instances_text (suc k) = instances_text k ++ instance_text k

-- Its connections: the output of each instance leads to the input of the next one.

abbrev pub from_text : ℕ → List ℕ
from_text k = codes "<Connection src='a" ++ decimal k ++ codes "' src-port='Out'"

abbrev pub to_text : ℕ → List ℕ
to_text k = codes " dst='a" ++ decimal k ++ codes "' dst-port='In'/>"

abbrev pub joins_text : ℕ → List ℕ
joins_text zero = []
joins_text (suc k) = joins_text k ++ (from_text k ++ to_text (k + 1))

-- The network: its ports, which are of bytes, its instances, of which there is at least one, and its connections.

abbrev pub ports_text : List ℕ
ports_text = codes "<XDF name='Top'><Port kind='Input' name='In'><Type name='uint'><Entry kind='Expr' name='size'><Expr kind='Literal' literal-kind='Integer' value='8'/></Entry></Type></Port><Port kind='Output' name='Out'><Type name='uint'><Entry kind='Expr' name='size'><Expr kind='Literal' literal-kind='Integer' value='8'/></Entry></Type></Port>"

abbrev pub connections_text : ℕ → List ℕ
connections_text instances = codes "<Connection src='' src-port='In' dst='a0' dst-port='In'/>"
    ++ joins_text (instances - 1) ++ from_text (instances - 1)

abbrev pub network_text : ℕ → List ℕ
network_text instances = ports_text ++ instances_text instances ++ connections_text instances
    ++ codes " dst='' dst-port='Out'/></XDF>"

-- Its files.

-- the name of the network's file
abbrev pub top_name : List ℕ
top_name = codes "gen/Top.xdf"

unfoldable pub top_file : ℕ → File
top_file instances = record { name = top_name; bytes = network_text instances }

unfoldable pub add_file : File
add_file = record { name = codes "gen/Add.cal"; bytes = add_text }

unfoldable pub flip_file : File
flip_file = record { name = codes "gen/Flip.cal"; bytes = flip_text }

abbrev pub files_of : ℕ → List File
files_of instances = top_file instances ∷ add_file ∷ flip_file ∷ []
