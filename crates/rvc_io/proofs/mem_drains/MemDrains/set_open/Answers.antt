use Rattle.std.proofs.Common.{◌≡◌, ◌<◌, false, None, length, is_some, get_or, ap, arith}
use Rattle.std.proofs.lemmas.List.{length-map}
use Rattle.std.proofs.lemmas.List.Elements.{All-get_or}
use Rattle.rvc_io.specs.MemDrains.{DrainsState, HasRoom, held_by, held_by_each}
use Rattle.rvc_io.proofs.DrainLemmas.{opened}
use Rattle.rvc_io.proofs.mem_drains.MemDrains.set_open.Goals as goal

pub returns-clause-held : goal.returns-clause-held
returns-clause-held c =
    let channels = c.self.inside.channels.items in
    let same : held_by_each channels ≡ c.args.self.now.held = ap (λ (d : DrainsState). d.held) c.self.view_is in
    let there : c.args.channel < length (held_by_each channels) = rw same c.requires.there in
    let within : c.args.channel < length channels = omega (arith, length-map channels held_by) in
    let was : is_some (get_or (held_by_each channels) c.args.channel None) ≡ false = rw same c.requires.closed in
    let room : HasRoom c.self.inside.room (get_or channels c.args.channel c.index_mut.result.now) = All-get_or (HasRoom c.self.inside.room) channels c.args.channel c.index_mut.result.now within c.self.invariant.1 in
    let here : HasRoom c.self.inside.room c.index_mut.result.now = rw c.index_mut.ensures.value room in
    rw (← c.self.view_is) (opened channels c.args.channel c.index_mut.result.now within c.index_mut.ensures.value was here.closed_holds_nothing)
