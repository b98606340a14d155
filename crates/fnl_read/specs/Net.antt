-- A network as it was read: the words of `fnl_frames`, for those who read networks.
-- Trusted: part of what a promise means.
pub use Rattle.fnl_frames.specs.Net.{Net, Port, a_port, Decl, a_decl, Parameter, a_parameter}
pub use Rattle.fnl_frames.specs.Net.{Instance, an_instance, Size, a_size, Connection, a_connection}
