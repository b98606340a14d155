pub mod LikeTraces
