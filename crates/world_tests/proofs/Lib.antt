-- Index data made after a part of a history are of the world of all of it
pub mod LateLemmas
