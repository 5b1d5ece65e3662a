mod Endings
mod Interleaved
mod Keeping
mod Mirrored
mod Recovering
mod RunEnds
mod SlavesHeld
