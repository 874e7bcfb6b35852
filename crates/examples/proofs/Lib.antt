-- What rests on the table of examples: the promises at the paper's nets, and the stand-ins that they rule out. Assumes nothing.
pub mod Kept
pub mod StandIns
pub mod StandInLists
pub mod ExactLoads
pub mod StandInLoads
