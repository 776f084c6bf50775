-- Read Demand3 first: it says what is proved, Proved proves it. The others are laws of rules' definitions, in their order.
pub mod Demand3
