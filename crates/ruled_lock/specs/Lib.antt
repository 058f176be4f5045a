-- Histories of events; the rule of the lock's table; what each step on it, and so each call, tells
pub mod Events
pub mod Law
pub mod Plays
