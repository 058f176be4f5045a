-- What a worker may do under the lock, and what its calls do
pub mod Acts
pub mod Calls
