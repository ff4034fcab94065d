pub mod SmallVotes
