pub mod Tables
pub mod FilledRows
pub mod ClassesTaken
pub mod ClassVotes
pub mod RoundSteps
pub mod VotedDown
pub mod LastRound
