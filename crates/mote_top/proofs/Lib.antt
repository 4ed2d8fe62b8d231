-- replies, and what they promise
pub mod replies
-- the words of commands
pub mod commands
