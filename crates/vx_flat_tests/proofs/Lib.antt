pub mod EveryView
pub mod WorkedMessages
